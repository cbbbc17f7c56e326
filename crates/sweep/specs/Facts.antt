-- What holds of all streams of listings.
use Rattle.std.specs.Prelude.{ℕ, List, Option, Result}
use Rattle.x86_values.specs.declared.Bits.{Bits}
use Rattle.byte_ports.specs.Ports.{Rose}
use Rattle.text_parts.specs.declared.style.Style.{Style}
use Rattle.sweep.specs.declared.sweep_text.lines.Lines.TheVariants.{Listing}
use Rattle.sweep.specs.declared.error.StreamError.{StreamError}
use Rattle.sweep.specs.Streams.{StreamsAs}
use Rattle.sweep.specs.Ends.{CompletesListing}

-- a listing whose source and sink do not fail, by their counts of faults, comes to the end of its input
pub record ListingFacts : Type 0 where
  pub completes_listing : (bits : Bits) (base : ℕ) (syntax : Style) (left left' held held' : Option (List ℕ)) (read read' put put' : ℕ)
      (result : Result ℕ StreamError) → StreamsAs bits base (Listing syntax) left left' held held' (Rose read read') (Rose put put') result →
      (Rose read read' → ⊥) → (Rose put put' → ⊥) → CompletesListing left result
