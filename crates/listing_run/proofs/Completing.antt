-- How a run ends that meets no fault.
use Rattle.std.proofs.Common.{ℕ, List, Option, Ok, Err, refl}
use Rattle.x86_values.specs.declared.Bits.{Bits}
use Rattle.byte_ports.specs.Ports.{Rose}
use Rattle.text_parts.specs.declared.style.Style.{Style}
use Rattle.sweep.specs.declared.sweep_text.lines.Lines.TheVariants.{Listing}
use Rattle.sweep.specs.declared.run_parts.status.Status.{Status}
use Rattle.sweep.specs.declared.run_parts.status.Status.TheVariants.{Done, BadCode, ReadFault, WriteFault, TooLarge}
use Rattle.sweep.specs.declared.error.StreamError.TheVariants.{BadCode as StreamBadCode, ReadFault as StreamReadFault, WriteFault as StreamWriteFault, TooLarge as StreamTooLarge}
use Rattle.sweep.specs.Facts.{ListingFacts}
use Rattle.listing_run.specs.Outcome.{GoesThroughAs, CompletesList}

-- **a listing that meets no fault comes to the end of its input**
pub completes_list : (ends : ListingFacts) (bits : Bits) (base : ℕ) (syntax : Style) (left left' held held' : Option (List ℕ)) (read read' put put' : ℕ)
    (status : Status) → GoesThroughAs bits base (Listing syntax) left left' held held' (Rose read read') (Rose put put') status →
    (Rose read read' → ⊥) → (Rose put put' → ⊥) →
    CompletesList left status
completes_list ends bits base syntax left left' held held' read read' put put' Done h s o =
    (Ok h.0, (ends.completes_listing bits base syntax left left' held held' read read' put put' (Ok h.0) h.1 s o, refl))
completes_list ends bits base syntax left left' held held' read read' put put' (BadCode offset error) h s o =
    let r = Err (StreamBadCode offset error) in (r, (ends.completes_listing bits base syntax left left' held held' read read' put put' r h s o, refl))
completes_list ends bits base syntax left left' held held' read read' put put' ReadFault h s o =
    let r = Err StreamReadFault in (r, (ends.completes_listing bits base syntax left left' held held' read read' put put' r h s o, refl))
completes_list ends bits base syntax left left' held held' read read' put put' WriteFault h s o =
    let r = Err StreamWriteFault in (r, (ends.completes_listing bits base syntax left left' held held' read read' put put' r h s o, refl))
completes_list ends bits base syntax left left' held held' read read' put put' (TooLarge limit) h s o =
    let r = Err (StreamTooLarge limit) in (r, (ends.completes_listing bits base syntax left left' held held' read read' put put' r h s o, refl))
completes_list ends bits base syntax left left' held held' read read' put put' _ h s o = absurd h
