-- How the command ends, where its source was not read whole.
use Rattle.std.proofs.Common.{◌≡◌, inl, inr, ℕ, List, Option, Some, None, refl, ap, arith}
use Rattle.x86_values.specs.declared.Bits.{Bits}
use Rattle.sweep.specs.declared.run_parts.status.Status.{Status}
use Rattle.sweep.specs.declared.run_parts.status.Status.TheVariants.{ReadFault, Memory, TooLarge}
use Rattle.sweep.specs.RunParts.Facts.{ReadFacts}
use Rattle.sweep.specs.RunParts.Reads.{whole_limit, IsUnread}
use Rattle.listing_run.specs.FlowRun.Flowing.{FlowsAs, CompletesFlow}

-- nothing was written
pub unread : (bits : Bits) (base : ℕ) (left left' held held' : Option (List ℕ)) (source_rose out_rose : Type 0) (status : Status) → held' ≡ held →
    IsUnread left left' source_rose status → FlowsAs bits base left left' held held' source_rose out_rose status
unread bits base left left' held held' source_rose out_rose ReadFault kept h = (h, kept)
unread bits base left left' held held' source_rose out_rose Memory kept h = kept
unread bits base left left' held held' source_rose out_rose (TooLarge limit) kept h = (h.0, (h.1, kept))
unread bits base left left' held held' source_rose out_rose _ kept h = absurd h

-- the command that meets no fault wants memory, or there are too many bytes
pub completes : (facts : ReadFacts) (left left' : Option (List ℕ)) (source_rose : Type 0) (status : Status) → IsUnread left left' source_rose status → (source_rose → ⊥) →
    CompletesFlow left status
completes facts left left' source_rose ReadFault h s = absurd (s h)
completes facts (Some bytes) left' source_rose Memory h s = (λ few. inr refl, λ many. inr refl)
completes facts None left' source_rose Memory h s = inr (inl refl)
completes facts (Some bytes) left' source_rose (TooLarge limit) h s =
    let over = facts.too_many whole_limit bytes left' h.1.0 h.1.1 in (λ few. absurd (omega arith), λ many. inl (ap TooLarge h.0))
completes facts None left' source_rose (TooLarge limit) h s = inr (inr (ap TooLarge h.0))
completes facts left left' source_rose _ h s = absurd h
