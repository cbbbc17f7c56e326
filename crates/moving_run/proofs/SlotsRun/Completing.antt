-- How the command ends when it meets no fault.
use Rattle.std.proofs.Common.{◌≡◌, inl, inr, ℕ, List, length, Option, Some, None, refl, sym, ap, subst, arith}
use Rattle.moving_run.specs.CommandWords.Ranges.{Range}
use Rattle.sweep.specs.declared.run_parts.status.Status.{Status}
use Rattle.sweep.specs.declared.run_parts.status.Status.TheVariants.{Done, BadCode, ReadFault, WriteFault, Memory, TooLarge, TooFar, RegionFull}
use Rattle.sweep.specs.RunParts.Facts.{ReadFacts}
use Rattle.sweep.specs.RunParts.Reads.{whole_limit, ReadsAll, IsUnread}
use Rattle.moving_run.specs.SlotsRun.Slotting.{IsSlotsRefusal, IsSlotsAnswer, SlotsAs, CompletesSlots}
use Rattle.moving_run.specs.SlotsRun.Facts.{SlotsAnswerFacts}

module _ (range : Range) (base : ℕ) where
  -- a source that was not read whole, after which nothing was written
  pub unread : (left left' held held' : Option (List ℕ)) (source_rose out_rose : Type 0) (status : Status) → held' ≡ held →
      IsUnread left left' source_rose status → SlotsAs range base left left' held held' source_rose out_rose status
  unread left left' held held' source_rose out_rose ReadFault kept h = (h, kept)
  unread left left' held held' source_rose out_rose Memory kept h = kept
  unread left left' held held' source_rose out_rose (TooLarge limit) kept h = (h.0, (h.1, kept))
  unread left left' held held' source_rose out_rose _ kept h = absurd h

  -- a status that tells why, after which nothing was written
  pub refusal : (bytes : List ℕ) (left left' held held' : Option (List ℕ)) (source_rose out_rose : Type 0) (status : Status) →
      ReadsAll whole_limit left left' bytes → held' ≡ held → IsSlotsRefusal range base bytes status →
      SlotsAs range base left left' held held' source_rose out_rose status
  refusal bytes left left' held held' source_rose out_rose Memory reads kept h = kept
  refusal bytes left left' held held' source_rose out_rose (BadCode offset error) reads kept h = ((bytes, (reads, h)), kept)
  refusal bytes left left' held held' source_rose out_rose (RegionFull len largest) reads kept h = ((bytes, (reads, h)), kept)
  refusal bytes left left' held held' source_rose out_rose (TooFar at target) reads kept h = ((bytes, (reads, h)), kept)
  refusal bytes left left' held held' source_rose out_rose _ reads kept h = absurd h

  module _ (facts : ReadFacts) (answers : SlotsAnswerFacts) where
    -- an answer for all bytes
    answered : (bytes : List ℕ) (left' : Option (List ℕ)) (read : List ℕ) (status : Status) → ReadsAll whole_limit (Some bytes) left' read →
        IsSlotsAnswer range base read status → CompletesSlots range base (Some bytes) status
    answered bytes left' read status reads h =
        let same = facts.all_bytes whole_limit bytes left' read reads in
        let within = reads.within in
        let there = subst (λ (xs : List ℕ). IsSlotsAnswer range base xs status) (sym same) h in (
          λ few answer is. inl (answers.answer_unique range base bytes status answer there is),
          λ many. absurd (omega (arith, ap length same)),
        )

    -- **the command that meets no fault answers what its bytes say**
    pub completes : (left left' held held' : Option (List ℕ)) (source_rose out_rose : Type 0) (status : Status) →
        SlotsAs range base left left' held held' source_rose out_rose status → (source_rose → ⊥) → (out_rose → ⊥) →
        CompletesSlots range base left status
    completes left left' held held' source_rose out_rose ReadFault h s o = absurd (s h.0)
    completes left left' held held' source_rose out_rose WriteFault h s o = absurd (o h.0)
    completes None left' held held' source_rose out_rose _ h s o = λ e. elim e [ inl x ↦ cc | inr x ↦ cc ]
    completes (Some bytes) left' held held' source_rose out_rose Done h s o = answered bytes left' h.0 Done h.1.0 (h.1.1.0, h.1.1.1.0)
    completes (Some bytes) left' held held' source_rose out_rose (BadCode offset error) h s o = answered bytes left' h.0.0 (BadCode offset error) h.0.1.0 h.0.1.1
    completes (Some bytes) left' held held' source_rose out_rose (RegionFull len largest) h s o = answered bytes left' h.0.0 (RegionFull len largest) h.0.1.0 h.0.1.1
    completes (Some bytes) left' held held' source_rose out_rose (TooFar at target) h s o = answered bytes left' h.0.0 (TooFar at target) h.0.1.0 h.0.1.1
    completes (Some bytes) left' held held' source_rose out_rose Memory h s o = (λ few answer is. inr refl, λ many. inr refl)
    completes (Some bytes) left' held held' source_rose out_rose (TooLarge limit) h s o =
        let over = facts.too_many whole_limit bytes left' h.1.0.0 h.1.0.1 in (λ few answer is. absurd (omega arith), λ many. inl (ap TooLarge h.0))
    completes (Some bytes) left' held held' source_rose out_rose _ h s o = absurd h
