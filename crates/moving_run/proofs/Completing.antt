-- How a command that moves code ends when it meets no fault.
use Rattle.std.proofs.Common.{inl, inr, ℕ, List, length, Option, Some, None, refl, sym, ap, subst, arith}
use Rattle.x86_values.specs.declared.Bits.{Bits}
use Rattle.moving_run.specs.declared.command_words.commands.BlockWords.{BlockWords}
use Rattle.sweep.specs.declared.run_parts.status.Status.{Status}
use Rattle.sweep.specs.declared.run_parts.status.Status.TheVariants.{Done, BadCode, ReadFault, WriteFault, Memory, TooLarge, Wraps, TooFar, TooMany}
use Rattle.sweep.specs.RunParts.Facts.{ReadFacts}
use Rattle.sweep.specs.RunParts.Reads.{whole_limit, ReadsAll}
use Rattle.moving_run.specs.declared.moving.Wanted.{Wanted}
use Rattle.moving_run.specs.Moving.{IsMovingAnswer, MovesAs, CompletesMoving}
use Rattle.moving_run.specs.Facts.{MovingAnswerFacts}

module _ (facts : ReadFacts) (answers : MovingAnswerFacts) (wanted : Wanted) (bits : Bits) (words : List BlockWords) where
  -- an answer for all bytes
  answered : (bytes : List ℕ) (left' : Option (List ℕ)) (read : List ℕ) (status : Status) → ReadsAll whole_limit (Some bytes) left' read →
      IsMovingAnswer wanted bits words read status → CompletesMoving wanted bits words (Some bytes) status
  answered bytes left' read status reads h =
      let same = facts.all_bytes whole_limit bytes left' read reads in
      let within = reads.within in
      let there = subst (λ (xs : List ℕ). IsMovingAnswer wanted bits words xs status) (sym same) h in (
        λ few answer is. inl (answers.answer_unique wanted bits words bytes status answer there is),
        λ many. absurd (omega (arith, ap length same)),
      )

  -- **a command that meets no fault answers what the code says**
  pub completes : (left left' held held' : Option (List ℕ)) (source_rose out_rose : Type 0) (status : Status) →
      MovesAs wanted bits words left left' held held' source_rose out_rose status → (source_rose → ⊥) → (out_rose → ⊥) →
      CompletesMoving wanted bits words left status
  completes left left' held held' source_rose out_rose ReadFault h s o = absurd (s h.0)
  completes left left' held held' source_rose out_rose WriteFault h s o = absurd (o h.0)
  completes None left' held held' source_rose out_rose _ h s o = λ e. elim e [ inl x ↦ cc | inr x ↦ cc ]
  completes (Some bytes) left' held held' source_rose out_rose Done h s o = answered bytes left' h.0 Done h.1.0 (h.1.1.0, h.1.1.1.0)
  completes (Some bytes) left' held held' source_rose out_rose (BadCode offset error) h s o = answered bytes left' h.0.0 (BadCode offset error) h.0.1.0 h.0.1.1
  completes (Some bytes) left' held held' source_rose out_rose (TooMany count) h s o = answered bytes left' h.0.0 (TooMany count) h.0.1.0 h.0.1.1
  completes (Some bytes) left' held held' source_rose out_rose (Wraps end) h s o = answered bytes left' h.0.0 (Wraps end) h.0.1.0 h.0.1.1
  completes (Some bytes) left' held held' source_rose out_rose (TooFar at target) h s o = answered bytes left' h.0.0 (TooFar at target) h.0.1.0 h.0.1.1
  completes (Some bytes) left' held held' source_rose out_rose Memory h s o = (λ few answer is. inr refl, λ many. inr refl)
  completes (Some bytes) left' held held' source_rose out_rose (TooLarge limit) h s o =
      let over = facts.too_many whole_limit bytes left' h.1.0.0 h.1.0.1 in (λ few answer is. absurd (omega arith), λ many. inl (ap TooLarge h.0))
  completes (Some bytes) left' held held' source_rose out_rose _ h s o = absurd h
