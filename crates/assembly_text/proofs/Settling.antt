-- One round more, and the rounds of an answer.
use Rattle.std.proofs.Common.{◌≡◌, ℕ, zero, suc, ◌-◌, ◌<◌, ◌≤◌, List, true, false, inl, inr, refl, subst, sym, arith}
use Rattle.std.specs.Prelude.{Result, Ok, Err, not, ◌||◌, Bool, bytes_eq}
use Rattle.std.proofs.lemmas.Slice.Eq.{bytes_eq-Decides}
use Rattle.x86_values.specs.declared.Bits.{Bits}
use Rattle.code_assembler.specs.Finished.{AssembledState}
use Rattle.assembly_text.specs.declared.round.Trace.{Trace}
use Rattle.assembly_text.specs.declared.text_error.AssembleError.{AssembleError}
use Rattle.assembly_text.specs.declared.text_error.AssembleError.TheVariants.{NoMemory, AtName, TooManyLabels, AtLine, Unfinished, Unsettled}
use Rattle.assembly_text.specs.Placing.{View}
use Rattle.assembly_text.specs.Rounds.{IsAnswerIn, IsLastRound, IsOtherRound, IsNoRoutine, IsNoRound, IsSettledBy, is_settled, places_of, view}

-- without a routine there is no round
pub no_round : (slots : Bool) (bits : Bits) (v : View) (why : AssembleError) → IsNoRoutine bits v why → IsNoRound slots bits v why
no_round slots bits v NoMemory h = h
no_round slots bits v (AtName number) h = h
no_round slots bits v TooManyLabels h = h
no_round slots bits v (AtLine number column why) h = h
no_round slots bits v (Unfinished number column why) h = absurd h
no_round slots bits v Unsettled h = absurd h

-- ---- settled

-- lines without addresses of labels are settled
pub never_placed : (f : Trace) (before after : List ℕ) → not f.placed ≡ true → is_settled f before after ≡ true
unfolding is_settled
never_placed f before after h = rw h refl

-- either way
either_way : (p b : Bool) → b ≡ true → (not p || b) ≡ true
either_way true b h = h
either_way false b h = refl

-- so are those with the same
pub same_again : (f : Trace) (before after : List ℕ) → bytes_eq after before ≡ true → is_settled f before after ≡ true
unfolding is_settled
same_again f before after h = either_way f.placed (bytes_eq after before) h

-- those with others are not
pub other_again : (f : Trace) (before after : List ℕ) → not f.placed ≡ false → bytes_eq after before ≡ false → is_settled f before after ≡ false
unfolding is_settled
other_again f before after h other = rw (h, other) refl

-- ---- one round more

module _ (slots : Bool) (bits : Bits) (base : ℕ) (names text places : List ℕ) where
  -- a round without bytes
  pub round_bad : (left : ℕ) → 0 < left → (why : AssembleError) → IsNoRound slots bits (view base names text places) why
      → IsAnswerIn left slots bits base names text places (Err why)
  unfolding IsAnswerIn
  round_bad zero some why h = absurd (omega arith)
  round_bad (suc n) some why h = inl (why, (h, refl))

  -- the last round
  pub round_last : (left : ℕ) → 0 < left → (a : AssembledState) → IsLastRound slots bits (view base names text places) a
      → IsAnswerIn left slots bits base names text places (Ok a)
  unfolding IsAnswerIn
  round_last zero some a h = absurd (omega arith)
  round_last (suc n) some a h = inr (inl (a, (h, refl)))

  -- another round
  pub round_other : (left : ℕ) → 0 < left → (a : AssembledState) (next : List ℕ) → IsOtherRound slots bits (view base names text places) a next
      → (answer : Result AssembledState AssembleError) → IsAnswerIn (left - 1) slots bits base names text next answer
      → IsAnswerIn left slots bits base names text places answer
  unfolding IsAnswerIn
  round_other zero some a next h answer more = absurd (omega arith)
  round_other (suc n) some a next h answer more =
      let e : suc n - 1 ≡ n = omega arith in
      inr (inr (a, (next, (h, subst (λ (k : ℕ). IsAnswerIn k slots bits base names text next answer) e more))))

  -- no round
  pub round_none : (left : ℕ) → left ≤ 0 → IsAnswerIn left slots bits base names text places (Err Unsettled)
  unfolding IsAnswerIn
  round_none zero none = refl
  round_none (suc n) none = absurd (omega arith)

-- ---- the rounds of an answer

-- a round that is settled was read without addresses of labels, or with these
same_places : (p : Bool) (before after : List ℕ) → (not p || bytes_eq after before) ≡ true → p ≡ true → before ≡ after
same_places true before after h is = sym ((bytes_eq-Decides after before).0 h)
same_places false before after h is = absurd cc

-- the last round is settled
pub last_settled : (slots : Bool) (bits : Bits) (base : ℕ) (names text places : List ℕ) (a : AssembledState) → IsLastRound slots bits (view base names text places) a
    → IsSettledBy slots bits base names text a
unfolding is_settled
last_settled slots bits base names text places a h =
    (places, (h.0, (h.1.0, (h.1.1.0, same_places h.1.0.placed places (places_of a base h.0) h.1.1.1))))
