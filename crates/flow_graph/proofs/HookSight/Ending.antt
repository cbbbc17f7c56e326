-- Where sight ends, by what is told of an offset and by where control goes from it.
use Rattle.std.proofs.Common.{◌≡◌, ℕ, ◌+◌, ◌<◌, ◌≤◌, inl, inr, Bool, true, false, eqb, List, length, get_or, Some, None, Result, arith, rules, refl, sym, ap, ◌∙◌, subst}
use Rattle.std.specs.Prelude.{IsTrue, if◌then◌else◌, ◌&&◌}
use Rattle.std.specs.List.{Contains}
use Rattle.std.specs.List.Sorted.{IsStrictlyIncreasing}
use Rattle.std.proofs.lemmas.Bool.{cases_lt, eqb-true, eqb-false, false≢true}
use Rattle.x86_values.specs.declared.Decoded.{Decoded}
use Rattle.row_relation.specs.Spells.{Reading, Read, TooShort, Invalid}
use Rattle.decoder.specs.declared.DecodeError.{DecodeError}
use Rattle.decoder.specs.OneReading.{OneReadingFacts}
use Rattle.operand_info.specs.declared.columns.Flow.{Flow}
use Rattle.operand_info.specs.declared.columns.Flow.TheVariants.{IndirectBranch}
use Rattle.operand_info.specs.ByCode.{flow_of}
use Rattle.flow_graph.specs.declared.exits.Exits.{Exits}
use Rattle.flow_graph.specs.Control.{CodeBytes, IsReadIn, IsSuccessor, goes_on}
use Rattle.flow_graph.specs.Exits.{AreExits}
use Rattle.flow_graph.specs.declared.exits.Follow.{Follow}
use Rattle.flow_graph.specs.declared.exits.Follow.TheVariants.{Listed}
use Rattle.flow_graph.specs.Told.{told_of, IsTold, Tells}
use Rattle.flow_graph.specs.declared.hook_sight.answers.SightEnd.{SightEnd}
use Rattle.flow_graph.specs.declared.hook_sight.answers.SightEnd.TheVariants.{IndirectJump, Ended}
use Rattle.flow_graph.specs.HookSight.Sight.{EndsSight, IsFollowed, IsFirstEnd, IsEndAt, is_indirect_jump, end_by_flow, end_by_told}
use Rattle.flow_graph.proofs.HookSight.OneReading.{ends_there}
use Rattle.flow_graph.proofs.HookSight.Places.{at_place, at_lesser}

-- ---- tests

-- a test that is true, as a fact
pub is_true : {b : Bool} → b ≡ true → IsTrue b
is_true e = search rules

-- and back
pub from_true : {b : Bool} → IsTrue b → b ≡ true
from_true h = search rules

-- a test that is false is no fact
pub not_true : {b : Bool} → b ≡ false → IsTrue b → ⊥
not_true e h = false≢true (sym e ∙ from_true h)

jump_is : (f : Flow) → is_indirect_jump f ≡ true → f ≡ IndirectBranch
unfolding is_indirect_jump
jump_is IndirectBranch h = refl
jump_is _ h = cc

jump_not : (f : Flow) → is_indirect_jump f ≡ false → f ≡ IndirectBranch → ⊥
unfolding is_indirect_jump
jump_not f h e = false≢true (sym h ∙ ap is_indirect_jump e)

-- ---- at one offset

module _ (one : OneReadingFacts) (code : CodeBytes) (p : ℕ) (exits : Exits) (are : AreExits code p exits) where
  module _ (d : Decoded) (reads : IsReadIn code p (Read d)) where
    -- where control goes on and not to the end, no byte stands there
    runs_off : goes_on (flow_of d.instr.code.0) ≡ true → exits.next ≡ 0 → length code.bytes ≤ p + d.len
    runs_off on none =
        elim (cases_lt (p + d.len) (length code.bytes)) [
          | inr g ↦ g
          | inl l ↦
              let s : IsSuccessor code p (p + d.len) = record { reading = Read d; reads = reads; leads = inl (record { flow = is_true on; end = refl }); inside = l } in
              elim (are.all (p + d.len) s) [
                | inl n ↦ absurd (omega (arith, n.0, none))
                | inr t ↦ absurd ((are.target (p + d.len) t).1 (record { reading = Read d; reads = reads; end = refl }))
              ]
        ]

    -- where control goes to the end, a byte stands there
    stays : 0 < exits.next → p + d.len < length code.bytes
    stays some =
        let n = are.next some in
        omega (arith, n.0.inside, ends_there one code p (p + exits.next) d reads n.1)

    followed : is_indirect_jump (flow_of d.instr.code.0) ≡ false → (IsTrue (goes_on (flow_of d.instr.code.0)) → p + d.len < length code.bytes) → IsFollowed code p
    followed j on = record { decoded = d; reads = reads; direct = jump_not (flow_of d.instr.code.0) j; on = on }

    by_tests : (jump on none : Bool) → is_indirect_jump (flow_of d.instr.code.0) ≡ jump → goes_on (flow_of d.instr.code.0) ≡ on → eqb exits.next 0 ≡ none →
        IsEndAt code p (if jump then Some IndirectJump else (if on && none then Some Ended else None))
    by_tests true on none j o n = record { reading = Read d; reads = reads; cause = jump_is (flow_of d.instr.code.0) j }
    by_tests false true true j o n =
        record { reading = Read d; reads = reads; cause = record { on = is_true o; none = runs_off o (eqb-true exits.next 0 n) } }
    by_tests false true false j o n =
        followed j (λ _. stays (above (eqb-false exits.next 0 n)))
      where
        above : (exits.next ≡ 0 → ⊥) → 0 < exits.next
        above ne = elim (cases_lt 0 exits.next) [ inl l ↦ l | inr g ↦ absurd (ne (omega (arith, g))) ]
    by_tests false false none j o n = followed j (λ on. absurd (not_true o on))

    -- at an instruction
    read_end : IsEndAt code p (end_by_flow (flow_of d.instr.code.0) exits.next)
    read_end =
        by_tests (is_indirect_jump (flow_of d.instr.code.0)) (goes_on (flow_of d.instr.code.0)) (eqb exits.next 0) refl refl refl

  by_reading : (r : Reading) → IsReadIn code p r → (told : Result Flow DecodeError) → told ≡ told_of r → IsEndAt code p (end_by_told told exits.next)
  unfolding told_of
  by_reading (Read d) reads told e = subst (λ (x : Result Flow DecodeError). IsEndAt code p (end_by_told x exits.next)) (sym e) (read_end d reads)
  by_reading TooShort reads told e =
      subst (λ (x : Result Flow DecodeError). IsEndAt code p (end_by_told x exits.next)) (sym e) (record { reading = TooShort; reads = reads; cause = tt })
  by_reading Invalid reads told e =
      subst (λ (x : Result Flow DecodeError). IsEndAt code p (end_by_told x exits.next)) (sym e) (record { reading = Invalid; reads = reads; cause = tt })

  -- what is told of an offset of listed code, and the exits there, say whether sight ends
  pub end_right : code.follow ≡ Listed → (told : Result Flow DecodeError) → Tells code p told → IsEndAt code p (end_by_told told exits.next)
  end_right listed told t = by_reading t.reading t.reads told (subst (λ (f : Follow). IsTold f code p t.reading told) listed t.is)

-- ---- at the first of some

-- of offsets in ascending order the first at which it ends
pub first_ends : (code : CodeBytes) (starts : List ℕ) → IsStrictlyIncreasing starts → (k : ℕ) → k < length starts →
    ((j : ℕ) → j < k → IsFollowed code (get_or starts j 0)) → (why : SightEnd) → EndsSight code (get_or starts k 0) why →
    IsFirstEnd (Contains starts) code (get_or starts k 0) why
first_ends code starts up k inside before why ends = record {
  reached = at_place starts k (get_or starts k 0) inside refl;
  ends = ends;
  before = at_lesser (IsFollowed code) starts up k inside before;
}
