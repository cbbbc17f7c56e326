-- The exits of an instruction, with or without a row, are the successors of its offset.
use Rattle.std.proofs.Common.{◌≡◌, ℕ, ◌+◌, ◌-◌, ◌<◌, List, take, drop, ◌⊎◌, inl, inr, Bool, true, false, eqb, ltb, Option, Some, None, Result, Ok, Err, length, arith, rules, refl, sym, ap, ◌∙◌, subst}
use Rattle.std.specs.Prelude.{IsTrue, if◌then◌else◌, ◌&&◌, ◌||◌, not}
use Rattle.std.specs.Option.{option_map}
use Rattle.std.proofs.lemmas.Bool.{cases_eq, ne_eqb, eq-eqb, eqb-true, ltb-true, lt-ltb}
use Rattle.std.proofs.lemmas.List.{take_rest}
use Rattle.x86_values.specs.declared.Bits.{Bits}
use Rattle.x86_values.specs.declared.Instr.{Instr}
use Rattle.x86_values.specs.declared.Decoded.{Decoded}
use Rattle.row_relation.specs.Spells.{Reading, Read}
use Rattle.plain_spelling.specs.Values.{distance}
use Rattle.opcode_rows.specs.Sweep.{IsReadAt}
use Rattle.operand_info.specs.declared.columns.Flow.{Flow}
use Rattle.operand_info.specs.ByCode.{flow_of}
use Rattle.operand_info.specs.Operands.{first_value, near_value}
use Rattle.decoder.specs.declared.DecodeError.{DecodeError}
use Rattle.decoder.specs.declared.DecodeError.TheVariants.{Invalid as InvalidError, TooShort as TooShortError}
use Rattle.decoder.specs.Answer.{reading_of}
use Rattle.decoder.specs.OneReading.{OneReadingFacts}
use Rattle.unlisted.specs.declared.Shape.{Shape}
use Rattle.unlisted.specs.declared.MeasureError.{MeasureError}
use Rattle.unlisted.specs.Measured.{IsMeasured}
use Rattle.flow_graph.specs.declared.exits.Exits.{Exits}
use Rattle.flow_graph.specs.declared.exits.Follow.TheVariants.{Listed, Unlisted}
use Rattle.flow_graph.specs.Control.{CodeBytes, code_bytes, code_bytes_with, goes_on, goes_to_target, GoesToTarget, Leads, IsReadIn, IsSuccessor, EndsAt, shape_flow, shape_refers, IsMeasuredIn, GoesToFallback, ShapeLeads, UnreadLeads, UnreadEnds}
use Rattle.flow_graph.specs.Exits.{target_offset, is_at, next_exit, target_exit, exits_of, shape_target, exits_of_shape, no_exits, IsExit, AreExits}
use Rattle.flow_graph.proofs.OneReading.{OneAnswerFacts, leads_to, ends_to, unread_leads, leads_unread, unread_ends, ends_unread, shape_unique, shape_or_error}

-- the offset of a target where control goes there, and the address that it is of
record IsOffsetOf (on : Bool) (near : Option ℕ) (far : ℕ → ℕ) (q : ℕ) : Type 0 where
  goes : on ≡ true
  address : ℕ
  is : near ≡ Some address
  offset : q ≡ far address

offset_some : (on : Bool) (near : Option ℕ) (far : ℕ → ℕ) (q : ℕ) → (if on then option_map far near else None) ≡ Some q → IsOffsetOf on near far q
offset_some true (Some t) far q h = record { goes = refl; address = t; is = refl; offset = cc }
offset_some true None far q h = cc
offset_some false near far q h = cc

offset_is : (on : Bool) (near : Option ℕ) (far : ℕ → ℕ) (t : ℕ) → on ≡ true → near ≡ Some t → (if on then option_map far near else None) ≡ Some (far t)
offset_is on near far t f n = rw (f, n) refl

-- of an instruction that is read
target_of : (bits : Bits) (base : ℕ) (flow : Flow) (i : Instr) (q : ℕ) → target_offset bits base flow i ≡ Some q →
    IsOffsetOf (goes_to_target flow) (first_value near_value i) (distance bits base) q
unfolding target_offset
target_of bits base flow i q e = offset_some (goes_to_target flow) (first_value near_value i) (distance bits base) q e

of_target : (bits : Bits) (base : ℕ) (flow : Flow) (i : Instr) (t : ℕ) → goes_to_target flow ≡ true → first_value near_value i ≡ Some t →
    target_offset bits base flow i ≡ Some (distance bits base t)
unfolding target_offset
of_target bits base flow i t f n = offset_is (goes_to_target flow) (first_value near_value i) (distance bits base) t f n

-- of an instruction without a row
target_of_shape : (bits : Bits) (base p : ℕ) (shape : Shape) (q : ℕ) → shape_target bits base p shape ≡ Some q →
    IsOffsetOf (goes_to_target (shape_flow shape.relative)) (shape_refers bits base p shape) (distance bits base) q
unfolding shape_target
target_of_shape bits base p shape q e =
    offset_some (goes_to_target (shape_flow shape.relative)) (shape_refers bits base p shape) (distance bits base) q e

of_shape_target : (bits : Bits) (base p : ℕ) (shape : Shape) (t : ℕ) → goes_to_target (shape_flow shape.relative) ≡ true →
    shape_refers bits base p shape ≡ Some t → shape_target bits base p shape ≡ Some (distance bits base t)
unfolding shape_target
of_shape_target bits base p shape t f n =
    offset_is (goes_to_target (shape_flow shape.relative)) (shape_refers bits base p shape) (distance bits base) t f n

-- ---- the tests

both_true : (a b : Bool) (n : ℕ) → 0 < (if a && b then n else 0) → (a ≡ true) × (b ≡ true) × ((if a && b then n else 0) ≡ n)
both_true true true n h = (refl, refl, refl)
both_true true false n h = absurd (omega arith)
both_true false b n h = absurd (omega arith)

one_true : (a b : Bool) → a || b ≡ true → (a ≡ true) ⊎ (b ≡ true)
one_true true b h = inl refl
one_true false b h = inr h

or_true : (a b : Bool) → (a ≡ true) ⊎ (b ≡ true) → a || b ≡ true
or_true true b h = refl
or_true false b (inl h) = cc
or_true false b (inr h) = h

at_end : (target : Option ℕ) (end : ℕ) → is_at target end ≡ true → target ≡ Some end
at_end None end h = cc
at_end (Some t) end h = ap Some (eqb-true t end h)

end_at : (target : Option ℕ) (end : ℕ) → target ≡ Some end → is_at target end ≡ true
end_at target end e = subst (λ x. is_at x end ≡ true) (sym e) (at_itself end)
  where
    at_itself : (n : ℕ) → eqb n n ≡ true
    at_itself n = eq-eqb n n refl

-- ---- the exits by their tests

next_some : (on : Bool) (target : Option ℕ) (end len count : ℕ) → 0 < next_exit on target end len count →
    (next_exit on target end len count ≡ len) × (end < count) × ((on ≡ true) ⊎ (target ≡ Some end))
unfolding next_exit
next_some on target end len count h =
    let both = both_true (on || is_at target end) (ltb end count) len h in
    (both.2, ltb-true end count both.1, by_test (one_true on (is_at target end) both.0))
  where
    by_test : (on ≡ true) ⊎ (is_at target end ≡ true) → (on ≡ true) ⊎ (target ≡ Some end)
    by_test (inl e) = inl e
    by_test (inr e) = inr (at_end target end e)

next_is : (on : Bool) (target : Option ℕ) (end len count : ℕ) → end < count → (on ≡ true) ⊎ (target ≡ Some end) →
    next_exit on target end len count ≡ len
unfolding next_exit
next_is on target end len count l h = rw (or_true on (is_at target end) (by_test h), lt-ltb end count l) refl
  where
    by_test : (on ≡ true) ⊎ (target ≡ Some end) → (on ≡ true) ⊎ (is_at target end ≡ true)
    by_test (inl e) = inl e
    by_test (inr e) = inr (end_at target end e)

target_some : (target : Option ℕ) (end count q : ℕ) → target_exit target end count ≡ Some q → (target ≡ Some q) × (q < count) × (q ≡ end → ⊥)
unfolding target_exit
target_some None end count q h = cc
target_some (Some t) end count q h = by_tests (eqb t end) (ltb t count) refl refl h
  where
    by_tests : (same inside : Bool) → eqb t end ≡ same → ltb t count ≡ inside → (if not same && inside then Some t else None) ≡ Some q →
        (Some t ≡ Some q) × (q < count) × (q ≡ end → ⊥)
    by_tests true inside e f k = cc
    by_tests false false e f k = cc
    by_tests false true e f k =
        let same : t ≡ q = cc in
        (ap Some same, subst (λ x. x < count) same (ltb-true t count f), λ at. differ (sym e ∙ eq-eqb t end (same ∙ at)))
      where
        differ : false ≡ true → ⊥
        differ h = cc

target_is : (target : Option ℕ) (end count q : ℕ) → target ≡ Some q → q < count → (q ≡ end → ⊥) → target_exit target end count ≡ Some q
unfolding target_exit
target_is target end count q e l ne =
    subst (λ x. target_exit x end count ≡ Some q) (sym e) (rw (ne_eqb q end ne, lt-ltb q count l) refl)

-- ---- exits and successors

-- what is read of the slice from p on
pub read_there : (code : CodeBytes) (p : ℕ) (reading : Reading) →
    IsReadAt code.bits code.base p (take (length code.bytes - p) (drop p code.bytes)) reading → IsReadIn code p reading
read_there code p reading h = subst (λ (xs : List ℕ). IsReadAt code.bits code.base p xs reading) (take_rest code.bytes p) h

-- what is measured of the slice from p on
pub measured_there : (code : CodeBytes) (p : ℕ) (answer : Result Shape MeasureError) →
    IsMeasured code.bits (take (length code.bytes - p) (drop p code.bytes)) answer → IsMeasured code.bits (drop p code.bytes) answer
measured_there code p answer h = subst (λ (xs : List ℕ). IsMeasured code.bits xs answer) (take_rest code.bytes p) h

is_true : {b : Bool} → b ≡ true → IsTrue b
is_true e = search rules

from_true : {b : Bool} → IsTrue b → b ≡ true
from_true h = search rules

-- ---- by a length, whether control goes on, and a target

-- a way from p: to the end of its instruction, or to the target
abbrev IsWay : ℕ → ℕ → Bool → Option ℕ → ℕ → Type 0
IsWay p len on target q = ((on ≡ true) × (q ≡ p + len)) ⊎ (target ≡ Some q)

-- the instruction at p has a length, and the successors of p are its ways as far as there are bytes
record Leaves (code : CodeBytes) (p len : ℕ) (on : Bool) (target : Option ℕ) : Type 0 where
  some : 0 < len
  goes : (q : ℕ) → q < length code.bytes → IsWay p len on target q → IsSuccessor code p q
  only : (q : ℕ) → IsSuccessor code p q → IsWay p len on target q
  ends : EndsAt code p (p + len)
  only_end : (q : ℕ) → EndsAt code p q → q ≡ p + len

module _ (code : CodeBytes) (p len : ℕ) (on : Bool) (target : Option ℕ) (leaves : Leaves code p len on target) where
  abbrev exits : Exits
  exits = record {
    next = next_exit on target (p + len) len (length code.bytes);
    target = target_exit target (p + len) (length code.bytes);
  }

  end_way : (on ≡ true) ⊎ (target ≡ Some (p + len)) → IsWay p len on target (p + len)
  end_way (inl e) = inl (e, refl)
  end_way (inr e) = inr e

  next_right : 0 < exits.next → IsSuccessor code p (p + exits.next) × EndsAt code p (p + exits.next)
  next_right h =
      let n = next_some on target (p + len) len (length code.bytes) h in
      let e : p + len ≡ p + exits.next = ap (λ x. p + x) (sym n.0) in (
        subst (IsSuccessor code p) e (leaves.goes (p + len) n.1 (end_way n.2)),
        subst (EndsAt code p) e leaves.ends,
      )

  target_right : (q : ℕ) → exits.target ≡ Some q → IsSuccessor code p q × (EndsAt code p q → ⊥)
  target_right q h =
      let t = target_some target (p + len) (length code.bytes) q h in
      (leaves.goes q t.1 (inr t.0), λ e. t.2 (leaves.only_end q e))

  -- at the end of the instruction
  exit_next : (q : ℕ) → q ≡ p + len → q < length code.bytes → (on ≡ true) ⊎ (target ≡ Some (p + len)) → IsExit p exits q
  exit_next q e inside why =
      let n = next_is on target (p + len) len (length code.bytes) (omega arith) why in
      let some = leaves.some in
      inl (omega (arith, some, n), omega (arith, n))

  exit_from : (q : ℕ) → q < length code.bytes → IsWay p len on target q → IsExit p exits q
  exit_from q inside (inl g) = exit_next q g.1 inside (inl g.0)
  exit_from q inside (inr t) =
      elim (cases_eq q (p + len)) [
        | inl e ↦ exit_next q e inside (inr (t ∙ ap Some e))
        | inr ne ↦ inr (target_is target (p + len) (length code.bytes) q t inside ne)
      ]

  -- the exits are the successors of the offset
  leaves_right : AreExits code p exits
  leaves_right = record { next = next_right; target = target_right; all = λ q s. exit_from q s.inside (leaves.only q s) }

-- ---- an instruction that is read

module _ (one : OneReadingFacts) (code : CodeBytes) (p : ℕ) (d : Decoded) (reads : IsReadIn code p (Read d)) (some : 0 < d.len) where
  abbrev flow : Flow
  flow = flow_of d.instr.code.0

  abbrev target : Option ℕ
  target = target_offset code.bits code.base flow d.instr

  leads_way : (q : ℕ) → Leads code p d q → IsWay p d.len (goes_on flow) target q
  leads_way q (inl g) = inl (from_true g.flow, g.end)
  leads_way q (inr g) = inr (of_target code.bits code.base flow d.instr g.target (from_true g.flow) g.near ∙ ap Some (sym g.offset))

  way_leads : (q : ℕ) → IsWay p d.len (goes_on flow) target q → Leads code p d q
  way_leads q (inl g) = inl (record { flow = is_true g.0; end = g.1 })
  way_leads q (inr e) =
      let t = target_of code.bits code.base flow d.instr q e in
      inr (record { flow = is_true t.goes; target = t.address; near = t.is; offset = t.offset })

  read_leaves : Leaves code p d.len (goes_on flow) target
  read_leaves = record {
    some = some;
    goes = λ q inside way. record { reading = Read d; reads = reads; leads = way_leads q way; inside = inside };
    only = λ q s. leads_way q (leads_to one code p q (Read d) reads s);
    ends = record { reading = Read d; reads = reads; end = refl };
    only_end = λ q e. ends_to one code p q (Read d) reads e;
  }

  -- the exits of an instruction that is read are the successors of the offset
  pub exits_right : AreExits code p (exits_of code p d)
  exits_right = leaves_right code p d.len (goes_on flow) target read_leaves

-- ---- an instruction without a row

module _ (one : OneReadingFacts) (same : OneAnswerFacts) (bits : Bits) (base : ℕ) (bytes : List ℕ) (p : ℕ) (e : DecodeError) where
  abbrev followed : CodeBytes
  followed = code_bytes_with Unlisted bits base bytes

  module _ (reads : IsReadIn followed p (reading_of (Err e))) (shape : Shape) (measured : IsMeasuredIn followed p shape) (some : 0 < shape.len) where
    abbrev shape_goal : Option ℕ
    shape_goal = shape_target bits base p shape

    shape_way : (q : ℕ) → ShapeLeads followed p shape q → IsWay p shape.len true shape_goal q
    shape_way q (inl end) = inl (refl, end)
    shape_way q (inr g) = inr (of_shape_target bits base p shape g.target (from_true g.flow) g.refers ∙ ap Some (sym g.offset))

    way_shape : (q : ℕ) → IsWay p shape.len true shape_goal q → ShapeLeads followed p shape q
    way_shape q (inl g) = inl g.1
    way_shape q (inr h) =
        let t = target_of_shape bits base p shape q h in
        inr (record { flow = is_true t.goes; target = t.address; refers = t.is; offset = t.offset })

    one_leads : (q : ℕ) → UnreadLeads Unlisted followed p q → ShapeLeads followed p shape q
    one_leads q h =
        subst (λ (s : Shape). ShapeLeads followed p s q) (shape_unique same bits (drop p bytes) h.0 shape h.1.0 measured) h.1.1

    one_end : (q : ℕ) → UnreadEnds Unlisted followed p q → q ≡ p + shape.len
    one_end q h =
        subst (λ (s : Shape). q ≡ p + s.len) (shape_unique same bits (drop p bytes) h.0 shape h.1.0 measured) h.1.1

    shape_leaves : Leaves followed p shape.len true shape_goal
    shape_leaves = record {
      some = some;
      goes = λ q inside way. record {
        reading = reading_of (Err e);
        reads = reads;
        leads = unread_leads followed p q e (shape, (measured, way_shape q way));
        inside = inside;
      };
      only = λ q s. shape_way q (one_leads q (leads_unread followed p q e (leads_to one followed p q (reading_of (Err e)) reads s)));
      ends = record { reading = reading_of (Err e); reads = reads; end = unread_ends followed p (p + shape.len) e (shape, (measured, refl)) };
      only_end = λ q ends. one_end q (ends_unread followed p q e (ends_to one followed p q (reading_of (Err e)) reads ends));
    }

    -- the exits of an instruction without a row are the successors of the offset, where such are followed
    pub shape_exits_right : AreExits followed p (exits_of_shape followed p shape)
    shape_exits_right = leaves_right followed p shape.len true shape_goal shape_leaves

-- ---- nothing

-- nothing follows an offset at which nothing is read and from which nothing leads
nothing_right : OneReadingFacts → (code : CodeBytes) (p : ℕ) (e : DecodeError) → IsReadIn code p (reading_of (Err e)) →
    ((q : ℕ) → UnreadLeads code.follow code p q → ⊥) → AreExits code p no_exits
nothing_right one code p e reads none =
    record {
      next = λ h. absurd (omega arith);
      target = λ q h. absurd (no_target q h);
      all = λ q s. absurd (none q (leads_unread code p q e (leads_to one code p q (reading_of (Err e)) reads s)));
    }
  where
    no_target : (q : ℕ) → None ≡ Some q → ⊥
    no_target q h = cc

-- so it is where the instructions of the table alone are followed
pub no_exits_right : OneReadingFacts → (bits : Bits) (base : ℕ) (bytes : List ℕ) (p : ℕ) (e : DecodeError) →
    IsReadIn (code_bytes bits base bytes) p (reading_of (Err e)) → AreExits (code_bytes bits base bytes) p no_exits
no_exits_right one bits base bytes p e reads = nothing_right one (code_bytes bits base bytes) p e reads (λ q h. h)

-- and where nothing is measured
pub unmeasured_right : OneReadingFacts → OneAnswerFacts → (bits : Bits) (base : ℕ) (bytes : List ℕ) (p : ℕ) (e : DecodeError) (why : MeasureError) →
    IsReadIn (code_bytes_with Unlisted bits base bytes) p (reading_of (Err e)) → IsMeasured bits (drop p bytes) (Err why) →
    AreExits (code_bytes_with Unlisted bits base bytes) p no_exits
unmeasured_right one same bits base bytes p e why reads unknown =
    nothing_right one (code_bytes_with Unlisted bits base bytes) p e reads (λ q h. shape_or_error same bits (drop p bytes) h.0 why h.1.0 unknown)
