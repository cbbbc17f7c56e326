-- Where control enters what is overwritten.
use Rattle.std.proofs.Common.{◌≡◌, ℕ, ◌+◌, ◌<◌, ◌≤◌, inl, inr, ◌⊎◌, Bool, true, false, ltb, List, length, get_or, take, drop, Option, Some, None, Err, arith, refl, sym, ap, ◌∙◌, subst}
use Rattle.std.specs.Prelude.{IsTrue, ◌↔◌, if◌then◌else◌, ◌-◌}
use Rattle.std.specs.List.{Contains}
use Rattle.std.specs.List.Sorted.{IsStrictlyIncreasing}
use Rattle.std.proofs.lemmas.Bool.{cases_lt, ltb-true, ltb-false}
use Rattle.std.proofs.lemmas.List.{take_rest}
use Rattle.x86_values.specs.declared.Decoded.{Decoded}
use Rattle.row_relation.specs.Spells.{Reading, Read, TooShort, Invalid}
use Rattle.opcode_rows.specs.Sweep.{IsReadAt}
use Rattle.decoder.specs.declared.DecodeError.{DecodeError}
use Rattle.decoder.specs.declared.DecodeError.TheVariants.{Invalid as InvalidError, TooShort as TooShortError}
use Rattle.decoder.specs.Answer.{reading_of}
use Rattle.decoder.specs.OneReading.{OneReadingFacts}
use Rattle.operand_info.specs.declared.columns.Flow.{Flow}
use Rattle.operand_info.specs.declared.columns.Flow.TheVariants.{Call}
use Rattle.operand_info.specs.ByCode.{flow_of}
use Rattle.flow_graph.specs.declared.exits.Exits.{Exits}
use Rattle.flow_graph.specs.Control.{CodeBytes, IsReadIn, IsSuccessor}
use Rattle.flow_graph.specs.Exits.{AreExits}
use Rattle.flow_graph.specs.HookSight.Entries.{TakenPart, IsCallAt, IsEntry, IsEntryOf, IsPassage, Enters, IsLeast, IsFirst, IsInside, IsInsideAt, is_call, end_exit, lesser}
use Rattle.flow_graph.proofs.HookSight.OneReading.{same_reading, same_instr}
use Rattle.flow_graph.proofs.HookSight.Ending.{is_true, from_true}
use Rattle.flow_graph.proofs.HookSight.Places.{at_place, at_lesser, place_of}

-- ---- calls

call_is : (f : Flow) → is_call f ≡ true → f ≡ Call
unfolding is_call
call_is Call h = refl
call_is _ h = cc

is_of_call : (f : Flow) → f ≡ Call → is_call f ≡ true
unfolding is_call
is_of_call f e = ap is_call e

-- what is read of the slice from p on
pub read_there : (code : CodeBytes) (p : ℕ) (reading : Reading) →
    IsReadAt code.bits code.base p (take (length code.bytes - p) (drop p code.bytes)) reading → IsReadIn code p reading
read_there code p reading h = subst (λ (xs : List ℕ). IsReadAt code.bits code.base p xs reading) (take_rest code.bytes p) h

-- where an instruction is read, its flow says whether it is a call
pub call_there : OneReadingFacts → (code : CodeBytes) (p : ℕ) (d : Decoded) → IsReadIn code p (Read d) → (b : Bool) → b ≡ is_call (flow_of d.instr.code.0) →
    IsTrue b ↔ IsCallAt code p
call_there one code p d reads b e = (
  λ h. record { decoded = d; reads = reads; flow = call_is (flow_of d.instr.code.0) (sym e ∙ from_true h) },
  λ c.
      let same : c.decoded ≡ d = same_instr c.decoded d (same_reading one code p (Read c.decoded) (Read d) c.reads reads) in
      let flow : flow_of d.instr.code.0 ≡ Call = subst (λ (x : Decoded). flow_of x.instr.code.0 ≡ Call) same c.flow in
      is_true (e ∙ is_of_call (flow_of d.instr.code.0) flow),
)

-- where none is read, there is no call
pub no_call_there : OneReadingFacts → (code : CodeBytes) (p : ℕ) (e : DecodeError) → IsReadIn code p (reading_of (Err e)) → IsCallAt code p → ⊥
no_call_there one code p InvalidError reads c = differ (same_reading one code p (Read c.decoded) Invalid c.reads reads)
  where
    differ : Read c.decoded ≡ Invalid → ⊥
    differ h = cc
no_call_there one code p TooShortError reads c = differ (same_reading one code p (Read c.decoded) TooShort c.reads reads)
  where
    differ : Read c.decoded ≡ TooShort → ⊥
    differ h = cc

-- ---- the lesser of two

-- a property that one of two optional numbers has at least, each if it is there
module _ (P : ℕ → Type 0) (Q R : ℕ → Type 0) (one_of : (n : ℕ) → P n → Q n ⊎ R n) (from_q : (n : ℕ) → Q n → P n) (from_r : (n : ℕ) → R n → P n) where
  both : (x y : ℕ) → IsLeast Q (Some x) → IsLeast R (Some y) → (t : Bool) → ltb y x ≡ t → IsLeast P (if t then Some y else Some x)
  both x y a b true e =
      (from_r y b.0, λ n h. elim (one_of n h) [ inl q ↦ omega (arith, a.1 n q, ltb-true y x e) | inr r ↦ b.1 n r ])
  both x y a b false e =
      (from_q x a.0, λ n h. elim (one_of n h) [ inl q ↦ a.1 n q | inr r ↦ omega (arith, b.1 n r, ltb-false y x e) ])

  -- the lesser of the least of two properties is the least of both
  pub least_of_both : (a b : Option ℕ) → IsLeast Q a → IsLeast R b → IsLeast P (lesser a b)
  least_of_both None None a b = λ n h. elim (one_of n h) [ inl q ↦ a n q | inr r ↦ b n r ]
  least_of_both None (Some y) a b = (from_r y b.0, λ n h. elim (one_of n h) [ inl q ↦ absurd (a n q) | inr r ↦ b.1 n r ])
  least_of_both (Some x) None a b = (from_q x a.0, λ n h. elim (one_of n h) [ inl q ↦ a.1 n q | inr r ↦ absurd (b n r) ])
  least_of_both (Some x) (Some y) a b = both x y a b (ltb y x) refl

-- ---- from one offset

module _ (code : CodeBytes) (part : TakenPart) (p : ℕ) where
  -- control goes to this offset, and enters
  abbrev ByExit : Option ℕ → ℕ → Type 0
  ByExit to q = (to ≡ Some q) × IsEntry code part p q

  the_one : (x y : ℕ) → Some x ≡ Some y → x ≤ y
  the_one x y e = let same : x ≡ y = cc in omega arith

  -- an exit that enters is the least of itself
  least_exit : (to r : Option ℕ) → IsEntryOf code part p to r → IsLeast (ByExit to) r
  least_exit to (Some q) h = (h, λ m g. the_one q m (sym h.0 ∙ g.0))
  least_exit to None h = λ q g. h q g.0 g.1

  end_is : (next q : ℕ) → end_exit p next ≡ Some q → (0 < next) × (q ≡ p + next)
  end_is next q h = by_test (ltb 0 next) refl h
    where
      by_test : (t : Bool) → ltb 0 next ≡ t → (if t then Some (p + next) else None) ≡ Some q → (0 < next) × (q ≡ p + next)
      by_test true e k = let same : p + next ≡ q = cc in (ltb-true 0 next e, sym same)
      by_test false e k = cc

  is_end : (next : ℕ) → 0 < next → end_exit p next ≡ Some (p + next)
  is_end next h = by_test (ltb 0 next) refl
    where
      by_test : (t : Bool) → ltb 0 next ≡ t → (if t then Some (p + next) else None) ≡ Some (p + next)
      by_test true e = refl
      by_test false e = absurd (omega (arith, h, ltb-false 0 next e))

  module _ (exits : Exits) (are : AreExits code p exits) where
    one_exit : (q : ℕ) → IsPassage code part p q → ByExit (end_exit p exits.next) q ⊎ ByExit exits.target q
    one_exit q g =
        elim (are.all q g.0) [
          | inl n ↦ inl (subst (λ (x : ℕ). end_exit p exits.next ≡ Some x) (sym n.1) (is_end exits.next n.0), g.1)
          | inr t ↦ inr (t, g.1)
        ]

    from_end : (q : ℕ) → ByExit (end_exit p exits.next) q → IsPassage code part p q
    from_end q h =
        let n = end_is exits.next q h.0 in
        (subst (λ (x : ℕ). IsSuccessor code p x) (sym n.1) (are.next n.0).0, h.1)

    from_target : (q : ℕ) → ByExit exits.target q → IsPassage code part p q
    from_target q h = ((are.target q h.0).0, h.1)

    -- **the lesser of the two exits that enter is the least passage**
    pub least_passage : (a b : Option ℕ) → IsEntryOf code part p (end_exit p exits.next) a → IsEntryOf code part p exits.target b →
        IsLeast (IsPassage code part p) (lesser a b)
    least_passage a b ea eb =
        least_of_both (IsPassage code part p) (ByExit (end_exit p exits.next)) (ByExit exits.target) one_exit from_end from_target a b
        (least_exit (end_exit p exits.next) a ea) (least_exit exits.target b eb)

-- ---- from the first of some

-- no passage from an offset
abbrev pub NoneFrom : CodeBytes → TakenPart → ℕ → Type 0
NoneFrom code part p = (q : ℕ) → IsPassage code part p q → ⊥

-- of offsets in ascending order the first from which control enters
pub first_enters : (code : CodeBytes) (part : TakenPart) (starts : List ℕ) → IsStrictlyIncreasing starts → (k : ℕ) → k < length starts →
    ((j : ℕ) → j < k → NoneFrom code part (get_or starts j 0)) → (target : ℕ) → IsLeast (IsPassage code part (get_or starts k 0)) (Some target) →
    IsFirst (Enters (Contains starts) code part) (get_or starts k 0) target
first_enters code part starts up k inside before target here = record {
  is = record { reached = at_place starts k (get_or starts k 0) inside refl; passes = here.0 };
  first = λ r s e. elim (cases_lt r (get_or starts k 0)) [
    | inr g ↦ g
    | inl l ↦ absurd (at_lesser (NoneFrom code part) starts up k inside before r l e.reached s e.passes)
  ];
  least = λ s e. here.1 s e.passes;
}

-- ---- the entries that are given

-- those at the first n places of the list
pub record InsideBefore (entries : List ℕ) (taken count n entry : ℕ) : Type 0 where
  pub place : ℕ
  pub early : place < n
  pub is : get_or entries place 0 ≡ entry
  pub behind : 0 < entry
  pub within : entry < taken
  pub byte : entry < count

module _ (entries : List ℕ) (taken count : ℕ) where
  -- there is none at no place
  pub inside_none : IsLeast (InsideBefore entries taken count 0) None
  inside_none n h = let early = h.early in omega (arith, early)

  abbrev AtPlace : ℕ → ℕ → Type 0
  AtPlace k entry = (get_or entries k 0 ≡ entry) × ((0 < entry) × (entry < taken) × (entry < count))

  place_least : (k : ℕ) (r : Option ℕ) → IsInsideAt entries taken count k r → IsLeast (AtPlace k) r
  place_least k (Some e) h = (h, λ m g. let same : e ≡ m = sym h.0 ∙ g.0 in omega arith)
  place_least k None h = λ n g.
      h (subst (λ (x : ℕ). 0 < x) (sym g.0) g.1.0) (subst (λ (x : ℕ). x < taken) (sym g.0) g.1.1) (subst (λ (x : ℕ). x < count) (sym g.0) g.1.2)

  -- one place more
  pub inside_more : (k : ℕ) (old new : Option ℕ) → IsLeast (InsideBefore entries taken count k) old → IsInsideAt entries taken count k new →
      IsLeast (InsideBefore entries taken count (k + 1)) (lesser old new)
  inside_more k old new before here =
      least_of_both (InsideBefore entries taken count (k + 1)) (InsideBefore entries taken count k) (AtPlace k) split earlier at old new before
      (place_least k new here)
    where
      split : (n : ℕ) → InsideBefore entries taken count (k + 1) n → InsideBefore entries taken count k n ⊎ AtPlace k n
      split n h =
          elim (cases_lt h.place k) [
            | inl l ↦ inl (record { place = h.place; early = l; is = h.is; behind = h.behind; within = h.within; byte = h.byte })
            | inr g ↦
                let early = h.early in
                let e : h.place ≡ k = omega (arith, g, early) in
                inr (subst (λ (x : ℕ). get_or entries x 0 ≡ n) e h.is, (h.behind, h.within, h.byte))
          ]

      earlier : (n : ℕ) → InsideBefore entries taken count k n → InsideBefore entries taken count (k + 1) n
      earlier n h =
          let early = h.early in
          record { place = h.place; early = omega (arith, early); is = h.is; behind = h.behind; within = h.within; byte = h.byte }

      at : (n : ℕ) → AtPlace k n → InsideBefore entries taken count (k + 1) n
      at n h = record { place = k; early = omega arith; is = h.0; behind = h.1.0; within = h.1.1; byte = h.1.2 }

  -- at all places they are the entries
  pub inside_all : (n : ℕ) → n ≡ length entries → (r : Option ℕ) → IsLeast (InsideBefore entries taken count n) r → IsLeast (IsInside entries taken count) r
  inside_all n all (Some e) h = (to e h.0, λ m g. h.1 m (back m g))
    where
      to : (m : ℕ) → InsideBefore entries taken count n m → IsInside entries taken count m
      to m b =
          let early = b.early in
          record { given = at_place entries b.place m (omega (arith, early, all)) b.is; behind = b.behind; within = b.within; byte = b.byte }

      back : (m : ℕ) → IsInside entries taken count m → InsideBefore entries taken count n m
      back m g =
          let at = place_of entries m g.given in
          record { place = at.0; early = omega (arith, at.1, all); is = at.2; behind = g.behind; within = g.within; byte = g.byte }
  inside_all n all None h = λ m g. h m (back m g)
    where
      back : (m : ℕ) → IsInside entries taken count m → InsideBefore entries taken count n m
      back m g =
          let at = place_of entries m g.given in
          record { place = at.0; early = omega (arith, at.1, all); is = at.2; behind = g.behind; within = g.within; byte = g.byte }
