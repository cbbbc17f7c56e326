-- What whole sight says, and that nothing enters.
use Rattle.std.proofs.Common.{◌≡◌, ℕ, zero, suc, ◌+◌, ◌<◌, ◌≤◌, inl, inr, ◌⊎◌, List, length, get_or, None, arith, refl, ap, subst}
use Rattle.std.specs.Prelude.{IsTrue}
use Rattle.std.specs.List.{Contains}
use Rattle.std.proofs.lemmas.Bool.{cases_lt, cases_eq, cases_Bool}
use Rattle.x86_values.specs.declared.Decoded.{Decoded}
use Rattle.row_relation.specs.Spells.{Reading, Read, TooShort, Invalid}
use Rattle.decoder.specs.OneReading.{OneReadingFacts}
use Rattle.operand_info.specs.ByCode.{flow_of}
use Rattle.flow_graph.specs.Control.{CodeBytes, IsReadIn, IsSuccessor, ReadingLeads, Leads, GoesToTarget, goes_on}
use Rattle.flow_graph.specs.ReachedFrom.{step}
use Rattle.flow_graph.specs.declared.hook_sight.answers.Sight.TheVariants.{Whole}
use Rattle.flow_graph.specs.declared.hook_sight.answers.SightEnd.{SightEnd}
use Rattle.flow_graph.specs.declared.hook_sight.answers.SightEnd.TheVariants.{NotRead, IndirectJump, Ended}
use Rattle.flow_graph.specs.declared.hook_sight.answers.StartRule.TheVariants.{Closed}
use Rattle.flow_graph.specs.HookSight.Sight.{IsSeen, IsSight, EndsSight, EndsBy, IsFollowed}
use Rattle.flow_graph.specs.HookSight.Entries.{TakenPart, Enters, IsFirstPassage, IsCallAt, is_call}
use Rattle.flow_graph.specs.HookSight.Keeping.{IsClosed, IsKeptOut}
use Rattle.flow_graph.proofs.HookSight.OneReading.{same_reading, same_instr}
use Rattle.flow_graph.proofs.HookSight.Entering.{call_there}
use Rattle.flow_graph.proofs.HookSight.Ending.{is_true, not_true}
use Rattle.flow_graph.proofs.HookSight.Places.{at_place, place_of}

-- ---- what ends is not followed

ends_so : (code : CodeBytes) (p : ℕ) (why : SightEnd) (f : IsFollowed code p) → EndsBy code p (Read f.decoded) why → ⊥
ends_so code p NotRead f h = h
ends_so code p IndirectJump f h = f.direct h
ends_so code p Ended f h = let inside = f.on h.on in let none = h.none in omega (arith, inside, none)

-- **where sight ends, control is not followed**
pub not_followed : OneReadingFacts → (code : CodeBytes) (p : ℕ) (why : SightEnd) → EndsSight code p why → IsFollowed code p → ⊥
not_followed one code p why e f =
    ends_so code p why f
    (subst (λ (r : Reading). EndsBy code p r why) (same_reading one code p e.reading (Read f.decoded) e.reads f.reads) e.cause)

-- ---- whole sight

module _ (one : OneReadingFacts) (code : CodeBytes) (entries : List ℕ) where
  seen_successor : (p q : ℕ) → IsSeen code entries p → IsSuccessor code p q → IsSeen code entries q
  seen_successor p q seen s = step p q seen s

  successor : (p q : ℕ) (d : Decoded) → IsReadIn code p (Read d) → Leads code p d q → q < length code.bytes → IsSuccessor code p q
  successor p q d reads leads inside = record { reading = Read d; reads = reads; leads = leads; inside = inside }

  on_inside : (p q : ℕ) (d : Decoded) → IsFollowed code p → IsReadIn code p (Read d) → IsTrue (goes_on (flow_of d.instr.code.0)) → q ≡ p + d.len → q < length code.bytes
  on_inside p q d f reads on end =
      let same : d ≡ f.decoded = same_instr d f.decoded (same_reading one code p (Read d) (Read f.decoded) reads f.reads) in
      let inside : p + f.decoded.len < length code.bytes = f.on (subst (λ (x : Decoded). IsTrue (goes_on (flow_of x.instr.code.0))) same on) in
      let len : d.len ≡ f.decoded.len = ap (λ (x : Decoded). x.len) same in
      omega (arith, inside, len, end)

  -- **control goes only to what is reached, or out by a target that is named**
  pub whole_is_closed : IsSight (IsSeen code entries) code Whole → IsClosed code entries
  whole_is_closed whole = record { stays = stays }
    where
      stays : (p q : ℕ) (d : Decoded) → IsSeen code entries p → IsReadIn code p (Read d) → Leads code p d q →
          IsSeen code entries q ⊎ (GoesToTarget code d q × (length code.bytes ≤ q))
      stays p q d seen reads (inl on) =
          inl (seen_successor p q seen (successor p q d reads (inl on) (on_inside p q d (whole p seen) reads on.flow on.end)))
      stays p q d seen reads (inr target) =
          elim (cases_lt q (length code.bytes)) [
            | inl l ↦ inl (seen_successor p q seen (successor p q d reads (inr target) l))
            | inr g ↦ inr (target, g)
          ]

  -- ---- no entry

  -- an offset is one of a list or not
  among : (xs : List ℕ) (q : ℕ) (n : ℕ) → Contains xs q ⊎ ((j : ℕ) → j < n → j < length xs → get_or xs j 0 ≡ q → ⊥)
  among xs q zero = inr (λ j l inside e. omega (arith, l))
  among xs q (suc n) =
      elim (among xs q n) [
        | inl has ↦ inl has
        | inr none ↦ elim (cases_lt n (length xs)) [
          | inr past ↦ inr (λ j l inside e. none j (omega (arith, past, inside, l)) inside e)
          | inl within ↦ elim (cases_eq (get_or xs n 0) q) [
            | inl e ↦ inl (at_place xs n q within e)
            | inr ne ↦ inr (λ j l inside e. elim (cases_lt j n) [
              | inl less ↦ none j less inside e
              | inr not_less ↦
                  let same : j ≡ n = omega (arith, l, not_less) in
                  ne (subst (λ (k : ℕ). get_or xs k 0 ≡ q) same e)
            ])
          ]
        ]
      ]

  twice : (xs : List ℕ) (q : ℕ) → ((Contains xs q → ⊥) → ⊥) → Contains xs q
  twice xs q not_none =
      elim (among xs q (length xs)) [
        | inl has ↦ has
        | inr none ↦ absurd (not_none (λ has. let at = place_of xs q has in none at.0 at.1 at.1 at.2))
      ]

  module _ (part : TakenPart) (few : part.taken ≤ length code.bytes) (none : IsFirstPassage (Enters (IsSeen code entries) code part) None) where
    inside_kept : (p q : ℕ) (d : Decoded) → IsSeen code entries p → IsReadIn code p (Read d) → Leads code p d q → 0 < q → q < part.taken →
        (p < part.taken) × (Contains part.moved p → Contains part.moved q)
    inside_kept p q d seen reads leads behind within =
        let s : IsSuccessor code p q = successor p q d reads leads (omega (arith, few, within)) in (
          elim (cases_lt p part.taken) [
            | inl l ↦ l
            | inr g ↦ absurd (none p q (record { reached = seen; passes = (s, inl (record { behind = behind; within = within; from = inl g })) }))
          ],
          λ moved. twice part.moved q
              (λ not_moved. none p q (record { reached = seen; passes = (s, inl (record { behind = behind; within = within; from = inr (moved, not_moved) })) })),
        )

    call_or : (p : ℕ) → part.start ≡ Closed → IsSeen code entries p → part.taken ≤ p → (s : IsSuccessor code p 0) → (IsCallAt code p → ⊥) → ⊥
    call_or p closed seen behind s not_call =
        none p 0 (record { reached = seen; passes = (s, inr (record { closed = closed; first = refl; behind = behind; no_call = not_call })) })

    by_reading : (p : ℕ) (r : Reading) → IsReadIn code p r → ReadingLeads code p r 0 → ((IsCallAt code p → ⊥) → ⊥) → IsCallAt code p
    by_reading p (Read d) reads leads not_none =
        let there = call_there one code p d reads (is_call (flow_of d.instr.code.0)) refl in
        elim (cases_Bool (is_call (flow_of d.instr.code.0))) [
          | inl call ↦ there.0 (is_true call)
          | inr other ↦ absurd (not_none (λ c. not_true other (there.1 c)))
        ]
    by_reading p TooShort reads leads not_none =
        absurd (not_none (λ c. let same : Read c.decoded ≡ TooShort = same_reading one code p (Read c.decoded) TooShort c.reads reads in cc))
    by_reading p Invalid reads leads not_none =
        absurd (not_none (λ c. let same : Read c.decoded ≡ Invalid = same_reading one code p (Read c.decoded) Invalid c.reads reads in cc))

    -- **nothing goes in but what stands there, and the start is only called**
    pub kept_out : IsKeptOut code entries part
    kept_out = record {
      inside = inside_kept;
      start = λ closed p seen behind s. by_reading p s.reading s.reads s.leads (call_or p closed seen behind s);
    }
