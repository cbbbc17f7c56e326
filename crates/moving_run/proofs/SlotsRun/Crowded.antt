-- A region of 1 MiB with 65,536 live blocks has no gap.
use Rattle.std.proofs.Common.{◌≡◌, ℕ, ◌+◌, ◌-◌, ◌*◌, ◌%◌, ◌<◌, ◌≤◌, List, [], ◌∷◌, length, map, Option, Some, None, Err, refl, arith, inl, inr}
use Rattle.std.specs.Prelude.{All, max, nat_eq}
use Rattle.std.proofs.Math.Nat.{le-max_left, le-max_right, max-le}
use Rattle.std.proofs.lemmas.Bool.{cases_Bool, lt-leb, eqb-true}
use Rattle.std.proofs.lemmas.List.Elements.{All-head, All-tail}
use Rattle.code_region.specs.declared.gaps.Span.{Span}
use Rattle.code_region.specs.declared.refusals.PlaceError.TheVariants as place_error
use Rattle.code_region.specs.Gaps.{gaps_between, first_gap, longest}
use Rattle.code_region.specs.State.{LiveBlock, RegionState, len_in_units, gaps_of, span_of}
use Rattle.code_region.specs.Placing.{place_answer, place_in_gap}
use Rattle.code_region.specs.Keeping.{AreLaid, IsSound}

-- a block takes a multiple of 16 bytes
abbrev pub IsUnits : LiveBlock → Type 0
IsUnits block = block.len % 16 ≡ 0

-- the live blocks and the longest gap take no more than there is
crowd : (from limit : ℕ) (live : List LiveBlock) → AreLaid from limit live → All IsUnits live →
    from + 16 * length live + longest (gaps_between from limit (map span_of live)) ≤ limit
crowd from limit [] laid units =
    let le : max (limit - from) 0 ≤ limit - from = max-le (omega arith) (omega arith) in omega (arith, le, laid)
crowd from limit (block ∷ live) laid units =
    let rest = crowd (block.place + block.len) limit live laid.3 (All-tail IsUnits block live units) in
    let gap = block.place - from in
    let more = longest (gaps_between (block.place + block.len) limit (map span_of live)) in
    let le : max gap more ≤ gap + more = max-le (omega arith) (omega arith) in
    let unit = All-head IsUnits block live units in
    omega (arith, le, rest, laid.0, laid.1, unit)

-- so many live blocks leave no gap
pub crowded : (region : RegionState) → IsSound region → All IsUnits region.live → region.size ≤ 1048576 → length region.live ≡ 65536 →
    longest (gaps_of region) ≡ 0
unfolding gaps_of
crowded region sound units small many = omega (arith, crowd region.base (region.base + region.size) region.live sound units, small, many)

-- a length above the longest gap has none
pub missing : (len : ℕ) (gaps : List Span) → longest gaps < len → first_gap len gaps ≡ None
missing len [] above = refl
missing len (gap ∷ gaps) above =
    let here = le-max_left gap.len (longest gaps) in
    let there = le-max_right gap.len (longest gaps) in
    rw (lt-leb len gap.len (omega (arith, here, above))) (missing len gaps (omega (arith, there, above)))

-- ---- why there is no place

-- no gap has the length: that and the longest
pub full-is : (region : RegionState) (n len largest : ℕ) → place_answer region n ≡ Err (place_error.Full len largest) →
    (first_gap (len_in_units n) (gaps_of region) ≡ None) × ((len ≡ len_in_units n) × (largest ≡ longest (gaps_of region)))
unfolding place_answer
full-is region n len largest e =
    elim (cases_Bool (nat_eq n 0)) [
      | inl zero_len ↦ (let f = rw zero_len at e in absurd cc)
      | inr some_len ↦ elim (cases_Bool (nat_eq (length region.live) region.max_blocks)) [
        | inl all_live ↦ (let f = rw (some_len, all_live) at e in absurd cc)
        | inr room ↦ (
            let f = rw (some_len, room) at e in
            found (first_gap (len_in_units n) (gaps_of region)) (len_in_units n) (longest (gaps_of region)) f)
      ]
    ]
  where
    found : (o : Option Span) (a b : ℕ) → place_in_gap o a b ≡ Err (place_error.Full len largest) → (o ≡ None) × ((len ≡ a) × (largest ≡ b))
    found None a b h = (refl, (cc, cc))
    found (Some gap) a b h = absurd cc

-- as many live blocks as there may be
pub many-is : (region : RegionState) (n most : ℕ) → place_answer region n ≡ Err (place_error.TooManyBlocks most) →
    length region.live ≡ region.max_blocks
unfolding place_answer
many-is region n most e =
    elim (cases_Bool (nat_eq n 0)) [
      | inl zero_len ↦ (let f = rw zero_len at e in absurd cc)
      | inr some_len ↦ elim (cases_Bool (nat_eq (length region.live) region.max_blocks)) [
        | inl all_live ↦ eqb-true (length region.live) region.max_blocks all_live
        | inr room ↦ (
            let f = rw (some_len, room) at e in
            none (first_gap (len_in_units n) (gaps_of region)) (len_in_units n) (longest (gaps_of region)) f)
      ]
    ]
  where
    none : (o : Option Span) (a b : ℕ) → place_in_gap o a b ≡ Err (place_error.TooManyBlocks most) → length region.live ≡ region.max_blocks
    none None a b h = absurd cc
    none (Some gap) a b h = absurd cc
