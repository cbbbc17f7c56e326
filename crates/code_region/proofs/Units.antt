-- Live blocks stand and are long in units of 16 bytes.
use Rattle.std.proofs.Common.{◌≡◌, ℕ, zero, suc, ◌+◌, ◌-◌, ◌*◌, ◌/◌, ◌%◌, ◌^◌, ◌≤◌, ◌<◌, List, [], ◌∷◌, length, get_or, map, filter, replicate, arith, sym, subst, refl, Bool, true, false, Some, None, Result, Ok, Err, cond, nat_eq, nat_le, nat_lt}
use Rattle.std.specs.Prelude.{if◌then◌else◌}
use Rattle.code_region.specs.declared.gaps.Span.{Span}
use Rattle.code_region.specs.declared.commands.Command.{Command}
use Rattle.code_region.specs.declared.commands.Command.TheVariants.{Place, Release, Fill}
use Rattle.code_region.specs.declared.refusals.PlaceError.{PlaceError}
use Rattle.code_region.specs.Gaps.{gaps_between, first_gap}
use Rattle.code_region.specs.State.{LiveBlock, RegionState, span_of, len_in_units, gaps_of}
use Rattle.code_region.specs.Opening.{empty_region}
use Rattle.code_region.specs.Placing.{place_answer, with_block, unfilled_block, placed_as, after_place}
use Rattle.code_region.specs.Releasing.{after_release}
use Rattle.code_region.specs.Filling.{with_content, can_fill, after_fill}
use Rattle.code_region.specs.Running.{filled_if, after, run}
use Rattle.code_region.specs.Keeping.{AreLaid, IsSound}
use Rattle.code_region.specs.Laws.{AreInUnits}
use Rattle.code_region.proofs.Sound.{answer-finds, after-sound}

-- a block in units behind a base
abbrev pub IsUnits : ℕ → LiveBlock → Type 0
IsUnits base block = ((block.place - base) % 16 ≡ 0) × (block.len % 16 ≡ 0)

-- blocks have places and lengths in units of 16 bytes, counted from the base
abbrev pub AreUnits : ℕ → List LiveBlock → Type 0
AreUnits base [] = Unit {0}
AreUnits base (block ∷ live) = IsUnits base block × AreUnits base live

units-all : (base : ℕ) (live : List LiveBlock) (k : ℕ) (d : LiveBlock) → AreUnits base live → k < length live → IsUnits base (get_or live k d)
units-all base [] k d u h = absurd (omega arith)
units-all base (block ∷ live) zero d u h = u.0
units-all base (block ∷ live) (suc k) d u h = units-all base live k d u.1 (omega arith)

-- a length in units is a multiple of 16
pub rounded-units : (len : ℕ) → len_in_units len % 16 ≡ 0
unfolding len_in_units
rounded-units len = by_bound (nat_le len (2 ^ 64 - 16))
  where
    by_bound : (b : Bool) → (if b then (len + 15) / 16 * 16 else (2 ^ 64 - 16)) % 16 ≡ 0
    by_bound true = omega arith
    by_bound false = omega arith

-- a gap of so many bytes from an address on
abbrev gap_at : ℕ → ℕ → Span
gap_at from n = record { start = from; len = n }

abbrev StartsInUnits : ℕ → Span → Type 0
StartsInUnits base gap = (base ≤ gap.start) × ((gap.start - base) % 16 ≡ 0)

starts_at : (base from n : ℕ) (gap : Span) → base ≤ from → (from - base) % 16 ≡ 0 → Some (gap_at from n) ≡ Some gap → StartsInUnits base gap
starts_at base from n gap le at h = let s : gap_at from n ≡ gap = cc in subst (StartsInUnits base) s (le, at)

-- the first gap of some length starts in units
gap-units : (base from limit len : ℕ) (live : List LiveBlock) (gap : Span) → base ≤ from → (from - base) % 16 ≡ 0 → AreLaid from limit live → AreUnits base live
    → first_gap len (gaps_between from limit (map span_of live)) ≡ Some gap → StartsInUnits base gap
gap-units base from limit len [] gap le at laid u e =
    elim (nat_le len (limit - from)) as (λ b. cond b (Some (gap_at from (limit - from))) None ≡ Some gap → StartsInUnits base gap) [
      | true ↦ λ h. starts_at base from (limit - from) gap le at h
      | false ↦ λ h. absurd (cc)
    ] e
gap-units base from limit len (block ∷ live) gap le at laid u e =
    elim (nat_le len (block.place - from)) as (λ b.
    cond b (Some (gap_at from (block.place - from))) (first_gap len (gaps_between (block.place + block.len) limit (map span_of live))) ≡ Some gap
    → StartsInUnits base gap) [
      | true ↦ λ h. starts_at base from (block.place - from) gap le at h
      | false ↦ λ h.
          let p = laid.0 in
          gap-units base (block.place + block.len) limit len live gap (omega (arith, p)) (omega (arith, p, u.0.0, u.0.1)) laid.3 u.1 h
    ] e

-- a place stands in units behind the base
place-units : (state : RegionState) (len place : ℕ) → IsSound state → AreUnits state.base state.live → place_answer state len ≡ Ok place
    → (state.base ≤ place) × ((place - state.base) % 16 ≡ 0)
unfolding gaps_of
place-units state len place sound u e =
    let found = answer-finds state len place e in
    let zero_units : (state.base - state.base) % 16 ≡ 0 = omega arith in
    subst (λ (p : ℕ). (state.base ≤ p) × ((p - state.base) % 16 ≡ 0)) found.1.front
    (gap-units state.base state.base (state.base + state.size) (len_in_units len) state.live found.0 (omega arith) zero_units sound u found.1.first)

with_block-units : (base : ℕ) (block : LiveBlock) (live : List LiveBlock) → IsUnits base block → AreUnits base live → AreUnits base (with_block block live)
with_block-units base block [] b u = (b, tt)
with_block-units base block (other ∷ live) b u =
    elim (nat_lt block.place other.place) as (λ t. AreUnits base (if t then block ∷ other ∷ live else other ∷ with_block block live)) [
      | true ↦ (b, u)
      | false ↦ (u.0, with_block-units base block live b u.1)
    ]

-- each command keeps the units
placed-units : (state : RegionState) (len : ℕ) (answer : Result ℕ PlaceError) → IsSound state → AreUnits state.base state.live → place_answer state len ≡ answer
    → AreUnits state.base (placed_as answer state len).live
placed-units state len (Ok place) sound u e =
    with_block-units state.base (unfilled_block place (len_in_units len)) state.live ((place-units state len place sound u e).1, rounded-units len) u
placed-units state len (Err why) sound u e = u

filter-units : (base : ℕ) (p : LiveBlock → Bool) (live : List LiveBlock) → AreUnits base live → AreUnits base (filter p live)
filter-units base p [] u = tt
filter-units base p (block ∷ live) u =
    elim (p block) as (λ t. AreUnits base (cond t (block ∷ filter p live) (filter p live))) [
      | true ↦ (u.0, filter-units base p live u.1)
      | false ↦ filter-units base p live u.1
    ]

fill-units : (base place : ℕ) (bytes : List ℕ) (live : List LiveBlock) → AreUnits base live
    → AreUnits base (map (λ block. if nat_eq block.place place then with_content bytes block else block) live)
fill-units base place bytes [] u = tt
fill-units base place bytes (block ∷ live) u = (by_test (nat_eq block.place place), fill-units base place bytes live u.1)
  where
    by_test : (t : Bool) → IsUnits base (if t then with_content bytes block else block)
    by_test true = u.0
    by_test false = u.0

filled_if-units : (state : RegionState) (place byte count : ℕ) (b : Bool) → AreUnits state.base state.live → AreUnits state.base (filled_if b state place byte count).live
unfolding after_fill
filled_if-units state place byte count true u = fill-units state.base place (replicate count byte) state.live u
filled_if-units state place byte count false u = u

after-units : (state : RegionState) (command : Command) → IsSound state → AreUnits state.base state.live → AreUnits state.base (after state command).live
unfolding after after_place after_release
after-units state (Place len) sound u = placed-units state len (place_answer state len) sound u refl
after-units state (Release place) sound u = filter-units state.base _ state.live u
after-units state (Fill place byte count) sound u = filled_if-units state place byte count (can_fill state place count) u

placed-base : (state : RegionState) (len : ℕ) (answer : Result ℕ PlaceError) → (placed_as answer state len).base ≡ state.base
placed-base state len (Ok place) = refl
placed-base state len (Err why) = refl

filled_if-base : (state : RegionState) (place byte count : ℕ) (b : Bool) → (filled_if b state place byte count).base ≡ state.base
unfolding after_fill
filled_if-base state place byte count true = refl
filled_if-base state place byte count false = refl

after-base : (state : RegionState) (command : Command) → (after state command).base ≡ state.base
unfolding after after_place after_release
after-base state (Place len) = placed-base state len (place_answer state len)
after-base state (Release place) = refl
after-base state (Fill place byte count) = filled_if-base state place byte count (can_fill state place count)

run-units : (state : RegionState) (commands : List Command) → IsSound state → AreUnits state.base state.live → AreUnits (run state commands).base (run state commands).live
run-units state [] sound u = u
run-units state (command ∷ commands) sound u =
    run-units (after state command) commands (after-sound state command sound)
    (subst (λ (b : ℕ). AreUnits b (after state command).live) (sym (after-base state command)) (after-units state command sound u))

-- ---- by the calls

all-units : (base : ℕ) (live : List LiveBlock) → ((k : ℕ) (d : LiveBlock) → k < length live → IsUnits base (get_or live k d)) → AreUnits base live
all-units base [] h = tt
all-units base (block ∷ live) h = (h 0 block (omega arith), all-units base live (λ k d lt. h (suc k) d (omega arith)))

in_units : (base : ℕ) (state : RegionState) → state.base ≡ base → AreUnits base state.live → AreInUnits state
in_units base state e u = λ k d h. units-all state.base state.live k d (subst (λ (b : ℕ). AreUnits b state.live) (sym e) u) h

-- an empty region is in units
pub opened-in_units : (base size max_blocks : ℕ) → AreInUnits (empty_region base size max_blocks)
opened-in_units base size max_blocks = in_units base (empty_region base size max_blocks) refl tt

-- placing keeps a region in units
pub placed-in_units : (state : RegionState) (len : ℕ) → IsSound state → AreInUnits state → AreInUnits (after_place state len)
unfolding after_place
placed-in_units state len sound u =
    in_units state.base (after_place state len) (placed-base state len (place_answer state len))
    (placed-units state len (place_answer state len) sound (all-units state.base state.live u) refl)

-- so does releasing
pub released-in_units : (state : RegionState) (place : ℕ) → AreInUnits state → AreInUnits (after_release state place)
unfolding after_release
released-in_units state place u = in_units state.base (after_release state place) refl (filter-units state.base _ state.live (all-units state.base state.live u))

-- and so does filling
pub filled-in_units : (state : RegionState) (place : ℕ) (bytes : List ℕ) → AreInUnits state → AreInUnits (after_fill state place bytes)
unfolding after_fill
filled-in_units state place bytes u = in_units state.base (after_fill state place bytes) refl (fill-units state.base place bytes state.live (all-units state.base state.live u))

-- **blocks that stand in units do so after any list of commands**
pub run-in_units : (state : RegionState) (commands : List Command) → IsSound state → AreInUnits state → AreInUnits (run state commands)
run-in_units state commands sound u =
    in_units (run state commands).base (run state commands) refl (run-units state commands sound (all-units state.base state.live u))

-- **a place stands in units behind the base, where the live blocks do**
pub place-in_units : (state : RegionState) (len place : ℕ) → IsSound state → AreInUnits state → place_answer state len ≡ Ok place
    → (state.base ≤ place) × ((place - state.base) % 16 ≡ 0)
place-in_units state len place sound u e = place-units state len place sound (all-units state.base state.live u) e
