-- What the tables of effects keep to, each by computing over the whole of a table.
use Rattle.std.proofs.Common.{◌≡◌, ℕ, zero, suc, ◌<◌, ◌≤◌, ◌+◌, ◌-◌, Bool, true, ◌&&◌, List, [], ◌∷◌, slice_get, length, take, drop, refl, ap, sym, ◌∙◌, arith}
use Rattle.std.specs.Prelude.{Some, unwrap_or, nat_lt, nat_le}
use Rattle.std.specs.List.{list_all}
use Rattle.std.proofs.lemmas.Bool.{ltb-true, leb-true, and_parts}
use Rattle.instruction_info.specs.declared.effect.Effect.{Effect}
use Rattle.instruction_info.specs.declared.generated_effects.TheConstants.{EFFECT_COUNT, REGISTER_COUNT, MEMORY_COUNT}
use Rattle.instruction_info.specs.Effects.{indexes, effects, no_effect, effect_of, effect_fits}

-- what passes on all of a list passes on what stands at a place
pub all-at : {X : Type 0} (p : X → Bool) (xs : List X) (k : ℕ) (x : X) → list_all p xs ≡ true → slice_get xs k ≡ Some x → p x ≡ true
all-at p [] k x h at = cc
all-at p (y ∷ ys) zero x h at = let same : y ≡ x = cc in ap p (sym same) ∙ (and_parts (p y) (list_all p ys) h).0
all-at p (y ∷ ys) (suc k) x h at = all-at p ys k x (and_parts (p y) (list_all p ys) h).1 at

-- what is taken of a list is no longer than asked
pub take-few : {X : Type 0} (n : ℕ) (xs : List X) → length (take n xs) ≤ n
take-few zero xs = omega arith
take-few (suc n) [] = omega arith
take-few (suc n) (x ∷ xs) = omega (arith, take-few n xs)

-- a part of a list, from its first place to the place behind its last
pub part-of : {X : Type 0} (list all : List X) (first count : ℕ) → list ≡ all → take (first + count - first) (drop first list) ≡ take count (drop first all)
part-of list all first count same = let count_is : first + count - first ≡ count = omega arith in rw (count_is, same) refl

-- a part of a list has no more items than its count
pub part-few : {X : Type 0} (list : List X) (first count most : ℕ) → count ≤ most → length (take (first + count - first) (drop first list)) ≤ most
part-few list first count most few = omega (arith, few, take-few (first + count - first) (drop first list))

-- ---- indexes

abbrev is_index : ℕ → Bool
is_index k = nat_lt k EFFECT_COUNT

indexes_within : list_all is_index indexes ≡ true
unfolding indexes
indexes_within = refl

-- each index leads to a line of effects
pub index-within : (code k : ℕ) → slice_get indexes code ≡ Some k → k < EFFECT_COUNT
index-within code k at = ltb-true k EFFECT_COUNT (all-at is_index indexes code k indexes_within at)

-- the effect of a code is the line that its index leads to
pub effect-known : (code k : ℕ) (e : Effect) → slice_get indexes code ≡ Some k → slice_get effects k ≡ Some e → e ≡ effect_of code
unfolding effect_of
effect-known code k e at here =
    sym (ap (λ o. unwrap_or (slice_get effects (unwrap_or o 0)) no_effect) at ∙ ap (λ o. unwrap_or o no_effect) here)

-- ---- effects

effects_fit : list_all effect_fits effects ≡ true
unfolding effects effect_fits
effects_fit = refl

-- each line of effects lies inside the tables
pub effect-fits : (k : ℕ) (e : Effect) → slice_get effects k ≡ Some e → effect_fits e ≡ true
effect-fits k e at = all-at effect_fits effects k e effects_fit at

-- the parts of the test
abbrev registers_lie : Effect → Bool
registers_lie e = nat_le (e.first_register + e.registers) REGISTER_COUNT

abbrev memory_lies : Effect → Bool
memory_lies e = nat_le (e.first_memory + e.memories) MEMORY_COUNT

abbrev memory_fits : Effect → Bool
memory_fits e = memory_lies e && nat_le e.memories 3

abbrev rest_fits : Effect → Bool
rest_fits e = nat_le e.registers 26 && memory_fits e

-- its registers lie inside theirs
pub registers-lie : (e : Effect) → effect_fits e ≡ true → e.first_register + e.registers ≤ REGISTER_COUNT
unfolding effect_fits
registers-lie e h = leb-true (e.first_register + e.registers) REGISTER_COUNT (and_parts (registers_lie e) (rest_fits e) h).0

rest-fits : (e : Effect) → effect_fits e ≡ true → rest_fits e ≡ true
unfolding effect_fits
rest-fits e h = (and_parts (registers_lie e) (rest_fits e) h).1

-- they are at most 26
pub registers-few : (e : Effect) → effect_fits e ≡ true → e.registers ≤ 26
registers-few e h = leb-true e.registers 26 (and_parts (nat_le e.registers 26) (memory_fits e) (rest-fits e h)).0

memory-fits : (e : Effect) → effect_fits e ≡ true → memory_fits e ≡ true
memory-fits e h = (and_parts (nat_le e.registers 26) (memory_fits e) (rest-fits e h)).1

-- its memory lies inside its table
pub memory-lies : (e : Effect) → effect_fits e ≡ true → e.first_memory + e.memories ≤ MEMORY_COUNT
memory-lies e h = leb-true (e.first_memory + e.memories) MEMORY_COUNT (and_parts (memory_lies e) (nat_le e.memories 3) (memory-fits e h)).0

-- and is used in at most 3 ways
pub memory-few : (e : Effect) → effect_fits e ≡ true → e.memories ≤ 3
memory-few e h = leb-true e.memories 3 (and_parts (memory_lies e) (nat_le e.memories 3) (memory-fits e h)).1
