-- Each code of the table lies in the bucket of its name.
use Rattle.std.proofs.Common.{◌≡◌, inl, inr, ℕ, zero, suc, ◌+◌, ◌-◌, ◌*◌, ◌%◌, ◌<◌, ◌≤◌, Bool, true, false, ◌&&◌, ◌||◌, ◌==◌, List, [], ◌∷◌, length, get_or, drop, Option, Some, refl, ap, sym, ◌∙◌, subst, arith, slice_get, eqb-true, ltb-true, leb-true, nat_lt, nat_le, add-one, drop-cons}
use Rattle.std.specs.Prelude.{unwrap_or}
use Rattle.std.specs.List.{list_all}
use Rattle.std.proofs.lemmas.Bool.{or_cases, and_parts}
use Rattle.opcode_rows.specs.declared.generated_spots.TheConstants.{ROWS}
use Rattle.std.proofs.lemmas.Option.{slice_get_within}
use Rattle.instruction_parts.specs.declared.row_types.Row.{Row}
use Rattle.opcode_rows.specs.Table.{table, names, name_of}
use Rattle.opcode_rows.proofs.JoinFacts.{length-table}
use Rattle.intel_reader.specs.Buckets.{bucket_from, bucket_of, order, starts}

-- ---- a code at one of some indices

-- the code is one of the first n of these
unfoldable stands : ℕ → ℕ → List ℕ → Bool
stands code zero xs = false
stands code (suc n) [] = false
stands code (suc n) (x ∷ xs) = x == code || stands code n xs

among_first : (code n : ℕ) (xs : List ℕ) → stands code n xs ≡ true → (k : ℕ) × (k < n) × (slice_get xs k ≡ Some code)
unfolding stands
among_first code zero xs h = cc
among_first code (suc n) [] h = cc
among_first code (suc n) (x ∷ xs) h = elim (or_cases (x == code) (stands code n xs) h) [
  | inl here ↦ (0, (omega arith), ap (λ (m : ℕ). Some m) (eqb-true x code here))
  | inr there ↦ (let k = among_first code n xs there in
      let lt : k.0 < n = k.1 in
      (suc k.0, omega arith, k.2))
]

-- what stands behind the first s
get-dropped : (s k : ℕ) (xs : List ℕ) (code : ℕ) → slice_get (drop s xs) k ≡ Some code → slice_get xs (s + k) ≡ Some code
get-dropped zero k xs code h = let e : k ≡ 0 + k = omega arith in subst (λ (i : ℕ). slice_get xs i ≡ Some code) e h
get-dropped (suc s) k [] code h = cc
get-dropped (suc s) k (x ∷ xs) code h =
    let e : suc (s + k) ≡ suc s + k = omega arith in
    subst (λ (i : ℕ). slice_get (x ∷ xs) i ≡ Some code) e (get-dropped s k xs code h)

abbrev IsAmong : ℕ → ℕ → ℕ → Type 0
IsAmong code first end = (k : ℕ) × (first ≤ k) × (k < end) × (slice_get order k ≡ Some code)

among : (code index n : ℕ) → stands code n (drop index order) ≡ true → IsAmong code index (index + n)
among code index n h =
    let k = among_first code n (drop index order) h in
    let lt : k.0 < n = k.1 in
    (index + k.0, omega arith, omega arith, get-dropped index k.0 order code k.2)

-- ---- the numbers in the tables

at_each : (p : ℕ → Bool) (xs : List ℕ) (k x : ℕ) → list_all p xs ≡ true → slice_get xs k ≡ Some x → p x ≡ true
at_each p [] k x h e = cc
at_each p (y ∷ ys) zero x h e = let same : y ≡ x = cc in ap p (sym same) ∙ (and_parts (p y) (list_all p ys) h).0
at_each p (y ∷ ys) (suc k) x h e = at_each p ys k x (and_parts (p y) (list_all p ys) h).1 e

all_codes : list_all (λ (code : ℕ). nat_lt code ROWS) order ≡ true
unfolding order
all_codes = refl

all_starts : list_all (λ (index : ℕ). nat_le index ROWS) starts ≡ true
unfolding starts
all_starts = refl

-- each code in the order is that of a row
pub ordered_below : (k code : ℕ) → slice_get order k ≡ Some code → code < ROWS
ordered_below k code e = ltb-true code ROWS (at_each (λ (c : ℕ). nat_lt c ROWS) order k code all_codes e)

-- each bucket begins within the order
pub start_within : (k index : ℕ) → slice_get starts k ≡ Some index → index ≤ ROWS
start_within k index e = leb-true index ROWS (at_each (λ (i : ℕ). nat_le i ROWS) starts k index all_starts e)

-- ---- every code

abbrev start_of : ℕ → ℕ
start_of bucket = unwrap_or (slice_get starts bucket) 0

-- the code stands in the bucket of this name
abbrev in_bucket : ℕ → List ℕ → Bool
in_bucket code name = stands code (start_of (bucket_of name + 1) - start_of (bucket_of name)) (drop (start_of (bucket_of name)) order)

unfoldable all_stand : List (List ℕ) → ℕ → Bool
all_stand [] code = true
all_stand (n ∷ ns) code = in_bucket code n && all_stand ns (suc code)

all_hold : all_stand names 0 ≡ true
unfolding all_stand stands bucket_from order starts names
all_hold = refl

stands-at : (ns : List (List ℕ)) (from k : ℕ) → all_stand ns from ≡ true → k < length ns → in_bucket (from + k) (unwrap_or (slice_get ns k) []) ≡ true
unfolding all_stand
stands-at [] from k h lt = absurd (omega arith)
stands-at (n ∷ ns) from zero h lt =
    let e : from ≡ from + 0 = omega arith in
    subst (λ (c : ℕ). in_bucket c n ≡ true) e (and_parts (in_bucket from n) (all_stand ns (suc from)) h).0
stands-at (n ∷ ns) from (suc k) h lt =
    let e : suc from + k ≡ from + suc k = omega arith in
    subst (λ (c : ℕ). in_bucket c (unwrap_or (slice_get ns k) []) ≡ true) e (stands-at ns (suc from) k (and_parts (in_bucket from n) (all_stand ns (suc from)) h).1 (omega arith))

length-names : length names ≡ ROWS
unfolding names
length-names = refl

start_is : (bucket start : ℕ) → slice_get starts bucket ≡ Some start → start_of bucket ≡ start
start_is bucket start e = ap (λ (o : Option ℕ). unwrap_or o 0) e

-- each code of a name is in the bucket of that name
pub complete : (name : List ℕ) (first end code : ℕ) → slice_get starts (bucket_of name) ≡ Some first → slice_get starts (bucket_of name + 1) ≡ Some end → code < ROWS → name_of code ≡ name → IsAmong code first end
unfolding name_of
complete name first end code at_first at_end lt e =
    let zero_on : 0 + code ≡ code = omega arith in
    let there : in_bucket code (unwrap_or (slice_get names code) []) ≡ true =
    subst (λ (c : ℕ). in_bucket c (unwrap_or (slice_get names code) []) ≡ true) zero_on (stands-at names 0 code all_hold (omega (arith, lt, length-names))) in
    let here : in_bucket code name ≡ true = subst (λ (n : List ℕ). in_bucket code n ≡ true) e there in
    let k = among code (start_of (bucket_of name)) (start_of (bucket_of name + 1) - start_of (bucket_of name)) here in
    let f = start_is (bucket_of name) first at_first in
    let l = start_is (bucket_of name + 1) end at_end in
    let le : start_of (bucket_of name) ≤ k.0 = k.1 in
    let below : k.0 < start_of (bucket_of name) + (start_of (bucket_of name + 1) - start_of (bucket_of name)) = k.2 in
    (k.0, omega (arith, f, le), omega (arith, f, l, le, below), k.3)

-- ---- the bucket of a name, byte by byte

-- the bucket of a name, one byte further
pub bucket-step : (bucket : ℕ) (name : List ℕ) (k : ℕ) → k < length name → bucket_from bucket (drop k name) ≡ bucket_from ((bucket * 31 + get_or name k 0) % 1024) (drop (k + 1) name)
unfolding bucket_from
bucket-step bucket name k lt = rw (add-one, drop-cons name k 0) refl

-- a bucket is one of 1,024
pub bucket-below : (n : ℕ) → n % 1024 < 1024
bucket-below n = omega arith

drop_all : (xs : List ℕ) (k : ℕ) → length xs ≤ k → drop k xs ≡ []
drop_all [] zero h = refl
drop_all [] (suc k) h = refl
drop_all (x ∷ xs) zero h = absurd (omega arith)
drop_all (x ∷ xs) (suc k) h = drop_all xs k (omega arith)

-- the bucket of a name at its end
pub bucket-end : (bucket : ℕ) (name : List ℕ) (k : ℕ) → length name ≤ k → bucket ≡ bucket_from bucket (drop k name)
unfolding bucket_from
bucket-end bucket name k h = rw (drop_all name k h) refl

-- ---- the indices

length-order : length order ≡ ROWS
unfolding order
length-order = refl

-- a code stands at indices below the number of rows alone
pub index_below : (k code : ℕ) → slice_get order k ≡ Some code → k < ROWS
index_below k code h = omega (slice_get_within order k code h, length-order, arith)

-- rows have the codes below their number
pub code_below : (code : ℕ) (row : Row) → slice_get table code ≡ Some row → code < ROWS
code_below code row h = omega (slice_get_within table code row h, length-table, arith)

same_code : (o : Option ℕ) (x y : ℕ) → o ≡ Some x → o ≡ Some y → x ≡ y
same_code o x y e f = cc

-- one code stands at an index
pub code_at_index : (k x y : ℕ) → slice_get order k ≡ Some x → slice_get order k ≡ Some y → x ≡ y
code_at_index k x y e f = same_code (slice_get order k) x y e f
