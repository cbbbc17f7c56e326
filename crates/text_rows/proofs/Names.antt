-- Each name of the table is short.
use Rattle.std.proofs.Common.{◌≡◌, ℕ, zero, suc, ◌≤◌, Bool, true, ◌&&◌, List, [], ◌∷◌, length, slice_get, refl, arith}
use Rattle.std.specs.Prelude.{nat_le, unwrap_or}
use Rattle.std.proofs.lemmas.Bool.{leb-true, and_parts}
use Rattle.opcode_rows.specs.Table.{names, name_of}

-- each of these texts has at most 20 bytes
unfoldable all_short : List (List ℕ) → Bool
all_short [] = true
all_short (x ∷ xs) = nat_le (length x) 20 && all_short xs

names-short : all_short names ≡ true
unfolding all_short names
names-short = refl

short-at : (xs : List (List ℕ)) (k : ℕ) → all_short xs ≡ true → length (unwrap_or (slice_get xs k) []) ≤ 20
unfolding all_short
short-at [] k h = omega arith
short-at (x ∷ xs) zero h = leb-true (length x) 20 (and_parts (nat_le (length x) 20) (all_short xs) h).0
short-at (x ∷ xs) (suc k) h = short-at xs k (and_parts (nat_le (length x) 20) (all_short xs) h).1

-- a name has at most 20 bytes
pub name_of-le : (code : ℕ) → length (name_of code) ≤ 20
unfolding name_of
name_of-le code = short-at names code names-short
