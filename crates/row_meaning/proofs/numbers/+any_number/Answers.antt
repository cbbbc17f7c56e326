use Rattle.std.proofs.Common.{◌≡◌, ℕ, ◌+◌, ◌*◌, ◌^◌, ◌<◌, ◌≤◌, List, ◌∷◌, arith, length, get_or, Fits, w8}
use Rattle.std.proofs.lemmas.Nat.{pow-add}
use Rattle.std.proofs.Math.Pow.{pow_mono}
use Rattle.std.proofs.Math.Facts.{Fits-of_lt, Fits-lt-pow}
use Rattle.row_meaning.proofs.numbers.+any_number.Goals as goal

-- one more byte
step : (n m b r : ℕ) → n + 1 ≡ m → b < 256 → r < 2 ^ (8 * n) → b + 256 * r < 2 ^ (8 * m)
step n m b r e hb hr =
    let e8 : 8 * m ≡ 8 * n + 8 = omega arith in rw e8 (rw (pow-add 2 (8 * n) 8) (omega arith))

-- at most eight bytes make 64 bits
below_64 : (m x : ℕ) → m ≤ 8 → x < 2 ^ (8 * m) → x < 2 ^ 64
below_64 m x h lt =
    let e : 8 * m ≤ 64 = omega arith in
    let top : 2 ^ (8 * m) ≤ 2 ^ 64 = pow_mono e in omega arith

-- the first byte is one
first_byte : (bytes rest : List ℕ) (b : ℕ) → bytes ≡ b ∷ rest → ((i : ℕ) → Fits w8 (get_or bytes i 0)) → b < 256
first_byte bytes rest b e h = let f : Fits w8 b = (rw e at h) 0 in Fits-lt-pow f

pub returns-in-Some-clause-below : goal.returns-in-Some-clause-below
returns-in-Some-clause-below t c =
    step (length c.in-Some.rest.now) (length c.args.bytes.now) c.in-Some.b.now c.any_number.result c.in-Some.ensures.cases.1
    (first_byte c.args.bytes.now c.in-Some.rest.now c.in-Some.b.now c.in-Some.ensures.cases.0 c.type_inv.bytes) c.any_number.ensures.below

pub overflow_add-result : goal.overflow_add-result
overflow_add-result t c =
    Fits-of_lt (below_64 (length c.args.bytes.now) _ c.requires
    (step (length c.in-Some.rest.now) (length c.args.bytes.now) c.in-Some.b.now c.any_number.result c.in-Some.ensures.cases.1
    (first_byte c.args.bytes.now c.in-Some.rest.now c.in-Some.b.now c.in-Some.ensures.cases.0 c.type_inv.bytes) c.any_number.ensures.below))

pub overflow_mul-result : goal.overflow_mul-result
overflow_mul-result t c =
    let all = below_64 (length c.args.bytes.now) _ c.requires
    (step (length c.in-Some.rest.now) (length c.args.bytes.now) 0 c.any_number.result c.in-Some.ensures.cases.1 (omega arith) c.any_number.ensures.below) in
    Fits-of_lt (omega (arith, all))
