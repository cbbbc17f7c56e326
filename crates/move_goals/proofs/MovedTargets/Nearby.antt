-- Which addresses are at a signed distance in 64-bit mode.
use Rattle.std.proofs.Common.{◌≡◌, ℕ, ◌+◌, ◌-◌, ◌*◌, ◌%◌, ◌^◌, ◌≤◌, ◌<◌, ◌⊎◌, inl, inr, Bool, true, false, ◌||◌, nat_lt, nat_le, refl, arith}
use Rattle.std.proofs.Math.Nat.{mod-eq_of_lt}
use Rattle.std.proofs.lemmas.Bool.{cases_lt, lt-ltb, le-leb}
use Rattle.x86_values.specs.declared.Bits.TheVariants.{B64}
use Rattle.x86_values.specs.Wrapping.{modulo_width}
use Rattle.plain_spelling.specs.Values.{is_extended_of, distance}

or_first : (a b : Bool) → (a || (true || b)) ≡ true
or_first true b = refl
or_first false b = refl

or_second : (a b : Bool) → (a || (b || true)) ≡ true
or_second true b = refl
or_second false true = refl
or_second false false = refl

-- a number of 64 bits that is a signed one of n bytes, of which half the range is h
pub signed : (n h x : ℕ) → 2 ^ (8 * n) ≡ 2 * h → x < 2 ^ 64 → (x < h) ⊎ (2 ^ 64 ≤ x + h) → is_extended_of n 64 x ≡ true
unfolding is_extended_of
signed n h x e below (inl lt) =
    rw (lt-ltb x (2 ^ 64) below, lt-ltb (2 * x) (2 ^ (8 * n)) (omega (arith, e, lt))) (or_first (nat_le 64 (8 * n)) (nat_le (2 * 2 ^ 64) (2 * x + 2 ^ (8 * n))))
signed n h x e below (inr ge) =
    rw (lt-ltb x (2 ^ 64) below, le-leb (2 * 2 ^ 64) (2 * x + 2 ^ (8 * n)) (omega (arith, e, ge))) (or_second (nat_le 64 (8 * n)) (nat_lt (2 * x) (2 ^ (8 * n))))

-- the address behind the instruction is the end, or 0 where that is 2 to the power of 64
behind : (place len : ℕ) → 1 ≤ len → place + len ≤ 2 ^ 64 → ((place + len < 2 ^ 64) × ((place % 2 ^ 64 + len) % 2 ^ 64 ≡ place + len)) ⊎ ((place + len ≡ 2 ^ 64) × ((place % 2 ^ 64 + len) % 2 ^ 64 ≡ 0))
behind place len some within =
    let e : place % 2 ^ 64 ≡ place = mod-eq_of_lt (omega arith) in
    by_end e (cases_lt (place + len) (2 ^ 64))
  where
    by_end : place % 2 ^ 64 ≡ place → (place + len < 2 ^ 64) ⊎ (2 ^ 64 ≤ place + len) → ((place + len < 2 ^ 64) × ((place % 2 ^ 64 + len) % 2 ^ 64 ≡ place + len)) ⊎ ((place + len ≡ 2 ^ 64) × ((place % 2 ^ 64 + len) % 2 ^ 64 ≡ 0))
    by_end e (inl h) = inl (h, rw e (mod-eq_of_lt h))
    by_end e (inr h) = inr (omega arith, omega arith)

ahead : (h next t : ℕ) → h ≤ 2 ^ 31 → next ≤ t → t < 2 ^ 64 → t < next + h → (t + (2 ^ 64 - next)) % 2 ^ 64 < h
ahead h next t small a b c = omega arith

back : (h next t : ℕ) → h ≤ 2 ^ 31 → t < next → next < 2 ^ 64 → next ≤ t + h → 2 ^ 64 ≤ (t + (2 ^ 64 - next)) % 2 ^ 64 + h
back h next t small a b c = omega arith

-- **an address at a signed distance from the end is reached**
pub reached : (n h : ℕ) → 2 ^ (8 * n) ≡ 2 * h → h ≤ 2 ^ 31 → (place len t : ℕ) → 1 ≤ len → place + len ≤ 2 ^ 64 → t < 2 ^ 64 → (place + len ≤ t + h) × (t < place + len + h)
    → is_extended_of n 64 (distance B64 (modulo_width B64 (modulo_width B64 place + len)) t) ≡ true
unfolding distance
reached n h range small place len t some within below reach = by_end (behind place len some within)
  where
    by_side : (next : ℕ) → next < 2 ^ 64 → next ≤ t + h → t < next + h → (t < next) ⊎ (next ≤ t) → is_extended_of n 64 ((t + (2 ^ 64 - next)) % 2 ^ 64) ≡ true
    by_side next l a b (inl d) = signed n h ((t + (2 ^ 64 - next)) % 2 ^ 64) range (omega arith) (inr (back h next t small d l a))
    by_side next l a b (inr d) = signed n h ((t + (2 ^ 64 - next)) % 2 ^ 64) range (omega arith) (inl (ahead h next t small d below b))

    by_end : ((place + len < 2 ^ 64) × ((place % 2 ^ 64 + len) % 2 ^ 64 ≡ place + len)) ⊎ ((place + len ≡ 2 ^ 64) × ((place % 2 ^ 64 + len) % 2 ^ 64 ≡ 0)) → is_extended_of n 64 ((t + (2 ^ 64 - (place % 2 ^ 64 + len) % 2 ^ 64)) % 2 ^ 64) ≡ true
    by_end (inl (l, e)) = rw e (by_side (place + len) l reach.0 reach.1 (cases_lt t (place + len)))
    by_end (inr (l, e)) = rw e (signed n h ((t + 2 ^ 64) % 2 ^ 64) range (omega arith) (inr (omega (arith, reach.0))))

-- **an address a few bytes behind the end is reached, also where it wraps**
pub over-reached : (place len d : ℕ) → 1 ≤ len → place + len ≤ 2 ^ 64 → d < 128
    → is_extended_of 1 64 (distance B64 (modulo_width B64 (modulo_width B64 place + len)) (modulo_width B64 (place + len + d))) ≡ true
unfolding distance
over-reached place len d some within few =
    let x = ((place + len + d) % 2 ^ 64 + (2 ^ 64 - (place % 2 ^ 64 + len) % 2 ^ 64)) % 2 ^ 64 in
    let e = is_d (behind place len some within) in
    signed 1 128 x refl (omega arith) (inl (omega (arith, e)))
  where
    is_d : ((place + len < 2 ^ 64) × ((place % 2 ^ 64 + len) % 2 ^ 64 ≡ place + len)) ⊎ ((place + len ≡ 2 ^ 64) × ((place % 2 ^ 64 + len) % 2 ^ 64 ≡ 0)) → ((place + len + d) % 2 ^ 64 + (2 ^ 64 - (place % 2 ^ 64 + len) % 2 ^ 64)) % 2 ^ 64 ≡ d
    is_d (inl (l, e)) = rw e (omega arith)
    is_d (inr (l, e)) = rw e (omega arith)
