-- From the place of its block the number of an instruction without a row comes to the address that it came to.
use Rattle.std.proofs.Common.{◌≡◌, ℕ, ◌+◌, ◌-◌, ◌*◌, ◌/◌, ◌%◌, ◌^◌, ◌≤◌, ◌<◌, ◌⊎◌, inl, inr, Bool, true, false, ltb, leb, nat_lt, refl, sym, subst, arith}
use Rattle.std.specs.Prelude.{if◌then◌else◌, ◌&&◌, ◌||◌}
use Rattle.std.proofs.lemmas.Bool.{ltb-true, ltb-false, leb-true}
use Rattle.x86_values.specs.declared.Bits.{Bits}
use Rattle.x86_values.specs.declared.Bits.TheVariants.{B16, B32, B64}
use Rattle.x86_values.specs.Wrapping.{width, modulo_width}
use Rattle.row_meaning.specs.Meaning.{little_endian, sign_extended}
use Rattle.plain_spelling.specs.Values.{low_bytes, is_extended_of, distance}
use Rattle.unlisted.specs.declared.Relative.{Relative}
use Rattle.unlisted.specs.Measured.{reference_size}
use Rattle.step_slots.specs.UnlistedStep.{refers_to, NumbersKeepTheirAddress}

-- ---- sign-extended numbers

-- a number below 2 * h, sign-extended to 64 bits
abbrev Signed : ℕ → ℕ → ℕ → Type 0
Signed h v e = ((v < h) × (e ≡ v)) ⊎ ((h ≤ v) × (e + 2 * h ≡ v + 2 ^ 64))

signed-by : (h v : ℕ) (test : Bool) → nat_lt (2 * v) (2 * h) ≡ test → v < 2 * h → 2 * h ≤ 2 ^ 64 →
    Signed h v (if test then v % 2 ^ 64 else (v + (2 ^ 64 - 2 * h)) % 2 ^ 64)
signed-by h v true t small most = let lt = ltb-true (2 * v) (2 * h) t in inl (omega (arith, lt), omega (arith, lt))
signed-by h v false t small most = let ge = ltb-false (2 * v) (2 * h) t in inr (omega (arith, ge), omega (arith, ge))

extended-2 : (x : ℕ) → Signed 32768 (x % 65536) (sign_extended 64 (low_bytes 2 x))
unfolding sign_extended little_endian low_bytes
extended-2 x = by_value (x % 256 + 256 * (x / 256 % 256 + 256 * 0)) (omega arith)
  where
    by_value : (v : ℕ) → v ≡ x % 65536 → Signed 32768 (x % 65536) (if nat_lt (2 * v) (2 ^ 16) then v % 2 ^ 64 else (v + (2 ^ 64 - 2 ^ 16)) % 2 ^ 64)
    by_value v e =
        subst (λ (k : ℕ). Signed 32768 k (if nat_lt (2 * v) (2 ^ 16) then v % 2 ^ 64 else (v + (2 ^ 64 - 2 ^ 16)) % 2 ^ 64)) e
        (signed-by 32768 v (nat_lt (2 * v) (2 ^ 16)) refl (omega (arith, e)) (omega arith))

extended-4 : (x : ℕ) → Signed 2147483648 (x % 4294967296) (sign_extended 64 (low_bytes 4 x))
unfolding sign_extended little_endian low_bytes
extended-4 x = by_value (x % 256 + 256 * (x / 256 % 256 + 256 * (x / 256 / 256 % 256 + 256 * (x / 256 / 256 / 256 % 256 + 256 * 0)))) (omega arith)
  where
    by_value : (v : ℕ) → v ≡ x % 4294967296 →
        Signed 2147483648 (x % 4294967296) (if nat_lt (2 * v) (2 ^ 32) then v % 2 ^ 64 else (v + (2 ^ 64 - 2 ^ 32)) % 2 ^ 64)
    by_value v e =
        subst (λ (k : ℕ). Signed 2147483648 k (if nat_lt (2 * v) (2 ^ 32) then v % 2 ^ 64 else (v + (2 ^ 64 - 2 ^ 32)) % 2 ^ 64)) e
        (signed-by 2147483648 v (nat_lt (2 * v) (2 ^ 32)) refl (omega (arith, e)) (omega arith))

-- ---- numbers that some bytes hold

-- a number of w bits that n bytes hold: they have all bits, or it is near an edge
abbrev Held : ℕ → ℕ → ℕ → Type 0
Held n w x = (x < 2 ^ w) × ((w ≤ 8 * n) ⊎ ((2 * x < 2 ^ (8 * n)) ⊎ (2 * 2 ^ w ≤ 2 * x + 2 ^ (8 * n))))

and-true : (a b : Bool) → a && b ≡ true → (a ≡ true) × (b ≡ true)
and-true true b h = (refl, h)
and-true false b h = cc

or-true : (a b : Bool) → a || b ≡ true → (a ≡ true) ⊎ (b ≡ true)
or-true true b h = inl refl
or-true false b h = inr h

held-is : (n w x : ℕ) → is_extended_of n w x ≡ true → Held n w x
unfolding is_extended_of
held-is n w x h =
    let both = and-true (ltb x (2 ^ w)) (leb w (8 * n) || (ltb (2 * x) (2 ^ (8 * n)) || leb (2 * 2 ^ w) (2 * x + 2 ^ (8 * n)))) h in
    (ltb-true x (2 ^ w) both.0, by_room (or-true (leb w (8 * n)) (ltb (2 * x) (2 ^ (8 * n)) || leb (2 * 2 ^ w) (2 * x + 2 ^ (8 * n))) both.1))
  where
    by_edge : (ltb (2 * x) (2 ^ (8 * n)) ≡ true) ⊎ (leb (2 * 2 ^ w) (2 * x + 2 ^ (8 * n)) ≡ true) → (2 * x < 2 ^ (8 * n)) ⊎ (2 * 2 ^ w ≤ 2 * x + 2 ^ (8 * n))
    by_edge (inl e) = inl (ltb-true (2 * x) (2 ^ (8 * n)) e)
    by_edge (inr e) = inr (leb-true (2 * 2 ^ w) (2 * x + 2 ^ (8 * n)) e)

    by_room : (leb w (8 * n) ≡ true) ⊎ ((ltb (2 * x) (2 ^ (8 * n)) || leb (2 * 2 ^ w) (2 * x + 2 ^ (8 * n))) ≡ true) →
        (w ≤ 8 * n) ⊎ ((2 * x < 2 ^ (8 * n)) ⊎ (2 * 2 ^ w ≤ 2 * x + 2 ^ (8 * n)))
    by_room (inl e) = inl (leb-true w (8 * n) e)
    by_room (inr e) = inr (by_edge (or-true (ltb (2 * x) (2 ^ (8 * n))) (leb (2 * 2 ^ w) (2 * x + 2 ^ (8 * n))) e))

-- ---- what is held comes back, modulo the size

comes-2-16 : (x e : ℕ) → Held 2 16 x → Signed 32768 (x % 65536) e → e % 65536 ≡ x
comes-2-16 x e h (inl s) = omega (arith, h.0, s.0, s.1)
comes-2-16 x e h (inr s) = omega (arith, h.0, s.0, s.1)

comes-4-16 : (x e : ℕ) → Held 4 16 x → Signed 2147483648 (x % 4294967296) e → e % 65536 ≡ x
comes-4-16 x e h (inl s) = omega (arith, h.0, s.0, s.1)
comes-4-16 x e h (inr s) = omega (arith, h.0, s.0, s.1)

comes-4-32 : (x e : ℕ) → Held 4 32 x → Signed 2147483648 (x % 4294967296) e → e % 4294967296 ≡ x
comes-4-32 x e h (inl s) = omega (arith, h.0, s.0, s.1)
comes-4-32 x e h (inr s) = omega (arith, h.0, s.0, s.1)

comes-2-32 : (x e : ℕ) → Held 2 32 x → Signed 32768 (x % 65536) e → e % 4294967296 ≡ x
comes-2-32 x e (lt, inl h) s = absurd (omega (arith, h))
comes-2-32 x e (lt, inr (inl h)) (inl s) = omega (arith, lt, h, s.0, s.1)
comes-2-32 x e (lt, inr (inl h)) (inr s) = absurd (omega (arith, lt, h, s.0, s.1))
comes-2-32 x e (lt, inr (inr h)) (inl s) = absurd (omega (arith, lt, h, s.0, s.1))
comes-2-32 x e (lt, inr (inr h)) (inr s) = omega (arith, lt, h, s.0, s.1)

comes-2-64 : (x e : ℕ) → Held 2 64 x → Signed 32768 (x % 65536) e → e % 2 ^ 64 ≡ x
comes-2-64 x e (lt, inl h) s = absurd (omega (arith, h))
comes-2-64 x e (lt, inr (inl h)) (inl s) = omega (arith, lt, h, s.0, s.1)
comes-2-64 x e (lt, inr (inl h)) (inr s) = absurd (omega (arith, lt, h, s.0, s.1))
comes-2-64 x e (lt, inr (inr h)) (inl s) = absurd (omega (arith, lt, h, s.0, s.1))
comes-2-64 x e (lt, inr (inr h)) (inr s) = omega (arith, lt, h, s.0, s.1)

comes-4-64 : (x e : ℕ) → Held 4 64 x → Signed 2147483648 (x % 4294967296) e → e % 2 ^ 64 ≡ x
comes-4-64 x e (lt, inl h) s = absurd (omega (arith, h))
comes-4-64 x e (lt, inr (inl h)) (inl s) = omega (arith, lt, h, s.0, s.1)
comes-4-64 x e (lt, inr (inl h)) (inr s) = absurd (omega (arith, lt, h, s.0, s.1))
comes-4-64 x e (lt, inr (inr h)) (inl s) = absurd (omega (arith, lt, h, s.0, s.1))
comes-4-64 x e (lt, inr (inr h)) (inr s) = omega (arith, lt, h, s.0, s.1)

-- ---- and so the address

arrives-16 : (from to e : ℕ) → from ≤ 2 ^ 64 → to < 65536 → e % 65536 ≡ (to + (2 ^ 64 - from)) % 65536 → (from + e) % 65536 ≡ to
arrives-16 from to e a b c = omega (arith, a, b, c)

arrives-32 : (from to e : ℕ) → from ≤ 2 ^ 64 → to < 4294967296 → e % 4294967296 ≡ (to + (2 ^ 64 - from)) % 4294967296 → (from + e) % 4294967296 ≡ to
arrives-32 from to e a b c = omega (arith, a, b, c)

arrives-64 : (from to e : ℕ) → from ≤ 2 ^ 64 → to < 2 ^ 64 → e % 2 ^ 64 ≡ (to + (2 ^ 64 - from)) % 2 ^ 64 → (from + e) % 2 ^ 64 ≡ to
arrives-64 from to e a b c = omega (arith, a, b, c)

-- the low bytes of the distance come to the address
abbrev Comes : Bits → ℕ → ℕ → ℕ → Type 0
Comes size from to n = is_extended_of n (width size) (distance size from to) ≡ true →
    modulo_width size (from + sign_extended 64 (low_bytes n (distance size from to))) ≡ to

by-2 : (size : Bits) (from to : ℕ) → from ≤ 2 ^ 64 → to < 2 ^ width size → Comes size from to 2
unfolding distance
by-2 B16 from to a b h =
    let x = (to + (2 ^ 64 - from)) % 2 ^ 16 in
    arrives-16 from to (sign_extended 64 (low_bytes 2 x)) a b (comes-2-16 x _ (held-is 2 16 x h) (extended-2 x))
by-2 B32 from to a b h =
    let x = (to + (2 ^ 64 - from)) % 2 ^ 32 in
    arrives-32 from to (sign_extended 64 (low_bytes 2 x)) a b (comes-2-32 x _ (held-is 2 32 x h) (extended-2 x))
by-2 B64 from to a b h =
    let x = (to + (2 ^ 64 - from)) % 2 ^ 64 in
    arrives-64 from to (sign_extended 64 (low_bytes 2 x)) a b (comes-2-64 x _ (held-is 2 64 x h) (extended-2 x))

by-4 : (size : Bits) (from to : ℕ) → from ≤ 2 ^ 64 → to < 2 ^ width size → Comes size from to 4
unfolding distance
by-4 B16 from to a b h =
    let x = (to + (2 ^ 64 - from)) % 2 ^ 16 in
    arrives-16 from to (sign_extended 64 (low_bytes 4 x)) a b (comes-4-16 x _ (held-is 4 16 x h) (extended-4 x))
by-4 B32 from to a b h =
    let x = (to + (2 ^ 64 - from)) % 2 ^ 32 in
    arrives-32 from to (sign_extended 64 (low_bytes 4 x)) a b (comes-4-32 x _ (held-is 4 32 x h) (extended-4 x))
by-4 B64 from to a b h =
    let x = (to + (2 ^ 64 - from)) % 2 ^ 64 in
    arrives-64 from to (sign_extended 64 (low_bytes 4 x)) a b (comes-4-64 x _ (held-is 4 64 x h) (extended-4 x))

address-below : (size : Bits) (x : ℕ) → modulo_width size x < 2 ^ width size
address-below B16 x = omega arith
address-below B32 x = omega arith
address-below B64 x = omega arith

by-length : (size : Bits) (from to n : ℕ) → (n ≡ 2) ⊎ (n ≡ 4) → from ≤ 2 ^ 64 → to < 2 ^ width size → Comes size from to n
by-length size from to n (inl e) a b = subst (Comes size from to) (sym e) (by-2 size from to a b)
by-length size from to n (inr e) a b = subst (Comes size from to) (sym e) (by-4 size from to a b)

-- **the number that is written refers to the same address**
pub numbers-keep : NumbersKeepTheirAddress
numbers-keep bits ip place len r n inside fits =
    let size = reference_size bits r.to in
    by-length size (place + len) (refers_to bits ip len r) r.len n inside (address-below size (ip + len + r.distance)) fits
