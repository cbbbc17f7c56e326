-- A number that fits comes to its goal: sign-extended and added to the address behind the instruction.
use Rattle.std.proofs.Common.{◌≡◌, ℕ, ◌+◌, ◌-◌, ◌*◌, ◌/◌, ◌%◌, ◌^◌, ◌≤◌, ◌<◌, ◌⊎◌, inl, inr, Bool, true, false, ltb, leb, nat_lt, refl, sym, ◌∙◌, subst, arith}
use Rattle.std.specs.Prelude.{if◌then◌else◌, ◌&&◌, ◌||◌, ◌==◌}
use Rattle.std.proofs.lemmas.Bool.{ltb-true, ltb-false, leb-true, leb-false, eqb-true, lt-ltb, le-leb}
use Rattle.x86_values.specs.declared.Bits.{Bits}
use Rattle.x86_values.specs.declared.Bits.TheVariants.{B16, B32, B64}
use Rattle.x86_values.specs.Wrapping.{width, modulo_width}
use Rattle.row_meaning.specs.Meaning.{little_endian, sign_extended}
use Rattle.plain_spelling.specs.Values.{low_bytes, is_extended_of, distance}
use Rattle.unlisted.specs.declared.Relative.{Relative}
use Rattle.unlisted.specs.Measured.{reference_size}
use Rattle.unlisted.specs.Moved.{distance_to, number_fits, NearGoalsFit}

-- ---- sign-extended numbers

-- a number below 2 * h, sign-extended to 64 bits
abbrev Signed : ℕ → ℕ → ℕ → Type 0
Signed h v e = ((v < h) × (e ≡ v)) ⊎ ((h ≤ v) × (e + 2 * h ≡ v + 2 ^ 64))

signed-by : (h v : ℕ) (test : Bool) → nat_lt (2 * v) (2 * h) ≡ test → v < 2 * h → 2 * h ≤ 2 ^ 64 →
    Signed h v (if test then v % 2 ^ 64 else (v + (2 ^ 64 - 2 * h)) % 2 ^ 64)
signed-by h v true t small most = let lt = ltb-true (2 * v) (2 * h) t in inl (omega (arith, lt), omega (arith, lt))
signed-by h v false t small most = let ge = ltb-false (2 * v) (2 * h) t in inr (omega (arith, ge), omega (arith, ge))

extended-1 : (x : ℕ) → Signed 128 (x % 256) (sign_extended 64 (low_bytes 1 x))
unfolding sign_extended little_endian low_bytes
extended-1 x = by_value (x % 256 + 256 * 0) (omega arith)
  where
    by_value : (v : ℕ) → v ≡ x % 256 → Signed 128 (x % 256) (if nat_lt (2 * v) (2 ^ 8) then v % 2 ^ 64 else (v + (2 ^ 64 - 2 ^ 8)) % 2 ^ 64)
    by_value v e =
        subst (λ (k : ℕ). Signed 128 k (if nat_lt (2 * v) (2 ^ 8) then v % 2 ^ 64 else (v + (2 ^ 64 - 2 ^ 8)) % 2 ^ 64)) e
        (signed-by 128 v (nat_lt (2 * v) (2 ^ 8)) refl (omega (arith, e)) (omega arith))

extended-2 : (x : ℕ) → Signed 32768 (x % 65536) (sign_extended 64 (low_bytes 2 x))
unfolding sign_extended little_endian low_bytes
extended-2 x = by_value (x % 256 + 256 * (x / 256 % 256 + 256 * 0)) (omega arith)
  where
    by_value : (v : ℕ) → v ≡ x % 65536 → Signed 32768 (x % 65536) (if nat_lt (2 * v) (2 ^ 16) then v % 2 ^ 64 else (v + (2 ^ 64 - 2 ^ 16)) % 2 ^ 64)
    by_value v e =
        subst (λ (k : ℕ). Signed 32768 k (if nat_lt (2 * v) (2 ^ 16) then v % 2 ^ 64 else (v + (2 ^ 64 - 2 ^ 16)) % 2 ^ 64)) e
        (signed-by 32768 v (nat_lt (2 * v) (2 ^ 16)) refl (omega (arith, e)) (omega arith))

extended-4 : (x : ℕ) → Signed 2147483648 (x % 4294967296) (sign_extended 64 (low_bytes 4 x))
unfolding sign_extended little_endian low_bytes
extended-4 x = by_value (x % 256 + 256 * (x / 256 % 256 + 256 * (x / 256 / 256 % 256 + 256 * (x / 256 / 256 / 256 % 256 + 256 * 0)))) (omega arith)
  where
    by_value : (v : ℕ) → v ≡ x % 4294967296 →
        Signed 2147483648 (x % 4294967296) (if nat_lt (2 * v) (2 ^ 32) then v % 2 ^ 64 else (v + (2 ^ 64 - 2 ^ 32)) % 2 ^ 64)
    by_value v e =
        subst (λ (k : ℕ). Signed 2147483648 k (if nat_lt (2 * v) (2 ^ 32) then v % 2 ^ 64 else (v + (2 ^ 64 - 2 ^ 32)) % 2 ^ 64)) e
        (signed-by 2147483648 v (nat_lt (2 * v) (2 ^ 32)) refl (omega (arith, e)) (omega arith))

-- ---- numbers that some bytes hold

-- a number of w bits that n bytes hold: they have all bits, or it is near an edge
abbrev Held : ℕ → ℕ → ℕ → Type 0
Held n w x = (x < 2 ^ w) × ((w ≤ 8 * n) ⊎ ((2 * x < 2 ^ (8 * n)) ⊎ (2 * 2 ^ w ≤ 2 * x + 2 ^ (8 * n))))

and-true : (a b : Bool) → a && b ≡ true → (a ≡ true) × (b ≡ true)
and-true true b h = (refl, h)
and-true false b h = cc

or-true : (a b : Bool) → a || b ≡ true → (a ≡ true) ⊎ (b ≡ true)
or-true true b h = inl refl
or-true false b h = inr h

held-is : (n w x : ℕ) → is_extended_of n w x ≡ true → Held n w x
unfolding is_extended_of
held-is n w x h =
    let both = and-true (ltb x (2 ^ w)) (leb w (8 * n) || (ltb (2 * x) (2 ^ (8 * n)) || leb (2 * 2 ^ w) (2 * x + 2 ^ (8 * n)))) h in
    (ltb-true x (2 ^ w) both.0, by_room (or-true (leb w (8 * n)) (ltb (2 * x) (2 ^ (8 * n)) || leb (2 * 2 ^ w) (2 * x + 2 ^ (8 * n))) both.1))
  where
    by_edge : (ltb (2 * x) (2 ^ (8 * n)) ≡ true) ⊎ (leb (2 * 2 ^ w) (2 * x + 2 ^ (8 * n)) ≡ true) → (2 * x < 2 ^ (8 * n)) ⊎ (2 * 2 ^ w ≤ 2 * x + 2 ^ (8 * n))
    by_edge (inl e) = inl (ltb-true (2 * x) (2 ^ (8 * n)) e)
    by_edge (inr e) = inr (leb-true (2 * 2 ^ w) (2 * x + 2 ^ (8 * n)) e)

    by_room : (leb w (8 * n) ≡ true) ⊎ ((ltb (2 * x) (2 ^ (8 * n)) || leb (2 * 2 ^ w) (2 * x + 2 ^ (8 * n))) ≡ true) →
        (w ≤ 8 * n) ⊎ ((2 * x < 2 ^ (8 * n)) ⊎ (2 * 2 ^ w ≤ 2 * x + 2 ^ (8 * n)))
    by_room (inl e) = inl (leb-true w (8 * n) e)
    by_room (inr e) = inr (by_edge (or-true (ltb (2 * x) (2 ^ (8 * n))) (leb (2 * 2 ^ w) (2 * x + 2 ^ (8 * n))) e))

-- ---- what is held comes back, modulo the size

comes-1-16 : (x e : ℕ) → Held 1 16 x → Signed 128 (x % 256) e → e % 65536 ≡ x
comes-1-16 x e (lt, inl h) s = absurd (omega (arith, h))
comes-1-16 x e (lt, inr (inl h)) (inl s) = omega (arith, lt, h, s.0, s.1)
comes-1-16 x e (lt, inr (inl h)) (inr s) = absurd (omega (arith, lt, h, s.0, s.1))
comes-1-16 x e (lt, inr (inr h)) (inl s) = absurd (omega (arith, lt, h, s.0, s.1))
comes-1-16 x e (lt, inr (inr h)) (inr s) = omega (arith, lt, h, s.0, s.1)

comes-1-32 : (x e : ℕ) → Held 1 32 x → Signed 128 (x % 256) e → e % 4294967296 ≡ x
comes-1-32 x e (lt, inl h) s = absurd (omega (arith, h))
comes-1-32 x e (lt, inr (inl h)) (inl s) = omega (arith, lt, h, s.0, s.1)
comes-1-32 x e (lt, inr (inl h)) (inr s) = absurd (omega (arith, lt, h, s.0, s.1))
comes-1-32 x e (lt, inr (inr h)) (inl s) = absurd (omega (arith, lt, h, s.0, s.1))
comes-1-32 x e (lt, inr (inr h)) (inr s) = omega (arith, lt, h, s.0, s.1)

comes-1-64 : (x e : ℕ) → Held 1 64 x → Signed 128 (x % 256) e → e % 2 ^ 64 ≡ x
comes-1-64 x e (lt, inl h) s = absurd (omega (arith, h))
comes-1-64 x e (lt, inr (inl h)) (inl s) = omega (arith, lt, h, s.0, s.1)
comes-1-64 x e (lt, inr (inl h)) (inr s) = absurd (omega (arith, lt, h, s.0, s.1))
comes-1-64 x e (lt, inr (inr h)) (inl s) = absurd (omega (arith, lt, h, s.0, s.1))
comes-1-64 x e (lt, inr (inr h)) (inr s) = omega (arith, lt, h, s.0, s.1)

comes-2-16 : (x e : ℕ) → Held 2 16 x → Signed 32768 (x % 65536) e → e % 65536 ≡ x
comes-2-16 x e h (inl s) = omega (arith, h.0, s.0, s.1)
comes-2-16 x e h (inr s) = omega (arith, h.0, s.0, s.1)

comes-4-16 : (x e : ℕ) → Held 4 16 x → Signed 2147483648 (x % 4294967296) e → e % 65536 ≡ x
comes-4-16 x e h (inl s) = omega (arith, h.0, s.0, s.1)
comes-4-16 x e h (inr s) = omega (arith, h.0, s.0, s.1)

comes-4-32 : (x e : ℕ) → Held 4 32 x → Signed 2147483648 (x % 4294967296) e → e % 4294967296 ≡ x
comes-4-32 x e h (inl s) = omega (arith, h.0, s.0, s.1)
comes-4-32 x e h (inr s) = omega (arith, h.0, s.0, s.1)

comes-2-32 : (x e : ℕ) → Held 2 32 x → Signed 32768 (x % 65536) e → e % 4294967296 ≡ x
comes-2-32 x e (lt, inl h) s = absurd (omega (arith, h))
comes-2-32 x e (lt, inr (inl h)) (inl s) = omega (arith, lt, h, s.0, s.1)
comes-2-32 x e (lt, inr (inl h)) (inr s) = absurd (omega (arith, lt, h, s.0, s.1))
comes-2-32 x e (lt, inr (inr h)) (inl s) = absurd (omega (arith, lt, h, s.0, s.1))
comes-2-32 x e (lt, inr (inr h)) (inr s) = omega (arith, lt, h, s.0, s.1)

comes-2-64 : (x e : ℕ) → Held 2 64 x → Signed 32768 (x % 65536) e → e % 2 ^ 64 ≡ x
comes-2-64 x e (lt, inl h) s = absurd (omega (arith, h))
comes-2-64 x e (lt, inr (inl h)) (inl s) = omega (arith, lt, h, s.0, s.1)
comes-2-64 x e (lt, inr (inl h)) (inr s) = absurd (omega (arith, lt, h, s.0, s.1))
comes-2-64 x e (lt, inr (inr h)) (inl s) = absurd (omega (arith, lt, h, s.0, s.1))
comes-2-64 x e (lt, inr (inr h)) (inr s) = omega (arith, lt, h, s.0, s.1)

comes-4-64 : (x e : ℕ) → Held 4 64 x → Signed 2147483648 (x % 4294967296) e → e % 2 ^ 64 ≡ x
comes-4-64 x e (lt, inl h) s = absurd (omega (arith, h))
comes-4-64 x e (lt, inr (inl h)) (inl s) = omega (arith, lt, h, s.0, s.1)
comes-4-64 x e (lt, inr (inl h)) (inr s) = absurd (omega (arith, lt, h, s.0, s.1))
comes-4-64 x e (lt, inr (inr h)) (inl s) = absurd (omega (arith, lt, h, s.0, s.1))
comes-4-64 x e (lt, inr (inr h)) (inr s) = omega (arith, lt, h, s.0, s.1)

-- ---- and so the address

arrives-16 : (from to e : ℕ) → from ≤ 2 ^ 64 → to < 65536 → e % 65536 ≡ (to + (2 ^ 64 - from)) % 65536 → (from + e) % 65536 ≡ to
arrives-16 from to e a b c = omega (arith, a, b, c)

arrives-32 : (from to e : ℕ) → from ≤ 2 ^ 64 → to < 4294967296 → e % 4294967296 ≡ (to + (2 ^ 64 - from)) % 4294967296 → (from + e) % 4294967296 ≡ to
arrives-32 from to e a b c = omega (arith, a, b, c)

arrives-64 : (from to e : ℕ) → from ≤ 2 ^ 64 → to < 2 ^ 64 → e % 2 ^ 64 ≡ (to + (2 ^ 64 - from)) % 2 ^ 64 → (from + e) % 2 ^ 64 ≡ to
arrives-64 from to e a b c = omega (arith, a, b, c)

-- the low bytes of the distance come to the address
abbrev Comes : Bits → ℕ → ℕ → ℕ → Type 0
Comes size from to n = is_extended_of n (width size) (distance size from to) ≡ true →
    modulo_width size (from + sign_extended 64 (low_bytes n (distance size from to))) ≡ to

by-1 : (size : Bits) (from to : ℕ) → from ≤ 2 ^ 64 → to < 2 ^ width size → Comes size from to 1
unfolding distance
by-1 B16 from to a b h =
    let x = (to + (2 ^ 64 - from)) % 2 ^ 16 in
    arrives-16 from to (sign_extended 64 (low_bytes 1 x)) a b (comes-1-16 x _ (held-is 1 16 x h) (extended-1 x))
by-1 B32 from to a b h =
    let x = (to + (2 ^ 64 - from)) % 2 ^ 32 in
    arrives-32 from to (sign_extended 64 (low_bytes 1 x)) a b (comes-1-32 x _ (held-is 1 32 x h) (extended-1 x))
by-1 B64 from to a b h =
    let x = (to + (2 ^ 64 - from)) % 2 ^ 64 in
    arrives-64 from to (sign_extended 64 (low_bytes 1 x)) a b (comes-1-64 x _ (held-is 1 64 x h) (extended-1 x))

by-2 : (size : Bits) (from to : ℕ) → from ≤ 2 ^ 64 → to < 2 ^ width size → Comes size from to 2
unfolding distance
by-2 B16 from to a b h =
    let x = (to + (2 ^ 64 - from)) % 2 ^ 16 in
    arrives-16 from to (sign_extended 64 (low_bytes 2 x)) a b (comes-2-16 x _ (held-is 2 16 x h) (extended-2 x))
by-2 B32 from to a b h =
    let x = (to + (2 ^ 64 - from)) % 2 ^ 32 in
    arrives-32 from to (sign_extended 64 (low_bytes 2 x)) a b (comes-2-32 x _ (held-is 2 32 x h) (extended-2 x))
by-2 B64 from to a b h =
    let x = (to + (2 ^ 64 - from)) % 2 ^ 64 in
    arrives-64 from to (sign_extended 64 (low_bytes 2 x)) a b (comes-2-64 x _ (held-is 2 64 x h) (extended-2 x))

by-4 : (size : Bits) (from to : ℕ) → from ≤ 2 ^ 64 → to < 2 ^ width size → Comes size from to 4
unfolding distance
by-4 B16 from to a b h =
    let x = (to + (2 ^ 64 - from)) % 2 ^ 16 in
    arrives-16 from to (sign_extended 64 (low_bytes 4 x)) a b (comes-4-16 x _ (held-is 4 16 x h) (extended-4 x))
by-4 B32 from to a b h =
    let x = (to + (2 ^ 64 - from)) % 2 ^ 32 in
    arrives-32 from to (sign_extended 64 (low_bytes 4 x)) a b (comes-4-32 x _ (held-is 4 32 x h) (extended-4 x))
by-4 B64 from to a b h =
    let x = (to + (2 ^ 64 - from)) % 2 ^ 64 in
    arrives-64 from to (sign_extended 64 (low_bytes 4 x)) a b (comes-4-64 x _ (held-is 4 64 x h) (extended-4 x))

by-length : (size : Bits) (from to n : ℕ) → (n ≡ 1) ⊎ ((n ≡ 2) ⊎ (n ≡ 4)) → from ≤ 2 ^ 64 → to < 2 ^ width size → Comes size from to n
by-length size from to n (inl e) a b = subst (Comes size from to) (sym e) (by-1 size from to a b)
by-length size from to n (inr (inl e)) a b = subst (Comes size from to) (sym e) (by-2 size from to a b)
by-length size from to n (inr (inr e)) a b = subst (Comes size from to) (sym e) (by-4 size from to a b)

-- an address of a size is below 2 to it
address-below : (size : Bits) (x : ℕ) → (modulo_width size x == x) ≡ true → x < 2 ^ width size
address-below B16 x h = let e = eqb-true (modulo_width B16 x) x h in omega (arith, e)
address-below B32 x h = let e = eqb-true (modulo_width B32 x) x h in omega (arith, e)
address-below B64 x h = let e = eqb-true (modulo_width B64 x) x h in omega (arith, e)

-- the address behind the instruction counts modulo 2 to the power of 64, and so to each size
wrapped-end : (size : Bits) (end e : ℕ) → modulo_width size (end + e) ≡ modulo_width size (modulo_width B64 end + e)
wrapped-end B16 end e = omega arith
wrapped-end B32 end e = omega arith
wrapped-end B64 end e = omega arith

end-below : (end : ℕ) → modulo_width B64 end ≤ 2 ^ 64
end-below end = omega arith

-- what the test of a number says
record Fits (bits : Bits) (len at goal : ℕ) (r : Relative) : Type 0 where
  is_address : goal < 2 ^ width (reference_size bits r.to)
  is_held : is_extended_of r.len (width (reference_size bits r.to)) (distance (reference_size bits r.to) (modulo_width B64 (at + len)) goal) ≡ true

fits-are : (bits : Bits) (len at goal : ℕ) (r : Relative) → number_fits bits len at goal r ≡ true → Fits bits len at goal r
unfolding number_fits distance_to
fits-are bits len at goal r h =
    let size = reference_size bits r.to in
    let held = is_extended_of r.len (width size) (distance size (modulo_width B64 (at + len)) goal) in
    let both = and-true (modulo_width size goal == goal) (leb r.len 8 && held) h in
    record {
      is_address = address-below size goal both.0;
      is_held = (and-true (leb r.len 8) held both.1).1;
    }

-- **a number that fits comes to its goal**
pub number-comes : (bits : Bits) (len at goal : ℕ) (r : Relative) → (r.len ≡ 1) ⊎ ((r.len ≡ 2) ⊎ (r.len ≡ 4)) → number_fits bits len at goal r ≡ true →
    modulo_width (reference_size bits r.to) (at + len + sign_extended 64 (low_bytes r.len (distance_to bits len at goal r))) ≡ goal
unfolding distance_to
number-comes bits len at goal r n h =
    let size = reference_size bits r.to in
    let fit = fits-are bits len at goal r h in
    let from = modulo_width B64 (at + len) in
    wrapped-end size (at + len) (sign_extended 64 (low_bytes r.len (distance size from goal)))
    ∙ by-length size from goal r.len n (end-below (at + len)) fit.is_address fit.is_held

-- ---- goals in reach

and-both : (a b : Bool) → a ≡ true → b ≡ true → a && b ≡ true
and-both a b h k = rw (h, k) refl

or-first : (a b : Bool) → a ≡ true → a || b ≡ true
or-first a b h = rw h refl

or-second : (a b : Bool) → b ≡ true → a || b ≡ true
or-second true b h = refl
or-second false b h = h

is-same : (a b : ℕ) → a ≡ b → (a == b) ≡ true
is-same a b e = grind (arith, e)

wrapped-address : (size : Bits) (x : ℕ) → x < 2 ^ width size → modulo_width size x ≡ x
wrapped-address B16 x h = omega (arith, h)
wrapped-address B32 x h = omega (arith, h)
wrapped-address B64 x h = omega (arith, h)

-- bytes that hold all bits hold each number
held-whole : (n w x : ℕ) → x < 2 ^ w → w ≤ 8 * n → is_extended_of n w x ≡ true
unfolding is_extended_of
held-whole n w x h k = and-both _ _ (lt-ltb x (2 ^ w) h) (or-first _ _ (le-leb w (8 * n) k))

-- four bytes hold a number of 64 bits near an edge
held-edge : (x : ℕ) → x < 2 ^ 64 → (2 * x < 2 ^ 32) ⊎ (2 * 2 ^ 64 ≤ 2 * x + 2 ^ 32) → is_extended_of 4 64 x ≡ true
unfolding is_extended_of
held-edge x h (inl k) = and-both _ _ (lt-ltb x (2 ^ 64) h) (or-second (leb 64 (8 * 4)) _ (or-first _ (leb (2 * 2 ^ 64) (2 * x + 2 ^ (8 * 4))) (lt-ltb (2 * x) (2 ^ 32) k)))
held-edge x h (inr k) = and-both _ _ (lt-ltb x (2 ^ 64) h) (or-second (leb 64 (8 * 4)) _ (or-second (ltb (2 * x) (2 ^ (8 * 4))) _ (le-leb (2 * 2 ^ 64) (2 * x + 2 ^ 32) k)))

edge : (end goal : ℕ) → end ≤ 2 ^ 64 → goal < 2 ^ 64 → end ≤ goal + 2 ^ 31 → goal < end + 2 ^ 31 → (order : (end ≤ goal) ⊎ (goal < end)) →
    let x = (goal + (2 ^ 64 - end % 2 ^ 64)) % 2 ^ 64 in (2 * x < 2 ^ 32) ⊎ (2 * 2 ^ 64 ≤ 2 * x + 2 ^ 32)
edge end goal a b c d (inl o) = inl (omega (arith, a, b, c, d, o))
edge end goal a b c d (inr o) = inr (omega (arith, a, b, c, d, o))

order : (a b : ℕ) (test : Bool) → leb a b ≡ test → (a ≤ b) ⊎ (b < a)
order a b true h = inl (leb-true a b h)
order a b false h = inr (leb-false a b h)

-- what a number of a size needs
abbrev Near : Bits → ℕ → ℕ → Type 0
Near size end goal = size ≡ B64 → (end ≤ 2 ^ 64) × (end ≤ goal + 2 ^ 31) × (goal < end + 2 ^ 31)

near-held : (size : Bits) (n end goal : ℕ) → (n ≡ 4) ⊎ ((n ≡ 2) × (size ≡ B16)) → goal < 2 ^ width size → Near size end goal →
    is_extended_of n (width size) (distance size (modulo_width B64 end) goal) ≡ true
unfolding distance
near-held B16 n end goal (inl e) small near = held-whole n 16 _ (omega arith) (omega (arith, e))
near-held B16 n end goal (inr e) small near = held-whole n 16 _ (omega arith) (omega (arith, e.0))
near-held B32 n end goal (inl e) small near = held-whole n 32 _ (omega arith) (omega (arith, e))
near-held B32 n end goal (inr e) small near = absurd (no e.1)
  where
    no : B32 ≡ B16 → ⊥
    no h = cc
near-held B64 n end goal (inl e) small near =
    let h = near refl in
    rw e (held-edge ((goal + (2 ^ 64 - end % 2 ^ 64)) % 2 ^ 64) (omega arith) (edge end goal h.0 small h.1 h.2 (order end goal (leb end goal) refl)))
near-held B64 n end goal (inr e) small near = absurd (no e.1)
  where
    no : B64 ≡ B16 → ⊥
    no h = cc

few : (n : ℕ) (size : Bits) → (n ≡ 4) ⊎ ((n ≡ 2) × (size ≡ B16)) → leb n 8 ≡ true
few n size (inl e) = rw e refl
few n size (inr e) = rw e.0 refl

-- **a number fits for a goal in reach**
pub near-fits : NearGoalsFit
unfolding number_fits distance_to
near-fits bits len at goal r n small near =
    let size = reference_size bits r.to in
    and-both _ _ (is-same (modulo_width size goal) goal (wrapped-address size goal small))
    (and-both _ _ (few r.len size n) (near-held size r.len (at + len) goal n small near))
