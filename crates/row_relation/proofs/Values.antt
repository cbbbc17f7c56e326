-- Bytes of one length that give the same value are the same bytes.
use Rattle.std.proofs.Common.{◌≡◌, ◌⊎◌, inl, inr, ℕ, zero, suc, ◌+◌, ◌-◌, ◌*◌, ◌/◌, ◌%◌, ◌^◌, ◌<◌, ◌≤◌, Bool, true, false, nat_lt, List, [], ◌∷◌, length, refl, ap, sym, ◌∙◌, subst, arith, if◌then◌else◌}
use Rattle.std.proofs.lemmas.Bool.{ltb-true, ltb-false, and_parts, cases_Bool}
use Rattle.std.proofs.lemmas.Nat.{pow-add, pow_pos}
use Rattle.std.proofs.Math.Nat.{mod-eq_of_lt, mod-lt, add-mul-mod_self_left, mul_comm, mul_assoc, suc-mul, div-add-mod, add-mod-mod, mod-add-mod}
use Rattle.x86_values.specs.declared.Bits.{Bits}
use Rattle.x86_values.specs.Wrapping.{width}
use Rattle.row_fit.specs.Fits.{are_bytes}
use Rattle.row_meaning.specs.Meaning.{little_endian, sign_extended, target_of}
use Rattle.row_relation.proofs.WrittenValues.{little_endian-below}

-- ---- as they are

first_same : (x y m n : ℕ) → x < 256 → y < 256 → x + 256 * m ≡ y + 256 * n → x ≡ y
first_same x y m n hx hy h = omega arith

rest_same : (x y m n : ℕ) → x < 256 → y < 256 → x + 256 * m ≡ y + 256 * n → m ≡ n
rest_same x y m n hx hy h = omega arith

-- bytes of one number and length are the same
pub value_same : (a b : List ℕ) → length a ≡ length b → are_bytes a ≡ true → are_bytes b ≡ true → little_endian a ≡ little_endian b → a ≡ b
unfolding little_endian
value_same [] [] n ha hb h = refl
value_same [] (y ∷ b) n ha hb h = absurd (omega arith)
value_same (x ∷ a) [] n ha hb h = absurd (omega arith)
value_same (x ∷ a) (y ∷ b) n ha hb h =
    let hx : x < 256 = ltb-true x 256 (and_parts (nat_lt x 256) _ ha).0 in
    let hy : y < 256 = ltb-true y 256 (and_parts (nat_lt y 256) _ hb).0 in
    let e = first_same x y (little_endian a) (little_endian b) hx hy h in
    let rest = value_same a b (omega arith) (and_parts (nat_lt x 256) (are_bytes a) ha).1 (and_parts (nat_lt y 256) (are_bytes b) hb).1 (rest_same x y (little_endian a) (little_endian b) hx hy h) in
    ap (λ (z : ℕ). z ∷ a) e ∙ ap (λ (z : List ℕ). y ∷ z) rest

-- ---- sign-extended

-- a remainder of a remainder
mod_of_multiple : (p k x : ℕ) → x % (p * k) % p ≡ x % p
mod_of_multiple p k x =
    let t = p * k in
    let whole : t * (x / t) + x % t ≡ x = div-add-mod x t in
    let more : t * (x / t) ≡ p * (k * (x / t)) = mul_assoc p k (x / t) in
    let parts : x ≡ x % t + p * (k * (x / t)) = omega arith in
    sym (ap (λ n. n % p) parts ∙ add-mul-mod_self_left (x % t) p (k * (x / t)))

less_one : (p j : ℕ) → 0 < j → p * j - p ≡ p * (j - 1)
less_one p zero h = absurd (omega arith)
less_one p (suc j) h =
    let e : p * suc j ≡ j * p + p = mul_comm p (suc j) ∙ suc-mul j p in
    let k : j * p ≡ p * j = mul_comm j p in
    let z : suc j - 1 ≡ j = omega arith in
    let y : p * (suc j - 1) ≡ p * j = ap (λ (n : ℕ). p * n) z in
    omega arith

cut_back : (test : Bool) (p k j x : ℕ) → x < p → 0 < j → (if test then x % (p * k) else (x + (p * j - p)) % (p * k)) % p ≡ x
cut_back true p k j x small some = mod_of_multiple p k x ∙ mod-eq_of_lt small
cut_back false p k j x small some =
    mod_of_multiple p k (x + (p * j - p)) ∙ ap (λ (n : ℕ). (x + n) % p) (less_one p j some) ∙ add-mul-mod_self_left x p (j - 1) ∙ mod-eq_of_lt small

-- a power is a smaller one, so many times
pow_times : (m n : ℕ) → m ≤ n → 2 ^ n ≡ 2 ^ m * 2 ^ (n - m)
pow_times m n h = let e : n ≡ m + (n - m) = omega arith in ap (λ k. 2 ^ k) e ∙ pow-add 2 m (n - m)

by_powers : (test : Bool) (p t w k j x : ℕ) → t ≡ p * j → w ≡ p * k → x < p → 0 < j → (if test then x % w else (x + (t - p)) % w) % p ≡ x
by_powers test p t w k j x ht hw small some = rw (ht, hw) (cut_back test p k j x small some)

-- the low bits of a sign-extended number are its own
low_of_extended : (w : ℕ) (d : List ℕ) → 8 * length d ≤ w → w ≤ 64 → are_bytes d ≡ true → sign_extended w d % 2 ^ (8 * length d) ≡ little_endian d
unfolding sign_extended
low_of_extended w d h hw b =
    by_powers (nat_lt (2 * little_endian d) (2 ^ (8 * length d))) (2 ^ (8 * length d)) (2 ^ 64) (2 ^ w) (2 ^ (w - 8 * length d)) (2 ^ (64 - 8 * length d)) (little_endian d)
    (pow_times (8 * length d) 64 (omega arith)) (pow_times (8 * length d) w h) (little_endian-below d b) (pow_pos (64 - 8 * length d))

-- so are bytes whose sign-extended numbers are equal
pub extended_same : (w : ℕ) (a b : List ℕ) → length a ≡ length b → 8 * length a ≤ w → w ≤ 64 → are_bytes a ≡ true → are_bytes b ≡ true → sign_extended w a ≡ sign_extended w b → a ≡ b
extended_same w a b n h hw ha hb e =
    let low : little_endian a ≡ little_endian b =
    sym (low_of_extended w a h hw ha) ∙ ap (λ (x : ℕ). x % 2 ^ (8 * length a)) e ∙ ap (λ (k : ℕ). sign_extended w b % 2 ^ (8 * k)) n ∙ low_of_extended w b (omega arith) hw hb in
    value_same a b n ha hb low

-- ---- added to an address

mod_once : (p z : ℕ) → z < p + p → (z % p ≡ z) ⊎ ((z % p + p ≡ z) × (p ≤ z))
mod_once p z h = elim (cases_Bool (nat_lt z p)) [
  | inl low ↦ inl (mod-eq_of_lt (ltb-true z p low))
  | inr high ↦ (let le : p ≤ z = ltb-false z p high in
      let parts : z ≡ (z - p) + p * 1 = omega arith in
      let small : z - p < p = omega arith in
      let e : z % p ≡ z - p = ap (λ (n : ℕ). n % p) parts ∙ add-mul-mod_self_left (z - p) p 1 ∙ mod-eq_of_lt small in
      inr (omega arith, le))
]

add_same : (p r x y : ℕ) → r < p → x < p → y < p → (r + x) % p ≡ (r + y) % p → x ≡ y
add_same p r x y hr hx hy e =
    let bx : r + x < p + p = omega arith in
    let by_ : r + y < p + p = omega arith in
    elim (mod_once p (r + x) bx) [
      | inl a ↦ elim (mod_once p (r + y) by_) [
        | inl b ↦ omega arith
        | inr b ↦ (let b0 = b.0 in let b1 = b.1 in let m : (r + x) % p < p = mod-lt (r + x) (omega arith) in omega arith)
      ]
      | inr a ↦ elim (mod_once p (r + y) by_) [
        | inl b ↦ (let a0 = a.0 in let a1 = a.1 in let m : (r + y) % p < p = mod-lt (r + y) (omega arith) in omega arith)
        | inr b ↦ (let a0 = a.0 in let b0 = b.0 in omega arith)
      ]
    ]

-- the sum by its remainders
sum_low : (p next s x : ℕ) → s % p ≡ x → (next + s) % p ≡ (next % p + x) % p
sum_low p next s x e =
    sym (add-mod-mod next s p) ∙ ap (λ (n : ℕ). (next + n) % p) e ∙ sym (mod-add-mod next p x)

target_low : (size : Bits) (next : ℕ) (d : List ℕ) → 8 * length d ≤ width size → width size ≤ 64 → are_bytes d ≡ true → target_of size next d % 2 ^ (8 * length d) ≡ (next % 2 ^ (8 * length d) + little_endian d) % 2 ^ (8 * length d)
target_low size next d h hw b =
    let p = 2 ^ (8 * length d) in
    let s = sign_extended 64 d in
    let w : 2 ^ width size ≡ p * 2 ^ (width size - 8 * length d) = pow_times (8 * length d) (width size) h in
    ap (λ (n : ℕ). (next + s) % n % p) w ∙ mod_of_multiple p (2 ^ (width size - 8 * length d)) (next + s)
    ∙ sum_low p next s (little_endian d) (low_of_extended 64 d (omega arith) (omega arith) b)

-- so are distances to one target
pub target_same : (size : Bits) (next : ℕ) (a b : List ℕ) → length a ≡ length b → 8 * length a ≤ width size → width size ≤ 64 → are_bytes a ≡ true → are_bytes b ≡ true → target_of size next a ≡ target_of size next b → a ≡ b
target_same size next a b n h hw ha hb e =
    let p = 2 ^ (8 * length a) in
    let one : (next % p + little_endian a) % p ≡ target_of size next a % p = sym (target_low size next a h hw ha) in
    let two : target_of size next b % p ≡ (next % p + little_endian b) % p =
    subst (λ (k : ℕ). target_of size next b % 2 ^ (8 * k) ≡ (next % 2 ^ (8 * k) + little_endian b) % 2 ^ (8 * k)) (sym n) (target_low size next b (omega arith) hw hb) in
    let small : little_endian b < p = subst (λ (k : ℕ). little_endian b < 2 ^ (8 * k)) (sym n) (little_endian-below b hb) in
    value_same a b n ha hb (add_same p (next % p) (little_endian a) (little_endian b) (mod-lt next (pow_pos (8 * length a))) (little_endian-below a ha) small (one ∙ ap (λ (x : ℕ). x % p) e ∙ two))
