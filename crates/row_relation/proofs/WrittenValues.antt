-- Numbers in bytes, written and read back.
use Rattle.std.proofs.Common.{◌≡◌, inl, inr, ℕ, zero, suc, ◌+◌, ◌-◌, ◌*◌, ◌/◌, ◌%◌, ◌^◌, ◌<◌, ◌≤◌, Bool, true, false, ◌||◌, nat_lt, nat_le, List, [], ◌∷◌, length, refl, ap, sym, ◌∙◌, arith, if◌then◌else◌}
use Rattle.instruction_parts.proofs.Tests.{or_right}
use Rattle.std.proofs.Math.Bool.{or-true}
use Rattle.std.proofs.lemmas.Bool.{ltb-true, ltb-false, lt-ltb, le-ltb, leb-true, leb-false, le-leb, lt-leb, and_parts, cases_Bool}
use Rattle.std.proofs.lemmas.Nat.{pow-add, pow_pos, mod-pow-add, mod-mul-add}
use Rattle.std.proofs.Math.Nat.{mod-eq_of_lt, mod-lt, mod-one, add-mul-mod_self_left, mul-sub, mul_comm, mul_assoc, suc-mul, div-add-mod, add-mod-mod, mod-add-mod}
use Rattle.std.proofs.Math.Pow.{pow_mono}
use Rattle.x86_values.specs.declared.Bits.{Bits}
use Rattle.x86_values.specs.declared.Bits.TheVariants.{B16, B32, B64}
use Rattle.x86_values.specs.Wrapping.{width}
use Rattle.row_fit.specs.Fits.{are_bytes}
use Rattle.row_meaning.specs.Meaning.{little_endian, sign_extended, target_of}
use Rattle.plain_spelling.specs.Values.{low_bytes, is_extended_of, distance}

-- ---- the bytes

-- the n low bytes of a number are n
pub low_bytes-length : (n x : ℕ) → length (low_bytes n x) ≡ n
unfolding low_bytes
low_bytes-length zero x = refl
low_bytes-length (suc n) x = ap suc (low_bytes-length n (x / 256))

-- they are bytes
pub low_bytes-bytes : (n x : ℕ) → are_bytes (low_bytes n x) ≡ true
unfolding low_bytes
low_bytes-bytes zero x = refl
low_bytes-bytes (suc n) x = rw (lt-ltb (x % 256) 256 (omega arith)) (low_bytes-bytes n (x / 256))

-- one more byte
next_byte : (n x r : ℕ) → r ≡ x / 256 % 2 ^ (8 * n) → x % 256 + 256 * r ≡ x % 2 ^ (8 * suc n)
next_byte n x r e =
    let e8 : 8 * suc n ≡ 8 * n + 8 = omega arith in
    let m : x % 2 ^ (8 * n + 8) ≡ (x / 256 % 2 ^ (8 * n)) * 256 + x % 256 = mod-pow-add x (8 * n) 8 in
    rw e8 (omega arith)

-- the low bytes are the number modulo their range
pub little_endian-low_bytes-mod : (n x : ℕ) → little_endian (low_bytes n x) ≡ x % 2 ^ (8 * n)
unfolding low_bytes little_endian
little_endian-low_bytes-mod zero x = sym (mod-one x)
little_endian-low_bytes-mod (suc n) x = next_byte n x _ (little_endian-low_bytes-mod n (x / 256))

-- and their number is the number that they are of
pub little_endian-low_bytes : (n x : ℕ) → x < 2 ^ (8 * n) → little_endian (low_bytes n x) ≡ x
little_endian-low_bytes n x h = little_endian-low_bytes-mod n x ∙ mod-eq_of_lt h

-- one more byte in front of others
step : (n b r : ℕ) → b < 256 → r < 2 ^ (8 * n) → b + 256 * r < 2 ^ (8 * suc n)
step n b r hb hr =
    let e8 : 8 * suc n ≡ 8 * n + 8 = omega arith in
    let p : 2 ^ (8 * n + 8) ≡ 2 ^ (8 * n) * 256 = pow-add 2 (8 * n) 8 in
    rw e8 (omega arith)

-- n bytes make a number below 256 to the n
pub little_endian-below : (bytes : List ℕ) → are_bytes bytes ≡ true → little_endian bytes < 2 ^ (8 * length bytes)
unfolding little_endian
little_endian-below [] h = omega arith
little_endian-below (b ∷ bytes) h =
    step (length bytes) b (little_endian bytes) (ltb-true b 256 (and_parts (nat_lt b 256) (are_bytes bytes) h).0)
    (little_endian-below bytes (and_parts (nat_lt b 256) (are_bytes bytes) h).1)

-- ---- sign extension

-- v, which stands for a signed number of the range p, modulo w; t is a multiple of both
abbrev signed : ℕ → ℕ → ℕ → ℕ → ℕ
signed t p w v = if nat_lt (2 * v) p then v % w else (v + (t - p)) % w

signed_low : (t p w v : ℕ) → 2 * v < p → v < w → signed t p w v ≡ v
signed_low t p w v low small = rw (lt-ltb (2 * v) p low) (mod-eq_of_lt small)

-- a number that its bytes hold without a sign
signed_wide : (t p w c v : ℕ) → t - p ≡ w * c → v < w → signed t p w v ≡ v
signed_wide t p w c v e small = elim (cases_Bool (nat_lt (2 * v) p)) [
  | inl low ↦ rw low (mod-eq_of_lt small)
  | inr high ↦ rw high (rw e (add-mul-mod_self_left v w c ∙ mod-eq_of_lt small))
]

-- a number k below the end of the range
signed_high : (t p w c k v : ℕ) → t ≡ c * w + w → p ≤ t → v + k ≡ p → 1 ≤ k → 2 * k ≤ p → k ≤ w → signed t p w v ≡ w - k
signed_high t p w c k v e le sum some half small =
    let far : v + (t - p) ≡ c * w + (w - k) = omega arith in
    rw (le-ltb (2 * v) p (omega arith)) (rw far (mod-mul-add c w (w - k) (omega arith)))

signed_below : (t p w v : ℕ) → 0 < w → signed t p w v < w
signed_below t p w v some = elim (cases_Bool (nat_lt (2 * v) p)) [
  | inl low ↦ rw low (mod-lt v some)
  | inr high ↦ rw high (mod-lt (v + (t - p)) some)
]

-- a remainder of a remainder
mod-of_multiple : (t w a x : ℕ) → t ≡ w * a → x % t % w ≡ x % w
mod-of_multiple t w a x e =
    let whole : t * (x / t) + x % t ≡ x = div-add-mod x t in
    let more : t * (x / t) ≡ w * (a * (x / t)) = ap (λ n. n * (x / t)) e ∙ mul_assoc w a (x / t) in
    let parts : x ≡ x % t + w * (a * (x / t)) = omega arith in
    sym (ap (λ n. n % w) parts ∙ add-mul-mod_self_left (x % t) w (a * (x / t)))

-- the same number modulo a smaller power
signed_cut : (t p w a v : ℕ) → t ≡ w * a → signed t p t v % w ≡ signed t p w v
signed_cut t p w a v e = elim (cases_Bool (nat_lt (2 * v) p)) [
  | inl low ↦ rw low (mod-of_multiple t w a v e)
  | inr high ↦ rw high (mod-of_multiple t w a (v + (t - p)) e)
]

-- what a test of its range says
abbrev is_signed : ℕ → ℕ → ℕ → Bool
is_signed p w x = nat_lt (2 * x) p || nat_le (2 * w) (2 * x + p)

-- a number that its bytes hold with a sign
signed_narrow : (t p w b c x : ℕ) → w ≡ b * p + p → t ≡ c * w + w → p ≤ t → 0 < p → x < w → is_signed p w x ≡ true → signed t p w (x % p) ≡ x
signed_narrow t p w b c x e f le some small h = elim (cases_Bool (nat_lt (2 * x) p)) [
  | inl low ↦
      let half = ltb-true (2 * x) p low in
      let same : x % p ≡ x = mod-eq_of_lt (omega arith) in
      rw same (signed_low t p w x half small)
  | inr high ↦
      let top : 2 * w ≤ 2 * x + p = leb-true (2 * w) (2 * x + p) (or_right (nat_lt (2 * x) p) (nat_le (2 * w) (2 * x + p)) high h) in
      let parts : x ≡ b * p + (p - (w - x)) = omega arith in
      let rest : x % p ≡ p - (w - x) = ap (λ n. n % p) parts ∙ mod-mul-add b p (p - (w - x)) (omega arith) in
      let k : p - (w - x) + (w - x) ≡ p = omega arith in
      let back : w - (w - x) ≡ x = omega arith in
      rw rest (signed_high t p w c (w - x) (p - (w - x)) f le k (omega arith) (omega arith) (omega arith) ∙ back)
]

-- the other way round: a signed number is in its range
signed_in_range : (t p w b c v : ℕ) → w ≡ b * p + p → t ≡ c * w + w → p ≤ t → p ≤ w → v < p → is_signed p w (signed t p w v) ≡ true
signed_in_range t p w b c v e f le fits below = elim (cases_Bool (nat_lt (2 * v) p)) [
  | inl low ↦
      let half = ltb-true (2 * v) p low in
      rw (signed_low t p w v half (omega arith)) (rw low)
  | inr high ↦
      let half = ltb-false (2 * v) p high in
      let is : signed t p w v ≡ w - (p - v) = signed_high t p w c (p - v) v f le (omega arith) (omega arith) (omega arith) (omega arith) in
      let top : nat_le (2 * w) (2 * (w - (p - v)) + p) ≡ true = le-leb (2 * w) (2 * (w - (p - v)) + p) (omega arith) in
      rw is (rw top (or-true (nat_lt (2 * (w - (p - v))) p)))
]

-- ---- powers of 2

-- a power is a smaller one, so many times
pow_times : (m n : ℕ) → m ≤ n → 2 ^ n ≡ 2 ^ m * 2 ^ (n - m)
pow_times m n h = let e : n ≡ m + (n - m) = omega arith in ap (λ k. 2 ^ k) e ∙ pow-add 2 m (n - m)

one_more : (x y : ℕ) → 0 < y → x * y ≡ (y - 1) * x + x
one_more x zero h = absurd (omega arith)
one_more x (suc y) h = let e : suc y - 1 ≡ y = omega arith in rw e (rw (mul_comm x (suc y)) (suc-mul y x))

-- the same with one time apart
pow_more : (m n : ℕ) → m ≤ n → 2 ^ n ≡ (2 ^ (n - m) - 1) * 2 ^ m + 2 ^ m
pow_more m n h = pow_times m n h ∙ one_more (2 ^ m) (2 ^ (n - m)) (pow_pos (n - m))

-- what is left between two multiples
pow_rest : (w p : ℕ) → w ≤ p → p ≤ 64 → 2 ^ 64 - 2 ^ p ≡ 2 ^ w * (2 ^ (64 - w) - 2 ^ (p - w))
pow_rest w p h k =
    let a : 2 ^ 64 ≡ 2 ^ w * 2 ^ (64 - w) = pow_times w 64 (omega arith) in
    let b : 2 ^ p ≡ 2 ^ w * 2 ^ (p - w) = pow_times w p h in
    let c : 2 ^ w * (2 ^ (64 - w) - 2 ^ (p - w)) ≡ 2 ^ w * 2 ^ (64 - w) - 2 ^ w * 2 ^ (p - w) = mul-sub (2 ^ w) (2 ^ (64 - w)) (2 ^ (p - w)) in
    omega arith

-- ---- immediates

-- a number of n bytes, sign-extended to a width
extended_value : (n w v : ℕ) → ℕ
extended_value n w v = signed (2 ^ 64) (2 ^ (8 * n)) (2 ^ w) v

sign_extended-value : (w : ℕ) (bytes : List ℕ) → sign_extended w bytes ≡ extended_value (length bytes) w (little_endian bytes)
unfolding sign_extended extended_value
sign_extended-value w bytes = refl

extended_of_low : (n w x : ℕ) → n ≤ 8 → w ≤ 64 → is_extended_of n w x ≡ true → extended_value n w (x % 2 ^ (8 * n)) ≡ x
unfolding extended_value is_extended_of
extended_of_low n w x hn hw h =
    let fits = ltb-true x (2 ^ w) (and_parts (nat_lt x (2 ^ w)) (nat_le w (8 * n) || is_signed (2 ^ (8 * n)) (2 ^ w) x) h).0 in
    let more = (and_parts (nat_lt x (2 ^ w)) (nat_le w (8 * n) || is_signed (2 ^ (8 * n)) (2 ^ w) x) h).1 in
    let top : 2 ^ (8 * n) ≤ 2 ^ 64 = pow_mono (let k : 8 * n ≤ 64 = omega arith in k) in
    elim (cases_Bool (nat_le w (8 * n))) [
      | inl wide ↦
          let le : w ≤ 8 * n = leb-true w (8 * n) wide in
          let mono : 2 ^ w ≤ 2 ^ (8 * n) = pow_mono le in
          let same : x % 2 ^ (8 * n) ≡ x = mod-eq_of_lt (omega arith) in
          rw same (signed_wide (2 ^ 64) (2 ^ (8 * n)) (2 ^ w) _ x (pow_rest w (8 * n) le (omega arith)) fits)
      | inr narrow ↦
          let lt : 8 * n < w = leb-false w (8 * n) narrow in
          signed_narrow (2 ^ 64) (2 ^ (8 * n)) (2 ^ w) _ _ x (pow_more (8 * n) w (omega arith)) (pow_more w 64 hw) top (pow_pos (8 * n)) fits
          (or_right (nat_le w (8 * n)) (is_signed (2 ^ (8 * n)) (2 ^ w) x) narrow more)
    ]

-- **a number that n bytes hold is what its low n bytes give, sign-extended**
pub sign_extended-low_bytes : (n w x : ℕ) → n ≤ 8 → w ≤ 64 → is_extended_of n w x ≡ true → sign_extended w (low_bytes n x) ≡ x
sign_extended-low_bytes n w x hn hw h =
    sign_extended-value w (low_bytes n x)
    ∙ ap (λ k. extended_value k w (little_endian (low_bytes n x))) (low_bytes-length n x)
    ∙ ap (λ v. extended_value n w v) (little_endian-low_bytes-mod n x)
    ∙ extended_of_low n w x hn hw h

in_width : (n w x : ℕ) → x < 2 ^ w → (nat_le w (8 * n) || is_signed (2 ^ (8 * n)) (2 ^ w) x) ≡ true → is_extended_of n w x ≡ true
unfolding is_extended_of
in_width n w x h k = rw (lt-ltb x (2 ^ w) h) k

extended_value-below : (n w v : ℕ) → extended_value n w v < 2 ^ w
unfolding extended_value
extended_value-below n w v = signed_below (2 ^ 64) (2 ^ (8 * n)) (2 ^ w) v (pow_pos w)

in_range : (n w v : ℕ) → n ≤ 8 → w ≤ 64 → v < 2 ^ (8 * n) → (nat_le w (8 * n) || is_signed (2 ^ (8 * n)) (2 ^ w) (extended_value n w v)) ≡ true
unfolding extended_value
in_range n w v hn hw h =
    let top : 2 ^ (8 * n) ≤ 2 ^ 64 = pow_mono (let k : 8 * n ≤ 64 = omega arith in k) in
    elim (cases_Bool (nat_le w (8 * n))) [
      | inl wide ↦ rw wide
      | inr narrow ↦
          let lt : 8 * n < w = leb-false w (8 * n) narrow in
          let mono : 2 ^ (8 * n) ≤ 2 ^ w = pow_mono (let k : 8 * n ≤ w = omega arith in k) in
          rw narrow (signed_in_range (2 ^ 64) (2 ^ (8 * n)) (2 ^ w) _ _ v (pow_more (8 * n) w (omega arith)) (pow_more w 64 hw) top mono h)
    ]

extended_value-suits : (n w v : ℕ) → n ≤ 8 → w ≤ 64 → v < 2 ^ (8 * n) → is_extended_of n w (extended_value n w v) ≡ true
extended_value-suits n w v hn hw h = in_width n w _ (extended_value-below n w v) (in_range n w v hn hw h)

-- **what bytes give sign-extended is a number that as many bytes hold**
pub sign_extended-is_extended : (w : ℕ) (bytes : List ℕ) → length bytes ≤ 8 → w ≤ 64 → are_bytes bytes ≡ true → is_extended_of (length bytes) w (sign_extended w bytes) ≡ true
sign_extended-is_extended w bytes hn hw h =
    rw (sign_extended-value w bytes) (extended_value-suits (length bytes) w (little_endian bytes) hn hw (little_endian-below bytes h))

-- a larger range holds as much
signed_more : (p q w x : ℕ) → p ≤ q → is_signed p w x ≡ true → is_signed q w x ≡ true
signed_more p q w x le h = elim (cases_Bool (nat_lt (2 * x) p)) [
  | inl low ↦
      let half = ltb-true (2 * x) p low in
      let half_more : nat_lt (2 * x) q ≡ true = lt-ltb (2 * x) q (omega arith) in
      rw half_more
  | inr high ↦
      let top = leb-true (2 * w) (2 * x + p) (or_right (nat_lt (2 * x) p) (nat_le (2 * w) (2 * x + p)) high h) in
      let top_more : nat_le (2 * w) (2 * x + q) ≡ true = le-leb (2 * w) (2 * x + q) (omega arith) in
      rw top_more (or-true (nat_lt (2 * x) q))
]

-- what some bytes hold more bytes hold
pub is_extended-more : (n m w x : ℕ) → n ≤ m → is_extended_of n w x ≡ true → is_extended_of m w x ≡ true
unfolding is_extended_of
is_extended-more n m w x le h =
    let fits = (and_parts (nat_lt x (2 ^ w)) (nat_le w (8 * n) || is_signed (2 ^ (8 * n)) (2 ^ w) x) h).0 in
    let rest = (and_parts (nat_lt x (2 ^ w)) (nat_le w (8 * n) || is_signed (2 ^ (8 * n)) (2 ^ w) x) h).1 in
    let mono : 2 ^ (8 * n) ≤ 2 ^ (8 * m) = pow_mono (let k : 8 * n ≤ 8 * m = omega arith in k) in
    elim (cases_Bool (nat_le w (8 * m))) [
      | inl wide ↦ rw (fits, wide)
      | inr narrow ↦
          let lt : 8 * m < w = leb-false w (8 * m) narrow in
          let fewer : nat_le w (8 * n) ≡ false = lt-leb w (8 * n) (omega arith) in
          rw (fits, narrow) (signed_more (2 ^ (8 * n)) (2 ^ (8 * m)) (2 ^ w) x mono (or_right (nat_le w (8 * n)) (is_signed (2 ^ (8 * n)) (2 ^ w) x) fewer rest))
    ]

-- ---- targets

-- the address at a signed distance from another one
reached : (t w next s target d : ℕ) → next ≤ t → target < w → t % w ≡ 0 → s % w ≡ d → d ≡ (target + (t - next)) % w → (next + s) % w ≡ target
reached t w next s target d le lt whole es ed =
    let a : (next + s) % w ≡ (next + s % w) % w = sym (add-mod-mod next s w) in
    let b : (next + s % w) % w ≡ (next + (target + (t - next)) % w) % w = ap (λ k. (next + k) % w) (es ∙ ed) in
    let c : (next + (target + (t - next)) % w) % w ≡ (next + (target + (t - next))) % w = add-mod-mod next (target + (t - next)) w in
    let e : next + (target + (t - next)) ≡ target + t = omega arith in
    let f : (target + t) % w ≡ (target + t % w) % w = sym (add-mod-mod target t w) in
    let g : target + t % w ≡ target = omega arith in
    a ∙ b ∙ c ∙ ap (λ k. k % w) e ∙ f ∙ ap (λ k. k % w) g ∙ mod-eq_of_lt lt

-- the distance to the address at a signed distance
come_back : (t w next s : ℕ) → next ≤ t → t % w ≡ 0 → ((next + s) % w + (t - next)) % w ≡ s % w
come_back t w next s le whole =
    let a : ((next + s) % w + (t - next)) % w ≡ (next + s + (t - next)) % w = mod-add-mod (next + s) w (t - next) in
    let b : next + s + (t - next) ≡ s + t = omega arith in
    let c : (s + t) % w ≡ (s + t % w) % w = sym (add-mod-mod s t w) in
    let d : s + t % w ≡ s = omega arith in
    a ∙ ap (λ k. k % w) b ∙ c ∙ ap (λ k. k % w) d

-- modulo a size, 64 bits of sign are as many as the size
value_cut : (size : Bits) (n v : ℕ) → extended_value n 64 v % 2 ^ width size ≡ extended_value n (width size) v
unfolding extended_value
value_cut B16 n v = signed_cut (2 ^ 64) (2 ^ (8 * n)) (2 ^ 16) (2 ^ 48) v refl
value_cut B32 n v = signed_cut (2 ^ 64) (2 ^ (8 * n)) (2 ^ 32) (2 ^ 32) v refl
value_cut B64 n v = signed_cut (2 ^ 64) (2 ^ (8 * n)) (2 ^ 64) 1 v refl

sign_cut : (size : Bits) (bytes : List ℕ) → sign_extended 64 bytes % 2 ^ width size ≡ sign_extended (width size) bytes
sign_cut size bytes =
    ap (λ k. k % 2 ^ width size) (sign_extended-value 64 bytes) ∙ value_cut size (length bytes) (little_endian bytes)
    ∙ sym (sign_extended-value (width size) bytes)

-- a size has at most 64 bits
pub width-le : (size : Bits) → width size ≤ 64
width-le B16 = omega arith
width-le B32 = omega arith
width-le B64 = omega arith

width-divides : (size : Bits) → 2 ^ 64 % 2 ^ width size ≡ 0
width-divides B16 = refl
width-divides B32 = refl
width-divides B64 = refl

-- **the low bytes of the distance to a target come to the target**
pub target-of-distance : (size : Bits) (n next target : ℕ) → n ≤ 8 → next < 2 ^ 64 → target < 2 ^ width size → is_extended_of n (width size) (distance size next target) ≡ true → target_of size next (low_bytes n (distance size next target)) ≡ target
unfolding distance
target-of-distance size n next target hn below lt h =
    reached (2 ^ 64) (2 ^ width size) next (sign_extended 64 (low_bytes n (distance size next target))) target (distance size next target)
    (omega arith) lt (width-divides size)
    (sign_cut size (low_bytes n (distance size next target)) ∙ sign_extended-low_bytes n (width size) (distance size next target) hn (width-le size) h)
    refl

distance-is : (size : Bits) (next : ℕ) (bytes : List ℕ) → next < 2 ^ 64 → distance size next (target_of size next bytes) ≡ sign_extended (width size) bytes
unfolding distance
distance-is size next bytes below =
    come_back (2 ^ 64) (2 ^ width size) next (sign_extended 64 bytes) (omega arith) (width-divides size) ∙ sign_cut size bytes

-- **the distance to what bytes come to is a number that as many bytes hold**
pub distance-of-target : (size : Bits) (next : ℕ) (bytes : List ℕ) → length bytes ≤ 8 → next < 2 ^ 64 → are_bytes bytes ≡ true → is_extended_of (length bytes) (width size) (distance size next (target_of size next bytes)) ≡ true
distance-of-target size next bytes hn below h =
    rw (distance-is size next bytes below) (sign_extended-is_extended (width size) bytes hn (width-le size) h)

-- a target is an address of its size
pub target-below : (size : Bits) (next : ℕ) (bytes : List ℕ) → target_of size next bytes < 2 ^ width size
target-below size next bytes = mod-lt (next + sign_extended 64 bytes) (pow_pos (width size))
