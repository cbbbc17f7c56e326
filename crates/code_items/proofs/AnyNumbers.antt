-- The number that an instruction without a row has at its place refers to its goal.
use Rattle.std.proofs.Common.{◌≡◌, ℕ, ◌+◌, ◌-◌, ◌*◌, ◌/◌, ◌%◌, ◌^◌, ◌≤◌, ◌<◌, ◌⊎◌, inl, inr, Bool, true, false, Some, nat_lt, refl, sym, ap, subst, arith}
use Rattle.std.specs.Prelude.{if◌then◌else◌, ◌==◌, ◌||◌}
use Rattle.std.proofs.lemmas.Bool.{ltb-true, ltb-false, eqb-true}
use Rattle.x86_values.specs.declared.Bits.{Bits}
use Rattle.x86_values.specs.declared.Bits.TheVariants.{B16, B32, B64}
use Rattle.x86_values.specs.Wrapping.{width, modulo_width}
use Rattle.row_meaning.specs.Meaning.{little_endian, sign_extended}
use Rattle.plain_spelling.specs.Values.{low_bytes, distance}
use Rattle.unlisted.specs.declared.Reference.{Reference}
use Rattle.unlisted.specs.declared.Reference.TheVariants.{Rip, Eip, Branch as ToBranch}
use Rattle.instruction_parts.specs.Counting.{is_16}
use Rattle.unlisted.specs.Measured.{reference_size}
use Rattle.branch_sizes.specs.Layout.{Reaches}
use Rattle.code_items.specs.AnyPlan.{reference_reach}
use Rattle.code_items.specs.AnyMoved.{number_to}
use Rattle.code_items.specs.AnyStanding.{NumbersReferToGoals}

-- ---- sign-extended numbers

-- a number below 2 * h, sign-extended to 64 bits
abbrev Signed : ℕ → ℕ → ℕ → Type 0
Signed h v e = ((v < h) × (e ≡ v)) ⊎ ((h ≤ v) × (e + 2 * h ≡ v + 2 ^ 64))

signed-by : (h v : ℕ) (test : Bool) → nat_lt (2 * v) (2 * h) ≡ test → v < 2 * h → 2 * h ≤ 2 ^ 64 →
    Signed h v (if test then v % 2 ^ 64 else (v + (2 ^ 64 - 2 * h)) % 2 ^ 64)
signed-by h v true t small most = let lt = ltb-true (2 * v) (2 * h) t in inl (omega (arith, lt), omega (arith, lt))
signed-by h v false t small most = let ge = ltb-false (2 * v) (2 * h) t in inr (omega (arith, ge), omega (arith, ge))

extended-2 : (x : ℕ) → Signed 32768 (x % 65536) (sign_extended 64 (low_bytes 2 x))
unfolding sign_extended little_endian low_bytes
extended-2 x = by_value (x % 256 + 256 * (x / 256 % 256 + 256 * 0)) (omega arith)
  where
    by_value : (v : ℕ) → v ≡ x % 65536 → Signed 32768 (x % 65536) (if nat_lt (2 * v) (2 ^ 16) then v % 2 ^ 64 else (v + (2 ^ 64 - 2 ^ 16)) % 2 ^ 64)
    by_value v e =
        subst (λ (k : ℕ). Signed 32768 k (if nat_lt (2 * v) (2 ^ 16) then v % 2 ^ 64 else (v + (2 ^ 64 - 2 ^ 16)) % 2 ^ 64)) e
        (signed-by 32768 v (nat_lt (2 * v) (2 ^ 16)) refl (omega (arith, e)) (omega arith))

extended-4 : (x : ℕ) → Signed 2147483648 (x % 4294967296) (sign_extended 64 (low_bytes 4 x))
unfolding sign_extended little_endian low_bytes
extended-4 x = by_value (x % 256 + 256 * (x / 256 % 256 + 256 * (x / 256 / 256 % 256 + 256 * (x / 256 / 256 / 256 % 256 + 256 * 0)))) (omega arith)
  where
    by_value : (v : ℕ) → v ≡ x % 4294967296 →
        Signed 2147483648 (x % 4294967296) (if nat_lt (2 * v) (2 ^ 32) then v % 2 ^ 64 else (v + (2 ^ 64 - 2 ^ 32)) % 2 ^ 64)
    by_value v e =
        subst (λ (k : ℕ). Signed 2147483648 k (if nat_lt (2 * v) (2 ^ 32) then v % 2 ^ 64 else (v + (2 ^ 64 - 2 ^ 32)) % 2 ^ 64)) e
        (signed-by 2147483648 v (nat_lt (2 * v) (2 ^ 32)) refl (omega (arith, e)) (omega arith))

-- ---- the sum, by the size of the address

sum-16-2 : (end goal e : ℕ) → goal < 65536 → Signed 32768 ((goal + (2 ^ 64 - end % 2 ^ 64)) % 65536 % 65536) e → (end + e) % 65536 ≡ goal
sum-16-2 end goal e small (inl s) = omega (arith, s.0, s.1)
sum-16-2 end goal e small (inr s) = omega (arith, s.0, s.1)

sum-16-4 : (end goal e : ℕ) → goal < 65536 → Signed 2147483648 ((goal + (2 ^ 64 - end % 2 ^ 64)) % 65536 % 4294967296) e → (end + e) % 65536 ≡ goal
sum-16-4 end goal e small (inl s) = omega (arith, s.0, s.1)
sum-16-4 end goal e small (inr s) = omega (arith, s.0, s.1)

sum-32 : (end goal e : ℕ) → goal < 4294967296 → Signed 2147483648 ((goal + (2 ^ 64 - end % 2 ^ 64)) % 4294967296 % 4294967296) e → (end + e) % 4294967296 ≡ goal
sum-32 end goal e small (inl s) = omega (arith, s.0, s.1)
sum-32 end goal e small (inr s) = omega (arith, s.0, s.1)

sum-64 : (end goal e : ℕ) → end ≤ 2 ^ 64 → goal < 2 ^ 64 → end ≤ goal + 2147483648 → goal < end + 2147483648 →
    Signed 2147483648 ((goal + (2 ^ 64 - end % 2 ^ 64)) % 2 ^ 64 % 4294967296) e → (end + e) % 2 ^ 64 ≡ goal
sum-64 end goal e within small back forth (inl s) = omega (arith, s.0, s.1)
sum-64 end goal e within small back forth (inr s) = omega (arith, s.0, s.1)

-- the low bytes of the distance from an end come to the goal
abbrev Comes : Bits → ℕ → ℕ → ℕ → Type 0
Comes size n end goal = modulo_width size (end + sign_extended 64 (low_bytes n (distance size (modulo_width B64 end) goal))) ≡ goal

comes-16-2 : (end goal : ℕ) → goal < 2 ^ 16 → Comes B16 2 end goal
unfolding distance
comes-16-2 end goal small =
    let x = (goal + (2 ^ 64 - end % 2 ^ 64)) % 2 ^ 16 in
    sum-16-2 end goal (sign_extended 64 (low_bytes 2 x)) small (extended-2 x)

comes-16-4 : (end goal : ℕ) → goal < 2 ^ 16 → Comes B16 4 end goal
unfolding distance
comes-16-4 end goal small =
    let x = (goal + (2 ^ 64 - end % 2 ^ 64)) % 2 ^ 16 in
    sum-16-4 end goal (sign_extended 64 (low_bytes 4 x)) small (extended-4 x)

comes-32 : (end goal : ℕ) → goal < 2 ^ 32 → Comes B32 4 end goal
unfolding distance
comes-32 end goal small =
    let x = (goal + (2 ^ 64 - end % 2 ^ 64)) % 2 ^ 32 in
    sum-32 end goal (sign_extended 64 (low_bytes 4 x)) small (extended-4 x)

comes-64 : (end goal : ℕ) → end ≤ 2 ^ 64 → goal < 2 ^ 64 → end ≤ goal + 2 ^ 31 → goal < end + 2 ^ 31 → Comes B64 4 end goal
unfolding distance
comes-64 end goal within small back forth =
    let x = (goal + (2 ^ 64 - end % 2 ^ 64)) % 2 ^ 64 in
    sum-64 end goal (sign_extended 64 (low_bytes 4 x)) within small back forth (extended-4 x)

-- ---- by what the number refers to

strip : (b : Bool) → (b || false) ≡ true → b ≡ true
strip true h = refl
strip false h = cc

-- a number that refers to no address of 16 bits has four bytes
four : (n : ℕ) (size : Bits) → (n == 4 || is_16 size) ≡ true → (size ≡ B16 → ⊥) → n ≡ 4
four n B16 h apart = absurd (apart refl)
four n B32 h apart = eqb-true n 4 (strip (n == 4) h)
four n B64 h apart = eqb-true n 4 (strip (n == 4) h)

by_reference : (bits : Bits) (to : Reference) (place len goal n : ℕ) → (n == 4 || is_16 (reference_size bits to)) ≡ true → (n ≡ 2) ⊎ (n ≡ 4)
    → place + len ≤ 2 ^ 64 → goal < 2 ^ width (reference_size bits to) → Reaches (reference_reach bits to) len place goal
    → Comes (reference_size bits to) n (place + len) goal
unfolding reference_reach
by_reference bits Rip place len goal n movable many within small reach =
    subst (λ (k : ℕ). Comes B64 k (place + len) goal) (sym (four n B64 movable (λ e. cc))) (comes-64 (place + len) goal within small reach.0 reach.1)
by_reference bits Eip place len goal n movable many within small reach =
    subst (λ (k : ℕ). Comes B32 k (place + len) goal) (sym (four n B32 movable (λ e. cc))) (comes-32 (place + len) goal small)
by_reference B64 ToBranch place len goal n movable many within small reach =
    subst (λ (k : ℕ). Comes B64 k (place + len) goal) (sym (four n B64 movable (λ e. cc))) (comes-64 (place + len) goal within small reach.0 reach.1)
by_reference B32 ToBranch place len goal n movable many within small reach =
    subst (λ (k : ℕ). Comes B32 k (place + len) goal) (sym (four n B32 movable (λ e. cc))) (comes-32 (place + len) goal small)
by_reference B16 ToBranch place len goal n movable (inl e) within small reach =
    subst (λ (k : ℕ). Comes B16 k (place + len) goal) (sym e) (comes-16-2 (place + len) goal small)
by_reference B16 ToBranch place len goal n movable (inr e) within small reach =
    subst (λ (k : ℕ). Comes B16 k (place + len) goal) (sym e) (comes-16-4 (place + len) goal small)

-- **the number refers to the goal**
pub numbers-refer : NumbersReferToGoals
unfolding number_to
numbers-refer bits place len goal r movable many within small reach = ap Some (by_reference bits r.to place len goal r.len movable many within small reach)
