-- Tests for equal registers and sizes pass exactly on equal ones.
use Rattle.std.proofs.Common.{◌≡◌, ℕ, true, refl, ap, eq-eqb}
use Rattle.std.proofs.lemmas.Bool.{eqb-true}
use Rattle.x86_values.specs.declared.Bits.{Bits}
use Rattle.x86_values.specs.declared.Bits.TheVariants.{B16, B32, B64}
use Rattle.x86_values.specs.declared.Segment.{Segment}
use Rattle.x86_values.specs.declared.Segment.TheVariants.{Es, Cs, Ss, Ds, Fs, Gs}
use Rattle.x86_values.specs.declared.Register.{Register}
use Rattle.x86_values.specs.declared.Register.TheVariants.{Low8, High8, R16, R32, R64, Seg, Cr, Dr, St, Mm, Xmm, Ymm, Eip, Rip}
use Rattle.x86_values.specs.Comparing.{same_bits, same_segment, same_register}

-- sizes that test as the same are equal
pub same_bits-is : (a b : Bits) → same_bits a b ≡ true → a ≡ b
same_bits-is B16 B16 h = refl
same_bits-is B32 B32 h = refl
same_bits-is B64 B64 h = refl
same_bits-is _ _ h = cc

-- a size tests as the same as itself
pub same_bits-refl : (a : Bits) → same_bits a a ≡ true
same_bits-refl B16 = refl
same_bits-refl B32 = refl
same_bits-refl B64 = refl

same_segment-is : (s t : Segment) → same_segment s t ≡ true → s ≡ t
same_segment-is Es Es h = refl
same_segment-is Cs Cs h = refl
same_segment-is Ss Ss h = refl
same_segment-is Ds Ds h = refl
same_segment-is Fs Fs h = refl
same_segment-is Gs Gs h = refl
same_segment-is _ _ h = cc

same_segment-refl : (s : Segment) → same_segment s s ≡ true
same_segment-refl Es = refl
same_segment-refl Cs = refl
same_segment-refl Ss = refl
same_segment-refl Ds = refl
same_segment-refl Fs = refl
same_segment-refl Gs = refl

-- registers that test as the same are equal
pub same_register-is : (r s : Register) → same_register r s ≡ true → r ≡ s
unfolding same_register
same_register-is (Low8 m) (Low8 n) h = ap (λ (x : ℕ). Low8 x) (eqb-true m n h)
same_register-is (High8 m) (High8 n) h = ap (λ (x : ℕ). High8 x) (eqb-true m n h)
same_register-is (R16 m) (R16 n) h = ap (λ (x : ℕ). R16 x) (eqb-true m n h)
same_register-is (R32 m) (R32 n) h = ap (λ (x : ℕ). R32 x) (eqb-true m n h)
same_register-is (R64 m) (R64 n) h = ap (λ (x : ℕ). R64 x) (eqb-true m n h)
same_register-is (Seg s) (Seg t) h = ap (λ (x : Segment). Seg x) (same_segment-is s t h)
same_register-is (Cr m) (Cr n) h = ap (λ (x : ℕ). Cr x) (eqb-true m n h)
same_register-is (Dr m) (Dr n) h = ap (λ (x : ℕ). Dr x) (eqb-true m n h)
same_register-is (St m) (St n) h = ap (λ (x : ℕ). St x) (eqb-true m n h)
same_register-is (Mm m) (Mm n) h = ap (λ (x : ℕ). Mm x) (eqb-true m n h)
same_register-is (Xmm m) (Xmm n) h = ap (λ (x : ℕ). Xmm x) (eqb-true m n h)
same_register-is (Ymm m) (Ymm n) h = ap (λ (x : ℕ). Ymm x) (eqb-true m n h)
same_register-is Eip Eip h = refl
same_register-is Rip Rip h = refl
same_register-is _ _ h = cc

-- a register tests as the same as itself
pub same_register-refl : (r : Register) → same_register r r ≡ true
unfolding same_register
same_register-refl (Low8 n) = eq-eqb n n refl
same_register-refl (High8 n) = eq-eqb n n refl
same_register-refl (R16 n) = eq-eqb n n refl
same_register-refl (R32 n) = eq-eqb n n refl
same_register-refl (R64 n) = eq-eqb n n refl
same_register-refl (Seg s) = same_segment-refl s
same_register-refl (Cr n) = eq-eqb n n refl
same_register-refl (Dr n) = eq-eqb n n refl
same_register-refl (St n) = eq-eqb n n refl
same_register-refl (Mm n) = eq-eqb n n refl
same_register-refl (Xmm n) = eq-eqb n n refl
same_register-refl (Ymm n) = eq-eqb n n refl
same_register-refl Eip = refl
same_register-refl Rip = refl
