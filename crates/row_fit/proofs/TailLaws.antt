-- Front and row fix what stands behind the opcode byte.
use Rattle.std.proofs.Common.{◌≡◌, inl, inr, ℕ, ◌+◌, ◌*◌, ◌<◌, Bool, true, false, ◌&&◌, ◌==◌, nat_lt, List, [], ◌∷◌, ◌++◌, length, Option, Some, None, refl, ap, sym, ◌∙◌, arith, if◌then◌else◌, is_some, is_none}
use Rattle.std.proofs.lemmas.Bool.{and_parts, cases_Bool, eqb-true, not-true}
use Rattle.x86_values.specs.declared.Bits.{Bits}
use Rattle.instruction_parts.specs.declared.row_types.Row.{Row}
use Rattle.instruction_parts.specs.declared.spelling.ModRm.{ModRm}
use Rattle.instruction_parts.specs.declared.spelling.Sib.{Sib}
use Rattle.instruction_parts.specs.Bytes.{modrm_byte, sib_byte, modrm_bytes, sib_bytes}
use Rattle.row_fit.specs.Fits.{modrm_in_range, sib_in_range, same_bool, address_fits, reads_mode, reads_by, is_offset, needs_sib, displacement_bytes}
use Rattle.instruction_parts.specs.Sizes.{size_bytes}
use borrow.Author.Tests.{ltb-true}

-- lists of one length that begin the same list are equal
pub cancel_front : (xs ys more others : List ℕ) → length xs ≡ length ys → xs ++ more ≡ ys ++ others → (xs ≡ ys) × (more ≡ others)
cancel_front [] [] more others l h = (refl, h)
cancel_front [] (y ∷ ys) more others l h = absurd (omega arith)
cancel_front (x ∷ xs) [] more others l h = absurd (omega arith)
cancel_front (x ∷ xs) (y ∷ ys) more others l h =
    let heads : x ≡ y = cc in
    let tails : xs ++ more ≡ ys ++ others = cc in
    let rest = cancel_front xs ys more others (omega arith) tails in
    (cc, rest.1)

same_modrm : (a b c x y z : ℕ) → b < 8 → c < 8 → y < 8 → z < 8 → a * 64 + b * 8 + c ≡ x * 64 + y * 8 + z → (a ≡ x) × (b ≡ y) × (c ≡ z)
same_modrm a b c x y z hb hc hy hz h = (omega arith, omega arith, omega arith)

modrm_fields : (m : ModRm) → modrm_in_range (Some m) ≡ true → (m.reg < 8) × (m.rm < 8)
unfolding modrm_in_range
modrm_fields m h =
    let r = (and_parts (nat_lt m.mode3 4) (nat_lt m.reg 8 && nat_lt m.rm 8) h).1 in
    (ltb-true m.reg 8 (and_parts (nat_lt m.reg 8) (nat_lt m.rm 8) r).0, ltb-true m.rm 8 (and_parts (nat_lt m.reg 8) (nat_lt m.rm 8) r).1)

sib_fields : (s : Sib) → sib_in_range (Some s) ≡ true → (s.index < 8) × (s.base < 8)
unfolding sib_in_range
sib_fields s h =
    let r = (and_parts (nat_lt s.scale 4) (nat_lt s.index 8 && nat_lt s.base 8) h).1 in
    (ltb-true s.index 8 (and_parts (nat_lt s.index 8) (nat_lt s.base 8) r).0, ltb-true s.base 8 (and_parts (nat_lt s.index 8) (nat_lt s.base 8) r).1)

modrm_of : ℕ → ℕ → ℕ → ModRm
modrm_of mode3 reg rm = record { mode3 = mode3; reg = reg; rm = rm }

sib_of : ℕ → ℕ → ℕ → Sib
sib_of scale index base = record { scale = scale; index = index; base = base }

-- one ModRM byte is of one ModRM
modrm_from_byte : (m n : ModRm) → modrm_in_range (Some m) ≡ true → modrm_in_range (Some n) ≡ true → modrm_byte m ≡ modrm_byte n → m ≡ n
unfolding modrm_of
modrm_from_byte m n hm hn h =
    let a = modrm_fields m hm in
    let b = modrm_fields n hn in
    let e = same_modrm m.mode3 m.reg m.rm n.mode3 n.reg n.rm a.0 a.1 b.0 b.1 h in
    ap (λ x. modrm_of x m.reg m.rm) e.0 ∙ ap (λ x. modrm_of n.mode3 x m.rm) e.1 ∙ ap (λ x. modrm_of n.mode3 n.reg x) e.2

sib_from_byte : (m n : Sib) → sib_in_range (Some m) ≡ true → sib_in_range (Some n) ≡ true → sib_byte m ≡ sib_byte n → m ≡ n
unfolding sib_of
sib_from_byte m n hm hn h =
    let a = sib_fields m hm in
    let b = sib_fields n hn in
    let e = same_modrm m.scale m.index m.base n.scale n.index n.base a.0 a.1 b.0 b.1 h in
    ap (λ x. sib_of x m.index m.base) e.0 ∙ ap (λ x. sib_of n.scale x m.base) e.1 ∙ ap (λ x. sib_of n.scale n.index x) e.2

-- a ModRM that is there or not alike is the same ModRM
pub same_modrm_option : (m n : Option ModRm) (more others : List ℕ) → is_some m ≡ is_some n → modrm_in_range m ≡ true → modrm_in_range n ≡ true → modrm_bytes m ++ more ≡ modrm_bytes n ++ others → (m ≡ n) × (more ≡ others)
same_modrm_option None None more others s hm hn h = (refl, h)
same_modrm_option None (Some n) more others s hm hn h = cc
same_modrm_option (Some m) None more others s hm hn h = cc
same_modrm_option (Some m) (Some n) more others s hm hn h =
    let heads : modrm_byte m ≡ modrm_byte n = cc in
    (ap (λ x. Some x) (modrm_from_byte m n hm hn heads), cc)

-- equal bytes that begin with the same SIB, or with none, have the same rest
pub same_sib_option : (m n : Option Sib) (more others : List ℕ) → is_some m ≡ is_some n → sib_in_range m ≡ true → sib_in_range n ≡ true → sib_bytes m ++ more ≡ sib_bytes n ++ others → (m ≡ n) × (more ≡ others)
same_sib_option None None more others s hm hn h = (refl, h)
same_sib_option None (Some n) more others s hm hn h = cc
same_sib_option (Some m) None more others s hm hn h = cc
same_sib_option (Some m) (Some n) more others s hm hn h =
    let heads : sib_byte m ≡ sib_byte n = cc in
    (ap (λ x. Some x) (sib_from_byte m n hm hn heads), cc)

same_from : (a b : Bool) → same_bool a b ≡ true → a ≡ b
same_from true b h = sym h
same_from false b h = sym (not-true b h)

none_is : (o : Option Sib) → is_none o ≡ true → is_some o ≡ false
none_is None h = refl
none_is (Some s) h = cc

-- under one ModRM a SIB is there or not alike
pub sib_alike : (asize : Bits) (row : Row) (m : Option ModRm) (s t : Option Sib) (d e : ℕ) → address_fits asize row m s d ≡ true → address_fits asize row m t e ≡ true → is_some s ≡ is_some t
unfolding address_fits
sib_alike asize row None s t d e hs ht =
    none_is s (and_parts (is_none s) (d == (if reads_by is_offset row then size_bytes asize else 0)) hs).0
    ∙ sym (none_is t (and_parts (is_none t) (e == (if reads_by is_offset row then size_bytes asize else 0)) ht).0)
sib_alike asize row (Some m) s t d e hs ht = elim (cases_Bool (reads_mode row)) [
  | inl reads ↦
      same_from (is_some s) (needs_sib asize m) (and_parts (same_bool (is_some s) (needs_sib asize m)) (d == displacement_bytes asize m s) (rw reads at hs)).0
      ∙ sym (same_from (is_some t) (needs_sib asize m) (and_parts (same_bool (is_some t) (needs_sib asize m)) (e == displacement_bytes asize m t) (rw reads at ht)).0)
  | inr other ↦
      none_is s (and_parts (is_none s) (d == 0) (rw other at hs)).0 ∙ sym (none_is t (and_parts (is_none t) (e == 0) (rw other at ht)).0)
]

-- under one ModRM and SIB the displacement has one length
pub displacement_alike : (asize : Bits) (row : Row) (m : Option ModRm) (s : Option Sib) (d e : ℕ) → address_fits asize row m s d ≡ true → address_fits asize row m s e ≡ true → d ≡ e
unfolding address_fits
displacement_alike asize row None s d e hd he =
    let n : ℕ = if reads_by is_offset row then size_bytes asize else 0 in
    eqb-true d n (and_parts (is_none s) (d == n) hd).1 ∙ sym (eqb-true e n (and_parts (is_none s) (e == n) he).1)
displacement_alike asize row (Some m) s d e hd he = elim (cases_Bool (reads_mode row)) [
  | inl reads ↦
      eqb-true d _ (and_parts (same_bool (is_some s) (needs_sib asize m)) (d == displacement_bytes asize m s) (rw reads at hd)).1
      ∙ sym (eqb-true e _ (and_parts (same_bool (is_some s) (needs_sib asize m)) (e == displacement_bytes asize m s) (rw reads at he)).1)
  | inr other ↦ eqb-true d 0 (and_parts (is_none s) (d == 0) (rw other at hd)).1 ∙ sym (eqb-true e 0 (and_parts (is_none s) (e == 0) (rw other at he)).1)
]
