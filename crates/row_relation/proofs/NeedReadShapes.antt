-- What ModRM and SIB name is a shape, with a displacement that the shape offers.
use Rattle.std.proofs.Common.{◌≡◌, inl, inr, ℕ, zero, suc, ◌+◌, ◌%◌, ◌^◌, ◌<◌, ◌≤◌, Bool, true, false, ◌&&◌, ◌||◌, not, ◌==◌, nat_lt, List, length, Option, Some, None, is_some, refl, ap, sym, ◌∙◌, subst, arith, if◌then◌else◌}
use Rattle.std.proofs.lemmas.Bool.{lt-ltb, eq-eqb, and_parts, cases_Bool, eqb-true}
use borrow.Author.Tests.{ltb-true}
use Rattle.x86_values.specs.declared.Bits.{Bits}
use Rattle.x86_values.specs.declared.Bits.TheVariants.{B16, B32, B64}
use Rattle.x86_values.specs.declared.Register.{Register}
use Rattle.x86_values.specs.declared.Register.TheVariants.{R16}
use Rattle.x86_values.specs.declared.DispSize.TheVariants.{D16, D32}
use Rattle.x86_values.specs.declared.Mem.{Mem}
use Rattle.x86_values.specs.declared.Operand.TheVariants.{Mem as MemOperand}
use Rattle.x86_values.specs.Wrapping.{width}
use Rattle.instruction_parts.specs.declared.spelling.ModRm.{ModRm}
use Rattle.instruction_parts.specs.declared.spelling.Sib.{Sib}
use Rattle.instruction_parts.specs.declared.spelling.PrefixState.{PrefixState}
use Rattle.instruction_parts.specs.Counting.{is_16, is_64}
use Rattle.instruction_parts.specs.Sizes.{bit_b, bit_x}
use Rattle.row_fit.specs.Fits.{are_bytes, with_high_bit, is_displacement_alone, displacement_bytes, needs_sib, sib_in_range}
use Rattle.row_meaning.specs.Meaning.{general_register, disp_size_of, base_16, index_16, memory_16, ip_or_absolute, scale_of, sib_base, sib_index, memory_with_sib, memory_wide, memory_of, displacement, target_of}
use Rattle.plain_spelling.specs.Values.{is_extended_of}
use Rattle.plain_spelling.specs.Forms.{is_scale}
use Rattle.plain_spelling.specs.PlainFront.{register_number}
use Rattle.plain_spelling.specs.Addresses.{form_of, general_size, pointer_size, register_count, has_address_size, is_address_register, is_base, is_index, scale_suits, is_wide_size, is_wide_shape, is_shape, shown_size, displacement_count, wide_offers, short_offers, form_offers, rm_of_one, rm_of_two, rm_of_short, is_displacement}
use Rattle.plain_spelling.specs.Expressible.{told_size, size_agrees}
use Rattle.row_relation.proofs.WrittenValues.{sign_extended-is_extended, width-le, target-below}
use Rattle.row_relation.proofs.AddressCases.{address, impossible, if_yes, if_no, memory_16-alone, memory_16-register, wide-alone, wide-register, sib_base-none, sib_base-some, sib_index-none, sib_index-some, number_of_general, agrees}

-- an address that was read: a shape whose displacement has these bytes, and whose registers show the address size or none
pub record IsRead (bits asize : Bits) (m : Mem) (n : ℕ) : Type 0 where
  pub shape : is_shape bits m ≡ true
  pub offer : form_offers asize m n ≡ true
  pub value : is_displacement asize m ≡ true
  pub size : size_agrees asize (MemOperand m) ≡ true
  pub shown : agrees asize (shown_size m) ≡ true
  pub count : displacement_count m.disp_size ≡ n

-- ---- the bytes of a displacement

-- the number in some bytes is one that as many bytes hold
pub value_of : (asize : Bits) (d : List ℕ) (n : ℕ) → length d ≡ n → n ≤ 8 → are_bytes d ≡ true → is_extended_of n (width asize) (displacement asize d) ≡ true
value_of asize d n e few h =
    subst (λ (k : ℕ). is_extended_of k (width asize) (displacement asize d) ≡ true) e
    (sign_extended-is_extended (width asize) d (subst (λ (k : ℕ). k ≤ 8) (sym e) few) (width-le asize) h)

-- ---- 16-bit addressing

-- the registers that an rm names have that rm
pub record Named (rm : ℕ) : Type 0 where
  pub first : ℕ
  pub base_is : base_16 rm ≡ R16 first
  pub rm_is : rm_of_short first (index_16 rm) ≡ Some rm

-- each of the eight values of r/m names a 16-bit address
pub named : (rm : ℕ) → rm < 8 → Named rm
unfolding base_16 index_16 rm_of_short rm_of_one rm_of_two
named zero h = record { first = 3; base_is = refl; rm_is = refl }
named (suc zero) h = record { first = 3; base_is = refl; rm_is = refl }
named (suc (suc zero)) h = record { first = 5; base_is = refl; rm_is = refl }
named (suc (suc (suc zero))) h = record { first = 5; base_is = refl; rm_is = refl }
named (suc (suc (suc (suc zero)))) h = record { first = 6; base_is = refl; rm_is = refl }
named (suc (suc (suc (suc (suc zero))))) h = record { first = 7; base_is = refl; rm_is = refl }
named (suc (suc (suc (suc (suc (suc zero)))))) h = record { first = 5; base_is = refl; rm_is = refl }
named (suc (suc (suc (suc (suc (suc (suc zero))))))) h = record { first = 3; base_is = refl; rm_is = refl }
named (suc (suc (suc (suc (suc (suc (suc (suc rm)))))))) h = absurd (omega arith)

alone_16 : (bits : Bits) (d : List ℕ) → length d ≡ 2 → are_bytes d ≡ true → IsRead bits B16 (address None None 1 (displacement B16 d) D16) 2
unfolding is_shape form_of form_offers is_displacement size_agrees told_size shown_size displacement_count
alone_16 bits d l b = record { shape = refl; offer = refl; value = value_of B16 d 2 l (omega arith) b; size = refl; shown = refl; count = refl }

-- an address of one register or two, by number
short_read : (bits : Bits) (first rm : ℕ) (index : Option Register) (d : List ℕ) (n : ℕ) → is_64 bits ≡ false → rm_of_short first index ≡ Some rm → short_offers (Some rm) n ≡ true → displacement_count (disp_size_of n) ≡ n → n ≤ 8 → length d ≡ n → are_bytes d ≡ true
    → IsRead bits B16 (address (Some (R16 first)) index 1 (displacement B16 d) (disp_size_of n)) n
unfolding is_shape form_of form_offers is_displacement size_agrees told_size shown_size general_size pointer_size
short_read bits first rm index d n mode e o c few l b = record {
  shape = rw (mode, e) refl;
  offer = rw e o;
  value = rw c (value_of B16 d n l few b);
  size = refl;
  shown = refl;
  count = c;
}

-- the bytes of a displacement beside a register of 16-bit addressing
record ShortBytes (rm n : ℕ) : Type 0 where
  offer : short_offers (Some rm) n ≡ true
  count : displacement_count (disp_size_of n) ≡ n
  few : n ≤ 8

short_bytes : (mode3 reg rm : ℕ) (sib : Option Sib) → mode3 < 3 → is_displacement_alone B16 (record { mode3 = mode3; reg = reg; rm = rm }) None ≡ false → ShortBytes rm (displacement_bytes B16 (record { mode3 = mode3; reg = reg; rm = rm }) sib)
unfolding is_displacement_alone displacement_bytes short_offers displacement_count disp_size_of
short_bytes zero reg rm sib h a =
    subst (λ (n : ℕ). ShortBytes rm n) (sym (if_no (rm == 6) 2 0 a)) (record { offer = ap not a; count = refl; few = omega arith })
short_bytes (suc zero) reg rm sib h a = record { offer = refl; count = refl; few = omega arith }
short_bytes (suc (suc zero)) reg rm sib h a = record { offer = refl; count = refl; few = omega arith }
short_bytes (suc (suc (suc mode3))) reg rm sib h a = absurd (omega arith)

-- ---- base and index

-- a general register by a number that may be absent
abbrev reg : Bits → Option ℕ → Option Register
reg asize None = None
reg asize (Some k) = Some (general_register asize k)

abbrev IsIndexNumber : Bits → Option ℕ → ℕ → Type 0
IsIndexNumber bits None scale = Unit {0}
IsIndexNumber bits (Some j) scale = (nat_lt j (register_count bits) ≡ true) × ((j == 4) ≡ false) × (is_scale scale ≡ true)

-- an address of these numbers
pub record Numbers (bits asize : Bits) (base : Option Register) (d : List ℕ) (n : ℕ) : Type 0 where
  pub has : has_address_size bits asize ≡ true
  pub offer : wide_offers base n ≡ true
  pub count : displacement_count (disp_size_of n) ≡ n
  pub few : n ≤ 8
  pub len : length d ≡ n
  pub bytes : are_bytes d ≡ true

base_read : (bits asize : Bits) (k : ℕ) (d : List ℕ) (n : ℕ) → is_16 asize ≡ false → nat_lt k (register_count bits) ≡ true → Numbers bits asize (Some (general_register asize k)) d n → IsRead bits asize (address (Some (general_register asize k)) None 1 (displacement asize d) (disp_size_of n)) n
unfolding general_register is_shape form_of is_wide_shape is_wide_size is_base is_index scale_suits is_address_register register_number form_offers is_displacement size_agrees told_size shown_size general_size pointer_size
base_read bits B16 k d n wide hk g = impossible wide
base_read bits B32 k d n wide hk g = record { shape = rw (g.has, hk) refl; offer = g.offer; value = rw g.count (value_of B32 d n g.len g.few g.bytes); size = refl; shown = refl; count = g.count }
base_read bits B64 k d n wide hk g = record { shape = rw (g.has, hk) refl; offer = g.offer; value = rw g.count (value_of B64 d n g.len g.few g.bytes); size = refl; shown = refl; count = g.count }

index_read : (bits asize : Bits) (j scale : ℕ) (d : List ℕ) (n : ℕ) → is_16 asize ≡ false → IsIndexNumber bits (Some j) scale → Numbers bits asize None d n → IsRead bits asize (address None (Some (general_register asize j)) scale (displacement asize d) (disp_size_of n)) n
unfolding general_register is_shape form_of is_wide_shape is_wide_size is_base is_index scale_suits is_address_register register_number form_offers is_displacement size_agrees told_size shown_size general_size pointer_size
index_read bits B16 j scale d n wide hj g = impossible wide
index_read bits B32 j scale d n wide hj g = record { shape = rw (g.has, hj.0, hj.1, hj.2) refl; offer = g.offer; value = rw g.count (value_of B32 d n g.len g.few g.bytes); size = refl; shown = refl; count = g.count }
index_read bits B64 j scale d n wide hj g = record { shape = rw (g.has, hj.0, hj.1, hj.2) refl; offer = g.offer; value = rw g.count (value_of B64 d n g.len g.few g.bytes); size = refl; shown = refl; count = g.count }

sum_read : (bits asize : Bits) (k j scale : ℕ) (d : List ℕ) (n : ℕ) → is_16 asize ≡ false → nat_lt k (register_count bits) ≡ true → IsIndexNumber bits (Some j) scale → Numbers bits asize (Some (general_register asize k)) d n → IsRead bits asize (address (Some (general_register asize k)) (Some (general_register asize j)) scale (displacement asize d) (disp_size_of n)) n
unfolding general_register is_shape form_of is_wide_shape is_wide_size is_base is_index scale_suits is_address_register register_number form_offers is_displacement size_agrees told_size shown_size general_size pointer_size
sum_read bits B16 k j scale d n wide hk hj g = impossible wide
sum_read bits B32 k j scale d n wide hk hj g = record { shape = rw (g.has, hk, hj.0, hj.1, hj.2) refl; offer = g.offer; value = rw g.count (value_of B32 d n g.len g.few g.bytes); size = refl; shown = refl; count = g.count }
sum_read bits B64 k j scale d n wide hk hj g = record { shape = rw (g.has, hk, hj.0, hj.1, hj.2) refl; offer = g.offer; value = rw g.count (value_of B64 d n g.len g.few g.bytes); size = refl; shown = refl; count = g.count }

alone_read : (bits asize : Bits) (d : List ℕ) → is_16 asize ≡ false → length d ≡ 4 → are_bytes d ≡ true → IsRead bits asize (address None None 1 (displacement asize d) D32) 4
unfolding is_shape form_of form_offers is_displacement size_agrees told_size shown_size displacement_count
alone_read bits B16 d wide l b = impossible wide
alone_read bits B32 d wide l b = record { shape = refl; offer = refl; value = value_of B32 d 4 l (omega arith) b; size = refl; shown = refl; count = refl }
alone_read bits B64 d wide l b = record { shape = refl; offer = refl; value = value_of B64 d 4 l (omega arith) b; size = refl; shown = refl; count = refl }

-- at RIP and EIP, in 64-bit mode; elsewhere a displacement alone
pointer_read : (bits asize : Bits) (next : ℕ) (d : List ℕ) → is_16 asize ≡ false → length d ≡ 4 → are_bytes d ≡ true → IsRead bits asize (ip_or_absolute bits asize next d) 4
unfolding ip_or_absolute is_shape form_of form_offers is_displacement size_agrees told_size shown_size displacement_count general_size pointer_size
pointer_read B16 asize next d wide l b = alone_read B16 asize d wide l b
pointer_read B32 asize next d wide l b = alone_read B32 asize d wide l b
pointer_read B64 B16 next d wide l b = impossible wide
pointer_read B64 B32 next d wide l b = record { shape = refl; offer = refl; value = lt-ltb (target_of B32 next d) (2 ^ 32) (target-below B32 next d); size = refl; shown = refl; count = refl }
pointer_read B64 B64 next d wide l b = record { shape = refl; offer = refl; value = lt-ltb (target_of B64 next d) (2 ^ 64) (target-below B64 next d); size = refl; shown = refl; count = refl }

-- ---- numbers from fields

-- the low three bits of an extended number
pub extended_low : (b : Bool) (x : ℕ) → x < 8 → with_high_bit b x % 8 ≡ x
extended_low true x h = omega arith
extended_low false x h = omega arith

-- an extended number is one that the mode has
pub extended_count : (bits : Bits) (b : Bool) (x : ℕ) → x < 8 → (is_64 bits ≡ false → b ≡ false) → nat_lt (with_high_bit b x) (register_count bits) ≡ true
unfolding register_count
extended_count B64 true x h e = lt-ltb (8 + x) 16 (omega arith)
extended_count B64 false x h e = lt-ltb (0 + x) 16 (omega arith)
extended_count B16 false x h e = lt-ltb (0 + x) 8 (omega arith)
extended_count B32 false x h e = lt-ltb (0 + x) 8 (omega arith)
extended_count B16 true x h e = impossible (e refl)
extended_count B32 true x h e = impossible (e refl)

-- outside 64-bit mode B is not set
pub bit_b-outside : (bits : Bits) (st : PrefixState) → is_64 bits ≡ false → bit_b bits st ≡ false
unfolding bit_b
bit_b-outside bits st e = rw e refl

-- the bytes of a displacement beside a base of 32 or 64-bit addressing, whose low bits are a field
pub record FlatBytes (low mode3 n : ℕ) : Type 0 where
  pub none : (mode3 == 0 && low == 5) ≡ true → n ≡ 4
  pub offer : (mode3 == 0 && low == 5) ≡ false → (r : Register) → register_number r % 8 ≡ low → wide_offers (Some r) n ≡ true
  pub count : displacement_count (disp_size_of n) ≡ n
  pub few : n ≤ 8

zero_offer : (r : Register) (low : ℕ) → (low == 5) ≡ false → register_number r % 8 ≡ low → wide_offers (Some r) 0 ≡ true
unfolding wide_offers
zero_offer r low h e = ap not (ap (λ (k : ℕ). k == 5) e ∙ h)

zero_bytes : (low : ℕ) (test : Bool) → (low == 5) ≡ test → FlatBytes low 0 (if test then 4 else 0)
unfolding displacement_count disp_size_of
zero_bytes low true e = record { none = λ h. refl; offer = λ h. impossible (sym e ∙ h); count = refl; few = omega arith }
zero_bytes low false e = record { none = λ h. impossible (sym h ∙ e); offer = λ h r k. zero_offer r low e k; count = refl; few = omega arith }

one_bytes : (low : ℕ) → FlatBytes low 1 1
unfolding displacement_count disp_size_of wide_offers
one_bytes low = record { none = λ h. impossible (sym h); offer = λ h r k. refl; count = refl; few = omega arith }

two_bytes : (low : ℕ) → FlatBytes low 2 4
unfolding displacement_count disp_size_of wide_offers
two_bytes low = record { none = λ h. impossible (sym h); offer = λ h r k. refl; count = refl; few = omega arith }

none_more : (test a : Bool) (x y : ℕ) → (if test || (a && false) then x else y) ≡ (if test then x else y)
none_more true a x y = refl
none_more false true x y = refl
none_more false false x y = refl

sib_bytes : (asize : Bits) (mode3 r : ℕ) (s : Sib) → is_16 asize ≡ false → mode3 < 3 → FlatBytes s.base mode3 (displacement_bytes asize (record { mode3 = mode3; reg = r; rm = 4 }) (Some s))
unfolding displacement_bytes is_displacement_alone
sib_bytes B16 mode3 r s wide h = impossible wide
sib_bytes B32 zero r s wide h = zero_bytes s.base (s.base == 5) refl
sib_bytes B64 zero r s wide h = zero_bytes s.base (s.base == 5) refl
sib_bytes B32 (suc zero) r s wide h = one_bytes s.base
sib_bytes B64 (suc zero) r s wide h = one_bytes s.base
sib_bytes B32 (suc (suc zero)) r s wide h = two_bytes s.base
sib_bytes B64 (suc (suc zero)) r s wide h = two_bytes s.base
sib_bytes asize (suc (suc (suc mode3))) r s wide h = absurd (omega arith)

rm_bytes : (asize : Bits) (mode3 r rm : ℕ) → is_16 asize ≡ false → mode3 < 3 → FlatBytes rm mode3 (displacement_bytes asize (record { mode3 = mode3; reg = r; rm = rm }) None)
unfolding displacement_bytes is_displacement_alone
rm_bytes B16 mode3 r rm wide h = impossible wide
rm_bytes B32 zero r rm wide h = subst (λ (n : ℕ). FlatBytes rm 0 n) (sym (none_more (rm == 5) (rm == 4) 4 0)) (zero_bytes rm (rm == 5) refl)
rm_bytes B64 zero r rm wide h = subst (λ (n : ℕ). FlatBytes rm 0 n) (sym (none_more (rm == 5) (rm == 4) 4 0)) (zero_bytes rm (rm == 5) refl)
rm_bytes B32 (suc zero) r rm wide h = one_bytes rm
rm_bytes B64 (suc zero) r rm wide h = one_bytes rm
rm_bytes B32 (suc (suc zero)) r rm wide h = two_bytes rm
rm_bytes B64 (suc (suc zero)) r rm wide h = two_bytes rm
rm_bytes asize (suc (suc (suc mode3))) r rm wide h = absurd (omega arith)

-- ---- all of an address

-- what is known where an address is read
pub record Reading (bits asize : Bits) (st : PrefixState) (m : ModRm) (sib : Option Sib) (d : List ℕ) : Type 0 where
  pub has : has_address_size bits asize ≡ true
  pub mode3 : m.mode3 < 3
  pub rm : m.rm < 8
  pub sib_is : is_some sib ≡ needs_sib asize m
  pub sib_range : sib_in_range sib ≡ true
  pub len : length d ≡ displacement_bytes asize m sib
  pub bytes : are_bytes d ≡ true
  pub x : is_64 bits ≡ false → bit_x st ≡ false

has_wide : (bits asize : Bits) → has_address_size bits asize ≡ true → is_16 asize ≡ true → is_64 bits ≡ false
unfolding has_address_size
has_wide B16 asize h e = refl
has_wide B32 asize h e = refl
has_wide B64 B16 h e = impossible (sym h)
has_wide B64 B32 h e = impossible (sym e)
has_wide B64 B64 h e = impossible (sym e)

-- an address that is equal is read alike
pub same_read : (bits asize : Bits) (m k : Mem) (n : ℕ) → m ≡ k → IsRead bits asize k n → IsRead bits asize m n
same_read bits asize m k n e h = subst (λ (x : Mem). IsRead bits asize x n) (sym e) h

alone_length : (m : ModRm) (sib : Option Sib) → is_displacement_alone B16 m None ≡ true → displacement_bytes B16 m sib ≡ 2
unfolding displacement_bytes is_displacement_alone
alone_length m sib h = if_yes (m.mode3 == 0 && m.rm == 6) _ _ h

read_16 : (bits : Bits) (st : PrefixState) (m : ModRm) (sib : Option Sib) (d : List ℕ) → Reading bits B16 st m sib d → IsRead bits B16 (memory_16 m d) (length d)
read_16 bits st m sib d g = elim (cases_Bool (is_displacement_alone B16 m None)) [
  | inl alone ↦
      (let two : length d ≡ 2 = g.len ∙ alone_length m sib alone in
      same_read bits B16 (memory_16 m d) _ (length d) (memory_16-alone m d alone) (subst (λ (n : ℕ). IsRead bits B16 (address None None 1 (displacement B16 d) D16) n) (sym two) (alone_16 bits d two g.bytes)))
  | inr beside ↦
      (let b = subst (λ (n : ℕ). ShortBytes m.rm n) (sym g.len) (short_bytes m.mode3 m.reg m.rm sib g.mode3 beside) in
      let k = named m.rm g.rm in
      same_read bits B16 (memory_16 m d) _ (length d)
      (memory_16-register m d beside ∙ ap (λ (r : Register). address (Some r) (index_16 m.rm) 1 (displacement B16 d) (disp_size_of (length d))) k.base_is)
      (short_read bits k.first m.rm (index_16 m.rm) d (length d) (has_wide bits B16 g.has refl) k.rm_is b.offer b.count b.few refl g.bytes))
]

-- the fields of a SIB
pub record SibSmall (s : Sib) : Type 0 where
  pub scale : s.scale < 4
  pub index : s.index < 8
  pub base : s.base < 8

-- the fields of a SIB in range, one by one
pub sib_small : (s : Sib) → sib_in_range (Some s) ≡ true → SibSmall s
unfolding sib_in_range
sib_small s h =
    let rest = (and_parts (nat_lt s.scale 4) (nat_lt s.index 8 && nat_lt s.base 8) h).1 in
    record {
      scale = ltb-true s.scale 4 (and_parts (nat_lt s.scale 4) _ h).0;
      index = ltb-true s.index 8 (and_parts (nat_lt s.index 8) (nat_lt s.base 8) rest).0;
      base = ltb-true s.base 8 (and_parts (nat_lt s.index 8) (nat_lt s.base 8) rest).1;
    }

-- 2 to a scale field is a scale
pub scale_power : (k : ℕ) → k < 4 → is_scale (2 ^ k) ≡ true
scale_power zero h = refl
scale_power (suc zero) h = refl
scale_power (suc (suc zero)) h = refl
scale_power (suc (suc (suc zero))) h = refl
scale_power (suc (suc (suc (suc k)))) h = absurd (omega arith)

-- an address with a SIB, by its base and index
pub with_parts : (bits asize : Bits) (st : PrefixState) (given base index : Option Register) (m : ModRm) (s : Sib) (d : List ℕ) → sib_base bits asize st m s ≡ base → given ≡ index → memory_with_sib bits asize st given m s d ≡ address base index (scale_of index s) (displacement asize d) (disp_size_of (length d))
unfolding memory_with_sib
with_parts bits asize st given base index m s d eb ei =
    ap (λ (b : Option Register). address b given (scale_of given s) (displacement asize d) (disp_size_of (length d))) eb
    ∙ ap (λ (i : Option Register). address base i (scale_of i s) (displacement asize d) (disp_size_of (length d))) ei

-- a SIB is there only if r/m is 4
pub rm_is_four : (asize : Bits) (m : ModRm) → needs_sib asize m ≡ true → m.rm ≡ 4
unfolding needs_sib
rm_is_four asize m h = eqb-true m.rm 4 (and_parts (nat_lt m.mode3 3) (m.rm == 4) (and_parts (not (is_16 asize)) (nat_lt m.mode3 3 && m.rm == 4) h).1).1

-- beside a SIB
pub bytes_of_sib : (bits asize : Bits) (st : PrefixState) (m : ModRm) (s : Sib) (d : List ℕ) → is_16 asize ≡ false → Reading bits asize st m (Some s) d → FlatBytes s.base m.mode3 (length d)
bytes_of_sib bits asize st m s d wide g =
    subst (λ (n : ℕ). FlatBytes s.base m.mode3 n) (sym g.len)
    (subst (λ (k : ℕ). FlatBytes s.base m.mode3 (displacement_bytes asize (record { mode3 = m.mode3; reg = m.reg; rm = k }) (Some s))) (sym (rm_is_four asize m (sym g.sib_is)))
    (sib_bytes asize m.mode3 m.reg s wide g.mode3))

-- the numbers of a base
pub base_numbers : (bits asize : Bits) (st : PrefixState) (m : ModRm) (sib : Option Sib) (d : List ℕ) (low : ℕ) → low < 8 → Reading bits asize st m sib d → FlatBytes low m.mode3 (length d) → (m.mode3 == 0 && low == 5) ≡ false → Numbers bits asize (Some (general_register asize (with_high_bit (bit_b bits st) low))) d (length d)
base_numbers bits asize st m sib d low small g f other = record {
  has = g.has;
  offer = f.offer other (general_register asize (with_high_bit (bit_b bits st) low)) (ap (λ (k : ℕ). k % 8) (number_of_general asize (with_high_bit (bit_b bits st) low)) ∙ extended_low (bit_b bits st) low small);
  count = f.count;
  few = f.few;
  len = refl;
  bytes = g.bytes;
}

-- the same without a base
pub no_base : (bits asize : Bits) (st : PrefixState) (m : ModRm) (s : Sib) (d : List ℕ) → Reading bits asize st m (Some s) d → FlatBytes s.base m.mode3 (length d) → (m.mode3 == 0 && s.base == 5) ≡ true → Numbers bits asize None d (length d)
unfolding wide_offers
no_base bits asize st m s d g f alone = record { has = g.has; offer = eq-eqb (length d) 4 (f.none alone); count = f.count; few = f.few; len = refl; bytes = g.bytes }

index_number_is : (bits asize : Bits) (st : PrefixState) (m : ModRm) (s : Sib) (d : List ℕ) → Reading bits asize st m (Some s) d → (with_high_bit (bit_x st) s.index == 4) ≡ false → IsIndexNumber bits (Some (with_high_bit (bit_x st) s.index)) (2 ^ s.scale)
index_number_is bits asize st m s d g other =
    let small = sib_small s g.sib_range in
    (extended_count bits (bit_x st) s.index small.index g.x, other, scale_power s.scale small.scale)

read_no_base : (bits asize : Bits) (st : PrefixState) (m : ModRm) (s : Sib) (d : List ℕ) → is_16 asize ≡ false → Reading bits asize st m (Some s) d → (m.mode3 == 0 && s.base == 5) ≡ true → IsRead bits asize (memory_with_sib bits asize st (sib_index asize st s) m s d) (length d)
unfolding disp_size_of
read_no_base bits asize st m s d wide g alone =
    let f = bytes_of_sib bits asize st m s d wide g in
    let base = sib_base-none bits asize st m s alone in
    let four = f.none alone in
    elim (cases_Bool (with_high_bit (bit_x st) s.index == 4)) [
      | inl none ↦
          same_read bits asize _ _ (length d)
          (with_parts bits asize st (sib_index asize st s) None None m s d base (sib_index-none asize st s (eqb-true _ 4 none))
          ∙ ap (λ (n : ℕ). address None None 1 (displacement asize d) (disp_size_of n)) four)
          (subst (λ (n : ℕ). IsRead bits asize (address None None 1 (displacement asize d) D32) n) (sym four) (alone_read bits asize d wide four g.bytes))
      | inr other ↦
          same_read bits asize _ _ (length d)
          (with_parts bits asize st (sib_index asize st s) None (Some (general_register asize (with_high_bit (bit_x st) s.index))) m s d base (sib_index-some asize st s other))
          (index_read bits asize (with_high_bit (bit_x st) s.index) (2 ^ s.scale) d (length d) wide (index_number_is bits asize st m s d g other) (no_base bits asize st m s d g f alone))
    ]

read_at_base : (bits asize : Bits) (st : PrefixState) (m : ModRm) (s : Sib) (d : List ℕ) → is_16 asize ≡ false → Reading bits asize st m (Some s) d → (m.mode3 == 0 && s.base == 5) ≡ false → IsRead bits asize (memory_with_sib bits asize st (sib_index asize st s) m s d) (length d)
read_at_base bits asize st m s d wide g beside =
    let f = bytes_of_sib bits asize st m s d wide g in
    let small = (sib_small s g.sib_range).base in
    let base = sib_base-some bits asize st m s beside in
    let k = with_high_bit (bit_b bits st) s.base in
    let number = extended_count bits (bit_b bits st) s.base small (bit_b-outside bits st) in
    let given = base_numbers bits asize st m (Some s) d s.base small g f beside in
    elim (cases_Bool (with_high_bit (bit_x st) s.index == 4)) [
      | inl none ↦
          same_read bits asize _ _ (length d)
          (with_parts bits asize st (sib_index asize st s) (Some (general_register asize k)) None m s d base (sib_index-none asize st s (eqb-true _ 4 none)))
          (base_read bits asize k d (length d) wide number given)
      | inr other ↦
          same_read bits asize _ _ (length d)
          (with_parts bits asize st (sib_index asize st s) (Some (general_register asize k)) (Some (general_register asize (with_high_bit (bit_x st) s.index))) m s d base (sib_index-some asize st s other))
          (sum_read bits asize k (with_high_bit (bit_x st) s.index) (2 ^ s.scale) d (length d) wide number (index_number_is bits asize st m s d g other) given)
    ]

-- without a SIB
bytes_of_rm : (bits asize : Bits) (st : PrefixState) (m : ModRm) (d : List ℕ) → is_16 asize ≡ false → Reading bits asize st m None d → FlatBytes m.rm m.mode3 (length d)
bytes_of_rm bits asize st m d wide g = subst (λ (n : ℕ). FlatBytes m.rm m.mode3 n) (sym g.len) (rm_bytes asize m.mode3 m.reg m.rm wide g.mode3)

read_without : (bits asize : Bits) (st : PrefixState) (m : ModRm) (next : ℕ) (d : List ℕ) → is_16 asize ≡ false → Reading bits asize st m None d → IsRead bits asize (memory_wide bits asize st m None next d) (length d)
read_without bits asize st m next d wide g =
    let f = bytes_of_rm bits asize st m d wide g in
    elim (cases_Bool (m.mode3 == 0 && m.rm == 5)) [
      | inl alone ↦
          same_read bits asize _ _ (length d) (wide-alone bits asize st m next d alone)
          (subst (λ (n : ℕ). IsRead bits asize (ip_or_absolute bits asize next d) n) (sym (f.none alone)) (pointer_read bits asize next d wide (f.none alone) g.bytes))
      | inr beside ↦
          same_read bits asize _ _ (length d) (wide-register bits asize st m next d beside)
          (base_read bits asize (with_high_bit (bit_b bits st) m.rm) d (length d) wide (extended_count bits (bit_b bits st) m.rm g.rm (bit_b-outside bits st)) (base_numbers bits asize st m None d m.rm g.rm g f beside))
    ]

read_wide : (bits asize : Bits) (st : PrefixState) (m : ModRm) (sib : Option Sib) (next : ℕ) (d : List ℕ) → is_16 asize ≡ false → Reading bits asize st m sib d → IsRead bits asize (memory_wide bits asize st m sib next d) (length d)
unfolding memory_wide
read_wide bits asize st m None next d wide g = read_without bits asize st m next d wide g
read_wide bits asize st m (Some s) next d wide g = elim (cases_Bool (m.mode3 == 0 && s.base == 5)) [
  | inl alone ↦ read_no_base bits asize st m s d wide g alone
  | inr beside ↦ read_at_base bits asize st m s d wide g beside
]

-- **an address that is read is a shape, with a displacement that the shape offers**
pub memory_read : (bits asize : Bits) (st : PrefixState) (m : ModRm) (sib : Option Sib) (next : ℕ) (d : List ℕ) → Reading bits asize st m sib d → IsRead bits asize (memory_of bits asize st m sib next d) (length d)
unfolding memory_of
memory_read bits B16 st m sib next d g = read_16 bits st m sib d g
memory_read bits B32 st m sib next d g = read_wide bits B32 st m sib next d refl g
memory_read bits B64 st m sib next d g = read_wide bits B64 st m sib next d refl g
