-- The fields of an address that is read are the plain ones of it exactly where its SIB is needed, and has no scale that is not read.
use Rattle.std.proofs.Common.{◌≡◌, eq-eqb, inl, inr, ℕ, zero, suc, ◌%◌, ◌^◌, ◌<◌, Bool, true, false, ◌&&◌, ◌||◌, not, ◌==◌, List, length, Option, Some, None, is_some, refl, ap, sym, ◌∙◌, subst, arith, if◌then◌else◌}
use Rattle.std.proofs.lemmas.Option.{same_Some}
use Rattle.std.proofs.lemmas.Bool.{lt-ltb, not_from_false, not_from_true, and_parts, cases_Bool, eqb-true}
use Rattle.x86_values.specs.declared.Bits.{Bits}
use Rattle.x86_values.specs.declared.Bits.TheVariants.{B16, B32, B64}
use Rattle.x86_values.specs.declared.Register.{Register}
use Rattle.x86_values.specs.declared.Register.TheVariants.{R16}
use Rattle.x86_values.specs.declared.DispSize.{DispSize}
use Rattle.x86_values.specs.declared.DispSize.TheVariants.{D16}
use Rattle.x86_values.specs.declared.Mem.{Mem}
use Rattle.instruction_parts.specs.declared.row_types.Row.{Row}
use Rattle.instruction_parts.specs.declared.row_types.LBit.{LBit}
use Rattle.instruction_parts.specs.declared.row_types.LBit.TheVariants.{None as NoL, L128, L256, Lig, Lz}
use Rattle.instruction_parts.specs.declared.kinds.File.{File}
use Rattle.instruction_parts.specs.declared.spelling.ModRm.{ModRm}
use Rattle.instruction_parts.specs.declared.spelling.Sib.{Sib}
use Rattle.instruction_parts.specs.declared.spelling.PrefixState.{PrefixState}
use Rattle.instruction_parts.specs.Counting.{is_16, is_64}
use Rattle.instruction_parts.specs.Sizes.{bit_b, bit_x}
use Rattle.row_fit.specs.Fits.{with_high_bit, is_displacement_alone, displacement_bytes, needs_sib, index_number}
use Rattle.row_meaning.specs.Meaning.{general_register, vector, register_of, displacement, disp_size_of, index_16, memory_16, ip_or_absolute, memory_with_sib, memory_wide, memory_of, sib_index}
use Rattle.plain_spelling.specs.PlainFront.{register_number}
use Rattle.plain_spelling.specs.declared.addresses.AddressFields.{AddressFields}
use Rattle.plain_spelling.specs.Addresses.{form_of, displacement_count, mode_of_count, scale_field, base_bits, index_bits, plain_sib, wide_needs_sib, wide_fields, alone_fields, address_fields, or_zero, rm_of_short}
use Rattle.row_relation.proofs.AddressCases.{address, impossible, memory_16-alone, memory_16-register, wide-alone, wide-register, sib_base-none, sib_base-some, sib_index-none, sib_index-some, number_of_general}
use Rattle.row_relation.proofs.AddressForms.{IsVectorFile}
use Rattle.row_relation.proofs.NeedReadShapes.{Reading, named, extended_low, with_parts, rm_is_four, sib_small}

-- ---- the fields as they are

-- the fields of an address: mod, r/m and SIB
abbrev pub fields : ℕ → ℕ → Option Sib → AddressFields
fields mode3 rm sib = record { mode3 = mode3; rm = rm; sib = sib }

same_fields : (a a1 b b1 : ℕ) (c c1 : Option Sib) → a ≡ a1 → b ≡ b1 → c ≡ c1 → fields a b c ≡ fields a1 b1 c1
same_fields a a1 b b1 c c1 ha hb hc = ap (λ (x : ℕ). fields x b c) ha ∙ ap (λ (x : ℕ). fields a1 x c) hb ∙ ap (λ (x : Option Sib). fields a1 b1 x) hc

abbrev sib_with : ℕ → ℕ → ℕ → Sib
sib_with scale index base = record { scale = scale; index = index; base = base }

same_sib : (a a1 b b1 c c1 : ℕ) → a ≡ a1 → b ≡ b1 → c ≡ c1 → sib_with a b c ≡ sib_with a1 b1 c1
same_sib a a1 b b1 c c1 ha hb hc = ap (λ (x : ℕ). sib_with x b c) ha ∙ ap (λ (x : ℕ). sib_with a1 x c) hb ∙ ap (λ (x : ℕ). sib_with a1 b1 x) hc

-- ---- mod by the displacement

mode_by : (asize : Bits) (mode3 reg rm : ℕ) (sib : Option Sib) → mode3 < 3 → is_displacement_alone asize (record { mode3 = mode3; reg = reg; rm = rm }) sib ≡ false
    → mode_of_count (displacement_count (disp_size_of (displacement_bytes asize (record { mode3 = mode3; reg = reg; rm = rm }) sib))) ≡ mode3
unfolding displacement_bytes mode_of_count displacement_count disp_size_of
mode_by asize zero reg rm sib h e = rw e refl
mode_by asize (suc zero) reg rm sib h e = rw e refl
mode_by B16 (suc (suc zero)) reg rm sib h e = rw e refl
mode_by B32 (suc (suc zero)) reg rm sib h e = rw e refl
mode_by B64 (suc (suc zero)) reg rm sib h e = rw e refl
mode_by asize (suc (suc (suc n))) reg rm sib h e = absurd (omega arith)

mode_back : (bits asize : Bits) (st : PrefixState) (m : ModRm) (sib : Option Sib) (d : List ℕ) → Reading bits asize st m sib d → is_displacement_alone asize m sib ≡ false → mode_of_count (displacement_count (disp_size_of (length d))) ≡ m.mode3
mode_back bits asize st m sib d g e =
    ap (λ (n : ℕ). mode_of_count (displacement_count (disp_size_of n))) g.len ∙ mode_by asize m.mode3 m.reg m.rm sib g.mode3 e

or_never : (a b : Bool) → (a || (b && false)) ≡ a
or_never true b = refl
or_never false true = refl
or_never false false = refl

alone_none : (asize : Bits) (m : ModRm) → is_16 asize ≡ false → is_displacement_alone asize m None ≡ (m.mode3 == 0 && m.rm == 5)
unfolding is_displacement_alone
alone_none B16 m w = impossible w
alone_none B32 m w = ap (λ (x : Bool). m.mode3 == 0 && x) (or_never (m.rm == 5) (m.rm == 4))
alone_none B64 m w = ap (λ (x : Bool). m.mode3 == 0 && x) (or_never (m.rm == 5) (m.rm == 4))

alone_sib : (asize : Bits) (m : ModRm) (s : Sib) → is_16 asize ≡ false → m.rm ≡ 4 → is_displacement_alone asize m (Some s) ≡ (m.mode3 == 0 && s.base == 5)
unfolding is_displacement_alone
alone_sib B16 m s w e = impossible w
alone_sib B32 m s w e = rw e refl
alone_sib B64 m s w e = rw e refl

-- ---- the plain fields, by base and index

fields_neither : (bits asize : Bits) (scale disp : ℕ) (size : DispSize) → is_16 asize ≡ false → address_fields bits asize (address None None scale disp size) ≡ (if is_64 bits then fields 0 4 (Some (sib_with 0 4 5)) else fields 0 5 None)
unfolding address_fields form_of alone_fields plain_sib index_bits base_bits
fields_neither bits B16 scale disp size w = impossible w
fields_neither bits B32 scale disp size w = refl
fields_neither bits B64 scale disp size w = refl

fields_index : (bits asize : Bits) (r : Register) (scale disp : ℕ) (size : DispSize) → address_fields bits asize (address None (Some r) scale disp size) ≡ fields 0 4 (Some (sib_with (scale_field scale) (register_number r % 8) 5))
unfolding address_fields form_of wide_fields wide_needs_sib plain_sib index_bits base_bits
fields_index bits asize r scale disp size = refl

fields_both : (bits asize : Bits) (k : ℕ) (r : Register) (scale disp : ℕ) (size : DispSize) → is_16 asize ≡ false → address_fields bits asize (address (Some (general_register asize k)) (Some r) scale disp size)
    ≡ fields (mode_of_count (displacement_count size)) 4 (Some (sib_with (scale_field scale) (register_number r % 8) (k % 8)))
unfolding general_register address_fields form_of wide_fields wide_needs_sib plain_sib index_bits base_bits register_number
fields_both bits B16 k r scale disp size w = impossible w
fields_both bits B32 k r scale disp size w = refl
fields_both bits B64 k r scale disp size w = refl

fields_base : (bits asize : Bits) (k : ℕ) (scale disp : ℕ) (size : DispSize) → is_16 asize ≡ false → address_fields bits asize (address (Some (general_register asize k)) None scale disp size)
    ≡ fields (mode_of_count (displacement_count size)) (if k % 8 == 4 then 4 else k % 8) (if k % 8 == 4 then Some (sib_with 0 4 (k % 8)) else None)
unfolding general_register address_fields form_of wide_fields wide_needs_sib plain_sib index_bits base_bits register_number
fields_base bits B16 k scale disp size w = impossible w
fields_base bits B32 k scale disp size w = refl
fields_base bits B64 k scale disp size w = refl

-- ---- 16-bit addressing

sib_none : (asize : Bits) (m : ModRm) (sib : Option Sib) → is_16 asize ≡ true → is_some sib ≡ needs_sib asize m → sib ≡ None
unfolding needs_sib
sib_none B16 m None w h = refl
sib_none B16 m (Some s) w h = impossible h
sib_none B32 m sib w h = impossible (sym w)
sib_none B64 m sib w h = impossible (sym w)

alone_16 : (bits : Bits) (disp : ℕ) (size : DispSize) → address_fields bits B16 (address None None 1 disp size) ≡ fields 0 6 None
unfolding address_fields form_of alone_fields
alone_16 bits disp size = refl

short_16 : (bits : Bits) (k : ℕ) (index : Option Register) (disp : ℕ) (size : DispSize) → address_fields bits B16 (address (Some (R16 k)) index 1 disp size) ≡ fields (mode_of_count (displacement_count size)) (or_zero (rm_of_short k index)) None
unfolding address_fields form_of
short_16 bits k index disp size = refl

alone_is : (m : ModRm) → is_displacement_alone B16 m None ≡ true → (m.mode3 ≡ 0) × (m.rm ≡ 6)
unfolding is_displacement_alone
alone_is m h = (eqb-true m.mode3 0 (and_parts (m.mode3 == 0) (m.rm == 6) h).0, eqb-true m.rm 6 (and_parts (m.mode3 == 0) (m.rm == 6) h).1)

plain_16 : (bits : Bits) (st : PrefixState) (m : ModRm) (d : List ℕ) → Reading bits B16 st m None d → address_fields bits B16 (memory_16 m d) ≡ fields m.mode3 m.rm None
plain_16 bits st m d g = elim (cases_Bool (is_displacement_alone B16 m None)) [
  | inl alone ↦ (let e = alone_is m alone in
      ap (λ (x : Mem). address_fields bits B16 x) (memory_16-alone m d alone) ∙ alone_16 bits (displacement B16 d) D16 ∙ same_fields 0 m.mode3 6 m.rm None None (sym e.0) (sym e.1) refl)
  | inr beside ↦ (let k = named m.rm g.rm in
      ap (λ (x : Mem). address_fields bits B16 x) (memory_16-register m d beside ∙ ap (λ (r : Register). address (Some r) (index_16 m.rm) 1 (displacement B16 d) (disp_size_of (length d))) k.base_is)
      ∙ short_16 bits k.first (index_16 m.rm) (displacement B16 d) (disp_size_of (length d))
      ∙ same_fields _ m.mode3 _ m.rm None None (mode_back bits B16 st m None d g beside) (ap or_zero k.rm_is) refl)
]

-- ---- without a SIB

pointer_fields : (bits asize : Bits) (next : ℕ) (d : List ℕ) → is_16 asize ≡ false → address_fields bits asize (ip_or_absolute bits asize next d) ≡ fields 0 5 None
unfolding ip_or_absolute address_fields form_of alone_fields
pointer_fields bits B16 next d w = impossible w
pointer_fields B16 B32 next d w = refl
pointer_fields B32 B32 next d w = refl
pointer_fields B64 B32 next d w = refl
pointer_fields B16 B64 next d w = refl
pointer_fields B32 B64 next d w = refl
pointer_fields B64 B64 next d w = refl

rm_not_four : (asize : Bits) (m : ModRm) → is_16 asize ≡ false → m.mode3 < 3 → false ≡ needs_sib asize m → (m.rm == 4) ≡ false
unfolding needs_sib
rm_not_four B16 m w small h = impossible w
rm_not_four B32 m w small h = (let e = lt-ltb m.mode3 3 small in sym (ap (λ (b : Bool). b && m.rm == 4) e) ∙ sym h)
rm_not_four B64 m w small h = (let e = lt-ltb m.mode3 3 small in sym (ap (λ (b : Bool). b && m.rm == 4) e) ∙ sym h)

if_same : {T : Type 0} → (t : Bool) (a b : T) → t ≡ false → (if t then a else b) ≡ b
if_same true a b h = impossible h
if_same false a b h = refl

if_there : {T : Type 0} → (t : Bool) (a b : T) → t ≡ true → (if t then a else b) ≡ a
if_there true a b h = refl
if_there false a b h = impossible (sym h)

plain_without : (bits asize : Bits) (st : PrefixState) (m : ModRm) (next : ℕ) (d : List ℕ) → is_16 asize ≡ false → Reading bits asize st m None d → address_fields bits asize (memory_wide bits asize st m None next d) ≡ fields m.mode3 m.rm None
plain_without bits asize st m next d w g = elim (cases_Bool (m.mode3 == 0 && m.rm == 5)) [
  | inl alone ↦
      ap (λ (x : Mem). address_fields bits asize x) (wide-alone bits asize st m next d alone) ∙ pointer_fields bits asize next d w
      ∙ same_fields 0 m.mode3 5 m.rm None None (sym (eqb-true m.mode3 0 (and_parts (m.mode3 == 0) (m.rm == 5) alone).0)) (sym (eqb-true m.rm 5 (and_parts (m.mode3 == 0) (m.rm == 5) alone).1)) refl
  | inr beside ↦ (let k = with_high_bit (bit_b bits st) m.rm in
      let low : k % 8 ≡ m.rm = extended_low (bit_b bits st) m.rm g.rm in
      let four : (k % 8 == 4) ≡ false = ap (λ (x : ℕ). x == 4) low ∙ rm_not_four asize m w g.mode3 g.sib_is in
      ap (λ (x : Mem). address_fields bits asize x) (wide-register bits asize st m next d beside) ∙ fields_base bits asize k 1 _ (disp_size_of (length d)) w
      ∙ same_fields _ m.mode3 _ m.rm _ None (mode_back bits asize st m None d g (alone_none asize m w ∙ beside)) (if_same (k % 8 == 4) 4 (k % 8) four ∙ low) (if_same (k % 8 == 4) _ None four))
]

-- ---- with a SIB

scale_back : (n : ℕ) → n < 4 → scale_field (2 ^ n) ≡ n
unfolding scale_field
scale_back zero h = refl
scale_back (suc zero) h = refl
scale_back (suc (suc zero)) h = refl
scale_back (suc (suc (suc zero))) h = refl
scale_back (suc (suc (suc (suc n)))) h = absurd (omega arith)

-- the index names a register
abbrev pub names_index : PrefixState → Sib → Bool
names_index st s = not (with_high_bit (bit_x st) s.index == 4)

-- the SIB is needed, where it names an index by this test
abbrev pub sib_needed : Bits → ModRm → Sib → Bool → Bool
sib_needed bits m s index = index || (s.base == 4 || ((m.mode3 == 0 && s.base == 5) && is_64 bits))

-- a scale is needed only with an index
abbrev pub scale_needed : Sib → Bool → Bool
scale_needed s index = index || s.scale == 0

-- the SIB of these plain fields is the one that is read exactly where it is needed, and its scale
pub record SibIs (bits asize : Bits) (m : ModRm) (s : Sib) (index : Bool) (mem : Mem) : Type 0 where
  pub forth : sib_needed bits m s index ≡ true → scale_needed s index ≡ true → address_fields bits asize mem ≡ fields m.mode3 m.rm (Some s)
  pub back : (address_fields bits asize mem).sib ≡ Some s → (sib_needed bits m s index ≡ true) × (scale_needed s index ≡ true)

same_sib_is : (bits asize : Bits) (m : ModRm) (s : Sib) (index : Bool) (k mem : Mem) → k ≡ mem → SibIs bits asize m s index mem → SibIs bits asize m s index k
same_sib_is bits asize m s index k mem e h = subst (SibIs bits asize m s index) (sym e) h

-- with an index
both_there : (bits : Bits) (m : ModRm) (s : Sib) (index : Bool) → index ≡ true → (sib_needed bits m s index ≡ true) × (scale_needed s index ≡ true)
both_there bits m s index h = rw h (refl, refl)

with_index : (bits asize : Bits) (m : ModRm) (s : Sib) (index : Bool) (mem : Mem) → index ≡ true → address_fields bits asize mem ≡ fields m.mode3 m.rm (Some s) → SibIs bits asize m s index mem
with_index bits asize m s index mem h e = record { forth = λ a b. e; back = λ k. both_there bits m s index h }

sum_is : (bits asize : Bits) (st : PrefixState) (m : ModRm) (s : Sib) (d : List ℕ) (r : Register) (j disp : ℕ) → is_16 asize ≡ false → Reading bits asize st m (Some s) d → (m.mode3 == 0 && s.base == 5) ≡ false → register_number r % 8 ≡ s.index
    → address_fields bits asize (address (Some (general_register asize (with_high_bit (bit_b bits st) s.base))) (Some r) (2 ^ s.scale) disp (disp_size_of (length d))) ≡ fields m.mode3 m.rm (Some s)
sum_is bits asize st m s d r j disp w g beside index =
    let small = sib_small s g.sib_range in
    let four = rm_is_four asize m (sym g.sib_is) in
    fields_both bits asize (with_high_bit (bit_b bits st) s.base) r (2 ^ s.scale) disp (disp_size_of (length d)) w
    ∙ same_fields _ m.mode3 4 m.rm _ (Some s) (mode_back bits asize st m (Some s) d g (alone_sib asize m s w four ∙ beside)) (sym four)
    (ap (λ (x : Sib). Some x) (same_sib _ s.scale _ s.index _ s.base (scale_back s.scale small.scale) index (extended_low (bit_b bits st) s.base small.base)))

index_is : (bits asize : Bits) (st : PrefixState) (m : ModRm) (s : Sib) (d : List ℕ) (r : Register) (disp : ℕ) (size : DispSize) → is_16 asize ≡ false → Reading bits asize st m (Some s) d → (m.mode3 == 0 && s.base == 5) ≡ true → register_number r % 8 ≡ s.index
    → address_fields bits asize (address None (Some r) (2 ^ s.scale) disp size) ≡ fields m.mode3 m.rm (Some s)
index_is bits asize st m s d r disp size w g alone index =
    let small = sib_small s g.sib_range in
    let four = rm_is_four asize m (sym g.sib_is) in
    fields_index bits asize r (2 ^ s.scale) disp size
    ∙ same_fields 0 m.mode3 4 m.rm _ (Some s) (sym (eqb-true m.mode3 0 (and_parts (m.mode3 == 0) (s.base == 5) alone).0)) (sym four)
    (ap (λ (x : Sib). Some x) (same_sib _ s.scale _ s.index 5 s.base (scale_back s.scale small.scale) index (sym (eqb-true s.base 5 (and_parts (m.mode3 == 0) (s.base == 5) alone).1))))

-- without an index
or_left : (a b : Bool) → a ≡ false → (a || b) ≡ true → b ≡ true
or_left true b h k = impossible h
or_left false b h k = k

index_four : (b : Bool) (n : ℕ) → with_high_bit b n ≡ 4 → n ≡ 4
index_four true n h = absurd (omega arith)
index_four false n h = omega arith

none_sib : {T : Type 0} → (a : Sib) → None ≡ Some a → T
none_sib a h = impossible (let k : true ≡ false = cc in k)

back_neither : (bits : Bits) (m : ModRm) (s : Sib) (long : Bool) → (m.mode3 == 0 && s.base == 5) ≡ true → (if long then fields 0 4 (Some (sib_with 0 4 5)) else fields 0 5 None).sib ≡ Some s → is_64 bits ≡ long → (sib_needed bits m s false ≡ true) × (scale_needed s false ≡ true)
back_neither bits m s false alone h e = none_sib s h
back_neither bits m s true alone h e =
    let k : sib_with 0 4 5 ≡ s = same_Some (sib_with 0 4 5) s h in
    let scale : 0 ≡ s.scale = ap (λ (x : Sib). x.scale) k in
    let zero_is : (s.scale == 0) ≡ true = subst (λ (n : ℕ). (n == 0) ≡ true) scale refl in
    (rw (alone, e) (or_true (s.base == 4)), zero_is)
  where
    or_true : (b : Bool) → (b || true) ≡ true
    or_true true = refl
    or_true false = refl

neither_is : (bits asize : Bits) (st : PrefixState) (m : ModRm) (s : Sib) (d : List ℕ) (scale disp : ℕ) (size : DispSize) → is_16 asize ≡ false → Reading bits asize st m (Some s) d → (m.mode3 == 0 && s.base == 5) ≡ true → with_high_bit (bit_x st) s.index ≡ 4
    → SibIs bits asize m s false (address None None scale disp size)
neither_is bits asize st m s d scale disp size w g alone none =
    let four = rm_is_four asize m (sym g.sib_is) in
    let base : s.base ≡ 5 = eqb-true s.base 5 (and_parts (m.mode3 == 0) (s.base == 5) alone).1 in
    let no_four : (s.base == 4) ≡ false = ap (λ (n : ℕ). n == 4) base in
    let f = fields_neither bits asize scale disp size w in
    record {
      forth = λ needed scaled. (
          let long : is_64 bits ≡ true = (and_parts (m.mode3 == 0 && s.base == 5) (is_64 bits) (or_left (s.base == 4) _ no_four needed)).1 in
          f ∙ if_there (is_64 bits) _ _ long
          ∙ same_fields 0 m.mode3 4 m.rm (Some (sib_with 0 4 5)) (Some s) (sym (eqb-true m.mode3 0 (and_parts (m.mode3 == 0) (s.base == 5) alone).0)) (sym four)
          (ap (λ (x : Sib). Some x) (same_sib 0 s.scale 4 s.index 5 s.base (sym (eqb-true s.scale 0 scaled)) (sym (index_four (bit_x st) s.index none)) (sym base))));
      back = λ h. back_neither bits m s (is_64 bits) alone (ap (λ (x : AddressFields). x.sib) (sym f) ∙ h) refl;
    }

back_base : (bits : Bits) (m : ModRm) (s : Sib) (four : Bool) (k : ℕ) → (s.base == 4) ≡ four → (if four then Some (sib_with 0 4 k) else None) ≡ Some s → (sib_needed bits m s false ≡ true) × (scale_needed s false ≡ true)
back_base bits m s false k e h = none_sib s h
back_base bits m s true k e h =
    let z : sib_with 0 4 k ≡ s = same_Some (sib_with 0 4 k) s h in
    let scale : 0 ≡ s.scale = ap (λ (x : Sib). x.scale) z in
    (rw e refl, subst (λ (n : ℕ). (n == 0) ≡ true) scale refl)

base_is : (bits asize : Bits) (st : PrefixState) (m : ModRm) (s : Sib) (d : List ℕ) (scale disp : ℕ) → is_16 asize ≡ false → Reading bits asize st m (Some s) d → (m.mode3 == 0 && s.base == 5) ≡ false → with_high_bit (bit_x st) s.index ≡ 4
    → SibIs bits asize m s false (address (Some (general_register asize (with_high_bit (bit_b bits st) s.base))) None scale disp (disp_size_of (length d)))
base_is bits asize st m s d scale disp w g beside none =
    let small = sib_small s g.sib_range in
    let four = rm_is_four asize m (sym g.sib_is) in
    let k = with_high_bit (bit_b bits st) s.base in
    let low : k % 8 ≡ s.base = extended_low (bit_b bits st) s.base small.base in
    let f = fields_base bits asize k scale disp (disp_size_of (length d)) w in
    let same : (k % 8 == 4) ≡ (s.base == 4) = ap (λ (n : ℕ). n == 4) low in
    record {
      forth = λ needed scaled. (
          let is : (s.base == 4) ≡ true = base_four (s.base == 4) (m.mode3 == 0 && s.base == 5) (is_64 bits) beside needed in
          f
          ∙ same_fields _ m.mode3 _ m.rm _ (Some s) (mode_back bits asize st m (Some s) d g (alone_sib asize m s w four ∙ beside)) (if_there (k % 8 == 4) 4 (k % 8) (same ∙ is) ∙ sym four)
          (if_there (k % 8 == 4) _ None (same ∙ is)
          ∙ ap (λ (x : Sib). Some x) (same_sib 0 s.scale 4 s.index (k % 8) s.base (sym (eqb-true s.scale 0 scaled)) (sym (index_four (bit_x st) s.index none)) low)));
      back = λ h. back_base bits m s (k % 8 == 4) (k % 8) (sym same) (ap (λ (x : AddressFields). x.sib) (sym f) ∙ h);
    }
  where
    base_four : (a b c : Bool) → b ≡ false → (a || (b && c)) ≡ true → a ≡ true
    base_four true b c h k = refl
    base_four false true c h k = impossible h
    base_four false false c h k = k

-- ---- an address by a general index

eq_test : (n k : ℕ) → n ≡ k → (n == k) ≡ true
eq_test n k h = subst (λ (x : ℕ). (n == x) ≡ true) h (same n)
  where
    same : (n : ℕ) → (n == n) ≡ true
    same n = eq-eqb n n refl

index_low : (asize : Bits) (b : Bool) (n : ℕ) → n < 8 → register_number (general_register asize (with_high_bit b n)) % 8 ≡ n
index_low asize b n h = ap (λ (x : ℕ). x % 8) (number_of_general asize (with_high_bit b n)) ∙ extended_low b n h

-- what a read address with a SIB needs is its SIB
pub sib_is : (bits asize : Bits) (st : PrefixState) (m : ModRm) (s : Sib) (d : List ℕ) → is_16 asize ≡ false → Reading bits asize st m (Some s) d → SibIs bits asize m s (names_index st s) (memory_with_sib bits asize st (sib_index asize st s) m s d)
sib_is bits asize st m s d w g =
    let small = sib_small s g.sib_range in
    let j = with_high_bit (bit_x st) s.index in
    elim (cases_Bool (m.mode3 == 0 && s.base == 5)) [
      | inl alone ↦
          (let base = sib_base-none bits asize st m s alone in
          elim (cases_Bool (j == 4)) [
            | inl none ↦
                subst (λ (b : Bool). SibIs bits asize m s b (memory_with_sib bits asize st (sib_index asize st s) m s d)) (sym (not_from_true (j == 4) none))
                (same_sib_is bits asize m s false _ _ (with_parts bits asize st (sib_index asize st s) None None m s d base (sib_index-none asize st s (eqb-true j 4 none)))
                (neither_is bits asize st m s d 1 _ _ w g alone (eqb-true j 4 none)))
            | inr other ↦
                same_sib_is bits asize m s (names_index st s) _ _ (with_parts bits asize st (sib_index asize st s) None (Some (general_register asize j)) m s d base (sib_index-some asize st s other))
                (with_index bits asize m s (names_index st s) _ (not_from_false (j == 4) other) (index_is bits asize st m s d (general_register asize j) _ _ w g alone (index_low asize (bit_x st) s.index small.index)))
          ])
      | inr beside ↦
          (let base = sib_base-some bits asize st m s beside in
          let k = with_high_bit (bit_b bits st) s.base in
          elim (cases_Bool (j == 4)) [
            | inl none ↦
                subst (λ (b : Bool). SibIs bits asize m s b (memory_with_sib bits asize st (sib_index asize st s) m s d)) (sym (not_from_true (j == 4) none))
                (same_sib_is bits asize m s false _ _ (with_parts bits asize st (sib_index asize st s) (Some (general_register asize k)) None m s d base (sib_index-none asize st s (eqb-true j 4 none)))
                (base_is bits asize st m s d 1 _ w g beside (eqb-true j 4 none)))
            | inr other ↦
                same_sib_is bits asize m s (names_index st s) _ _ (with_parts bits asize st (sib_index asize st s) (Some (general_register asize k)) (Some (general_register asize j)) m s d base (sib_index-some asize st s other))
                (with_index bits asize m s (names_index st s) _ (not_from_false (j == 4) other) (sum_is bits asize st m s d (general_register asize j) 0 _ w g beside (index_low asize (bit_x st) s.index small.index)))
          ])
    ]

-- ---- a gather

vector_number : (l : LBit) (n : ℕ) → register_number (vector l n) ≡ n
unfolding vector register_number
vector_number NoL n = refl
vector_number L128 n = refl
vector_number L256 n = refl
vector_number Lig n = refl
vector_number Lz n = refl

file_number : (bits : Bits) (row : Row) (st : PrefixState) (file : File) (n : ℕ) → IsVectorFile file → register_number (register_of bits row st file n) ≡ n
unfolding register_of register_number
file_number bits row st file n (inl e) = rw e refl
file_number bits row st file n (inr e) = rw e (vector_number row.l n)

-- what a read gather needs is its SIB
pub gather_is : (bits asize : Bits) (row : Row) (st : PrefixState) (file : File) (m : ModRm) (s : Sib) (d : List ℕ) → is_16 asize ≡ false → IsVectorFile file → Reading bits asize st m (Some s) d
    → address_fields bits asize (memory_with_sib bits asize st (Some (register_of bits row st file (index_number st (Some s)))) m s d) ≡ fields m.mode3 m.rm (Some s)
unfolding index_number
gather_is bits asize row st file m s d w v g =
    let small = sib_small s g.sib_range in
    let j = with_high_bit (bit_x st) s.index in
    let r = register_of bits row st file j in
    let index : register_number r % 8 ≡ s.index = ap (λ (x : ℕ). x % 8) (file_number bits row st file j v) ∙ extended_low (bit_x st) s.index small.index in
    elim (cases_Bool (m.mode3 == 0 && s.base == 5)) [
      | inl alone ↦
          ap (λ (x : Mem). address_fields bits asize x) (with_parts bits asize st (Some r) None (Some r) m s d (sib_base-none bits asize st m s alone) refl)
          ∙ index_is bits asize st m s d r _ _ w g alone index
      | inr beside ↦
          ap (λ (x : Mem). address_fields bits asize x) (with_parts bits asize st (Some r) (Some (general_register asize (with_high_bit (bit_b bits st) s.base))) (Some r) m s d (sib_base-some bits asize st m s beside) refl)
          ∙ sum_is bits asize st m s d r 0 _ w g beside index
    ]

-- ---- an address of any size

-- without a SIB the fields are the plain ones
pub without_sib : (bits asize : Bits) (st : PrefixState) (m : ModRm) (next : ℕ) (d : List ℕ) → Reading bits asize st m None d → address_fields bits asize (memory_of bits asize st m None next d) ≡ fields m.mode3 m.rm None
unfolding memory_of
without_sib bits B16 st m next d g = plain_16 bits st m d g
without_sib bits B32 st m next d g = plain_without bits B32 st m next d refl g
without_sib bits B64 st m next d g = plain_without bits B64 st m next d refl g

-- with one they are exactly where it is needed
pub with_sib : (bits asize : Bits) (st : PrefixState) (m : ModRm) (s : Sib) (next : ℕ) (d : List ℕ) → Reading bits asize st m (Some s) d → SibIs bits asize m s (names_index st s) (memory_of bits asize st m (Some s) next d)
unfolding memory_of memory_wide
with_sib bits B16 st m s next d g = none_sib s (sym (sib_none B16 m (Some s) refl g.sib_is))
with_sib bits B32 st m s next d g = sib_is bits B32 st m s d refl g
with_sib bits B64 st m s next d g = sib_is bits B64 st m s d refl g
