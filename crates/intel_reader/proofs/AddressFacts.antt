-- What the conditions on an address come to at the address size of its instruction.
use Rattle.std.proofs.Common.{◌≡◌, ℕ, ◌^◌, ◌<◌, Bool, true, false, ◌&&◌, ◌||◌, not, ◌==◌, Option, Some, None, is_some, is_none, refl, ap, sym, ◌∙◌, subst, arith}
use Rattle.std.proofs.lemmas.Bool.{or_left, or_right, and_parts, eqb-true}
use borrow.Author.Tests.{ltb-true}
use Rattle.x86_values.specs.declared.Bits.{Bits}
use Rattle.x86_values.specs.declared.Bits.TheVariants.{B16, B32, B64}
use Rattle.x86_values.specs.declared.Register.{Register}
use Rattle.x86_values.specs.declared.Register.TheVariants.{Eip, Rip}
use Rattle.x86_values.specs.declared.DispSize.{DispSize}
use Rattle.x86_values.specs.declared.Mem.{Mem}
use Rattle.x86_values.specs.declared.Operand.TheVariants.{Mem as MemOperand}
use Rattle.x86_values.specs.Wrapping.{width}
use Rattle.instruction_parts.specs.declared.row_types.Row.{Row}
use Rattle.instruction_parts.specs.declared.kinds.Method.{Method}
use Rattle.instruction_parts.specs.declared.kinds.Method.TheVariants as method
use Rattle.instruction_parts.specs.declared.kinds.File.{File}
use Rattle.instruction_parts.specs.Counting.{is_16, is_64}
use Rattle.plain_spelling.specs.Values.{is_extended_of}
use Rattle.plain_spelling.specs.declared.addresses.AddressForm.{AddressForm}
use Rattle.plain_spelling.specs.declared.addresses.AddressForm.TheVariants.{Relative, Alone, Short, Wide}
use Rattle.plain_spelling.specs.Addresses.{form_of, rm_of_short, has_address_size, is_base, is_index, scale_suits, is_wide_size, is_wide_shape, is_shape, is_gather_base, is_vector_index, is_gather_shape, shape_suits, displacement_count, offers, is_displacement, displacement_suits, shown_size, written_size}
use Rattle.plain_spelling.specs.Forms.{is_scale}
use Rattle.plain_spelling.specs.Expressible.{size_agrees}
use Rattle.x86_values.proofs.Compared.{same_bits-is}
use Rattle.row_relation.proofs.AddressCases.{impossible, form-alone-index, form-short, agrees, written_is}
use Rattle.row_relation.proofs.AddressForms.{shape_is, value_at}
use Rattle.row_relation.proofs.FitAddressShapes.{shape_shown}
use Rattle.row_relation.proofs.FitAddressGathers.{gather_is_wide, gather_shown, absolute_shown, absolute_is_alone}
use Rattle.text_parts.specs.Addresses.{is_instruction_pointer, is_relative}
use Rattle.intel_reader.proofs.AddressBack.{of_no_bytes, of_width, DisplacementIs, AddressIs}

-- ---- the base by the form

relative_base : (base index : Option Register) (size : Bits) → form_of base index ≡ Relative size → is_instruction_pointer base ≡ true
unfolding form_of is_instruction_pointer
relative_base None None size h = cc
relative_base None (Some r) size h = cc
relative_base (Some Rip) index size h = refl
relative_base (Some Eip) index size h = refl
relative_base (Some r) index size h = cc

alone_base : (base index : Option Register) → form_of base index ≡ Alone → is_instruction_pointer base ≡ false
unfolding form_of is_instruction_pointer
alone_base None index h = refl
alone_base (Some Rip) index h = cc
alone_base (Some Eip) index h = cc
alone_base (Some r) index h = refl

short_base : (base index : Option Register) (n : ℕ) → form_of base index ≡ Short n → is_instruction_pointer base ≡ false
unfolding form_of is_instruction_pointer
short_base None index n h = refl
short_base (Some Rip) index n h = cc
short_base (Some Eip) index n h = cc
short_base (Some r) index n h = refl

wide_base : (base index : Option Register) → form_of base index ≡ Wide → is_instruction_pointer base ≡ false
unfolding form_of is_instruction_pointer
wide_base None index h = refl
wide_base (Some Rip) index h = cc
wide_base (Some Eip) index h = cc
wide_base (Some r) index h = refl

pointer_some : (base : Option Register) → is_instruction_pointer base ≡ true → is_some base ≡ true
unfolding is_instruction_pointer
pointer_some None h = cc
pointer_some (Some r) h = refl

none_is : (o : Option Register) → is_none o ≡ true → o ≡ None
none_is None h = refl
none_is (Some r) h = cc

-- ---- the displacement

value_is : (a : Bits) (m : Mem) (form : AddressForm) → form_of m.base m.index ≡ form → is_displacement a m ≡ true → value_at a m form ≡ true
unfolding is_displacement
value_is a m form e h = subst (λ (x : AddressForm). value_at a m x ≡ true) e h

displacement_is : (a : Bits) (m : Mem) → is_extended_of (displacement_count m.disp_size) (width a) m.disp ≡ true → DisplacementIs a m.disp_size m.disp
unfolding displacement_count
displacement_is a m h = record {
  below = of_width (displacement_count m.disp_size) (width a) m.disp h;
  none = λ e. of_no_bytes a m.disp (subst (λ (z : DispSize). is_extended_of (displacement_count z) (width a) m.disp ≡ true) e h);
}

within_64 : (a : Bits) (x : ℕ) → x < 2 ^ width a → x < 2 ^ 64
within_64 B16 x h = omega arith
within_64 B32 x h = omega arith
within_64 B64 x h = h

-- ---- the address by its form

-- without an instruction pointer as base
beside_is : (a : Bits) (m : Mem) → is_relative m ≡ false → is_extended_of (displacement_count m.disp_size) (width a) m.disp ≡ true
    → (a ≡ B16 → m.scale ≡ 1) → (m.index ≡ None → m.scale ≡ 1) → (a ≡ B16 → (is_some m.base || is_none m.index) ≡ true) → AddressIs a m
beside_is a m beside value short alone shown =
    let d = displacement_is a m value in
    record {
      relative = λ h. impossible (sym h ∙ beside);
      displacement = λ h. d;
      scale = record { short = short; alone = alone };
      number = within_64 a m.disp d.below;
      shown = shown;
    }

relative_is : (bits a : Bits) (m : Mem) (size : Bits) → form_of m.base m.index ≡ Relative size → is_shape bits m ≡ true → is_displacement a m ≡ true → AddressIs a m
relative_is bits a m size e shape value =
    let rest = (and_parts (is_64 bits) (is_none m.index && m.scale == 1) (shape_is bits m (Relative size) e shape)).1 in
    let index = none_is m.index (and_parts (is_none m.index) (m.scale == 1) rest).0 in
    let scale = eqb-true m.scale 1 (and_parts (is_none m.index) (m.scale == 1) rest).1 in
    let pointer = relative_base m.base m.index size e in
    record {
      relative = λ h. (index, scale);
      displacement = λ h. impossible (sym pointer ∙ h);
      scale = record { short = λ h. scale; alone = λ h. scale };
      number = within_64 size m.disp (ltb-true m.disp (2 ^ width size) (value_is a m (Relative size) e value));
      shown = λ h. or_left (is_some m.base) (is_none m.index) (pointer_some m.base pointer);
    }

-- neither base nor index
lone_is : (a : Bits) (m : Mem) → form_of m.base m.index ≡ Alone → m.scale ≡ 1 → is_displacement a m ≡ true → AddressIs a m
lone_is a m e scale value =
    beside_is a m (alone_base m.base m.index e) (value_is a m Alone e value) (λ h. scale) (λ h. scale)
    (λ h. or_right (is_some m.base) (is_none m.index) (ap (λ (o : Option Register). is_none o) (form-alone-index m.base m.index e)))

short_is : (bits a : Bits) (m : Mem) (n : ℕ) → form_of m.base m.index ≡ Short n → is_shape bits m ≡ true → is_displacement a m ≡ true → AddressIs a m
short_is bits a m n e shape value =
    let rest = (and_parts (not (is_64 bits)) (is_some (rm_of_short n m.index) && m.scale == 1) (shape_is bits m (Short n) e shape)).1 in
    let scale = eqb-true m.scale 1 (and_parts (is_some (rm_of_short n m.index)) (m.scale == 1) rest).1 in
    beside_is a m (short_base m.base m.index n e) (value_is a m (Short n) e value) (λ h. scale) (λ h. scale)
    (λ h. or_left (is_some m.base) (is_none m.index) (ap (λ (o : Option Register). is_some o) (form-short m.base m.index n e)))

-- what 32 and 64-bit addressing asks at a size
abbrev flat_at : Bits → Mem → Option Bits → Bool
flat_at bits m o =
    elim o [
      | None ↦ false
      | Some asize ↦ is_wide_size bits asize && (is_base bits asize m.base && (is_index bits asize m.index && scale_suits m.index m.scale))
    ]

no_word_size : (bits a : Bits) → is_wide_size bits a ≡ true → a ≡ B16 → true ≡ false
unfolding is_wide_size
no_word_size bits B16 h e = sym (and_parts (has_address_size bits B16) false h).1
no_word_size bits B32 h e = cc
no_word_size bits B64 h e = cc

alone_scale : (index : Option Register) (scale : ℕ) → scale_suits index scale ≡ true → index ≡ None → scale ≡ 1
unfolding scale_suits
alone_scale None scale h e = eqb-true scale 1 h
alone_scale (Some r) scale h e = cc

wide_from : (bits a : Bits) (m : Mem) (o : Option Bits) → flat_at bits m o ≡ true → agrees a o ≡ true → (is_wide_size bits a ≡ true) × (scale_suits m.index m.scale ≡ true)
wide_from bits a m None h s = cc
wide_from bits a m (Some z) h s =
    let same : z ≡ a = same_bits-is z a s in
    let rest = (and_parts (is_wide_size bits z) (is_base bits z m.base && (is_index bits z m.index && scale_suits m.index m.scale)) h).1 in
    let last = (and_parts (is_base bits z m.base) (is_index bits z m.index && scale_suits m.index m.scale) rest).1 in (
      subst (λ (b : Bits). is_wide_size bits b ≡ true) same (and_parts (is_wide_size bits z) (is_base bits z m.base && (is_index bits z m.index && scale_suits m.index m.scale)) h).0,
      (and_parts (is_index bits z m.index) (scale_suits m.index m.scale) last).1,
    )

wide_shape : (bits a : Bits) (m : Mem) → is_wide_shape bits m ≡ true → agrees a (shown_size m) ≡ true → (is_wide_size bits a ≡ true) × (scale_suits m.index m.scale ≡ true)
unfolding is_wide_shape
wide_shape bits a m h s = wide_from bits a m (shown_size m) h s

wide_is : (bits a : Bits) (m : Mem) → form_of m.base m.index ≡ Wide → is_shape bits m ≡ true → agrees a (shown_size m) ≡ true → is_displacement a m ≡ true → AddressIs a m
wide_is bits a m e shape shows value =
    let f = wide_shape bits a m (shape_is bits m Wide e shape) shows in
    beside_is a m (wide_base m.base m.index e) (value_is a m Wide e value) (λ h. impossible (no_word_size bits a f.0 h)) (alone_scale m.index m.scale f.1)
    (λ h. impossible (no_word_size bits a f.0 h))

index_there : (bits : Bits) (row : Row) (file : File) (index : Option Register) → is_vector_index bits row file index ≡ true → index ≡ None → true ≡ false
unfolding is_vector_index
index_there bits row file None h e = sym h
index_there bits row file (Some r) h e = cc

not_word : (a : Bits) → is_16 a ≡ false → a ≡ B16 → true ≡ false
not_word B16 h e = h
not_word B32 h e = cc
not_word B64 h e = cc

gather_is : (bits a : Bits) (row : Row) (file : File) (m : Mem) → is_gather_shape bits row file m ≡ true → is_16 a ≡ false → is_displacement a m ≡ true → AddressIs a m
unfolding is_gather_shape
gather_is bits a row file m shape size value =
    let wide = gather_is_wide bits row file m shape in
    let rest = (and_parts (is_gather_base bits m.base) (is_vector_index bits row file m.index && is_scale m.scale) shape).1 in
    let index = (and_parts (is_vector_index bits row file m.index) (is_scale m.scale) rest).0 in
    beside_is a m (wide_base m.base m.index wide) (value_is a m Wide wide value) (λ h. impossible (not_word a size h)) (λ h. impossible (index_there bits row file m.index index h))
    (λ h. impossible (not_word a size h))

-- ---- all of it

value_at_size : (bits a : Bits) (how : Method) (m : Mem) → agrees a (shown_size m) ≡ true → displacement_suits (written_size bits (Some a) m) how m ≡ true → is_displacement a m ≡ true
unfolding displacement_suits
value_at_size bits a how m shows h =
    let k = subst (λ (z : Bits). (offers z how m (displacement_count m.disp_size) && is_displacement z m) ≡ true) (written_is bits a m shows) h in
    (and_parts (offers a how m (displacement_count m.disp_size)) (is_displacement a m) k).1

modrm_is : (bits a : Bits) (how : Method) (m : Mem) → is_shape bits m ≡ true → size_agrees a (MemOperand m) ≡ true → displacement_suits (written_size bits (Some a) m) how m ≡ true → AddressIs a m
modrm_is bits a how m shape size disp = by_form (form_of m.base m.index) refl
  where
    shows : agrees a (shown_size m) ≡ true
    shows = shape_shown bits a m shape size

    value : is_displacement a m ≡ true
    value = value_at_size bits a how m shows disp

    by_form : (form : AddressForm) → form_of m.base m.index ≡ form → AddressIs a m
    by_form (Relative z) e = relative_is bits a m z e shape value
    by_form Alone e = lone_is a m e (eqb-true m.scale 1 (shape_is bits m Alone e shape)) value
    by_form (Short n) e = short_is bits a m n e shape value
    by_form Wide e = wide_is bits a m e shape shows value

offset_is : (bits a : Bits) (how : Method) (m : Mem) → (is_none m.base && (is_none m.index && m.scale == 1)) ≡ true → displacement_suits (written_size bits (Some a) m) how m ≡ true → AddressIs a m
offset_is bits a how m shape disp =
    let rest = (and_parts (is_none m.base) (is_none m.index && m.scale == 1) shape).1 in
    lone_is a m (absolute_is_alone m shape) (eqb-true m.scale 1 (and_parts (is_none m.index) (m.scale == 1) rest).1) (value_at_size bits a how m (absolute_shown a m shape) disp)

-- **an address that meets the conditions at the address size of its instruction**
pub address_is : (bits a : Bits) (row : Row) (how : Method) (file : File) (m : Mem) → shape_suits bits row how file m ≡ true → size_agrees a (MemOperand m) ≡ true
    → displacement_suits (written_size bits (Some a) m) how m ≡ true → (how ≡ method.Gather → is_16 a ≡ false) → AddressIs a m
unfolding shape_suits
address_is bits a row method.Gather file m shape size disp wide =
    gather_is bits a row file m shape (wide refl) (value_at_size bits a method.Gather m (gather_shown bits a row file m shape size) disp)
address_is bits a row method.Offset file m shape size disp wide = offset_is bits a method.Offset m shape disp
address_is bits a row how file m shape size disp wide = modrm_is bits a how m shape size disp
