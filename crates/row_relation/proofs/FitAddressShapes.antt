-- The plain fields of each shape mean the address.
use Rattle.std.proofs.Common.{◌≡◌, ℕ, Bool, true, false, ◌&&◌, not, ◌==◌, nat_le, List, length, Option, Some, None, is_some, is_none, refl, ap, sym, ◌∙◌, subst}
use Rattle.std.proofs.lemmas.Bool.{and_parts, eqb-true, not-true}
use Rattle.x86_values.specs.declared.Bits.{Bits}
use Rattle.x86_values.specs.declared.Bits.TheVariants.{B16, B32, B64}
use Rattle.x86_values.specs.declared.Register.{Register}
use Rattle.x86_values.specs.declared.Register.TheVariants.{R16, Eip, Rip}
use Rattle.x86_values.specs.declared.Mem.{Mem}
use Rattle.x86_values.specs.declared.Operand.TheVariants.{Mem as MemOperand}
use Rattle.instruction_parts.specs.declared.spelling.PrefixState.{PrefixState}
use Rattle.instruction_parts.specs.Counting.{is_16, is_64}
use Rattle.instruction_parts.specs.Sizes.{bit_b, bit_x}
use Rattle.row_fit.specs.Fits.{full_displacement}
use Rattle.row_meaning.specs.Meaning.{displacement, instruction_pointer, target_of}
use Rattle.plain_spelling.specs.PlainFront.{number_or_zero}
use Rattle.plain_spelling.specs.declared.addresses.AddressForm.{AddressForm}
use Rattle.plain_spelling.specs.declared.addresses.AddressForm.TheVariants.{Relative, Alone, Short, Wide}
use Rattle.plain_spelling.specs.declared.addresses.AddressFields.{AddressFields}
use Rattle.plain_spelling.specs.Addresses.{form_of, general_size, pointer_size, has_address_size, is_base, is_index, scale_suits, is_wide_size, is_wide_shape, is_shape, shown_size, displacement_count, short_offers, form_offers, rm_of_short, mode_of_count, wide_fields, alone_fields, or_zero, address_fields}
use Rattle.plain_spelling.specs.Expressible.{told_size, size_agrees}
use Rattle.x86_values.proofs.Compared.{same_bits-is}
use Rattle.row_relation.proofs.AddressCases.{address, same_address, impossible, form-relative, form-alone, form-alone-index, form-short, agrees, pointer_if, told_is_shown}
use Rattle.row_relation.proofs.AddressForms.{shape_is, offers_is}
use Rattle.row_relation.proofs.FitAddressFields.{fields, Mean, relative_means, alone_means, short_means, wide_means}

-- ---- by the form of an address

-- the fields of an address by its form
abbrev pub fields_at : Bits → Bits → Mem → AddressForm → AddressFields
fields_at bits asize m form =
    elim form [
      | Relative size ↦ fields 0 5 None
      | Alone ↦ alone_fields bits asize m
      | Short base ↦ fields (mode_of_count (displacement_count m.disp_size)) (or_zero (rm_of_short base m.index)) None
      | Wide ↦ wide_fields m
    ]

-- they are those of the address
pub fields_are : (bits asize : Bits) (m : Mem) (form : AddressForm) → form_of m.base m.index ≡ form → address_fields bits asize m ≡ fields_at bits asize m form
unfolding address_fields
fields_are bits asize m form e = ap (fields_at bits asize m) e

-- an address whose bytes of displacement are given, with the bits that stand for its registers
pub record Placed (bits asize : Bits) (f : PrefixState) (m : Mem) (next : ℕ) (d : List ℕ) : Type 0 where
  pub shape : is_shape bits m ≡ true
  pub offer : form_offers asize m (displacement_count m.disp_size) ≡ true
  pub size : size_agrees asize (MemOperand m) ≡ true
  pub len : length d ≡ displacement_count m.disp_size
  pub value : ((size : Bits) → form_of m.base m.index ≡ Relative size → ⊥) → displacement asize d ≡ m.disp
  pub target : (size : Bits) → form_of m.base m.index ≡ Relative size → target_of size next d ≡ m.disp
  pub x : bit_x f ≡ nat_le 8 (number_or_zero m.index)
  pub b : bit_b bits f ≡ nat_le 8 (number_or_zero m.base)

abbrev Goal : (bits asize : Bits) (f : PrefixState) (m : Mem) (reg next : ℕ) (d : List ℕ) → Type 0
Goal bits asize f m reg next d = Mean bits asize f m reg next d (address_fields bits asize m)

through : (bits asize : Bits) (f : PrefixState) (m : Mem) (reg next : ℕ) (d : List ℕ) (form : AddressForm) → form_of m.base m.index ≡ form → Mean bits asize f m reg next d (fields_at bits asize m form) → Goal bits asize f m reg next d
through bits asize f m reg next d form e h = subst (λ (a : AddressFields). Mean bits asize f m reg next d a) (sym (fields_are bits asize m form e)) h

none_is : (o : Option Register) → is_none o ≡ true → None ≡ o
none_is None h = refl
none_is (Some r) h = cc

-- ---- at RIP and EIP

pointer_is_wide : (base index : Option Register) (size : Bits) → form_of base index ≡ Relative size → is_16 size ≡ false
unfolding form_of
pointer_is_wide base index B32 h = refl
pointer_is_wide base index B64 h = refl
pointer_is_wide (Some Rip) index B16 h = cc
pointer_is_wide (Some r) index B16 h = cc
pointer_is_wide None None B16 h = cc
pointer_is_wide None (Some r) B16 h = cc

-- an address with another base that is equal
rebased : (m : Mem) (base : Option Register) → m.base ≡ base → address base m.index m.scale m.disp m.disp_size ≡ m
rebased m base e = same_address base m.base m.index m.index m.scale m.scale m.disp m.disp m.disp_size m.disp_size (sym e) refl refl refl refl

at_pointer : (m : Mem) (asize size : Bits) → is_16 size ≡ false → size_agrees asize (MemOperand (address (Some (instruction_pointer size)) m.index m.scale m.disp m.disp_size)) ≡ true → size ≡ asize
unfolding size_agrees told_size pointer_size
at_pointer m asize B16 wide h = cc
at_pointer m asize B32 wide h = same_bits-is B32 asize h
at_pointer m asize B64 wide h = same_bits-is B64 asize h

-- an address at RIP or EIP has the size of that register
pub relative_size : (m : Mem) (asize size : Bits) → form_of m.base m.index ≡ Relative size → size_agrees asize (MemOperand m) ≡ true → size ≡ asize
relative_size m asize size e h =
    let base = form-relative m.base m.index size e in
    at_pointer m asize size (pointer_is_wide m.base m.index size e)
    (subst (λ (k : Mem). size_agrees asize (MemOperand k) ≡ true) (sym (rebased m (Some (instruction_pointer size)) base)) h)

in_64 : (bits : Bits) → is_64 bits ≡ true → B64 ≡ bits
in_64 B16 h = cc
in_64 B32 h = cc
in_64 B64 h = refl

by_relative : (bits asize : Bits) (f : PrefixState) (m : Mem) (reg next : ℕ) (d : List ℕ) (size : Bits) → form_of m.base m.index ≡ Relative size → Placed bits asize f m next d → Goal bits asize f m reg next d
by_relative bits asize f m reg next d size e p =
    let h = shape_is bits m (Relative size) e p.shape in
    let rest = (and_parts (is_64 bits) (is_none m.index && m.scale == 1) h).1 in
    let mode = in_64 bits (and_parts (is_64 bits) (is_none m.index && m.scale == 1) h).0 in
    let four = eqb-true (displacement_count m.disp_size) 4 (offers_is asize m (displacement_count m.disp_size) (Relative size) e p.offer) in
    let found = relative_means size f m reg next d (pointer_is_wide m.base m.index size e) (sym (form-relative m.base m.index size e))
    (none_is m.index (and_parts (is_none m.index) (m.scale == 1) rest).0) (sym (eqb-true m.scale 1 (and_parts (is_none m.index) (m.scale == 1) rest).1))
    (p.target size e) four in
    through bits asize f m reg next d (Relative size) e
    (subst (λ (b : Bits). Mean b asize f m reg next d (fields 0 5 None)) mode
    (subst (λ (a : Bits). Mean B64 a f m reg next d (fields 0 5 None)) (relative_size m asize size e p.size) found))

-- ---- the other forms

no_relative : (base index : Option Register) (form : AddressForm) → form_of base index ≡ form → ((size : Bits) → form ≡ Relative size → true ≡ false) → (size : Bits) → form_of base index ≡ Relative size → ⊥
no_relative base index form e no1 size h = impossible (no1 size (sym e ∙ h))

by_alone : (bits asize : Bits) (f : PrefixState) (m : Mem) (reg next : ℕ) (d : List ℕ) → form_of m.base m.index ≡ Alone → Placed bits asize f m next d → Goal bits asize f m reg next d
by_alone bits asize f m reg next d e p =
    let index = form-alone-index m.base m.index e in
    let same : address None None m.scale m.disp m.disp_size ≡ m = same_address None m.base None m.index m.scale m.scale m.disp m.disp m.disp_size m.disp_size (sym (form-alone m.base m.index e)) (sym index) refl refl refl in
    let found = alone_means bits asize f m.scale m.disp m.disp_size reg next d (sym (eqb-true m.scale 1 (shape_is bits m Alone e p.shape)))
    (p.value (no_relative m.base m.index Alone e (λ size h. cc))) p.len
    (eqb-true (displacement_count m.disp_size) (full_displacement asize) (offers_is asize m (displacement_count m.disp_size) Alone e p.offer))
    (p.x ∙ ap (λ (o : Option Register). nat_le 8 (number_or_zero o)) index) in
    through bits asize f m reg next d Alone e (subst (λ (k : Mem). Mean bits asize f k reg next d (alone_fields bits asize k)) same found)

at_short : (m : Mem) (asize : Bits) (n : ℕ) → size_agrees asize (MemOperand (address (Some (R16 n)) m.index m.scale m.disp m.disp_size)) ≡ true → B16 ≡ asize
unfolding size_agrees told_size pointer_size shown_size general_size
at_short m asize n h = same_bits-is B16 asize h

-- a 16-bit address has the address size 16
pub short_size : (m : Mem) (asize : Bits) (n : ℕ) → form_of m.base m.index ≡ Short n → size_agrees asize (MemOperand m) ≡ true → B16 ≡ asize
short_size m asize n e h =
    at_short m asize n
    (subst (λ (k : Mem). size_agrees asize (MemOperand k) ≡ true) (sym (rebased m (Some (R16 n)) (form-short m.base m.index n e))) h)

by_short : (bits asize : Bits) (f : PrefixState) (m : Mem) (reg next : ℕ) (d : List ℕ) (n : ℕ) → form_of m.base m.index ≡ Short n → Placed bits asize f m next d → Goal bits asize f m reg next d
by_short bits asize f m reg next d n e p = by_rm (rm_of_short n m.index) refl (and_parts (is_some (rm_of_short n m.index)) (m.scale == 1) rest).0
  where
    rest : (is_some (rm_of_short n m.index) && m.scale == 1) ≡ true
    rest = (and_parts (not (is_64 bits)) (is_some (rm_of_short n m.index) && m.scale == 1) (shape_is bits m (Short n) e p.shape)).1

    base : address (Some (R16 n)) m.index m.scale m.disp m.disp_size ≡ m
    base = rebased m (Some (R16 n)) (form-short m.base m.index n e)

    size : B16 ≡ asize
    size = short_size m asize n e p.size

    value : displacement B16 d ≡ m.disp
    value = subst (λ (a : Bits). displacement a d ≡ m.disp) (sym size) (p.value (no_relative m.base m.index (Short n) e (λ size h. cc)))

    by_rm : (o : Option ℕ) → rm_of_short n m.index ≡ o → is_some o ≡ true → Goal bits asize f m reg next d
    by_rm None eo h = impossible (sym h)
    by_rm (Some rm) eo h =
        let offer = subst (λ (o : Option ℕ). short_offers o (displacement_count m.disp_size) ≡ true) eo (offers_is asize m (displacement_count m.disp_size) (Short n) e p.offer) in
        let found = short_means bits f n rm m.index m.scale m.disp m.disp_size reg next d eo offer
        (sym (eqb-true m.scale 1 (and_parts (is_some (rm_of_short n m.index)) (m.scale == 1) rest).1)) value p.len in
        let mode3 = mode_of_count (displacement_count m.disp_size) in
        through bits asize f m reg next d (Short n) e
        (subst (λ (o : Option ℕ). Mean bits asize f m reg next d (fields mode3 (or_zero o) None)) (sym eo)
        (subst (λ (a : Bits). Mean bits a f m reg next d (fields mode3 rm None)) size
        (subst (λ (k : Mem). Mean bits B16 f k reg next d (fields mode3 rm None)) base found)))

-- a 32 or 64-bit address is not at RIP or EIP
pub wide_pointer : (base index : Option Register) → form_of base index ≡ Wide → pointer_if base ≡ None
unfolding form_of pointer_size
wide_pointer None index h = refl
wide_pointer (Some Rip) index h = cc
wide_pointer (Some Eip) index h = cc
wide_pointer (Some r) index h = refl

-- what a shape of base and index is
pub record FlatShape (bits asize : Bits) (m : Mem) : Type 0 where
  pub shown : shown_size m ≡ Some asize
  pub has : has_address_size bits asize ≡ true
  pub wide : is_16 asize ≡ false
  pub base_is : is_base bits asize m.base ≡ true
  pub index_is : is_index bits asize m.index ≡ true
  pub scale_is : scale_suits m.index m.scale ≡ true

-- it agrees with the size that it shows
pub agreed_size : (m : Mem) (asize : Bits) → form_of m.base m.index ≡ Wide → size_agrees asize (MemOperand m) ≡ true → agrees asize (shown_size m) ≡ true
unfolding size_agrees
agreed_size m asize e h = subst (λ (o : Option Bits). agrees asize o ≡ true) (told_is_shown m (wide_pointer m.base m.index e)) h

abbrev flat_at : Bits → Mem → Option Bits → Bool
flat_at bits m o =
    elim o [
      | None ↦ false
      | Some asize ↦ is_wide_size bits asize && (is_base bits asize m.base && (is_index bits asize m.index && scale_suits m.index m.scale))
    ]

wide_given : (bits asize : Bits) (m : Mem) (o : Option Bits) → shown_size m ≡ o → agrees asize o ≡ true → flat_at bits m o ≡ true → FlatShape bits asize m
unfolding is_wide_size
wide_given bits asize m None e s h = impossible (sym h)
wide_given bits asize m (Some size) e s h =
    let same = same_bits-is size asize s in
    let b = is_base bits asize m.base in
    let i = is_index bits asize m.index in
    let c = scale_suits m.index m.scale in
    let h1 = subst (λ (z : Bits). flat_at bits m (Some z) ≡ true) same h in
    let hs = (and_parts (is_wide_size bits asize) (b && (i && c)) h1).0 in
    let h2 = (and_parts (is_wide_size bits asize) (b && (i && c)) h1).1 in
    let h3 = (and_parts b (i && c) h2).1 in
    record {
      shown = e ∙ ap (λ (z : Bits). Some z) same;
      has = (and_parts (has_address_size bits asize) (not (is_16 asize)) hs).0;
      wide = not-true (is_16 asize) (and_parts (has_address_size bits asize) (not (is_16 asize)) hs).1;
      base_is = (and_parts b (i && c) h2).0;
      index_is = (and_parts i c h3).0;
      scale_is = (and_parts i c h3).1;
    }

-- its base, index and scale suit its size
pub wide_shape : (bits asize : Bits) (m : Mem) → form_of m.base m.index ≡ Wide → is_shape bits m ≡ true → size_agrees asize (MemOperand m) ≡ true → FlatShape bits asize m
unfolding is_wide_shape
wide_shape bits asize m e h s = wide_given bits asize m (shown_size m) refl (agreed_size m asize e s) (shape_is bits m Wide e h)

by_wide : (bits asize : Bits) (f : PrefixState) (m : Mem) (reg next : ℕ) (d : List ℕ) → form_of m.base m.index ≡ Wide → Placed bits asize f m next d → Goal bits asize f m reg next d
by_wide bits asize f m reg next d e p =
    let h = wide_shape bits asize m e p.shape p.size in
    through bits asize f m reg next d Wide e (wide_means bits asize f m.base m.index m.scale m.disp m.disp_size reg next d
    (record {
      wide = h.wide;
      base_is = h.base_is;
      scale_is = h.scale_is;
      offer = offers_is asize m (displacement_count m.disp_size) Wide e p.offer;
      value = p.value (no_relative m.base m.index Wide e (λ size h. cc));
      len = p.len;
      b = p.b;
    }) h.index_is p.x)

-- **the plain fields of a shape mean the address**
pub shape_means : (bits asize : Bits) (f : PrefixState) (m : Mem) (reg next : ℕ) (d : List ℕ) → Placed bits asize f m next d → Mean bits asize f m reg next d (address_fields bits asize m)
shape_means bits asize f m reg next d p = by_form (form_of m.base m.index) refl
  where
    by_form : (form : AddressForm) → form_of m.base m.index ≡ form → Goal bits asize f m reg next d
    by_form (Relative size) e = by_relative bits asize f m reg next d size e p
    by_form Alone e = by_alone bits asize f m reg next d e p
    by_form (Short n) e = by_short bits asize f m reg next d n e p
    by_form Wide e = by_wide bits asize f m reg next d e p

-- ---- the address size that an address is written with

pointer_none : (base index : Option Register) (form : AddressForm) → form_of base index ≡ form → ((size : Bits) → form ≡ Relative size → true ≡ false) → pointer_if base ≡ None
unfolding form_of pointer_size
pointer_none None index form e no1 = refl
pointer_none (Some Rip) index form e no1 = impossible (no1 B64 (sym e))
pointer_none (Some Eip) index form e no1 = impossible (no1 B32 (sym e))
pointer_none (Some r) index form e no1 = refl

pointer_shows : (m : Mem) (asize size : Bits) → agrees asize (shown_size (address (Some (instruction_pointer size)) None m.scale m.disp m.disp_size)) ≡ true
unfolding shown_size general_size
pointer_shows m asize B16 = refl
pointer_shows m asize B32 = refl
pointer_shows m asize B64 = refl

shown_agrees : (asize : Bits) (m : Mem) (form : AddressForm) → form_of m.base m.index ≡ form → ((size : Bits) → form ≡ Relative size → true ≡ false) → size_agrees asize (MemOperand m) ≡ true → agrees asize (shown_size m) ≡ true
unfolding size_agrees
shown_agrees asize m form e no1 h = subst (λ (o : Option Bits). agrees asize o ≡ true) (told_is_shown m (pointer_none m.base m.index form e no1)) h

-- the general registers of a shape show the address size or none
pub shape_shown : (bits asize : Bits) (m : Mem) → is_shape bits m ≡ true → size_agrees asize (MemOperand m) ≡ true → agrees asize (shown_size m) ≡ true
shape_shown bits asize m h s = by_form (form_of m.base m.index) refl
  where
    by_form : (form : AddressForm) → form_of m.base m.index ≡ form → agrees asize (shown_size m) ≡ true
    by_form (Relative size) e =
        let rest = (and_parts (is_64 bits) (is_none m.index && m.scale == 1) (shape_is bits m (Relative size) e h)).1 in
        let index = none_is m.index (and_parts (is_none m.index) (m.scale == 1) rest).0 in
        let same : address (Some (instruction_pointer size)) None m.scale m.disp m.disp_size ≡ m = same_address _ m.base None m.index m.scale m.scale m.disp m.disp m.disp_size m.disp_size (sym (form-relative m.base m.index size e)) index refl refl refl in
        subst (λ (k : Mem). agrees asize (shown_size k) ≡ true) same (pointer_shows m asize size)
    by_form Alone e = shown_agrees asize m Alone e (λ size k. cc) s
    by_form (Short n) e = shown_agrees asize m (Short n) e (λ size k. cc) s
    by_form Wide e = shown_agrees asize m Wide e (λ size k. cc) s
