-- The plain fields of a gather's address and of an absolute address mean the address.
use Rattle.std.proofs.Common.{◌≡◌, inl, inr, ℕ, ◌<◌, true, false, ◌&&◌, ◌==◌, nat_le, nat_lt, List, length, Option, Some, None, is_some, is_none, refl, ap, sym, ◌∙◌, subst, arith}
use Rattle.std.proofs.lemmas.Bool.{and_parts, eqb-true}
use borrow.Author.Tests.{ltb-true}
use Rattle.x86_values.specs.declared.Bits.{Bits}
use Rattle.x86_values.specs.declared.Bits.TheVariants.{B16}
use Rattle.x86_values.specs.declared.Register.{Register}
use Rattle.x86_values.specs.declared.Register.TheVariants.{R16, Eip, Rip}
use Rattle.x86_values.specs.declared.DispSize.{DispSize}
use Rattle.x86_values.specs.declared.Mem.{Mem}
use Rattle.x86_values.specs.declared.Operand.TheVariants.{Mem as MemOperand}
use Rattle.instruction_parts.specs.declared.row_types.Row.{Row}
use Rattle.instruction_parts.specs.declared.kinds.File.{File}
use Rattle.instruction_parts.specs.declared.spelling.PrefixState.{PrefixState}
use Rattle.instruction_parts.specs.Counting.{is_16, or_else}
use Rattle.instruction_parts.specs.Sizes.{bit_b, bit_x, state_address_size}
use Rattle.row_fit.specs.Fits.{needs_sib, displacement_bytes, sib_in_range, index_number}
use Rattle.row_meaning.specs.Meaning.{displacement, register_of, memory_absolute, gather_memory, memory_with_sib}
use Rattle.plain_spelling.specs.Forms.{is_scale}
use Rattle.plain_spelling.specs.PlainFront.{register_number, number_or_zero}
use Rattle.x86_values.specs.Comparing.{same_register}
use Rattle.plain_spelling.specs.declared.addresses.AddressForm.TheVariants.{Alone, Wide}
use Rattle.plain_spelling.specs.declared.addresses.AddressFields.{AddressFields}
use Rattle.plain_spelling.specs.Addresses.{form_of, general_size_if, register_count, has_address_size, general_size, is_address_register, is_base, scale_suits, is_wide_size, index_named, is_vector_index, is_gather_base, is_gather_shape, shown_size, displacement_count, wide_offers, wide_needs_sib, wide_fields, plain_sib, index_bits, address_fields}
use Rattle.plain_spelling.specs.PlainTail.{modrm_with}
use Rattle.plain_spelling.specs.Expressible.{size_agrees}
use Rattle.x86_values.proofs.Compared.{same_bits-is}
use Rattle.x86_values.proofs.Compared.{same_register-is}
use Rattle.row_relation.proofs.AddressCases.{address, same_address, impossible, size_from_count, extended_number, count_small, agrees}
use Rattle.row_relation.proofs.AddressForms.{IsVectorFile}
use Rattle.row_relation.proofs.FitAddressFields.{FlatGiven, fields_with_sib, sib_for, sib_back, sib_asked, sib_for-range}
use Rattle.row_relation.proofs.FitAddressShapes.{agreed_size, fields_are}

-- the address of a gather, with its bytes of displacement and the bits that stand for its registers
pub record GatherPlaced (bits asize : Bits) (row : Row) (f : PrefixState) (file : File) (m : Mem) (d : List ℕ) : Type 0 where
  pub shape : is_gather_shape bits row file m ≡ true
  pub offer : wide_offers m.base (displacement_count m.disp_size) ≡ true
  pub size : size_agrees asize (MemOperand m) ≡ true
  pub wide : is_16 asize ≡ false
  pub len : length d ≡ displacement_count m.disp_size
  pub value : displacement asize d ≡ m.disp
  pub x : bit_x f ≡ nat_le 8 (number_or_zero m.index)
  pub b : bit_b bits f ≡ nat_le 8 (number_or_zero m.base)

vector_register : (bits : Bits) (row : Row) (f : PrefixState) (file : File) (n : ℕ) → IsVectorFile file → register_of bits row f file n ≡ index_named row file n
unfolding register_of index_named
vector_register bits row f file n (inl e) = rw e refl
vector_register bits row f file n (inr e) = rw e refl

-- the index of a gather, read back
index_read : (bits : Bits) (row : Row) (f : PrefixState) (file : File) (base : Option Register) (r : Register) (scale : ℕ) → IsVectorFile file → is_vector_index bits row file (Some r) ≡ true → bit_x f ≡ nat_le 8 (register_number r) → register_of bits row f file (index_number f (Some (sib_for base (Some r) scale))) ≡ r
unfolding is_vector_index index_number index_bits
index_read bits row f file base r scale v h x =
    let k = register_number r in
    let same = same_register r (index_named row file k) in
    let few : k < 16 = (let lt = ltb-true k (register_count bits) (and_parts same (nat_lt k (register_count bits)) h).1 in let le = count_small bits in omega arith) in
    vector_register bits row f file _ v ∙ ap (λ (n : ℕ). index_named row file n) (extended_number (bit_x f) k few x)
    ∙ sym (same_register-is r (index_named row file k) (and_parts same (nat_lt k (register_count bits)) h).0)

gather_form : (bits : Bits) (base : Option Register) (r : Register) → is_gather_base bits base ≡ true → form_of base (Some r) ≡ Wide
unfolding form_of is_gather_base general_size is_wide_size
gather_form bits None r h = refl
gather_form bits (Some Rip) r h = impossible (sym h)
gather_form bits (Some Eip) r h = impossible (sym h)
gather_form bits (Some (R16 n)) r h =
    impossible (sym (and_parts (has_address_size bits B16) false (and_parts (has_address_size bits B16 && false) (is_address_register bits B16 (R16 n)) h).0).1)
gather_form bits (Some b) r h = refl

gather_by : (bits asize : Bits) (b : Register) (o : Option Bits) → agrees asize o ≡ true → (elim o [ None ↦ false | Some size ↦ is_wide_size bits size && is_address_register bits size b ]) ≡ true → is_address_register bits asize b ≡ true
gather_by bits asize b None s h = impossible (sym h)
gather_by bits asize b (Some size) s h =
    subst (λ (z : Bits). is_address_register bits z b ≡ true) (same_bits-is size asize s) (and_parts (is_wide_size bits size) (is_address_register bits size b) h).1

some_shown : (asize : Bits) (o p : Option Bits) → agrees asize (or_else o p) ≡ true → agrees asize o ≡ true
some_shown asize None p h = refl
some_shown asize (Some size) p h = h

gather_base : (bits asize : Bits) (m : Mem) (base : Option Register) → m.base ≡ base → is_gather_base bits base ≡ true → agrees asize (shown_size m) ≡ true → is_base bits asize base ≡ true
unfolding is_gather_base is_base shown_size
gather_base bits asize m None e h s = refl
gather_base bits asize m (Some b) e h s =
    let shown : agrees asize (general_size b) ≡ true = some_shown asize (general_size b) _ (rw e at s) in
    gather_by bits asize b (general_size b) shown h

no_shape : (bits : Bits) (row : Row) (file : File) (base : Option Register) (scale disp : ℕ) (size : DispSize) → is_gather_shape bits row file (address base None scale disp size) ≡ true → true ≡ false
unfolding is_gather_shape is_vector_index
no_shape bits row file base scale disp size h = sym (and_parts (is_gather_base bits base) false h).1

-- what the fields of a gather's address give
pub record GatherMean (bits asize : Bits) (row : Row) (f : PrefixState) (file : File) (m : Mem) (reg : ℕ) (d : List ℕ) (a : AddressFields) : Type 0 where
  pub back : state_address_size bits f ≡ asize → gather_memory bits row f file (modrm_with reg a) a.sib d ≡ MemOperand m
  pub sib : is_some a.sib ≡ needs_sib asize (modrm_with reg a)
  pub count : displacement_bytes asize (modrm_with reg a) a.sib ≡ displacement_count m.disp_size
  pub mode3 : a.mode3 < 3
  pub rm : a.rm < 8
  pub sib_range : sib_in_range a.sib ≡ true
  pub needed : needs_sib asize (modrm_with reg a) ≡ true

gather_fields : (bits asize : Bits) (base : Option Register) (r : Register) (scale disp : ℕ) (size : DispSize) → form_of base (Some r) ≡ Wide → address_fields bits asize (address base (Some r) scale disp size) ≡ fields_with_sib base (Some r) scale size
unfolding wide_fields wide_needs_sib plain_sib
gather_fields bits asize base r scale disp size e = fields_are bits asize (address base (Some r) scale disp size) Wide e

scaled : (r : Register) (scale : ℕ) → is_scale scale ≡ true → scale_suits (Some r) scale ≡ true
unfolding scale_suits
scaled r scale h = h

gather_back : (bits asize : Bits) (row : Row) (f : PrefixState) (file : File) (base : Option Register) (r : Register) (scale disp : ℕ) (size : DispSize) (reg : ℕ) (d : List ℕ) → FlatGiven bits asize f base (Some r) scale disp size d → register_of bits row f file (index_number f (Some (sib_for base (Some r) scale))) ≡ r → state_address_size bits f ≡ asize → gather_memory bits row f file (modrm_with reg (fields_with_sib base (Some r) scale size)) (Some (sib_for base (Some r) scale)) d ≡ MemOperand (address base (Some r) scale disp size)
unfolding gather_memory
gather_back bits asize row f file base r scale disp size reg d g e a =
    ap (λ (z : Bits). MemOperand (memory_with_sib bits z f (Some (register_of bits row f file (index_number f (Some (sib_for base (Some r) scale))))) (modrm_with reg (fields_with_sib base (Some r) scale size)) (sib_for base (Some r) scale) d)) a
    ∙ ap (λ (m : Mem). MemOperand m) (sib_back bits asize f base (Some r) scale disp size reg d _ g (ap (λ (k : Register). Some k) e))

with_index : (bits asize : Bits) (row : Row) (f : PrefixState) (file : File) (base : Option Register) (r : Register) (scale disp : ℕ) (size : DispSize) (reg : ℕ) (d : List ℕ) → IsVectorFile file → GatherPlaced bits asize row f file (address base (Some r) scale disp size) d → GatherMean bits asize row f file (address base (Some r) scale disp size) reg d (address_fields bits asize (address base (Some r) scale disp size))
unfolding is_gather_shape
with_index bits asize row f file base r scale disp size reg d v p =
    let m = address base (Some r) scale disp size in
    let rest = is_vector_index bits row file (Some r) && is_scale scale in
    let based = (and_parts (is_gather_base bits base) rest p.shape).0 in
    let indexed = (and_parts (is_gather_base bits base) rest p.shape).1 in
    let form = gather_form bits base r based in
    let g : FlatGiven bits asize f base (Some r) scale disp size d = record {
      wide = p.wide;
      base_is = gather_base bits asize m base refl based (agreed_size m asize form p.size);
      scale_is = scaled r scale (and_parts (is_vector_index bits row file (Some r)) (is_scale scale) indexed).1;
      offer = p.offer;
      value = p.value;
      len = p.len;
      b = p.b;
    } in
    let read = index_read bits row f file base r scale v (and_parts (is_vector_index bits row file (Some r)) (is_scale scale) indexed).0 p.x in
    let asked = sib_asked asize base (Some r) scale size reg p.wide p.offer in
    subst (λ (a : AddressFields). GatherMean bits asize row f file m reg d a) (sym (gather_fields bits asize base r scale disp size form)) (record {
      back = gather_back bits asize row f file base r scale disp size reg d g read;
      sib = sym asked.needed;
      count = asked.count;
      mode3 = asked.mode3;
      rm = four_small;
      sib_range = sib_for-range base (Some r) scale;
      needed = asked.needed;
    })
  where
    four_small : 4 < 8
    four_small = omega arith

-- **the plain fields of a gather's address mean the address**
pub gather_means : (bits asize : Bits) (row : Row) (f : PrefixState) (file : File) (m : Mem) (reg : ℕ) (d : List ℕ) → IsVectorFile file → GatherPlaced bits asize row f file m d → GatherMean bits asize row f file m reg d (address_fields bits asize m)
gather_means bits asize row f file m reg d v p = by_index m.index refl
  where
    no_index : is_gather_shape bits row file (address m.base None m.scale m.disp m.disp_size) ≡ true → true ≡ false
    no_index h = no_shape bits row file m.base m.scale m.disp m.disp_size h

    at_index : (o : Option Register) → GatherPlaced bits asize row f file (address m.base o m.scale m.disp m.disp_size) d → GatherMean bits asize row f file (address m.base o m.scale m.disp m.disp_size) reg d (address_fields bits asize (address m.base o m.scale m.disp m.disp_size))
    at_index None q = impossible (no_index q.shape)
    at_index (Some r) q = with_index bits asize row f file m.base r m.scale m.disp m.disp_size reg d v q

    by_index : (o : Option Register) → m.index ≡ o → GatherMean bits asize row f file m reg d (address_fields bits asize m)
    by_index o e =
        let same : address m.base o m.scale m.disp m.disp_size ≡ m = same_address m.base m.base o m.index m.scale m.scale m.disp m.disp m.disp_size m.disp_size refl (sym e) refl refl refl in
        subst (λ (k : Mem). GatherMean bits asize row f file k reg d (address_fields bits asize k)) same
        (at_index o (subst (λ (k : Mem). GatherPlaced bits asize row f file k d) (sym same) p))

-- ---- an absolute address

-- an absolute address is read back
pub absolute_means : (asize : Bits) (m : Mem) (d : List ℕ) → (is_none m.base && (is_none m.index && m.scale == 1)) ≡ true → length d ≡ displacement_count m.disp_size → displacement asize d ≡ m.disp → memory_absolute asize d ≡ m
unfolding memory_absolute
absolute_means asize m d h l v =
    let rest = (and_parts (is_none m.base) (is_none m.index && m.scale == 1) h).1 in
    same_address None m.base None m.index 1 m.scale _ m.disp _ m.disp_size
    (none_is m.base (and_parts (is_none m.base) (is_none m.index && m.scale == 1) h).0) (none_is m.index (and_parts (is_none m.index) (m.scale == 1) rest).0)
    (sym (eqb-true m.scale 1 (and_parts (is_none m.index) (m.scale == 1) rest).1)) v (size_from_count m.disp_size (length d) (sym l))
  where
    none_is : (o : Option Register) → is_none o ≡ true → None ≡ o
    none_is None h = refl
    none_is (Some r) h = cc

-- ---- the address size

form_by : (bits : Bits) (row : Row) (file : File) (base index : Option Register) (scale : ℕ) → (is_gather_base bits base && (is_vector_index bits row file index && is_scale scale)) ≡ true → form_of base index ≡ Wide
unfolding is_vector_index
form_by bits row file base None scale h = impossible (sym (and_parts (is_gather_base bits base) false h).1)
form_by bits row file base (Some r) scale h = gather_form bits base r (and_parts (is_gather_base bits base) _ h).0

-- a gather has a 32 or 64-bit address
pub gather_is_wide : (bits : Bits) (row : Row) (file : File) (m : Mem) → is_gather_shape bits row file m ≡ true → form_of m.base m.index ≡ Wide
unfolding is_gather_shape
gather_is_wide bits row file m h = form_by bits row file m.base m.index m.scale h

-- a gather shows no size but its base's
pub gather_shown : (bits asize : Bits) (row : Row) (file : File) (m : Mem) → is_gather_shape bits row file m ≡ true → size_agrees asize (MemOperand m) ≡ true → agrees asize (shown_size m) ≡ true
gather_shown bits asize row file m h s = agreed_size m asize (gather_is_wide bits row file m h) s

no_register : (asize : Bits) (base index : Option Register) (scale : ℕ) → (is_none base && (is_none index && scale == 1)) ≡ true → agrees asize (or_else (general_size_if base) (general_size_if index)) ≡ true
no_register asize None None scale h = refl
no_register asize None (Some r) scale h = impossible (sym h)
no_register asize (Some r) index scale h = impossible (sym h)

-- an absolute address shows no size
pub absolute_shown : (asize : Bits) (m : Mem) → (is_none m.base && (is_none m.index && m.scale == 1)) ≡ true → agrees asize (shown_size m) ≡ true
unfolding shown_size
absolute_shown asize m h = no_register asize m.base m.index m.scale h

no_form : (base index : Option Register) (scale : ℕ) → (is_none base && (is_none index && scale == 1)) ≡ true → form_of base index ≡ Alone
unfolding form_of
no_form None None scale h = refl
no_form None (Some r) scale h = impossible (sym h)
no_form (Some r) index scale h = impossible (sym h)

-- it is a displacement alone
pub absolute_is_alone : (m : Mem) → (is_none m.base && (is_none m.index && m.scale == 1)) ≡ true → form_of m.base m.index ≡ Alone
absolute_is_alone m h = no_form m.base m.index m.scale h
