-- What a gather's SIB names is a shape of a gather, and an absolute address is one.
use Rattle.std.proofs.Common.{◌≡◌, inl, inr, ℕ, ◌^◌, true, false, ◌&&◌, ◌==◌, nat_lt, List, length, Option, Some, None, is_none, refl, ap, sym, subst, arith}
use Rattle.std.proofs.lemmas.Bool.{cases_Bool}
use Rattle.x86_values.specs.declared.Bits.{Bits}
use Rattle.x86_values.specs.declared.Bits.TheVariants.{B16, B32, B64}
use Rattle.x86_values.specs.declared.Register.{Register}
use Rattle.x86_values.specs.declared.Mem.{Mem}
use Rattle.x86_values.specs.declared.Operand.TheVariants.{Mem as MemOperand}
use Rattle.instruction_parts.specs.declared.row_types.Row.{Row}
use Rattle.instruction_parts.specs.declared.row_types.LBit.{LBit}
use Rattle.instruction_parts.specs.declared.row_types.LBit.TheVariants.{None as NoL, L128, L256, Lig, Lz}
use Rattle.instruction_parts.specs.declared.kinds.File.{File}
use Rattle.instruction_parts.specs.declared.spelling.ModRm.{ModRm}
use Rattle.instruction_parts.specs.declared.spelling.Sib.{Sib}
use Rattle.instruction_parts.specs.declared.spelling.PrefixState.{PrefixState}
use Rattle.instruction_parts.specs.Counting.{is_16}
use Rattle.instruction_parts.specs.Sizes.{bit_b, bit_x, size_bytes}
use Rattle.row_fit.specs.Fits.{are_bytes, with_high_bit, index_number}
use Rattle.row_meaning.specs.Meaning.{general_register, vector, register_of, disp_size_of, memory_absolute, memory_with_sib, displacement}
use Rattle.plain_spelling.specs.Forms.{is_scale}
use Rattle.plain_spelling.specs.PlainFront.{register_number}
use Rattle.plain_spelling.specs.Addresses.{form_of, general_size, pointer_size, register_count, is_address_register, is_wide_size, index_named, is_vector_index, is_gather_base, is_gather_shape, shown_size, displacement_count, wide_offers, is_displacement}
use Rattle.plain_spelling.specs.Expressible.{told_size, size_agrees}
use Rattle.x86_values.proofs.Compared.{same_register-refl}
use Rattle.row_relation.proofs.AddressCases.{address, impossible, sib_base-none, sib_base-some, agrees}
use Rattle.row_relation.proofs.AddressForms.{IsVectorFile}
use Rattle.row_relation.proofs.NeedReadShapes.{value_of, Reading, Numbers, sib_small, scale_power, extended_count, bit_b-outside, bytes_of_sib, base_numbers, no_base, with_parts}

-- a vector register of a file, with a number
record IsVector (row : Row) (file : File) (r : Register) (n : ℕ) : Type 0 where
  is : r ≡ index_named row file n
  number : register_number r ≡ n
  size : general_size r ≡ None

vector_number : (l : LBit) (n : ℕ) → (register_number (vector l n) ≡ n) × (general_size (vector l n) ≡ None)
unfolding vector register_number general_size
vector_number NoL n = (refl, refl)
vector_number L128 n = (refl, refl)
vector_number L256 n = (refl, refl)
vector_number Lig n = (refl, refl)
vector_number Lz n = (refl, refl)

named_vector : (row : Row) (file : File) (n : ℕ) → IsVectorFile file → (register_number (index_named row file n) ≡ n) × (general_size (index_named row file n) ≡ None)
unfolding index_named register_number general_size
named_vector row file n (inl e) = (rw e refl, rw e refl)
named_vector row file n (inr e) = (rw e (vector_number row.l n).0, rw e (vector_number row.l n).1)

read_vector : (bits : Bits) (row : Row) (st : PrefixState) (file : File) (n : ℕ) → IsVectorFile file → register_of bits row st file n ≡ index_named row file n
unfolding register_of index_named
read_vector bits row st file n (inl e) = rw e refl
read_vector bits row st file n (inr e) = rw e refl

-- the address of a gather that was read
pub record IsGatherRead (bits asize : Bits) (row : Row) (file : File) (m : Mem) (n : ℕ) : Type 0 where
  pub shape : is_gather_shape bits row file m ≡ true
  pub offer : wide_offers m.base n ≡ true
  pub value : is_displacement asize m ≡ true
  pub size : size_agrees asize (MemOperand m) ≡ true
  pub shown : agrees asize (shown_size m) ≡ true
  pub count : displacement_count m.disp_size ≡ n

-- an index of a gather by its number
vector_index : (bits : Bits) (row : Row) (file : File) (n : ℕ) → IsVectorFile file → nat_lt n (register_count bits) ≡ true → is_vector_index bits row file (Some (index_named row file n)) ≡ true
unfolding is_vector_index
vector_index bits row file n v small = rw ((named_vector row file n v).0, small, same_register-refl (index_named row file n)) refl

-- base and index, for the size that they show
gather_none : (bits asize : Bits) (row : Row) (file : File) (r : Register) (scale : ℕ) (d : List ℕ) (n : ℕ) → general_size r ≡ None → is_vector_index bits row file (Some r) ≡ true → is_scale scale ≡ true → Numbers bits asize None d n → IsGatherRead bits asize row file (address None (Some r) scale (displacement asize d) (disp_size_of n)) n
unfolding is_gather_shape is_gather_base form_of is_displacement size_agrees told_size shown_size
gather_none bits asize row file r scale d n plain index scaled g = record {
  shape = rw (index, scaled) refl;
  offer = g.offer;
  value = rw g.count (value_of asize d n g.len g.few g.bytes);
  size = ap (λ (o : Option Bits). agrees asize o) plain;
  shown = ap (λ (o : Option Bits). agrees asize o) plain;
  count = g.count;
}

gather_some : (bits asize : Bits) (row : Row) (file : File) (k : ℕ) (r : Register) (scale : ℕ) (d : List ℕ) (n : ℕ) → is_16 asize ≡ false → nat_lt k (register_count bits) ≡ true → is_vector_index bits row file (Some r) ≡ true → is_scale scale ≡ true → Numbers bits asize (Some (general_register asize k)) d n
    → IsGatherRead bits asize row file (address (Some (general_register asize k)) (Some r) scale (displacement asize d) (disp_size_of n)) n
unfolding general_register is_gather_shape is_gather_base is_wide_size is_address_register register_number form_of is_displacement size_agrees told_size shown_size general_size pointer_size
gather_some bits B16 row file k r scale d n wide small index scaled g = impossible wide
gather_some bits B32 row file k r scale d n wide small index scaled g = record {
  shape = rw (g.has, small, index, scaled) refl;
  offer = g.offer;
  value = rw g.count (value_of B32 d n g.len g.few g.bytes);
  size = refl;
  shown = refl;
  count = g.count;
}
gather_some bits B64 row file k r scale d n wide small index scaled g = record {
  shape = rw (g.has, small, index, scaled) refl;
  offer = g.offer;
  value = rw g.count (value_of B64 d n g.len g.few g.bytes);
  size = refl;
  shown = refl;
  count = g.count;
}

same_gather : (bits asize : Bits) (row : Row) (file : File) (m k : Mem) (n : ℕ) → m ≡ k → IsGatherRead bits asize row file k n → IsGatherRead bits asize row file m n
same_gather bits asize row file m k n e h = subst (λ (x : Mem). IsGatherRead bits asize row file x n) (sym e) h

-- **the address of a gather that is read is a shape of a gather**
pub gather_read : (bits asize : Bits) (row : Row) (st : PrefixState) (file : File) (m : ModRm) (s : Sib) (d : List ℕ) → is_16 asize ≡ false → IsVectorFile file → Reading bits asize st m (Some s) d
    → IsGatherRead bits asize row file (memory_with_sib bits asize st (Some (register_of bits row st file (index_number st (Some s)))) m s d) (length d)
unfolding index_number
gather_read bits asize row st file m s d wide v g =
    let small = sib_small s g.sib_range in
    let j = with_high_bit (bit_x st) s.index in
    let r = index_named row file j in
    let given = ap (λ (x : Register). Some x) (read_vector bits row st file j v) in
    let index = vector_index bits row file j v (extended_count bits (bit_x st) s.index small.index g.x) in
    let scaled = scale_power s.scale small.scale in
    let f = bytes_of_sib bits asize st m s d wide g in
    elim (cases_Bool (m.mode3 == 0 && s.base == 5)) [
      | inl alone ↦
          same_gather bits asize row file _ _ (length d) (with_parts bits asize st _ None (Some r) m s d (sib_base-none bits asize st m s alone) given)
          (gather_none bits asize row file r (2 ^ s.scale) d (length d) (named_vector row file j v).1 index scaled (no_base bits asize st m s d g f alone))
      | inr beside ↦
          same_gather bits asize row file _ _ (length d) (with_parts bits asize st _ (Some (general_register asize (with_high_bit (bit_b bits st) s.base))) (Some r) m s d (sib_base-some bits asize st m s beside) given)
          (gather_some bits asize row file (with_high_bit (bit_b bits st) s.base) r (2 ^ s.scale) d (length d) wide (extended_count bits (bit_b bits st) s.base small.base (bit_b-outside bits st)) index scaled
          (base_numbers bits asize st m (Some s) d s.base small.base g f beside))
    ]

-- ---- an absolute address

-- an absolute address that was read
pub record IsAbsolute (asize : Bits) (m : Mem) (n : ℕ) : Type 0 where
  pub shape : (is_none m.base && (is_none m.index && m.scale == 1)) ≡ true
  pub value : is_displacement asize m ≡ true
  pub size : size_agrees asize (MemOperand m) ≡ true
  pub shown : agrees asize (shown_size m) ≡ true
  pub count : displacement_count m.disp_size ≡ n

-- a read absolute address is one
pub absolute_read : (asize : Bits) (d : List ℕ) → length d ≡ size_bytes asize → are_bytes d ≡ true → IsAbsolute asize (memory_absolute asize d) (length d)
unfolding memory_absolute form_of is_displacement size_agrees told_size shown_size displacement_count disp_size_of
absolute_read B16 d l b = record { shape = refl; value = rw l (value_of B16 d 2 l (omega arith) b); size = refl; shown = refl; count = rw l refl }
absolute_read B32 d l b = record { shape = refl; value = rw l (value_of B32 d 4 l (omega arith) b); size = refl; shown = refl; count = rw l refl }
absolute_read B64 d l b = record { shape = refl; value = rw l (value_of B64 d 8 l (omega arith) b); size = refl; shown = refl; count = rw l refl }
