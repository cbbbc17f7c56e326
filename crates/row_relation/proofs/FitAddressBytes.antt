-- The bytes of a displacement give it back, and the address size that an instruction with a memory operand has.
use Rattle.std.proofs.Common.{◌≡◌, ℕ, ◌^◌, ◌<◌, ◌≤◌, Bool, true, false, ◌&&◌, ◌||◌, not, List, length, Option, Some, None, refl, sym, ◌∙◌, subst, arith}
use Rattle.std.proofs.lemmas.Bool.{or_left, and_parts, not-true}
use borrow.Author.Tests.{ltb-true}
use Rattle.x86_values.specs.declared.Bits.{Bits}
use Rattle.x86_values.specs.declared.DispSize.{DispSize}
use Rattle.x86_values.specs.declared.DispSize.TheVariants.{D0, D8, D16, D32, D64}
use Rattle.x86_values.specs.declared.Mem.{Mem}
use Rattle.x86_values.specs.declared.Operand.{Operand}
use Rattle.x86_values.specs.declared.Operand.TheVariants.{Mem as MemOperand}
use Rattle.x86_values.specs.declared.Instr.{Instr}
use Rattle.x86_values.specs.Wrapping.{width}
use Rattle.instruction_parts.specs.declared.row_types.Row.{Row}
use Rattle.instruction_parts.specs.Counting.{is_16}
use Rattle.instruction_parts.specs.Sizes.{has_address_mark}
use Rattle.row_fit.specs.Fits.{are_bytes, reads_by, is_gather}
use Rattle.row_meaning.specs.Meaning.{displacement, target_of}
use Rattle.plain_spelling.specs.Values.{low_bytes, is_extended_of, distance}
use Rattle.plain_spelling.specs.Forms.{operand_at}
use Rattle.plain_spelling.specs.declared.addresses.AddressForm.{AddressForm}
use Rattle.plain_spelling.specs.declared.addresses.AddressForm.TheVariants.{Relative, Alone, Short, Wide}
use Rattle.plain_spelling.specs.Addresses.{form_of, has_address_size, displacement_count, is_displacement}
use Rattle.plain_spelling.specs.PlainTail.{operand_displacement, displacement_of, displacement_of_operand}
use Rattle.plain_spelling.specs.Expressible.{each_operand, address_reaches, has_memory_operand, size_agrees, is_size_of, address_size_suits}
use Rattle.plain_spelling.proofs.Asked.{each-at}
use Rattle.row_relation.proofs.WrittenValues.{low_bytes-length, low_bytes-bytes, sign_extended-low_bytes, width-le, target-of-distance}
use Rattle.row_relation.proofs.AddressCases.{impossible, if_yes}
use Rattle.row_relation.proofs.AddressForms.{value_at}

-- ---- the address size of an instruction

-- the address size that an instruction with a memory operand has
pub record SizeIs (bits : Bits) (row : Row) (i : Instr) (a : Bits) : Type 0 where
  pub is : i.asize ≡ Some a
  pub has : has_address_size bits a ≡ true
  pub size : (n : ℕ) → n < 4 → size_agrees a (operand_at i n) ≡ true
  pub gather : reads_by is_gather row ≡ true → is_16 a ≡ false

not_both : (a b : Bool) → not (a && b) ≡ true → b ≡ true → a ≡ false
not_both true b h e = (let k = not-true b h in cc)
not_both false b h e = refl

size_given : (bits : Bits) (row : Row) (i : Instr) (o : Option Bits) → i.asize ≡ o → (elim o [ None ↦ false | Some a ↦ is_size_of bits row i a ]) ≡ true → (a : Bits) × SizeIs bits row i a
unfolding is_size_of
size_given bits row i None e h = impossible (sym h)
size_given bits row i (Some a) e h =
    let four = each_operand (λ n. size_agrees a (operand_at i n)) in
    let gathers = not (is_16 a && reads_by is_gather row) in
    let rest = (and_parts (has_address_size bits a) (four && gathers) h).1 in (
      a,
      record {
        is = e;
        has = (and_parts (has_address_size bits a) (four && gathers) h).0;
        size = λ n below. each-at (λ n. size_agrees a (operand_at i n)) n below (and_parts four gathers rest).0;
        gather = λ g. not_both (is_16 a) (reads_by is_gather row) (and_parts four gathers rest).1 g;
      },
    )

-- an instruction with a memory operand has one address size
pub size_of : (bits : Bits) (row : Row) (i : Instr) → address_size_suits bits row i ≡ true → has_memory_operand i ≡ true → (a : Bits) × SizeIs bits row i a
unfolding address_size_suits
size_of bits row i h e =
    size_given bits row i i.asize refl (sym (if_yes (has_memory_operand i || has_address_mark row) _ _ (or_left (has_memory_operand i) (has_address_mark row) e)) ∙ h)

-- ---- the bytes of a displacement

-- the bytes give the displacement back
pub record Written (asize : Bits) (next : ℕ) (m : Mem) (d : List ℕ) : Type 0 where
  pub len : length d ≡ displacement_count m.disp_size
  pub value : ((size : Bits) → form_of m.base m.index ≡ Relative size → ⊥) → displacement asize d ≡ m.disp
  pub target : (size : Bits) → form_of m.base m.index ≡ Relative size → displacement_count m.disp_size ≡ 4 → target_of size next d ≡ m.disp

count_short : (size : DispSize) → displacement_count size ≤ 8
unfolding displacement_count
count_short D0 = omega arith
count_short D8 = omega arith
count_short D16 = omega arith
count_short D32 = omega arith
count_short D64 = omega arith

abbrev reaches_at : ℕ → Mem → AddressForm → Bool
reaches_at next m form = elim form [ Relative size ↦ is_extended_of 4 (width size) (distance size next m.disp) | _ ↦ true ]

abbrev bytes_at : ℕ → Mem → AddressForm → List ℕ
bytes_at next m form =
    elim form [
      | Relative size ↦ low_bytes (displacement_count m.disp_size) (distance size next m.disp)
      | _ ↦ low_bytes (displacement_count m.disp_size) m.disp
    ]

written_value : (asize : Bits) (next : ℕ) (m : Mem) (form : AddressForm) → form_of m.base m.index ≡ form → ((size : Bits) → form ≡ Relative size → true ≡ false) → is_extended_of (displacement_count m.disp_size) (width asize) m.disp ≡ true → Written asize next m (low_bytes (displacement_count m.disp_size) m.disp)
written_value asize next m form e no1 h = record {
  len = low_bytes-length (displacement_count m.disp_size) m.disp;
  value = λ k. sign_extended-low_bytes (displacement_count m.disp_size) (width asize) m.disp (count_short m.disp_size) (width-le asize) h;
  target = λ size k four. impossible (no1 size (sym e ∙ k));
}

written_at : (asize : Bits) (next : ℕ) (m : Mem) (form : AddressForm) → form_of m.base m.index ≡ form → next < 2 ^ 64 → value_at asize m form ≡ true → reaches_at next m form ≡ true → Written asize next m (bytes_at next m form)
written_at asize next m (Relative size) e below h r = record {
  len = low_bytes-length (displacement_count m.disp_size) (distance size next m.disp);
  value = λ k. absurd (k size e);
  target = at_size;
}
  where
    four_short : 4 ≤ 8
    four_short = omega arith

    reached : (n : ℕ) → n ≡ 4 → target_of size next (low_bytes n (distance size next m.disp)) ≡ m.disp
    reached n four =
        subst (λ (k : ℕ). target_of size next (low_bytes k (distance size next m.disp)) ≡ m.disp) (sym four)
        (target-of-distance size 4 next m.disp four_short below (ltb-true m.disp (2 ^ width size) h) r)

    at_size : (other : Bits) → form_of m.base m.index ≡ Relative other → displacement_count m.disp_size ≡ 4 → target_of other next (low_bytes (displacement_count m.disp_size) (distance size next m.disp)) ≡ m.disp
    at_size other k four =
        let same : size ≡ other = (let both1 = sym e ∙ k in cc) in
        subst (λ (z : Bits). target_of z next (low_bytes (displacement_count m.disp_size) (distance size next m.disp)) ≡ m.disp) same
        (reached (displacement_count m.disp_size) four)
written_at asize next m Alone e below h r = written_value asize next m Alone e (λ size k. cc) h
written_at asize next m (Short n) e below h r = written_value asize next m (Short n) e (λ size k. cc) h
written_at asize next m Wide e below h r = written_value asize next m Wide e (λ size k. cc) h

-- the displacement bytes of an address are read as its displacement
pub written : (asize : Bits) (next : ℕ) (m : Mem) → next < 2 ^ 64 → is_displacement asize m ≡ true → address_reaches next m ≡ true → Written asize next m (displacement_of next m)
unfolding is_displacement address_reaches displacement_of
written asize next m below h r = written_at asize next m (form_of m.base m.index) refl below h r

bytes_by : (next : ℕ) (m : Mem) (form : AddressForm) → (are_bytes (bytes_at next m form) ≡ true) × (length (bytes_at next m form) ≡ displacement_count m.disp_size)
bytes_by next m (Relative size) = (low_bytes-bytes _ _, low_bytes-length _ _)
bytes_by next m Alone = (low_bytes-bytes _ _, low_bytes-length _ _)
bytes_by next m (Short n) = (low_bytes-bytes _ _, low_bytes-length _ _)
bytes_by next m Wide = (low_bytes-bytes _ _, low_bytes-length _ _)

-- **the bytes of a displacement are bytes**
pub displacement_are_bytes : (next : ℕ) (op : Operand) → are_bytes (displacement_of_operand next op) ≡ true
unfolding displacement_of
displacement_are_bytes next (MemOperand m) = (bytes_by next m (form_of m.base m.index)).0
displacement_are_bytes next _ = refl

-- **they are as many as the operand says**
pub displacement_length : (next : ℕ) (op : Operand) → length (displacement_of_operand next op) ≡ operand_displacement op
unfolding displacement_of
displacement_length next (MemOperand m) = (bytes_by next m (form_of m.base m.index)).1
displacement_length next _ = refl

-- **and at most 8**
pub displacement_short : (op : Operand) → operand_displacement op ≤ 8
displacement_short (MemOperand m) = count_short m.disp_size
displacement_short _ = omega arith
