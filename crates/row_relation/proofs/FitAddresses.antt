-- The memory operands of a plain spelling are those of its instruction, and its SIB and displacement are as long as ModRM asks for.
use Rattle.std.proofs.Common.{◌≡◌, ◌⊎◌, inl, inr, ℕ, ◌<◌, Bool, true, false, ◌&&◌, ◌==◌, nat_le, List, Option, Some, is_some, is_none, refl, ap, sym, ◌∙◌, subst}
use Rattle.std.proofs.lemmas.Bool.{lt-ltb, and_parts, eqb-true}
use Rattle.x86_values.specs.declared.Bits.{Bits}
use Rattle.x86_values.specs.declared.Mem.{Mem}
use Rattle.x86_values.specs.declared.Operand.{Operand}
use Rattle.x86_values.specs.declared.Operand.TheVariants.{Mem as MemOperand, Near}
use Rattle.x86_values.specs.declared.Instr.{Instr}
use Rattle.instruction_parts.specs.declared.row_types.Row.{Row}
use Rattle.instruction_parts.specs.declared.row_types.Place.{Place}
use Rattle.instruction_parts.specs.declared.row_types.OpKind.{OpKind}
use Rattle.instruction_parts.specs.declared.kinds.Method.{Method}
use Rattle.instruction_parts.specs.declared.kinds.Method.TheVariants as method
use Rattle.instruction_parts.specs.declared.spelling.ModRm.{ModRm}
use Rattle.instruction_parts.specs.declared.spelling.Sib.{Sib}
use Rattle.instruction_parts.specs.declared.spelling.PrefixState.{PrefixState}
use Rattle.instruction_parts.specs.Kinds.{method_of, file_of}
use Rattle.instruction_parts.specs.Sizes.{bit_b, bit_x, state_address_size, size_bytes}
use Rattle.row_fit.specs.Fits.{kind_at, is_gather, needs_sib, displacement_bytes, sib_in_range, immediate_bytes}
use Rattle.row_fit.specs.Sound.{reads_rm}
use Rattle.row_meaning.specs.Meaning.{Tail, tail, operand_by, memory_operand, memory_of, memory_absolute, gather_memory}
use Rattle.x86_values.specs.Operands.{is_memory}
use Rattle.plain_spelling.specs.Forms.{operand_at, is_variant_of}
use Rattle.plain_spelling.specs.PlainFront.{asks_x, asks_b, number_or_zero, base_or_register_number, operand_index_number, plain_front_of}
use Rattle.plain_spelling.specs.declared.addresses.AddressForm.{AddressForm}
use Rattle.plain_spelling.specs.declared.addresses.AddressForm.TheVariants.{Relative, Alone, Wide}
use Rattle.plain_spelling.specs.declared.addresses.AddressFields.{AddressFields}
use Rattle.plain_spelling.specs.Addresses.{form_of, is_shape, is_gather_shape, shape_suits, displacement_count, form_offers, wide_offers, offers, is_displacement, displacement_suits, written_size, shown_size, address_fields}
use Rattle.plain_spelling.specs.PlainTail.{modrm_with, plain_modrm, plain_sib_of, displacement_of, displacement_of_operand, address_operand, plain_next, plain_size}
use Rattle.plain_spelling.specs.Expressible.{kind_suits, address_suits, displacement_offered, target_suits, address_reaches, near_reaches, size_agrees}
use Rattle.plain_spelling.proofs.Asked.{each-at, index_in_rm, asked_rm-at, asked_index-at, reads_b, address_operand-at, reads_address}
use Rattle.row_relation.proofs.AddressCases.{impossible, agrees, written_is}
use Rattle.row_relation.proofs.AddressForms.{offers_is, memory_there, gather_file}
use Rattle.row_relation.specs.Given.{Given}
use Rattle.row_relation.proofs.FitFrontBits.{front_bits}
use Rattle.row_relation.proofs.FitNumbers.{numbers_suit}
use Rattle.row_relation.proofs.FitPlaces.{reads-at, memory_in_rm}
use Rattle.row_relation.proofs.FitImmediates.{next-below}
use Rattle.row_relation.proofs.FitAddressShapes.{Placed, shape_means, shape_shown}
use Rattle.row_relation.proofs.FitAddressGathers.{gather_means, absolute_means, gather_is_wide, gather_shown, absolute_is_alone, absolute_shown}
use Rattle.row_relation.proofs.FitAddressBytes.{SizeIs, size_of, written}

-- ---- what the conditions say of a memory operand

-- a memory operand with the address size of its instruction
pub record MemoryAt (bits : Bits) (ip : ℕ) (row : Row) (i : Instr) (n : ℕ) (m : Mem) : Type 0 where
  pub a : Bits
  pub size : SizeIs bits row i a
  pub agrees_with : size_agrees a (MemOperand m) ≡ true
  pub variant : is_variant_of row.place (method_of (kind_at row n)) (MemOperand m) ≡ true
  pub shape : shape_suits bits row (method_of (kind_at row n)) (file_of (kind_at row n)) m ≡ true
  pub offer : displacement_suits (written_size bits i.asize m) (method_of (kind_at row n)) m ≡ true
  pub reach : address_reaches (plain_next bits ip row i) m ≡ true
  pub asize : state_address_size bits (plain_front_of bits row i) ≡ a

by_operand : (p : Operand → Bool) (op : Operand) (m : Mem) → op ≡ MemOperand m → p op ≡ true → p (MemOperand m) ≡ true
by_operand p op m e h = subst (λ (x : Operand). p x ≡ true) e h

-- a memory operand of a suitable instruction is read back from its fields
pub memory_at : (bits : Bits) (ip : ℕ) (row : Row) (i : Instr) (n : ℕ) (m : Mem) → Given bits ip row i → n < 4 → operand_at i n ≡ MemOperand m → MemoryAt bits ip row i n m
unfolding kind_suits address_suits displacement_offered target_suits
memory_at bits ip row i n m g below e =
    let there = memory_there i n below (subst (λ (x : Operand). is_memory x ≡ true) (sym e) refl) in
    let s = size_of bits row i g.suits.address_size there in
    record {
      a = s.0;
      size = s.1;
      agrees_with = by_operand (λ x. size_agrees s.0 x) (operand_at i n) m e (s.1.size n below);
      variant = by_operand (λ x. is_variant_of row.place (method_of (kind_at row n)) x) (operand_at i n) m e (each-at (kind_suits row i) n below g.suits.kinds);
      shape = by_operand (λ x. elim x [ MemOperand m ↦ shape_suits bits row (method_of (kind_at row n)) (file_of (kind_at row n)) m | _ ↦ true ]) (operand_at i n) m e
          (each-at (address_suits bits row i) n below g.suits.addresses);
      offer = by_operand (λ x. elim x [ MemOperand m ↦ displacement_suits (written_size bits i.asize m) (method_of (kind_at row n)) m | _ ↦ true ]) (operand_at i n) m e
          (each-at (displacement_offered bits row i) n below g.suits.displacements);
      reach = by_operand (λ x. elim x [
        | Near target ↦ near_reaches (plain_size bits row) (plain_next bits ip row i) (immediate_bytes (plain_size bits row) (kind_at row n)) target
        | MemOperand m ↦ address_reaches (plain_next bits ip row i) m
        | _ ↦ true
      ]) (operand_at i n) m e (each-at (target_suits bits ip row i) n below g.suits.targets);
      asize = (front_bits bits row i (numbers_suit bits ip row i g)).address s.0 s.1.is s.1.has;
    }

-- the bits of the front stand for base and index of an operand in r/m
pub record BitsStand (bits : Bits) (row : Row) (i : Instr) (m : Mem) : Type 0 where
  pub x : bit_x (plain_front_of bits row i) ≡ nat_le 8 (number_or_zero m.index)
  pub b : bit_b bits (plain_front_of bits row i) ≡ nat_le 8 (number_or_zero m.base)

reads_b_too : (how : Method) → reads_rm how ≡ true → reads_b how ≡ true
reads_b_too how h = rw h refl

bits_stand : (bits : Bits) (ip : ℕ) (row : Row) (i : Instr) (n : ℕ) (m : Mem) → Given bits ip row i → n < 4 → operand_at i n ≡ MemOperand m → reads_rm (method_of (kind_at row n)) ≡ true → BitsStand bits row i m
unfolding asks_x asks_b
bits_stand bits ip row i n m g below e reads =
    let front = front_bits bits row i (numbers_suit bits ip row i g) in
    let index = asked_index-at row i n g.is_sound g.four below (index_in_rm bits row i g.suits.kinds g.suits.addresses) reads ∙ ap operand_index_number e in
    let base = asked_rm-at row i n g.is_sound g.four below (reads_b_too (method_of (kind_at row n)) reads) ∙ ap base_or_register_number e in
    record { x = front.x ∙ ap (λ (k : ℕ). nat_le 8 k) index; b = front.b ∙ ap (λ (k : ℕ). nat_le 8 k) base }

-- ---- an operand in r/m

-- the fields of an address have the lengths and ranges that they ask for
pub record Lengths (asize : Bits) (m : Mem) (reg : ℕ) (a : AddressFields) : Type 0 where
  pub sib : is_some a.sib ≡ needs_sib asize (modrm_with reg a)
  pub count : displacement_bytes asize (modrm_with reg a) a.sib ≡ displacement_count m.disp_size
  pub mode3 : a.mode3 < 3
  pub rm : a.rm < 8
  pub sib_range : sib_in_range a.sib ≡ true

-- operand n reads back, from a tail with these fields
abbrev pub ReadsBack : Bits → ℕ → Row → Instr → ℕ → Mem → Option ModRm → Option Sib → Type 0
ReadsBack bits ip row i n m modrm sib =
    (imm : List ℕ) → operand_by bits row (plain_front_of bits row i) (tail modrm sib (displacement_of (plain_next bits ip row i) m) (plain_next bits ip row i)) (kind_at row n) (method_of (kind_at row n)) imm ≡ MemOperand m

-- what the plain fields of an address in r/m do
pub record InRm (bits : Bits) (ip : ℕ) (row : Row) (i : Instr) (n : ℕ) (m : Mem) (a : Bits) (reg : ℕ) : Type 0 where
  pub lengths : Lengths a m reg (address_fields bits a m)
  pub back : ReadsBack bits ip row i n m (Some (modrm_with reg (address_fields bits a m))) (address_fields bits a m).sib

by_mode : (bits : Bits) (row : Row) (f : PrefixState) (kind : OpKind) (m : ModRm) (sib : Option Sib) (d : List ℕ) (next : ℕ) (imm : List ℕ) → m.mode3 < 3 → operand_by bits row f (tail (Some m) sib d next) kind method.RegisterOrMemory imm ≡ MemOperand (memory_of bits (state_address_size bits f) f m sib next d)
unfolding operand_by memory_operand
by_mode bits row f kind m sib d next imm h = rw (lt-ltb m.mode3 3 h) refl

by_memory : (bits : Bits) (row : Row) (f : PrefixState) (kind : OpKind) (m : ModRm) (sib : Option Sib) (d : List ℕ) (next : ℕ) (imm : List ℕ) → operand_by bits row f (tail (Some m) sib d next) kind method.MemoryOnly imm ≡ MemOperand (memory_of bits (state_address_size bits f) f m sib next d)
unfolding operand_by memory_operand
by_memory bits row f kind m sib d next imm = refl

by_gather : (bits : Bits) (row : Row) (f : PrefixState) (kind : OpKind) (m : ModRm) (sib : Option Sib) (d : List ℕ) (next : ℕ) (imm : List ℕ) → operand_by bits row f (tail (Some m) sib d next) kind method.Gather imm ≡ gather_memory bits row f (file_of kind) m sib d
unfolding operand_by
by_gather bits row f kind m sib d next imm = refl

by_offset : (bits : Bits) (row : Row) (f : PrefixState) (kind : OpKind) (m : Option ModRm) (sib : Option Sib) (d : List ℕ) (next : ℕ) (imm : List ℕ) → operand_by bits row f (tail m sib d next) kind method.Offset imm ≡ MemOperand (memory_absolute (state_address_size bits f) d)
unfolding operand_by
by_offset bits row f kind m sib d next imm = refl

-- the address size, where the shape's registers show it or none
size_written : (bits : Bits) (row : Row) (i : Instr) (m : Mem) (a : Bits) → i.asize ≡ Some a → agrees a (shown_size m) ≡ true → written_size bits i.asize m ≡ a
size_written bits row i m a e h = ap (λ (o : Option Bits). written_size bits o m) e ∙ written_is bits a m h

-- offers and value of a displacement at this address size
pub record Offered (a : Bits) (how : Method) (m : Mem) : Type 0 where
  pub offer : offers a how m (displacement_count m.disp_size) ≡ true
  pub value : is_displacement a m ≡ true

offered_at : (bits : Bits) (row : Row) (i : Instr) (m : Mem) (a : Bits) (how : Method) → written_size bits i.asize m ≡ a → displacement_suits (written_size bits i.asize m) how m ≡ true → Offered a how m
unfolding displacement_suits
offered_at bits row i m a how e h =
    let k = subst (λ (z : Bits). (offers z how m (displacement_count m.disp_size) && is_displacement z m) ≡ true) e h in
    record {
      offer = (and_parts (offers a how m (displacement_count m.disp_size)) (is_displacement a m) k).0;
      value = (and_parts (offers a how m (displacement_count m.disp_size)) (is_displacement a m) k).1;
    }

shape_placed : (bits : Bits) (ip : ℕ) (row : Row) (i : Instr) (n : ℕ) (m : Mem) → Given bits ip row i → n < 4 → operand_at i n ≡ MemOperand m → reads_rm (method_of (kind_at row n)) ≡ true → (at : MemoryAt bits ip row i n m) → is_shape bits m ≡ true → form_offers at.a m (displacement_count m.disp_size) ≡ true → is_displacement at.a m ≡ true
    → Placed bits at.a (plain_front_of bits row i) m (plain_next bits ip row i) (displacement_of (plain_next bits ip row i) m)
shape_placed bits ip row i n m g below e reads at shape offer value =
    let stand = bits_stand bits ip row i n m g below e reads in
    let w = written at.a (plain_next bits ip row i) m (next-below bits ip row i) value at.reach in
    record {
      shape = shape;
      offer = offer;
      size = at.agrees_with;
      len = w.len;
      value = w.value;
      target = λ size k. w.target size k (eqb-true (displacement_count m.disp_size) 4 (offers_is at.a m (displacement_count m.disp_size) (Relative size) k offer));
      x = stand.x;
      b = stand.b;
    }

shape_in_rm : (bits : Bits) (ip : ℕ) (row : Row) (i : Instr) (n : ℕ) (m : Mem) (reg : ℕ) (a : Bits) → state_address_size bits (plain_front_of bits row i) ≡ a → Placed bits a (plain_front_of bits row i) m (plain_next bits ip row i) (displacement_of (plain_next bits ip row i) m)
    → ((imm : List ℕ) (modrm : ModRm) (sib : Option Sib) → modrm.mode3 < 3 → operand_by bits row (plain_front_of bits row i) (tail (Some modrm) sib (displacement_of (plain_next bits ip row i) m) (plain_next bits ip row i)) (kind_at row n) (method_of (kind_at row n)) imm
    ≡ MemOperand (memory_of bits (state_address_size bits (plain_front_of bits row i)) (plain_front_of bits row i) modrm sib (plain_next bits ip row i) (displacement_of (plain_next bits ip row i) m)))
    → InRm bits ip row i n m a reg
shape_in_rm bits ip row i n m reg a asize placed how =
    let f = plain_front_of bits row i in
    let next = plain_next bits ip row i in
    let d = displacement_of next m in
    let fields = address_fields bits a m in
    let mean = shape_means bits a f m reg next d placed in
    record {
      lengths = record { sib = mean.sib; count = mean.count; mode3 = mean.mode3; rm = mean.rm; sib_range = mean.sib_range };
      back = λ imm. how imm (modrm_with reg fields) fields.sib mean.mode3
          ∙ ap (λ (z : Bits). MemOperand (memory_of bits z f (modrm_with reg fields) fields.sib next d)) asize ∙ ap (λ (x : Mem). MemOperand x) mean.back;
    }

gather_in_rm : (bits : Bits) (ip : ℕ) (row : Row) (i : Instr) (n : ℕ) (m : Mem) (reg : ℕ) → Given bits ip row i → n < 4 → operand_at i n ≡ MemOperand m → method_of (kind_at row n) ≡ method.Gather → (at : MemoryAt bits ip row i n m) → is_gather_shape bits row (file_of (kind_at row n)) m ≡ true → wide_offers m.base (displacement_count m.disp_size) ≡ true → is_displacement at.a m ≡ true → InRm bits ip row i n m at.a reg
gather_in_rm bits ip row i n m reg g below e how at shape offer value =
    let f = plain_front_of bits row i in
    let next = plain_next bits ip row i in
    let d = displacement_of next m in
    let file = file_of (kind_at row n) in
    let fields = address_fields bits at.a m in
    let stand = bits_stand bits ip row i n m g below e (ap reads_rm how) in
    let w = written at.a next m (next-below bits ip row i) value at.reach in
    let form = gather_is_wide bits row file m shape in
    let mean = gather_means bits at.a row f file m reg d (gather_file (kind_at row n) how) (record {
      shape = shape;
      offer = offer;
      size = at.agrees_with;
      wide = at.size.gather (reads-at is_gather row n g.is_sound below (ap is_gather how));
      len = w.len;
      value = w.value (λ size k. impossible (wide_apart (form_of m.base m.index) size form k));
      x = stand.x;
      b = stand.b;
    }) in
    record {
      lengths = record { sib = mean.sib; count = mean.count; mode3 = mean.mode3; rm = mean.rm; sib_range = mean.sib_range };
      back = λ imm. ap (λ (h : Method). operand_by bits row f (tail (Some (modrm_with reg fields)) fields.sib d next) (kind_at row n) h imm) how
          ∙ by_gather bits row f (kind_at row n) (modrm_with reg fields) fields.sib d next imm ∙ mean.back at.asize;
    }
  where
    wide_apart : (form : AddressForm) (size : Bits) → form ≡ Wide → form ≡ Relative size → true ≡ false
    wide_apart form size p q = cc

-- **the plain fields of an address in r/m mean it, and have the lengths and ranges that they ask for**
pub in_rm : (bits : Bits) (ip : ℕ) (row : Row) (i : Instr) (n : ℕ) (m : Mem) (reg : ℕ) → Given bits ip row i → n < 4 → operand_at i n ≡ MemOperand m → reads_rm (method_of (kind_at row n)) ≡ true → (at : MemoryAt bits ip row i n m) → (written_size bits i.asize m ≡ at.a) × InRm bits ip row i n m at.a reg
unfolding is_variant_of shape_suits offers
in_rm bits ip row i n m reg g below e reads at = by_how (method_of (kind_at row n)) refl at.variant at.shape at.offer reads
  where
    by_how : (how : Method) → method_of (kind_at row n) ≡ how → is_variant_of row.place how (MemOperand m) ≡ true → shape_suits bits row how (file_of (kind_at row n)) m ≡ true → displacement_suits (written_size bits i.asize m) how m ≡ true → reads_rm how ≡ true → (written_size bits i.asize m ≡ at.a) × InRm bits ip row i n m at.a reg
    by_how method.RegisterOrMemory k v s o r =
        let size = size_written bits row i m at.a at.size.is (shape_shown bits at.a m s at.agrees_with) in
        let given = offered_at bits row i m at.a method.RegisterOrMemory size o in (
          size,
          shape_in_rm bits ip row i n m reg at.a at.asize (shape_placed bits ip row i n m g below e reads at s given.offer given.value)
              (λ imm modrm sib small. ap (λ (h : Method). operand_by bits (row) (plain_front_of bits row i) (tail (Some modrm) sib (displacement_of (plain_next bits ip row i) m) (plain_next bits ip row i)) (kind_at row n) h imm) k
              ∙ by_mode bits row (plain_front_of bits row i) (kind_at row n) modrm sib (displacement_of (plain_next bits ip row i) m) (plain_next bits ip row i) imm small),
        )
    by_how method.MemoryOnly k v s o r =
        let size = size_written bits row i m at.a at.size.is (shape_shown bits at.a m s at.agrees_with) in
        let given = offered_at bits row i m at.a method.MemoryOnly size o in (
          size,
          shape_in_rm bits ip row i n m reg at.a at.asize (shape_placed bits ip row i n m g below e reads at s given.offer given.value)
              (λ imm modrm sib small. ap (λ (h : Method). operand_by bits (row) (plain_front_of bits row i) (tail (Some modrm) sib (displacement_of (plain_next bits ip row i) m) (plain_next bits ip row i)) (kind_at row n) h imm) k
              ∙ by_memory bits row (plain_front_of bits row i) (kind_at row n) modrm sib (displacement_of (plain_next bits ip row i) m) (plain_next bits ip row i) imm),
        )
    by_how method.Gather k v s o r =
        let size = size_written bits row i m at.a at.size.is (gather_shown bits at.a row (file_of (kind_at row n)) m s at.agrees_with) in
        let given = offered_at bits row i m at.a method.Gather size o in
        (size, gather_in_rm bits ip row i n m reg g below e k at s given.offer given.value)
    by_how method.RegisterOnly k v s o r = impossible (sym v)
    by_how method.AnyMode k v s o r = impossible (sym v)
    by_how _ k v s o r = impossible (sym r)

-- ---- an operand that is an absolute address

-- **an absolute address reads back, and has the bytes of the address size**
pub absolute_at : (bits : Bits) (ip : ℕ) (row : Row) (i : Instr) (n : ℕ) (m : Mem) → method_of (kind_at row n) ≡ method.Offset → (at : MemoryAt bits ip row i n m)
    → (displacement_count m.disp_size ≡ size_bytes at.a) × ((modrm : Option ModRm) (sib : Option Sib) → ReadsBack bits ip row i n m modrm sib)
unfolding shape_suits offers
absolute_at bits ip row i n m how at =
    let next = plain_next bits ip row i in
    let shape : (is_none m.base && (is_none m.index && m.scale == 1)) ≡ true = subst (λ (h : Method). shape_suits bits row h (file_of (kind_at row n)) m ≡ true) how at.shape in
    let size = size_written bits row i m at.a at.size.is (absolute_shown at.a m shape) in
    let given = offered_at bits row i m at.a method.Offset size (subst (λ (h : Method). displacement_suits (written_size bits i.asize m) h m ≡ true) how at.offer) in
    let w = written at.a next m (next-below bits ip row i) given.value at.reach in
    let alone = absolute_is_alone m shape in
    let back = absolute_means at.a m (displacement_of next m) shape w.len (w.value (λ size k. impossible (alone_apart (form_of m.base m.index) size alone k))) in (
      eqb-true (displacement_count m.disp_size) (size_bytes at.a) given.offer,
      λ modrm sib imm.
          ap (λ (h : Method). operand_by bits row (plain_front_of bits row i) (tail modrm sib (displacement_of next m) next) (kind_at row n) h imm) how
          ∙ by_offset bits row (plain_front_of bits row i) (kind_at row n) modrm sib (displacement_of next m) next imm
          ∙ ap (λ (z : Bits). MemOperand (memory_absolute z (displacement_of next m))) at.asize ∙ ap (λ (x : Mem). MemOperand x) back,
    )
  where
    alone_apart : (form : AddressForm) (size : Bits) → form ≡ Alone → form ≡ Relative size → true ≡ false
    alone_apart form size p q = cc

-- ---- every memory operand

-- a memory operand is read from r/m or is an absolute address
place_of_memory : (place : Place) (how : Method) (m : Mem) → is_variant_of place how (MemOperand m) ≡ true → (reads_rm how ≡ true) ⊎ (how ≡ method.Offset)
unfolding is_variant_of
place_of_memory place method.RegisterOrMemory m h = inl refl
place_of_memory place method.MemoryOnly m h = inl refl
place_of_memory place method.Gather m h = inl refl
place_of_memory place method.Offset m h = inr refl
place_of_memory place _ m h = impossible (sym h)

-- a tail with these parts
tail_is : (t : Tail) (m : Option ModRm) (s : Option Sib) (d : List ℕ) (next : ℕ) → t.modrm ≡ m → t.sib ≡ s → t.disp ≡ d → t.next ≡ next → tail m s d next ≡ t
tail_is t m s d next em es ed en = parts t.modrm m t.sib s t.disp d t.next next em es ed en
  where
    parts : (m m' : Option ModRm) (s s' : Option Sib) (d d' : List ℕ) (k k' : ℕ) → m ≡ m' → s ≡ s' → d ≡ d' → k ≡ k' → tail m' s' d' k' ≡ tail m s d k
    parts m m' s s' d d' k k' e1 e2 e3 e4 = cc

reads_too : (how : Method) → reads_rm how ≡ true → reads_address how ≡ true
reads_too how h = rw h refl

-- **a memory operand reads back from the plain tail**
pub memory_back : (bits : Bits) (ip : ℕ) (row : Row) (i : Instr) (n : ℕ) (m : Mem) (t : Tail) (imm : List ℕ) → Given bits ip row i → n < 4 → operand_at i n ≡ MemOperand m → t.modrm ≡ plain_modrm bits row i → t.sib ≡ plain_sib_of bits row i
    → t.disp ≡ displacement_of_operand t.next (address_operand row i) → t.next ≡ plain_next bits ip row i
    → operand_by bits row (plain_front_of bits row i) t (kind_at row n) (method_of (kind_at row n)) imm ≡ MemOperand m
memory_back bits ip row i n m t imm g below e em es ed en = by_place (place_of_memory row.place (method_of (kind_at row n)) m at.variant)
  where
    at : MemoryAt bits ip row i n m
    at = memory_at bits ip row i n m g below e

    next : ℕ
    next = plain_next bits ip row i

    disp : reads_address (method_of (kind_at row n)) ≡ true → t.disp ≡ displacement_of (plain_next bits ip row i) m
    disp reads =
        ed ∙ ap (λ (k : ℕ). displacement_of_operand k (address_operand row i)) en
        ∙ ap (λ (op : Operand). displacement_of_operand (plain_next bits ip row i) op) (address_operand-at row i n g.is_sound g.four below reads ∙ e)

    from : (modrm : Option ModRm) (sib : Option Sib) → t.modrm ≡ modrm → t.sib ≡ sib → reads_address (method_of (kind_at row n)) ≡ true → ReadsBack bits ip row i n m modrm sib → operand_by bits row (plain_front_of bits row i) t (kind_at row n) (method_of (kind_at row n)) imm ≡ MemOperand m
    from modrm sib m1 s1 reads back =
        subst (λ (x : Tail). operand_by bits row (plain_front_of bits row i) x (kind_at row n) (method_of (kind_at row n)) imm ≡ MemOperand m)
        (tail_is t modrm sib (displacement_of (plain_next bits ip row i) m) (plain_next bits ip row i) m1 s1 (disp reads) en) (back imm)

    by_place : (reads_rm (method_of (kind_at row n)) ≡ true) ⊎ (method_of (kind_at row n) ≡ method.Offset) → operand_by bits row (plain_front_of bits row i) t (kind_at row n) (method_of (kind_at row n)) imm ≡ MemOperand m
    by_place (inl reads) =
        let p = memory_in_rm bits row i n m g.is_sound g.is_writable.rule g.four g.suits.kinds below reads e in
        let r = in_rm bits ip row i n m p.reg g below e reads at in
        let fields = ap (λ (z : Bits). address_fields bits z m) r.0 in
        from (Some (modrm_with p.reg (address_fields bits at.a m))) (address_fields bits at.a m).sib
        (em ∙ p.modrm ∙ ap (λ (x : AddressFields). Some (modrm_with p.reg x)) fields) (es ∙ p.sib ∙ ap (λ (x : AddressFields). x.sib) fields)
        (reads_too (method_of (kind_at row n)) reads) r.1.back
    by_place (inr how) = from t.modrm t.sib refl refl (ap reads_address how) ((absolute_at bits ip row i n m how at).1 t.modrm t.sib)
