-- The registers that the plain spelling names fit: their numbers in the fields, and what kinds, gathers and the byte 90 ask of them.
use Rattle.std.proofs.Common.{◌≡◌, inl, inr, ℕ, zero, suc, ◌+◌, ◌%◌, ◌<◌, Bool, true, false, ◌&&◌, ◌||◌, not, ◌==◌, nat_le, nat_lt, refl, ap, sym, ◌∙◌, subst, arith, if◌then◌else◌, Option, Some, None, is_none, is_some, eq-eqb, List, [], ◌∷◌, length}
use Rattle.instruction_parts.proofs.Tests.{or_right}
use Rattle.std.specs.Prelude.{slice_index_or}
use Rattle.std.proofs.lemmas.Bool.{leb-true, and_from, lt-ltb, or_left, lt-leb, and_parts, cases_Bool, eqb-true, not-true}
use Rattle.std.specs.List.{list_all}
use borrow.Author.Tests.{ltb-true}
use Rattle.x86_values.specs.declared.Bits.{Bits}
use Rattle.x86_values.specs.declared.Bits.TheVariants.{B16}
use Rattle.x86_values.specs.declared.Segment.{Segment}
use Rattle.x86_values.specs.declared.Segment.TheVariants.{Es, Cs, Ss, Ds, Fs, Gs}
use Rattle.x86_values.specs.declared.Register.{Register}
use Rattle.x86_values.specs.declared.Register.TheVariants.{R16, Seg, Eip, Rip}
use Rattle.x86_values.specs.declared.Mem.{Mem}
use Rattle.x86_values.specs.declared.Operand.{Operand}
use Rattle.x86_values.specs.declared.Operand.TheVariants.{Reg, Mem as MemOperand}
use Rattle.x86_values.specs.declared.Rep.{Rep}
use Rattle.x86_values.specs.declared.Rep.TheVariants.{None as NoRep, F2 as RepF2, F3 as RepF3}
use Rattle.x86_values.specs.declared.Instr.{Instr}
use Rattle.instruction_parts.specs.declared.row_types.Row.{Row}
use Rattle.instruction_parts.specs.declared.row_types.Class.{Class}
use Rattle.instruction_parts.specs.declared.row_types.Class.TheVariants.{Any as AnyClass, Nf3, F3 as ClassF3, F2 as ClassF2}
use Rattle.instruction_parts.specs.declared.row_types.Plus.{Plus}
use Rattle.instruction_parts.specs.declared.row_types.Plus.TheVariants.{No as NoPlus, Register as PlusRegister, Stack as PlusStack}
use Rattle.instruction_parts.specs.declared.row_types.ModRmRule.{ModRmRule}
use Rattle.instruction_parts.specs.declared.row_types.ModRmRule.TheVariants.{Any as AnyModRm}
use Rattle.instruction_parts.specs.declared.row_types.Place.{Place}
use Rattle.instruction_parts.specs.declared.row_types.LBit.{LBit}
use Rattle.instruction_parts.specs.declared.row_types.LBit.TheVariants.{L256}
use Rattle.instruction_parts.specs.declared.row_types.OpKind.{OpKind}
use Rattle.instruction_parts.specs.declared.row_types.OpKind.TheVariants.{Absent, Sw, Cn, Dn}
use Rattle.instruction_parts.specs.declared.kinds.Method.{Method}
use Rattle.instruction_parts.specs.declared.kinds.Method.TheVariants as method
use Rattle.instruction_parts.specs.declared.kinds.File.{File}
use Rattle.instruction_parts.specs.declared.kinds.File.TheVariants as file
use Rattle.instruction_parts.specs.declared.spelling.PrefixState.{PrefixState}
use Rattle.instruction_parts.specs.declared.spelling.ModRm.{ModRm}
use Rattle.instruction_parts.specs.declared.spelling.Sib.{Sib}
use Rattle.instruction_parts.specs.Kinds.{method_of, file_of}
use Rattle.instruction_parts.specs.Counting.{is_16}
use Rattle.instruction_parts.specs.Sizes.{is_vex_row, bit_r, bit_b, state_address_size}
use Rattle.row_fit.specs.Fits.{kind_at, reads_by, is_gather, is_map_one, is_repeat_f3, is_no_repeat, has_modrm, with_high_bit, reg_field, rm_field, reg_number, rm_number, index_number, vvvv_number, needs_sib, register_fits, destination_fits, gather_fits, nop_fits, is_nop_byte, is_control_number, registers_fit, is_vvvv}
use Rattle.row_fit.specs.Sound.{reads_reg, reads_rm, reads_opcode}
use Rattle.row_meaning.specs.Meaning.{vector, register_of}
use Rattle.x86_values.specs.Operands.{is_memory}
use Rattle.plain_spelling.specs.Forms.{operand_at, is_variant_of, is_register, is_scale}
use Rattle.plain_spelling.specs.PlainFront.{register_number, number_or_zero, operand_number, operand_index_number, base_or_register_number, number_in_reg, number_in_rm, number_in_index, number_in_vvvv, number_in_opcode, number_asked_of, asks_r, asks_x, asks_b, asked_opcode, asked_repeat, plain_front_of}
use Rattle.plain_spelling.specs.declared.addresses.AddressForm.TheVariants.{Wide}
use Rattle.plain_spelling.specs.declared.addresses.AddressFields.{AddressFields}
use Rattle.plain_spelling.specs.Addresses.{register_count, general_size, has_address_size, is_wide_size, is_address_register, form_of, written_size, index_bits, plain_sib, wide_needs_sib, wide_fields, address_fields, is_gather_base, index_named, is_vector_index, is_gather_shape, shape_suits}
use Rattle.plain_spelling.specs.PlainTail.{modrm_with, plain_modrm, plain_sib_of}
use Rattle.plain_spelling.specs.Expressible.{each_operand, kind_suits, naming_number, is_of_kind, is_not_nop, kind_allows, is_nameable, is_vector_register, vector_in_reg, vector_in_index, vector_in_vvvv, passes, differ as two_differ, gather_numbers_differ, gather_suits, register_suits, address_suits, is_exchange_of_90, repeat_suits, prefixes_suit, lock_suits, has_memory_operand, size_agrees, is_size_of, address_size_suits}
use Rattle.plain_spelling.specs.Writable.{nop_is_bare, is_vector_file, names_vectors, gather_is_whole}
use Rattle.x86_values.specs.Comparing.{same_register}
use Rattle.x86_values.proofs.Compared.{same_register-is}
use Rattle.x86_values.specs.Registers.{segment_number}
use Rattle.row_relation.proofs.AddressForms.{vectors_named}
use Rattle.plain_spelling.proofs.Asked.{adds_register, proper, plus_register, four_kinds, each-at, asked_reg-at, asked_rm-at, asked_rm-none, asked_index-at, asked_opcode-at, index_in_rm, reads_b}
use Rattle.row_relation.specs.Given.{Given}
use Rattle.row_relation.proofs.FitNumbers.{kind_that_passes, Nameable, nameable-at, numbers_suit}
use Rattle.row_relation.proofs.FitFrontBits.{FrontBits, front_bits, count-most}
use Rattle.row_relation.proofs.FitPlaces.{or_true, all-from, reads-at, rule_of_reg, modrm_any, address_small, register_in_rm, reads_b_of_rm, MemoryInRm, memory_in_rm}

-- ---- numbers in the fields

-- a number below 16 is its low three bits with the bit that adds 8
pub extended_back : (x : ℕ) → x < 16 → with_high_bit (nat_le 8 x) (x % 8) ≡ x
extended_back x h = elim (cases_Bool (nat_le 8 x)) [
  | inl large ↦ (let k = leb-true 8 x large in rw large (omega arith))
  | inr small ↦ (let k : x < 8 = grind (arith, small) in rw small (omega arith))
]

-- the bits of the plain front
pub says : (bits : Bits) (ip : ℕ) (row : Row) (i : Instr) → Given bits ip row i → FrontBits bits row i
says bits ip row i g = front_bits bits row i (numbers_suit bits ip row i g)

-- a register number of a mode is below 16
pub below_16 : (bits : Bits) (x : ℕ) → x < register_count bits → x < 16
below_16 bits x h = let k = count-most bits in omega arith

reg_of_any : (bits : Bits) (row : Row) (i : Instr) → row.modrm ≡ AnyModRm → reg_field (plain_modrm bits row i) ≡ number_asked_of number_in_reg row i % 8
reg_of_any bits row i e = rw (modrm_any bits row i e) refl

-- ModRM.reg holds the number that is asked of it
reg_number_asked : (bits : Bits) (ip : ℕ) (row : Row) (i : Instr) → Given bits ip row i → row.modrm ≡ AnyModRm → reg_number (plain_front_of bits row i) (plain_modrm bits row i) ≡ number_asked_of number_in_reg row i
unfolding reg_number asks_r
reg_number_asked bits ip row i g e =
    ap (λ (b : Bool). with_high_bit b (reg_field (plain_modrm bits row i))) (says bits ip row i g).r
    ∙ ap (λ (n : ℕ). with_high_bit (nat_le 8 (number_asked_of number_in_reg row i)) n) (reg_of_any bits row i e)
    ∙ extended_back (number_asked_of number_in_reg row i) (below_16 bits (number_asked_of number_in_reg row i) (numbers_suit bits ip row i g).reg)

-- **the number in ModRM.reg is that of the operand that is read from it**
pub reg_number-at : (bits : Bits) (ip : ℕ) (row : Row) (i : Instr) (n : ℕ) → Given bits ip row i → n < 4 → reads_reg (method_of (kind_at row n)) ≡ true → reg_number (plain_front_of bits row i) (plain_modrm bits row i) ≡ operand_number (operand_at i n)
reg_number-at bits ip row i n g below reads =
    reg_number_asked bits ip row i g (rule_of_reg row g.is_sound g.is_writable.rule (reads-at reads_reg row n g.is_sound below reads))
    ∙ asked_reg-at row i n g.is_sound g.four below reads

-- **the number in r/m is that of the register that is read from it**
pub rm_number-at : (bits : Bits) (ip : ℕ) (row : Row) (i : Instr) (n : ℕ) (r : Register) → Given bits ip row i → n < 4 → reads_rm (method_of (kind_at row n)) ≡ true → operand_at i n ≡ Reg r → rm_number bits (plain_front_of bits row i) (plain_modrm bits row i) ≡ register_number r
unfolding rm_number asks_b
rm_number-at bits ip row i n r g below reads e =
    let k = register_in_rm bits row i n r g.is_sound g.is_writable.rule g.four below reads e in
    let number : number_asked_of number_in_rm row i ≡ register_number r = asked_rm-at row i n g.is_sound g.four below (reads_b_of_rm (method_of (kind_at row n)) reads) ∙ ap base_or_register_number e in
    let small : register_number r < 16 = subst (λ (x : ℕ). x < 16) number (below_16 bits (number_asked_of number_in_rm row i) (numbers_suit bits ip row i g).rm) in
    ap (λ (b : Bool). with_high_bit b (rm_field (plain_modrm bits row i))) (says bits ip row i g).b
    ∙ ap (λ (m : Option ModRm). with_high_bit (nat_le 8 (number_asked_of number_in_rm row i)) (rm_field m)) k.is_plain
    ∙ ap (λ (x : ℕ). with_high_bit (nat_le 8 (number_asked_of number_in_rm row i)) x) k.rm
    ∙ ap (λ (x : ℕ). with_high_bit (nat_le 8 x) (register_number r % 8)) number
    ∙ extended_back (register_number r) small

-- ---- the register of a kind

-- an operand that tests as a register is one
pub register_variant : (op : Operand) → is_register op ≡ true → (r : Register) × (op ≡ Reg r)
register_variant (Reg r) h = (r, refl)
register_variant _ h = cc

-- an operand that tests as memory is memory
pub memory_variant : (op : Operand) → is_memory op ≡ true → (m : Mem) × (op ≡ MemOperand m)
memory_variant (MemOperand m) h = (m, refl)
memory_variant _ h = cc

reg_variant : (place : Place) (how : Method) (op : Operand) → reads_reg how ≡ true → is_variant_of place how op ≡ true → is_register op ≡ true
unfolding is_variant_of
reg_variant place method.ModRmReg op h k = k
reg_variant place _ op h k = cc

opcode_variant : (place : Place) (how : Method) (op : Operand) → reads_opcode how ≡ true → is_variant_of place how op ≡ true → is_register op ≡ true
unfolding is_variant_of
opcode_variant place method.OpcodeLow op h k = k
opcode_variant place _ op h k = cc

gather_variant : (place : Place) (how : Method) (op : Operand) → is_gather how ≡ true → is_variant_of place how op ≡ true → is_memory op ≡ true
unfolding is_variant_of
gather_variant place method.Gather op h k = k
gather_variant place _ op h k = cc

-- each operand is of a variant that its kind allows
pub variant-at : (row : Row) (i : Instr) (n : ℕ) → each_operand (kind_suits row i) ≡ true → n < 4 → is_variant_of row.place (method_of (kind_at row n)) (operand_at i n) ≡ true
unfolding kind_suits
variant-at row i n kinds below = each-at (kind_suits row i) n below kinds

register_in_reg : (row : Row) (i : Instr) (n : ℕ) → each_operand (kind_suits row i) ≡ true → n < 4 → reads_reg (method_of (kind_at row n)) ≡ true → (r : Register) × (operand_at i n ≡ Reg r)
register_in_reg row i n kinds below reads =
    register_variant (operand_at i n) (reg_variant row.place (method_of (kind_at row n)) (operand_at i n) reads (variant-at row i n kinds below))

kind_of_register : (bits : Bits) (row : Row) (i : Instr) (kind : OpKind) (r : Register) → is_of_kind bits row i kind r ≡ true → r ≡ register_of bits row (plain_front_of bits row i) (file_of kind) (naming_number (method_of kind) kind r)
unfolding is_of_kind
kind_of_register bits row i kind r h = same_register-is r _ h

-- **a register operand is what its kind names by its number**
pub register-at : (bits : Bits) (ip : ℕ) (row : Row) (i : Instr) (n : ℕ) (r : Register) → Given bits ip row i → n < 4 → operand_at i n ≡ Reg r → r ≡ register_of bits row (plain_front_of bits row i) (file_of (kind_at row n)) (naming_number (method_of (kind_at row n)) (kind_at row n) r)
register-at bits ip row i n r g below e =
    kind_of_register bits row i (kind_at row n) r (nameable-at bits row i n r g.suits.registers below e).kind

segment_small : (s : Segment) → segment_number s < 6
segment_small Es = omega arith
segment_small Cs = omega arith
segment_small Ss = omega arith
segment_small Ds = omega arith
segment_small Fs = omega arith
segment_small Gs = omega arith

segment_register : (r : Register) (s : Segment) → r ≡ Seg s → register_number r < 6
unfolding register_number
segment_register r s e = rw e (segment_small s)

segment_kind : (bits : Bits) (row : Row) (i : Instr) (r : Register) → is_of_kind bits row i Sw r ≡ true → register_number r < 6
unfolding file_of register_of
segment_kind bits row i r h = segment_register r _ (kind_of_register bits row i Sw r h)

-- ---- what the kinds ask

-- the register of a kind that reads ModRM.reg
record InReg (bits : Bits) (row : Row) (i : Instr) (n : ℕ) : Type 0 where
  register : Register
  operand : operand_at i n ≡ Reg register
  field : reg_field (plain_modrm bits row i) ≡ register_number register % 8
  number : reg_number (plain_front_of bits row i) (plain_modrm bits row i) ≡ register_number register
  asks : asks_r row i ≡ nat_le 8 (register_number register)
  named : Nameable bits row i n register

in_reg : (bits : Bits) (ip : ℕ) (row : Row) (i : Instr) (n : ℕ) → Given bits ip row i → n < 4 → reads_reg (method_of (kind_at row n)) ≡ true → InReg bits row i n
unfolding asks_r
in_reg bits ip row i n g below reads =
    let r = register_in_reg row i n g.suits.kinds below reads in
    let rule = rule_of_reg row g.is_sound g.is_writable.rule (reads-at reads_reg row n g.is_sound below reads) in
    let asked_is : number_asked_of number_in_reg row i ≡ register_number r.0 = asked_reg-at row i n g.is_sound g.four below reads ∙ ap operand_number r.1 in
    record {
      register = r.0;
      operand = r.1;
      field = reg_of_any bits row i rule ∙ ap (λ (x : ℕ). x % 8) asked_is;
      number = reg_number-at bits ip row i n g below reads ∙ ap operand_number r.1;
      asks = ap (λ (x : ℕ). nat_le 8 x) asked_is;
      named = nameable-at bits row i n r.0 g.suits.registers below r.1;
    }

reads_of_kind : (kind of : OpKind) → kind ≡ of → reads_reg (method_of of) ≡ true → reads_reg (method_of kind) ≡ true
reads_of_kind kind of e h = rw e h

register_fits-at : (bits : Bits) (ip : ℕ) (row : Row) (i : Instr) (n : ℕ) → Given bits ip row i → n < 4 → register_fits bits (plain_front_of bits row i) (plain_modrm bits row i) (kind_at row n) ≡ true
unfolding register_fits method_of kind_allows
register_fits-at bits ip row i n g below = go (kind_at row n) refl
  where
    segment : kind_at row n ≡ Sw → nat_lt (reg_field (plain_modrm bits row i)) 6 ≡ true
    segment e =
        let k = in_reg bits ip row i n g below (reads_of_kind (kind_at row n) Sw e refl) in
        let small = segment_kind bits row i k.register (subst (λ (kind : OpKind). is_of_kind bits row i kind k.register ≡ true) e k.named.kind) in
        let field = k.field in
        lt-ltb (reg_field (plain_modrm bits row i)) 6 (omega arith)

    control : kind_at row n ≡ Cn → is_control_number bits (reg_number (plain_front_of bits row i) (plain_modrm bits row i)) ≡ true
    control e =
        let k = in_reg bits ip row i n g below (reads_of_kind (kind_at row n) Cn e refl) in
        rw (k.number) (subst (λ (kind : OpKind). kind_allows bits n kind k.register ≡ true) e k.named.allowed)

    debug : kind_at row n ≡ Dn → not (bit_r (plain_front_of bits row i)) ≡ true
    debug e =
        let k = in_reg bits ip row i n g below (reads_of_kind (kind_at row n) Dn e refl) in
        let small = ltb-true (register_number k.register) 8 (subst (λ (kind : OpKind). kind_allows bits n kind k.register ≡ true) e k.named.allowed) in
        ap not ((says bits ip row i g).r ∙ k.asks ∙ lt-leb 8 (register_number k.register) small)

    go : (kind : OpKind) → kind_at row n ≡ kind → register_fits bits (plain_front_of bits row i) (plain_modrm bits row i) kind ≡ true
    go Sw e = segment e
    go Cn e = control e
    go Dn e = debug e
    go _ e = refl

each_register_fits : (bits : Bits) (ip : ℕ) (row : Row) (i : Instr) → Given bits ip row i → list_all (register_fits bits (plain_front_of bits row i) (plain_modrm bits row i)) row.ops ≡ true
each_register_fits bits ip row i g =
    let four = four_kinds row g.is_sound in
    all-from (register_fits bits (plain_front_of bits row i) (plain_modrm bits row i)) row.ops Absent (λ k below. register_fits-at bits ip row i k g (omega arith))

-- ---- a segment register that is written

not_cs : (field number : ℕ) → field ≡ number % 8 → number < 6 → not (number == 1) ≡ true → not (field == 1) ≡ true
not_cs field number e small h = let same : field ≡ number = omega arith in rw same h

destination : (bits : Bits) (ip : ℕ) (row : Row) (i : Instr) → Given bits ip row i → destination_fits row (plain_modrm bits row i) ≡ true
unfolding destination_fits method_of kind_allows
destination bits ip row i g = go (kind_at row 0) refl
  where
    written : kind_at row 0 ≡ Sw → not (reg_field (plain_modrm bits row i) == 1) ≡ true
    written e =
        let k = in_reg bits ip row i 0 g (omega arith) (reads_of_kind (kind_at row 0) Sw e refl) in
        let small = segment_kind bits row i k.register (subst (λ (kind : OpKind). is_of_kind bits row i kind k.register ≡ true) e k.named.kind) in
        let allowed = subst (λ (kind : OpKind). kind_allows bits 0 kind k.register ≡ true) e k.named.allowed in
        not_cs (reg_field (plain_modrm bits row i)) (register_number k.register) k.field small allowed

    go : (kind : OpKind) → kind_at row 0 ≡ kind → (elim kind [ Sw ↦ not (reg_field (plain_modrm bits row i) == 1) | _ ↦ true ]) ≡ true
    go Sw e = written e
    go _ e = refl

-- ---- gathers

gather_form : (bits : Bits) (base index : Option Register) → is_gather_base bits base ≡ true → is_some index ≡ true → form_of base index ≡ Wide
unfolding is_gather_base general_size is_wide_size form_of
gather_form bits None None h k = cc
gather_form bits None (Some r) h k = refl
gather_form bits (Some Rip) index h k = cc
gather_form bits (Some Eip) index h k = cc
gather_form bits (Some (R16 n)) index h k =
    let wide = (and_parts (has_address_size bits B16 && not (is_16 B16)) (is_address_register bits B16 (R16 n)) h).0 in
    let none : false ≡ true = (and_parts (has_address_size bits B16) (not (is_16 B16)) wide).1 in
    cc
gather_form bits (Some _) index h k = refl

vector_index_is : (bits : Bits) (row : Row) (file : File) (index : Option Register) → is_vector_index bits row file index ≡ true → is_some index ≡ true
unfolding is_vector_index
vector_index_is bits row file None h = h
vector_index_is bits row file (Some r) h = refl

-- the fields of a gather's address: rm 4, and a SIB with its index
record GatherFields (m : Mem) (fields : AddressFields) : Type 0 where
  mode : fields.mode3 < 3
  rm : fields.rm ≡ 4
  sib : Sib
  has_sib : fields.sib ≡ Some sib
  index : sib.index ≡ number_or_zero m.index % 8

index_field : (index : Option Register) → is_some index ≡ true → index_bits index ≡ number_or_zero index % 8
unfolding index_bits
index_field None h = cc
index_field (Some r) h = refl

needs_by_index : (m : Mem) → is_some m.index ≡ true → wide_needs_sib m ≡ true
unfolding wide_needs_sib
needs_by_index m h = rw h refl

wide_of : (bits asize : Bits) (m : Mem) → form_of m.base m.index ≡ Wide → address_fields bits asize m ≡ wide_fields m
unfolding address_fields
wide_of bits asize m e = rw (e, address_fields) refl

wide_rm : (m : Mem) → wide_needs_sib m ≡ true → ((wide_fields m).rm ≡ 4) × ((wide_fields m).sib ≡ Some (plain_sib m))
unfolding wide_fields
wide_rm m h = (rw h refl, rw h refl)

plain_sib_index : (m : Mem) → (plain_sib m).index ≡ index_bits m.index
unfolding plain_sib
plain_sib_index m = refl

gather_fields : (bits : Bits) (row : Row) (file : File) (asize : Bits) (m : Mem) → is_gather_shape bits row file m ≡ true → GatherFields m (address_fields bits asize m)
unfolding is_gather_shape
gather_fields bits row file asize m h =
    let b = is_gather_base bits m.base in
    let i = is_vector_index bits row file m.index in
    let s = is_scale m.scale in
    let index = vector_index_is bits row file m.index (and_parts i s (and_parts b (i && s) h).1).0 in
    let wide = wide_of bits asize m (gather_form bits m.base m.index (and_parts b (i && s) h).0 index) in
    let parts = wide_rm m (needs_by_index m index) in
    record {
      mode = (address_small bits asize m).mode;
      rm = ap (λ (x : AddressFields). x.rm) wide ∙ parts.0;
      sib = plain_sib m;
      has_sib = ap (λ (x : AddressFields). x.sib) wide ∙ parts.1;
      index = plain_sib_index m ∙ index_field m.index index;
    }

-- a test that one of the four operands passes
among : (p : ℕ → Bool) (n : ℕ) → n < 4 → p n ≡ true → (p 0 || (p 1 || (p 2 || p 3))) ≡ true
among p zero below h = or_left (p 0) (p 1 || (p 2 || p 3)) h
among p (suc zero) below h = or_true (p 0) _ (or_left (p 1) (p 2 || p 3) h)
among p (suc (suc zero)) below h = or_true (p 0) _ (or_true (p 1) _ (or_left (p 2) (p 3) h))
among p (suc (suc (suc zero))) below h = or_true (p 0) _ (or_true (p 1) _ (or_true (p 2) (p 3) h))
among p (suc (suc (suc (suc n)))) below h = absurd (omega arith)

-- an operand that is memory
memory_among : (i : Instr) (n : ℕ) → n < 4 → is_memory (operand_at i n) ≡ true → has_memory_operand i ≡ true
unfolding has_memory_operand
memory_among i n below h = among (λ k. is_memory (operand_at i k)) n below h

-- the address size of an instruction with a memory operand
pub record HasSize (bits : Bits) (row : Row) (i : Instr) : Type 0 where
  pub size : Bits
  pub given : i.asize ≡ Some size
  pub suits : is_size_of bits row i size ≡ true

given_size : (bits : Bits) (row : Row) (i : Instr) (asize : Option Bits) → i.asize ≡ asize → (elim asize [ None ↦ false | Some a ↦ is_size_of bits row i a ]) ≡ true → HasSize bits row i
given_size bits row i None e h = cc
given_size bits row i (Some a) e h = record { size = a; given = e; suits = h }

if_true : (t a b c : Bool) → t ≡ true → (if t || a then b else c) ≡ true → b ≡ true
if_true true a b c e h = h
if_true false a b c e h = cc

-- a memory operand has the address size of the instruction
pub size_of_memory : (bits : Bits) (row : Row) (i : Instr) (n : ℕ) → address_size_suits bits row i ≡ true → n < 4 → is_memory (operand_at i n) ≡ true → HasSize bits row i
unfolding address_size_suits
size_of_memory bits row i n h below memory =
    given_size bits row i i.asize refl (if_true (has_memory_operand i) _ _ (is_none i.asize) (memory_among i n below memory) h)

not_word : (bits : Bits) (row : Row) (i : Instr) (a : Bits) → is_size_of bits row i a ≡ true → reads_by is_gather row ≡ true → (has_address_size bits a ≡ true) × (not (is_16 a) ≡ true)
unfolding is_size_of
not_word bits row i a h gather =
    let agrees = size_agrees a (operand_at i 0) && (size_agrees a (operand_at i 1) && (size_agrees a (operand_at i 2) && size_agrees a (operand_at i 3))) in
    let last = not (is_16 a && reads_by is_gather row) in
    let k = (and_parts agrees last (and_parts (has_address_size bits a) (agrees && last) h).1).1 in
    ((and_parts (has_address_size bits a) (agrees && last) h).0, and_false (is_16 a) (reads_by is_gather row) gather k)
  where
    and_false : (a b : Bool) → b ≡ true → not (a && b) ≡ true → not a ≡ true
    and_false true true e h = h
    and_false true false e h = cc
    and_false false b e h = refl

record Whole (row : Row) : Type 0 where
  vex : is_vex_row row ≡ true
  rule : row.modrm ≡ AnyModRm
  reg : reads_by reads_reg row ≡ true
  vvvv : reads_by is_vvvv row ≡ true
  vectors : list_all names_vectors row.ops ≡ true

any_rule : (rule : ModRmRule) (x : Bool) → (elim rule [ AnyModRm ↦ x | _ ↦ false ]) ≡ true → (rule ≡ AnyModRm) × (x ≡ true)
any_rule AnyModRm x h = (refl, h)
any_rule _ x h = cc

whole : (row : Row) → gather_is_whole row ≡ true → reads_by is_gather row ≡ true → Whole row
unfolding gather_is_whole
whole row h gather =
    let mask = reads_by is_vvvv row && list_all names_vectors row.ops in
    let both_read = reads_by reads_reg row && mask in
    let rule : Bool = elim row.modrm [ AnyModRm ↦ both_read | _ ↦ false ] in
    let k = or_right (not (reads_by is_gather row)) (is_vex_row row && rule) (ap not gather) h in
    let any = any_rule row.modrm both_read (and_parts (is_vex_row row) rule k).1 in
    let masked = (and_parts (reads_by reads_reg row) mask any.1).1 in
    record {
      vex = (and_parts (is_vex_row row) rule k).0;
      rule = any.0;
      reg = (and_parts (reads_by reads_reg row) mask any.1).0;
      vvvv = (and_parts (reads_by is_vvvv row) (list_all names_vectors row.ops) masked).0;
      vectors = (and_parts (reads_by is_vvvv row) (list_all names_vectors row.ops) masked).1;
    }

-- ---- the registers of a gather are vector registers

vector_is : (l : LBit) (n : ℕ) → is_vector_register (vector l n) ≡ true
unfolding vector
vector_is L256 n = refl
vector_is _ n = refl

vector_file : (bits : Bits) (row : Row) (f : PrefixState) (file : File) (n : ℕ) → is_vector_file file ≡ true → is_vector_register (register_of bits row f file n) ≡ true
unfolding register_of
vector_file bits row f file.Xmm n h = refl
vector_file bits row f file.Vector n h = vector_is row.l n
vector_file bits row f _ n h = cc

names-at : (kinds : List OpKind) (n : ℕ) → n < length kinds → list_all names_vectors kinds ≡ true → names_vectors (slice_index_or kinds n Absent) ≡ true
names-at [] n below h = absurd (omega arith)
names-at (kind ∷ kinds) zero below h = (and_parts (names_vectors kind) (list_all names_vectors kinds) h).0
names-at (kind ∷ kinds) (suc n) below h = names-at kinds n (omega arith) (and_parts (names_vectors kind) (list_all names_vectors kinds) h).1

-- a register operand of a gather, read from reg, r/m or vvvv
vector-at : (bits : Bits) (ip : ℕ) (row : Row) (i : Instr) (n : ℕ) (r : Register) → Given bits ip row i → Whole row → n < 4 → operand_at i n ≡ Reg r
    → (reads_reg (method_of (kind_at row n)) || (reads_rm (method_of (kind_at row n)) || is_vvvv (method_of (kind_at row n)))) ≡ true → is_vector_register r ≡ true
vector-at bits ip row i n r g w below e reads =
    let four = four_kinds row g.is_sound in
    let file = vectors_named (kind_at row n) (names-at row.ops n (omega arith) w.vectors) reads in
    ap is_vector_register (register-at bits ip row i n r g below e)
    ∙ vector_file bits row (plain_front_of bits row i) (file_of (kind_at row n)) (naming_number (method_of (kind_at row n)) (kind_at row n) r) file

reg_passes : (how : Method) (r : Register) → reads_reg how ≡ true → is_vector_register r ≡ true → vector_in_reg how (Reg r) ≡ true
unfolding vector_in_reg
reg_passes method.ModRmReg r h k = k
reg_passes _ r h k = cc

vvvv_passes : (how : Method) (r : Register) → is_vvvv how ≡ true → is_vector_register r ≡ true → vector_in_vvvv how (Reg r) ≡ true
unfolding vector_in_vvvv
vvvv_passes method.Vvvv r h k = k
vvvv_passes _ r h k = cc

index_named_is : (row : Row) (file : File) (n : ℕ) → is_vector_register (index_named row file n) ≡ true
unfolding index_named
index_named_is row file.Xmm n = refl
index_named_is row _ n = vector_is row.l n

index_is : (bits : Bits) (row : Row) (file : File) (index : Option Register) → is_vector_index bits row file index ≡ true → (elim index [ None ↦ false | Some r ↦ is_vector_register r ]) ≡ true
unfolding is_vector_index
index_is bits row file None h = h
index_is bits row file (Some r) h =
    let named = index_named row file (register_number r) in
    ap is_vector_register (same_register-is r named (and_parts (same_register r named) (nat_lt (register_number r) (register_count bits)) h).0)
    ∙ index_named_is row file (register_number r)

index_passes : (bits : Bits) (row : Row) (how : Method) (file : File) (m : Mem) → is_gather how ≡ true → shape_suits bits row how file m ≡ true → vector_in_index how (MemOperand m) ≡ true
unfolding shape_suits is_gather_shape vector_in_index
index_passes bits row method.Gather file m h k =
    let b = is_gather_base bits m.base in
    let i = is_vector_index bits row file m.index in
    let s = is_scale m.scale in
    index_is bits row file m.index (and_parts i s (and_parts b (i && s) k).1).0
index_passes bits row _ file m h k = cc

-- some operand passes a test
abbrev some_passes : (Method → Operand → Bool) → Row → Instr → Bool
some_passes p row i = passes p row i 0 || (passes p row i 1 || (passes p row i 2 || passes p row i 3))

passes-at : (p : Method → Operand → Bool) (row : Row) (i : Instr) (n : ℕ) (op : Operand) → n < 4 → operand_at i n ≡ op → p (method_of (kind_at row n)) op ≡ true → some_passes p row i ≡ true
passes-at p row i n op below e h = among (passes p row i) n below (ap (p (method_of (kind_at row n))) e ∙ h)

vvvv_variant : (place : Place) (how : Method) (op : Operand) → is_vvvv how ≡ true → is_variant_of place how op ≡ true → is_register op ≡ true
unfolding is_variant_of
vvvv_variant place method.Vvvv op h k = k
vvvv_variant place _ op h k = cc

-- all three are vector registers
record AreVectors (row : Row) (i : Instr) : Type 0 where
  reg : some_passes vector_in_reg row i ≡ true
  index : some_passes vector_in_index row i ≡ true
  vvvv : some_passes vector_in_vvvv row i ≡ true

differ : (bits : Bits) (row : Row) (i : Instr) → each_operand (register_suits bits row i) ≡ true → reads_by is_gather row ≡ true → gather_numbers_differ row i ≡ true
unfolding register_suits
differ bits row i h gather =
    let first : Bool = elim (operand_at i 0) [ Reg r ↦ is_nameable bits row i 0 r | _ ↦ true ] in
    let k = (and_parts first (gather_suits row i 0) (each-at (register_suits bits row i) 0 (omega arith) h)).1 in
    or_right (not (reads_by is_gather row)) (gather_numbers_differ row i) (ap not gather) k

-- three numbers differ pairwise
abbrev differ_pairwise : ℕ → ℕ → ℕ → Bool
differ_pairwise a b c = not (a == b) && (not (a == c) && not (b == c))

all_differ : (a b c : Bool) (x y z : ℕ) → a ≡ true → b ≡ true → c ≡ true
    → (two_differ (if a then Some x else None) (if b then Some y else None)
    && (two_differ (if a then Some x else None) (if c then Some z else None) && two_differ (if b then Some y else None) (if c then Some z else None))) ≡ true
    → differ_pairwise x y z ≡ true
all_differ true true true x y z ea eb ec h = h
all_differ false b c x y z ea eb ec h = cc
all_differ true false c x y z ea eb ec h = cc
all_differ true true false x y z ea eb ec h = cc

vectors_differ : (row : Row) (i : Instr) → AreVectors row i → gather_numbers_differ row i ≡ true → differ_pairwise (number_asked_of number_in_reg row i) (number_asked_of number_in_index row i) (number_asked_of number_in_vvvv row i) ≡ true
unfolding gather_numbers_differ
vectors_differ row i v h =
    all_differ (some_passes vector_in_reg row i) (some_passes vector_in_index row i) (some_passes vector_in_vvvv row i)
    (number_asked_of number_in_reg row i) (number_asked_of number_in_index row i) (number_asked_of number_in_vvvv row i) v.reg v.index v.vvvv h

gather_by : (bits : Bits) (row : Row) (i : Instr) (asize : Bits) (m : Option ModRm) (sib : Option Sib)
    → state_address_size bits (plain_front_of bits row i) ≡ asize → has_modrm (λ m. needs_sib asize m) m ≡ true
    → reg_number (plain_front_of bits row i) m ≡ number_asked_of number_in_reg row i → index_number (plain_front_of bits row i) sib ≡ number_asked_of number_in_index row i
    → vvvv_number bits (plain_front_of bits row i) ≡ number_asked_of number_in_vvvv row i
    → differ_pairwise (number_asked_of number_in_reg row i) (number_asked_of number_in_index row i) (number_asked_of number_in_vvvv row i) ≡ true → gather_fits bits (plain_front_of bits row i) m sib ≡ true
unfolding gather_fits
gather_by bits row i asize m sib size needs reg index vvvv h =
    and_from (has_modrm (λ m. needs_sib (state_address_size bits (plain_front_of bits row i)) m) m) _
    (subst (λ (a : Bits). has_modrm (λ m. needs_sib a m) m ≡ true) (sym size) needs)
    (subst (λ (a : ℕ). differ_pairwise a (index_number (plain_front_of bits row i) sib) (vvvv_number bits (plain_front_of bits row i)) ≡ true) (sym reg)
    (subst (λ (b : ℕ). differ_pairwise (number_asked_of number_in_reg row i) b (vvvv_number bits (plain_front_of bits row i)) ≡ true) (sym index)
    (subst (λ (c : ℕ). differ_pairwise (number_asked_of number_in_reg row i) (number_asked_of number_in_index row i) c ≡ true) (sym vvvv) h)))

needs_four : (asize : Bits) (m : ModRm) → not (is_16 asize) ≡ true → m.mode3 < 3 → m.rm ≡ 4 → needs_sib asize m ≡ true
unfolding needs_sib
needs_four asize m a b c = and_from (not (is_16 asize)) _ a (and_from (nat_lt m.mode3 3) _ (lt-ltb m.mode3 3 b) (eq-eqb m.rm 4 c))

index_asked : (bits : Bits) (ip : ℕ) (row : Row) (i : Instr) (sib : Sib) → Given bits ip row i → sib.index ≡ number_asked_of number_in_index row i % 8 → index_number (plain_front_of bits row i) (Some sib) ≡ number_asked_of number_in_index row i
unfolding index_number asks_x
index_asked bits ip row i sib g e =
    ap (λ (b : Bool). with_high_bit b sib.index) (says bits ip row i g).x
    ∙ ap (λ (n : ℕ). with_high_bit (nat_le 8 (number_asked_of number_in_index row i)) n) e
    ∙ extended_back (number_asked_of number_in_index row i) (below_16 bits (number_asked_of number_in_index row i) (numbers_suit bits ip row i g).index)

gather_reads : (how : Method) → is_gather how ≡ true → reads_rm how ≡ true
gather_reads method.Gather h = refl
gather_reads _ h = cc

gather_shape : (bits : Bits) (row : Row) (how : Method) (file : File) (m : Mem) → is_gather how ≡ true → shape_suits bits row how file m ≡ true → is_gather_shape bits row file m ≡ true
unfolding shape_suits
gather_shape bits row method.Gather file m h k = k
gather_shape bits row _ file m h k = cc

shape-at : (bits : Bits) (row : Row) (i : Instr) (n : ℕ) (m : Mem) → each_operand (address_suits bits row i) ≡ true → n < 4 → operand_at i n ≡ MemOperand m → shape_suits bits row (method_of (kind_at row n)) (file_of (kind_at row n)) m ≡ true
unfolding address_suits
shape-at bits row i n m h below e =
    subst (λ (op : Operand). (elim op [ MemOperand m ↦ shape_suits bits row (method_of (kind_at row n)) (file_of (kind_at row n)) m | _ ↦ true ]) ≡ true) e (each-at (address_suits bits row i) n below h)

-- the operand of a gather, with its address size
record GatherOperand (bits : Bits) (row : Row) (i : Instr) : Type 0 where
  m : Mem
  asize : Bits
  size_is : state_address_size bits (plain_front_of bits row i) ≡ asize
  word : not (is_16 asize) ≡ true
  rm : MemoryInRm bits row i m
  fields : GatherFields m (address_fields bits (written_size bits i.asize m) m)
  index : number_asked_of number_in_index row i ≡ number_or_zero m.index
  vector : some_passes vector_in_index row i ≡ true

gather_operand-at : (bits : Bits) (ip : ℕ) (row : Row) (i : Instr) (n : ℕ) → Given bits ip row i → reads_by is_gather row ≡ true → n < 4 → is_gather (method_of (kind_at row n)) ≡ true → GatherOperand bits row i
gather_operand-at bits ip row i n g gather below how =
    let reads = gather_reads (method_of (kind_at row n)) how in
    let memory = gather_variant row.place (method_of (kind_at row n)) (operand_at i n) how (variant-at row i n g.suits.kinds below) in
    let m = memory_variant (operand_at i n) memory in
    let size = size_of_memory bits row i n g.suits.address_size below memory in
    let word = not_word bits row i size.size size.suits gather in
    let shape = shape-at bits row i n m.0 g.suits.addresses below m.1 in
    record {
      m = m.0;
      asize = size.size;
      size_is = (says bits ip row i g).address size.size size.given word.0;
      word = word.1;
      rm = memory_in_rm bits row i n m.0 g.is_sound g.is_writable.rule g.four g.suits.kinds below reads m.1;
      fields = gather_fields bits row (file_of (kind_at row n)) (written_size bits i.asize m.0) m.0
          (gather_shape bits row (method_of (kind_at row n)) (file_of (kind_at row n)) m.0 how shape);
      index = asked_index-at row i n g.is_sound g.four below (index_in_rm bits row i g.suits.kinds g.suits.addresses) reads ∙ ap operand_index_number m.1;
      vector = passes-at vector_in_index row i n (MemOperand m.0) below m.1 (index_passes bits row (method_of (kind_at row n)) (file_of (kind_at row n)) m.0 how shape);
    }

-- the destination
reg_vector : (bits : Bits) (ip : ℕ) (row : Row) (i : Instr) → Given bits ip row i → Whole row → some_passes vector_in_reg row i ≡ true
reg_vector bits ip row i g w =
    let k = kind_that_passes (λ kind. reads_reg (method_of kind)) row.ops Absent w.reg in
    let four = four_kinds row g.is_sound in
    let below : k.0 < 4 = omega arith in
    let how = method_of (kind_at row k.0) in
    let r = register_in_reg row i k.0 g.suits.kinds below k.2 in
    passes-at vector_in_reg row i k.0 (Reg r.0) below r.1 (reg_passes how r.0 k.2 (vector-at bits ip row i k.0 r.0 g w below r.1 (or_left (reads_reg how) _ k.2)))

-- the mask
vvvv_vector : (bits : Bits) (ip : ℕ) (row : Row) (i : Instr) → Given bits ip row i → Whole row → some_passes vector_in_vvvv row i ≡ true
vvvv_vector bits ip row i g w =
    let k = kind_that_passes (λ kind. is_vvvv (method_of kind)) row.ops Absent w.vvvv in
    let four = four_kinds row g.is_sound in
    let below : k.0 < 4 = omega arith in
    let how = method_of (kind_at row k.0) in
    let r = register_variant (operand_at i k.0) (vvvv_variant row.place how (operand_at i k.0) k.2 (variant-at row i k.0 g.suits.kinds below)) in
    passes-at vector_in_vvvv row i k.0 (Reg r.0) below r.1
    (vvvv_passes how r.0 k.2 (vector-at bits ip row i k.0 r.0 g w below r.1 (or_true (reads_reg how) _ (or_true (reads_rm how) _ k.2))))

gather_needs : (bits : Bits) (row : Row) (i : Instr) (o : GatherOperand bits row i) → has_modrm (λ m. needs_sib o.asize m) (plain_modrm bits row i) ≡ true
gather_needs bits row i o =
    let m = modrm_with o.rm.reg (address_fields bits (written_size bits i.asize o.m) o.m) in
    ap (has_modrm (λ m. needs_sib o.asize m)) o.rm.modrm ∙ needs_four o.asize m o.word o.fields.mode o.fields.rm

gather_index : (bits : Bits) (ip : ℕ) (row : Row) (i : Instr) → Given bits ip row i → (o : GatherOperand bits row i) → index_number (plain_front_of bits row i) (plain_sib_of bits row i) ≡ number_asked_of number_in_index row i
gather_index bits ip row i g o =
    ap (λ (x : Option Sib). index_number (plain_front_of bits row i) x) (o.rm.sib ∙ o.fields.has_sib)
    ∙ index_asked bits ip row i o.fields.sib g (o.fields.index ∙ ap (λ (x : ℕ). x % 8) (sym o.index))

-- **a gather has its SIB, and its numbers differ**
gathers_fit : (bits : Bits) (ip : ℕ) (row : Row) (i : Instr) → Given bits ip row i → reads_by is_gather row ≡ true → gather_fits bits (plain_front_of bits row i) (plain_modrm bits row i) (plain_sib_of bits row i) ≡ true
gathers_fit bits ip row i g gather =
    let k = kind_that_passes (λ kind. is_gather (method_of kind)) row.ops Absent gather in
    let four = four_kinds row g.is_sound in
    go (gather_operand-at bits ip row i k.0 g gather (omega arith) k.2)
  where
    go : GatherOperand bits row i → gather_fits bits (plain_front_of bits row i) (plain_modrm bits row i) (plain_sib_of bits row i) ≡ true
    go o =
        let w = whole row g.is_writable.gather gather in
        gather_by bits row i o.asize (plain_modrm bits row i) (plain_sib_of bits row i) o.size_is (gather_needs bits row i o)
        (reg_number_asked bits ip row i g w.rule) (gather_index bits ip row i g o) ((says bits ip row i g).vvvv w.vex)
        (vectors_differ row i (record { reg = reg_vector bits ip row i g w; index = o.vector; vvvv = vvvv_vector bits ip row i g w }) (differ bits row i g.suits.registers gather))

-- ---- the byte 90

-- a row that adds a register adds the low three bits of the number that is asked of the opcode byte
pub opcode_added : (row : Row) (i : Instr) → adds_register row.plus ≡ true → asked_opcode row i ≡ row.opcode + number_asked_of number_in_opcode row i % 8
unfolding asked_opcode
opcode_added row i h = by_plus row.plus (row.opcode + number_asked_of number_in_opcode row i % 8) row.opcode h
  where
    by_plus : (plus : Plus) (x y : ℕ) → adds_register plus ≡ true → (elim plus [ PlusRegister ↦ x | _ ↦ y ]) ≡ x
    by_plus PlusRegister x y h = refl
    by_plus _ x y h = cc

opcode_alone : (row : Row) (i : Instr) → adds_register row.plus ≡ false → asked_opcode row i ≡ row.opcode
unfolding asked_opcode
opcode_alone row i h = by_plus row.plus (row.opcode + number_asked_of number_in_opcode row i % 8) row.opcode h
  where
    by_plus : (plus : Plus) (x y : ℕ) → adds_register plus ≡ false → (elim plus [ PlusRegister ↦ x | _ ↦ y ]) ≡ y
    by_plus PlusRegister x y h = cc
    by_plus _ x y h = refl

by_class : (class : Class) (b : Bool) → b ≡ false → (elim class [ ClassF3 ↦ true | _ ↦ not b ]) ≡ true
by_class ClassF3 b e = refl
by_class _ b e = ap not e

nop_by : (plus : Plus) (class : Class) (b f3 : Bool) → (adds_register plus ≡ true → (b ≡ true) × (f3 ≡ false)) → (adds_register plus ≡ false → b ≡ false)
    → (elim plus [ PlusRegister ↦ b && not f3 | _ ↦ elim class [ ClassF3 ↦ true | _ ↦ not b ] ]) ≡ true
nop_by PlusRegister class b f3 h k = let e = h refl in rw (e.0) (ap not e.1)
nop_by NoPlus class b f3 h k = by_class class b (k refl)
nop_by PlusStack class b f3 h k = by_class class b (k refl)

-- what the row of a byte 90 says
nop_row : (row : Row) → nop_is_bare row ≡ true → is_nop_byte row row.opcode ≡ true → (elim row.plus [
  | PlusRegister ↦ (elim row.class [ ClassF3 ↦ false | _ ↦ true ])
  | _ ↦ not (reads_by reads_rm row) && not (reads_by reads_opcode row)
]) ≡ true
unfolding nop_is_bare
nop_row row h nop = or_right (not (is_nop_byte row row.opcode)) (elim row.plus [
  | PlusRegister ↦ (elim row.class [ ClassF3 ↦ false | _ ↦ true ])
  | _ ↦ not (reads_by reads_rm row) && not (reads_by reads_opcode row)
]) (ap not nop) h

nop_row_added : (plus : Plus) (class rest : Bool) → (elim plus [ PlusRegister ↦ class | _ ↦ rest ]) ≡ true → adds_register plus ≡ true → class ≡ true
nop_row_added PlusRegister class rest h e = h
nop_row_added _ class rest h e = cc

nop_row_alone : (plus : Plus) (class rest : Bool) → (elim plus [ PlusRegister ↦ class | _ ↦ rest ]) ≡ true → adds_register plus ≡ false → rest ≡ true
nop_row_alone PlusRegister class rest h e = cc
nop_row_alone _ class rest h e = h

repeat_by : (class : Class) (rep : Rep) (exchange : Bool) → (elim class [ AnyClass ↦ not (is_repeat_f3 rep && exchange) | Nf3 ↦ not (is_repeat_f3 rep) | _ ↦ is_no_repeat rep ]) ≡ true → exchange ≡ true → (elim class [ ClassF3 ↦ false | _ ↦ true ]) ≡ true
    → is_repeat_f3 (elim class [ ClassF2 ↦ RepF2 | ClassF3 ↦ RepF3 | _ ↦ rep ]) ≡ false
repeat_by AnyClass rep exchange h e k = let n : not (is_repeat_f3 rep && true) ≡ true = rw e at h in with_true (is_repeat_f3 rep) n
  where
    with_true : (a : Bool) → not (a && true) ≡ true → a ≡ false
    with_true true h = cc
    with_true false h = refl
repeat_by Nf3 rep exchange h e k = not-true (is_repeat_f3 rep) h
repeat_by ClassF3 rep exchange h e k = cc
repeat_by ClassF2 rep exchange h e k = refl
repeat_by _ rep exchange h e k = no_repeat rep h
  where
    no_repeat : (rep : Rep) → is_no_repeat rep ≡ true → is_repeat_f3 rep ≡ false
    no_repeat NoRep h = refl
    no_repeat _ h = cc

-- where the byte is 90, it is 90 without what is added, since that is a multiple of 8
nop_byte_from : (vex one : Bool) (opcode base low : ℕ) → base % 8 ≡ 0 → opcode ≡ base + low % 8 → (not vex && (one && opcode == 0x90)) ≡ true → ((not vex && (one && base == 0x90)) ≡ true) × (low % 8 ≡ 0)
nop_byte_from vex one opcode base low multiple sum h =
    let rest = (and_parts (not vex) (one && opcode == 0x90) h).1 in
    let number : opcode ≡ 0x90 = eqb-true opcode 0x90 (and_parts one (opcode == 0x90) rest).1 in
    (and_from (not vex) _ (and_parts (not vex) (one && opcode == 0x90) h).0 (and_from one _ (and_parts one (opcode == 0x90) rest).0 (eq-eqb base 0x90 (omega arith))), omega arith)

large_number : (x : ℕ) → x % 8 ≡ 0 → (x == 0) ≡ false → nat_le 8 x ≡ true
large_number x h k = elim (cases_Bool (nat_le 8 x)) [
  | inl large ↦ large
  | inr small ↦ (let b : x < 8 = grind (arith, small) in let z = eq-eqb x 0 (omega arith) in cc)
]

not_nop_of : (row : Row) (how : Method) (r : Register) → reads_opcode how ≡ true → is_not_nop row how r ≡ true → not (is_nop_byte row row.opcode && register_number r == 0) ≡ true
unfolding is_not_nop
not_nop_of row method.OpcodeLow r h k = k
not_nop_of row _ r h k = cc

and_false_right : (a b : Bool) → a ≡ true → not (a && b) ≡ true → b ≡ false
and_false_right true b e h = not-true b h
and_false_right false b e h = cc

-- a kind that is read in the opcode byte uses B
pub reads_b_right : (how : Method) → reads_opcode how ≡ true → reads_b how ≡ true
reads_b_right method.OpcodeLow h = refl
reads_b_right _ h = cc

repeat_of_front : (bits : Bits) (row : Row) (i : Instr) → is_vex_row row ≡ false → (plain_front_of bits row i).rep ≡ (elim row.class [ ClassF2 ↦ RepF2 | ClassF3 ↦ RepF3 | _ ↦ i.rep ])
unfolding plain_front_of asked_repeat
repeat_of_front bits row i legacy = rw legacy refl

-- the opcode byte of the plain front is the one that is asked for
pub opcode_of_front : (bits : Bits) (row : Row) (i : Instr) → (plain_front_of bits row i).opcode ≡ asked_opcode row i
unfolding plain_front_of
opcode_of_front bits row i = refl

repeat_part : (row : Row) (i : Instr) → prefixes_suit row i ≡ true → (elim row.class [ AnyClass ↦ not (is_repeat_f3 i.rep && is_exchange_of_90 row i) | Nf3 ↦ not (is_repeat_f3 i.rep) | _ ↦ is_no_repeat i.rep ]) ≡ true
unfolding prefixes_suit repeat_suits
repeat_part row i h = (and_parts (lock_suits row i) (elim row.class [ AnyClass ↦ not (is_repeat_f3 i.rep && is_exchange_of_90 row i) | Nf3 ↦ not (is_repeat_f3 i.rep) | _ ↦ is_no_repeat i.rep ]) h).1

exchange_is : (plus : Plus) (nop : Bool) → adds_register plus ≡ true → nop ≡ true → ((elim plus [ PlusRegister ↦ true | _ ↦ false ]) && nop) ≡ true
exchange_is PlusRegister nop e h = h
exchange_is _ nop e h = cc

opcode_register : (row : Row) (i : Instr) (n : ℕ) → each_operand (kind_suits row i) ≡ true → n < 4 → reads_opcode (method_of (kind_at row n)) ≡ true → (r : Register) × (operand_at i n ≡ Reg r)
opcode_register row i n kinds below reads =
    register_variant (operand_at i n) (opcode_variant row.place (method_of (kind_at row n)) (operand_at i n) reads (variant-at row i n kinds below))

-- XCHG of 90 has B 1 and no F3
exchange_fits : (bits : Bits) (ip : ℕ) (row : Row) (i : Instr) → Given bits ip row i → is_nop_byte row (asked_opcode row i) ≡ true → adds_register row.plus ≡ true → (bit_b bits (plain_front_of bits row i) ≡ true) × (is_repeat_f3 (plain_front_of bits row i).rep ≡ false)
unfolding asks_b
exchange_fits bits ip row i g nop adds =
    let s = g.is_sound in
    let p = plus_register row s adds in
    let k = kind_that_passes (λ kind. reads_opcode (method_of kind)) row.ops Absent ((proper row s).opcode ∙ adds) in
    let four = four_kinds row s in
    let n = k.0 in
    let below : n < 4 = omega arith in
    let r = opcode_register row i n g.suits.kinds below k.2 in
    let opcode : number_asked_of number_in_opcode row i ≡ register_number r.0 = asked_opcode-at row i n s g.four below k.2 ∙ ap operand_number r.1 in
    let rm : number_asked_of number_in_rm row i ≡ register_number r.0 = asked_rm-at row i n s g.four below (reads_b_right (method_of (kind_at row n)) k.2) ∙ ap base_or_register_number r.1 in
    let byte = nop_byte_from (is_vex_row row) (is_map_one row.map) (asked_opcode row i) row.opcode (number_asked_of number_in_opcode row i) p.2 (opcode_added row i adds) nop in
    let named = not_nop_of row (method_of (kind_at row n)) r.0 k.2 (nameable-at bits row i n r.0 g.suits.registers below r.1).nop in
    let other = and_false_right (is_nop_byte row row.opcode) (register_number r.0 == 0) byte.0 named in
    let large = large_number (register_number r.0) (ap (λ (x : ℕ). x % 8) (sym opcode) ∙ byte.1) other in
    let class = nop_row_added row.plus (elim row.class [ ClassF3 ↦ false | _ ↦ true ]) (not (reads_by reads_rm row) && not (reads_by reads_opcode row)) (nop_row row g.is_writable.nop byte.0) adds in (
      (says bits ip row i g).b ∙ ap (λ (x : ℕ). nat_le 8 x) rm ∙ large,
      ap is_repeat_f3 (repeat_of_front bits row i p.0) ∙ repeat_by row.class i.rep (is_exchange_of_90 row i) (repeat_part row i g.suits.prefixes) (exchange_is row.plus (is_nop_byte row (asked_opcode row i)) adds nop) class,
    )

-- NOP has B 0
nop_alone_fits : (bits : Bits) (ip : ℕ) (row : Row) (i : Instr) → Given bits ip row i → is_nop_byte row (asked_opcode row i) ≡ true → adds_register row.plus ≡ false → bit_b bits (plain_front_of bits row i) ≡ false
unfolding asks_b
nop_alone_fits bits ip row i g nop adds =
    let rm = reads_by reads_rm row in
    let opcode = reads_by reads_opcode row in
    let bare = nop_row_alone row.plus (elim row.class [ ClassF3 ↦ false | _ ↦ true ]) (not rm && not opcode)
    (nop_row row g.is_writable.nop (ap (λ (x : ℕ). is_nop_byte row x) (sym (opcode_alone row i adds)) ∙ nop)) adds in
    let none = asked_rm-none row i (not-true rm (and_parts (not rm) (not opcode) bare).0) (not-true opcode (and_parts (not rm) (not opcode) bare).1) in
    (says bits ip row i g).b ∙ ap (λ (x : ℕ). nat_le 8 x) none

-- **the byte 90 has the B that NOP, XCHG and PAUSE ask for**
nops_fit : (bits : Bits) (ip : ℕ) (row : Row) (i : Instr) → Given bits ip row i → is_nop_byte row (plain_front_of bits row i).opcode ≡ true → nop_fits bits row (plain_front_of bits row i) ≡ true
unfolding nop_fits
nops_fit bits ip row i g nop =
    let byte = ap (λ (x : ℕ). is_nop_byte row x) (sym (opcode_of_front bits row i)) ∙ nop in
    nop_by row.plus row.class (bit_b bits (plain_front_of bits row i)) (is_repeat_f3 (plain_front_of bits row i).rep)
    (exchange_fits bits ip row i g byte) (nop_alone_fits bits ip row i g byte)

-- ---- all of it

unless : (a b : Bool) → (a ≡ true → b ≡ true) → (not a || b) ≡ true
unless true b h = h refl
unless false b h = refl

-- **the registers of the plain spelling fit**
pub registers_are_fit : (bits : Bits) (ip : ℕ) (row : Row) (i : Instr) → Given bits ip row i → registers_fit bits row (plain_front_of bits row i) (plain_modrm bits row i) (plain_sib_of bits row i) ≡ true
unfolding registers_fit
registers_are_fit bits ip row i g =
    let f = plain_front_of bits row i in
    let m = plain_modrm bits row i in
    and_from (list_all (register_fits bits f m) row.ops) _ (each_register_fits bits ip row i g)
    (and_from (destination_fits row m) _ (destination bits ip row i g)
    (and_from (not (reads_by is_gather row) || gather_fits bits f m (plain_sib_of bits row i)) _
    (unless (reads_by is_gather row) (gather_fits bits f m (plain_sib_of bits row i)) (gathers_fit bits ip row i g))
    (unless (is_nop_byte row f.opcode) (nop_fits bits row f) (nops_fit bits ip row i g))))
