-- What the plain spelling says where an operand is a register, memory or absent.
use Rattle.std.proofs.Common.{◌≡◌, inl, inr, ℕ, ◌+◌, ◌*◌, ◌%◌, ◌<◌, Bool, true, false, ◌&&◌, ◌||◌, not, nat_le, nat_lt, List, [], ◌∷◌, length, refl, ap, sym, ◌∙◌, subst, arith, if◌then◌else◌, Option}
use Rattle.std.proofs.lemmas.Bool.{lt-ltb, and_parts, cases_Bool, not-true}
use Rattle.std.specs.Prelude.{slice_index_or}
use Rattle.std.specs.List.{list_any, list_all}
use Rattle.x86_values.specs.declared.Bits.{Bits}
use Rattle.x86_values.specs.declared.Register.{Register}
use Rattle.x86_values.specs.declared.Operand.{Operand}
use Rattle.x86_values.specs.declared.Operand.TheVariants.{Absent as AbsentOperand, Reg, Mem as MemOperand, Imm, Near, Far}
use Rattle.x86_values.specs.declared.Instr.{Instr}
use Rattle.instruction_parts.specs.declared.row_types.Row.{Row}
use Rattle.instruction_parts.specs.declared.row_types.Place.{Place}
use Rattle.instruction_parts.specs.declared.row_types.Place.TheVariants.{Any as AnyPlace, Memory as OnlyMemory, Register as OnlyRegister}
use Rattle.instruction_parts.specs.declared.row_types.OpKind.{OpKind}
use Rattle.instruction_parts.specs.declared.row_types.OpKind.TheVariants.{Absent}
use Rattle.instruction_parts.specs.declared.kinds.Method.{Method}
use Rattle.instruction_parts.specs.declared.kinds.Method.TheVariants as method
use Rattle.instruction_parts.specs.declared.spelling.ModRm.{ModRm}
use Rattle.instruction_parts.specs.declared.spelling.PrefixState.{PrefixState}
use Rattle.instruction_parts.specs.Kinds.{method_of, file_of}
use Rattle.instruction_parts.specs.Counting.{is_64}
use Rattle.instruction_parts.specs.Sizes.{is_vex_row, is_lockable, bit_b}
use Rattle.row_fit.specs.Fits.{kind_at, reads_by, has_modrm, with_high_bit, reg_number, rm_number, vvvv_number, is_memory_method, lock_fits, immediate_bytes, is_vvvv}
use Rattle.row_fit.specs.Sound.{Sound, reads_reg, reads_rm, reads_opcode, reads_last_byte, kind_is_proper, vex_is_proper, legacy_is_proper, is_no_w, is_no_l, opcode_is_proper, opcodes_of}
use Rattle.row_meaning.specs.Meaning.{Tail, register_of, operand_by, last_byte_number, has_memory}
use Rattle.x86_values.specs.Operands.{is_absent, is_memory}
use Rattle.plain_spelling.specs.Forms.{operand_at, is_variant_of, is_allowed_in, is_register, is_immediate, is_near_kind, is_far}
use Rattle.plain_spelling.specs.PlainFront.{register_number, operand_number, base_or_register_number, number_in_rm, number_in_opcode, number_asked_of, asks_b, plain_front_of}
use Rattle.plain_spelling.specs.Addresses.{register_count, written_size, address_fields}
use Rattle.plain_spelling.specs.PlainTail.{plain_size, plain_modrm, operand_immediate, immediate_at}
use Rattle.plain_spelling.specs.Expressible.{each_operand, kind_suits, naming_number, has_memory_operand, lock_suits, repeat_suits, prefixes_suit}
use Rattle.plain_spelling.proofs.Asked.{adds_register, proper, plus_register, four_kinds, asked_rm-at, asked_vvvv-at, asked_opcode-at}
use Rattle.row_relation.specs.Given.{Given}
use Rattle.row_relation.proofs.FitNumbers.{nameable-at}
use Rattle.row_relation.proofs.FitFrontBits.{asked-small}
use Rattle.row_relation.proofs.FitPlaces.{or_true, reads-at, address_small, register_in_rm, memory_in_rm}
use Rattle.row_relation.proofs.FitRegisters.{says, extended_back, below_16, reg_number-at, rm_number-at, register-at, variant-at, reads_b_right, opcode_added, opcode_of_front}

-- ---- which operands are memory

abbrev is_either : Method → Bool
is_either method.RegisterOrMemory = true
is_either _ = false

absent_apart : (op : Operand) → is_absent op ≡ true → false ≡ is_memory op
absent_apart AbsentOperand h = refl
absent_apart _ h = cc

register_apart : (op : Operand) → is_register op ≡ true → false ≡ is_memory op
register_apart (Reg r) h = refl
register_apart _ h = cc

immediate_apart : (op : Operand) → is_immediate op ≡ true → false ≡ is_memory op
immediate_apart (Imm x) h = refl
immediate_apart _ h = cc

near_apart : (op : Operand) → is_near_kind op ≡ true → false ≡ is_memory op
near_apart (Near x) h = refl
near_apart _ h = cc

far_apart : (op : Operand) → is_far op ≡ true → false ≡ is_memory op
far_apart (Far x y) h = refl
far_apart _ h = cc

memory_by : (place : Place) (how : Method) (op : Operand) (m : Option ModRm) → is_variant_of place how op ≡ true → (is_either how ≡ true → has_modrm (λ m. nat_lt m.mode3 3) m ≡ is_memory op) → is_memory_method how m ≡ is_memory op
unfolding is_variant_of is_memory_method
memory_by place method.RegisterOrMemory op m h k = k refl
memory_by place method.Nothing op m h k = absent_apart op h
memory_by place method.MemoryOnly op m h k = sym h
memory_by place method.Gather op m h k = sym h
memory_by place method.Offset op m h k = sym h
memory_by place method.AsWritten op m h k = immediate_apart op h
memory_by place method.Extended op m h k = immediate_apart op h
memory_by place method.One op m h k = immediate_apart op h
memory_by place method.Near op m h k = near_apart op h
memory_by place method.Pointer op m h k = far_apart op h
memory_by place _ op m h k = register_apart op h

either_reads : (how : Method) → is_either how ≡ true → reads_rm how ≡ true
either_reads method.RegisterOrMemory h = refl
either_reads _ h = cc

-- register or memory, whatever the limit
allowed_is : (place : Place) (op : Operand) → is_allowed_in place op ≡ true → (is_register op || is_memory op) ≡ true
unfolding is_allowed_in
allowed_is AnyPlace op h = h
allowed_is OnlyMemory op h = or_true (is_register op) (is_memory op) h
allowed_is OnlyRegister op h = rw h refl

either_variant : (place : Place) (how : Method) (op : Operand) → is_either how ≡ true → is_variant_of place how op ≡ true → (is_register op || is_memory op) ≡ true
unfolding is_variant_of
either_variant place method.RegisterOrMemory op h k = allowed_is place op k
either_variant place _ op h k = cc

mode_by_memory : (bits : Bits) (ip : ℕ) (row : Row) (i : Instr) (n : ℕ) → Given bits ip row i → n < 4 → is_either (method_of (kind_at row n)) ≡ true → has_modrm (λ m. nat_lt m.mode3 3) (plain_modrm bits row i) ≡ is_memory (operand_at i n)
mode_by_memory bits ip row i n g below some = go (operand_at i n) refl (either_variant row.place how (operand_at i n) some (variant-at row i n g.suits.kinds below))
  where
    how : Method
    how = method_of (kind_at row n)

    reads : reads_rm (method_of (kind_at row n)) ≡ true
    reads = either_reads (method_of (kind_at row n)) some

    go : (op : Operand) → operand_at i n ≡ op → (is_register op || is_memory op) ≡ true → has_modrm (λ m. nat_lt m.mode3 3) (plain_modrm bits row i) ≡ is_memory op
    go (Reg r) e h =
        let k = register_in_rm bits row i n r g.is_sound g.is_writable.rule g.four below reads e in
        ap (has_modrm (λ m. nat_lt m.mode3 3)) k.is_plain ∙ ap (λ (x : ℕ). nat_lt x 3) k.mode
    go (MemOperand a) e h =
        let k = memory_in_rm bits row i n a g.is_sound g.is_writable.rule g.four g.suits.kinds below reads e in
        let small = (address_small bits (written_size bits i.asize a) a).mode in
        ap (has_modrm (λ m. nat_lt m.mode3 3)) k.modrm ∙ lt-ltb (address_fields bits (written_size bits i.asize a) a).mode3 3 small
    go _ e h = cc

-- **an operand is read as memory exactly where it is memory**
pub memory_agrees : (bits : Bits) (ip : ℕ) (row : Row) (i : Instr) (n : ℕ) → Given bits ip row i → n < 4 → is_memory_method (method_of (kind_at row n)) (plain_modrm bits row i) ≡ is_memory (operand_at i n)
memory_agrees bits ip row i n g below =
    memory_by row.place (method_of (kind_at row n)) (operand_at i n) (plain_modrm bits row i) (variant-at row i n g.suits.kinds below) (mode_by_memory bits ip row i n g below)

any-four : (p : OpKind → Bool) (kinds : List OpKind) (d : OpKind) → length kinds ≡ 4 → list_any p kinds ≡ (p (slice_index_or kinds 0 d) || (p (slice_index_or kinds 1 d) || (p (slice_index_or kinds 2 d) || p (slice_index_or kinds 3 d))))
any-four p [] d h = absurd (omega arith)
any-four p (w ∷ []) d h = absurd (omega arith)
any-four p (w ∷ x ∷ []) d h = absurd (omega arith)
any-four p (w ∷ x ∷ y ∷ []) d h = absurd (omega arith)
any-four p (w ∷ x ∷ y ∷ z ∷ []) d h = ap (λ (b : Bool). p w || (p x || (p y || b))) (or_false (p z))
  where
    or_false : (b : Bool) → (b || false) ≡ b
    or_false true = refl
    or_false false = refl
any-four p (w ∷ x ∷ y ∷ z ∷ v ∷ rest) d h = absurd (omega arith)

or_four : (a b c d w x y z : Bool) → a ≡ w → b ≡ x → c ≡ y → d ≡ z → (a || (b || (c || d))) ≡ (w || (x || (y || z)))
or_four a b c d w x y z ha hb hc hd = rw (ha, hb, hc, hd) refl

-- **the plain spelling has memory exactly where the instruction has**
pub has_memory_is : (bits : Bits) (ip : ℕ) (row : Row) (i : Instr) → Given bits ip row i → has_memory row (plain_modrm bits row i) ≡ has_memory_operand i
unfolding has_memory has_memory_operand
has_memory_is bits ip row i g =
    any-four (λ kind. is_memory_method (method_of kind) (plain_modrm bits row i)) row.ops Absent (four_kinds row g.is_sound)
    ∙ or_four _ _ _ _ (is_memory (operand_at i 0)) (is_memory (operand_at i 1)) (is_memory (operand_at i 2)) (is_memory (operand_at i 3))
    (memory_agrees bits ip row i 0 g (omega arith)) (memory_agrees bits ip row i 1 g (omega arith)) (memory_agrees bits ip row i 2 g (omega arith)) (memory_agrees bits ip row i 3 g (omega arith))

lock_part : (row : Row) (i : Instr) → prefixes_suit row i ≡ true → (not i.lock || (is_lockable row && is_memory (operand_at i 0))) ≡ true
unfolding prefixes_suit lock_suits
lock_part row i h = (and_parts (not i.lock || (is_lockable row && is_memory (operand_at i 0))) (repeat_suits row i) h).0

-- **LOCK stands on a lockable row with memory first**
pub locks_fit : (bits : Bits) (ip : ℕ) (row : Row) (i : Instr) → Given bits ip row i → lock_fits row (plain_front_of bits row i) (plain_modrm bits row i) ≡ true
unfolding lock_fits plain_front_of
locks_fit bits ip row i g =
    subst (λ (b : Bool). (not i.lock || (is_lockable row && b)) ≡ true) (sym (memory_agrees bits ip row i 0 g (omega arith))) (lock_part row i g.suits.prefixes)

-- ---- registers read back

-- vvvv and the last byte name registers on VEX rows alone
vex_of_vvvv : (row : Row) → Sound row → reads_by is_vvvv row ≡ true → is_vex_row row ≡ true
unfolding kind_is_proper legacy_is_proper
vex_of_vvvv row s h = elim (cases_Bool (is_vex_row row)) [
  | inl vex ↦ vex
  | inr legacy ↦
      let opcodes = list_all (opcode_is_proper row.map) (opcodes_of row) in
      let vvvv = not (reads_by is_vvvv row) in
      let last = not (reads_by reads_last_byte row) in
      let l = if_false (is_vex_row row) (vex_is_proper row) (legacy_is_proper row) legacy s.kind in
      let k = (and_parts vvvv last (and_parts opcodes (vvvv && last) (and_parts (is_no_l row.l) (opcodes && (vvvv && last)) (and_parts (is_no_w row.w) (is_no_l row.l && (opcodes && (vvvv && last))) l).1).1).1).0 in
      let e = not-true (reads_by is_vvvv row) k in
      cc
]
  where
    if_false : (t a b : Bool) → t ≡ false → (if t then a else b) ≡ true → b ≡ true
    if_false true a b n h = cc
    if_false false a b n h = h

-- the register that the opcode byte names
opcode_number : (bits : Bits) (ip : ℕ) (row : Row) (i : Instr) (n : ℕ) (r : Register) → Given bits ip row i → n < 4 → reads_opcode (method_of (kind_at row n)) ≡ true → operand_at i n ≡ Reg r → with_high_bit (bit_b bits (plain_front_of bits row i)) ((plain_front_of bits row i).opcode % 8) ≡ register_number r
unfolding asks_b
opcode_number bits ip row i n r g below reads e =
    let s = g.is_sound in
    let adds : adds_register row.plus ≡ true = sym (proper row s).opcode ∙ reads-at reads_opcode row n s below reads in
    let multiple = (plus_register row s adds).2 in
    let opcode : number_asked_of number_in_opcode row i ≡ register_number r = asked_opcode-at row i n s g.four below reads ∙ ap operand_number e in
    let rm : number_asked_of number_in_rm row i ≡ register_number r = asked_rm-at row i n s g.four below (reads_b_right (method_of (kind_at row n)) reads) ∙ ap base_or_register_number e in
    let small = below_16 bits (register_number r) (nameable-at bits row i n r g.suits.registers below e).number in
    let byte : (plain_front_of bits row i).opcode ≡ row.opcode + number_asked_of number_in_opcode row i % 8 = opcode_of_front bits row i ∙ opcode_added row i adds in
    let low : (plain_front_of bits row i).opcode % 8 ≡ register_number r % 8 = ap (λ (x : ℕ). x % 8) byte ∙ low_of row.opcode (number_asked_of number_in_opcode row i) multiple ∙ ap (λ (x : ℕ). x % 8) opcode in
    ap (λ (b : Bool). with_high_bit b ((plain_front_of bits row i).opcode % 8)) ((says bits ip row i g).b ∙ ap (λ (x : ℕ). nat_le 8 x) rm)
    ∙ ap (λ (x : ℕ). with_high_bit (nat_le 8 (register_number r)) x) low ∙ extended_back (register_number r) small
  where
    low_of : (base x : ℕ) → base % 8 ≡ 0 → (base + x % 8) % 8 ≡ x % 8
    low_of base x h = omega arith

-- the register that the upper half of the last byte names
last_number : (bits : Bits) (x : ℕ) (imm : List ℕ) → x < register_count bits → imm ≡ x * 16 ∷ [] → last_byte_number bits imm ≡ x
unfolding last_byte_number
last_number bits x imm h e = elim (cases_Bool (is_64 bits)) [
  | inl long ↦ rw (e, long) (omega arith)
  | inr short ↦ (let small = asked-small bits x short h in rw (e, short) (omega arith))
]

last_bytes : (size : Bits) (row : Row) (i : Instr) (next n : ℕ) (r : Register) → method_of (kind_at row n) ≡ method.LastByte → operand_at i n ≡ Reg r → immediate_at size row i next n ≡ register_number r * 16 ∷ []
unfolding immediate_at operand_immediate
last_bytes size row i next n r how e =
    ap (λ (x : Method). operand_immediate size next x (immediate_bytes size (kind_at row n)) (operand_at i n)) how
    ∙ ap (λ (op : Operand). operand_immediate size next method.LastByte (immediate_bytes size (kind_at row n)) op) e

-- what is read from a tail beside the plain ModRM
record ReadBack (bits : Bits) (row : Row) (i : Instr) (n : ℕ) (r : Register) (t : Tail) (imm : List ℕ) (how : Method) : Type 0 where
  named : r ≡ register_of bits row (plain_front_of bits row i) (file_of (kind_at row n)) (naming_number how (kind_at row n) r)
  variant : is_variant_of row.place how (Reg r) ≡ true
  reg : reads_reg how ≡ true → reg_number (plain_front_of bits row i) t.modrm ≡ register_number r
  rm : reads_rm how ≡ true → rm_number bits (plain_front_of bits row i) t.modrm ≡ register_number r
  mode : reads_rm how ≡ true → has_modrm (λ m. nat_lt m.mode3 3) t.modrm ≡ false
  opcode : reads_opcode how ≡ true → with_high_bit (bit_b bits (plain_front_of bits row i)) ((plain_front_of bits row i).opcode % 8) ≡ register_number r
  vvvv : is_vvvv how ≡ true → vvvv_number bits (plain_front_of bits row i) ≡ register_number r
  last : how ≡ method.LastByte → last_byte_number bits imm ≡ register_number r

-- a register by its number
abbrev register_named : Bits → Row → Instr → OpKind → ℕ → Operand
register_named bits row i kind x = Reg (register_of bits row (plain_front_of bits row i) (file_of kind) x)

by_number : (bits : Bits) (row : Row) (i : Instr) (kind : OpKind) (x : ℕ) (r : Register) → x ≡ register_number r → r ≡ register_of bits row (plain_front_of bits row i) (file_of kind) (register_number r) → register_named bits row i kind x ≡ Reg r
by_number bits row i kind x r e named = ap (register_named bits row i kind) e ∙ ap (λ (y : Register). Reg y) (sym named)

read_by : (bits : Bits) (row : Row) (i : Instr) (n : ℕ) (r : Register) (t : Tail) (imm : List ℕ) (how : Method) → ReadBack bits row i n r t imm how → operand_by bits row (plain_front_of bits row i) t (kind_at row n) how imm ≡ Reg r
unfolding operand_by is_variant_of
read_by bits row i n r t imm method.ModRmReg k = by_number bits row i (kind_at row n) _ r (k.reg refl) k.named
read_by bits row i n r t imm method.RegisterOrMemory k = rw (k.mode refl) (by_number bits row i (kind_at row n) _ r (k.rm refl) k.named)
read_by bits row i n r t imm method.RegisterOnly k = by_number bits row i (kind_at row n) _ r (k.rm refl) k.named
read_by bits row i n r t imm method.AnyMode k = by_number bits row i (kind_at row n) _ r (k.rm refl) k.named
read_by bits row i n r t imm method.OpcodeLow k = by_number bits row i (kind_at row n) _ r (k.opcode refl) k.named
read_by bits row i n r t imm method.Vvvv k = by_number bits row i (kind_at row n) _ r (k.vvvv refl) k.named
read_by bits row i n r t imm method.LastByte k = by_number bits row i (kind_at row n) _ r (k.last refl) k.named
read_by bits row i n r t imm method.Fixed k = ap (λ (y : Register). Reg y) (sym k.named)
read_by bits row i n r t imm _ k = let h = k.variant in cc

-- **a register operand is read back**
pub register_back : (bits : Bits) (ip : ℕ) (row : Row) (i : Instr) (n : ℕ) (r : Register) (t : Tail) (next : ℕ) (imm : List ℕ) → Given bits ip row i → n < 4 → operand_at i n ≡ Reg r → t.modrm ≡ plain_modrm bits row i → imm ≡ immediate_at (plain_size bits row) row i next n
    → operand_by bits row (plain_front_of bits row i) t (kind_at row n) (method_of (kind_at row n)) imm ≡ Reg r
register_back bits ip row i n r t next imm g below e modrm bytes = read_by bits row i n r t imm (method_of (kind_at row n)) (record {
  named = register-at bits ip row i n r g below e;
  variant = subst (λ (op : Operand). is_variant_of row.place (method_of (kind_at row n)) op ≡ true) e (variant-at row i n g.suits.kinds below);
  reg = λ reads. ap (λ (m : Option ModRm). reg_number (plain_front_of bits row i) m) modrm ∙ reg_number-at bits ip row i n g below reads ∙ ap operand_number e;
  rm = λ reads. ap (λ (m : Option ModRm). rm_number bits (plain_front_of bits row i) m) modrm ∙ rm_number-at bits ip row i n r g below reads e;
  mode = λ reads.
      let k = register_in_rm bits row i n r g.is_sound g.is_writable.rule g.four below reads e in
      ap (has_modrm (λ m. nat_lt m.mode3 3)) (modrm ∙ k.is_plain) ∙ ap (λ (x : ℕ). nat_lt x 3) k.mode;
  opcode = λ reads. opcode_number bits ip row i n r g below reads e;
  vvvv = λ reads.
      (says bits ip row i g).vvvv (vex_of_vvvv row g.is_sound (reads-at is_vvvv row n g.is_sound below reads))
      ∙ asked_vvvv-at row i n g.is_sound g.four below reads ∙ ap operand_number e;
  last = λ how.
      last_number bits (register_number r) imm (nameable-at bits row i n r g.suits.registers below e).number
      (bytes ∙ last_bytes (plain_size bits row) row i next n r how e);
})

-- ---- absent operands

allowed_some : (place : Place) → is_allowed_in place AbsentOperand ≡ true → true ≡ false
unfolding is_allowed_in
allowed_some AnyPlace h = sym h
allowed_some OnlyMemory h = sym h
allowed_some OnlyRegister h = sym h

absent_by : (bits : Bits) (row : Row) (f : PrefixState) (t : Tail) (kind : OpKind) (how : Method) (imm : List ℕ) → is_variant_of row.place how AbsentOperand ≡ true → operand_by bits row f t kind how imm ≡ AbsentOperand
unfolding operand_by is_variant_of
absent_by bits row f t kind method.Nothing imm h = refl
absent_by bits row f t kind method.RegisterOrMemory imm h = let k = allowed_some row.place h in cc
absent_by bits row f t kind _ imm h = cc

-- **an absent operand is read back**
pub absent_back : (bits : Bits) (row : Row) (i : Instr) (n : ℕ) (f : PrefixState) (t : Tail) (imm : List ℕ) → each_operand (kind_suits row i) ≡ true → n < 4 → operand_at i n ≡ AbsentOperand → operand_by bits row f t (kind_at row n) (method_of (kind_at row n)) imm ≡ AbsentOperand
absent_back bits row i n f t imm kinds below e =
    absent_by bits row f t (kind_at row n) (method_of (kind_at row n)) imm
    (subst (λ (op : Operand). is_variant_of row.place (method_of (kind_at row n)) op ≡ true) e (variant-at row i n kinds below))
