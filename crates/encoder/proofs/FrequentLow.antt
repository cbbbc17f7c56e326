-- The encoding of an instruction of one general register in the opcode byte.
use Rattle.std.proofs.Common.{◌≡◌, ℕ, ◌+◌, ◌%◌, ◌≤◌, Bool, true, false, not, ◌==◌, [], ◌∷◌, ◌++◌, length, Option, Some, None, nat_lt, refl, ap, sym, ◌∙◌, arith, append_assoc, length-append, if◌then◌else◌}
use Rattle.x86_values.specs.declared.Bits.{Bits}
use Rattle.x86_values.specs.declared.Bits.TheVariants.{B64}
use Rattle.x86_values.specs.declared.Register.{Register}
use Rattle.x86_values.specs.declared.Register.TheVariants.{R64}
use Rattle.x86_values.specs.declared.Operand.TheVariants.{Absent, Reg}
use Rattle.x86_values.specs.declared.Instr.{Instr}
use Rattle.x86_values.proofs.Compared.{same_register-refl}
use Rattle.instruction_parts.specs.declared.row_types.Row.{Row}
use Rattle.instruction_parts.specs.declared.row_types.Map.TheVariants.{One}
use Rattle.instruction_parts.specs.declared.row_types.Plus.{Plus}
use Rattle.instruction_parts.specs.declared.row_types.Plus.TheVariants.{Register as PlusRegister}
use Rattle.instruction_parts.specs.declared.row_types.OpKind.TheVariants.{Absent as NoKind, Zv}
use Rattle.instruction_parts.specs.Kinds.{method_of, file_of}
use Rattle.instruction_parts.specs.Bytes.{escape_bytes}
use Rattle.instruction_parts.specs.Sizes.{is_vex_row}
use Rattle.row_fit.specs.Fits.{kind_at}
use Rattle.row_meaning.specs.Meaning.{general_register, register_of}
use Rattle.plain_spelling.specs.Forms.{operand_at, is_variant_of}
use Rattle.plain_spelling.specs.PlainFront.{register_number, is_low_byte_of_rex, number_in_reg, number_in_rm, number_in_index, number_in_opcode, number_asked_of, asks_low_byte, asked_opcode}
use Rattle.plain_spelling.specs.PlainTail.{rex_prefix, address_operand, operand_immediate, immediate_at, plain_immediates, plain_size, plain_next}
use Rattle.plain_spelling.specs.Addresses.{register_count}
use Rattle.plain_spelling.specs.Expressible.{exists_in_mode, is_of_kind, is_not_nop, kind_allows, is_nameable, has_memory_operand}
use Rattle.plain_spelling.proofs.PlainFrontLaws.{plain_state_size}
use Rattle.plain_spelling.proofs.Suiting.{register-suits}
use Rattle.encoder.specs.Frequent.{adds_register, is_alone, is_quad_by_mark, sized_number, rex_of, IsEncoded}
use Rattle.encoder.proofs.FrequentFacts.{bare-of, Pair, pair-of, asked-pair, rex-is, bare-bytes, Known, absent-none, none-fails, encoded-as}
use Rattle.encoder.proofs.FrequentRegisters.{low-absent, no-67, rex-few}
use Rattle.encoder.proofs.FrequentNear.{alone-of, quad-of, no-tail, alone-size}

-- a row that adds a register to its opcode byte
pub adds : (x : Plus) → adds_register x ≡ true → x ≡ PlusRegister
adds PlusRegister h = refl
adds _ h = cc

-- ---- a general register of 64 bits

record Quad64 (r : Register) (n : ℕ) : Type 0 where
  is : r ≡ R64 n
  below : nat_lt n 16 ≡ true

picked : (b : Bool) (m n : ℕ) → Some n ≡ (if b then Some m else None) → (b ≡ true) × (m ≡ n)
picked true m n h = (refl, cc)
picked false m n h = cc

quad64 : (r : Register) (n : ℕ) → Some n ≡ sized_number true r → Quad64 r n
unfolding sized_number
quad64 (R64 m) n h =
    let p = picked (nat_lt m 16) m n h in
    record { is = ap (λ (x : ℕ). R64 x) p.1; below = ap (λ (x : ℕ). nat_lt x 16) (sym p.1) ∙ p.0 }
quad64 _ n h = cc

low-nameable : (row : Row) (i : Instr) (n : ℕ) → kind_at row 0 ≡ Zv → plain_size B64 row ≡ B64 → (row.opcode == 0x90) ≡ false → row.map ≡ One → is_vex_row row ≡ false → nat_lt n 16 ≡ true
    → is_nameable B64 row i 0 (R64 n) ≡ true
unfolding is_nameable exists_in_mode register_number register_count is_of_kind register_of file_of method_of general_register is_not_nop kind_allows
low-nameable row i n ek size other map legacy below =
    rw (ek, below, plain_state_size B64 row i, size, same_register-refl (R64 n), other, map, legacy) refl

low-variant : (row : Row) (n : ℕ) → is_variant_of row.place (method_of Zv) (Reg (R64 n)) ≡ true
unfolding is_variant_of method_of
low-variant row n = refl

-- ---- its bytes

record LowNumbers (row : Row) (i : Instr) (n : ℕ) : Type 0 where
  in_reg : number_asked_of number_in_reg row i ≡ 0
  in_rm : number_asked_of number_in_rm row i ≡ n
  in_index : number_asked_of number_in_index row i ≡ 0
  in_opcode : number_asked_of number_in_opcode row i ≡ n

low-numbers : (row : Row) (i : Instr) (n : ℕ) → Pair row i Zv NoKind (Reg (R64 n)) Absent → LowNumbers row i n
unfolding number_in_reg number_in_rm number_in_index number_in_opcode method_of register_number
low-numbers row i n p = record {
  in_reg = asked-pair number_in_reg row i Zv NoKind (Reg (R64 n)) Absent p ∙ omega arith;
  in_rm = asked-pair number_in_rm row i Zv NoKind (Reg (R64 n)) Absent p ∙ omega arith;
  in_index = asked-pair number_in_index row i Zv NoKind (Reg (R64 n)) Absent p ∙ omega arith;
  in_opcode = asked-pair number_in_opcode row i Zv NoKind (Reg (R64 n)) Absent p ∙ omega arith;
}

low-quad : (n : ℕ) → is_low_byte_of_rex (Reg (R64 n)) ≡ false
unfolding is_low_byte_of_rex
low-quad n = refl

opcode-adds : (row : Row) (i : Instr) (n : ℕ) → row.plus ≡ PlusRegister → number_asked_of number_in_opcode row i ≡ n → asked_opcode row i ≡ row.opcode + n % 8
unfolding asked_opcode
opcode-adds row i n e x = rw (e, x) refl

low-address : (row : Row) (i : Instr) (n : ℕ) → Pair row i Zv NoKind (Reg (R64 n)) Absent → address_operand row i ≡ Absent
unfolding method_of
low-address row i n p = rw (p.kinds, p.ops) refl

low-immediates : (size : Bits) (next : ℕ) (row : Row) (i : Instr) (n : ℕ) → Pair row i Zv NoKind (Reg (R64 n)) Absent → plain_immediates size row i next ≡ []
unfolding plain_immediates immediate_at operand_immediate method_of
low-immediates size next row i n p = rw p.kinds refl

low-memory : (row : Row) (i : Instr) (n : ℕ) → Pair row i Zv NoKind (Reg (R64 n)) Absent → has_memory_operand i ≡ false
unfolding has_memory_operand
low-memory row i n p = rw p.ops refl

low-few : (o : Option ℕ) (x : ℕ) → length (rex_prefix o ++ (x ∷ [])) ≤ 15
low-few o x = simp length-append (omega (arith, rex-few o))

-- **what is written of a register in the opcode byte is the encoding**
pub low-encoded : (row : Row) (i : Instr) (r : Register) (n : ℕ) → Known row i → is_alone row i ≡ true → row.plus ≡ PlusRegister → row.map ≡ One → (row.opcode == 0x90) ≡ false → kind_at row 0 ≡ Zv
    → operand_at i 0 ≡ Reg r → Some n ≡ sized_number true r → IsEncoded row i (rex_prefix (rex_of (not (is_quad_by_mark row)) 0 n) ++ ((row.opcode + n % 8) ∷ []))
low-encoded row i r n k alone plus map other ek eo er ip =
    let b = bare-of row i k.bare in
    let l = alone-of row i alone in
    let q = quad-of row i b l.size in
    let s = quad64 r n er in
    let at : operand_at i 0 ≡ Reg (R64 n) = eo ∙ ap (λ (x : Register). Reg x) s.is in
    let p = pair-of row i Zv NoKind (Reg (R64 n)) Absent k.is_sound k.four b ek l.kind at l.second in
    let m = low-numbers row i n p in
    let t = no-tail row i l.modrm in
    let low : asks_low_byte i.ops ≡ false = rw (p.ops, low-quad n, low-absent) refl in
    let rex = rex-is row i (not (is_quad_by_mark row)) 0 n b.legacy q.rex_w m.in_reg m.in_rm m.in_index low in
    let variant : is_variant_of row.place (method_of (kind_at row 0)) (Reg (R64 n)) ≡ true = rw ek (low-variant row n) in
    let h0 = sym (register-suits B64 ip row i 0 (R64 n) at variant) ∙ low-nameable row i n ek q.size other map b.legacy s.below in
    let h1 = absent-none ip row i 1 l.kind l.second in
    encoded-as ip row i _ k (none-fails ip row i k h0 h1 (alone-size row i Zv (Reg (R64 n)) p l (low-memory row i n p)))
    (bare-bytes ip row i b q.no_66 (no-67 i.asize l.asize)
    ∙ (rw (rex, opcode-adds row i n plus m.in_opcode, t.modrm, t.sib, low-address row i n p, low-immediates (plain_size B64 row) (plain_next B64 ip row i) row i n p, ap escape_bytes map)
    (append_assoc (rex_prefix (rex_of (not (is_quad_by_mark row)) 0 n)) [] _)))
    (low-few (rex_of (not (is_quad_by_mark row)) 0 n) (row.opcode + n % 8))
