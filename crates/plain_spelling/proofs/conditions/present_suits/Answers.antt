use Rattle.std.proofs.Common.{◌≡◌, true, ◌&&◌, sym, ◌∙◌}
use Rattle.instruction_parts.specs.Kinds.{method_of, file_of}
use Rattle.row_fit.specs.Fits.{kind_at, immediate_bytes}
use Rattle.x86_values.specs.declared.Operand.TheVariants.{Absent, Reg, Mem as MemOperand, Near}
use Rattle.plain_spelling.specs.Forms.{is_variant_of, operand_at}
use Rattle.plain_spelling.specs.Addresses.{shape_suits, displacement_suits, written_size}
use Rattle.plain_spelling.specs.PlainTail.{plain_size, plain_next}
use Rattle.plain_spelling.specs.Expressible.{is_sized_register, near_reaches, address_reaches}
use Rattle.plain_spelling.proofs.SizedRegisters.{sized-nameable}
use Rattle.plain_spelling.proofs.Suiting.{absent-suits, register-suits, memory-suits, near-suits}
use Rattle.plain_spelling.proofs.conditions.present_suits.Goals as goal

pub returns-in-Absent : goal.returns-in-Absent
returns-in-Absent c =
    let e : operand_at c.args.instr.now c.args.n ≡ Absent = sym c.operand_at-operand.ensures ∙ c.in-Absent.is in
    let v : is_variant_of c.args.row.now.place (method_of (kind_at c.args.row.now c.args.n)) Absent ≡ true = cc in
    sym v ∙ absent-suits c.args.bits c.args.parts.now.ip c.args.row.now c.args.instr.now c.args.n e

pub returns-then-is_sized_register : goal.returns-then-is_sized_register
returns-then-is_sized_register c =
    let row = c.args.row.now in
    let r = c.in-Reg.register in
    let e : operand_at c.args.instr.now c.args.n ≡ Reg r = sym c.operand_at-operand.ensures ∙ c.in-Reg.is in
    let v : is_variant_of row.place (method_of (kind_at row c.args.n)) (Reg r) ≡ true = cc in
    let h : is_sized_register c.args.bits (plain_size c.args.bits row) (kind_at row c.args.n) r ≡ true = cc in
    c.if-is_sized_register.true ∙ sym (sized-nameable c.args.bits row c.args.instr.now c.args.n r h)
    ∙ register-suits c.args.bits c.args.parts.now.ip row c.args.instr.now c.args.n r e v

pub returns-else-is_sized_register : goal.returns-else-is_sized_register
returns-else-is_sized_register c =
    let e : operand_at c.args.instr.now c.args.n ≡ Reg c.in-Reg.register = sym c.operand_at-operand.ensures ∙ c.in-Reg.is in
    let v : is_variant_of c.args.row.now.place (method_of (kind_at c.args.row.now c.args.n)) (Reg c.in-Reg.register) ≡ true = cc in
    c.is_nameable_under.ensures ∙ register-suits c.args.bits c.args.parts.now.ip c.args.row.now c.args.instr.now c.args.n c.in-Reg.register e v

pub returns-in-Mem : goal.returns-in-Mem
returns-in-Mem c =
    let row = c.args.row.now in
    let m = c.in-Mem.memory in
    let e : operand_at c.args.instr.now c.args.n ≡ MemOperand m = sym c.operand_at-operand.ensures ∙ c.in-Mem.is in
    let v : is_variant_of row.place (method_of (kind_at row c.args.n)) (MemOperand m) ≡ true = cc in
    let same : c.memory_suits.result ≡ (shape_suits c.args.bits row (method_of (kind_at row c.args.n)) (file_of (kind_at row c.args.n)) m && (displacement_suits (written_size c.args.bits c.args.instr.now.asize m) (method_of (kind_at row c.args.n)) m && address_reaches (plain_next c.args.bits c.args.parts.now.ip row c.args.instr.now) m)) = cc in
    same ∙ memory-suits c.args.bits c.args.parts.now.ip row c.args.instr.now c.args.n m e v

pub returns-in-Near : goal.returns-in-Near
returns-in-Near c =
    let row = c.args.row.now in
    let t = c.in-Near.target in
    let e : operand_at c.args.instr.now c.args.n ≡ Near t = sym c.operand_at-operand.ensures ∙ c.in-Near.is in
    let v : is_variant_of row.place (method_of (kind_at row c.args.n)) (Near t) ≡ true = cc in
    let a : c.near_reaches.result ≡ near_reaches (plain_size c.args.bits row) (plain_next c.args.bits c.args.parts.now.ip row c.args.instr.now) (immediate_bytes (plain_size c.args.bits row) (kind_at row c.args.n)) t = cc in
    a ∙ near-suits c.args.bits c.args.parts.now.ip row c.args.instr.now c.args.n t e v
