-- The characters of the pieces of a text in AT&T are the text.
use Rattle.std.proofs.Common.{◌≡◌, ℕ, List, ◌++◌, Option, refl, ap}
use Rattle.std.specs.Prelude.{codes}
use Rattle.std.proofs.lemmas.List.{append-nil}
use Rattle.x86_values.specs.declared.Bits.{Bits}
use Rattle.x86_values.specs.declared.Segment.{Segment}
use Rattle.x86_values.specs.declared.Mem.{Mem}
use Rattle.x86_values.specs.declared.Operand.{Operand}
use Rattle.x86_values.specs.declared.Operand.TheVariants.{Absent as AbsentOperand, Reg, Mem as MemOperand, Imm, Near, Far}
use Rattle.x86_values.specs.declared.Instr.{Instr}
use Rattle.instruction_parts.specs.declared.row_types.Row.{Row}
use Rattle.text_parts.specs.declared.style.Style.TheVariants.{Att}
use Rattle.text_parts.specs.Numbers.{number}
use Rattle.text_parts.specs.Registers.{register}
use Rattle.text_parts.specs.Addresses.{is_relative, is_absolute}
use Rattle.text_parts.specs.PrefixWords.{text_address_size}
use Rattle.text_parts.specs.Layout.{nth_operand}
use Rattle.att_text.specs.Names.{att_name}
use Rattle.att_text.specs.Operands.{att_index, att_registers, att_relative, att_address, att_memory, att_operand, star, is_last, att_part}
use Rattle.att_text.specs.Text.{text_of}
use Rattle.text_pieces.specs.Tokens.{joined}
use Rattle.text_pieces.specs.Words.{prefix_pieces}
use Rattle.text_pieces.specs.Addresses.{register_pieces, signed_pieces, base_pieces, scale_pieces, override_pieces}
use Rattle.text_pieces.specs.Layout.{separator_pieces}
use Rattle.text_pieces.specs.AttLayout.{att_index_pieces, att_register_pieces, att_relative_pieces, att_address_pieces, att_memory_pieces, att_far_pieces, att_operand_pieces, att_part_pieces, att_pieces}
use Rattle.text_pieces.proofs.Joined.{joined-both, joined-either, joined-option, nil-behind}
use Rattle.text_pieces.proofs.JoinedWords.{prefix-joined}
use Rattle.text_pieces.proofs.JoinedAddresses.{register-joined, signed-joined, lone-joined, base-joined, scale-joined, override-joined}
use Rattle.text_pieces.proofs.JoinedLayout.{separator-joined}

index-joined : (asize : Bits) (n : ℕ) (m : Mem) → joined (att_index_pieces asize n m) ≡ att_index asize m
unfolding att_index_pieces att_index
index-joined asize n m =
    joined-option m.index _ _
    (λ r. ap (λ (text : List ℕ). codes "," ++ text)
    (joined-both (register_pieces Att n r) (scale_pieces Att asize n m) (register Att r) _ (register-joined Att n r) (scale-joined Att asize n m)))

registers-joined : (asize : Bits) (n : ℕ) (m : Mem) → joined (att_register_pieces asize n m) ≡ att_registers asize m
unfolding att_register_pieces att_registers
registers-joined asize n m =
    ap (λ (text : List ℕ). codes "(" ++ text)
    (joined-both (base_pieces Att n m.base) _ _ _ (base-joined Att n m.base)
    (joined-both (att_index_pieces asize n m) _ _ (codes ")") (index-joined asize n m) refl))

relative-joined : (asize : Bits) (n : ℕ) (m : Mem) → joined (att_relative_pieces asize n m) ≡ att_relative m
unfolding att_relative_pieces att_relative
relative-joined asize n m =
    ap (λ (text : List ℕ). number Att m.disp ++ (codes "(" ++ text))
    (joined-both (base_pieces Att n m.base) _ _ (codes ")") (base-joined Att n m.base) refl)

address-joined : (asize : Bits) (n : ℕ) (m : Mem) → joined (att_address_pieces asize n m) ≡ att_address asize m
unfolding att_address_pieces att_address
address-joined asize n m =
    joined-either (is_relative m) _ _ _ _ (relative-joined asize n m)
    (joined-either (is_absolute m) _ _ _ _ (lone-joined Att asize n m)
    (joined-both (signed_pieces Att asize n m) _ _ _ (signed-joined Att asize n m) (registers-joined asize n m)))

memory-joined : (seg : Option Segment) (asize : Bits) (n : ℕ) (m : Mem) → joined (att_memory_pieces seg asize n m) ≡ att_memory seg asize m
unfolding att_memory_pieces att_memory
memory-joined seg asize n m =
    joined-both (override_pieces Att n seg) _ _ _ (override-joined Att n seg) (address-joined asize n m)

operand-joined : (bits : Bits) (row : Row) (instr : Instr) (n : ℕ) (op : Operand)
    → joined (att_operand_pieces bits row instr n op) ≡ att_operand bits instr op
unfolding att_operand_pieces att_far_pieces att_operand
operand-joined bits row instr n AbsentOperand = refl
operand-joined bits row instr n (Reg r) = register-joined Att n r
operand-joined bits row instr n (Imm x) = nil-behind (codes "$") (number Att x)
operand-joined bits row instr n (Near x) = append-nil (number Att x)
operand-joined bits row instr n (Far selector offset) =
    ap (λ (text : List ℕ). codes "$" ++ (number Att selector ++ text)) (nil-behind (codes ", $") (number Att offset))
operand-joined bits row instr n (MemOperand m) = memory-joined instr.seg (text_address_size bits instr) n m

part-joined : (bits : Bits) (row : Row) (name : List ℕ) (instr : Instr) (n : ℕ)
    → joined (att_part_pieces bits row name instr n) ≡ att_part bits row name instr n
unfolding att_part_pieces att_part
part-joined bits row name instr n =
    joined-both (separator_pieces (is_last instr n) (nth_operand instr n)) _ _ _ (separator-joined (is_last instr n) (nth_operand instr n))
    (ap (λ (text : List ℕ). star row name n ++ text) (operand-joined bits row instr n (nth_operand instr n)))

-- the whole text
pub att-joined : (bits : Bits) (row : Row) (name : List ℕ) (instr : Instr) → joined (att_pieces bits row name instr) ≡ text_of bits row name instr
unfolding att_pieces text_of
att-joined bits row name instr =
    joined-both (prefix_pieces bits row name instr) _ _ _ (prefix-joined bits row name instr)
    (ap (λ (text : List ℕ). att_name bits row name instr ++ text)
    (joined-both (att_part_pieces bits row name instr 3) _ _ _ (part-joined bits row name instr 3)
    (joined-both (att_part_pieces bits row name instr 2) _ _ _ (part-joined bits row name instr 2)
    (joined-both (att_part_pieces bits row name instr 1) _ _ _ (part-joined bits row name instr 1)
    (part-joined bits row name instr 0)))))
