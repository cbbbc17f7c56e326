-- Instructions whose texts are known, for the worked examples of each style.
use Rattle.std.proofs.Common.{ℕ, true, false, List, [], ◌∷◌, Option, Some, None}
use lib.Count.{count_leading_zeros}
use Rattle.std.specs.Prelude.{codes}
use Rattle.x86_values.specs.declared.Bits.{Bits}
use Rattle.x86_values.specs.declared.Bits.TheVariants.{B16, B32, B64}
use Rattle.x86_values.specs.declared.Segment.TheVariants.{Fs as SegmentFs}
use Rattle.x86_values.specs.declared.Register.{Register}
use Rattle.x86_values.specs.declared.Register.TheVariants.{Low8, High8, R16, R32, R64, St as StackRegister, Xmm, Rip}
use Rattle.x86_values.specs.declared.DispSize.{DispSize}
use Rattle.x86_values.specs.declared.DispSize.TheVariants.{D0, D8, D32}
use Rattle.x86_values.specs.declared.Operand.{Operand}
use Rattle.x86_values.specs.declared.Operand.TheVariants.{Absent as NoOperand, Reg, Mem as MemOperand, Imm, Near, Far}
use Rattle.x86_values.specs.declared.Rep.TheVariants.{None as NoRep, F2 as RepF2, F3 as RepF3}
use Rattle.x86_values.specs.declared.Instr.{Instr}
use Rattle.instruction_parts.specs.declared.row_types.Row.{Row}
use Rattle.instruction_parts.specs.declared.row_types.RowKind.TheVariants.{Legacy}
use Rattle.instruction_parts.specs.declared.row_types.Map.TheVariants.{One}
use Rattle.instruction_parts.specs.declared.row_types.Class.TheVariants.{Any as AnyClass}
use Rattle.instruction_parts.specs.declared.row_types.Plus.TheVariants.{No as NoPlus}
use Rattle.instruction_parts.specs.declared.row_types.ModRmRule.TheVariants.{Any as AnyModRm}
use Rattle.instruction_parts.specs.declared.row_types.Place.TheVariants.{Any as AnyPlace}
use Rattle.instruction_parts.specs.declared.row_types.Size.{Size}
use Rattle.instruction_parts.specs.declared.row_types.Size.TheVariants.{None as NoSize, O16, O32, O64, W0 as SizeW0}
use Rattle.instruction_parts.specs.declared.row_types.WBit.TheVariants.{None as NoW}
use Rattle.instruction_parts.specs.declared.row_types.LBit.{LBit}
use Rattle.instruction_parts.specs.declared.row_types.LBit.TheVariants.{None as NoL, L128}
use Rattle.instruction_parts.specs.declared.row_types.OpKind.{OpKind}
use Rattle.instruction_parts.specs.declared.row_types.OpKind.TheVariants as kind
use Rattle.instruction_parts.specs.Kinds.{memory_width}
use Rattle.instruction_parts.specs.Sizes.{operand_size}
use Rattle.row_meaning.specs.MemorySize.{row_size_bytes, has_w, vector_bytes, width_in_row, size_at, memory_size}
use Rattle.text_parts.specs.Numbers.{hex_digit, digit_at, last_digits, digit_count, hexadecimal, leading_zero, number, decimal}
use Rattle.text_parts.specs.Registers.{word_name, low_byte_name, high_byte_name, segment_name, stack_name, register_name, sigil, register, segment_override}
use Rattle.text_parts.specs.Addresses.{is_instruction_pointer, is_negative, magnitude, sign, signed_displacement, lone_displacement, relative_word, base_text, joint, scale_text, index_text, sum_text, inside, bracket_segment, bracketed_address}
use Rattle.text_parts.specs.PrefixWords.{lock_word, repeat_word, segment_word, size_digits, sized_word, differs, shows_size, shows_address_size, is_counter_jump, needs_address_word, address_word, named_size, is_w_size, usual_size, operand_size_word, prefix_words, counter_jump, name_text}
use Rattle.text_parts.specs.Layout.{size_name, far_name, is_far_pointer, operand_size_name, behind_size, size_word, separator, bracket_operand, operand_part, bracket_layout}

-- ---- how samples are written

-- a row with this size, these vectors, these kinds and these marks
abbrev row : Size → LBit → OpKind → OpKind → OpKind → ℕ → Row
row size l a b c marks = record {
  kind = Legacy;
  map = One;
  class = AnyClass;
  opcode = 1;
  plus = NoPlus;
  modrm = AnyModRm;
  place = AnyPlace;
  size = size;
  w = NoW;
  l = l;
  modes = record { 0 = 7 };
  ops = a ∷ b ∷ c ∷ kind.Absent ∷ [];
  marks = record { 0 = marks };
}

-- an instruction with these operands and nothing else
abbrev plain : Option Bits → Operand → Operand → Operand → Instr
plain asize a b c = record {
  code = record { 0 = 0 };
  ops = a ∷ b ∷ c ∷ NoOperand ∷ [];
  lock = false;
  rep = NoRep;
  seg = None;
  asize = asize;
}

-- an address
abbrev address : Option Register → Option Register → ℕ → ℕ → DispSize → Operand
address base index scale disp size = MemOperand (record { base = base; index = index; scale = scale; disp = disp; disp_size = size })

abbrev none : Operand
none = NoOperand

-- a row of the x87 unit
abbrev fpu_row : OpKind → Row
fpu_row a = record (row NoSize NoL a kind.Absent kind.Absent 0) { opcode = 0xDF }

-- an instruction with its mode, its row and the row's name
pub record Sample : Type 0 where
  pub bits : Bits
  pub row : Row
  pub name : List ℕ
  pub instr : Instr

abbrev sample : Bits → Row → List ℕ → Instr → Sample
sample bits row name instr = record { bits = bits; row = row; name = name; instr = instr }

-- ---- the samples

-- instructions of known texts
unfoldable pub samples : List Sample
samples =
    sample B64 (row O64 NoL kind.Gv kind.Ev kind.Absent 0) (codes "mov") (plain (Some B64) (Reg (R64 0)) (address (Some Rip) None 1 0x1007 D32) none)
    ∷ sample B64 (row O64 NoL kind.Ev kind.Gv kind.Absent 0) (codes "mov") (plain (Some B64) (address (Some (R64 4)) None 1 0x10 D8) (Reg (R64 3)) none)
    ∷ sample B64 (row O32 NoL kind.Ev kind.Gv kind.Absent 1) (codes "add") (record (plain (Some B64) (address (Some (R64 0)) None 1 0 D0) (Reg (R32 0)) none) { lock = true })
    ∷ sample B64 (row O32 NoL kind.Gv kind.Ev kind.Absent 0) (codes "mov") (record (plain (Some B64) (Reg (R32 0)) (address (Some (R64 0)) None 1 0 D0) none) { seg = Some SegmentFs })
    ∷ sample B32 (row O32 NoL kind.Gv kind.Mp kind.Absent 0) (codes "lds") (plain (Some B32) (Reg (R32 0)) (address (Some (R32 0)) None 1 0 D0) none)
    ∷ sample B16 (row O16 NoL kind.Gv kind.Ev kind.Absent 0) (codes "mov") (plain (Some B16) (Reg (R16 0)) (address (Some (R16 3)) (Some (R16 6)) 1 0 D0) none)
    ∷ sample B32 (row O32 NoL kind.Ap kind.Absent kind.Absent 4) (codes "callf") (plain None (Far 8 0x10) none none)
    ∷ sample B32 (row O32 NoL kind.Ev kind.Ibs kind.Absent 0) (codes "add") (plain None (Reg (R32 0)) (Imm 0xffffffff) none)
    ∷ sample B64 (row O32 NoL kind.Gv kind.Eb kind.Absent 0) (codes "movzx") (plain (Some B64) (Reg (R32 0)) (address (Some (R64 7)) None 1 0 D0) none)
    ∷ sample B64 (fpu_row kind.Md) (codes "fsub") (plain (Some B64) (address (Some (R64 0)) None 1 0 D0) none none)
    ∷ sample B64 (row SizeW0 L128 kind.Vx kind.GatherL kind.Hx 0) (codes "vgatherdps") (plain (Some B64) (Reg (Xmm 0)) (address (Some (R64 0)) (Some (Xmm 1)) 1 0 D0) (Reg (Xmm 2)))
    ∷ sample B64 (row NoSize NoL kind.Absent kind.Absent kind.Absent 0) (codes "nop") (record (plain None none none none) { rep = RepF2 })
    ∷ sample B64 (row O64 NoL kind.Jb kind.Absent kind.Absent 20) (codes "je") (plain None (Near 0) none none)
    ∷ sample B64 (row O64 NoL kind.Ev kind.Ibs kind.Absent 0) (codes "sub") (plain None (Reg (R64 4)) (Imm 0x20) none)
    ∷ sample B64 (row NoSize NoL kind.St kind.StI kind.Absent 0) (codes "fadd") (plain None (Reg (StackRegister 0)) (Reg (StackRegister 1)) none)
    ∷ sample B64 (fpu_row kind.Mt) (codes "fld") (plain (Some B64) (address (Some (R64 0)) None 1 0 D0) none none)
    ∷ sample B64 (row NoSize NoL kind.Eb kind.Gb kind.Absent 0) (codes "mov") (plain None (Reg (Low8 0)) (Reg (High8 0)) none)
    ∷ sample B64 (row NoSize NoL kind.Eb kind.Gb kind.Absent 0) (codes "mov") (plain None (Reg (Low8 0)) (Reg (Low8 4)) none)
    ∷ sample B32 (row O16 NoL kind.Gv kind.Ev kind.Absent 0) (codes "mov") (plain (Some B16) (Reg (R16 0)) (address (Some (R16 5)) None 1 0xfff8 D8) none)
    ∷ sample B64 (row O16 NoL kind.Ibs kind.Absent kind.Absent 12) (codes "push") (plain None (Imm 5) none none)
    ∷ sample B64 (row O64 NoL kind.Jb kind.Absent kind.Absent 22) (codes "jrcxz") (plain (Some B32) (Near 0x10) none none)
    ∷ sample B64 (row O64 NoL kind.Absent kind.Absent kind.Absent 2) (codes "movsq") (record (plain (Some B32) none none none) { rep = RepF3; seg = Some SegmentFs })
    ∷ sample B64 (row O64 NoL kind.Mf kind.Absent kind.Absent 0) (codes "jmpf") (plain (Some B64) (address None (Some (R64 9)) 8 0x1000 D32) none none)
    ∷ sample B64 (row SizeW0 L128 kind.Vx kind.GatherX kind.Hx 0) (codes "vgatherqps") (plain (Some B32) (Reg (Xmm 10)) (address None (Some (Xmm 1)) 2 0xfffffff0 D32) (Reg (Xmm 2)))
    ∷ sample B32 (row O32 NoL kind.Gv kind.Ev kind.Absent 0) (codes "mov") (plain (Some B32) (Reg (R32 0)) (address None None 1 0x1000 D32) none)
    ∷ sample B32 (row O32 NoL kind.Gv kind.Ev kind.Absent 0) (codes "mov") (record (plain (Some B32) (Reg (R32 0)) (address None None 1 0xa000 D32) none) { seg = Some SegmentFs })
    ∷ sample B64 (row O64 NoL kind.Ev kind.Absent kind.Absent 16) (codes "call") (plain (Some B64) (address (Some (R64 0)) None 1 0 D0) none none)
    ∷ sample B64 (row O32 NoL kind.Gv kind.Ez kind.Absent 0) (codes "movsxd") (plain None (Reg (R32 0)) (Reg (R32 1)) none)
    ∷ sample B32 (fpu_row kind.Mq) (codes "fild") (plain (Some B32) (address None (Some (R32 1)) 4 0xfffffff8 D8) none none)
    ∷ sample B32 (fpu_row kind.Mt) (codes "fbld") (plain (Some B32) (address None None 1 0x1000 D32) none none)
    ∷ sample B64 (row O32 NoL kind.Gv kind.Ev kind.Ib 0) (codes "imul") (plain (Some B64) (Reg (R32 9)) (address (Some (R64 13)) (Some (R64 14)) 2 0x7f D8) (Imm 0x1f))
    ∷ []

-- names every definition on its unfolding line: a proof that unfolds it computes with each of them
unfoldable pub every_part : Unit {0}
unfolding count_leading_zeros memory_width operand_size row_size_bytes has_w vector_bytes width_in_row size_at memory_size hex_digit digit_at last_digits digit_count hexadecimal leading_zero number decimal word_name low_byte_name high_byte_name segment_name stack_name register_name sigil register segment_override is_instruction_pointer is_negative magnitude sign signed_displacement lone_displacement relative_word base_text joint scale_text index_text sum_text inside bracket_segment bracketed_address lock_word repeat_word segment_word size_digits sized_word differs shows_size shows_address_size is_counter_jump needs_address_word address_word named_size is_w_size usual_size operand_size_word prefix_words counter_jump name_text size_name far_name is_far_pointer operand_size_name behind_size size_word separator bracket_operand operand_part bracket_layout
every_part = tt
