-- The rows of PUSH with an immediate, MOV of an immediate, and CALL and JMP through a register or memory (Intel SDM volume 2, PUSH, MOV, CALL, JMP).
use Rattle.std.specs.Prelude.{ℕ, ◌+◌, [], ◌∷◌}
use Rattle.x86_values.specs.Modes.{size_number}
use Rattle.x86_values.specs.declared.Bits.{Bits}
use Rattle.x86_values.specs.declared.Bits.TheVariants.{B16, B32, B64}
use Rattle.instruction_parts.specs.declared.row_types.Row.{Row}
use Rattle.instruction_parts.specs.declared.row_types.Map.TheVariants.{One}
use Rattle.instruction_parts.specs.declared.row_types.ModRmRule.TheVariants.{Digit}
use Rattle.instruction_parts.specs.declared.row_types.OpKind.TheVariants.{Absent, Ev, Iz}
use Rattle.move_goals.specs.BranchForms.Rows.{offset_row}
use Rattle.block_encoder.specs.declared.pushed_calls.generated_codes.TheConstants.{PUSH_IMM16, CALL_RM16, JMP_RM16}

-- ---- codes: rows that differ in the operand size alone stand one behind another, 16, 32, 64

-- the code of PUSH with an immediate of an operand size; at 64 it is one of 32 bits, sign-extended (68)
abbrev pub push_code : Bits → ℕ
push_code size = PUSH_IMM16 + size_number size

-- the code of CALL through a register or memory (FF /2)
abbrev pub call_code : Bits → ℕ
call_code size = CALL_RM16 + size_number size

-- the code of JMP through a register or memory (FF /4)
abbrev pub jump_code : Bits → ℕ
jump_code size = JMP_RM16 + size_number size

-- ---- the rows

-- the modes of PUSH at an operand size: 16 in each mode, 32 outside 64-bit mode, 64 in it
abbrev push_modes : Bits → ℕ
push_modes B16 = 7
push_modes B32 = 3
push_modes B64 = 4

-- the row of PUSH with an immediate
abbrev pub push_row : Bits → Row
push_row size = record (offset_row One 0x68 Iz 12 size) { modes = record { 0 = push_modes size } }

-- the row of MOV of an immediate of 32 bits to a register or memory (C7 /0)
abbrev pub high_row : Row
high_row = record (offset_row One 0xC7 Ev 0 B32) { modrm = Digit 0; modes = record { 0 = 7 }; ops = Ev ∷ Iz ∷ Absent ∷ Absent ∷ [] }

-- the row of CALL or JMP through a register or memory, by the digit in ModRM.reg
abbrev pub through_row : ℕ → Bits → Row
through_row digit size = record (offset_row One 0xFF Ev 16 size) { modrm = Digit digit }
