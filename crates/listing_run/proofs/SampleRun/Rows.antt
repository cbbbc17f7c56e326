-- The rows of the instructions that are drawn.
use Rattle.std.proofs.Common.{◌≡◌, ℕ, [], ◌∷◌, refl, slice_get}
use Rattle.std.specs.Prelude.{Some}
use Rattle.instruction_parts.specs.declared.row_types.Row.{Row}
use Rattle.instruction_parts.specs.RowTypes.Rows.{row}
use Rattle.instruction_parts.specs.declared.row_types.RowKind.TheVariants.{Legacy, Vex}
use Rattle.instruction_parts.specs.declared.row_types.Map.TheVariants.{One, M0f}
use Rattle.instruction_parts.specs.declared.row_types.Class.{Class}
use Rattle.instruction_parts.specs.declared.row_types.Class.TheVariants.{Any as AnyClass, Np, Nf3}
use Rattle.instruction_parts.specs.declared.row_types.Plus.{Plus}
use Rattle.instruction_parts.specs.declared.row_types.Plus.TheVariants.{No as NoPlus, Register as PlusRegister}
use Rattle.instruction_parts.specs.declared.row_types.ModRmRule.{ModRmRule}
use Rattle.instruction_parts.specs.declared.row_types.ModRmRule.TheVariants.{No as NoModRm, Any as AnyModRm}
use Rattle.instruction_parts.specs.declared.row_types.Place.TheVariants.{Any as AnyPlace}
use Rattle.instruction_parts.specs.declared.row_types.Size.{Size}
use Rattle.instruction_parts.specs.declared.row_types.Size.TheVariants.{None as NoSize, O32, O64}
use Rattle.instruction_parts.specs.declared.row_types.WBit.TheVariants.{None as NoW, Wig}
use Rattle.instruction_parts.specs.declared.row_types.LBit.TheVariants.{None as NoL, L128}
use Rattle.instruction_parts.specs.declared.row_types.OpKind.{OpKind}
use Rattle.instruction_parts.specs.declared.row_types.OpKind.TheVariants.{Absent, Ev, Gv, Zv, Iv, Jb, Jz, Vx, Hx, Wx}
use Rattle.opcode_rows.specs.Parts.{integer_rows, integer_flat, x87_rows, x87_flat, sse_rows, sse_flat, vex_rows, vex_flat}
use Rattle.opcode_rows.specs.Table.{spots, rows_in, table}

-- a legacy row of the one-byte map
abbrev one_byte : Class → ℕ → Plus → ModRmRule → Size → ℕ → OpKind → OpKind → ℕ → Row
one_byte class opcode plus modrm size modes first second marks =
    row Legacy One class opcode plus modrm AnyPlace size NoW NoL modes first second Absent Absent marks

-- NOP
abbrev pub nop_row : Row
nop_row = one_byte Nf3 0x90 NoPlus NoModRm NoSize 7 Absent Absent 0

-- MOV r/m64, r64
abbrev pub store_row : Row
store_row = one_byte AnyClass 0x89 NoPlus AnyModRm O64 4 Ev Gv 0

-- MOV r32, imm32
abbrev pub number_row : Row
number_row = one_byte AnyClass 0xB8 PlusRegister NoModRm O32 7 Zv Iv 0

-- MOV r32, r/m32
abbrev pub load_row : Row
load_row = one_byte AnyClass 0x8B NoPlus AnyModRm O32 7 Gv Ev 0

-- JNE rel8
abbrev pub branch_row : Row
branch_row = one_byte AnyClass 0x75 NoPlus NoModRm O64 4 Jb Absent 20

-- CALL rel32
abbrev pub call_row : Row
call_row = one_byte AnyClass 0xE8 NoPlus NoModRm O64 4 Jz Absent 20

-- MOV r64, r/m64
abbrev pub wide_load_row : Row
wide_load_row = one_byte AnyClass 0x8B NoPlus AnyModRm O64 4 Gv Ev 0

-- VADDPS xmm, xmm, xmm/m128
abbrev pub add_row : Row
add_row = row Vex M0f Np 0x58 NoPlus AnyModRm AnyPlace NoSize Wig L128 7 Vx Hx Wx Absent 0

rows_are : slice_get table 290 ∷ slice_get table 275 ∷ slice_get table 346 ∷ slice_get table 278
    ∷ slice_get table 169 ∷ slice_get table 623 ∷ slice_get table 279 ∷ slice_get table 1496 ∷ []
    ≡ Some nop_row ∷ Some store_row ∷ Some number_row ∷ Some load_row
    ∷ Some branch_row ∷ Some call_row ∷ Some wide_load_row ∷ Some add_row ∷ []
unfolding table rows_in spots integer_rows integer_flat x87_rows x87_flat sse_rows sse_flat vex_rows vex_flat
rows_are = refl

-- ---- each stands in the table at its code

-- code 290 is NOP
pub at-nop : slice_get table 290 ≡ Some nop_row
at-nop = let h = rows_are in cc

-- code 275 is the store that made code has
pub at-store : slice_get table 275 ≡ Some store_row
at-store = let h = rows_are in cc

-- code 346 is the move of a number
pub at-number : slice_get table 346 ≡ Some number_row
at-number = let h = rows_are in cc

-- code 278 is the load of 32 bits
pub at-load : slice_get table 278 ≡ Some load_row
at-load = let h = rows_are in cc

-- code 169 is the short Jcc that made code has
pub at-branch : slice_get table 169 ≡ Some branch_row
at-branch = let h = rows_are in cc

-- code 623 is the near CALL
pub at-call : slice_get table 623 ≡ Some call_row
at-call = let h = rows_are in cc

-- code 279 is the load of 64 bits
pub at-wide_load : slice_get table 279 ≡ Some wide_load_row
at-wide_load = let h = rows_are in cc

-- code 1496 is the VEX addition
pub at-add : slice_get table 1496 ≡ Some add_row
at-add = let h = rows_are in cc
