-- The rows of the codes.
use Rattle.std.proofs.Common.{◌≡◌, ◌+◌, List, [], ◌∷◌, get_or, refl, ap, slice_get}
use Rattle.std.specs.Prelude.{Option, Some, None}
use Rattle.x86_values.specs.Modes.{size_number}
use Rattle.x86_values.specs.declared.Bits.{Bits}
use Rattle.x86_values.specs.declared.Bits.TheVariants.{B16, B32, B64}
use Rattle.instruction_parts.specs.declared.row_types.Row.{Row}
use Rattle.opcode_rows.specs.Parts.{integer_rows, integer_flat, x87_rows, x87_flat, sse_rows, sse_flat, vex_rows, vex_flat}
use Rattle.opcode_rows.specs.Table.{spots, rows_in, table}
use Rattle.block_encoder.specs.declared.pushed_calls.generated_codes.TheConstants.{PUSH_IMM16, MOV_RM32_IMM32, CALL_RM16, JMP_RM16}
use Rattle.block_encoder.specs.PushedCalls.Rows.{push_code, call_code, jump_code, push_row, high_row, through_row}
use Rattle.block_encoder.specs.PushedCalls.Facts.{PushedCodeFacts}

-- ---- the rows of the table

rows-are : slice_get table PUSH_IMM16 ∷ slice_get table (PUSH_IMM16 + 1) ∷ slice_get table (PUSH_IMM16 + 2) ∷ slice_get table MOV_RM32_IMM32
    ∷ slice_get table CALL_RM16 ∷ slice_get table (CALL_RM16 + 1) ∷ slice_get table (CALL_RM16 + 2)
    ∷ slice_get table JMP_RM16 ∷ slice_get table (JMP_RM16 + 1) ∷ slice_get table (JMP_RM16 + 2) ∷ []
    ≡ Some (push_row B16) ∷ Some (push_row B32) ∷ Some (push_row B64) ∷ Some high_row
    ∷ Some (through_row 2 B16) ∷ Some (through_row 2 B32) ∷ Some (through_row 2 B64)
    ∷ Some (through_row 4 B16) ∷ Some (through_row 4 B32) ∷ Some (through_row 4 B64) ∷ []
unfolding table rows_in spots integer_rows integer_flat x87_rows x87_flat sse_rows sse_flat vex_rows vex_flat
rows-are = refl

-- ---- by code

-- PUSH with an immediate is 68
push : (size : Bits) → slice_get table (push_code size) ≡ Some (push_row size)
unfolding size_number
push B16 = ap (λ (rows : List (Option Row)). get_or rows 0 None) rows-are
push B32 = ap (λ (rows : List (Option Row)). get_or rows 1 None) rows-are
push B64 = ap (λ (rows : List (Option Row)). get_or rows 2 None) rows-are

-- MOV of an immediate of 32 bits is C7 /0
high : slice_get table MOV_RM32_IMM32 ≡ Some high_row
high = ap (λ (rows : List (Option Row)). get_or rows 3 None) rows-are

-- CALL through a register or memory is FF /2
call : (size : Bits) → slice_get table (call_code size) ≡ Some (through_row 2 size)
unfolding size_number
call B16 = ap (λ (rows : List (Option Row)). get_or rows 4 None) rows-are
call B32 = ap (λ (rows : List (Option Row)). get_or rows 5 None) rows-are
call B64 = ap (λ (rows : List (Option Row)). get_or rows 6 None) rows-are

-- JMP through a register or memory is FF /4
jump : (size : Bits) → slice_get table (jump_code size) ≡ Some (through_row 4 size)
unfolding size_number
jump B16 = ap (λ (rows : List (Option Row)). get_or rows 7 None) rows-are
jump B32 = ap (λ (rows : List (Option Row)). get_or rows 8 None) rows-are
jump B64 = ap (λ (rows : List (Option Row)). get_or rows 9 None) rows-are

-- the rows of all of them
pub code_facts : PushedCodeFacts
code_facts = record { push = push; high = high; call = call; jump = jump }
