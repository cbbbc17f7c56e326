-- What a row does: where control goes, and what happens to each operand, by rule over the row's name and the kinds of its operands.
use Rattle.std.specs.Prelude.{ℕ, zero, suc, ◌/◌, Bool, true, false, not, ◌&&◌, ◌||◌, ◌==◌, if◌then◌else◌, List}
use Rattle.instruction_parts.specs.declared.row_types.Row.{Row}
use Rattle.instruction_parts.specs.declared.row_types.Map.TheVariants.{One}
use Rattle.instruction_parts.specs.declared.row_types.Place.TheVariants.{Memory as OnlyMemory}
use Rattle.instruction_parts.specs.declared.row_types.OpKind.TheVariants.{Absent, Jb, Jz, Ap, Mx, Vx, GatherX, GatherL}
use Rattle.instruction_parts.specs.Sizes.{is_vex_row}
use Rattle.row_fit.specs.Fits.{kind_at}
use Rattle.operand_info.specs.declared.columns.Flow.{Flow}
use Rattle.operand_info.specs.declared.columns.Flow.TheVariants.{Next, UnconditionalBranch, IndirectBranch, ConditionalBranch, Return, Call, IndirectCall, Interrupt, Exception}
use Rattle.operand_info.specs.declared.columns.Access.{Access}
use Rattle.operand_info.specs.declared.columns.Access.TheVariants.{None, Read, Write, ReadWrite}
use Rattle.operand_info.specs.Names.{legacy_name, is_jump, is_call, is_conditional, is_return, is_system_call, is_interrupt, is_undefined, is_hint, is_exchange, is_masked_move, is_multiply_add, is_merging, is_half_move, is_mulx, is_imul, is_integer_reader, is_x87_reader, is_vector_reader, is_vector_test, is_x87_writer, is_writing_family, is_integer_writer, is_vector_writer, is_address_only}

-- ---- tests of a row

-- the row has operand n
unfoldable pub has_operand : Row → ℕ → Bool
has_operand row n = elim (kind_at row n) [ Absent ↦ false | _ ↦ true ]

-- the target stands in the instruction, as an offset or a far pointer
unfoldable pub has_direct_target : Row → Bool
has_direct_target row = elim (kind_at row 0) [ Jb ↦ true | Jz ↦ true | Ap ↦ true | _ ↦ false ]

-- the second operand is the address of a gather (2.3.12)
unfoldable pub is_gather_row : Row → Bool
is_gather_row row = elim (kind_at row 1) [ GatherX ↦ true | GatherL ↦ true | _ ↦ false ]

-- the first operand is memory of a vector's size
unfoldable pub writes_vector_memory : Row → Bool
writes_vector_memory row = elim (kind_at row 0) [ Mx ↦ true | _ ↦ false ]

-- the first operand is the vector register that ModRM.reg names
unfoldable pub loads_vector : Row → Bool
loads_vector row = elim (kind_at row 0) [ Vx ↦ true | _ ↦ false ]

-- the row is one of the x87 unit, opcode bytes D8 to DF, with memory (A.5.2)
unfoldable pub is_x87_memory : Row → Bool
is_x87_memory row =
    not (is_vex_row row) && (elim row.map [ One ↦ row.opcode / 8 == 27 | _ ↦ false ])
    && (elim row.place [ OnlyMemory ↦ true | _ ↦ false ])

-- ---- flow

-- where control goes behind an instruction of the row
unfoldable pub flow_at : List ℕ → Row → Flow
flow_at name row =
    if is_jump name then (if has_direct_target row then UnconditionalBranch else IndirectBranch)
    else (if is_conditional name then ConditionalBranch
    else (if is_return name then Return
    else (if is_call name then (if has_direct_target row then Call else IndirectCall)
    else (if is_system_call name then Call
    else (if is_interrupt name then Interrupt
    else (if is_undefined name then Exception
    else Next))))))

-- ---- access

-- the first operand is read and written: both of an exchange, what a gather or a masked store keeps in part, the accumulator of FMA, and
-- destinations of SSE whose upper part or other half stays
unfoldable pub updates_first : List ℕ → Row → Bool
updates_first name row =
    is_exchange name || is_gather_row row || (is_masked_move name && writes_vector_memory row) || is_multiply_add name
    || (not (is_vex_row row) && (is_merging name || (is_half_move name && loads_vector row)))

-- the first operand is only read; VEX forms go by their legacy names
unfoldable pub reads_first : List ℕ → Row → Bool
reads_first name row =
    let legacy = legacy_name name row in
    is_integer_reader legacy || is_conditional name || (is_imul name && not (has_operand row 1))
    || is_x87_reader legacy || (is_x87_memory row && not (is_x87_writer name))
    || is_vector_reader legacy || is_vector_test name

-- the first operand is only written: on every VEX row that no earlier rule names, and of these names
unfoldable pub writes_first : List ℕ → Row → Bool
writes_first name row =
    is_vex_row row || is_writing_family name || is_integer_writer name || (is_imul name && has_operand row 2)
    || is_x87_writer name || is_vector_writer name

-- the access of the first operand, by the first rule that names it
unfoldable pub first_access : List ℕ → Row → Access
first_access name row =
    if is_hint name then None
    else (if updates_first name row then ReadWrite
    else (if is_mulx name then Write
    else (if reads_first name row then Read
    else (if writes_first name row then Write
    else ReadWrite))))

-- the second operand is only read, but for an address that is only taken, an exchange, and the low half of MULX
unfoldable pub second_access : List ℕ → Row → Access
second_access name row =
    if is_address_only name then None
    else (if is_exchange name then ReadWrite
    else (if is_mulx name then Write
    else Read))

-- the third operand is only read, but for the mask of a gather, which it clears
unfoldable pub third_access : Row → Access
third_access row = if is_gather_row row then ReadWrite else Read

-- what an instruction of the row does to the whole of operand n, which the row has
abbrev pub access_by_place : List ℕ → Row → ℕ → Access
access_by_place name row zero = first_access name row
access_by_place name row (suc zero) = second_access name row
access_by_place name row (suc (suc zero)) = third_access row
access_by_place name row (suc (suc (suc n))) = Read

-- what an instruction of the row does to the whole of operand n, a partial or conditional write being a read and a write; None of an operand
-- that the row does not have
unfoldable pub access_at : List ℕ → Row → ℕ → Access
access_at name row n = elim (kind_at row n) [ Absent ↦ None | _ ↦ access_by_place name row n ]
