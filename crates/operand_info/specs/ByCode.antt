-- The columns of the row of a code.
use Rattle.std.specs.Prelude.{ℕ, List, Option, Some, None, slice_get}
use Rattle.instruction_parts.specs.declared.row_types.Row.{Row}
use Rattle.row_meaning.specs.MemorySize as row
use Rattle.opcode_rows.specs.Table.{table, name_of}
use Rattle.operand_info.specs.declared.columns.Flow.{Flow}
use Rattle.operand_info.specs.declared.columns.Flow.TheVariants.{Next}
use Rattle.operand_info.specs.declared.columns.Access.{Access}
use Rattle.operand_info.specs.declared.columns.Access.TheVariants.{None as NoAccess}
use Rattle.operand_info.specs.Columns.{flow_at, access_at}

-- the flow of a row that may be absent
abbrev pub flow_in : Option Row → List ℕ → Flow
flow_in None name = Next
flow_in (Some r) name = flow_at name r

-- the access to an operand of a row that may be absent
abbrev pub access_in : Option Row → List ℕ → ℕ → Access
access_in None name n = NoAccess
access_in (Some r) name n = access_at name r n

-- the bytes of memory of a row that may be absent
abbrev pub memory_size_in : Option Row → ℕ
memory_size_in None = 0
memory_size_in (Some r) = row.memory_size r

-- where control goes behind an instruction of the code
unfoldable pub flow_of : ℕ → Flow
flow_of code = flow_in (slice_get table code) (name_of code)

-- what an instruction of the code does to operand n
unfoldable pub access_of : ℕ → ℕ → Access
access_of code n = access_in (slice_get table code) (name_of code) n

-- the bytes of the memory operand of the code, 0 where there is none
unfoldable pub memory_size : ℕ → ℕ
memory_size code = memory_size_in (slice_get table code)
