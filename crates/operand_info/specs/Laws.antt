-- What the columns of every row keep to.
use Rattle.std.specs.Prelude.{Bool, true, false}
use Rattle.instruction_parts.specs.declared.row_types.Row.{Row}
use Rattle.instruction_parts.specs.declared.kinds.Method.{Method}
use Rattle.instruction_parts.specs.declared.kinds.Method.TheVariants as method
use Rattle.operand_info.specs.declared.columns.Flow.{Flow}
use Rattle.operand_info.specs.declared.columns.Flow.TheVariants.{UnconditionalBranch, ConditionalBranch, Call}
use Rattle.operand_info.specs.Columns.{has_operand}

-- the operand is a constant of the instruction: an immediate, an offset or a far pointer
unfoldable pub is_constant : Method → Bool
is_constant method.AsWritten = true
is_constant method.Extended = true
is_constant method.One = true
is_constant method.Near = true
is_constant method.Pointer = true
is_constant _ = false

-- the flow goes to a target that the instruction holds; SYSCALL and SYSENTER are calls without an operand
unfoldable pub goes_to_operand : Flow → Row → Bool
goes_to_operand UnconditionalBranch row = true
goes_to_operand ConditionalBranch row = true
goes_to_operand Call row = has_operand row 0
goes_to_operand _ row = false
