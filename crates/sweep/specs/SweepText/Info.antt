-- What an instruction does, in words: its flow, the access of its operands, the size of its memory operand, and the addresses that it names.
use Rattle.std.specs.Prelude.{ℕ, not, ◌&&◌, ◌==◌, if◌then◌else◌, List, [], ◌++◌, Option, Some, None, codes, decimal}
use Rattle.x86_values.specs.declared.Operand.{Operand}
use Rattle.x86_values.specs.declared.Operand.TheVariants.{Absent}
use Rattle.x86_values.specs.declared.Instr.{Instr}
use Rattle.plain_spelling.specs.Forms.{operand_at}
use Rattle.operand_info.specs.declared.columns.Flow.{Flow}
use Rattle.operand_info.specs.declared.columns.Flow.TheVariants.{Next, UnconditionalBranch, IndirectBranch, ConditionalBranch, Return, Call, IndirectCall, Interrupt, Exception}
use Rattle.operand_info.specs.declared.columns.Access.{Access}
use Rattle.operand_info.specs.declared.columns.Access.TheVariants.{None as NoAccess, Read, Write, ReadWrite}
use Rattle.operand_info.specs.ByCode.{flow_of, access_of, memory_size}
use Rattle.operand_info.specs.Operands.{first_value, near_value, ip_value}
use Rattle.text_parts.specs.PrefixWords.{shows_memory}
use Rattle.text_parts.specs.declared.style.Style.TheVariants.{Intel}
use Rattle.text_parts.specs.Numbers.{number}

-- the name of a flow
unfoldable pub flow_name : Flow → List ℕ
flow_name Next = codes "Next"
flow_name UnconditionalBranch = codes "UnconditionalBranch"
flow_name IndirectBranch = codes "IndirectBranch"
flow_name ConditionalBranch = codes "ConditionalBranch"
flow_name Return = codes "Return"
flow_name Call = codes "Call"
flow_name IndirectCall = codes "IndirectCall"
flow_name Interrupt = codes "Interrupt"
flow_name Exception = codes "Exception"

-- an access behind a space: none, a read, a write, or both
unfoldable pub access_name : Access → List ℕ
access_name NoAccess = codes " n"
access_name Read = codes " r"
access_name Write = codes " w"
access_name ReadWrite = codes " rw"

-- the access of an operand, nothing where there is none
unfoldable pub access_word : Operand → Access → List ℕ
access_word Absent access = []
access_word _ access = access_name access

-- the access of operand n of an instruction, nothing where it has no such operand
unfoldable pub operand_word : Instr → ℕ → List ℕ
operand_word i n = access_word (operand_at i n) (access_of i.code.0 n)

-- the size of the memory operand in bytes, where there is one that has a size
unfoldable pub memory_word : Instr → List ℕ
memory_word i =
    if shows_memory i && not (memory_size i.code.0 == 0) then codes " m" ++ decimal (memory_size i.code.0) else []

-- an address in lower-case hexadecimal digits behind a sign, nothing where there is none
unfoldable pub signed_address : List ℕ → Option ℕ → List ℕ
signed_address sign None = []
signed_address sign (Some address) = sign ++ number Intel address

-- the flow, the accesses, the size, the target of a near branch, and the address of an operand relative to the next instruction
unfoldable pub info_text : Instr → List ℕ
info_text i =
    flow_name (flow_of i.code.0) ++ operand_word i 0 ++ operand_word i 1 ++ operand_word i 2 ++ operand_word i 3 ++ memory_word i
    ++ signed_address (codes " -> ") (first_value near_value i) ++ signed_address (codes " @ ") (first_value ip_value i)
