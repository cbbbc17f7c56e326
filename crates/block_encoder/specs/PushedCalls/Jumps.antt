-- The jump that goes where a near CALL goes, once the return address is pushed (Intel SDM volume 2, CALL, JMP).
use Rattle.std.specs.Prelude.{ℕ, ◌+◌, ◌*◌, ◌^◌, ◌==◌, nat_le, nat_lt, Bool, false, ◌&&◌, if◌then◌else◌, [], ◌∷◌, Option, Some, None, is_none}
use Rattle.x86_values.specs.declared.Bits.{Bits}
use Rattle.x86_values.specs.declared.Bits.TheVariants.{B32, B64}
use Rattle.x86_values.specs.declared.Register.{Register}
use Rattle.x86_values.specs.declared.Register.TheVariants.{R16, R32, R64}
use Rattle.x86_values.specs.declared.DispSize.{DispSize}
use Rattle.x86_values.specs.declared.DispSize.TheVariants.{D8, D32}
use Rattle.x86_values.specs.declared.Mem.{Mem}
use Rattle.x86_values.specs.declared.Operand.{Operand}
use Rattle.x86_values.specs.declared.Operand.TheVariants.{Absent, Reg, Mem as Memory, Near}
use Rattle.x86_values.specs.declared.Instr.{Instr}
use Rattle.x86_values.specs.Wrapping.{width, modulo_width}
use Rattle.instruction_parts.specs.Sizes.{size_bytes}
use Rattle.plain_spelling.specs.Forms.{operand_at}
use Rattle.move_goals.specs.declared.branch_forms.branch.Action.TheVariants.{Jump, Call}
use Rattle.move_goals.specs.BranchForms.Branches.{near_code}
use Rattle.move_goals.specs.BranchForms.Images.{branch_to}
use Rattle.block_encoder.specs.PushedCalls.Rows.{call_code, jump_code}

-- ---- operands that the push changes

-- SP, ESP or RSP
abbrev pub is_stack_pointer : Register → Bool
is_stack_pointer (R16 n) = n == 4
is_stack_pointer (R32 n) = n == 4
is_stack_pointer (R64 n) = n == 4
is_stack_pointer _ = false

-- a register as the jump has to name it; the stack pointer is another behind the push, so nothing names its old value
abbrev pub register_behind : Register → Option Operand
register_behind r = if is_stack_pointer r then None else Some (Reg r)

-- the address size of an address whose base is ESP or RSP
abbrev pub stack_size : Option Register → Option Bits
stack_size (Some (R32 n)) = if n == 4 then Some B32 else None
stack_size (Some (R64 n)) = if n == 4 then Some B64 else None
stack_size _ = None

-- an address without an index lies below its base: its displacement is negative
abbrev pub is_below : Bits → Mem → Bool
is_below asize m = is_none m.index && nat_le (2 ^ width asize) (2 * m.disp)

-- the size of the displacement of an address behind the push: 8 bits where they hold it as a positive number, else 32
abbrev pub raised_size : ℕ → DispSize
raised_size disp = if nat_lt disp 0x80 then D8 else D32

-- an address whose base is the stack pointer, behind the push, which has lowered that pointer by the bytes of the return address
abbrev pub raised_to : Mem → ℕ → Mem
raised_to m disp = record m { disp_size = raised_size disp; disp = disp }

-- the address raised; none where it lies below the pointer, where the push writes
unfoldable pub raised : Bits → Bits → Mem → Option Operand
raised bits asize m =
    if is_below asize m then None else Some (Memory (raised_to m (modulo_width asize (m.disp + size_bytes bits))))

-- an address as the jump has to name it: one at the stack pointer is raised, any other stays, one at RIP too
abbrev pub memory_behind : Bits → Mem → Option Bits → Option Operand
memory_behind bits m None = Some (Memory m)
memory_behind bits m (Some asize) = raised bits asize m

-- an operand as the jump has to name it
unfoldable pub operand_behind : Bits → Operand → Option Operand
operand_behind bits (Reg r) = register_behind r
operand_behind bits (Memory m) = memory_behind bits m (stack_size m.base)
operand_behind bits _ = None

-- ---- the jump

-- the near JMP to an address, with the mode's own operand size (E9)
unfoldable pub jump_to : Bits → ℕ → Instr
jump_to bits target = branch_to (near_code Jump bits) None target

-- the jump of a CALL with an offset
abbrev pub direct_jump : Bits → Operand → Option Instr
direct_jump bits (Near target) = Some (jump_to bits target)
direct_jump bits _ = None

-- the jump of a CALL through a register or memory; it keeps the prefixes
abbrev pub indirect_jump : Bits → Instr → Option Operand → Option Instr
indirect_jump bits i None = None
indirect_jump bits i (Some op) = Some (record i { code = record { 0 = jump_code bits }; ops = op ∷ Absent ∷ Absent ∷ Absent ∷ [] })

-- The jump of a near CALL of the mode's own operand size (E8, FF /2). There is none of anything else, of a CALL of another operand size or a far one too,
-- of a CALL through the stack pointer, nor of one through memory below it.
unfoldable pub jump_of : Bits → Instr → Option Instr
jump_of bits i =
    if i.code.0 == near_code Call bits then direct_jump bits (operand_at i 0)
    else (if i.code.0 == call_code bits then indirect_jump bits i (operand_behind bits (operand_at i 0)) else None)
