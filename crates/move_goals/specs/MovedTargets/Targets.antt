-- Where an instruction is aimed: the target of a near branch, or the address of an operand at RIP or EIP; and the same instruction aimed
-- elsewhere (Intel SDM volume 2, 2.2.1.6; CALL, JMP, Jcc).
use Rattle.std.specs.Prelude.{ℕ, map, Option, Some, None, slice_get, unwrap_or}
use Rattle.std.specs.Option.{option_or}
use Rattle.x86_values.specs.declared.Bits.{Bits}
use Rattle.x86_values.specs.declared.Register.{Register}
use Rattle.x86_values.specs.declared.Register.TheVariants.{Eip, Rip}
use Rattle.x86_values.specs.declared.Operand.{Operand}
use Rattle.x86_values.specs.declared.Operand.TheVariants.{Mem as Memory, Near}
use Rattle.x86_values.specs.declared.Instr.{Instr}
use Rattle.instruction_parts.specs.declared.row_types.Row.{Row}
use Rattle.plain_spelling.specs.Forms.{operand_at}
use Rattle.plain_spelling.specs.PlainTail.{plain_len}
use Rattle.opcode_rows.specs.Table.{table}
use Rattle.operand_info.specs.Operands.{near_value, ip_value, first_value}
use Rattle.branch_sizes.specs.declared.plan.Reach.{Reach}
use Rattle.branch_sizes.specs.declared.plan.Reach.TheVariants.{Always, Signed32, Below}

-- ---- the target

-- the near target, else the address at RIP or EIP; far pointers and absolute addresses are no targets
unfoldable pub target_of : Instr → Option ℕ
target_of i = option_or (first_value near_value i) (first_value ip_value i)

-- ---- another target

-- an address at RIP or EIP moves to another one
unfoldable pub aimed_base : ℕ → Operand → Option Register → Operand
aimed_base t (Memory m) (Some Rip) = Memory (record m { disp = t })
aimed_base t (Memory m) (Some Eip) = Memory (record m { disp = t })
aimed_base t op base = op

-- an operand, with another target where it is one
unfoldable pub aimed_operand : ℕ → Operand → Operand
aimed_operand t (Near x) = Near t
aimed_operand t (Memory m) = aimed_base t (Memory m) m.base
aimed_operand t op = op

-- the instruction, with another target where it has one
unfoldable pub with_target : ℕ → Instr → Instr
with_target t i = record i { ops = map (aimed_operand t) i.ops }

-- ---- which targets an instruction other than a relative branch reaches

-- an address at RIP is reached at a distance of a signed number of 32 bits, one at EIP where it is below 2 to the power of 32 (2.2.1.6)
unfoldable pub base_reach : Option Register → Option Reach
base_reach (Some Rip) = Some Signed32
base_reach (Some Eip) = Some (Below 32)
base_reach _ = None

-- what an operand at RIP or EIP reaches
unfoldable pub operand_reach : Operand → Option Reach
operand_reach (Memory m) = base_reach m.base
operand_reach _ = None

-- what the operands of an instruction reach; without an address at RIP or EIP there is nothing to reach
unfoldable pub target_reach : Instr → Reach
target_reach i =
    unwrap_or (option_or (operand_reach (operand_at i 0)) (option_or (operand_reach (operand_at i 1))
    (option_or (operand_reach (operand_at i 2)) (operand_reach (operand_at i 3))))) Always

-- ---- the length

-- the length of the plain spelling by the row of the code, 0 without one
abbrev pub plain_length_by : Bits → Option Row → Instr → ℕ
plain_length_by bits None i = 0
plain_length_by bits (Some row) i = plain_len bits row i

-- how many bytes the plain spelling of an instruction has, wherever it stands and is aimed
unfoldable pub plain_length : Bits → Instr → ℕ
plain_length bits i = plain_length_by bits (slice_get table i.code.0) i
