-- Relative branches: the rows with an offset as their operand, and the code numbers of the rows that their images use (Intel SDM volume 2, CALL, JMP,
-- Jcc, LOOP).
use Rattle.std.specs.Prelude.{ℕ, ◌+◌, ◌*◌, ◌%◌, ◌==◌, Bool, true, false, not, ◌&&◌, nat_lt, if◌then◌else◌, Option, Some, None, slice_get, is_some, bit_xor}
use Rattle.x86_values.specs.Modes.{size_number}
use Rattle.x86_values.specs.declared.Bits.{Bits}
use Rattle.x86_values.specs.declared.Bits.TheVariants.{B16, B32, B64}
use Rattle.x86_values.specs.declared.Instr.{Instr}
use Rattle.instruction_parts.specs.declared.row_types.Row.{Row}
use Rattle.instruction_parts.specs.declared.row_types.Size.{Size}
use Rattle.instruction_parts.specs.declared.row_types.Size.TheVariants.{O16, O32}
use Rattle.instruction_parts.specs.declared.row_types.OpKind.TheVariants.{Jb, Jz}
use Rattle.row_fit.specs.Fits.{kind_at}
use Rattle.opcode_rows.specs.Table.{table}
use Rattle.operand_info.specs.Operands.{near_value, first_value}
use Rattle.move_goals.specs.declared.branch_forms.branch.Action.{Action}
use Rattle.move_goals.specs.declared.branch_forms.branch.Action.TheVariants.{Jump, Call, Condition, Count}
use Rattle.move_goals.specs.declared.branch_forms.branch.RelativeBranch.{RelativeBranch}
use Rattle.move_goals.specs.declared.branch_forms.generated_codes.TheConstants.{JMP_REL8, JMP_REL16, CALL_REL16, JO_REL8, JO_REL16, LOOPNE_REL8, JMP_RM64, CALL_RM64}

-- ---- which instructions are relative branches

-- the operand size of the row of a relative branch
unfoldable pub size_of : Size → Bits
size_of O16 = B16
size_of O32 = B32
size_of _ = B64

-- what a branch with an offset of 8 bits does: EB jumps, 70 to 7F jump on a condition, E0 to E3 on a counter
unfoldable pub short_action : ℕ → Action
short_action op = if op == 0xEB then Jump else (if nat_lt op 0x80 then Condition (op % 16) else Count (op % 4))

-- what a branch with an offset of 16 or 32 bits does: E8 calls, E9 jumps, 0F 80 to 0F 8F jump on a condition
unfoldable pub near_action : ℕ → Action
near_action op = if op == 0xE8 then Call else (if op == 0xE9 then Jump else Condition (op % 16))

-- the relative branch of a row: one whose first operand is an offset
unfoldable pub branch_in : Row → Option RelativeBranch
branch_in row =
    elim (kind_at row 0) [
      | Jb ↦ Some (record { action = short_action row.opcode; is_short = true; size = size_of row.size })
      | Jz ↦ Some (record { action = near_action row.opcode; is_short = false; size = size_of row.size })
      | _ ↦ None
    ]

-- the relative branch of a row that may be absent
abbrev pub branch_by : Option Row → Option RelativeBranch
branch_by None = None
branch_by (Some row) = branch_in row

-- the relative branch that an instruction is, if it has a near target
unfoldable pub branch_of : Instr → Option RelativeBranch
branch_of i = if is_some (first_value near_value i) then branch_by (slice_get table i.code.0) else None

-- a CALL is near, a branch on a counter is short; there are 16 conditions and 4 counters
abbrev pub in_range : Action → Bool → Bool
in_range Jump is_short = true
in_range Call is_short = not is_short
in_range (Condition n) is_short = nat_lt n 16
in_range (Count n) is_short = is_short && nat_lt n 4

-- 64-bit mode has branches of 64 bits alone, and the other modes have none
abbrev pub is_pair : Bits → Bits → Bool
is_pair B64 B64 = true
is_pair B64 _ = false
is_pair _ B64 = false
is_pair _ _ = true

-- ---- codes: rows that differ in the operand size alone stand one behind another, 16, 32, 64

-- the code of the branch with an offset of 8 bits; a CALL has none, and its own code stands for it
unfoldable pub short_code : Action → Bits → ℕ
short_code Jump size = JMP_REL8 + size_number size
short_code Call size = CALL_REL16 + size_number size
short_code (Condition n) size = JO_REL8 + 3 * n + size_number size
short_code (Count n) size = LOOPNE_REL8 + 3 * n + size_number size

-- the code of the branch with an offset of 16 or 32 bits; a branch on a counter has none, and that of JMP stands for it
unfoldable pub near_code : Action → Bits → ℕ
near_code Jump size = JMP_REL16 + size_number size
near_code Call size = CALL_REL16 + size_number size
near_code (Condition n) size = JO_REL16 + 3 * n + size_number size
near_code (Count n) size = JMP_REL16 + size_number size

-- the code of a branch as it stands
abbrev pub own_code : RelativeBranch → ℕ
own_code b = if b.is_short then short_code b.action b.size else near_code b.action b.size

-- the code of CALL and JMP through memory in 64-bit mode
unfoldable pub far_code : Action → ℕ
far_code Call = CALL_RM64
far_code _ = JMP_RM64

-- the other condition: the lowest bit of its number changes (B.1.4.7)
unfoldable pub opposite_condition : ℕ → ℕ
opposite_condition n = bit_xor n 1
