-- Operands in AT&T.
use Rattle.std.specs.Prelude.{ℕ, ◌+◌, Bool, true, false, ◌&&◌, ◌||◌, ◌==◌, if◌then◌else◌, List, [], ◌++◌, Option, Some, None, bytes_eq, codes}
use Rattle.x86_values.specs.declared.Bits.{Bits}
use Rattle.x86_values.specs.declared.Segment.{Segment}
use Rattle.x86_values.specs.declared.Mem.{Mem}
use Rattle.x86_values.specs.declared.Operand.{Operand}
use Rattle.x86_values.specs.declared.Operand.TheVariants.{Absent as AbsentOperand, Reg, Mem as MemOperand, Imm, Near, Far}
use Rattle.x86_values.specs.declared.Instr.{Instr}
use Rattle.instruction_parts.specs.declared.row_types.Row.{Row}
use Rattle.instruction_parts.specs.declared.row_types.OpKind.{OpKind}
use Rattle.instruction_parts.specs.declared.row_types.OpKind.TheVariants.{Ev}
use Rattle.row_fit.specs.Fits.{kind_at}
use Rattle.text_parts.specs.declared.style.Style.TheVariants.{Att}
use Rattle.text_parts.specs.Numbers.{number}
use Rattle.text_parts.specs.Registers.{register, segment_override}
use Rattle.text_parts.specs.Addresses.{is_relative, is_absolute, signed_displacement, lone_displacement, base_text, scale_text}
use Rattle.text_parts.specs.PrefixWords.{text_address_size}
use Rattle.text_parts.specs.Layout.{is_far_pointer, nth_operand, separator}

-- ---- addresses

-- an index with its scale behind a comma, or nothing
unfoldable pub att_index : Bits → Mem → List ℕ
att_index asize m =
    elim m.index [ None ↦ [] | Some r ↦ codes "," ++ (register Att r ++ scale_text (codes ",") asize m.scale) ]

-- base and index in parentheses
unfoldable pub att_registers : Bits → Mem → List ℕ
att_registers asize m = codes "(" ++ (base_text Att m.base ++ (att_index asize m ++ codes ")"))

-- a target in front of the instruction pointer
unfoldable pub att_relative : Mem → List ℕ
att_relative m = number Att m.disp ++ (codes "(" ++ (base_text Att m.base ++ codes ")"))

-- an address: the displacement, then base and index
unfoldable pub att_address : Bits → Mem → List ℕ
att_address asize m =
    if is_relative m then att_relative m
    else (if is_absolute m then lone_displacement Att m
    else (signed_displacement Att asize m ++ att_registers asize m))

-- an address with its segment
unfoldable pub att_memory : Option Segment → Bits → Mem → List ℕ
att_memory seg asize m = segment_override Att seg ++ att_address asize m

-- ---- operands

-- an operand
unfoldable pub att_operand : Bits → Instr → Operand → List ℕ
att_operand bits instr AbsentOperand = []
att_operand bits instr (Reg r) = register Att r
att_operand bits instr (Imm x) = codes "$" ++ number Att x
att_operand bits instr (Near x) = number Att x
att_operand bits instr (Far selector offset) =
    codes "$" ++ (number Att selector ++ (codes ", $" ++ number Att offset))
att_operand bits instr (MemOperand m) = att_memory instr.seg (text_address_size bits instr) m

-- the kind holds the target of an indirect branch, where the name is that of a branch
unfoldable pub holds_target : OpKind → Bool
holds_target Ev = true
holds_target kind = is_far_pointer kind

-- a jump or a call that may be indirect
unfoldable pub is_branch_name : List ℕ → Bool
is_branch_name name =
    bytes_eq name (codes "call") || bytes_eq name (codes "jmp") || bytes_eq name (codes "callf") || bytes_eq name (codes "jmpf")

-- the star in front of the target of an indirect call or jump, the first operand
unfoldable pub star : Row → List ℕ → ℕ → List ℕ
star row name n =
    if (n == 0) && (is_branch_name name && holds_target (kind_at row 0)) then codes "*" else []

-- no operand stands behind operand n, which so comes first
unfoldable pub is_last : Instr → ℕ → Bool
is_last instr n = (n == 3) || (elim (nth_operand instr (n + 1)) [ AbsentOperand ↦ true | _ ↦ false ])

-- operand n with what stands in front of it
unfoldable pub att_part : Bits → Row → List ℕ → Instr → ℕ → List ℕ
att_part bits row name instr n =
    separator (is_last instr n) (nth_operand instr n)
    ++ (star row name n ++ att_operand bits instr (nth_operand instr n))
