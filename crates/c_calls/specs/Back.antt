-- The instruction that a flat struct of the C interface stands for, if it stands for one.
use Rattle.std.specs.Prelude.{ℕ, Bool, List, [], ◌∷◌, ◌==◌, if◌then◌else◌, Option, Some, None}
use Rattle.x86_values.specs.declared.Bits.{Bits}
use Rattle.x86_values.specs.declared.Segment.{Segment}
use Rattle.x86_values.specs.declared.Register.{Register}
use Rattle.x86_values.specs.declared.DispSize.{DispSize}
use Rattle.x86_values.specs.declared.Rep.{Rep}
use Rattle.x86_values.specs.declared.Operand.{Operand}
use Rattle.x86_values.specs.declared.Operand.TheVariants.{Absent, Reg, Mem as Memory, Imm, Near, Far}
use Rattle.x86_values.specs.declared.Instr.{Instr}
use Rattle.c_calls.specs.declared.flat.FlatOperand.{FlatOperand}
use Rattle.c_calls.specs.declared.flat.FlatInstr.{FlatInstr}
use Rattle.c_calls.specs.Numbers.{register_numbered, base_numbered, disp_numbered, lock_numbered, rep_numbered, prefix_numbered, asize_numbered}

-- what stands at a place, where something was written to it
abbrev pub written_value : {T : Type 0} → Option (Unit {0}) → T → Option T
written_value None place = None
written_value (Some done) place = Some place

-- ---- operands

-- a register operand
abbrev pub register_operand : Option Register → Option Operand
register_operand None = None
register_operand (Some r) = Some (Reg r)

-- an address of these parts, where each is one
abbrev pub memory_from_fields : ℕ → ℕ → Option (Option Register) → Option (Option Register) → Option DispSize → Option Operand
memory_from_fields scale disp (Some base) (Some index) (Some size) =
    Some (Memory (record { base = base; index = index; scale = scale; disp_size = size; disp = disp }))
memory_from_fields scale disp _ _ _ = None

-- the operand of a struct: what its kind says, of the fields that this kind uses
unfoldable pub operand_back : FlatOperand → Option Operand
operand_back f =
    if f.kind == 0 then Some Absent
    else (if f.kind == 1 then register_operand (register_numbered f.reg_class f.reg_number)
    else (if f.kind == 2 then memory_from_fields f.scale f.value (base_numbered f.reg_class f.reg_number) (base_numbered f.index_class f.index_number) (disp_numbered f.disp_bits)
    else (if f.kind == 3 then Some (Imm f.value)
    else (if f.kind == 4 then Some (Near f.value)
    else (if f.kind == 5 then Some (Far f.selector f.offset) else None)))))

-- ---- instructions

-- the operands together, where each is one
abbrev pub operands_of : Option Operand → Option Operand → Option Operand → Option Operand → Option (List Operand)
operands_of (Some a) (Some b) (Some c) (Some d) = Some (a ∷ b ∷ c ∷ d ∷ [])
operands_of _ _ _ _ = None

-- the four operands of a struct, where each is one
unfoldable pub operands_back : FlatInstr → Option (List Operand)
operands_back f = operands_of (operand_back f.op0) (operand_back f.op1) (operand_back f.op2) (operand_back f.op3)

-- an instruction of these parts, where each is one
abbrev pub instr_from_fields : ℕ → Option (List Operand) → Option Bool → Option Rep → Option (Option Segment) → Option (Option Bits) → Option Instr
instr_from_fields code (Some ops) (Some lock) (Some rep) (Some seg) (Some asize) =
    Some (record { code = record { 0 = code }; lock = lock; rep = rep; seg = seg; asize = asize; ops = ops })
instr_from_fields code _ _ _ _ _ = None

-- the instruction of a struct; its length plays no part
unfoldable pub instr_back : FlatInstr → Option Instr
instr_back f =
    instr_from_fields f.code (operands_back f) (lock_numbered f.lock) (rep_numbered f.rep) (prefix_numbered f.segment) (asize_numbered f.asize)
