-- What is read off the operands of an instruction.
use Rattle.std.specs.Prelude.{ℕ, List, [], ◌∷◌, ◌++◌, Option, Some, None}
use Rattle.std.specs.Option.{option_or}
use Rattle.x86_values.specs.declared.Register.{Register}
use Rattle.x86_values.specs.declared.Register.TheVariants.{Eip, Rip}
use Rattle.x86_values.specs.declared.Operand.{Operand}
use Rattle.x86_values.specs.declared.Operand.TheVariants.{Reg, Mem as Memory, Near}
use Rattle.x86_values.specs.declared.Instr.{Instr}
use Rattle.plain_spelling.specs.Forms.{operand_at}
use Rattle.operand_info.specs.declared.columns.Access.{Access}
use Rattle.operand_info.specs.declared.columns.Access.TheVariants.{None as NoAccess, Read}
use Rattle.operand_info.specs.declared.registers.RegUse.{RegUse}
use Rattle.operand_info.specs.ByCode.{access_of}

-- ---- registers

-- a register operand with its access, nothing where there is none
unfoldable pub operand_use : Register → Access → List RegUse
operand_use r NoAccess = []
operand_use r access = record { reg = r; access = access } ∷ []

-- a register of an address is read
abbrev pub address_use : Option Register → List RegUse
address_use None = []
address_use (Some r) = record { reg = r; access = Read } ∷ []

-- the registers of an operand: itself, or the base and then the index of an address
unfoldable pub uses_of : Operand → Access → List RegUse
uses_of (Reg r) access = operand_use r access
uses_of (Memory m) access = address_use m.base ++ address_use m.index
uses_of _ access = []

-- the registers of operand n
unfoldable pub uses_at : Instr → ℕ → List RegUse
uses_at i n = uses_of (operand_at i n) (access_of i.code.0 n)

-- the registers of all operands, in their order
unfoldable pub uses : Instr → List RegUse
uses i = uses_at i 0 ++ (uses_at i 1 ++ (uses_at i 2 ++ uses_at i 3))

-- ---- targets

-- the target of a near branch
unfoldable pub near_value : Operand → Option ℕ
near_value (Near x) = Some x
near_value _ = None

-- the address of a memory operand with RIP or EIP as its base, which its displacement holds (2.2.1.6)
unfoldable pub ip_value : Operand → Option ℕ
ip_value (Memory m) = elim m.base [ None ↦ None | Some r ↦ elim r [ Rip ↦ Some m.disp | Eip ↦ Some m.disp | _ ↦ None ] ]
ip_value _ = None

-- the value of the first operand that has one
abbrev pub first_value : (Operand → Option ℕ) → Instr → Option ℕ
first_value value i =
    option_or (value (operand_at i 0)) (option_or (value (operand_at i 1)) (option_or (value (operand_at i 2)) (value (operand_at i 3))))
