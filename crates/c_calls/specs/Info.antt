-- What an instruction does, as the flat struct of the C interface.
use Rattle.std.specs.Prelude.{ℕ, ℤ, pos, List, [], ◌∷◌, length, slice_get, Option, Some, None, Result, Ok, Err, if◌then◌else◌}
use Rattle.x86_values.specs.declared.Instr.{Instr}
use Rattle.x86_values.specs.Registers.{number}
use Rattle.opcode_rows.specs.Allowed.{is_well_formed}
use Rattle.text_parts.specs.PrefixWords.{shows_memory}
use Rattle.operand_info.specs.declared.columns.Flow.{Flow}
use Rattle.operand_info.specs.declared.columns.Flow.TheVariants.{Next, UnconditionalBranch, IndirectBranch, ConditionalBranch, Return, Call, IndirectCall, Interrupt, Exception}
use Rattle.operand_info.specs.declared.columns.Access.{Access}
use Rattle.operand_info.specs.declared.columns.Access.TheVariants.{None as NoAccess, Read, Write, ReadWrite}
use Rattle.operand_info.specs.declared.registers.RegUse.{RegUse}
use Rattle.operand_info.specs.ByCode.{flow_of, access_of, memory_size}
use Rattle.operand_info.specs.Operands.{uses, first_value, near_value, ip_value}
use Rattle.c_calls.specs.declared.refusal.Refusal.{Refusal}
use Rattle.c_calls.specs.declared.refusal.Refusal.TheVariants.{Instr as NoInstr, Form}
use Rattle.c_calls.specs.declared.flat.FlatUse.{FlatUse}
use Rattle.c_calls.specs.declared.flat.FlatInfo.{FlatInfo}
use Rattle.c_calls.specs.Refusals.{refusal_status}
use Rattle.c_calls.specs.Numbers.{class_number}

-- how control goes on, by its number
abbrev pub flow_number : Flow → ℕ
flow_number Next = 0
flow_number UnconditionalBranch = 1
flow_number IndirectBranch = 2
flow_number ConditionalBranch = 3
flow_number Return = 4
flow_number Call = 5
flow_number IndirectCall = 6
flow_number Interrupt = 7
flow_number Exception = 8

-- what is done to an operand or a register: bit 0 for read, bit 1 for written
abbrev pub access_number : Access → ℕ
access_number NoAccess = 0
access_number Read = 1
access_number Write = 2
access_number ReadWrite = 3

-- whether a value is there that may be absent
abbrev pub presence : Option ℕ → ℕ
presence None = 0
presence (Some x) = 1

-- the value itself, or 0
abbrev pub value_or_zero : Option ℕ → ℕ
value_or_zero None = 0
value_or_zero (Some x) = x

-- a register with its access, zeros where there is none
abbrev pub flat_use : Option RegUse → FlatUse
flat_use None = record { reg_class = 0; reg_number = 0; access = 0 }
flat_use (Some u) = record { reg_class = class_number u.reg; reg_number = number u.reg; access = access_number u.access }

-- register n of some
unfoldable pub use_at : List RegUse → ℕ → FlatUse
use_at us n = flat_use (slice_get us n)

-- the bytes of the memory operand of an instruction: by its row, and 0 where no operand is memory
unfoldable pub memory_bytes : Instr → ℕ
memory_bytes i = if shows_memory i then memory_size i.code.0 else 0

-- what an instruction does, by the columns of its row and by its operands
unfoldable pub flat_info : Instr → FlatInfo
flat_info i =
    let target = first_value near_value i in
    let ip_address = first_value ip_value i in
    let us = uses i in
    let code = i.code.0 in
    record {
      target = value_or_zero target;
      ip_address = value_or_zero ip_address;
      has_target = presence target;
      has_ip_address = presence ip_address;
      flow = flow_number (flow_of code);
      memory_size = memory_bytes i;
      access = access_number (access_of code 0) ∷ access_number (access_of code 1) ∷ access_number (access_of code 2) ∷ access_number (access_of code 3) ∷ [];
      use_count = length us;
      uses = use_at us 0 ∷ use_at us 1 ∷ use_at us 2 ∷ use_at us 3 ∷ use_at us 4 ∷ use_at us 5 ∷ use_at us 6 ∷ use_at us 7 ∷ [];
    }

-- what is told of an instruction, where there is one, of the form that its row asks for
unfoldable pub info_of : Option Instr → Result FlatInfo Refusal
info_of None = Err NoInstr
info_of (Some i) = if is_well_formed i then Ok (flat_info i) else Err Form

-- what is said of an instruction
abbrev pub info_said : Result FlatInfo Refusal → ℤ
info_said (Ok told) = pos 0
info_said (Err why) = refusal_status why

-- what the struct has then: it is unchanged after a refusal
abbrev pub info_left : FlatInfo → Result FlatInfo Refusal → FlatInfo
info_left old (Ok told) = told
info_left old (Err why) = old
