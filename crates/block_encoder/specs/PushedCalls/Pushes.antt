-- The instructions that push a return address (Intel SDM volume 2, PUSH, MOV): one, and in 64-bit mode, where no immediate of PUSH has 64 bits, two.
use Rattle.std.specs.Prelude.{ℕ, ◌+◌, ◌-◌, ◌/◌, ◌%◌, ◌^◌, nat_lt, if◌then◌else◌, false, List, [], ◌∷◌, Some, None}
use Rattle.x86_values.specs.declared.Bits.{Bits}
use Rattle.x86_values.specs.declared.Bits.TheVariants.{B64}
use Rattle.x86_values.specs.declared.Register.TheVariants.{R64}
use Rattle.x86_values.specs.declared.DispSize.TheVariants.{D8}
use Rattle.x86_values.specs.declared.Mem.{Mem}
use Rattle.x86_values.specs.declared.Operand.TheVariants.{Absent, Mem as Memory, Imm}
use Rattle.x86_values.specs.declared.Rep.TheVariants.{None as NoRep}
use Rattle.x86_values.specs.declared.Instr.{Instr}
use Rattle.move_goals.specs.BranchForms.Images.{bare}
use Rattle.block_encoder.specs.declared.pushed_calls.generated_codes.TheConstants.{MOV_RM32_IMM32}
use Rattle.block_encoder.specs.PushedCalls.Rows.{push_code}

-- the immediate of PUSH: the address, and in 64-bit mode its low 32 bits, sign-extended to 64 (2.2.1.5)
unfoldable pub pushed_value : Bits → ℕ → ℕ
pushed_value B64 back = if nat_lt (back % 2 ^ 32) (2 ^ 31) then back % 2 ^ 32 else back % 2 ^ 32 + (2 ^ 64 - 2 ^ 32)
pushed_value _ back = back

-- PUSH of it, with the mode's own operand size (68)
unfoldable pub push_of : Bits → ℕ → Instr
push_of bits back = bare (push_code bits) None (Imm (pushed_value bits back))

-- the upper half of the eight bytes at the top of the stack
abbrev pub upper_half : Mem
upper_half = record { base = Some (R64 4); index = None; scale = 1; disp_size = D8; disp = 4 }

-- MOV of the high 32 bits there; it is always there, so that the length does not depend on the address, and it keeps registers and flags (C7 /0)
unfoldable pub high_half_of : ℕ → Instr
high_half_of back = record {
  code = record { 0 = MOV_RM32_IMM32 };
  lock = false;
  rep = NoRep;
  seg = None;
  asize = Some B64;
  ops = Memory upper_half ∷ Imm (back / 2 ^ 32) ∷ Absent ∷ Absent ∷ [];
}

-- the instructions that push a return address
abbrev pub pushes : Bits → ℕ → List Instr
pushes B64 back = push_of B64 back ∷ high_half_of back ∷ []
pushes bits back = push_of bits back ∷ []
