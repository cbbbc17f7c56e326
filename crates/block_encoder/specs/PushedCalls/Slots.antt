-- What the instructions that push a return address leave at the top of the stack (Intel SDM volume 2, PUSH, MOV; volume 1, 1.3.1).
use Rattle.std.specs.Prelude.{ℕ, ◌/◌, ◌^◌, List, ◌++◌, take}
use Rattle.x86_values.specs.declared.Bits.{Bits}
use Rattle.x86_values.specs.declared.Bits.TheVariants.{B64}
use Rattle.instruction_parts.specs.Sizes.{size_bytes}
use Rattle.plain_spelling.specs.Values.{low_bytes}
use Rattle.block_encoder.specs.PushedCalls.Pushes.{pushed_value}

-- the bytes that PUSH writes: its immediate in the bytes of the mode's operand size, the lowest first
abbrev pub push_writes : Bits → ℕ → List ℕ
push_writes bits back = low_bytes (size_bytes bits) (pushed_value bits back)

-- the bytes that MOV writes over the last four of them
abbrev pub high_writes : ℕ → List ℕ
high_writes back = low_bytes 4 (back / 2 ^ 32)

-- the bytes at the top of the stack behind the instructions
abbrev pub slot_after : Bits → ℕ → List ℕ
slot_after B64 back = take 4 (push_writes B64 back) ++ high_writes back
slot_after bits back = push_writes bits back
