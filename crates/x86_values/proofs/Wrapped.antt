-- A number that is wrapped is wrapped for good.
use Rattle.std.proofs.Common.{◌≡◌, ℕ, arith}
use Rattle.x86_values.specs.declared.Bits.{Bits}
use Rattle.x86_values.specs.declared.Bits.TheVariants.{B16, B32, B64}
use Rattle.x86_values.specs.Wrapping.{modulo_width}

-- an address that wraps twice wraps once
pub twice : (bits : Bits) (x : ℕ) → modulo_width bits (modulo_width bits x) ≡ modulo_width bits x
twice B16 x = omega arith
twice B32 x = omega arith
twice B64 x = omega arith
