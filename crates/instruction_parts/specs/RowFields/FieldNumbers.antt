-- The sizes of the fields as numbers.
use Rattle.std.specs.Prelude.{Bool, ◌&&◌, if◌then◌else◌}
use Rattle.x86_values.specs.declared.Bits.{Bits}
use Rattle.x86_values.specs.declared.Bits.TheVariants.{B64}
use Rattle.instruction_parts.specs.Counting.{is_64}
use Rattle.instruction_parts.specs.Sizes.{default_size, other_size}

-- the operand size by the prefixes and the mode alone: W gives 64 in 64-bit mode, else 66 the other of 16 and 32 (Intel SDM volume 2, 2.1.1 and 2.2.1.2)
unfoldable pub plain_size : Bits → Bool → Bool → Bits
plain_size bits size66 w = if is_64 bits && w then B64 else (if size66 then other_size bits else default_size bits)
