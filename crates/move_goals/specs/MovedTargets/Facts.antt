-- What holds of plain spellings wherever they stand and are aimed, and of what is spelled.
use Rattle.std.specs.Prelude.{◌≡◌, ◌⊎◌, ℕ, ◌+◌, ◌*◌, ◌^◌, ◌≤◌, ◌<◌, true, List, length, Some, None, Ok, slice_get}
use Rattle.x86_values.specs.declared.Bits.{Bits}
use Rattle.x86_values.specs.declared.Bits.TheVariants.{B64}
use Rattle.x86_values.specs.declared.Instr.{Instr}
use Rattle.x86_values.specs.Wrapping.{width, modulo_width}
use Rattle.instruction_parts.specs.declared.row_types.Row.{Row}
use Rattle.row_relation.specs.Spells.{Spells}
use Rattle.plain_spelling.specs.Values.{is_extended_of, distance}
use Rattle.plain_spelling.specs.PlainTail.{plain_len}
use Rattle.opcode_rows.specs.Table.{table}
use Rattle.operand_info.specs.Operands.{near_value, first_value}
use Rattle.encoder.specs.Encoding.{encoding}
use Rattle.branch_sizes.specs.Layout.{Reaches}
use Rattle.move_goals.specs.MovedTargets.Targets.{target_of, with_target, target_reach, plain_length}

-- which addresses an offset holds in 64-bit mode
pub record DistanceFacts : Type 0 where
  -- a number of 64 bits that is a signed one of n bytes, of which half the range is h
  pub signed : (n h x : ℕ) → 2 ^ (8 * n) ≡ 2 * h → x < 2 ^ 64 → (x < h) ⊎ (2 ^ 64 ≤ x + h) → is_extended_of n 64 x ≡ true
  -- an address at such a distance from the end of some bytes is held, and one a few bytes behind it, also where it wraps
  pub reached : (n h : ℕ) → 2 ^ (8 * n) ≡ 2 * h → h ≤ 2 ^ 31 → (place len t : ℕ) → 1 ≤ len → place + len ≤ 2 ^ 64 → t < 2 ^ 64
      → (place + len ≤ t + h) × (t < place + len + h) → is_extended_of n 64 (distance B64 (modulo_width B64 (modulo_width B64 place + len)) t) ≡ true
  pub over-reached : (place len d : ℕ) → 1 ≤ len → place + len ≤ 2 ^ 64 → d < 128
      → is_extended_of 1 64 (distance B64 (modulo_width B64 (modulo_width B64 place + len)) (modulo_width B64 (place + len + d))) ≡ true

-- plain spellings, where they stand and what they are aimed at
pub record TargetFacts : Type 0 where
  -- the plain length is that of the plain spelling by the row of the code, which has a byte
  pub plain_length-row : (bits : Bits) (i : Instr) (row : Row) → slice_get table i.code.0 ≡ Some row → plain_length bits i ≡ plain_len bits row i
  pub some_byte : (bits : Bits) (row : Row) (i : Instr) → 1 ≤ plain_len bits row i
  -- it is that of the encoding, and does not depend on the target
  pub encoding-length : (bits : Bits) (ip : ℕ) (i : Instr) (bytes : List ℕ) → encoding bits ip i ≡ Ok bytes → length bytes ≡ plain_length bits i
  pub with_target-length : (bits : Bits) (t : ℕ) (i : Instr) → plain_length bits (with_target t i) ≡ plain_length bits i
  -- what has no target stays as it is
  pub untargeted-with_target : (t : ℕ) (i : Instr) → length i.ops ≡ 4 → target_of i ≡ None → with_target t i ≡ i
  -- what is spelled has a plain length of 1 to 15 bytes
  pub spelled-length : (bits : Bits) (ip : ℕ) (bytes : List ℕ) (i : Instr) → Spells table bits ip bytes i
      → (1 ≤ plain_length bits i) × (plain_length bits i ≤ 15)
  -- and a target below 2 to the power of 64, if it has one
  pub target-below : (bits : Bits) (ip : ℕ) (bytes : List ℕ) (i : Instr) (t : ℕ) → Spells table bits ip bytes i → target_of i ≡ Some t → t < 2 ^ 64
  -- it is encoded wherever its target reaches, where it is no near branch
  pub encoded-elsewhere : (bits : Bits) (old place t : ℕ) (bytes : List ℕ) (i : Instr) → Spells table bits old bytes i
      → first_value near_value i ≡ None → Reaches (target_reach i) (plain_length bits i) place t → place + plain_length bits i ≤ 2 ^ width bits
      → t < 2 ^ 64 → (plain : List ℕ) × (encoding bits place (with_target t i) ≡ Ok plain)
