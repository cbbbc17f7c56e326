-- The length of the plain spelling: wherever an instruction is aimed, of its encoding, and of what is spelled.
use Rattle.std.proofs.Common.{◌≡◌, ℕ, ◌≤◌, List, length, Option, Some, None, Ok, slice_get, refl, sym, ◌∙◌, arith}
use Rattle.x86_values.specs.declared.Bits.{Bits}
use Rattle.x86_values.specs.declared.Instr.{Instr}
use Rattle.instruction_parts.specs.declared.row_types.Row.{Row}
use Rattle.row_relation.specs.Spells.{Spells}
use Rattle.plain_spelling.specs.PlainTail.{plain_len}
use Rattle.opcode_rows.specs.Table.{table}
use Rattle.encoder.specs.Encoding.{encoding}
use Rattle.encoder.specs.Facts.{SpelledFacts}
use Rattle.move_goals.specs.MovedTargets.Targets.{plain_length_by, plain_length, with_target}
use Rattle.move_goals.proofs.MovedTargets.Unchanged.{len-with_target}

-- ---- wherever it is aimed

by_row_aimed : (bits : Bits) (t : ℕ) (row : Option Row) (i : Instr) → plain_length_by bits row (with_target t i) ≡ plain_length_by bits row i
by_row_aimed bits t None i = refl
by_row_aimed bits t (Some row) i = len-with_target bits t row i

-- an aimed instruction keeps its code
pub code-with_target : (t : ℕ) (i : Instr) → (with_target t i).code ≡ i.code
unfolding with_target
code-with_target t i = refl

-- **the length does not depend on the target**
pub with_target-length : (bits : Bits) (t : ℕ) (i : Instr) → plain_length bits (with_target t i) ≡ plain_length bits i
unfolding plain_length with_target
with_target-length bits t i = by_row_aimed bits t (slice_get table i.code.0) i

-- ---- of an encoding, and of what is spelled

-- the plain length of an instruction is that by its row
pub plain_length-row : (bits : Bits) (i : Instr) (row : Row) → slice_get table i.code.0 ≡ Some row → plain_length bits i ≡ plain_len bits row i
unfolding plain_length
plain_length-row bits i row at = rw at refl

-- an instruction has a byte at least
pub some_byte : (bits : Bits) (row : Row) (i : Instr) → 1 ≤ plain_len bits row i
unfolding plain_len
some_byte bits row i = omega arith

module _ (spelled : SpelledFacts) where
  -- **an encoding has the length of the plain spelling**
  pub encoding-length : (bits : Bits) (ip : ℕ) (i : Instr) (bytes : List ℕ) → encoding bits ip i ≡ Ok bytes → length bytes ≡ plain_length bits i
  encoding-length bits ip i bytes h =
      let r = spelled.encoding-row bits ip i bytes h in
      r.2 ∙ sym (plain_length-row bits i r.0 r.1)

  -- **what is spelled has a plain spelling of 1 to 15 bytes**
  pub spelled-length : (bits : Bits) (ip : ℕ) (bytes : List ℕ) (i : Instr) → Spells table bits ip bytes i → (1 ≤ plain_length bits i) × (plain_length bits i ≤ 15)
  spelled-length bits ip bytes i (short, (row, at, (s, e))) =
      let l = plain_length-row bits i row at in
      (omega (arith, l, some_byte bits row i), omega (arith, l, short, spelled.spelled-least bits ip bytes i row s at e))
