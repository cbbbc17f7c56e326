-- The laws of plain spellings, at the table.
use Rattle.std.proofs.Common.{◌≡◌, ℕ, ◌≤◌, false, List, length, Option, Some, None, slice_get, refl}
use Rattle.x86_values.specs.declared.Bits.{Bits}
use Rattle.x86_values.specs.declared.Instr.{Instr}
use Rattle.instruction_parts.specs.declared.row_types.Row.{Row}
use Rattle.instruction_parts.specs.Bytes.{bytes_of}
use Rattle.row_relation.specs.Spells.{Spells, SpellsUnbounded}
use Rattle.plain_spelling.specs.PlainTail.{plain_spelling}
use Rattle.plain_spelling.specs.Expressible.{failure_of}
use Rattle.row_relation.specs.PlainLaws.Plain.{IsPlainlySpelled, IsWritable, has_target}
use Rattle.row_relation.proofs.PlainLaws.Exact.{plain_from, holds_of_plain, plain_is_least, plain_is_one, plain_of_spelled}
use Rattle.row_relation.proofs.PlainLaws.ReadBack.{plain_spells}
use Rattle.opcode_rows.specs.Table.{table}
use Rattle.opcode_rows.proofs.Sound.{sound-row}
use Rattle.opcode_rows.proofs.Writable.{writable-row}

-- every row of the table is sound and has plain spellings
pub written_table : IsWritable table
written_table = record { is_sound = λ code row at. sound-row code row at; is_writable = λ code row at. writable-row code row at }

-- where no condition fails, there is a row, and its plain spelling
pub plain_at : (bits : Bits) (ip : ℕ) (i : Instr) (row : Option Row) → slice_get table i.code.0 ≡ row → length i.ops ≡ 4 → failure_of bits ip row i ≡ None → (bytes : List ℕ) × IsPlainlySpelled table bits ip bytes i
plain_at bits ip i None at four h = cc
plain_at bits ip i (Some row) at four h = (bytes_of row (plain_spelling bits ip row i), plain_from table bits ip row i written_table at four h)

-- an instruction with a plain spelling fails no condition
pub none_fails : (bits : Bits) (ip : ℕ) (bytes : List ℕ) (i : Instr) (row : Option Row) → slice_get table i.code.0 ≡ row → IsPlainlySpelled table bits ip bytes i → failure_of bits ip row i ≡ None
none_fails bits ip bytes i None at p = (let e = p.row_is in cc)
none_fails bits ip bytes i (Some row) at p = holds_of_plain table bits ip bytes row i written_table at p

-- an instruction has a plain spelling exactly if no condition fails
pub exact : (bits : Bits) (ip : ℕ) (i : Instr) → length i.ops ≡ 4 → (failure_of bits ip (slice_get table i.code.0) i ≡ None → (bytes : List ℕ) × IsPlainlySpelled table bits ip bytes i) × (((bytes : List ℕ) × IsPlainlySpelled table bits ip bytes i) → failure_of bits ip (slice_get table i.code.0) i ≡ None)
exact bits ip i four = (
  λ h. plain_at bits ip i (slice_get table i.code.0) refl four h,
  λ (bytes, p). none_fails bits ip bytes i (slice_get table i.code.0) refl p,
)

-- no other bytes that spell the instruction are shorter
pub shortest : (bits : Bits) (ip : ℕ) (bytes others : List ℕ) (i : Instr) → IsPlainlySpelled table bits ip bytes i → SpellsUnbounded table bits ip others i → length bytes ≤ length others
shortest bits ip bytes others i p s = plain_is_least table bits ip bytes others i written_table p s

-- an instruction without a target has a plain spelling exactly if some bytes spell it
pub untargeted : (bits : Bits) (ip : ℕ) (i : Instr) → has_target i ≡ false → (((bytes : List ℕ) × Spells table bits ip bytes i) → (bytes : List ℕ) × IsPlainlySpelled table bits ip bytes i) × (((bytes : List ℕ) × IsPlainlySpelled table bits ip bytes i) → (bytes : List ℕ) × Spells table bits ip bytes i)
untargeted bits ip i none = (
  λ (bytes, s). plain_of_spelled table bits ip bytes i written_table none s.0 s.1,
  λ (bytes, p). (bytes, plain_spells table bits ip bytes i p),
)

-- it has one plain spelling
pub only_one : (bits : Bits) (ip : ℕ) (bytes others : List ℕ) (i : Instr) → IsPlainlySpelled table bits ip bytes i → IsPlainlySpelled table bits ip others i → bytes ≡ others
only_one bits ip bytes others i p q = plain_is_one table bits ip bytes others i written_table p q
