-- What holds of encodings, of plain spellings over the table, and of what is spelled.
use Rattle.std.specs.Prelude.{◌≡◌, ℕ, ◌≤◌, true, List, ◌++◌, length, Some, Ok, slice_get}
use Rattle.x86_values.specs.declared.Bits.{Bits}
use Rattle.x86_values.specs.declared.Instr.{Instr}
use Rattle.x86_values.specs.Wrapping.{modulo_width}
use Rattle.instruction_parts.specs.declared.row_types.Row.{Row}
use Rattle.instruction_parts.specs.declared.spelling.Spelling.{Spelling}
use Rattle.instruction_parts.specs.Bytes.{bytes_of}
use Rattle.row_relation.specs.Spells.{Spells, IsSpelledBy, ReadsAs}
use Rattle.plain_spelling.specs.PlainTail.{plain_spelling, plain_len}
use Rattle.plain_spelling.specs.Expressible.{Suits, each_operand, row_exists, kind_suits, register_suits, address_suits, displacement_offered, immediate_suits, prefixes_suit, address_size_suits}
use Rattle.row_relation.specs.PlainLaws.Plain.{IsPlainlySpelled}
use Rattle.opcode_rows.specs.Table.{table}
use Rattle.encoder.specs.Encoding.{encoding}

-- encodings, what is plainly spelled, and what is read
pub record EncodingFacts : Type 0 where
  -- what meets the conditions of the row of its code, with a plain spelling of at most 15 bytes, has that as its encoding
  pub suits-encoded : (bits : Bits) (ip : ℕ) (row : Row) (i : Instr) → slice_get table i.code.0 ≡ Some row → Suits bits (modulo_width bits ip) row i
      → plain_len bits row i ≤ 15 → encoding bits ip i ≡ Ok (bytes_of row (plain_spelling bits (modulo_width bits ip) row i))
  -- an encoding is plainly spelled
  pub encoded-plain : (bits : Bits) (ip : ℕ) (i : Instr) (bytes : List ℕ) → length i.ops ≡ 4 → encoding bits ip i ≡ Ok bytes
      → IsPlainlySpelled table bits (modulo_width bits ip) bytes i
  -- what is plainly spelled is spelled, and is read as the instruction whatever stands behind it
  pub plain-spells : (bits : Bits) (ip : ℕ) (bytes : List ℕ) (i : Instr) → IsPlainlySpelled table bits ip bytes i → Spells table bits ip bytes i
  pub plain-reads : (bits : Bits) (ip : ℕ) (bytes rest : List ℕ) (i : Instr) → IsPlainlySpelled table bits ip bytes i
      → ReadsAs table bits ip (bytes ++ rest) i (length bytes)

-- an instruction meets every condition of a row but the reach of its targets
pub record SuitsElsewhere (bits : Bits) (row : Row) (i : Instr) : Type 0 where
  pub exists : row_exists bits row ≡ true
  pub kinds : each_operand (kind_suits row i) ≡ true
  pub registers : each_operand (register_suits bits row i) ≡ true
  pub addresses : each_operand (address_suits bits row i) ≡ true
  pub displacements : each_operand (displacement_offered bits row i) ≡ true
  pub immediates : each_operand (immediate_suits bits row i) ≡ true
  pub prefixes : prefixes_suit row i ≡ true
  pub address_size : address_size_suits bits row i ≡ true

-- what is spelled, the conditions that it meets, and its length by the row of its code
pub record SpelledFacts : Type 0 where
  -- it meets every condition but the reach of targets, with a plain spelling that is not longer
  pub spelled-suits : (bits : Bits) (ip : ℕ) (bytes : List ℕ) (i : Instr) (row : Row) (s : Spelling) → slice_get table i.code.0 ≡ Some row
      → IsSpelledBy bits ip bytes i row s → SuitsElsewhere bits row i
  pub spelled-least : (bits : Bits) (ip : ℕ) (bytes : List ℕ) (i : Instr) (row : Row) (s : Spelling) → slice_get table i.code.0 ≡ Some row
      → IsSpelledBy bits ip bytes i row s → plain_len bits row i ≤ length bytes
  -- what as many bytes as those of the plain spelling spell has that as its encoding
  pub spelled-encoded : (bits : Bits) (ip : ℕ) (bytes : List ℕ) (i : Instr) (row : Row) (s : Spelling) → slice_get table i.code.0 ≡ Some row
      → IsSpelledBy bits (modulo_width bits ip) bytes i row s → plain_len bits row i ≡ length bytes → length bytes ≤ 15
      → encoding bits ip i ≡ Ok (bytes_of row (plain_spelling bits (modulo_width bits ip) row i))
  -- an encoding is one by the row of the code, and as long as the plain spelling
  pub encoding-row : (bits : Bits) (ip : ℕ) (i : Instr) (bytes : List ℕ) → encoding bits ip i ≡ Ok bytes
      → (row : Row) × (slice_get table i.code.0 ≡ Some row) × (length bytes ≡ plain_len bits row i)
