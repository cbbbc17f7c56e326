-- How an instruction is encoded: by the plain spelling over the table, or the first condition that it fails.
use Rattle.std.specs.Prelude.{ℕ, List, [], length, Option, Some, None, Result, Ok, Err, slice_get}
use Rattle.arrayvec.specs.ArrayVec.{ArrayVec}
use Rattle.x86_values.specs.declared.Bits.{Bits}
use Rattle.x86_values.specs.declared.Instr.{Instr}
use Rattle.x86_values.specs.Wrapping.{modulo_width}
use Rattle.instruction_parts.specs.declared.row_types.Row.{Row}
use Rattle.instruction_parts.specs.Bytes.{bytes_of}
use Rattle.row_relation.specs.Spells.{Reading, Read}
use Rattle.plain_spelling.specs.declared.NoSpelling.{NoSpelling}
use Rattle.plain_spelling.specs.PlainTail.{plain_spelling}
use Rattle.plain_spelling.specs.Expressible.{failure_of}
use Rattle.opcode_rows.specs.Table.{table}

-- the bytes of the plain spelling of an instruction of a row that may be absent
abbrev pub plain_bytes : Bits → ℕ → Option Row → Instr → List ℕ
plain_bytes bits ip None i = []
plain_bytes bits ip (Some row) i = bytes_of row (plain_spelling bits ip row i)

-- the bytes, where no condition fails, else the first that does
abbrev pub encoded_by : Option NoSpelling → List ℕ → Result (List ℕ) NoSpelling
encoded_by None bytes = Ok bytes
encoded_by (Some why) bytes = Err why

-- the encoding of an instruction at an address of the mode
unfoldable pub encoding : Bits → ℕ → Instr → Result (List ℕ) NoSpelling
encoding bits ip i =
    let row = slice_get table i.code.0 in
    encoded_by (failure_of bits (modulo_width bits ip) row i) (plain_bytes bits (modulo_width bits ip) row i)

-- the bytes of an answer as a list
abbrev pub answer_bytes : Result (ArrayVec ℕ) NoSpelling → Result (List ℕ) NoSpelling
answer_bytes (Ok bytes) = Ok bytes.items
answer_bytes (Err why) = Err why

-- the bytes that were written where they are to lie, or why there are none, as a list
abbrev pub written_onto : Option NoSpelling → ArrayVec ℕ → Result (List ℕ) NoSpelling
written_onto None bytes = Ok bytes.items
written_onto (Some why) bytes = Err why

-- an encoding's length
abbrev pub length_of : Result (List ℕ) NoSpelling → Result ℕ NoSpelling
length_of (Ok bytes) = Ok (length bytes)
length_of (Err why) = Err why

-- the reading of an instruction and as many bytes as these
abbrev pub reading_of_bytes : Instr → List ℕ → Reading
reading_of_bytes i bytes = Read (record { instr = i; len = length bytes })
