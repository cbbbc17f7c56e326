-- The reading that an answer of `decode` stands for.
use Rattle.std.specs.Prelude.{◌≡◌, ℕ, List, Result, Ok, Err}
use Rattle.x86_values.specs.declared.Bits.{Bits}
use Rattle.x86_values.specs.declared.Instr.{Instr}
use Rattle.x86_values.specs.declared.Decoded.{Decoded}
use Rattle.x86_values.specs.Wrapping.{modulo_width}
use Rattle.row_relation.specs.Spells.{Reading, Read, TooShort, Invalid, ReadsAs}
use Rattle.opcode_rows.specs.Table.{table}
use Rattle.decoder.specs.declared.DecodeError.{DecodeError}
use Rattle.decoder.specs.declared.DecodeError.TheVariants.{Invalid as InvalidError, TooShort as TooShortError}

-- an instruction with its length, or one of the two errors
abbrev pub reading_of : Result Decoded DecodeError → Reading
reading_of (Ok d) = Read d
reading_of (Err TooShortError) = TooShort
reading_of (Err InvalidError) = Invalid

-- how many bytes an answer takes: those of its instruction, none with an error
abbrev pub length_of : Result Decoded DecodeError → ℕ
length_of (Ok d) = d.len
length_of (Err e) = 0

-- the first bytes spell no other instruction, and none with another length
abbrev pub IsOnlyReading : Bits → ℕ → List ℕ → Decoded → Type 0
IsOnlyReading bits ip bytes d =
    (i : Instr) (n : ℕ) → ReadsAs table bits (modulo_width bits ip) bytes i n → (i ≡ d.instr) × (n ≡ d.len)
