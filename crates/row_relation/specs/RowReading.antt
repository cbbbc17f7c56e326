-- What one row says of some bytes: some of them at the front are a spelling of it, more bytes make one, or none can.
use Rattle.std.specs.Prelude.{◌≡◌, ℕ, ◌<◌, List, ◌++◌, length, IsTrue}
use Rattle.x86_values.specs.declared.Bits.{Bits}
use Rattle.x86_values.specs.declared.Code.{Code}
use Rattle.x86_values.specs.declared.Decoded.{Decoded}
use Rattle.instruction_parts.specs.declared.row_types.Row.{Row}
use Rattle.instruction_parts.specs.declared.spelling.Spelling.{Spelling}
use Rattle.instruction_parts.specs.Bytes.{bytes_of}
use Rattle.row_fit.specs.Fits.{fits}
use Rattle.row_meaning.specs.Meaning.{meaning}

-- bytes at the front, of any length, are a spelling of the row that means the instruction; their number is its length
pub record RowReads (bits : Bits) (ip : ℕ) (code : Code) (row : Row) (bytes : List ℕ) (d : Decoded) : Type 0 where
  pub spelling : Spelling
  pub rest : List ℕ
  pub bytes_are : bytes ≡ bytes_of row spelling ++ rest
  pub fitting : IsTrue (fits bits row spelling)
  pub means : meaning bits ip code row spelling ≡ d.instr
  pub length_is : length (bytes_of row spelling) ≡ d.len

-- no bytes at the front are a spelling of the row
abbrev pub RowReadsNothing : Bits → Row → List ℕ → Type 0
RowReadsNothing bits row bytes =
    (s : Spelling) (rest : List ℕ) → IsTrue (fits bits row s) → bytes ≡ bytes_of row s ++ rest → ⊥

-- with more bytes behind them the bytes are a spelling of the row
pub record RowCanGoOn (bits : Bits) (row : Row) (bytes : List ℕ) : Type 0 where
  pub spelling : Spelling
  pub more : List ℕ
  pub some_more : 0 < length more
  pub fitting : IsTrue (fits bits row spelling)
  pub bytes_are : bytes_of row spelling ≡ bytes ++ more
