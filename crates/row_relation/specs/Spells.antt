-- What bytes spell, and how bytes are read, over any table of rows.
use Rattle.std.specs.Prelude.{◌≡◌, ℕ, ◌<◌, ◌≤◌, List, ◌++◌, length, take, Some, slice_get, IsTrue, ◌⊎◌}
use Rattle.x86_values.specs.declared.Bits.{Bits}
use Rattle.x86_values.specs.declared.Instr.{Instr}
use Rattle.x86_values.specs.declared.Decoded.{Decoded}
use Rattle.instruction_parts.specs.declared.row_types.Row.{Row}
use Rattle.instruction_parts.specs.declared.spelling.Spelling.{Spelling}
use Rattle.instruction_parts.specs.Bytes.{bytes_of}
use Rattle.row_fit.specs.Fits.{fits}
use Rattle.row_meaning.specs.Meaning.{meaning}
use Rattle.instruction_parts.specs.Front.{front_of, is_open}

-- a row and a spelling of it have these bytes, fit, and mean this instruction
pub record IsSpelledBy (bits : Bits) (ip : ℕ) (bytes : List ℕ) (i : Instr) (row : Row) (s : Spelling) : Type 0 where
  pub bytes_are : bytes_of row s ≡ bytes
  pub fitting : IsTrue (fits bits row s)
  pub means : meaning bits ip i.code row s ≡ i

-- some row of the table has a spelling with these bytes that means the instruction; its code is the row's position
abbrev pub SpellsUnbounded : List Row → Bits → ℕ → List ℕ → Instr → Type 0
SpellsUnbounded table bits ip bytes i =
    (row : Row) × (slice_get table i.code.0 ≡ Some row) × ((s : Spelling) × IsSpelledBy bits ip bytes i row s)

-- some row of the table has a spelling with these bytes, at most 15, that means the instruction
abbrev pub Spells : List Row → Bits → ℕ → List ℕ → Instr → Type 0
Spells table bits ip bytes i = (length bytes ≤ 15) × SpellsUnbounded table bits ip bytes i

-- ---- reading

-- the first n bytes spell the instruction
abbrev pub ReadsAs : List Row → Bits → ℕ → List ℕ → Instr → ℕ → Type 0
ReadsAs table bits ip bytes i n = (n ≤ length bytes) × Spells table bits ip (take n bytes) i

-- no bytes at the front spell an instruction
abbrev pub SpellsNothing : List Row → Bits → ℕ → List ℕ → Type 0
SpellsNothing table bits ip bytes = (i : Instr) (n : ℕ) → ReadsAs table bits ip bytes i n → ⊥

-- more bytes behind these spell an instruction of any length
abbrev pub BeginsSpelling : List Row → Bits → ℕ → List ℕ → Type 0
BeginsSpelling table bits ip bytes =
    (more : List ℕ) × (0 < length more) × ((i : Instr) × SpellsUnbounded table bits ip (bytes ++ more) i)

-- the front is open, or the bytes begin a spelling
abbrev pub CanGoOn : List Row → Bits → ℕ → List ℕ → Type 0
CanGoOn table bits ip bytes = IsTrue (is_open (front_of bits bytes)) ⊎ BeginsSpelling table bits ip bytes

-- the bytes end too early
pub record IsTooShort (table : List Row) (bits : Bits) (ip : ℕ) (bytes : List ℕ) : Type 0 where
  pub spells_nothing : SpellsNothing table bits ip bytes
  pub is_short : length bytes < 15
  pub can_go_on : CanGoOn table bits ip bytes

-- the bytes are no instruction, and no bytes behind them make one
pub record IsInvalid (table : List Row) (bits : Bits) (ip : ℕ) (bytes : List ℕ) : Type 0 where
  pub spells_nothing : SpellsNothing table bits ip bytes
  pub ends_here : length bytes < 15 → CanGoOn table bits ip bytes → ⊥

-- what reading some bytes gives
pub data Reading : Type 0 where
  Read : Decoded → Reading
  TooShort : Reading
  Invalid : Reading

-- the reading of some bytes at an address
abbrev pub IsReading : List Row → Bits → ℕ → List ℕ → Reading → Type 0
IsReading table bits ip bytes (Read d) = ReadsAs table bits ip bytes d.instr d.len
IsReading table bits ip bytes TooShort = IsTooShort table bits ip bytes
IsReading table bits ip bytes Invalid = IsInvalid table bits ip bytes
