-- What the reading of a function's first instructions gives, of the table and without a row.
use Rattle.std.specs.Prelude.{◌≡◌, ℕ, ◌+◌, ◌<◌, ◌≤◌, List, drop, length, Result, Ok, Err}
use Rattle.x86_values.specs.declared.Bits.{Bits}
use Rattle.x86_values.specs.Wrapping.{modulo_width}
use Rattle.row_relation.specs.Spells.{Spells}
use Rattle.opcode_rows.specs.Table.{table}
use Rattle.opcode_rows.specs.declared.generated_spots.TheConstants.{ROWS}
use Rattle.move_goals.specs.Items.{IsPlaced, ArePlaced}
use Rattle.code_items.specs.declared.any_items.AnyItem.{AnyItem}
use Rattle.code_items.specs.AnyItems.{item_len, AnyFirst, HasNone, IsAnySound, AreAnySound}
use Rattle.detour.specs.declared.error.DetourError.{DetourError}
use Rattle.detour.specs.declared.error.DetourError.TheVariants.{Memory, BadCode, TooSmall}
use Rattle.detour.specs.declared.any_taken.AnyTaken.{AnyTaken}
use Rattle.detour.specs.Taken.{taken_bytes}
use Rattle.detour.specs.Reading.{AreCoded, IsTakenFit}
use Rattle.detour.specs.AnyTaken.{filler, line_of, outline, AreAnyReadFrom, AreAnyTaken, IsAnyBadCode, IsAnyTooSmall}

-- an instruction stands at an offset, and ends in the code
pub record IsAnyItemOf (bits : Bits) (ip : ℕ) (code : List ℕ) (offset : ℕ) (x : AnyItem) : Type 0 where
  pub first : AnyFirst bits (modulo_width bits (ip + offset)) (drop offset code) x
  pub within : offset + item_len x ≤ length code
  pub some : 1 ≤ item_len x
  pub few : item_len x ≤ 15
  pub placed : IsPlaced bits (line_of bits x)
  pub coded : (line_of bits x).instr.code.0 < ROWS
  pub sound : IsAnySound bits x

-- an instruction at an offset, or why there is none
abbrev pub IsAnyItemRead : Bits → ℕ → List ℕ → ℕ → Result AnyItem DetourError → Type 0
IsAnyItemRead bits ip code offset (Ok x) = IsAnyItemOf bits ip code offset x
IsAnyItemRead bits ip code offset (Err (BadCode at error)) = (at ≡ offset) × HasNone bits (modulo_width bits (ip + offset)) (drop offset code) error
IsAnyItemRead bits ip code offset (Err Memory) = Unit {0}
IsAnyItemRead bits ip code offset (Err why) = ⊥

-- the filler is an instruction of the table, and is spelled at an address
pub record IsFillerAt (bits : Bits) (ip : ℕ) : Type 0 where
  pub coded : (filler bits).code.0 < ROWS
  pub bytes : List ℕ
  pub spelled : Spells table bits (modulo_width bits ip) bytes (filler bits)

-- the first instructions of some code, well placed and of the table in outline
pub record IsAnyFront (bits : Bits) (ip : ℕ) (code : List ℕ) (items : List AnyItem) : Type 0 where
  pub read : AreAnyReadFrom bits ip code 0 items
  pub within : taken_bytes (outline bits items) ≤ length code
  pub placed : ArePlaced bits (outline bits items)
  pub coded : AreCoded (outline bits items)
  pub sound : AreAnySound bits items
  -- each has a byte at least
  pub few : length items ≤ taken_bytes (outline bits items)

-- what is known of what is taken: its outline, its bytes, and that it is few
pub record IsAnyFrontTaken (bits : Bits) (ip : ℕ) (code : List ℕ) (need : ℕ) (t : AnyTaken) : Type 0 where
  pub front : IsAnyFront bits ip code t.items.items
  pub taken : AreAnyTaken bits ip code need t.items.items
  pub lines : t.outline.items.items ≡ outline bits t.items.items
  pub len : t.outline.len ≡ taken_bytes (outline bits t.items.items)
  pub short : t.outline.len < need + 15

-- what is taken, as the calls that go on with it ask
pub record IsAnyTakenFit (bits : Bits) (t : AnyTaken) : Type 0 where
  pub lines : t.outline.items.items ≡ outline bits t.items.items
  pub sound : AreAnySound bits t.items.items
  pub fit : IsTakenFit bits t.outline

-- what is taken, or why nothing is
abbrev pub IsAnyFrontAnswer : Bits → ℕ → List ℕ → ℕ → Result AnyTaken DetourError → Type 0
IsAnyFrontAnswer bits ip code need (Ok t) = IsAnyFrontTaken bits ip code need t
IsAnyFrontAnswer bits ip code need (Err (BadCode at error)) = IsAnyBadCode bits ip code need at error
IsAnyFrontAnswer bits ip code need (Err (TooSmall len wanted)) = IsAnyTooSmall bits ip code len need × (wanted ≡ need)
IsAnyFrontAnswer bits ip code need (Err Memory) = Unit {0}
IsAnyFrontAnswer bits ip code need (Err why) = ⊥
