-- What the reading of a function's first instructions gives.
use Rattle.std.specs.Prelude.{◌≡◌, ℕ, ◌+◌, ◌<◌, ◌≤◌, List, drop, length, Result, Ok, Err}
use Rattle.x86_values.specs.declared.Bits.{Bits}
use Rattle.x86_values.specs.Wrapping.{modulo_width}
use Rattle.opcode_rows.specs.declared.generated_spots.TheConstants.{ROWS}
use Rattle.opcode_rows.specs.Sweep.{IsReadAt}
use Rattle.decoder.specs.Answer.{reading_of}
use Rattle.move_goals.specs.declared.items.Placed.{Placed}
use Rattle.move_goals.specs.Items.{IsPlaced, ArePlaced, item_at}
use Rattle.detour.specs.declared.error.DetourError.{DetourError}
use Rattle.detour.specs.declared.error.DetourError.TheVariants.{Memory, BadCode, TooSmall}
use Rattle.detour.specs.declared.taken.Taken.{Taken}
use Rattle.detour.specs.Taken.{reading_of_item, taken_bytes, AreReadFrom, AreTaken, IsBadCode, IsTooSmall}

-- an instruction is read at an offset, and ends in the code
pub record IsItemOf (bits : Bits) (ip : ℕ) (code : List ℕ) (offset : ℕ) (p : Placed) : Type 0 where
  pub address : p.ip ≡ modulo_width bits (ip + offset)
  pub reads : IsReadAt bits ip offset (drop offset code) (reading_of_item p)
  pub within : offset + p.len ≤ length code
  pub placed : IsPlaced bits p
  pub coded : p.instr.code.0 < ROWS

-- an instruction at an offset, or why there is none
abbrev pub IsItemRead : Bits → ℕ → List ℕ → ℕ → Result Placed DetourError → Type 0
IsItemRead bits ip code offset (Ok p) = IsItemOf bits ip code offset p
IsItemRead bits ip code offset (Err (BadCode at error)) = (at ≡ offset) × IsReadAt bits ip offset (drop offset code) (reading_of (Err error))
IsItemRead bits ip code offset (Err why) = ⊥

-- the code of each instruction is one of the table
abbrev pub AreCoded : List Placed → Type 0
AreCoded items = (k : ℕ) → k < length items → (item_at items k).instr.code.0 < ROWS

-- the first instructions of some code, well placed and of the table
pub record IsFront (bits : Bits) (ip : ℕ) (code : List ℕ) (items : List Placed) : Type 0 where
  pub read : AreReadFrom bits ip code 0 items
  pub within : taken_bytes items ≤ length code
  pub placed : ArePlaced bits items
  pub coded : AreCoded items
  -- each has a byte at least
  pub few : length items ≤ taken_bytes items

-- what is known of what is taken: its bytes, and that it is few
pub record IsFrontTaken (bits : Bits) (ip : ℕ) (code : List ℕ) (need : ℕ) (t : Taken) : Type 0 where
  pub front : IsFront bits ip code t.items.items
  pub taken : AreTaken bits ip code need t.items.items
  pub len : t.len ≡ taken_bytes t.items.items
  pub short : t.len < need + 15

-- what is taken, as the calls that go on with it ask: well placed instructions of the table, few, and how many bytes they have
pub record IsTakenFit (bits : Bits) (t : Taken) : Type 0 where
  pub coded : AreCoded t.items.items
  pub placed : ArePlaced bits t.items.items
  pub few : length t.items.items ≤ 30
  pub len : t.len ≡ taken_bytes t.items.items

-- what is taken, or why nothing is
abbrev pub IsFrontAnswer : Bits → ℕ → List ℕ → ℕ → Result Taken DetourError → Type 0
IsFrontAnswer bits ip code need (Ok t) = IsFrontTaken bits ip code need t
IsFrontAnswer bits ip code need (Err (BadCode at error)) = IsBadCode bits ip code need at error
IsFrontAnswer bits ip code need (Err (TooSmall len wanted)) = IsTooSmall bits ip code len need × (wanted ≡ need)
IsFrontAnswer bits ip code need (Err Memory) = Unit {0}
IsFrontAnswer bits ip code need (Err why) = ⊥
