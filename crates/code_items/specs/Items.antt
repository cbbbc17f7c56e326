-- The instructions of some code, one behind another, and where it has none.
use Rattle.std.specs.Prelude.{◌≡◌, ℕ, ◌+◌, ◌<◌, ◌≤◌, ◌==◌, if◌then◌else◌, List, [], ◌∷◌, length, drop, map, Option, Some, None, Err}
use Rattle.x86_values.specs.declared.Bits.{Bits}
use Rattle.x86_values.specs.declared.Decoded.{Decoded}
use Rattle.x86_values.specs.Wrapping.{modulo_width}
use Rattle.row_relation.specs.Spells.{Read}
use Rattle.opcode_rows.specs.Reading.{IsRead}
use Rattle.decoder.specs.declared.DecodeError.{DecodeError}
use Rattle.decoder.specs.Answer.{reading_of}
use Rattle.move_goals.specs.declared.items.Placed.{Placed}
use Rattle.move_goals.specs.Items.{passes}
use Rattle.code_items.specs.Sound.{ItemList}
use Rattle.code_items.specs.declared.reading.ReadError.{ReadError}
use Rattle.code_items.specs.declared.reading.ReadError.TheVariants.{BadCode, Memory}

-- what is read where an item stands
abbrev pub decoded_of : Placed → Decoded
decoded_of p = record { instr = p.instr; len = p.len }

-- an item stands at an address, where these bytes begin
pub record StandsFirst (bits : Bits) (ip : ℕ) (bytes : List ℕ) (p : Placed) : Type 0 where
  pub address : p.ip ≡ ip
  pub some : 1 ≤ p.len
  pub few : p.len ≤ 15
  pub within : p.len ≤ length bytes
  pub reads : IsRead bits ip bytes (Read (decoded_of p))

-- These items stand one behind another from an address on, where these bytes stand, and an address and bytes are left behind them. The addresses are
-- whole numbers that do not wrap; each is read modulo 2 to the number of bits of the mode.
abbrev pub ReadsUpTo : Bits → ℕ → List ℕ → List Placed → ℕ → List ℕ → Type 0
ReadsUpTo bits ip bytes [] ip' rest = (ip' ≡ ip) × (rest ≡ bytes)
ReadsUpTo bits ip bytes (p ∷ ps) ip' rest = StandsFirst bits ip bytes p × ReadsUpTo bits (ip + p.len) (drop p.len bytes) ps ip' rest

-- they are all instructions of the code, which ends at an address
pub record AreItemsOf (bits : Bits) (ip : ℕ) (bytes : List ℕ) (items : List Placed) : Type 0 where
  pub end : ℕ
  pub reads : ReadsUpTo bits ip bytes items end []

-- the code has instructions up to an offset, and none begins there
pub record StopsAt (bits : Bits) (ip : ℕ) (bytes : List ℕ) (at : ℕ) (e : DecodeError) : Type 0 where
  pub items : List Placed
  pub rest : List ℕ
  pub before : ReadsUpTo bits ip bytes items (ip + at) rest
  pub some : 0 < length rest
  pub reads : IsRead bits (ip + at) rest (reading_of (Err e))

-- an item with its address in the mode
abbrev pub wrapped_item : Bits → Placed → Placed
wrapped_item bits p = record p { ip = modulo_width bits p.ip }

-- the list has all instructions of the code, with their addresses in the mode
pub record HasItems (bits : Bits) (ip : ℕ) (bytes : List ℕ) (list : ItemList) : Type 0 where
  pub bits_are : list.bits ≡ bits
  pub items : List Placed
  pub are : AreItemsOf bits ip bytes items
  pub items_are : list.items ≡ map (wrapped_item bits) items

-- why the instructions of some code are not read
abbrev pub IsReadRefusal : Bits → ℕ → List ℕ → ReadError → Type 0
IsReadRefusal bits ip bytes (BadCode at e) = StopsAt bits ip bytes at e
IsReadRefusal bits ip bytes Memory = Unit {0}

-- the address behind some code, where that passes the address space; code without bytes has no end
unfoldable pub old_pass : Bits → ℕ → List ℕ → Option ℕ
old_pass bits ip bytes =
    if length bytes == 0 then None else (if passes bits (ip + length bytes) then Some (ip + length bytes) else None)
