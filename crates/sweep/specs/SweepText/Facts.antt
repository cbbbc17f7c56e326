-- What holds of all sweeps.
use Rattle.std.specs.Prelude.{◌≡◌, ℕ, ◌+◌, ◌≤◌, List, [], ◌∷◌, ◌++◌, length, drop, Some, Err}
use Rattle.x86_values.specs.declared.Bits.{Bits}
use Rattle.row_relation.specs.Spells.{Reading}
use Rattle.decoder.specs.declared.DecodeError.{DecodeError}
use Rattle.decoder.specs.Answer.{reading_of}
use Rattle.opcode_rows.specs.Sweep.{Item, IsReadAt, IsItemAt, Sweeps, IsSweep, BeginsSweep, item_len}
use Rattle.sweep.specs.SweepText.Lines.{error_of}
use Rattle.sweep.specs.SweepText.Sweeping.{TakesSome, SweptTo, item_read}

-- some bytes have one sweep
pub record OneSweepFacts : Type 0 where
  -- one reading and one item stand at an offset
  pub reading_unique : (bits : Bits) (base offset : ℕ) (bytes : List ℕ) (reading other : Reading) → IsReadAt bits base offset bytes reading →
      IsReadAt bits base offset bytes other → reading ≡ other
  pub item_unique : (bits : Bits) (base offset : ℕ) (bytes : List ℕ) (x y : Item) → IsItemAt bits base offset bytes x → IsItemAt bits base offset bytes y →
      x ≡ y
  -- first items of a sweep are the first of every whole sweep
  pub sweep_begins : (bits : Bits) (base offset : ℕ) (bytes : List ℕ) (items others : List Item) (rest : List ℕ) →
      Sweeps bits base offset bytes items rest → Sweeps bits base offset bytes others [] → (more : List Item) × (others ≡ items ++ more)
  pub begin_each_other : (a b m n : List Item) → b ≡ a ++ m → a ≡ b ++ n → a ≡ b
  pub sweep_unique : (bits : Bits) (base : ℕ) (bytes : List ℕ) (items others : List Item) → IsSweep bits base bytes items →
      IsSweep bits base bytes others → items ≡ others

-- the way through some bytes
pub record SweptFacts : Type 0 where
  pub swept-start : (bits : Bits) (base : ℕ) (bytes : List ℕ) → SweptTo bits base bytes 0 []
  -- one more item
  pub swept-step : (bits : Bits) (base at : ℕ) (bytes : List ℕ) (items : List Item) (reading : Reading) → SweptTo bits base bytes at items →
      IsReadAt bits base at (drop at bytes) reading → TakesSome reading (length (drop at bytes)) →
      SweptTo bits base bytes (at + item_len reading) (items ++ item_read at (drop at bytes) reading ∷ [])
  -- the items so far, wherever the way ends
  pub swept-first : (bits : Bits) (base at : ℕ) (bytes : List ℕ) (items : List Item) → SweptTo bits base bytes at items → BeginsSweep bits base bytes items
  -- all items
  pub swept-end : (bits : Bits) (base at : ℕ) (bytes : List ℕ) (items : List Item) → SweptTo bits base bytes at items → length bytes ≤ at →
      IsSweep bits base bytes items
  -- the error of a single byte
  pub error_is : (e : DecodeError) → error_of (reading_of (Err e)) ≡ Some e
