-- Some bytes are read in one way alone, and alike at addresses that wrap to one.
use Rattle.std.specs.Prelude.{◌≡◌, ℕ, ◌+◌, List}
use Rattle.x86_values.specs.declared.Bits.{Bits}
use Rattle.x86_values.specs.Wrapping.{modulo_width}
use Rattle.row_relation.specs.Spells.{Reading}
use Rattle.opcode_rows.specs.Reading.{IsRead}
use Rattle.opcode_rows.specs.Sweep.{IsReadAt}

-- what holds of two readings of the same bytes
pub record OneReadingFacts : Type 0 where
  pub reading_same : (bits : Bits) (ip : ℕ) (bytes : List ℕ) (reading other : Reading) → IsRead bits ip bytes reading → IsRead bits ip bytes other →
      reading ≡ other

-- what is read at an address that is wrapped already
pub record WrappedFacts : Type 0 where
  -- is read at the offset that it stands for
  pub read_at_wrapped : (bits : Bits) (base offset ip : ℕ) (bytes : List ℕ) (reading : Reading) → ip ≡ modulo_width bits (base + offset) →
      IsRead bits ip bytes reading → IsReadAt bits base offset bytes reading
