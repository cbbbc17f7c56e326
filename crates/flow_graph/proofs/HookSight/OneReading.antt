-- The bytes from an offset on are read in one way alone.
use Rattle.std.proofs.Common.{◌≡◌, ℕ, ◌+◌, List, drop, ap, subst}
use Rattle.x86_values.specs.declared.Bits.{Bits}
use Rattle.x86_values.specs.declared.Decoded.{Decoded}
use Rattle.row_relation.specs.Spells.{Reading, Read, TooShort, Invalid}
use Rattle.opcode_rows.specs.Sweep.{IsReadAt}
use Rattle.decoder.specs.OneReading.{OneReadingFacts}
use Rattle.flow_graph.specs.Control.{CodeBytes, IsReadIn, ReadingEnds, EndsAt}

module _ (one : OneReadingFacts) where
  -- some bytes at an offset have one reading
  pub same_at : (bits : Bits) (base offset : ℕ) (bytes : List ℕ) (reading other : Reading) → IsReadAt bits base offset bytes reading →
      IsReadAt bits base offset bytes other → reading ≡ other
  unfolding IsReadAt
  same_at bits base offset bytes reading other h k = one.reading_same bits (base + offset) bytes reading other h k

  -- an offset of some code has one reading
  pub same_reading : (code : CodeBytes) (p : ℕ) (reading other : Reading) → IsReadIn code p reading → IsReadIn code p other → reading ≡ other
  same_reading code p reading other h k = same_at code.bits code.base p (drop p code.bytes) reading other h k

  -- the instruction ends where its bytes do
  pub ends_there : (code : CodeBytes) (p q : ℕ) (d : Decoded) → IsReadIn code p (Read d) → EndsAt code p q → q ≡ p + d.len
  ends_there code p q d reads e = subst (λ (r : Reading). ReadingEnds code p r q) (same_reading code p e.reading (Read d) e.reads reads) e.end

-- the instruction of a reading, else another
read_or : Decoded → Reading → Decoded
read_or other (Read d) = d
read_or other TooShort = other
read_or other Invalid = other

-- readings of instructions are the same where the instructions are
pub same_instr : (d e : Decoded) → Read d ≡ Read e → d ≡ e
unfolding read_or
same_instr d e h = ap (read_or d) h
