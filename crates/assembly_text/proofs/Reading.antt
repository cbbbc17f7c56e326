-- What the sizes of a text give, one size after another.
use Rattle.std.proofs.Common.{◌≡◌, ℕ, zero, suc, ◌<◌, List, [], ◌∷◌, length, take, get_or, arith, Option}
use Rattle.x86_values.specs.declared.Bits.{Bits}
use Rattle.x86_values.specs.declared.Instr.{Instr}
use Rattle.intel_words.specs.declared.words.SizeName.{SizeName}
use Rattle.assembly_text.specs.declared.readings.Reading.{Reading}
use Rattle.assembly_text.specs.declared.statements.Statement.{Statement}
use Rattle.assembly_text.specs.Readings.{IsFirstRead, IsReading, joined}
use Rattle.assembly_text.specs.Statements.{widths_of}

-- one size more
pub one_more : (bits : Bits) (ip : ℕ) (low : List ℕ) (s : Statement) (sizes : List SizeName) (k : ℕ) (other : SizeName) (before mid after : Reading)
    → k < length sizes
    → IsReading bits ip low s (take k sizes) before mid
    → (found : Option Instr) × (IsFirstRead bits ip low s (get_or sizes k other) (widths_of s) found × (after ≡ joined mid found))
    → IsReading bits ip low s (take (suc k) sizes) before after
one_more bits ip low s [] k other before mid after lt h one = absurd (omega arith)
one_more bits ip low s (size ∷ sizes) zero other before mid after lt h one = (one.0, (one.1.0, rw h at one.1.1))
one_more bits ip low s (size ∷ sizes) (suc k) other before mid after lt h one =
    (h.0, (h.1.0, one_more bits ip low s sizes k other (joined before h.0) mid after (omega arith) h.1.1 one))
