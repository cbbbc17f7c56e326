-- A plain spelling is a spelling, and its bytes are read as the instruction, whatever stands behind them.
use Rattle.std.proofs.Common.{◌≡◌, ℕ, ◌≤◌, List, ◌++◌, length, take, arith, sym, length-append}
use Rattle.std.proofs.Math.Seq.{take-append_seam}
use Rattle.x86_values.specs.declared.Bits.{Bits}
use Rattle.x86_values.specs.declared.Instr.{Instr}
use Rattle.instruction_parts.specs.declared.row_types.Row.{Row}
use Rattle.row_relation.specs.Spells.{Spells, ReadsAs}
use Rattle.row_relation.specs.PlainLaws.Plain.{IsPlainlySpelled}

-- a plain spelling spells its instruction
pub plain_spells : (table : List Row) (bits : Bits) (ip : ℕ) (bytes : List ℕ) (i : Instr) → IsPlainlySpelled table bits ip bytes i → Spells table bits ip bytes i
plain_spells table bits ip bytes i p =
    (p.is_short, (p.row, p.row_is, (p.spelling, record { bytes_are = sym p.bytes_are; fitting = p.fitting; means = p.means })))

-- **the bytes of a plain spelling are read as the instruction, and all of them**
pub plain_reads : (table : List Row) (bits : Bits) (ip : ℕ) (bytes rest : List ℕ) (i : Instr) → IsPlainlySpelled table bits ip bytes i → ReadsAs table bits ip (bytes ++ rest) i (length bytes)
plain_reads table bits ip bytes rest i p =
    (omega (arith, length-append bytes rest), rw take-append_seam (plain_spells table bits ip bytes i p))
