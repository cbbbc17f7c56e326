-- What reading the bytes behind an opcode byte answers, part by part.
use Rattle.std.specs.Prelude.{◌⊎◌, ℕ, ◌+◌, ◌<◌, Bool, true, false, nat_le, if◌then◌else◌, List, [], ◌∷◌, length, take, drop, Option, Some, None, Result, Ok, Err}
use Rattle.x86_values.specs.declared.Bits.{Bits}
use Rattle.x86_values.specs.declared.Code.{Code}
use Rattle.x86_values.specs.declared.Decoded.{Decoded}
use Rattle.instruction_parts.specs.declared.row_types.Row.{Row}
use Rattle.instruction_parts.specs.declared.spelling.ModRm.{ModRm}
use Rattle.instruction_parts.specs.declared.spelling.Sib.{Sib}
use Rattle.instruction_parts.specs.declared.spelling.PrefixState.{PrefixState}
use Rattle.instruction_parts.specs.Sizes.{state_size}
use Rattle.row_fit.specs.Fits.{immediates_bytes}
use Rattle.row_fit.specs.Sound.{has_modrm_rule}
use Rattle.row_relation.specs.RowReading.{RowReads, RowReadsNothing}
use Rattle.row_meaning.specs.Meaning.{tail, instr_of, next_address}
use Rattle.modrm_sib.specs.declared.TailError.{TailError}
use Rattle.modrm_sib.specs.declared.TailError.TheVariants.{Ended, Forbidden}
use Rattle.modrm_sib.specs.Parts.{modrm_of_byte, sib_of_byte, takes_sib, displacement_len, parts_fit, some_sib_fits, some_modrm_fits}

-- at the end of the bytes: whether something can complete them
abbrev pub at_end : Bool → Result Decoded TailError
at_end true = Err Ended
at_end false = Err Forbidden

-- the answer whose instruction was written where the caller asked
abbrev pub answer_in : {E : Type 0} → Result (Unit {0}) E → Decoded → Result Decoded E
answer_in (Ok done) out = Ok out
answer_in (Err why) out = Err why

-- the instruction of a state and a tail, and its length
abbrev pub decoded_instruction : Bits → ℕ → PrefixState → Code → Row → Option ModRm → Option Sib → List ℕ → List ℕ → ℕ → Decoded
decoded_instruction bits ip state code row m sib disp imm len = record {
  instr = instr_of bits code row state (tail m sib disp (next_address bits ip len)) imm;
  len = len;
}

-- behind ModRM and SIB that fit: displacement and immediates of these lengths
unfoldable pub fitting_answer : Bits → ℕ → PrefixState → Code → Row → Option ModRm → Option Sib → ℕ → List ℕ → ℕ → ℕ → Result Decoded TailError
fitting_answer bits ip state code row m sib used bytes d i =
    if nat_le (d + i) (length bytes) then
    Ok (decoded_instruction bits ip state code row m sib (take d bytes) (take i (drop d bytes)) (used + (d + i)))
    else Err Ended

-- behind ModRM and SIB, with the number of bytes up to there
unfoldable pub rest_answer : Bits → ℕ → PrefixState → Code → Row → Option ModRm → Option Sib → ℕ → List ℕ → Result Decoded TailError
rest_answer bits ip state code row m sib used bytes =
    if parts_fit bits row state m sib then
    fitting_answer bits ip state code row m sib used bytes (displacement_len bits row state m sib) (immediates_bytes (state_size bits row state) row)
    else Err Forbidden

-- behind a ModRM that takes a SIB
unfoldable pub sib_answer : Bits → ℕ → PrefixState → Code → Row → ModRm → ℕ → List ℕ → Result Decoded TailError
sib_answer bits ip state code row m used [] = at_end (some_sib_fits bits row state m)
sib_answer bits ip state code row m used (b ∷ bytes) =
    rest_answer bits ip state code row (Some m) (Some (sib_of_byte b)) (used + 1) bytes

-- behind a ModRM
unfoldable pub behind_modrm_answer : Bits → ℕ → PrefixState → Code → Row → ModRm → ℕ → List ℕ → Result Decoded TailError
behind_modrm_answer bits ip state code row m used bytes =
    if takes_sib bits row state m then sib_answer bits ip state code row m used bytes
    else rest_answer bits ip state code row (Some m) None used bytes

-- where a ModRM stands
unfoldable pub modrm_answer : Bits → ℕ → PrefixState → Code → Row → ℕ → List ℕ → Result Decoded TailError
modrm_answer bits ip state code row used [] = at_end (some_modrm_fits bits row state)
modrm_answer bits ip state code row used (b ∷ bytes) =
    behind_modrm_answer bits ip state code row (modrm_of_byte b) (used + 1) bytes

-- behind the opcode byte
unfoldable pub tail_answer : Bits → ℕ → PrefixState → Code → Row → List ℕ → Result Decoded TailError
tail_answer bits ip state code row bytes =
    if has_modrm_rule row.modrm then modrm_answer bits ip state code row (state.used + 1) bytes
    else rest_answer bits ip state code row None None (state.used + 1) bytes

-- no instruction of at most 15 bytes
abbrev pub IsOver : Result Decoded TailError → Type 0
IsOver (Ok d) = 15 < d.len
IsOver (Err why) = Unit {0}

-- the row reads nothing, or an instruction of more than 15 bytes
abbrev pub ReadsNothingShort : Bits → ℕ → Code → Row → List ℕ → Type 0
ReadsNothingShort bits ip code row bytes =
    RowReadsNothing bits row bytes ⊎ ((d : Decoded) × (RowReads bits ip code row bytes d × (15 < d.len)))
