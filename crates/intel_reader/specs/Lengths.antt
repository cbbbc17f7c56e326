-- The fewest bytes of an instruction with some words, and what can no longer come first because of them.
use Rattle.std.specs.Prelude.{ℕ, ◌+◌, ◌==◌, nat_lt, Bool, false, ◌&&◌, ◌||◌, if◌then◌else◌, length, Option, Some, None}
use Rattle.x86_values.specs.declared.Bits.{Bits}
use Rattle.x86_values.specs.declared.DispSize.{DispSize}
use Rattle.instruction_parts.specs.declared.row_types.Row.{Row}
use Rattle.instruction_parts.specs.Bytes.{bit, lead_bytes}
use Rattle.instruction_parts.specs.Sizes.{is_vex_row}
use Rattle.row_fit.specs.Fits.{immediates_bytes}
use Rattle.row_fit.specs.Sound.{has_modrm_rule}
use Rattle.plain_spelling.specs.Addresses.{displacement_count}
use Rattle.plain_spelling.specs.PlainFront.{asks_66, asks_rex_w}
use Rattle.plain_spelling.specs.PlainTail.{plain_size}
use Rattle.intel_words.specs.declared.words.IntelWords.{IntelWords}
use Rattle.intel_reader.specs.declared.choice.Found.{Found}
use Rattle.intel_reader.specs.Possible.{has_address}

-- the fewest bytes in front of the opcode byte: a VEX has two, a legacy row those of 66, REX.W and its map
unfoldable pub least_front : Bits → Row → ℕ
least_front bits row =
    if is_vex_row row then 2 else bit (asks_66 bits row) + (bit (asks_rex_w row) + length (lead_bytes row.map None))

-- the bytes of displacement in an address
unfoldable pub displacement_of_words : IntelWords → DispSize → ℕ
displacement_of_words words size = if has_address words then displacement_count size else 0

-- the fewest bytes of an instruction of a row with these words and this displacement size
unfoldable pub least_len : Bits → Row → IntelWords → DispSize → ℕ
least_len bits row words size =
    least_front bits row
    + (1 + (bit (has_modrm_rule row.modrm) + (displacement_of_words words size + immediates_bytes (plain_size bits row) row)))

-- an instruction of a code with so many bytes or more comes behind what was found
unfoldable pub is_behind : Option Found → ℕ → ℕ → Bool
is_behind None code least = false
is_behind (Some f) code least = nat_lt (length f.bytes.items) least || (length f.bytes.items == least && nat_lt f.instr.code.0 code)
