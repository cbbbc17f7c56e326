-- The rows that ask nothing more once the nine fields of a front with its ModRM lead to them.
use Rattle.std.specs.Prelude.{ℕ, ◌+◌, Bool, true, false, not, ◌&&◌, ◌||◌, ◌==◌, nat_le, nat_lt, List, is_none}
use Rattle.std.specs.List.{list_all}
use Rattle.x86_values.specs.declared.Bits.{Bits}
use Rattle.x86_values.specs.declared.Bits.TheVariants.{B16, B32, B64}
use Rattle.instruction_parts.specs.declared.row_types.Row.{Row}
use Rattle.instruction_parts.specs.declared.row_types.Map.{Map}
use Rattle.instruction_parts.specs.declared.row_types.Plus.{Plus}
use Rattle.instruction_parts.specs.declared.row_types.Plus.TheVariants as plus
use Rattle.instruction_parts.specs.declared.row_types.ModRmRule.{ModRmRule}
use Rattle.instruction_parts.specs.declared.row_types.ModRmRule.TheVariants as rule
use Rattle.instruction_parts.specs.declared.row_types.Place.{Place}
use Rattle.instruction_parts.specs.declared.row_types.Place.TheVariants as place
use Rattle.instruction_parts.specs.declared.row_types.OpKind.{OpKind}
use Rattle.instruction_parts.specs.declared.row_types.OpKind.TheVariants.{Sw, Cn, Dn}
use Rattle.instruction_parts.specs.declared.spelling.PrefixState.{PrefixState}
use Rattle.instruction_parts.specs.Counting.{is_64}
use Rattle.instruction_parts.specs.Kinds.{method_of}
use Rattle.instruction_parts.specs.Sizes.{is_vex_row}
use Rattle.row_fit.specs.Fits.{is_map_one, is_gather, is_any_mode, is_offset, immediates_bytes, place_of, takes_w_as_size}
use Rattle.row_meaning.specs.Given.{has_one_immediate}
use Rattle.decoder.specs.declared.bare.BareRow.{BareRow}
use Rattle.decoder.specs.declared.generated_bare_rows.TheConstants.{BARE_ROWS}

-- a front has no LOCK and no VEX, and no REX outside 64-bit mode
unfoldable pub is_bare_front : Bits → PrefixState → Bool
is_bare_front bits state = not state.lock && (is_none state.vex && (is_64 bits || is_none state.rex))

-- the limit that a kind sets by itself is none, or that of its row
abbrev pub place_is_said : Place → Place → Bool
place_is_said _ place.Any = true
place_is_said place.Memory place.Memory = true
place_is_said place.Register place.Register = true
place_is_said _ _ = false

-- segment, control and debug registers are not of every number
abbrev pub names_each_number : OpKind → Bool
names_each_number Sw = false
names_each_number Cn = false
names_each_number Dn = false
names_each_number _ = true

-- an operand with every register number, that is no gather, heeds ModRM.mod, has no absolute address, and whose limit to register or memory the
-- row itself says
unfoldable pub kind_is_bare : Place → OpKind → Bool
kind_is_bare where_ kind =
    names_each_number kind
    && (not (is_gather (method_of kind))
    && (not (is_any_mode (method_of kind))
    && (not (is_offset (method_of kind)) && place_is_said where_ (place_of (method_of kind)))))

-- the ModRM byte is not fixed
abbrev pub rule_is_bare : ModRmRule → Bool
rule_is_bare (rule.Fixed _) = false
rule_is_bare _ = true

-- the opcode bytes of a row are none of 62, 8F, 90, C4 and C5, which ask more of what stands around them
abbrev pub bytes_are_bare : Plus → ℕ → Bool
bytes_are_bare plus.Register first = nat_le (first + 8) 0x62 || (nat_lt 0x90 first && nat_le (first + 8) 0xC4)
bytes_are_bare _ first =
    not (first == 0x62) && (not (first == 0x8F) && (not (first == 0x90) && (not (first == 0xC4) && not (first == 0xC5))))

-- the opcode bytes of a row of the one-byte map are none of these; in the other maps any byte will do
unfoldable pub opcode_is_bare : Map → Plus → ℕ → Bool
opcode_is_bare map p first = not (is_map_one map) || bytes_are_bare p first

-- nothing is left to ask of the row behind a bare front, and at most one of its operands has bytes of the immediates
unfoldable pub row_is_bare : Row → Bool
row_is_bare row =
    has_one_immediate row
    && (not (is_vex_row row)
    && (not (takes_w_as_size row.size)
    && (rule_is_bare row.modrm
    && (list_all (kind_is_bare row.place) row.ops && opcode_is_bare row.map row.plus row.opcode))))

-- what is known of a row beforehand: whether nothing is left to ask of it, and the bytes of its immediates at each operand size
unfoldable pub known_of : Row → BareRow
known_of row = record {
  bare = row_is_bare row;
  at_16 = immediates_bytes B16 row;
  at_32 = immediates_bytes B32 row;
  at_64 = immediates_bytes B64 row;
}

-- what is known of each row before it is looked up, by code
unfoldable pub bare_rows : List BareRow
bare_rows = BARE_ROWS

-- the bytes of the immediates at an operand size
abbrev pub immediates_at : Bits → BareRow → ℕ
immediates_at B16 known = known.at_16
immediates_at B32 known = known.at_32
immediates_at B64 known = known.at_64
