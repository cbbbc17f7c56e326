-- The listing: a line of text for each item of a sweep.
use Rattle.std.specs.Prelude.{ℕ, ◌+◌, ◌-◌, ◌*◌, List, [], ◌∷◌, ◌++◌, length, replicate, slice_index, codes}
use Rattle.std.specs.List.{flat_map}
use Rattle.std.specs.Int.{to_be_bytes, w16, w32, w64}
use Rattle.hex.specs.Hex.{encode_lower}
use Rattle.x86_values.specs.declared.Bits.{Bits}
use Rattle.x86_values.specs.declared.Bits.TheVariants.{B16, B32, B64}
use Rattle.x86_values.specs.Wrapping.{modulo_width}
use Rattle.row_relation.specs.Spells.{Reading, Read}
use Rattle.x86_values.specs.declared.Instr.{Instr}
use Rattle.text_parts.specs.declared.style.Style.{Style}
use Rattle.text_parts.specs.declared.style.Style.TheVariants.{Intel, Att, Masm}
use Rattle.text_parts.specs.Numbers.{number}
use Rattle.intel_text.specs.Text.{text as intel_text}
use Rattle.att_text.specs.Text.{text as att_text}
use Rattle.masm_text.specs.Text.{text as masm_text}
use Rattle.opcode_rows.specs.Sweep.{Item}

-- the bytes of an address, the highest first: two, four or eight by the mode
abbrev pub address_bytes : Bits → ℕ → List ℕ
address_bytes B16 address = to_be_bytes w16 address
address_bytes B32 address = to_be_bytes w32 address
address_bytes B64 address = to_be_bytes w64 address

-- the address of an offset in 4, 8 or 16 lower-case hexadecimal digits
unfoldable pub address_text : Bits → ℕ → ℕ → List ℕ
address_text bits base offset = encode_lower (address_bytes bits (modulo_width bits (base + offset)))

-- bytes in lower-case hexadecimal digits, filled with spaces to 30 places
unfoldable pub byte_column : List ℕ → List ℕ
byte_column bytes = encode_lower bytes ++ replicate (30 - 2 * length bytes) 32

-- the directive before the number of a single byte: that of the GNU assembler in AT&T, else db
unfoldable pub byte_directive : Style → List ℕ
byte_directive Att = codes ".byte "
byte_directive _ = codes "db "

-- the text of a byte at which no instruction is read
unfoldable pub single_byte_text : Style → ℕ → List ℕ
single_byte_text syntax byte = byte_directive syntax ++ number syntax byte

-- the text of an instruction
abbrev pub instr_text : Style → Bits → Instr → List ℕ
instr_text Intel bits instr = intel_text bits instr
instr_text Att bits instr = att_text bits instr
instr_text Masm bits instr = masm_text bits instr

-- the text of what is read at the front of some bytes: that of the instruction, or of the single first byte
unfoldable pub reading_text : Bits → Style → List ℕ → Reading → List ℕ
reading_text bits syntax bytes (Read d) = instr_text syntax bits d.instr
reading_text bits syntax bytes _ = single_byte_text syntax (slice_index bytes 0)

-- the line of an item: its address, its bytes and its text, each behind a space, and a line feed
unfoldable pub item_line : Bits → ℕ → Style → Item → List ℕ
item_line bits base syntax item =
    address_text bits base item.offset
    ++ (32 ∷ (byte_column item.bytes ++ (32 ∷ (reading_text bits syntax item.bytes item.reading ++ 10 ∷ []))))

-- the lines of items, one behind another
abbrev pub listing : Bits → ℕ → Style → List Item → List ℕ
listing bits base syntax items = flat_map (item_line bits base syntax) items
