-- Where the parts of a spelling stand in its bytes, one behind the other (Intel SDM volume 2, 2.1, figure 2-1).
use Rattle.std.specs.Prelude.{◌≡◌, ℕ, ◌+◌, List, [], ◌∷◌, length, take, Some, slice_get, Result, Ok, Err}
use Rattle.x86_values.specs.declared.Bits.{Bits}
use Rattle.x86_values.specs.declared.Decoded.{Decoded}
use Rattle.x86_values.specs.Wrapping.{modulo_width}
use Rattle.instruction_parts.specs.declared.row_types.Row.{Row}
use Rattle.instruction_parts.specs.declared.spelling.Spelling.{Spelling}
use Rattle.instruction_parts.specs.Bytes.{lead_bytes, modrm_bytes, sib_bytes, state_of}
use Rattle.instruction_parts.specs.Sizes.{state_size}
use Rattle.row_fit.specs.Fits.{kind_at, immediate_bytes}
use Rattle.row_meaning.specs.Meaning.{immediates_before}
use Rattle.row_relation.specs.Spells.{Read, IsSpelledBy}
use Rattle.opcode_rows.specs.Table.{table}
use Rattle.opcode_rows.specs.Reading.{IsRead}
use Rattle.decoder.specs.declared.DecodeError.{DecodeError}
use Rattle.decoder.specs.Answer.{reading_of}
use Rattle.decoder.specs.declared.byte_offsets.layout.Part.{Part}
use Rattle.decoder.specs.declared.byte_offsets.layout.Lengths.{Lengths}
use Rattle.decoder.specs.declared.byte_offsets.layout.ByteOffsets.{ByteOffsets}
use Rattle.decoder.specs.ByteOffsets.PartBytes.{HoldParts}

-- a part at an offset
abbrev pub part : ℕ → ℕ → Part
part at len = record { at = at; len = len }

-- the bytes of operand n behind the displacement, which ends at an offset: behind those of the operands before it
abbrev pub own_part : ℕ → Bits → Row → ℕ → Part
own_part behind size row n = part (behind + immediates_before size row n) (immediate_bytes size (kind_at row n))

-- the parts of such lengths, in their order: prefixes, VEX or escape bytes, the opcode byte, ModRM, SIB, displacement and immediates
unfoldable pub offsets_by : Lengths → Bits → Row → ByteOffsets
offsets_by l size row =
    let opcode = l.prefixes + l.lead in
    let modrm = opcode + 1 in
    let sib = modrm + l.modrm in
    let displacement = sib + l.sib in
    let behind = displacement + l.displacement in
    record {
      prefixes = part 0 l.prefixes;
      lead = part l.prefixes l.lead;
      opcode = part opcode 1;
      modrm = part modrm l.modrm;
      sib = part sib l.sib;
      displacement = part displacement l.displacement;
      immediates = own_part behind size row 0 ∷ own_part behind size row 1 ∷ own_part behind size row 2 ∷ own_part behind size row 3 ∷ [];
      len = behind + immediates_before size row 3 + immediate_bytes size (kind_at row 3);
    }

-- the lengths of the parts of a spelling of the row
abbrev pub lengths_of : Row → Spelling → Lengths
lengths_of row s = record {
  prefixes = length s.prefixes.items;
  lead = length (lead_bytes row.map s.vex);
  modrm = length (modrm_bytes s.modrm);
  sib = length (sib_bytes s.sib);
  displacement = length s.disp.items;
}

-- where the parts of a spelling of the row stand
abbrev pub offsets_of : Bits → Row → Spelling → ByteOffsets
offsets_of bits row s = offsets_by (lengths_of row s) (state_size bits row (state_of bits row s)) row

-- the parts are those of the spelling that is read at the front of some bytes, and the bytes at each part are its own
pub record AreOffsets (bits : Bits) (ip : ℕ) (bytes : List ℕ) (offsets : ByteOffsets) : Type 0 where
  pub decoded : Decoded
  pub reads : IsRead bits ip bytes (Read decoded)
  pub row : Row
  pub row_is : slice_get table decoded.instr.code.0 ≡ Some row
  pub spelling : Spelling
  pub spelled : IsSpelledBy bits (modulo_width bits ip) (take decoded.len bytes) decoded.instr row spelling
  pub offsets_are : offsets ≡ offsets_of bits row spelling
  pub len_is : offsets.len ≡ decoded.len
  pub hold : HoldParts bits row spelling bytes offsets

-- the parts where an instruction is read, else why none is
abbrev pub IsOffsetsAnswer : Bits → ℕ → List ℕ → Result ByteOffsets DecodeError → Type 0
IsOffsetsAnswer bits ip bytes (Ok offsets) = AreOffsets bits ip bytes offsets
IsOffsetsAnswer bits ip bytes (Err why) = IsRead bits ip bytes (reading_of (Err why))
