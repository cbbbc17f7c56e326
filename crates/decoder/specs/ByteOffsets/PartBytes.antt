-- The bytes of the parts of a spelling.
use Rattle.std.specs.Prelude.{◌≡◌, ℕ, ◌<◌, List, [], ◌∷◌, take, drop, slice_index_or}
use Rattle.x86_values.specs.declared.Bits.{Bits}
use Rattle.instruction_parts.specs.declared.row_types.Row.{Row}
use Rattle.instruction_parts.specs.declared.spelling.Spelling.{Spelling}
use Rattle.instruction_parts.specs.Bytes.{lead_bytes, modrm_bytes, sib_bytes, state_of}
use Rattle.instruction_parts.specs.Sizes.{state_size}
use Rattle.row_meaning.specs.Meaning.{own_immediate}
use Rattle.decoder.specs.declared.byte_offsets.layout.Part.{Part}
use Rattle.decoder.specs.declared.byte_offsets.layout.ByteOffsets.{ByteOffsets}

-- what stands for a part that is not there
abbrev pub no_part : Part
no_part = record { at = 0; len = 0 }

-- the bytes of a part of some bytes
abbrev pub part_bytes : List ℕ → Part → List ℕ
part_bytes bytes p = take p.len (drop p.at bytes)

-- Each part that is told has the bytes of that part of the spelling: prefixes with REX, VEX or escape bytes, the opcode byte, ModRM, SIB, the
-- displacement, and of each operand the bytes that its immediate is read from, the lowest first (2.1, figure 2-1)
pub record HoldParts (bits : Bits) (row : Row) (s : Spelling) (bytes : List ℕ) (offsets : ByteOffsets) : Type 0 where
  pub prefixes : part_bytes bytes offsets.prefixes ≡ s.prefixes.items
  pub lead : part_bytes bytes offsets.lead ≡ lead_bytes row.map s.vex
  pub opcode : part_bytes bytes offsets.opcode ≡ s.opcode ∷ []
  pub modrm : part_bytes bytes offsets.modrm ≡ modrm_bytes s.modrm
  pub sib : part_bytes bytes offsets.sib ≡ sib_bytes s.sib
  pub displacement : part_bytes bytes offsets.displacement ≡ s.disp.items
  pub immediates : (n : ℕ) → n < 4 → part_bytes bytes (slice_index_or offsets.immediates n no_part)
      ≡ own_immediate (state_size bits row (state_of bits row s)) row n s.imm.items
