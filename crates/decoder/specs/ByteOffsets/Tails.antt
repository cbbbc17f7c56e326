-- ModRM and SIB of the bytes behind an opcode byte, and the lengths that follow.
use Rattle.std.specs.Prelude.{ℕ, ◌-◌, List, length, Option, Some, None, slice_get, if◌then◌else◌}
use Rattle.std.specs.Option.{option_map}
use Rattle.x86_values.specs.declared.Bits.{Bits}
use Rattle.instruction_parts.specs.declared.row_types.Row.{Row}
use Rattle.instruction_parts.specs.declared.spelling.ModRm.{ModRm}
use Rattle.instruction_parts.specs.declared.spelling.Sib.{Sib}
use Rattle.instruction_parts.specs.declared.spelling.PrefixState.{PrefixState}
use Rattle.instruction_parts.specs.Bytes.{lead_bytes, modrm_bytes, sib_bytes}
use Rattle.instruction_parts.specs.Sizes.{state_size}
use Rattle.modrm_sib.specs.Parts.{modrm_in, sib_of_byte, takes_sib, displacement_len}
use Rattle.decoder.specs.declared.byte_offsets.layout.Lengths.{Lengths}
use Rattle.decoder.specs.declared.byte_offsets.layout.ByteOffsets.{ByteOffsets}
use Rattle.decoder.specs.ByteOffsets.Offsets.{offsets_by}

-- the SIB, where the ModRM before it takes one
unfoldable pub sib_in : Bits → Row → PrefixState → Option ModRm → List ℕ → Option Sib
sib_in bits row state None tail = None
sib_in bits row state (Some m) tail = if takes_sib bits row state m then option_map sib_of_byte (slice_get tail 1) else None

-- the lengths of the parts of a front and a tail
unfoldable pub lengths_in : Bits → Row → PrefixState → List ℕ → Lengths
lengths_in bits row state tail =
    let lead = length (lead_bytes state.map state.vex) in
    let modrm = modrm_in row tail in
    let sib = sib_in bits row state modrm tail in
    record {
      prefixes = state.used - lead;
      lead = lead;
      modrm = length (modrm_bytes modrm);
      sib = length (sib_bytes sib);
      displacement = displacement_len bits row state modrm sib;
    }

-- the parts of a front and a tail
abbrev pub offsets_in : Bits → Row → PrefixState → List ℕ → ByteOffsets
offsets_in bits row state tail = offsets_by (lengths_in bits row state tail) (state_size bits row state) row
