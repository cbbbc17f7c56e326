-- Where the parts of an instruction stand in its bytes, as the flat struct of the C interface.
use Rattle.std.specs.Prelude.{◌≡◌, ℕ, ℤ, pos, List, Option, Some, None, Result, Ok, Err, slice_index_or}
use Rattle.x86_values.specs.declared.Bits.{Bits}
use Rattle.decoder.specs.declared.DecodeError.{DecodeError}
use Rattle.decoder.specs.declared.DecodeError.TheVariants.{Invalid as InvalidError, TooShort as TooShortError}
use Rattle.decoder.specs.declared.byte_offsets.layout.Part.{Part}
use Rattle.decoder.specs.declared.byte_offsets.layout.ByteOffsets.{ByteOffsets}
use Rattle.decoder.specs.ByteOffsets.Offsets.{part, IsOffsetsAnswer}
use Rattle.c_calls.specs.declared.refusal.Refusal.TheVariants.{Mode, Invalid, TooShort}
use Rattle.c_calls.specs.declared.flat.FlatPart.{FlatPart}
use Rattle.c_calls.specs.declared.flat.FlatOffsets.{FlatOffsets}
use Rattle.c_calls.specs.Refusals.{refusal_status}

-- a part: its offset and its length
abbrev pub flat_part : Part → FlatPart
flat_part p = record { at = p.at; len = p.len }

-- the part of the n-th of four operands
abbrev pub flat_own_part : List Part → ℕ → FlatPart
flat_own_part parts n = flat_part (slice_index_or parts n (part 0 0))

-- all parts
unfoldable pub flat_offsets : ByteOffsets → FlatOffsets
flat_offsets o = record {
  prefixes = flat_part o.prefixes;
  lead = flat_part o.lead;
  opcode = flat_part o.opcode;
  modrm = flat_part o.modrm;
  sib = flat_part o.sib;
  displacement = flat_part o.displacement;
  immediate0 = flat_own_part o.immediates 0;
  immediate1 = flat_own_part o.immediates 1;
  immediate2 = flat_own_part o.immediates 2;
  immediate3 = flat_own_part o.immediates 3;
}

-- how many bytes the instruction has, or why there is none
abbrev pub offsets_said : Result ByteOffsets DecodeError → ℤ
offsets_said (Ok o) = pos o.len
offsets_said (Err TooShortError) = refusal_status TooShort
offsets_said (Err InvalidError) = refusal_status Invalid

-- what stands in the struct then
abbrev pub offsets_left : FlatOffsets → Result ByteOffsets DecodeError → FlatOffsets
offsets_left old (Ok o) = flat_offsets o
offsets_left old (Err why) = old

-- the parts of the instruction at the front of some bytes, or why there is none
pub record AreOffsetsIn (bits : Bits) (bytes : List ℕ) (old new : FlatOffsets) (answer : ℤ) : Type 0 where
  pub offsets : Result ByteOffsets DecodeError
  pub told : IsOffsetsAnswer bits 0 bytes offsets
  pub answer_is : answer ≡ offsets_said offsets
  pub left : new ≡ offsets_left old offsets

-- the parts of the instruction at the front of some bytes, where the number of the mode names one
abbrev pub AreOffsetsOf : Option Bits → List ℕ → FlatOffsets → FlatOffsets → ℤ → Type 0
AreOffsetsOf None bytes old new answer = (answer ≡ refusal_status Mode) × (new ≡ old)
AreOffsetsOf (Some bits) bytes old new answer = AreOffsetsIn bits bytes old new answer
