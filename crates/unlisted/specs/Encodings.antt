-- An encoding without a row, byte by byte (Intel SDM volume 2, 2.1, 2.3 and 2.7).
use Rattle.std.specs.Prelude.{ℕ, ◌+◌, ◌&&◌, ◌==◌, nat_le, if◌then◌else◌, List, [], ◌∷◌, length, take, drop, Option, Some, None, Result, Ok, Err}
use Rattle.x86_values.specs.declared.Bits.{Bits}
use Rattle.instruction_parts.specs.declared.spelling.ModRm.{ModRm}
use Rattle.instruction_parts.specs.declared.spelling.Sib.{Sib}
use Rattle.instruction_parts.specs.Counting.{is_64, has_67, bit_of}
use Rattle.instruction_parts.specs.Sizes.{address_size}
use Rattle.instruction_parts.specs.Front.{prefix_run, forbids_vex}
use Rattle.row_fit.specs.Fits.{needs_sib, displacement_bytes}
use Rattle.row_meaning.specs.Meaning.{sign_extended}
use Rattle.modrm_sib.specs.Parts.{modrm_of_byte, sib_of_byte}
use Rattle.unlisted.specs.declared.Kind.{Kind}
use Rattle.unlisted.specs.declared.ShapeFlow.{ShapeFlow}
use Rattle.unlisted.specs.declared.ShapeFlow.TheVariants as flows
use Rattle.unlisted.specs.declared.Reference.{Reference}
use Rattle.unlisted.specs.declared.Reference.TheVariants.{Rip, Eip, Branch}
use Rattle.unlisted.specs.declared.Relative.{Relative}
use Rattle.unlisted.specs.declared.Shape.{Shape}
use Rattle.unlisted.specs.declared.MeasureError.{MeasureError}
use Rattle.unlisted.specs.declared.MeasureError.TheVariants.{Ended, Unknown}
use Rattle.unlisted.specs.declared.formats.Tail.{Tail}
use Rattle.unlisted.specs.declared.formats.Lead.{Lead}
use Rattle.unlisted.specs.declared.formats.Lead.TheVariants as leads
use Rattle.unlisted.specs.Formats.{allows, has_modrm, legacy, one_byte_tail, two_byte_tail, lead_of, map_of, stands, vector_tail, tail_flow, distance_bytes}
use Rattle.unlisted.specs.declared.formats.ModRmBytes.TheVariants.{Any}

-- what is still to come of an encoding
pub data Rest : Type 0 where
  -- no encoding that is measured begins so
  Nothing : Rest
  -- one more byte, by which it goes on
  Byte : (ℕ → Rest) → Rest
  -- the bytes that end it, whatever they are: a displacement, which may be relative, and immediates
  End : Kind → ShapeFlow → Option Reference → ℕ → ℕ → Rest

-- ---- the parts of an encoding, the last one first

-- in 64-bit mode mod 0 with rm 5 is memory at RIP, and with 67 at EIP (2.2.1.6)
unfoldable pub memory_reference : Bits → Bits → ModRm → Option Reference
memory_reference bits asize m =
    if is_64 bits && (m.mode3 == 0 && m.rm == 5) then Some (if is_64 asize then Rip else Eip) else None

-- behind ModRM and SIB: the displacement that they ask for (2.1.5), and the immediates
unfoldable pub end_step : Bits → Bits → Tail → ShapeFlow → ModRm → Option Sib → Rest
end_step bits asize t flow m sib = End t.kind flow (memory_reference bits asize m) (displacement_bytes asize m sib) t.immediates

-- behind ModRM: a SIB where it asks for one (2.1.5)
unfoldable pub address_step : Bits → Bits → Tail → ShapeFlow → ModRm → Rest
address_step bits asize t flow m =
    if needs_sib asize m then Byte (λ b. end_step bits asize t flow m (Some (sib_of_byte b))) else end_step bits asize t flow m None

-- a branch ends with its distance
abbrev pub branch_end : Kind → ℕ → Rest
branch_end kind distance = End kind flows.Branch (Some Branch) distance 0

-- behind a ModRM byte of the format, by the bytes of its distance if it is a branch
abbrev pub operand_step : Option ℕ → Bits → List ℕ → Tail → ℕ → Rest
operand_step (Some distance) bits prefixes t b = branch_end t.kind distance
operand_step None bits prefixes t b =
    address_step bits (address_size bits (has_67 prefixes)) t (tail_flow prefixes t.flow b) (modrm_of_byte b)

-- a ModRM byte of the format
unfoldable pub modrm_step : Bits → List ℕ → Tail → ℕ → Rest
modrm_step bits prefixes t b =
    if allows t.modrm b then operand_step (distance_bytes bits prefixes t.flow) bits prefixes t b else Nothing

-- without a ModRM byte, on which no flow depends here, by the bytes of its distance if it is a branch
abbrev pub bare_step : Option ℕ → List ℕ → Tail → Rest
bare_step (Some distance) prefixes t = branch_end t.kind distance
bare_step None prefixes t = End t.kind (tail_flow prefixes t.flow 0) None 0 t.immediates

-- behind the opcode byte
unfoldable pub tail_step : Bits → List ℕ → Tail → Rest
tail_step bits prefixes t =
    if has_modrm t.modrm then Byte (modrm_step bits prefixes t) else bare_step (distance_bytes bits prefixes t.flow) prefixes t

-- behind an opcode byte that has a format, or none
unfoldable pub opcode_step : Bits → List ℕ → Option Tail → Rest
opcode_step bits prefixes None = Nothing
opcode_step bits prefixes (Some t) = tail_step bits prefixes t

-- the opcode byte behind an EVEX, a VEX or an XOP of a map
unfoldable pub vector_step : Bits → List ℕ → Lead → ℕ → Rest
vector_step bits prefixes lead map = Byte (λ opcode. opcode_step bits prefixes (vector_tail lead map opcode))

-- the byte behind W, vvvv and pp of an EVEX is any; bit 2 of the byte of W is 1 (2.7.1)
unfoldable pub evex_step : Bits → List ℕ → ℕ → ℕ → Rest
evex_step bits prefixes map b =
    if bit_of 2 b then Byte (λ _. vector_step bits prefixes leads.Evex map) else Nothing

-- behind the byte with the map: two more of EVEX, one of the others but a VEX of two bytes (2.3.5, 2.7.1)
unfoldable pub map_step : Bits → List ℕ → Lead → ℕ → Rest
map_step bits prefixes leads.Evex map = Byte (evex_step bits prefixes map)
map_step bits prefixes leads.Vex2 map = vector_step bits prefixes leads.Vex2 map
map_step bits prefixes leads.Vex3 map = Byte (λ _. vector_step bits prefixes leads.Vex3 map)
map_step bits prefixes leads.Xop map = Byte (λ _. vector_step bits prefixes leads.Xop map)

-- the byte behind 62, C5, C4 or 8F
unfoldable pub payload_step : Bits → List ℕ → Lead → ℕ → Rest
payload_step bits prefixes lead b =
    if stands bits lead b then map_step bits prefixes lead (map_of lead b) else Nothing

-- the byte behind 0F: 38 and 3A are escape bytes; each opcode behind 38 has a ModRM byte, behind 3A also an immediate byte (A.3)
unfoldable pub escape_step : Bits → List ℕ → ℕ → Rest
escape_step bits prefixes b =
    if b == 0x38 then Byte (λ _. tail_step bits prefixes (legacy Any 0))
    else (if b == 0x3A then Byte (λ _. tail_step bits prefixes (legacy Any 1))
    else opcode_step bits prefixes (two_byte_tail prefixes b))

-- 62, C5, C4 and 8F, which 66, F2, F3, F0 and a counting REX forbid (2.3.2 to 2.3.4, 2.7)
unfoldable pub led_step : Bits → List ℕ → Lead → Rest
led_step bits prefixes lead = if forbids_vex bits prefixes then Nothing else Byte (payload_step bits prefixes lead)

-- a byte that leads nothing: 0F, or an opcode byte
unfoldable pub plain_step : Bits → List ℕ → ℕ → Rest
plain_step bits prefixes b =
    if b == 0x0F then Byte (escape_step bits prefixes) else opcode_step bits prefixes (one_byte_tail bits prefixes b)

-- the byte behind the prefixes, by what it leads
unfoldable pub lead_step : Bits → List ℕ → Option Lead → ℕ → Rest
lead_step bits prefixes None b = plain_step bits prefixes b
lead_step bits prefixes (Some lead) b = led_step bits prefixes lead

-- behind the prefixes
unfoldable pub front_step : Bits → List ℕ → Rest
front_step bits prefixes = Byte (λ b. lead_step bits prefixes (lead_of b) b)

-- ---- bytes that are such an encoding

-- the number at an offset, of these bytes
unfoldable pub relative_of : Option Reference → ℕ → List ℕ → Option Relative
relative_of None at disp = None
relative_of (Some to) at disp = Some (record { to = to; at = at; len = length disp; distance = sign_extended 64 disp })

-- behind so many bytes: the displacement and the immediates that end an encoding
unfoldable pub ended : Kind → ShapeFlow → Option Reference → ℕ → ℕ → ℕ → List ℕ → Result Shape MeasureError
ended kind flow reference d i used bytes =
    if nat_le (d + i) (length bytes) then
    Ok (record { len = used + (d + i); kind = kind; flow = flow; relative = relative_of reference used (take d bytes) })
    else Err Ended

-- what some bytes are, behind so many others: the shape, or that they end inside, or that none begins so
unfoldable pub found : Rest → ℕ → List ℕ → Result Shape MeasureError
found Nothing used bytes = Err Unknown
found (End kind flow reference d i) used bytes = ended kind flow reference d i used bytes
found (Byte step) used [] = Err Ended
found (Byte step) used (b ∷ bytes) = found (step b) (used + 1) bytes

-- what stands behind the prefixes of some bytes (2.1.1, 2.2.1)
unfoldable pub found_behind : Bits → List ℕ → List ℕ → Result Shape MeasureError
found_behind bits prefixes bytes = found (front_step bits prefixes) (length prefixes) (drop (length prefixes) bytes)

-- what bytes are that hold no more than an instruction
unfoldable pub found_in : Bits → List ℕ → Result Shape MeasureError
found_in bits bytes = found_behind bits (prefix_run bits bytes) bytes

-- an instruction does not go on behind 15 bytes (2.3.11)
unfoldable pub within_15 : ℕ → Result Shape MeasureError → Result Shape MeasureError
within_15 given (Ok s) = Ok s
within_15 given (Err Unknown) = Err Unknown
within_15 given (Err Ended) = if nat_le 15 given then Err Unknown else Err Ended

-- what the bytes are by the formats: only the first 15 count
unfoldable pub format_of : Bits → List ℕ → Result Shape MeasureError
format_of bits bytes = within_15 (length bytes) (found_in bits (take 15 bytes))
