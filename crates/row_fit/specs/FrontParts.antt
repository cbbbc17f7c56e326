-- What bytes whose front is known are made of (Intel SDM volume 2, 2.1 and 2.3.5).
use Rattle.std.specs.Prelude.{◌≡◌, ℕ, ◌+◌, ◌<◌, Bool, true, false, not, List, [], ◌∷◌, ◌++◌, length, drop, slice_index, Option, Some, None, IsTrue}
use Rattle.std.specs.List.{list_all}
use Rattle.x86_values.specs.declared.Bits.{Bits}
use Rattle.instruction_parts.specs.declared.row_types.Map.{Map}
use Rattle.instruction_parts.specs.declared.row_types.Map.TheVariants.{One}
use Rattle.instruction_parts.specs.declared.spelling.Vex.{Vex}
use Rattle.instruction_parts.specs.declared.spelling.PrefixState.{PrefixState}
use Rattle.instruction_parts.specs.Counting.{is_64, is_prefix}
use Rattle.instruction_parts.specs.Bytes.{lead_bytes, state_from}
use Rattle.instruction_parts.specs.Front.{forbids_vex, is_vex_lead, top_two_set}
use Rattle.row_fit.specs.Fits.{vex_in_range, is_vex_of_mode, is_opcode}

-- the byte at `used` is the opcode byte of the state
pub record OpcodeAt (bytes : List ℕ) (f : PrefixState) : Type 0 where
  pub is_within : f.used < length bytes
  pub opcode_is : slice_index bytes f.used ≡ f.opcode
  pub behind : drop f.used bytes ≡ f.opcode ∷ drop (f.used + 1) bytes

-- bytes begin with one whose top two bits are not 11: as a ModRM byte it says memory
abbrev pub begins_with_memory : List ℕ → Bool
begins_with_memory [] = false
begins_with_memory (b ∷ bytes) = not (top_two_set b)

-- C4 or C5 of the one-byte map
abbrev pub is_far_load : Map → ℕ → Bool
is_far_load One b = is_vex_lead b
is_far_load _ b = false

-- without a VEX the opcode byte is none that begins something else; C4 and C5 stand outside 64-bit mode, with memory
pub record OpcodeAlone (bits : Bits) (map : Map) (opcode : ℕ) (rest : List ℕ) : Type 0 where
  pub is_one : IsTrue (is_opcode bits map opcode)
  pub mode_of_far_load : IsTrue (is_far_load map opcode) → is_64 bits ≡ false
  pub memory_of_far_load : IsTrue (is_far_load map opcode) → IsTrue (begins_with_memory rest)

-- a VEX that was read has fields of its ranges, stands where it may, and names the map
pub record VexAhead (bits : Bits) (prefixes : List ℕ) (v : Vex) (map : Map) : Type 0 where
  pub in_range : IsTrue (vex_in_range (Some v))
  pub is_allowed : forbids_vex bits prefixes ≡ false
  pub is_of_mode : IsTrue (is_vex_of_mode bits v)
  pub map_is : v.map ≡ map

-- what stands between the prefixes and the rest
abbrev pub LeadIsProper : Bits → List ℕ → Option Vex → Map → ℕ → List ℕ → Type 0
LeadIsProper bits prefixes None map opcode rest = OpcodeAlone bits map opcode rest
LeadIsProper bits prefixes (Some v) map opcode rest = VexAhead bits prefixes v map

-- the bytes are prefixes, the VEX or escape bytes and the opcode byte of the state, and a rest; the state is what these parts say
pub record Parted (bits : Bits) (bytes : List ℕ) (f : PrefixState) : Type 0 where
  pub prefixes : List ℕ
  pub rest : List ℕ
  pub all_prefixes : list_all (is_prefix bits) prefixes ≡ true
  pub bytes_are : bytes ≡ prefixes ++ (lead_bytes f.map f.vex ++ (f.opcode ∷ rest))
  pub rest_is : rest ≡ drop (f.used + 1) bytes
  pub state_is : f ≡ state_from bits prefixes (length prefixes + length (lead_bytes f.map f.vex)) f.vex f.map f.opcode
  pub lead_is_proper : LeadIsProper bits prefixes f.vex f.map f.opcode rest
