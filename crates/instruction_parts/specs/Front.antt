-- The front of some bytes: what they say up to and with the opcode byte (Intel SDM volume 2, 2.1, 2.2.1, 2.3.5).
use Rattle.std.specs.Prelude.{ℕ, ◌+◌, ◌-◌, ◌/◌, ◌%◌, Bool, true, false, ◌&&◌, ◌||◌, not, ◌==◌, nat_le, if◌then◌else◌, List, [], ◌∷◌, length, drop, Option, Some, None, is_some}
use Rattle.x86_values.specs.declared.Bits.{Bits}
use Rattle.x86_values.specs.declared.Bits.TheVariants.{B64}
use Rattle.instruction_parts.specs.declared.row_types.Map.{Map}
use Rattle.instruction_parts.specs.declared.row_types.Map.TheVariants.{One, M0f, M0f38, M0f3a}
use Rattle.instruction_parts.specs.declared.spelling.Vex.{Vex}
use Rattle.instruction_parts.specs.declared.spelling.PrefixState.{PrefixState}
use Rattle.instruction_parts.specs.Counting.{is_64, is_prefix, has_lock, has_66, is_repeat, counting_rex, bit_of}
use Rattle.instruction_parts.specs.Bytes.{state_from}
use Rattle.std.specs.List.{list_any}

-- what some bytes are, up to their opcode byte
pub data Front : Type 0 where
  -- the bytes end before their opcode byte, and hold nothing that is forbidden
  Open : Front
  -- no opcode byte can follow
  Forbidden : Front
  -- they have an opcode byte
  Known : PrefixState → Front

-- the longest run of prefix bytes at the front (2.1.1)
unfoldable pub prefix_run : Bits → List ℕ → List ℕ
prefix_run bits [] = []
prefix_run bits (b ∷ bytes) = if is_prefix bits b then b ∷ prefix_run bits bytes else []

-- a VEX is forbidden behind 66, F2, F3 or F0, or directly behind a REX (2.3.2, 2.3.3, 2.3.4)
unfoldable pub forbids_vex : Bits → List ℕ → Bool
forbids_vex bits prefixes =
    has_lock prefixes || has_66 prefixes || list_any is_repeat prefixes || is_some (counting_rex bits prefixes)

-- the top two bits of a byte are 11: as a ModRM byte it names a register
abbrev pub top_two_set : ℕ → Bool
top_two_set b = b / 64 == 3

-- the map that the number in a three-byte VEX names: 1, 2 and 3, and no other is a map (2.3.6.1)
unfoldable pub map_numbered : ℕ → Option Map
map_numbered n =
    if n == 1 then Some M0f else (if n == 2 then Some M0f38 else (if n == 3 then Some M0f3a else None))

-- the VEX of two bytes whose second byte is b (2.3.5, figure 2-9)
unfoldable pub short_vex : ℕ → Vex
short_vex b = record {
  three = false;
  r = not (bit_of 7 b);
  x = false;
  b = false;
  w = false;
  l = bit_of 2 b;
  map = M0f;
  vvvv = 15 - b / 8 % 16;
  pp = b % 4;
}

-- the VEX of three bytes whose second and third bytes are b and c, with this map (2.3.5, figure 2-9)
unfoldable pub long_vex : Map → ℕ → ℕ → Vex
long_vex map b c = record {
  three = true;
  r = not (bit_of 7 b);
  x = not (bit_of 6 b);
  b = not (bit_of 5 b);
  w = bit_of 7 c;
  l = bit_of 2 c;
  map = map;
  vvvv = 15 - c / 8 % 16;
  pp = c % 4;
}

-- behind the prefixes and the bytes of a lead: the opcode byte, or the end
unfoldable pub opcode_front : Bits → List ℕ → ℕ → Option Vex → Map → List ℕ → Front
opcode_front bits prefixes lead vex map [] = Open
opcode_front bits prefixes lead vex map (opcode ∷ _) =
    Known (state_from bits prefixes (length prefixes + lead) vex map opcode)

-- behind the prefixes and C5
unfoldable pub short_vex_front : Bits → List ℕ → List ℕ → Front
short_vex_front bits prefixes [] = Open
short_vex_front bits prefixes (b ∷ bytes) =
    opcode_front bits prefixes 2 (Some (short_vex b)) M0f bytes

-- behind the prefixes, C4 and a byte with this map
unfoldable pub third_byte_front : Bits → List ℕ → ℕ → Option Map → List ℕ → Front
third_byte_front bits prefixes b None bytes = Forbidden
third_byte_front bits prefixes b (Some map) [] = Open
third_byte_front bits prefixes b (Some map) (c ∷ bytes) =
    opcode_front bits prefixes 3 (Some (long_vex map b c)) map bytes

-- behind the prefixes and C4
unfoldable pub long_vex_front : Bits → List ℕ → List ℕ → Front
long_vex_front bits prefixes [] = Open
long_vex_front bits prefixes (b ∷ bytes) = third_byte_front bits prefixes b (map_numbered (b % 32)) bytes

-- behind the prefixes and C4 or C5 that is a VEX: forbidden at once where it may not stand
unfoldable pub vex_front : Bits → List ℕ → ℕ → List ℕ → Front
vex_front bits prefixes lead bytes =
    if forbids_vex bits prefixes then Forbidden
    else (if lead == 0xC5 then short_vex_front bits prefixes bytes else long_vex_front bits prefixes bytes)

-- behind the prefixes and C4 or C5: outside 64-bit mode it is a VEX only where the top two bits of the next byte are 11, else LES or LDS (2.3.5.1)
unfoldable pub vex_or_opcode_front : Bits → List ℕ → ℕ → List ℕ → Front
vex_or_opcode_front B64 prefixes lead bytes = vex_front B64 prefixes lead bytes
vex_or_opcode_front bits prefixes lead [] = Open
vex_or_opcode_front bits prefixes lead (b ∷ bytes) =
    if top_two_set b then vex_front bits prefixes lead (b ∷ bytes)
    else opcode_front bits prefixes 0 None One (lead ∷ b ∷ bytes)

-- behind the prefixes and 0F: a second escape byte or an opcode byte, and 0F 0F is none (2.1.2)
unfoldable pub escape_front : Bits → List ℕ → List ℕ → Front
escape_front bits prefixes [] = Open
escape_front bits prefixes (b ∷ bytes) =
    if b == 0x38 then opcode_front bits prefixes 2 None M0f38 bytes
    else (if b == 0x3A then opcode_front bits prefixes 2 None M0f3a bytes
    else (if b == 0x0F then Forbidden
    else opcode_front bits prefixes 1 None M0f (b ∷ bytes)))

-- C4 or C5
abbrev pub is_vex_lead : ℕ → Bool
is_vex_lead b = b == 0xC4 || b == 0xC5

-- behind the prefixes: a VEX, escape bytes, or an opcode byte, which in 64-bit mode is not 62
unfoldable pub lead_front : Bits → List ℕ → List ℕ → Front
lead_front bits prefixes [] = Open
lead_front bits prefixes (b ∷ bytes) =
    if is_vex_lead b then vex_or_opcode_front bits prefixes b bytes
    else (if b == 0x0F then escape_front bits prefixes bytes
    else (if is_64 bits && (b == 0x62) then Forbidden
    else opcode_front bits prefixes 0 None One (b ∷ bytes)))

-- the front of the bytes, of any length: the state up to and with the opcode byte
unfoldable pub long_front : Bits → List ℕ → Front
long_front bits bytes =
    let prefixes = prefix_run bits bytes in lead_front bits prefixes (drop (length prefixes) bytes)

-- the front within the 15 bytes of an instruction: it is forbidden once 15 bytes hold no opcode byte (2.3.11)
unfoldable pub within_15 : ℕ → Front → Front
within_15 given Open = if nat_le 15 given then Forbidden else Open
within_15 given Forbidden = Forbidden
within_15 given (Known state) = if nat_le 15 state.used then Forbidden else Known state

-- the front of the bytes
unfoldable pub front_of : Bits → List ℕ → Front
front_of bits bytes = within_15 (length bytes) (long_front bits bytes)

-- the front is open: the bytes end before their opcode byte and hold nothing that is forbidden
abbrev pub is_open : Front → Bool
is_open Open = true
is_open _ = false
