-- The bytes of a spelling, and what its parts up to the opcode byte say (Intel SDM volume 2, 2.1 and 2.3.5).
use Rattle.std.specs.Prelude.{ℕ, ◌+◌, ◌-◌, ◌*◌, Bool, true, false, List, [], ◌∷◌, ◌++◌, length, Option, Some, None, cond}
use Rattle.x86_values.specs.declared.Bits.{Bits}
use Rattle.x86_values.specs.declared.Segment.{Segment}
use Rattle.x86_values.specs.declared.Rep.{Rep}
use Rattle.x86_values.specs.declared.Rep.TheVariants.{None as NoRep}
use Rattle.instruction_parts.specs.declared.row_types.Map.{Map}
use Rattle.instruction_parts.specs.declared.row_types.Map.TheVariants.{One, M0f, M0f38, M0f3a}
use Rattle.instruction_parts.specs.declared.row_types.Row.{Row}
use Rattle.instruction_parts.specs.declared.spelling.Vex.{Vex}
use Rattle.instruction_parts.specs.declared.spelling.ModRm.{ModRm}
use Rattle.instruction_parts.specs.declared.spelling.Sib.{Sib}
use Rattle.instruction_parts.specs.declared.spelling.Spelling.{Spelling}
use Rattle.instruction_parts.specs.declared.spelling.PrefixState.{PrefixState}
use Rattle.instruction_parts.specs.Counting.{has_lock, has_66, has_67, counting_repeat, counting_segment, counting_rex}

-- the escape bytes of a map: none, 0F, 0F 38, 0F 3A (2.1.2)
abbrev pub escape_bytes : Map → List ℕ
escape_bytes One = []
escape_bytes M0f = 0x0F ∷ []
escape_bytes M0f38 = 0x0F ∷ 0x38 ∷ []
escape_bytes M0f3a = 0x0F ∷ 0x3A ∷ []

-- the number of a map in a three-byte VEX, its field mmmmm (2.3.6.1)
abbrev pub map_number : Map → ℕ
map_number One = 0
map_number M0f = 1
map_number M0f38 = 2
map_number M0f3a = 3

-- a flag as a bit
abbrev pub bit : Bool → ℕ
bit b = cond b 1 0

-- a flag that is stored inverted
abbrev pub inverted_bit : Bool → ℕ
inverted_bit b = cond b 0 1

-- the last byte of a VEX: a bit in front, vvvv inverted, L and pp (2.3.5, figure 2-9)
unfoldable pub vex_last_byte : ℕ → Vex → ℕ
vex_last_byte front v = front * 128 + (15 - v.vvvv) * 8 + bit v.l * 4 + v.pp

-- the second byte of a three-byte VEX: R, X and B inverted, and the map number (2.3.5, figure 2-9)
unfoldable pub vex_map_byte : Vex → ℕ
vex_map_byte v = inverted_bit v.r * 128 + inverted_bit v.x * 64 + inverted_bit v.b * 32 + map_number v.map

-- the bytes of a VEX: C5 and one with R, or C4, the byte of the map and one with W (2.3.5)
unfoldable pub vex_bytes : Vex → List ℕ
vex_bytes v =
    elim v.three [
      | true ↦ 0xC4 ∷ vex_map_byte v ∷ vex_last_byte (bit v.w) v ∷ []
      | false ↦ 0xC5 ∷ vex_last_byte (inverted_bit v.r) v ∷ []
    ]

-- what stands between the prefixes and the opcode byte: the VEX, else the escape bytes of the map (2.1.2, 2.3.1)
unfoldable pub lead_bytes : Map → Option Vex → List ℕ
lead_bytes map None = escape_bytes map
lead_bytes map (Some v) = vex_bytes v

-- the ModRM byte: mod, reg and rm (2.1.3)
abbrev pub modrm_byte : ModRm → ℕ
modrm_byte m = m.mode3 * 64 + m.reg * 8 + m.rm

-- the SIB byte: scale, index and base (2.1.3)
abbrev pub sib_byte : Sib → ℕ
sib_byte s = s.scale * 64 + s.index * 8 + s.base

-- the ModRM byte, where there is one
abbrev pub modrm_bytes : Option ModRm → List ℕ
modrm_bytes None = []
modrm_bytes (Some m) = modrm_byte m ∷ []

-- the SIB byte, where there is one
abbrev pub sib_bytes : Option Sib → List ℕ
sib_bytes None = []
sib_bytes (Some s) = sib_byte s ∷ []

-- what stands behind the opcode byte: ModRM, SIB, displacement, immediates (2.1)
unfoldable pub tail_bytes : Spelling → List ℕ
tail_bytes s = modrm_bytes s.modrm ++ (sib_bytes s.sib ++ (s.disp.items ++ s.imm.items))

-- what stands before the opcode byte: prefixes, then the VEX or the escape bytes (2.1, 2.3.1)
unfoldable pub front_bytes : Row → Spelling → List ℕ
front_bytes row s = s.prefixes.items ++ lead_bytes row.map s.vex

-- the bytes of a spelling of the row: its parts in order (2.1, figure 2-1)
unfoldable pub bytes_of : Row → Spelling → List ℕ
bytes_of row s = front_bytes row s ++ (s.opcode ∷ tail_bytes s)

-- the map of a spelling: that of its VEX, else that of the row
abbrev pub spelled_map : Map → Option Vex → Map
spelled_map map None = map
spelled_map map (Some v) = v.map

-- the state of these fields
abbrev pub state : ℕ → Bool → Bool → Bool → Rep → Option Segment → Option ℕ → Option Vex → Map → ℕ → PrefixState
state used s a l rep seg rex vex map o =
    record { used = used; size66 = s; addr67 = a; lock = l; rep = rep; seg = seg; rex = rex; vex = vex; map = map; opcode = o }

-- what prefixes, VEX, map and opcode byte say, which is all that the rest depends on
unfoldable pub state_from : Bits → List ℕ → ℕ → Option Vex → Map → ℕ → PrefixState
state_from bits prefixes used vex map opcode =
    state used (has_66 prefixes) (has_67 prefixes) (has_lock prefixes) (counting_repeat prefixes)
    (counting_segment bits prefixes) (counting_rex bits prefixes) vex map opcode

-- the state behind a REX that is the only prefix, or behind none
abbrev pub state_of_rex : Option ℕ → ℕ → Option Vex → Map → ℕ → PrefixState
state_of_rex rex used vex map opcode = state used false false false NoRep None rex vex map opcode

-- the state of a spelling of the row
unfoldable pub state_of : Bits → Row → Spelling → PrefixState
state_of bits row s =
    state_from bits s.prefixes.items (length (front_bytes row s)) s.vex (spelled_map row.map s.vex) s.opcode
