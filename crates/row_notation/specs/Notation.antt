-- The text of a shape: words joined by single spaces, hexadecimal digits in upper case (Intel SDM volume 2, 3.1.1.1 and 3.1.1.2).
use Rattle.std.specs.Prelude.{ℕ, ◌+◌, ◌/◌, ◌%◌, Bool, true, false, nat_lt, if◌then◌else◌, List, [], ◌∷◌, ◌++◌, codes}
use Rattle.instruction_parts.specs.declared.row_types.RowKind.TheVariants.{Legacy, Vex}
use Rattle.instruction_parts.specs.declared.row_types.Map.{Map}
use Rattle.instruction_parts.specs.declared.row_types.Map.TheVariants as map
use Rattle.instruction_parts.specs.declared.row_types.Class.{Class}
use Rattle.instruction_parts.specs.declared.row_types.Class.TheVariants as class
use Rattle.instruction_parts.specs.declared.row_types.ModRmRule.{ModRmRule}
use Rattle.instruction_parts.specs.declared.row_types.ModRmRule.TheVariants as rule
use Rattle.instruction_parts.specs.declared.row_types.WBit.{WBit}
use Rattle.instruction_parts.specs.declared.row_types.WBit.TheVariants as w
use Rattle.instruction_parts.specs.declared.row_types.LBit.{LBit}
use Rattle.instruction_parts.specs.declared.row_types.LBit.TheVariants as l
use Rattle.instruction_parts.specs.declared.row_types.SizeWord.{SizeWord}
use Rattle.instruction_parts.specs.declared.row_types.SizeWord.TheVariants as word
use Rattle.instruction_parts.specs.declared.row_types.PlusWord.{PlusWord}
use Rattle.instruction_parts.specs.declared.row_types.PlusWord.TheVariants as added
use Rattle.instruction_parts.specs.declared.row_types.ImmWord.{ImmWord}
use Rattle.instruction_parts.specs.declared.row_types.ImmWord.TheVariants as imm
use Rattle.instruction_parts.specs.declared.row_types.RowShape.{RowShape}

-- the class word, with the space behind it
abbrev pub class_text : Class → List ℕ
class_text class.Any = []
class_text class.Np = codes "NP "
class_text class.Nfx = codes "NFx "
class_text class.Nf3 = codes "NF3 "
class_text class.P66 = codes "66 "
class_text class.F3 = codes "F3 "
class_text class.F2 = codes "F2 "

-- the size word, with the space behind it
abbrev pub size_text : SizeWord → List ℕ
size_text word.None = []
size_text word.O16 = codes "o16 "
size_text word.O32 = codes "o32 "
size_text word.O64 = codes "o64 "
size_text word.RexW = codes "REX.W + "

-- the escape bytes, with the space behind them
abbrev pub map_text : Map → List ℕ
map_text map.One = []
map_text map.M0f = codes "0F "
map_text map.M0f38 = codes "0F 38 "
map_text map.M0f3a = codes "0F 3A "

-- a hexadecimal digit
abbrev pub digit_text : ℕ → ℕ
digit_text d = if nat_lt d 10 then 48 + d else 55 + d

-- a byte in two digits
abbrev pub byte_text : ℕ → List ℕ
byte_text b = digit_text (b / 16) ∷ digit_text (b % 16) ∷ []

-- the register that is added to the opcode byte
abbrev pub plus_text : PlusWord → List ℕ
plus_text added.None = []
plus_text added.Rb = codes "+rb"
plus_text added.Rw = codes "+rw"
plus_text added.Rd = codes "+rd"
plus_text added.Ro = codes "+ro"

-- the stack number that is added to a ModRM byte
abbrev pub stack_text : Bool → List ℕ
stack_text true = codes "+i"
stack_text false = []

-- ModRM, with the space before it
abbrev pub modrm_text : ModRmRule → List ℕ
modrm_text rule.No = []
modrm_text rule.Any = codes " /r"
modrm_text (rule.Digit d) = codes " /" ++ digit_text d ∷ []
modrm_text (rule.Fixed b) = codes " " ++ byte_text b

-- the immediates, each with the space before it
abbrev pub imm_text : ImmWord → List ℕ
imm_text imm.None = []
imm_text imm.Ib = codes " ib"
imm_text imm.Iw = codes " iw"
imm_text imm.Id = codes " id"
imm_text imm.Io = codes " io"
imm_text imm.Cb = codes " cb"
imm_text imm.Cw = codes " cw"
imm_text imm.Cd = codes " cd"
imm_text imm.Cp = codes " cp"
imm_text imm.Is4 = codes " /is4"
imm_text imm.IwIb = codes " iw ib"

-- L of a VEX
abbrev pub l_text : LBit → List ℕ
l_text l.None = []
l_text l.L128 = codes "128"
l_text l.L256 = codes "256"
l_text l.Lig = codes "LIG"
l_text l.Lz = codes "LZ"

-- pp of a VEX, with the point before it
abbrev pub pp_text : Class → List ℕ
pp_text class.P66 = codes ".66"
pp_text class.F3 = codes ".F3"
pp_text class.F2 = codes ".F2"
pp_text _ = []

-- the map of a VEX, with the point before it
abbrev pub vex_map_text : Map → List ℕ
vex_map_text map.One = []
vex_map_text map.M0f = codes ".0F"
vex_map_text map.M0f38 = codes ".0F38"
vex_map_text map.M0f3a = codes ".0F3A"

-- W of a VEX, with the point before it and the space behind it
abbrev pub w_text : WBit → List ℕ
w_text w.None = []
w_text w.W0 = codes ".W0 "
w_text w.W1 = codes ".W1 "
w_text w.Wig = codes ".WIG "

-- from ModRM on
unfoldable pub modrm_part : RowShape → List ℕ
modrm_part s = modrm_text s.modrm ++ (stack_text s.stack ++ imm_text s.imm)

-- from the opcode byte on
unfoldable pub opcode_part : RowShape → List ℕ
opcode_part s = byte_text s.opcode ++ (plus_text s.plus_word ++ modrm_part s)

-- the text of a legacy shape
unfoldable pub legacy_text : RowShape → List ℕ
legacy_text s = class_text s.class ++ (size_text s.size_word ++ (map_text s.map ++ opcode_part s))

-- the text of a VEX shape
unfoldable pub vex_text : RowShape → List ℕ
vex_text s =
    codes "VEX." ++ (l_text s.l ++ (pp_text s.class ++ (vex_map_text s.map ++ (w_text s.w ++ opcode_part s))))

-- the text of a shape
unfoldable pub notation : RowShape → List ℕ
notation s = elim s.kind [ Legacy ↦ legacy_text s | Vex ↦ vex_text s ]
