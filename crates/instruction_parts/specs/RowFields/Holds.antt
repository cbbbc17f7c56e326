-- When the conditions of a row hold on the nine fields of an instruction in a mode.
use Rattle.std.specs.Prelude.{ℕ, Bool, true, false, not, ◌&&◌, ◌||◌, ◌==◌, ◌+◌, ◌/◌, ◌%◌, ◌≡◌, nat_le, nat_lt, Option, Some, None, is_some, List, [], ◌∷◌, suc, slice_get}
use Rattle.x86_values.specs.declared.Bits.{Bits}
use Rattle.x86_values.specs.declared.Rep.{Rep}
use Rattle.x86_values.specs.declared.Rep.TheVariants as rep
use Rattle.instruction_parts.specs.declared.row_types.Row.{Row}
use Rattle.instruction_parts.specs.declared.row_types.RowKind.{RowKind}
use Rattle.instruction_parts.specs.declared.row_types.RowKind.TheVariants as kind
use Rattle.instruction_parts.specs.declared.row_types.Map.{Map}
use Rattle.instruction_parts.specs.declared.row_types.Map.TheVariants as map
use Rattle.instruction_parts.specs.declared.row_types.Class.{Class}
use Rattle.instruction_parts.specs.declared.row_types.Class.TheVariants as class
use Rattle.instruction_parts.specs.declared.row_types.Plus.{Plus}
use Rattle.instruction_parts.specs.declared.row_types.Plus.TheVariants as plus
use Rattle.instruction_parts.specs.declared.row_types.ModRmRule.{ModRmRule}
use Rattle.instruction_parts.specs.declared.row_types.ModRmRule.TheVariants as rule
use Rattle.instruction_parts.specs.declared.row_types.Place.{Place}
use Rattle.instruction_parts.specs.declared.row_types.Place.TheVariants as place
use Rattle.instruction_parts.specs.declared.row_types.Size.{Size}
use Rattle.instruction_parts.specs.declared.row_types.Size.TheVariants as size
use Rattle.instruction_parts.specs.declared.row_types.WBit.{WBit}
use Rattle.instruction_parts.specs.declared.row_types.WBit.TheVariants as w
use Rattle.instruction_parts.specs.declared.row_types.LBit.{LBit}
use Rattle.instruction_parts.specs.declared.row_types.LBit.TheVariants as l
use Rattle.instruction_parts.specs.Counting.{is_16, is_32, is_64}
use Rattle.instruction_parts.specs.Sizes.{exists_in, operand_size}
use Rattle.instruction_parts.specs.declared.row_fields.Fields.{Fields}

-- ---- where a row stands

-- the row is one behind a VEX prefix (Intel SDM volume 2, 2.3.5)
abbrev pub is_vex : RowKind → Bool
is_vex kind.Legacy = false
is_vex kind.Vex = true

-- the maps by number: 0 to 3, and from 4 on those behind a VEX (Intel SDM volume 2, 2.1.2 and 2.3.5.6)
abbrev pub map_number : Bool → Map → ℕ
map_number false map.One = 0
map_number false map.M0f = 1
map_number false map.M0f38 = 2
map_number false map.M0f3a = 3
map_number true map.One = 4
map_number true map.M0f = 5
map_number true map.M0f38 = 6
map_number true map.M0f3a = 7

-- a row that adds a register stands at eight opcode bytes (3.1.1.1, +rb to +ro)
abbrev pub opcode_holds : Plus → ℕ → ℕ → Bool
opcode_holds plus.Register first op = nat_le first op && nat_lt op (first + 8)
opcode_holds plus.No first op = first == op
opcode_holds plus.Stack first op = first == op

-- the row stands at an opcode byte of a map
abbrev pub stands_in : Row → ℕ → ℕ → Bool
stands_in r number op = (map_number (is_vex r.kind) r.map == number) && opcode_holds r.plus r.opcode op

-- the opcode byte 90 of the one-byte map, which is NOP, XCHG or PAUSE (volume 2, NOP and PAUSE)
abbrev pub at_90 : Row → ℕ → Bool
at_90 r op = (map_number (is_vex r.kind) r.map == 0) && (op == 0x90)

-- ---- the prefix that counts: 0 for none, 1 for 66, 2 for F3 and 3 for F2, where F3 and F2 outrank 66

-- by the repeat prefix that counts and by whether 66 counts
abbrev pub prefix_of : Rep → Bool → ℕ
prefix_of rep.F3 _ = 2
prefix_of rep.F2 _ = 3
prefix_of rep.None true = 1
prefix_of rep.None false = 0

-- the class of a row; on a VEX row the same of pp (3.1.1.1 and 2.3.6.2)
abbrev pub class_allows : Class → ℕ → Bool
class_allows class.Any prefix = true
class_allows class.Np prefix = prefix == 0
class_allows class.Nfx prefix = nat_lt prefix 2
class_allows class.Nf3 prefix = not (prefix == 2)
class_allows class.P66 prefix = prefix == 1
class_allows class.F3 prefix = prefix == 2
class_allows class.F2 prefix = prefix == 3

-- the row adds a register number to its opcode byte (3.1.1.1, +rb to +ro)
abbrev pub adds_register : Plus → Bool
adds_register plus.Register = true
adds_register plus.No = false
adds_register plus.Stack = false

-- XCHG at 90 allows no F3
unfoldable pub prefix_holds : Row → ℕ → ℕ → Bool
prefix_holds r op prefix = class_allows r.class prefix && not ((at_90 r op && adds_register r.plus) && (prefix == 2))

-- at 90, XCHG needs REX.B, PAUSE does not read it, and NOP needs it clear
abbrev pub rex_b_at_90 : Plus → Class → Bool → Bool
rex_b_at_90 plus.Register _ b = b
rex_b_at_90 _ class.F3 b = true
rex_b_at_90 _ _ b = not b

-- a row's condition on REX.B, which only the rows at 90 have
unfoldable pub rex_b_holds : Row → ℕ → Bool → Bool
rex_b_holds r op b = not (at_90 r op) || rex_b_at_90 r.plus r.class b

-- ---- ModRM (2.1.3)

-- the byte, 0 without one
abbrev pub byte_of : Option ℕ → ℕ
byte_of None = 0
byte_of (Some b) = b

-- a row with a ModRM needs the byte
abbrev pub byte_holds : ModRmRule → Bool → Bool
byte_holds rule.No present = true
byte_holds _ present = present

-- mod 3 names a register, and so does a fixed ModRM byte
abbrev pub place_holds : ModRmRule → Place → Bool → Bool
place_holds rule.No _ register = true
place_holds (rule.Fixed _) _ register = register
place_holds _ place.Any register = true
place_holds _ place.Memory register = not register
place_holds _ place.Register register = register

-- the digit, or the field reg of a fixed byte
abbrev pub reg_holds : ModRmRule → ℕ → Bool
reg_holds (rule.Digit d) reg = reg == d
reg_holds (rule.Fixed b) reg = reg == b / 8 % 8
reg_holds _ reg = true

-- the field rm of a fixed byte, which is free where a stack number is added
abbrev pub rm_holds : ModRmRule → Plus → ℕ → Bool
rm_holds (rule.Fixed b) plus.Stack rm = true
rm_holds (rule.Fixed b) _ rm = rm == b % 8
rm_holds _ _ rm = true

-- ---- sizes

-- the operand size that a row asks for
abbrev pub size_allows : Size → Bits → Bool
size_allows size.None n = true
size_allows size.O16 n = is_16 n
size_allows size.O32 n = is_32 n
size_allows size.O32or64 n = not (is_16 n)
size_allows size.O64 n = is_64 n
size_allows size.W0 n = true
size_allows size.W1 n = true

-- a row's condition on the operand size, by 66 and W (3.1.1.1, REX.W)
unfoldable pub size_holds : Bits → Row → Bool → Bool → Bool
size_holds bits r size66 w = size_allows r.size (operand_size bits r (is_64 bits && w) size66)

-- W where it is the size of a row: outside 64-bit mode it is ignored
abbrev pub w_as_size : Size → Bool → Bool
w_as_size size.W0 w = not w
w_as_size size.W1 w = w
w_as_size _ w = true

-- W of the notation, of a row that does not take W as its size
abbrev pub w_allows : Size → WBit → Bool → Bool
w_allows size.W0 _ b = true
w_allows size.W1 _ b = true
w_allows _ w.None b = true
w_allows _ w.W0 b = not b
w_allows _ w.W1 b = b
w_allows _ w.Wig b = true

-- a row's condition on W: as its size, or as its notation says (3.1.1.2)
unfoldable pub w_holds : Bits → Row → Bool → Bool
w_holds bits r w = w_as_size r.size (is_64 bits && w) && w_allows r.size r.w w

-- L of the notation (2.3.6.2)
abbrev pub l_holds : LBit → Bool → Bool
l_holds l.None b = true
l_holds l.L128 b = not b
l_holds l.L256 b = b
l_holds l.Lig b = true
l_holds l.Lz b = not b

-- ---- the nine fields together

-- all conditions of a row
unfoldable pub holds : Bits → Row → Fields → Bool
holds bits r f =
    let byte = byte_of f.modrm in
    stands_in r (map_number f.vex f.map) f.opcode
    && (exists_in bits r
    && (byte_holds r.modrm (is_some f.modrm)
    && (prefix_holds r f.opcode (prefix_of f.rep f.size66)
    && (place_holds r.modrm r.place (byte / 64 == 3)
    && (reg_holds r.modrm (byte / 8 % 8)
    && (rm_holds r.modrm r.plus (byte % 8)
    && (size_holds bits r f.size66 f.w
    && (w_holds bits r f.w
    && (l_holds r.l f.l
    && rex_b_holds r f.opcode f.rex_b)))))))))

-- ---- lists of rows

-- the list with an item in front where the test is true
abbrev pub keep_if : {A : Type 0} → Bool → A → List A → List A
keep_if true x xs = x ∷ xs
keep_if false x xs = xs

-- the codes of the rows whose conditions hold, where the rows have the codes from a first one on
unfoldable pub codes_holding : Bits → ℕ → List Row → Fields → List ℕ
codes_holding bits first [] f = []
codes_holding bits first (r ∷ rs) f = keep_if (holds bits r f) first (codes_holding bits (suc first) rs f)

-- the rows that stand at an opcode byte of a kind and map, in their order
unfoldable pub rows_at : ℕ → ℕ → List Row → List Row
rows_at number op [] = []
rows_at number op (r ∷ rs) = keep_if (stands_in r number op) r (rows_at number op rs)

-- no row of the list holds on the fields
abbrev pub HoldsNowhere : Bits → List Row → Fields → Type 0
HoldsNowhere bits rows f = (code : ℕ) (r : Row) → slice_get rows code ≡ Some r → holds bits r f ≡ false

-- the row of this code holds, and no other
pub record IsOnlyRow (bits : Bits) (rows : List Row) (f : Fields) (code : ℕ) : Type 0 where
  pub row : Row
  pub there : slice_get rows code ≡ Some row
  pub met : holds bits row f ≡ true
  pub alone : (other : ℕ) (r : Row) → slice_get rows other ≡ Some r → holds bits r f ≡ true → other ≡ code

-- two rows that hold are one row
abbrev pub RowsAreApart : Bits → List Row → Fields → Type 0
RowsAreApart bits rows f =
    (j k : ℕ) (q r : Row) → slice_get rows j ≡ Some q → slice_get rows k ≡ Some r → holds bits q f ≡ true → holds bits r f ≡ true → j ≡ k
