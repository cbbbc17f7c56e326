-- The part of a row that the manual's notation shows, and which parts make a notation (Intel SDM volume 2, 3.1.1.1 to 3.1.1.3).
use Rattle.std.specs.Prelude.{ℕ, ◌%◌, Bool, true, false, ◌&&◌, ◌||◌, not, ◌==◌, nat_le, nat_lt, if◌then◌else◌, slice_index_or}
use Rattle.instruction_parts.specs.declared.row_types.Row.{Row}
use Rattle.instruction_parts.specs.declared.row_types.RowKind.TheVariants.{Legacy, Vex}
use Rattle.instruction_parts.specs.declared.row_types.Map.{Map}
use Rattle.instruction_parts.specs.declared.row_types.Map.TheVariants as map
use Rattle.instruction_parts.specs.declared.row_types.Class.{Class}
use Rattle.instruction_parts.specs.declared.row_types.Class.TheVariants as class
use Rattle.instruction_parts.specs.declared.row_types.Plus.TheVariants as plus
use Rattle.instruction_parts.specs.declared.row_types.ModRmRule.{ModRmRule}
use Rattle.instruction_parts.specs.declared.row_types.ModRmRule.TheVariants as rule
use Rattle.instruction_parts.specs.declared.row_types.Size.{Size}
use Rattle.instruction_parts.specs.declared.row_types.Size.TheVariants as size
use Rattle.instruction_parts.specs.declared.row_types.WBit.{WBit}
use Rattle.instruction_parts.specs.declared.row_types.WBit.TheVariants as w
use Rattle.instruction_parts.specs.declared.row_types.LBit.{LBit}
use Rattle.instruction_parts.specs.declared.row_types.LBit.TheVariants as l
use Rattle.instruction_parts.specs.declared.row_types.OpKind.{OpKind}
use Rattle.instruction_parts.specs.declared.row_types.OpKind.TheVariants as op
use Rattle.instruction_parts.specs.declared.row_types.SizeWord.{SizeWord}
use Rattle.instruction_parts.specs.declared.row_types.SizeWord.TheVariants as word
use Rattle.instruction_parts.specs.declared.row_types.PlusWord.{PlusWord}
use Rattle.instruction_parts.specs.declared.row_types.PlusWord.TheVariants as added
use Rattle.instruction_parts.specs.declared.row_types.ImmWord.{ImmWord}
use Rattle.instruction_parts.specs.declared.row_types.ImmWord.TheVariants as imm
use Rattle.instruction_parts.specs.declared.row_types.RowShape.{RowShape}
use Rattle.instruction_parts.specs.Sizes.{has_caret, has_bang}

-- the kind of operand n
abbrev pub kind_of : Row → ℕ → OpKind
kind_of row n = slice_index_or row.ops n op.Absent

-- ---- the words that a row shows

-- the word of an operand size of 64: REX.W, but o64 where 64 is the row's default in 64-bit mode
abbrev pub word_of_64 : Row → SizeWord
word_of_64 row = if has_caret row || has_bang row then word.O64 else word.RexW

-- the size word: a VEX row has none, since its notation shows W
unfoldable pub size_prefix_word : Row → SizeWord
size_prefix_word row =
    elim row.kind [
      | Vex ↦ word.None
      | Legacy ↦ elim row.size [
        | size.O16 ↦ word.O16
        | size.O32 ↦ word.O32
        | size.O32or64 ↦ word.O32
        | size.O64 ↦ word_of_64 row
        | size.W1 ↦ word.RexW
        | _ ↦ word.None
      ]
    ]

-- the letter of a register of operand size: w, d or o
abbrev pub register_word : Size → PlusWord
register_word size.O16 = added.Rw
register_word size.O64 = added.Ro
register_word _ = added.Rd

-- the word of the register that is added to the opcode byte, by the operand that names it
abbrev pub plus_word_of : Size → OpKind → PlusWord
plus_word_of s op.Zb = added.Rb
plus_word_of s op.Zv = register_word s
plus_word_of s _ = added.None

-- the first word of two that is one
abbrev pub first_plus : PlusWord → PlusWord → PlusWord
first_plus added.None b = b
first_plus a _ = a

-- the word of the added register of the row
unfoldable pub plus_word : Row → PlusWord
plus_word row =
    first_plus (plus_word_of row.size (kind_of row 0)) (first_plus (plus_word_of row.size (kind_of row 1))
    (first_plus (plus_word_of row.size (kind_of row 2)) (plus_word_of row.size (kind_of row 3))))

-- an immediate of operand size
abbrev pub full_word : Size → ImmWord
full_word size.O16 = imm.Iw
full_word size.O64 = imm.Io
full_word _ = imm.Id

-- one of two words, by whether the operand size is 16
abbrev pub by_size_16 : Size → ImmWord → ImmWord → ImmWord
by_size_16 size.O16 a b = a
by_size_16 _ a b = b

-- the word of an operand's immediate bytes
unfoldable pub imm_word_of : Size → OpKind → ImmWord
imm_word_of s op.Ib = imm.Ib
imm_word_of s op.Ibs = imm.Ib
imm_word_of s op.Iw = imm.Iw
imm_word_of s op.Iz = by_size_16 s imm.Iw imm.Id
imm_word_of s op.Iv = full_word s
imm_word_of s op.Jb = imm.Cb
imm_word_of s op.Jz = by_size_16 s imm.Cw imm.Cd
imm_word_of s op.Ap = by_size_16 s imm.Cd imm.Cp
imm_word_of s op.Lx = imm.Is4
imm_word_of s _ = imm.None

-- two words together: a word of two bytes and one of one byte are one word, as ENTER has them
abbrev pub join_words : ImmWord → ImmWord → ImmWord
join_words imm.None b = b
join_words imm.Iw imm.Ib = imm.IwIb
join_words a _ = a

-- the word of all immediates of the row
unfoldable pub imm_word : Row → ImmWord
imm_word row =
    join_words (imm_word_of row.size (kind_of row 0)) (join_words (imm_word_of row.size (kind_of row 1))
    (join_words (imm_word_of row.size (kind_of row 2)) (imm_word_of row.size (kind_of row 3))))

-- the row adds a stack number to its ModRM byte
abbrev pub adds_stack : Row → Bool
adds_stack row = elim row.plus [ plus.Stack ↦ true | _ ↦ false ]

-- the shape of a row
unfoldable pub shape : Row → RowShape
shape row = record {
  kind = row.kind;
  map = row.map;
  class = row.class;
  size_word = size_prefix_word row;
  opcode = row.opcode;
  plus_word = plus_word row;
  modrm = row.modrm;
  stack = adds_stack row;
  l = row.l;
  w = row.w;
  imm = imm_word row;
}

-- ---- which shapes are proper

-- the opcode byte is no escape byte, and no prefix byte that a class names
unfoldable pub is_opcode_of_map : Map → ℕ → Bool
is_opcode_of_map map.One b = not (b == 0x0F || b == 0x66 || b == 0xF2 || b == 0xF3)
is_opcode_of_map map.M0f b = not (b == 0x38 || b == 0x3A)
is_opcode_of_map _ b = true

-- a digit is below 8, a fixed ModRM byte is C0 or more
unfoldable pub is_rule_in_range : ModRmRule → Bool
is_rule_in_range (rule.Digit d) = nat_lt d 8
is_rule_in_range (rule.Fixed b) = nat_le 0xC0 b && nat_lt b 256
is_rule_in_range _ = true

-- a stack number stands only behind a fixed byte that is a multiple of 8
unfoldable pub is_stack_proper : ModRmRule → Bool → Bool
is_stack_proper (rule.Fixed b) stack = not stack || b % 8 == 0
is_stack_proper _ stack = not stack

-- the notation has no word for the part: L, W, size, what is added to the opcode byte
abbrev pub lacks_l : LBit → Bool
lacks_l l.None = true
lacks_l _ = false

-- no word for W
abbrev pub lacks_w : WBit → Bool
lacks_w w.None = true
lacks_w _ = false

-- a register in the upper four bits of the last byte, /is4 (Intel SDM volume 2, 3.1.1.2)
abbrev pub is_four_bits : ImmWord → Bool
is_four_bits imm.Is4 = true
is_four_bits _ = false

-- no word for the operand size
abbrev pub is_no_size_word : SizeWord → Bool
is_no_size_word word.None = true
is_no_size_word _ = false

-- no word for what is added to the opcode byte
abbrev pub is_no_plus_word : PlusWord → Bool
is_no_plus_word added.None = true
is_no_plus_word _ = false

-- the whole ModRM byte is fixed
abbrev pub is_fixed : ModRmRule → Bool
is_fixed (rule.Fixed _) = true
is_fixed _ = false

-- the one-byte map
abbrev pub is_one_byte_map : Map → Bool
is_one_byte_map map.One = true
is_one_byte_map _ = false

-- the classes that name a value of pp
abbrev pub is_vex_class : Class → Bool
is_vex_class class.Np = true
is_vex_class class.P66 = true
is_vex_class class.F3 = true
is_vex_class class.F2 = true
is_vex_class _ = false

-- a legacy shape shows no L and no W, and no register in the upper bits of a last byte
unfoldable pub is_legacy_proper : RowShape → Bool
is_legacy_proper s =
    lacks_l s.l && (lacks_w s.w && (not (is_four_bits s.imm) && is_opcode_of_map s.map s.opcode))

-- a VEX shape shows L and W, one of four classes, a map of its own, and no legacy word
unfoldable pub is_vex_proper : RowShape → Bool
is_vex_proper s =
    not (lacks_l s.l) && (not (lacks_w s.w) && (is_vex_class s.class && (is_no_size_word s.size_word
    && (is_no_plus_word s.plus_word && (not (is_fixed s.modrm) && not (is_one_byte_map s.map))))))

-- the parts of a shape belong together
unfoldable pub is_proper : RowShape → Bool
is_proper s =
    nat_lt s.opcode 256 && (is_rule_in_range s.modrm && (is_stack_proper s.modrm s.stack
    && (elim s.kind [ Legacy ↦ is_legacy_proper s | Vex ↦ is_vex_proper s ])))
