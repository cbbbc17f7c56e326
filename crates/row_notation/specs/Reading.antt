-- What the reader of a notation answers, part by part: a shape, or how many bytes were left where no shape's text goes on.
use Rattle.std.specs.Prelude.{ℕ, ◌+◌, ◌*◌, ◌-◌, ◌%◌, Bool, true, false, ◌&&◌, ◌==◌, nat_le, nat_lt, if◌then◌else◌, List, [], ◌∷◌, length, map, fold, min, codes, Result, Ok, Err}
use Rattle.instruction_parts.specs.declared.row_types.RowKind.{RowKind}
use Rattle.instruction_parts.specs.declared.row_types.RowKind.TheVariants.{Legacy, Vex}
use Rattle.instruction_parts.specs.declared.row_types.Map.{Map}
use Rattle.instruction_parts.specs.declared.row_types.Map.TheVariants as map
use Rattle.instruction_parts.specs.declared.row_types.Class.{Class}
use Rattle.instruction_parts.specs.declared.row_types.Class.TheVariants as class
use Rattle.instruction_parts.specs.declared.row_types.ModRmRule.TheVariants as rule
use Rattle.instruction_parts.specs.declared.row_types.WBit.{WBit}
use Rattle.instruction_parts.specs.declared.row_types.WBit.TheVariants as w
use Rattle.instruction_parts.specs.declared.row_types.LBit.{LBit}
use Rattle.instruction_parts.specs.declared.row_types.LBit.TheVariants as l
use Rattle.instruction_parts.specs.declared.row_types.SizeWord.{SizeWord}
use Rattle.instruction_parts.specs.declared.row_types.SizeWord.TheVariants as word
use Rattle.instruction_parts.specs.declared.row_types.PlusWord.{PlusWord}
use Rattle.instruction_parts.specs.declared.row_types.PlusWord.TheVariants as added
use Rattle.instruction_parts.specs.declared.row_types.ImmWord.{ImmWord}
use Rattle.instruction_parts.specs.declared.row_types.ImmWord.TheVariants as imm
use Rattle.instruction_parts.specs.declared.row_types.RowShape.{RowShape}
use Rattle.row_notation.specs.Shape.{is_opcode_of_map}
use Rattle.row_notation.specs.Notation.{class_text, size_text, map_text, plus_text, imm_text, l_text, pp_text, vex_map_text, w_text}

-- a shape, or the number of bytes left
abbrev pub Answer : Type 0
Answer = Result RowShape ℕ

-- the bytes behind a word, or how many were left where the text is not the word's
unfoldable pub after_word : List ℕ → List ℕ → Result (List ℕ) ℕ
after_word [] text = Ok text
after_word (c ∷ word) [] = Err 0
after_word (c ∷ word) (d ∷ text) = if c == d then after_word word text else Err (1 + length text)

-- a shape, else where fewer bytes are left
abbrev pub better : Answer → Answer → Answer
better (Ok s) _ = Ok s
better (Err a) (Ok s) = Ok s
better (Err a) (Err b) = Err (min a b)

-- the best of several answers
abbrev pub best : List ℕ → List Answer → Answer
best text answers = fold better (Err (length text)) answers

-- what follows a word
abbrev pub then_read : Result (List ℕ) ℕ → (List ℕ → Answer) → Answer
then_read (Err left) next = Err left
then_read (Ok rest) next = next rest

-- the text ends here
abbrev pub read_end : RowShape → List ℕ → Answer
read_end s [] = Ok s
read_end s (c ∷ text) = Err (1 + length text)

-- the words of immediates
abbrev pub imm_words : RowKind → List ImmWord
imm_words Legacy =
    imm.None ∷ imm.Ib ∷ imm.Iw ∷ imm.Id ∷ imm.Io ∷ imm.Cb ∷ imm.Cw ∷ imm.Cd ∷ imm.Cp ∷ imm.IwIb ∷ []
imm_words Vex =
    imm.None ∷ imm.Ib ∷ imm.Iw ∷ imm.Id ∷ imm.Io ∷ imm.Cb ∷ imm.Cw ∷ imm.Cd ∷ imm.Cp ∷ imm.IwIb ∷ imm.Is4 ∷ []

-- one word of immediates, and the end
abbrev pub read_imm_word : RowShape → List ℕ → ImmWord → Answer
read_imm_word s text i = then_read (after_word (imm_text i) text) (read_end (record s { imm = i }))

-- from the immediates on
unfoldable pub read_imm : RowShape → List ℕ → Answer
read_imm s text = best text (map (read_imm_word s text) (imm_words s.kind))

-- the value of a hexadecimal digit in upper case, 16 where it is none
abbrev pub hex_value : ℕ → ℕ
hex_value c =
    if nat_le 48 c && nat_lt c 58 then c - 48 else (if nat_le 65 c && nat_lt c 71 then c - 55 else 16)

-- a stack number, and the rest
abbrev pub read_stack_word : RowShape → List ℕ → Answer
read_stack_word s text = then_read (after_word (codes "+i") text) (read_imm (record s { stack = true }))

-- from a stack number on, behind a fixed ModRM byte
unfoldable pub read_stack : RowShape → ℕ → List ℕ → Answer
read_stack s b text =
    better (read_imm (record s { stack = false }) text)
    (if b % 8 == 0 then read_stack_word s text else Err (length text))

-- the low digit of a fixed ModRM byte
unfoldable pub read_fixed_low : RowShape → ℕ → List ℕ → Answer
read_fixed_low s high [] = Err 0
read_fixed_low s high (c ∷ text) =
    let low = hex_value c in
    let b = high * 16 + low in
    if nat_lt low 16 then read_stack (record s { modrm = rule.Fixed b }) b text else Err (1 + length text)

-- a fixed ModRM byte, C0 or more
unfoldable pub read_fixed : RowShape → List ℕ → Answer
read_fixed s [] = Err 0
read_fixed s (c ∷ text) =
    let high = hex_value c in
    if nat_le 12 high && nat_lt high 16 then read_fixed_low s high text else Err (1 + length text)

-- the digit of a ModRM byte, below 8
unfoldable pub read_digit : RowShape → List ℕ → Answer
read_digit s [] = Err 0
read_digit s (c ∷ text) =
    let d = hex_value c in
    if nat_lt d 8 then read_imm (record s { modrm = rule.Digit d }) text else Err (1 + length text)

-- a fixed ModRM byte stands in legacy rows alone
abbrev pub read_fixed_of : RowKind → RowShape → List ℕ → Answer
read_fixed_of Legacy s text = then_read (after_word (codes " ") text) (read_fixed s)
read_fixed_of Vex s text = Err (length text)

-- a ModRM byte of any content, and the rest
abbrev pub read_any : RowShape → List ℕ → Answer
read_any s text = then_read (after_word (codes " /r") text) (read_imm (record s { modrm = rule.Any }))

-- a digit with the space and the slash before it, and the rest
abbrev pub read_slash_digit : RowShape → List ℕ → Answer
read_slash_digit s text = then_read (after_word (codes " /") text) (read_digit s)

-- from ModRM on
unfoldable pub read_modrm : RowShape → List ℕ → Answer
read_modrm s text =
    better (better (read_imm (record s { modrm = rule.No }) text) (read_any s text))
    (better (read_slash_digit s text) (read_fixed_of s.kind s text))

-- the words of an added register
abbrev pub plus_words : RowKind → List PlusWord
plus_words Legacy = added.None ∷ added.Rb ∷ added.Rw ∷ added.Rd ∷ added.Ro ∷ []
plus_words Vex = added.None ∷ []

-- one word of an added register, and the rest
abbrev pub read_plus_word : RowShape → List ℕ → PlusWord → Answer
read_plus_word s text p = then_read (after_word (plus_text p) text) (read_modrm (record s { plus_word = p }))

-- from an added register on
unfoldable pub read_plus : RowShape → List ℕ → Answer
read_plus s text = best text (map (read_plus_word s text) (plus_words s.kind))

-- the byte can be the opcode byte of the shape
abbrev pub is_opcode_of : RowShape → ℕ → Bool
is_opcode_of s b = elim s.kind [ Legacy ↦ is_opcode_of_map s.map b | Vex ↦ true ]

-- the low digit of the opcode byte
unfoldable pub read_opcode_low : RowShape → ℕ → List ℕ → Answer
read_opcode_low s high [] = Err 0
read_opcode_low s high (c ∷ text) =
    let low = hex_value c in
    let b = high * 16 + low in
    if nat_lt low 16 && is_opcode_of s b then read_plus (record s { opcode = b }) text else Err (1 + length text)

-- from the opcode byte on
unfoldable pub read_opcode : RowShape → List ℕ → Answer
read_opcode s [] = Err 0
read_opcode s (c ∷ text) =
    let high = hex_value c in
    if nat_lt high 16 then read_opcode_low s high text else Err (1 + length text)

-- the maps
abbrev pub maps : List Map
maps = map.One ∷ map.M0f ∷ map.M0f38 ∷ map.M0f3a ∷ []

-- the escape bytes of one map, and the rest
abbrev pub read_map_word : RowShape → List ℕ → Map → Answer
read_map_word s text m = then_read (after_word (map_text m) text) (read_opcode (record s { map = m }))

-- from the escape bytes on
unfoldable pub read_map : RowShape → List ℕ → Answer
read_map s text = best text (map (read_map_word s text) maps)

-- the size words
abbrev pub size_words : List SizeWord
size_words = word.None ∷ word.O16 ∷ word.O32 ∷ word.O64 ∷ word.RexW ∷ []

-- one size word, and the rest
abbrev pub read_size_word : RowShape → List ℕ → SizeWord → Answer
read_size_word s text z = then_read (after_word (size_text z) text) (read_map (record s { size_word = z }))

-- from the size word on
unfoldable pub read_size : RowShape → List ℕ → Answer
read_size s text = best text (map (read_size_word s text) size_words)

-- the classes
abbrev pub classes : List Class
classes = class.Any ∷ class.Np ∷ class.Nfx ∷ class.Nf3 ∷ class.P66 ∷ class.F3 ∷ class.F2 ∷ []

-- one class word, and the rest
abbrev pub read_class_word : RowShape → List ℕ → Class → Answer
read_class_word s text c = then_read (after_word (class_text c) text) (read_size (record s { class = c }))

-- a legacy text
unfoldable pub read_class : RowShape → List ℕ → Answer
read_class s text = best text (map (read_class_word s text) classes)

-- the values of W
abbrev pub w_words : List WBit
w_words = w.W0 ∷ w.W1 ∷ w.Wig ∷ []

-- one value of W, and the rest
abbrev pub read_w_word : RowShape → List ℕ → WBit → Answer
read_w_word s text x = then_read (after_word (w_text x) text) (read_opcode (record s { w = x }))

-- a VEX text from W on
unfoldable pub read_w : RowShape → List ℕ → Answer
read_w s text = best text (map (read_w_word s text) w_words)

-- the maps of a VEX
abbrev pub vex_maps : List Map
vex_maps = map.M0f ∷ map.M0f38 ∷ map.M0f3a ∷ []

-- one map of a VEX, and the rest
abbrev pub read_vex_map_word : RowShape → List ℕ → Map → Answer
read_vex_map_word s text m = then_read (after_word (vex_map_text m) text) (read_w (record s { map = m }))

-- a VEX text from the map on
unfoldable pub read_vex_map : RowShape → List ℕ → Answer
read_vex_map s text = best text (map (read_vex_map_word s text) vex_maps)

-- the classes that name a value of pp
abbrev pub vex_classes : List Class
vex_classes = class.Np ∷ class.P66 ∷ class.F3 ∷ class.F2 ∷ []

-- one value of pp, and the rest
abbrev pub read_pp_word : RowShape → List ℕ → Class → Answer
read_pp_word s text c = then_read (after_word (pp_text c) text) (read_vex_map (record s { class = c }))

-- a VEX text from pp on
unfoldable pub read_pp : RowShape → List ℕ → Answer
read_pp s text = best text (map (read_pp_word s text) vex_classes)

-- the values of L
abbrev pub l_words : List LBit
l_words = l.L128 ∷ l.L256 ∷ l.Lig ∷ l.Lz ∷ []

-- one value of L, and the rest
abbrev pub read_l_word : RowShape → List ℕ → LBit → Answer
read_l_word s text x = then_read (after_word (l_text x) text) (read_pp (record s { l = x }))

-- a VEX text behind its first word
unfoldable pub read_l : RowShape → List ℕ → Answer
read_l s text = best text (map (read_l_word s text) l_words)

-- a shape of which nothing was read
abbrev pub blank : RowKind → RowShape
blank kind = record {
  kind = kind;
  map = map.One;
  class = class.Any;
  size_word = word.None;
  opcode = 0;
  plus_word = added.None;
  modrm = rule.No;
  stack = false;
  l = l.None;
  w = w.None;
  imm = imm.None;
}

-- a VEX text
abbrev pub read_vex : List ℕ → Answer
read_vex text = then_read (after_word (codes "VEX.") text) (read_l (blank Vex))

-- the whole text
unfoldable pub read_text : List ℕ → Answer
read_text text = better (read_class (blank Legacy) text) (read_vex text)
