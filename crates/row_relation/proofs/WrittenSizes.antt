-- The sizes that a row tells are those of its plain prefixes.
use Rattle.std.proofs.Common.{◌≡◌, ℕ, zero, suc, Bool, true, ◌&&◌, ◌||◌, not, List, [], ◌∷◌, refl, ap, get_or, if◌then◌else◌}
use Rattle.std.proofs.lemmas.Bool.{and_parts}
use Rattle.std.specs.List.{list_all}
use Rattle.x86_values.specs.declared.Bits.{Bits}
use Rattle.x86_values.specs.declared.Bits.TheVariants.{B16, B32, B64}
use Rattle.instruction_parts.specs.declared.row_types.Row.{Row}
use Rattle.instruction_parts.specs.declared.row_types.Size.{Size}
use Rattle.instruction_parts.specs.declared.row_types.Size.TheVariants.{O16, O32, O32or64, O64}
use Rattle.instruction_parts.specs.declared.row_types.OpKind.{OpKind}
use Rattle.instruction_parts.specs.declared.row_types.OpKind.TheVariants.{Absent}
use Rattle.instruction_parts.specs.declared.kinds.Width.{Width}
use Rattle.instruction_parts.specs.declared.kinds.Width.TheVariants.{Bytes, OperandSize as OperandSizeWidth, WordOrDword as WordOrDwordWidth, PointerOfSize as PointerOfSizeWidth}
use Rattle.instruction_parts.specs.declared.spelling.PrefixState.{PrefixState}
use Rattle.instruction_parts.specs.Kinds.{file_of, immediate_width, method_of}
use Rattle.instruction_parts.specs.Counting.{is_16, is_64}
use Rattle.instruction_parts.specs.Sizes.{state_size, bit_w, is_vex_row, size_bytes}
use Rattle.row_fit.specs.Fits.{size_fits, immediate_bytes, kind_at}
use Rattle.row_meaning.specs.Meaning.{word_or_dword}
use Rattle.plain_spelling.specs.PlainFront.{asks_rex_w}
use Rattle.plain_spelling.specs.PlainTail.{plain_size}
use Rattle.plain_spelling.specs.Writable.{has_plain_size, plain_w, says_size, says_word, width_is_told, kind_is_told, file_is_told, value_is_told}

-- ---- two sizes that a row's size allows

one_size : (bits : Bits) (size : Size) (a b : Bits) (v w : Bool) → says_size size ≡ true → size_fits bits size a v ≡ true → size_fits bits size b w ≡ true → a ≡ b
unfolding size_fits
one_size bits O16 B16 B16 v w h x y = refl
one_size bits O32 B32 B32 v w h x y = refl
one_size bits O64 B64 B64 v w h x y = refl
one_size bits _ a b v w h x y = cc

one_word : (bits : Bits) (size : Size) (a b : Bits) (v w : Bool) → says_word size ≡ true → size_fits bits size a v ≡ true → size_fits bits size b w ≡ true → is_16 a ≡ is_16 b
unfolding size_fits
one_word bits O32or64 B32 B32 v w h x y = refl
one_word bits O32or64 B32 B64 v w h x y = refl
one_word bits O32or64 B64 B32 v w h x y = refl
one_word bits O32or64 B64 B64 v w h x y = refl
one_word bits O32or64 B16 b v w h x y = cc
one_word bits O32or64 a B16 v w h x y = cc
one_word bits O16 a b v w h x y = ap is_16 (one_size bits O16 a b v w refl x y)
one_word bits O32 a b v w h x y = ap is_16 (one_size bits O32 a b v w refl x y)
one_word bits O64 a b v w h x y = ap is_16 (one_size bits O64 a b v w refl x y)
one_word bits _ a b v w h x y = cc

word_by_16 : (a b : Bits) → is_16 a ≡ is_16 b → word_or_dword a ≡ word_or_dword b
word_by_16 B16 B16 h = refl
word_by_16 B16 B32 h = cc
word_by_16 B16 B64 h = cc
word_by_16 B32 B16 h = cc
word_by_16 B64 B16 h = cc
word_by_16 B32 B32 h = refl
word_by_16 B32 B64 h = refl
word_by_16 B64 B32 h = refl
word_by_16 B64 B64 h = refl

-- the bytes of a width under an operand size
abbrev bytes_of_width : Bits → Width → ℕ
bytes_of_width size width = elim width [
  | Bytes n ↦ n
  | OperandSizeWidth ↦ size_bytes size
  | WordOrDwordWidth ↦ (if is_16 size then 2 else 4)
  | PointerOfSizeWidth ↦ (if is_16 size then 4 else 6)
  | _ ↦ 0
]

one_width : (bits : Bits) (row : Row) (a b : Bits) (v w : Bool) (width : Width) → width_is_told row width ≡ true → size_fits bits row.size a v ≡ true → size_fits bits row.size b w ≡ true → bytes_of_width a width ≡ bytes_of_width b width
unfolding width_is_told
one_width bits row a b v w OperandSizeWidth h x y = ap size_bytes (one_size bits row.size a b v w h x y)
one_width bits row a b v w WordOrDwordWidth h x y = rw (one_word bits row.size a b v w h x y)
one_width bits row a b v w PointerOfSizeWidth h x y = rw (one_word bits row.size a b v w h x y)
one_width bits row a b v w _ h x y = refl

-- ---- the plain prefixes

-- the plain prefixes give a size that the row allows
pub plain_size_fits : (bits : Bits) (row : Row) → has_plain_size bits row ≡ true → size_fits bits row.size (plain_size bits row) (plain_w bits row) ≡ true
unfolding has_plain_size
plain_size_fits bits row h =
    (and_parts (size_fits bits row.size (plain_size bits row) (plain_w bits row)) (is_64 bits || (is_vex_row row || not (asks_rex_w row))) h).0

-- **a row that tells its operand size has it under any prefixes that fit**
pub size-told : (bits : Bits) (row : Row) (state : PrefixState) → size_fits bits row.size (state_size bits row state) (bit_w bits state) ≡ true → has_plain_size bits row ≡ true → says_size row.size ≡ true → state_size bits row state ≡ plain_size bits row
size-told bits row state x h told =
    one_size bits row.size (state_size bits row state) (plain_size bits row) (bit_w bits state) (plain_w bits row) told x (plain_size_fits bits row h)

-- **and a row that tells whether it is 16**
pub word-told : (bits : Bits) (row : Row) (state : PrefixState) → size_fits bits row.size (state_size bits row state) (bit_w bits state) ≡ true → has_plain_size bits row ≡ true → says_word row.size ≡ true → is_16 (state_size bits row state) ≡ is_16 (plain_size bits row)
word-told bits row state x h told =
    one_word bits row.size (state_size bits row state) (plain_size bits row) (bit_w bits state) (plain_w bits row) told x (plain_size_fits bits row h)

-- a size of 16 or 32 is written by the prefixes that state it
pub word_or_dword-told : (bits : Bits) (row : Row) (state : PrefixState) → size_fits bits row.size (state_size bits row state) (bit_w bits state) ≡ true → has_plain_size bits row ≡ true → says_word row.size ≡ true → word_or_dword (state_size bits row state) ≡ word_or_dword (plain_size bits row)
word_or_dword-told bits row state x h told = word_by_16 (state_size bits row state) (plain_size bits row) (word-told bits row state x h told)

-- **and a kind whose bytes the row tells has as many**
pub width-told : (bits : Bits) (row : Row) (state : PrefixState) (kind : OpKind) → size_fits bits row.size (state_size bits row state) (bit_w bits state) ≡ true → has_plain_size bits row ≡ true → width_is_told row (immediate_width kind) ≡ true → immediate_bytes (state_size bits row state) kind ≡ immediate_bytes (plain_size bits row) kind
unfolding immediate_bytes
width-told bits row state kind x h told =
    one_width bits row (state_size bits row state) (plain_size bits row) (bit_w bits state) (plain_w bits row) (immediate_width kind) told x (plain_size_fits bits row h)

-- ---- the kinds of a row

absent-told : (row : Row) → kind_is_told row Absent ≡ true
unfolding kind_is_told file_is_told width_is_told value_is_told file_of immediate_width method_of
absent-told row = refl

told-within : (row : Row) (kinds : List OpKind) (n : ℕ) → list_all (kind_is_told row) kinds ≡ true → kind_is_told row (get_or kinds n Absent) ≡ true
told-within row [] n h = absent-told row
told-within row (kind ∷ kinds) zero h = (and_parts (kind_is_told row kind) (list_all (kind_is_told row) kinds) h).0
told-within row (kind ∷ kinds) (suc n) h = told-within row kinds n (and_parts (kind_is_told row kind) (list_all (kind_is_told row) kinds) h).1

-- **each of four kinds is told**
pub kind-at-told : (row : Row) → list_all (kind_is_told row) row.ops ≡ true → (n : ℕ) → kind_is_told row (kind_at row n) ≡ true
kind-at-told row h n = told-within row row.ops n h

-- the three parts of a kind that is told
pub file-at-told : (row : Row) → list_all (kind_is_told row) row.ops ≡ true → (n : ℕ) → file_is_told row (file_of (kind_at row n)) ≡ true
unfolding kind_is_told
file-at-told row h n =
    let kind = kind_at row n in
    (and_parts (file_is_told row (file_of kind)) (width_is_told row (immediate_width kind) && value_is_told row (method_of kind)) (kind-at-told row h n)).0

-- the width of each immediate is stated
pub width-at-told : (row : Row) → list_all (kind_is_told row) row.ops ≡ true → (n : ℕ) → width_is_told row (immediate_width (kind_at row n)) ≡ true
unfolding kind_is_told
width-at-told row h n =
    let kind = kind_at row n in
    (and_parts (width_is_told row (immediate_width kind)) (value_is_told row (method_of kind))
    (and_parts (file_is_told row (file_of kind)) (width_is_told row (immediate_width kind) && value_is_told row (method_of kind)) (kind-at-told row h n)).1).0

-- and so is its value
pub value-at-told : (row : Row) → list_all (kind_is_told row) row.ops ≡ true → (n : ℕ) → value_is_told row (method_of (kind_at row n)) ≡ true
unfolding kind_is_told
value-at-told row h n =
    let kind = kind_at row n in
    (and_parts (width_is_told row (immediate_width kind)) (value_is_told row (method_of kind))
    (and_parts (file_is_told row (file_of kind)) (width_is_told row (immediate_width kind) && value_is_told row (method_of kind)) (kind-at-told row h n)).1).1
