-- The size of a row's memory operand.
use Rattle.std.specs.Prelude.{ℕ, ◌+◌, ◌*◌, ◌/◌, Bool, true, false, if◌then◌else◌}
use Rattle.instruction_parts.specs.declared.row_types.Row.{Row}
use Rattle.instruction_parts.specs.declared.row_types.Size.{Size}
use Rattle.instruction_parts.specs.declared.row_types.Size.TheVariants.{O16, O64, W1 as SizeW1}
use Rattle.instruction_parts.specs.declared.row_types.WBit.TheVariants.{W1}
use Rattle.instruction_parts.specs.declared.row_types.LBit.{LBit}
use Rattle.instruction_parts.specs.declared.row_types.LBit.TheVariants.{L256}
use Rattle.instruction_parts.specs.declared.row_types.Place.TheVariants.{Register as OnlyRegister}
use Rattle.instruction_parts.specs.declared.kinds.Width.{Width}
use Rattle.instruction_parts.specs.declared.kinds.Width.TheVariants.{Zero as ZeroWidth, Bytes, OperandSize as OperandSizeWidth, TwiceOperandSize as TwiceOperandSizeWidth, WordOrDword as WordOrDwordWidth, ByW as ByWWidth, Vector as VectorWidth, HalfVector as HalfVectorWidth, QuarterVector as QuarterVectorWidth, EighthVector as EighthVectorWidth, PointerOfSize as PointerOfSizeWidth}
use Rattle.instruction_parts.specs.Kinds.{memory_width}
use Rattle.row_fit.specs.Fits.{kind_at}

-- the operand size that a row has in bytes
unfoldable pub row_size_bytes : Size → ℕ
row_size_bytes O16 = 2
row_size_bytes O64 = 8
row_size_bytes _ = 4

-- the row has W 1
unfoldable pub has_w : Row → Bool
has_w row = elim row.w [ W1 ↦ true | _ ↦ elim row.size [ SizeW1 ↦ true | O64 ↦ true | _ ↦ false ] ]

-- the bytes of the row's vectors
unfoldable pub vector_bytes : LBit → ℕ
vector_bytes L256 = 32
vector_bytes _ = 16

-- a width in bytes, in a row
unfoldable pub width_in_row : Row → Width → ℕ
width_in_row row ZeroWidth = 0
width_in_row row (Bytes n) = n
width_in_row row OperandSizeWidth = row_size_bytes row.size
width_in_row row TwiceOperandSizeWidth = 2 * row_size_bytes row.size
width_in_row row WordOrDwordWidth = elim row.size [ O16 ↦ 2 | _ ↦ 4 ]
width_in_row row ByWWidth = if has_w row then 8 else 4
width_in_row row VectorWidth = vector_bytes row.l
width_in_row row HalfVectorWidth = vector_bytes row.l / 2
width_in_row row QuarterVectorWidth = vector_bytes row.l / 4
width_in_row row EighthVectorWidth = vector_bytes row.l / 8
width_in_row row PointerOfSizeWidth = 0

-- the bytes that operand n has in memory
unfoldable pub size_at : Row → ℕ → ℕ
size_at row n = width_in_row row (memory_width (kind_at row n))

-- the size in bytes of the row's memory operand, 0 where there is none
unfoldable pub memory_size : Row → ℕ
memory_size row =
    elim row.place [ OnlyRegister ↦ 0 | _ ↦ size_at row 0 + (size_at row 1 + (size_at row 2 + size_at row 3)) ]
