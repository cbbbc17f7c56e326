-- What the frequent cases of a text are told by.
use Rattle.std.specs.Prelude.{ℕ, Bool, true, false, not, ◌&&◌, ◌||◌, Option, Some, None}
use Rattle.x86_values.specs.declared.Bits.{Bits}
use Rattle.instruction_parts.specs.declared.row_types.Row.{Row}
use Rattle.instruction_parts.specs.declared.row_types.Place.{Place}
use Rattle.instruction_parts.specs.declared.row_types.Place.TheVariants.{Register as OnlyRegister}
use Rattle.instruction_parts.specs.declared.row_types.Size.{Size}
use Rattle.instruction_parts.specs.declared.row_types.Size.TheVariants.{O64}
use Rattle.instruction_parts.specs.declared.row_types.OpKind.{OpKind}
use Rattle.instruction_parts.specs.declared.row_types.OpKind.TheVariants.{Absent as NoKind, Ev, Gv, M}
use Rattle.instruction_parts.specs.Counting.{is_64}
use Rattle.instruction_parts.specs.Sizes.{has_caret, has_bang}
use Rattle.row_fit.specs.Fits.{kind_at}
use Rattle.row_meaning.specs.MemorySize.{row_size_bytes}

-- ---- the operand size

-- the size is 64
abbrev pub is_quad : Size → Bool
is_quad O64 = true
is_quad _ = false

-- the row has the operand size 64 as its usual one
unfoldable pub is_usually_quad : Bits → Row → Bool
is_usually_quad bits row = is_64 bits && (is_quad row.size && (has_bang row || has_caret row))

-- ---- the memory operand

-- the kind of no operand
abbrev pub is_absent_kind : OpKind → Bool
is_absent_kind NoKind = true
is_absent_kind _ = false

-- r/m is limited to registers
abbrev pub is_register_place : Place → Bool
is_register_place OnlyRegister = true
is_register_place _ = false

-- the row has at most two operands, and r/m may be memory
unfoldable pub has_pair_in_memory : Row → Bool
has_pair_in_memory row =
    is_absent_kind (kind_at row 2) && (is_absent_kind (kind_at row 3) && not (is_register_place row.place))

-- the bytes of the memory operand of two: beside a general register it has the operand size, and none in LEA; of other kinds it is not said
abbrev pub paired_bytes : Size → OpKind → OpKind → Option ℕ
paired_bytes size Ev Gv = Some (row_size_bytes size)
paired_bytes size Gv Ev = Some (row_size_bytes size)
paired_bytes size Gv M = Some 0
paired_bytes size _ _ = None
