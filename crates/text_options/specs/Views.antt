-- What the pieces of one text are changed by.
use Rattle.std.specs.Prelude.{ℕ, Bool, true, false, ◌&&◌, ◌||◌, if◌then◌else◌, Option, Some, None, slice_get}
use Rattle.x86_values.specs.declared.Register.{Register}
use Rattle.x86_values.specs.declared.Mem.{Mem}
use Rattle.x86_values.specs.declared.Instr.{Instr}
use Rattle.x86_values.specs.Operands.{first_memory}
use Rattle.opcode_rows.specs.Table.{table}
use Rattle.text_parts.specs.declared.style.Style.{Style}
use Rattle.instruction_parts.specs.declared.row_types.Row.{Row}
use Rattle.text_parts.specs.declared.style.Style.TheVariants.{Att}
use Rattle.text_parts.specs.Addresses.{is_instruction_pointer, is_absolute}
use Rattle.text_options.specs.declared.options.Options.{Options}
use Rattle.text_options.specs.declared.options.SizeWords.TheVariants.{Always, Needed}
use Rattle.text_options.specs.declared.options.RipOperands.TheVariants.{Address, Distance}
use Rattle.text_options.specs.declared.options.Names.TheVariants.{Manual, Gnu}
use Rattle.text_options.specs.declared.options.Absolutes.TheVariants.{Bracketed, Bare}
use Rattle.text_options.specs.declared.gnu_pieces.Special.{Special}
use Rattle.text_options.specs.declared.view.View.{View}
use Rattle.text_options.specs.Sizes.{row_shows_size}
use Rattle.text_options.specs.GnuForms.{form_of}
use Rattle.text_options.specs.GnuPieces.{special_of}

-- the options leave out the size of memory, where a register shows it
unfoldable pub is_size_needless : Options → Instr → Bool
is_size_needless options instr =
    elim options.size_words [ Always ↦ false | Needed ↦ row_shows_size (slice_get table instr.code.0) ]

-- GNU leaves it out, by the form of the row
unfoldable pub is_unsized : Options → Instr → Bool
is_unsized options instr = elim options.names [ Manual ↦ false | Gnu ↦ (form_of instr.code.0 false).is_unsized ]

-- the size of memory is left out
unfoldable pub drops_sizes : Options → Instr → Bool
drops_sizes options instr = is_size_needless options instr || is_unsized options instr

-- the instruction pointer of an address that is relative to it
unfoldable pub pointer_in : Option Mem → Option Register
pointer_in None = None
pointer_in (Some m) = if is_instruction_pointer m.base then m.base else None

-- the instruction pointer that the memory operand is written with
unfoldable pub pointer_of : Options → Instr → Option Register
pointer_of options instr = elim options.rip_operands [ Address ↦ None | Distance ↦ pointer_in (first_memory instr.ops) ]

-- the memory has neither base nor index
unfoldable pub is_absolute_in : Option Mem → Bool
is_absolute_in None = false
is_absolute_in (Some m) = is_absolute m

-- the style has brackets
unfoldable pub has_brackets : Style → Bool
has_brackets Att = false
has_brackets _ = true

-- an address with neither base nor index has no brackets
unfoldable pub is_bare : Style → Options → Instr → Bool
is_bare style options instr =
    elim options.absolutes [ Bracketed ↦ false | Bare ↦ has_brackets style && is_absolute_in (first_memory instr.ops) ]

-- the operands of an instruction that GNU writes in its own way, by its row
unfoldable pub special_by : Style → Option Row → Instr → Option Special
special_by style None instr = None
special_by style (Some row) instr = Some (special_of style row instr)

-- the operands that GNU writes in its own way, where the names are GNU's
unfoldable pub special_in : Style → Options → Instr → Option Special
special_in style options instr = elim options.names [ Manual ↦ None | Gnu ↦ special_by style (slice_get table instr.code.0) instr ]

-- how an instruction is to be written in a style, its end being the address of the next one
unfoldable pub view_of : Style → Options → Instr → ℕ → View
view_of style options instr end = record {
  style = style;
  options = options;
  drops_sizes = drops_sizes options instr;
  pointer = pointer_of options instr;
  bare = is_bare style options instr;
  special = special_in style options instr;
  end = end;
}
