-- The lines of the commands that go through a sweep, item by item.
use Rattle.std.specs.Prelude.{◌≡◌, ℕ, ◌+◌, List, [], ◌∷◌, ◌++◌, Option, Some, None}
use Rattle.std.specs.List.{flat_map}
use Rattle.x86_values.specs.declared.Bits.{Bits}
use Rattle.x86_values.specs.declared.Instr.{Instr}
use Rattle.row_relation.specs.Spells.{Reading, Read, TooShort, Invalid}
use Rattle.decoder.specs.declared.DecodeError.{DecodeError}
use Rattle.decoder.specs.declared.DecodeError.TheVariants.{Invalid as InvalidError, TooShort as TooShortError}
use Rattle.sweep.specs.declared.sweep_text.lines.Lines.{Lines}
use Rattle.sweep.specs.declared.sweep_text.lines.Lines.TheVariants.{Listing, Info, Recode}
use Rattle.opcode_rows.specs.Sweep.{Item}
use Rattle.sweep.specs.SweepText.Listing.{address_text, item_line}
use Rattle.sweep.specs.SweepText.Info.{info_text}
use Rattle.sweep.specs.SweepText.Recode.{recode_text}

-- the error of a reading that is no instruction
abbrev pub error_of : Reading → Option DecodeError
error_of (Read d) = None
error_of TooShort = Some TooShortError
error_of Invalid = Some InvalidError

-- the error at which a command ends: a listing has a line for each item and goes on behind every one, the others have lines for instructions
-- alone and end at the first single byte
abbrev pub stop_of : Lines → Reading → Option DecodeError
stop_of (Listing syntax) reading = None
stop_of Info reading = error_of reading
stop_of (Recode to new_base) reading = error_of reading

-- the command goes on behind an item
abbrev pub LineGoesOn : Lines → Item → Type 0
LineGoesOn lines item = stop_of lines item.reading ≡ None

-- the line of an instruction at an offset: its address, what is told of it behind a space, and a line feed
unfoldable pub instr_line : Bits → ℕ → ℕ → List ℕ → List ℕ
instr_line bits base offset told = address_text bits base offset ++ (32 ∷ (told ++ 10 ∷ []))

-- the line of an instruction with what is told of it, none of a single byte
abbrev pub told_line : Bits → ℕ → ℕ → (Instr → List ℕ) → Reading → List ℕ
told_line bits base offset told (Read d) = instr_line bits base offset (told d.instr)
told_line bits base offset told TooShort = []
told_line bits base offset told Invalid = []

-- the line of an item
abbrev pub line_of : Bits → ℕ → Lines → Item → List ℕ
line_of bits base (Listing syntax) item = item_line bits base syntax item
line_of bits base Info item = told_line bits base item.offset info_text item.reading
line_of bits base (Recode to new_base) item = told_line bits base item.offset (λ i. recode_text to (new_base + item.offset) i) item.reading

-- the lines of items, one behind another
abbrev pub lines_of : Bits → ℕ → Lines → List Item → List ℕ
lines_of bits base lines items = flat_map (line_of bits base lines) items
