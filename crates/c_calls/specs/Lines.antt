-- Reading an instruction and showing it in one call.
use Rattle.std.specs.Prelude.{◌≡◌, ℕ, nat_lt, ℤ, pos, List, length, Option, Some, None, Result, Ok, Err, if◌then◌else◌}
use Rattle.x86_values.specs.declared.Bits.{Bits}
use Rattle.x86_values.specs.declared.Decoded.{Decoded}
use Rattle.row_relation.specs.Spells.{Reading, Read, TooShort as ReadTooShort, Invalid as ReadInvalid}
use Rattle.opcode_rows.specs.Reading.{IsRead}
use Rattle.text_parts.specs.declared.style.Style.{Style}
use Rattle.c_calls.specs.declared.refusal.Refusal.{Refusal}
use Rattle.c_calls.specs.declared.refusal.Refusal.TheVariants.{Mode, Syntax, Room, Invalid, TooShort}
use Rattle.c_calls.specs.declared.flat.FlatInstr.{FlatInstr}
use Rattle.c_calls.specs.Refusals.{refusal_status}
use Rattle.c_calls.specs.Numbers.{bits_numbered, style_numbered}
use Rattle.c_calls.specs.Flat.{flat_decoded}
use Rattle.c_calls.specs.Back.{instr_back}
use Rattle.c_calls.specs.Answers.{style_text, with_text}

-- the instruction of a line: the one that is read, where a room of so many bytes holds its text and the byte 0 that ends it; else why there is no line
unfoldable pub text_line_of : Style → Bits → ℕ → Reading → Result Decoded Refusal
text_line_of style bits room (Read d) = if nat_lt (length (style_text style bits d.instr)) room then Ok d else Err Room
text_line_of style bits room ReadTooShort = Err TooShort
text_line_of style bits room ReadInvalid = Err Invalid

-- a line whose instruction was written to a place
abbrev pub line_text_at : Result (Unit {0}) Refusal → Decoded → Result Decoded Refusal
line_text_at (Ok done) place = Ok place
line_text_at (Err why) place = Err why

-- the text of a line
abbrev pub line_text : Style → Bits → Result Decoded Refusal → Result (List ℕ) Refusal
line_text style bits (Ok d) = Ok (style_text style bits d.instr)
line_text style bits (Err why) = Err why

-- what is said of a line: the length of its instruction, or the refusal
abbrev pub line_said : Result Decoded Refusal → ℤ
line_said (Ok d) = pos d.len
line_said (Err why) = refusal_status why

-- the struct has its instruction, or is unchanged
abbrev pub line_left : FlatInstr → Result Decoded Refusal → FlatInstr
line_left old (Ok d) = flat_decoded d
line_left old (Err why) = old

-- from the struct the instruction comes back
abbrev pub IsLineBack : Result Decoded Refusal → FlatInstr → Type 0
IsLineBack (Ok d) f = instr_back f ≡ Some d.instr
IsLineBack (Err why) f = Unit {0}

-- the line of some bytes in a mode and a style, and what it leaves in the room: its text and a byte 0 at the front, or nothing
pub record IsLineIn (bits : Bits) (style : Style) (ip : ℕ) (bytes room room' : List ℕ) (line : Result Decoded Refusal) : Type 0 where
  pub reading : Reading
  pub reads : IsRead bits ip bytes reading
  pub line_is : line ≡ text_line_of style bits (length room) reading
  pub text_is : room' ≡ with_text room (line_text style bits line)

-- the line of some bytes, where the numbers of the mode and of the style name one each
abbrev pub IsLineBy : Option Bits → Option Style → ℕ → List ℕ → List ℕ → List ℕ → Result Decoded Refusal → Type 0
IsLineBy None style ip bytes room room' line = (line ≡ Err Mode) × (room' ≡ room)
IsLineBy (Some bits) None ip bytes room room' line = (line ≡ Err Syntax) × (room' ≡ room)
IsLineBy (Some bits) (Some style) ip bytes room room' line = IsLineIn bits style ip bytes room room' line

-- what the call says and leaves
pub record IsLine (bits syntax ip : ℕ) (bytes : List ℕ) (old new : FlatInstr) (room room' : List ℕ) (answer : ℤ) : Type 0 where
  pub line : Result Decoded Refusal
  pub is : IsLineBy (bits_numbered bits) (style_numbered syntax) ip bytes room room' line
  pub answer_is : answer ≡ line_said line
  pub left : new ≡ line_left old line
  pub back : IsLineBack line new

-- what the call says and leaves in the room, where no struct is wanted
pub record IsLineText (bits syntax ip : ℕ) (bytes room room' : List ℕ) (answer : ℤ) : Type 0 where
  pub line : Result Decoded Refusal
  pub is : IsLineBy (bits_numbered bits) (style_numbered syntax) ip bytes room room' line
  pub answer_is : answer ≡ line_said line
