-- What the calls of the C interface answer, and what they leave.
use Rattle.std.specs.Prelude.{◌≡◌, ◌⊎◌, ℕ, ◌+◌, ◌<◌, ◌≤◌, nat_lt, nat_le, ◌==◌, ◌&&◌, ℤ, pos, Bool, true, false, List, [], ◌∷◌, ◌++◌, length, drop, Option, Some, None, Result, Ok, Err, if◌then◌else◌}
use Rattle.std.specs.Str.{IsUtf8}
use Rattle.x86_values.specs.declared.Bits.{Bits}
use Rattle.x86_values.specs.declared.Operand.{Operand}
use Rattle.x86_values.specs.declared.Operand.TheVariants.{Mem as Memory, Near}
use Rattle.x86_values.specs.Operands.{is_memory}
use Rattle.x86_values.specs.declared.Instr.{Instr}
use Rattle.row_relation.specs.Spells.{Reading, Read, TooShort as ReadTooShort, Invalid as ReadInvalid}
use Rattle.opcode_rows.specs.declared.generated_spots.TheConstants.{ROWS}
use Rattle.opcode_rows.specs.Table.{name_of}
use Rattle.opcode_rows.specs.ByName.{rows_named, rows_named_before}
use Rattle.opcode_rows.specs.Allowed.{is_well_formed}
use Rattle.opcode_rows.specs.Reading.{IsRead}
use Rattle.plain_spelling.specs.declared.NoSpelling.{NoSpelling}
use Rattle.plain_spelling.specs.declared.NoSpelling.TheVariants as cause
use Rattle.plain_spelling.specs.Forms.{operand_at}
use Rattle.encoder.specs.Encoding.{encoding}
use Rattle.intel_text.specs.Text.{text as intel_text}
use Rattle.att_text.specs.Text.{text as att_text}
use Rattle.masm_text.specs.Text.{text as masm_text}
use Rattle.text_rows.specs.RowLines.Lines.{notation_at}
use Rattle.text_parts.specs.declared.style.Style.{Style}
use Rattle.text_parts.specs.declared.style.Style.TheVariants.{Intel, Att, Masm}
use Rattle.c_calls.specs.declared.refusal.Refusal.{Refusal}
use Rattle.c_calls.specs.declared.refusal.Refusal.TheVariants.{Mode, Syntax, Code, Instr as NoInstr, Form, Room, Invalid, TooShort, Name, Spelling}
use Rattle.c_calls.specs.declared.flat.FlatOperand.{FlatOperand}
use Rattle.c_calls.specs.declared.flat.FlatInstr.{FlatInstr}
use Rattle.c_calls.specs.Refusals.{refusal_status}
use Rattle.c_calls.specs.Numbers.{bits_numbered, style_numbered}
use Rattle.c_calls.specs.Flat.{flat_decoded}
use Rattle.c_calls.specs.Back.{instr_back}

-- ---- bytes and texts in a caller's room

-- how many bytes, or the refusal
abbrev pub count_or_refusal : Result (List ℕ) Refusal → ℤ
count_or_refusal (Ok bytes) = pos (length bytes)
count_or_refusal (Err why) = refusal_status why

-- bytes that the room holds
unfoldable pub bytes_within : ℕ → Result (List ℕ) Refusal → Result (List ℕ) Refusal
bytes_within room (Ok bytes) = if nat_le (length bytes) room then Ok bytes else Err Room
bytes_within room (Err why) = Err why

-- the room begins with the bytes, and is unchanged behind them and after a refusal
abbrev pub with_bytes : List ℕ → Result (List ℕ) Refusal → List ℕ
with_bytes old (Ok bytes) = bytes ++ drop (length bytes) old
with_bytes old (Err why) = old

-- a text that the room holds with the byte 0 that ends it
unfoldable pub text_within : ℕ → Result (List ℕ) Refusal → Result (List ℕ) Refusal
text_within room (Ok text) = if nat_lt (length text) room then Ok text else Err Room
text_within room (Err why) = Err why

-- the room behind a call that gives a text: the text and the byte 0 that ends it at the front, or as it was
abbrev pub with_text : List ℕ → Result (List ℕ) Refusal → List ℕ
with_text old (Ok text) = text ++ (0 ∷ drop (length text + 1) old)
with_text old (Err why) = old

-- ---- reading

-- the length of the instruction, or the refusal
abbrev pub reading_said : Reading → ℤ
reading_said (Read d) = pos d.len
reading_said ReadTooShort = refusal_status TooShort
reading_said ReadInvalid = refusal_status Invalid

-- the struct has the instruction, or is unchanged
abbrev pub reading_left : FlatInstr → Reading → FlatInstr
reading_left old (Read d) = flat_decoded d
reading_left old ReadTooShort = old
reading_left old ReadInvalid = old

-- from the struct the instruction that was read comes back
abbrev pub IsReadBack : Reading → FlatInstr → Type 0
IsReadBack (Read d) f = instr_back f ≡ Some d.instr
IsReadBack ReadTooShort f = Unit {0}
IsReadBack ReadInvalid f = Unit {0}

-- what reading some bytes says and leaves
pub record IsDecodedIn (bits : Bits) (ip : ℕ) (bytes : List ℕ) (old new : FlatInstr) (answer : ℤ) : Type 0 where
  pub reading : Reading
  pub reads : IsRead bits ip bytes reading
  pub answer_is : answer ≡ reading_said reading
  pub left : new ≡ reading_left old reading
  pub back : IsReadBack reading new

-- what the call says and leaves, where the number of the mode names one
abbrev pub IsDecoded : Option Bits → ℕ → List ℕ → FlatInstr → FlatInstr → ℤ → Type 0
IsDecoded None ip bytes old new answer = (answer ≡ refusal_status Mode) × (new ≡ old)
IsDecoded (Some bits) ip bytes old new answer = IsDecodedIn bits ip bytes old new answer

-- ---- texts

-- the text of an instruction in a style
abbrev pub style_text : Style → Bits → Instr → List ℕ
style_text Intel bits i = intel_text bits i
style_text Att bits i = att_text bits i
style_text Masm bits i = masm_text bits i

-- the text of an instruction, where there are a mode, a style and an instruction, of the form that its row asks for
unfoldable pub instr_text_of : Option Bits → Option Style → Option Instr → Result (List ℕ) Refusal
instr_text_of None style i = Err Mode
instr_text_of (Some bits) None i = Err Syntax
instr_text_of (Some bits) (Some style) None = Err NoInstr
instr_text_of (Some bits) (Some style) (Some i) = if is_well_formed i then Ok (style_text style bits i) else Err Form

-- the text of a struct, or why it has none
abbrev pub text_answer : ℕ → ℕ → FlatInstr → Result (List ℕ) Refusal
text_answer bits syntax f = instr_text_of (bits_numbered bits) (style_numbered syntax) (instr_back f)

-- ---- encoding

-- the number of the first of four tests that passes, 0 where none does
abbrev pub first_place : Bool → Bool → Bool → Bool → ℕ
first_place a b c d = if a then 0 else (if b then 1 else (if c then 2 else (if d then 3 else 0)))

-- the number of the first operand that passes a test, 0 where none does
abbrev pub first_operand : (Operand → Bool) → Instr → ℕ
first_operand test i = first_place (test (operand_at i 0)) (test (operand_at i 1)) (test (operand_at i 2)) (test (operand_at i 3))

-- an operand that can have a target: memory, which may be at RIP or EIP, or a near target
abbrev pub may_have_target : Operand → Bool
may_have_target (Memory m) = true
may_have_target (Near x) = true
may_have_target _ = false

-- The operand that fails a condition, 0 where the condition is of the whole instruction: the one that the cause names; of an address and of its
-- displacement the memory operand; of a target the memory operand or the near target. An instruction has no two of these.
abbrev pub failing_operand : Instr → NoSpelling → ℕ
failing_operand i (cause.OperandKind n) = n
failing_operand i (cause.Register n) = n
failing_operand i cause.Memory = first_operand is_memory i
failing_operand i cause.Displacement = first_operand is_memory i
failing_operand i (cause.Immediate n) = n
failing_operand i cause.Target = first_operand may_have_target i
failing_operand i _ = 0

-- the refusal of an instruction that fails a condition
abbrev pub no_spelling : Instr → NoSpelling → Refusal
no_spelling i why = Spelling why (failing_operand i why)

-- the bytes of an instruction, or the condition that it fails
abbrev pub encoding_told : Instr → Result (List ℕ) NoSpelling → Result (List ℕ) Refusal
encoding_told i (Ok bytes) = Ok bytes
encoding_told i (Err why) = Err (no_spelling i why)

-- the encoding where there are a mode and an instruction
unfoldable pub encoding_of : Option Bits → ℕ → Option Instr → Result (List ℕ) Refusal
encoding_of None ip i = Err Mode
encoding_of (Some bits) ip None = Err NoInstr
encoding_of (Some bits) ip (Some i) = encoding_told i (encoding bits ip i)

-- the bytes of a struct whose widths are numbers of bits, or why it has none
abbrev pub sized_answer : ℕ → ℕ → FlatInstr → Result (List ℕ) Refusal
sized_answer bits ip f = encoding_of (bits_numbered bits) ip (instr_back f)

-- their number
abbrev pub length_told : Result (List ℕ) Refusal → Result ℕ Refusal
length_told (Ok bytes) = Ok (length bytes)
length_told (Err why) = Err why

-- a memory operand whose displacement has the width 255 leaves it to the library
abbrev pub has_open_width : FlatOperand → Bool
has_open_width op = op.kind == 2 && op.disp_bits == 255

-- an operand, with this width where it is left to the library
abbrev pub with_width : ℕ → FlatOperand → FlatOperand
with_width w op = if has_open_width op then record op { disp_bits = w } else op

-- a struct with such operands
unfoldable pub of_width : ℕ → FlatInstr → FlatInstr
of_width w f = record f { op0 = with_width w f.op0; op1 = with_width w f.op1; op2 = with_width w f.op2; op3 = with_width w f.op3 }

-- the address has a displacement of this width: that is not why there are no bytes
abbrev pub has_width : Result (List ℕ) Refusal → Bool
has_width (Err (Spelling cause.Displacement n)) = false
has_width _ = true

-- the shortest of some widths that the address has, and the last where it has none of the others
abbrev pub first_width : (ℕ → Result (List ℕ) Refusal) → List ℕ → ℕ → ℕ
first_width answer [] last = last
first_width answer (w ∷ ws) last = if has_width (answer w) then w else first_width answer ws last

-- the width of a displacement that is left to the library, in bits: the shortest that the address has (2.1.5)
unfoldable pub open_width : ℕ → ℕ → FlatInstr → ℕ
open_width bits ip f = first_width (λ w. sized_answer bits ip (of_width w f)) (0 ∷ 8 ∷ 16 ∷ 32 ∷ []) 64

-- the struct with that width
abbrev pub with_displacement_size : ℕ → ℕ → FlatInstr → FlatInstr
with_displacement_size bits ip f = of_width (open_width bits ip f) f

-- the bytes of a struct, or why it has none
abbrev pub encode_answer : ℕ → ℕ → FlatInstr → Result (List ℕ) Refusal
encode_answer bits ip f = sized_answer bits ip (with_displacement_size bits ip f)

-- so many bytes at the front of a room are read as the instruction at the address, whatever stands behind them
abbrev pub IsEncodedAt : Option Bits → ℕ → Option Instr → List ℕ → ℕ → Type 0
IsEncodedAt (Some bits) ip (Some i) room n = IsRead bits ip room (Read (record { instr = i; len = n }))
IsEncodedAt (Some bits) ip None room n = ⊥
IsEncodedAt None ip i room n = ⊥

-- ---- the table

-- the name of a row
unfoldable pub name_answer : ℕ → Result (List ℕ) Refusal
name_answer code = if nat_lt code ROWS then Ok (name_of code) else Err Code

-- the notation of a row
unfoldable pub notation_answer : ℕ → Result (List ℕ) Refusal
notation_answer code = if nat_lt code ROWS then Ok (notation_at code) else Err Code

-- the n-th row of a name, from 0
pub record IsNthNamed (name : List ℕ) (n code : ℕ) : Type 0 where
  pub row : code < ROWS
  pub named : name_of code ≡ name
  pub order : rows_named_before name code ≡ n

-- its code; refused exactly where there are no more than n, or the name is no text
abbrev pub IsCodeNamed : List ℕ → ℕ → ℤ → Type 0
IsCodeNamed name n answer =
    ((code : ℕ) × (IsNthNamed name n code × (answer ≡ pos code)))
    ⊎ ((answer ≡ refusal_status Name) × (IsUtf8 name → rows_named name ≤ n))
