-- How a text is written, by numbers; what writing it says, and what it leaves in the room.
use Rattle.std.specs.Prelude.{◌≡◌, ◌⊎◌, ℕ, ◌==◌, ◌^◌, nat_lt, nat_le, ◌&&◌, ℤ, List, [], length, Option, Some, None, Result, Ok, Err, if◌then◌else◌}
use Rattle.x86_values.specs.declared.Bits.{Bits}
use Rattle.x86_values.specs.declared.Instr.{Instr}
use Rattle.opcode_rows.specs.Allowed.{is_well_formed}
use Rattle.text_parts.specs.declared.style.Style.{Style}
use Rattle.text_options.specs.declared.options.Options.{Options}
use Rattle.text_options.specs.declared.options.Letters.{Letters}
use Rattle.text_options.specs.declared.options.Letters.TheVariants as letters
use Rattle.text_options.specs.declared.options.Digits.{Digits}
use Rattle.text_options.specs.declared.options.Digits.TheVariants as digits
use Rattle.text_options.specs.declared.options.Immediates.{Immediates}
use Rattle.text_options.specs.declared.options.Immediates.TheVariants as immediates
use Rattle.text_options.specs.declared.options.Commas.{Commas}
use Rattle.text_options.specs.declared.options.Commas.TheVariants as commas
use Rattle.text_options.specs.declared.options.SizeWords.{SizeWords}
use Rattle.text_options.specs.declared.options.SizeWords.TheVariants as size_words
use Rattle.text_options.specs.declared.options.RipOperands.{RipOperands}
use Rattle.text_options.specs.declared.options.RipOperands.TheVariants as rip_operands
use Rattle.text_options.specs.declared.options.SymbolPlace.{SymbolPlace}
use Rattle.text_options.specs.declared.options.SymbolPlace.TheVariants as symbol_place
use Rattle.text_options.specs.declared.options.Names.{Names}
use Rattle.text_options.specs.declared.options.Names.TheVariants as names
use Rattle.text_options.specs.declared.options.Distances.{Distances}
use Rattle.text_options.specs.declared.options.Distances.TheVariants as distances
use Rattle.text_options.specs.declared.options.Absolutes.{Absolutes}
use Rattle.text_options.specs.declared.options.Absolutes.TheVariants as absolutes
use Rattle.text_options.specs.declared.options.Comments.{Comments}
use Rattle.text_options.specs.declared.options.Comments.TheVariants as comments
use Rattle.text_options.specs.Answers.{Answer, Answers}
use Rattle.text_options.specs.Changed.{text_of_bytes}
use Rattle.c_calls.specs.declared.refusal.Refusal.{Refusal}
use Rattle.c_calls.specs.declared.refusal.Refusal.TheVariants.{Mode, Syntax, Instr as NoInstr, Form, Room, Memory, TooLarge, Options as BadOptions}
use Rattle.c_calls.specs.declared.flat.FlatInstr.{FlatInstr}
use Rattle.c_calls.specs.declared.flat.FlatOptions.{FlatOptions}
use Rattle.c_calls.specs.Refusals.{refusal_status}
use Rattle.c_calls.specs.Numbers.{bits_numbered, style_numbered}
use Rattle.c_calls.specs.Back.{instr_back}
use Rattle.c_calls.specs.Answers.{count_or_refusal, text_within, with_text}

-- ---- options by numbers

-- upper case, by its number
unfoldable pub letters_numbered : ℕ → Option Letters
letters_numbered n =
    if n == 0 then Some letters.Lower
    else (if n == 1 then Some letters.UpperNames
    else (if n == 2 then Some letters.UpperRegisters
    else (if n == 3 then Some letters.UpperKeywords
    else (if n == 4 then Some letters.Upper else None))))

-- how numbers are written, by its number
unfoldable pub digits_numbered : ℕ → Option Digits
digits_numbered n =
    if n == 0 then Some digits.OfStyle
    else (if n == 1 then Some digits.Prefixed
    else (if n == 2 then Some digits.Suffixed
    else (if n == 3 then Some digits.Decimal else None)))

-- how immediates are written, by its number
unfoldable pub immediates_numbered : ℕ → Option Immediates
immediates_numbered n =
    if n == 0 then Some immediates.Unsigned
    else (if n == 1 then Some immediates.Signed else None)

-- what follows a comma, by its number
unfoldable pub commas_numbered : ℕ → Option Commas
commas_numbered n =
    if n == 0 then Some commas.Spaced
    else (if n == 1 then Some commas.Tight else None)

-- where the size of memory is written, by its number
unfoldable pub size_words_numbered : ℕ → Option SizeWords
size_words_numbered n =
    if n == 0 then Some size_words.Always
    else (if n == 1 then Some size_words.Needed else None)

-- how operands at RIP are written, by its number
unfoldable pub rip_operands_numbered : ℕ → Option RipOperands
rip_operands_numbered n =
    if n == 0 then Some rip_operands.Address
    else (if n == 1 then Some rip_operands.Distance else None)

-- where a symbol is written, by its number
unfoldable pub symbol_place_numbered : ℕ → Option SymbolPlace
symbol_place_numbered n =
    if n == 0 then Some symbol_place.Behind
    else (if n == 1 then Some symbol_place.Instead
    else (if n == 2 then Some symbol_place.Comment
    else (if n == 3 then Some symbol_place.BehindOrComment else None)))

-- whose names a text has, by its number
unfoldable pub names_numbered : ℕ → Option Names
names_numbered n =
    if n == 0 then Some names.Manual
    else (if n == 1 then Some names.Gnu else None)

-- how distances below zero are written, by its number
unfoldable pub distances_numbered : ℕ → Option Distances
distances_numbered n =
    if n == 0 then Some distances.Signed
    else (if n == 1 then Some distances.Wrapped else None)

-- how addresses with neither base nor index are written, by its number
unfoldable pub absolutes_numbered : ℕ → Option Absolutes
absolutes_numbered n =
    if n == 0 then Some absolutes.Bracketed
    else (if n == 1 then Some absolutes.Bare else None)

-- which addresses have a comment, by its number
unfoldable pub comments_numbered : ℕ → Option Comments
comments_numbered n =
    if n == 0 then Some comments.Named
    else (if n == 1 then Some comments.Distances else None)

-- the number of spaces in front of a comment: 2 for 0
unfoldable pub gap_numbered : ℕ → ℕ
gap_numbered n = if n == 0 then 2 else n

-- some options, where each number names a choice
abbrev pub options_of : Option Letters → Option Digits → Option Immediates → Option Commas → Option SizeWords → ℕ → Option RipOperands → Option SymbolPlace
    → Option Names → Option Distances → Option Absolutes → Option Comments → ℕ → Option Options
options_of (Some letters) (Some digits) (Some immediates) (Some commas) (Some size_words) column (Some rip_operands) (Some symbol_place)
    (Some names) (Some distances) (Some absolutes) (Some comments) gap = Some (record {
      letters = letters;
      digits = digits;
      immediates = immediates;
      commas = commas;
      size_words = size_words;
      operand_column = column;
      rip_operands = rip_operands;
      symbol_place = symbol_place;
      names = names;
      distances = distances;
      absolutes = absolutes;
      comments = comments;
      comment_gap = gap;
    })
options_of _ _ _ _ _ column _ _ _ _ _ _ gap = None

-- the options of a struct, none if a number names no choice
abbrev pub options_back : FlatOptions → Option Options
options_back f =
    options_of (letters_numbered f.letters) (digits_numbered f.digits) (immediates_numbered f.immediates) (commas_numbered f.commas)
    (size_words_numbered f.size_words) f.operand_column (rip_operands_numbered f.rip_operands) (symbol_place_numbered f.symbol_place)
    (names_numbered f.names) (distances_numbered f.distances) (absolutes_numbered f.absolutes) (comments_numbered f.comments)
    (gap_numbered f.comment_gap)

-- ---- the symbol

-- a name is the symbol of every address that is asked for; an empty one is none
abbrev pub one_name : List ℕ → ℕ → Answers
one_name name offset address = if length name == 0 then None else Some (record { name = name; offset = offset })

-- ---- the text

-- the text where there are a mode, a style, options and an instruction, of the form that its row asks for; code are its bytes, or none
unfoldable pub format_of : Option Bits → Option Style → Option Options → List ℕ → Option Instr → ℕ → Answers → Result (List ℕ) Refusal
format_of None style options code i end answers = Err Mode
format_of (Some bits) None options code i end answers = Err Syntax
format_of (Some bits) (Some style) None code i end answers = Err BadOptions
format_of (Some bits) (Some style) (Some options) code None end answers = Err NoInstr
format_of (Some bits) (Some style) (Some options) code (Some i) end answers =
    if is_well_formed i then Ok (text_of_bytes style options bits code i end answers) else Err Form

-- the text of a struct that was read from some bytes, by options and with a symbol, or why it has none
abbrev pub format_code_answer : ℕ → ℕ → FlatOptions → List ℕ → FlatInstr → ℕ → List ℕ → ℕ → Result (List ℕ) Refusal
format_code_answer bits syntax options code f end name offset =
    format_of (bits_numbered bits) (style_numbered syntax) (options_back options) code (instr_back f) end (one_name name offset)

-- the text of a struct by options and with a symbol, or why it has none
abbrev pub format_answer : ℕ → ℕ → FlatOptions → FlatInstr → ℕ → List ℕ → ℕ → Result (List ℕ) Refusal
format_answer bits syntax options f end name offset = format_code_answer bits syntax options [] f end name offset

-- a text has fewer than 2 ^ 31 bytes
unfoldable pub format_short : Result (List ℕ) Refusal → Result (List ℕ) Refusal
format_short (Ok text) = if nat_lt (length text) (2 ^ 31) then Ok text else Err TooLarge
format_short (Err why) = Err why

-- a text that the room holds with the byte 0 that ends it
abbrev pub format_within : ℕ → Result (List ℕ) Refusal → Result (List ℕ) Refusal
format_within room answer = text_within room (format_short answer)

-- what the call says and leaves: the text, the first refusal, or that there was no memory for a text
abbrev pub IsFormat : List ℕ → List ℕ → ℤ → Result (List ℕ) Refusal → Type 0
IsFormat room room' said (Err why) = (said ≡ refusal_status why) × (room' ≡ room)
IsFormat room room' said (Ok text) =
    ((said ≡ count_or_refusal (format_within (length room) (Ok text))) × (room' ≡ with_text room (format_within (length room) (Ok text))))
    ⊎ ((said ≡ refusal_status Memory) × (room' ≡ room))
