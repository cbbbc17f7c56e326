-- What the words of a command line ask for.
use Rattle.std.specs.Prelude.{ℕ, zero, suc, ◌+◌, ◌*◌, ◌^◌, Bool, ◌&&◌, nat_eq, nat_lt, nat_le, if◌then◌else◌, List, [], ◌∷◌, ◌++◌, length, drop, codes, Option, Some, None, Result, Ok, Err}
use Rattle.std.specs.Borrow.{Bor}
use Rattle.std.specs.Cmp.Lexicographic.{pointwise}
use Rattle.x86_values.specs.declared.Bits.{Bits}
use Rattle.x86_values.specs.declared.Bits.TheVariants.{B16, B32, B64}
use Rattle.x86_values.specs.Wrapping.{width}
use Rattle.text_parts.specs.declared.digit_values.LetterCase.TheVariants.{Either}
use Rattle.text_parts.specs.DigitValues.{digits_from}
use Rattle.text_parts.specs.declared.style.Style.{Style}
use Rattle.text_parts.specs.declared.style.Style.TheVariants.{Intel, Att, Masm}
use Rattle.moving_run.specs.declared.command_words.commands.Command.{Command}
use Rattle.moving_run.specs.declared.command_words.commands.Command.TheVariants.{Help, Version, List as ListCommand, Info, Recode, Flow, Asm, Move, Map, Blocks, Slots, Rows, Sample, Wrong}
use Rattle.moving_run.specs.declared.command_words.commands.BlockWords.{BlockWords}
use Rattle.moving_run.specs.declared.command_words.commands.Through.{Through}
use Rattle.moving_run.specs.declared.command_words.commands.Through.TheVariants.{List as ThroughList, Info as ThroughInfo, Recode as ThroughRecode, Flow as ThroughFlow, Asm as ThroughAsm, Move as ThroughMove, Map as ThroughMap, Slots as ThroughSlots}
use Rattle.moving_run.specs.CommandWords.Counts.{count_word}
use Rattle.moving_run.specs.CommandWords.Ranges.{Range, range_of}

-- the texts of some words
abbrev pub texts : List (Bor (List ℕ)) → List (List ℕ)
texts [] = []
texts (word ∷ words) = word.now ∷ texts words

-- two texts have the same bytes
abbrev pub same_text : List ℕ → List ℕ → Bool
same_text word name = pointwise nat_eq word name

-- the value of the first of some names that a text is
unfoldable pub value_named : {T : Type 0} → List ℕ → List (Bor (List ℕ) × T) → Option T
value_named word [] = None
value_named word (entry ∷ names) = if same_text word entry.0.now then Some entry.1 else value_named word names

-- the mode that a word names
unfoldable pub mode_named : List ℕ → Option Bits
mode_named word =
    if same_text word (codes "16") then Some B16
    else (if same_text word (codes "32") then Some B32
    else (if same_text word (codes "64") then Some B64 else None))

-- the style that a word names
unfoldable pub syntax_named : List ℕ → Option Style
syntax_named word =
    if same_text word (codes "intel") then Some Intel
    else (if same_text word (codes "att") then Some Att
    else (if same_text word (codes "masm") then Some Masm else None))

-- the number that a word of 1 to 16 hexadecimal digits of either case names
unfoldable pub number_word : List ℕ → Option ℕ
number_word word = if nat_lt 0 (length word) && nat_le (length word) 16 then digits_from Either 0 word else None

-- the number, where it is an address of the mode
unfoldable pub address_within : Bits → Option ℕ → Option ℕ
address_within bits None = None
address_within bits (Some n) = if nat_lt n (2 ^ width bits) then Some n else None

-- the command, where no word is left behind it; else the word of this number is one too many
unfoldable pub with_no_more_words : List (List ℕ) → ℕ → Command → Command
with_no_more_words [] word command = command
with_no_more_words (_ ∷ _) word command = Wrong word

-- the words behind `list BITS BASE SYNTAX`
unfoldable pub list_end : Bits → ℕ → Option Style → List (List ℕ) → Command
list_end bits base None words = Wrong 4
list_end bits base (Some syntax) words = with_no_more_words words 5 (ListCommand bits base syntax)

-- the words behind `list BITS BASE`
unfoldable pub list_style : Bits → ℕ → List (List ℕ) → Command
list_style bits base [] = Wrong 4
list_style bits base (style ∷ words) = list_end bits base (syntax_named style) words

-- the words behind `recode BITS1 OLD BITS2` and a word for NEW
unfoldable pub recode_base : Bits → ℕ → Bits → Option ℕ → List (List ℕ) → Command
recode_base bits base to None words = Wrong 5
recode_base bits base to (Some new_base) words = with_no_more_words words 6 (Recode bits base to new_base)

-- the words behind `recode BITS1 OLD` and a word for BITS2
unfoldable pub recode_bits : Bits → ℕ → Option Bits → List (List ℕ) → Command
recode_bits bits base None words = Wrong 4
recode_bits bits base (Some to) [] = Wrong 5
recode_bits bits base (Some to) (new_base ∷ words) = recode_base bits base to (address_within to (number_word new_base)) words

-- the words behind `recode BITS1 OLD`
unfoldable pub recode_words : Bits → ℕ → List (List ℕ) → Command
recode_words bits base [] = Wrong 4
recode_words bits base (mode ∷ words) = recode_bits bits base (mode_named mode) words

-- the words behind a word for NEW, which is the last: the address, or the number of the word that is not allowed or too many
unfoldable pub new_end_word : Option ℕ → List (List ℕ) → Result ℕ ℕ
new_end_word None words = Err 4
new_end_word (Some new) [] = Ok new
new_end_word (Some new) (_ ∷ _) = Err 5

-- the words behind `move BITS OLD` and `map BITS OLD`: the address NEW, or the number of the first word that is not allowed, missing or too many
unfoldable pub new_words : Bits → List (List ℕ) → Result ℕ ℕ
new_words bits [] = Err 4
new_words bits (new ∷ words) = new_end_word (address_within bits (number_word new)) words

-- the command `move`, or a wrong word
unfoldable pub move_end : Bits → ℕ → Result ℕ ℕ → Command
move_end bits old (Ok new) = Move bits old new
move_end bits old (Err word) = Wrong word

-- the command `map`, or a wrong word
unfoldable pub map_end : Bits → ℕ → Result ℕ ℕ → Command
map_end bits old (Ok new) = Map bits old new
map_end bits old (Err word) = Wrong word

-- the range of this size, where it is one
unfoldable pub range_in : Bits → ℕ → Option ℕ → Option Range
range_in bits base None = None
range_in bits base (Some size) = range_of bits base size

-- the words behind `slots BITS OLD REGION` and a word for SIZE
unfoldable pub slots_size : ℕ → Option Range → List (List ℕ) → Command
slots_size old None words = Wrong 5
slots_size old (Some range) words = with_no_more_words words 6 (Slots old range)

-- the words behind `slots BITS OLD` and a word for REGION
unfoldable pub slots_region : Bits → ℕ → Option ℕ → List (List ℕ) → Command
slots_region bits old None words = Wrong 4
slots_region bits old (Some base) [] = Wrong 5
slots_region bits old (Some base) (size ∷ words) = slots_size old (range_in bits base (number_word size)) words

-- the words behind `slots BITS OLD`
unfoldable pub slots_words : Bits → ℕ → List (List ℕ) → Command
slots_words bits old [] = Wrong 4
slots_words bits old (region ∷ words) = slots_region bits old (address_within bits (number_word region)) words

-- the words behind BITS BASE
unfoldable pub code_end : Through → Bits → ℕ → List (List ℕ) → Command
code_end ThroughList bits base words = list_style bits base words
code_end ThroughInfo bits base words = with_no_more_words words 4 (Info bits base)
code_end ThroughRecode bits base words = recode_words bits base words
code_end ThroughFlow bits base words = with_no_more_words words 4 (Flow bits base)
code_end ThroughAsm bits base words = with_no_more_words words 4 (Asm bits base)
code_end ThroughMove bits base words = move_end bits base (new_words bits words)
code_end ThroughMap bits base words = map_end bits base (new_words bits words)
code_end ThroughSlots bits base words = slots_words bits base words

-- the words behind BITS and a word for BASE
unfoldable pub code_base : Through → Bits → Option ℕ → List (List ℕ) → Command
code_base through bits None words = Wrong 3
code_base through bits (Some base) words = code_end through bits base words

-- the words behind a word for BITS
unfoldable pub code_bits : Through → Option Bits → List (List ℕ) → Command
code_bits through None words = Wrong 2
code_bits through (Some bits) [] = Wrong 3
code_bits through (Some bits) (base ∷ words) = code_base through bits (address_within bits (number_word base)) words

-- the words behind the name of a command that goes through code
unfoldable pub code_words : Through → List (List ℕ) → Command
code_words through [] = Wrong 2
code_words through (mode ∷ words) = code_bits through (mode_named mode) words

-- a block whose addresses are named, and a word for LEN; else 2, the words of the block before that word
unfoldable pub block_len : ℕ → ℕ → Option ℕ → Result BlockWords ℕ
block_len old new None = Err 2
block_len old new (Some len) = Ok (record { old = old; new = new; len = Some len })

-- the words behind OLD of a block and a word for NEW: the block, the last one where no word is left; else how many words of the block stand before the
-- first that is not allowed
unfoldable pub block_new : ℕ → Option ℕ → List (List ℕ) → Result BlockWords ℕ
block_new old None words = Err 1
block_new old (Some new) [] = Ok (record { old = old; new = new; len = None })
block_new old (Some new) (len ∷ words) = block_len old new (number_word len)

-- the words behind a word for OLD of a block
unfoldable pub block_old : Bits → Option ℕ → List (List ℕ) → Result BlockWords ℕ
block_old bits None words = Err 0
block_old bits (Some old) [] = Err 1
block_old bits (Some old) (new ∷ words) = block_new old (address_within bits (number_word new)) words

-- the block at the front of some words; else how many words of it stand before the first that is not allowed or missing
unfoldable pub block_at : Bits → List (List ℕ) → Result BlockWords ℕ
block_at bits [] = Err 0
block_at bits (old ∷ words) = block_old bits (address_within bits (number_word old)) words

-- the words behind `blocks BITS` and some blocks, where so many more may stand: a block, and others where it has a length. Behind all that may stand the
-- LEN of the last is one word too many.
unfoldable pub blocks_from : ℕ → Bits → List BlockWords → List (List ℕ) → Command
blocks_from zero bits blocks words = Wrong (2 + 3 * length blocks)
blocks_from (suc room) bits blocks words = elim (block_at bits words) [
  | Err before ↦ Wrong (3 + 3 * length blocks + before)
  | Ok block ↦ elim block.len [
    | None ↦ Blocks bits (record { items = blocks ++ block ∷ [] })
    | Some _ ↦ blocks_from room bits (blocks ++ block ∷ []) (drop 3 words)
  ]
]

-- the words behind a word for BITS of `blocks`
unfoldable pub blocks_bits : Option Bits → List (List ℕ) → Command
blocks_bits None words = Wrong 2
blocks_bits (Some bits) words = blocks_from 16 bits [] words

-- the words behind `blocks`
unfoldable pub blocks_words : List (List ℕ) → Command
blocks_words [] = Wrong 2
blocks_words (mode ∷ words) = blocks_bits (mode_named mode) words

-- the number of instructions to make, where it is one
unfoldable pub count_within : Option ℕ → Option ℕ
count_within None = None
count_within (Some count) = count_word count

-- the words behind `sample` and a word for N
unfoldable pub sample_count : Option ℕ → List (List ℕ) → Command
sample_count None words = Wrong 2
sample_count (Some count) words = with_no_more_words words 3 (Sample count)

-- the words behind `sample`
unfoldable pub sample_words : List (List ℕ) → Command
sample_words [] = Wrong 2
sample_words (count ∷ words) = sample_count (count_within (number_word count)) words

-- the command of some words, or the number of the first word, counted from 1, that is not allowed, missing or too many
unfoldable pub command_of : List (List ℕ) → Command
command_of [] = Wrong 1
command_of (name ∷ words) =
    if same_text name (codes "list") then code_words ThroughList words
    else (if same_text name (codes "info") then code_words ThroughInfo words
    else (if same_text name (codes "recode") then code_words ThroughRecode words
    else (if same_text name (codes "flow") then code_words ThroughFlow words
    else (if same_text name (codes "asm") then code_words ThroughAsm words
    else (if same_text name (codes "move") then code_words ThroughMove words
    else (if same_text name (codes "map") then code_words ThroughMap words
    else (if same_text name (codes "slots") then code_words ThroughSlots words
    else (if same_text name (codes "blocks") then blocks_words words
    else (if same_text name (codes "rows") then with_no_more_words words 2 Rows
    else (if same_text name (codes "sample") then sample_words words
    else (if same_text name (codes "--help") then with_no_more_words words 2 Help
    else (if same_text name (codes "--version") then with_no_more_words words 2 Version else Wrong 1))))))))))))
