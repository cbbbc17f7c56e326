-- Reading addresses and other operands.
use Rattle.std.specs.Prelude.{ℕ, Bool, true, false, ◌&&◌, ◌==◌, nat_le, if◌then◌else◌, List, [], ◌∷◌, Option, Some, None, option_map, bytes_eq, codes}
use Rattle.x86_values.specs.declared.Segment.{Segment}
use Rattle.x86_values.specs.declared.Register.{Register}
use Rattle.intel_words.specs.declared.words.OperandText.{OperandText}
use Rattle.intel_words.specs.declared.words.OperandText.TheVariants.{Absent, Reg, Number, Far, Mem as Address}
use Rattle.intel_words.specs.declared.words.SizeName.{SizeName}
use Rattle.intel_words.specs.declared.words.SizeName.TheVariants.{None as NoSize, Byte, Word, Dword, Qword, Tbyte, Xmmword, Ymmword, Far16, Far32, Far64}
use Rattle.intel_words.specs.declared.words.Inside.{Inside}
use Rattle.intel_words.specs.declared.words.Inside.TheVariants.{Nothing, Lone, Rel, Sum}
use Rattle.intel_words.specs.declared.words.SignedText.{SignedText}
use Rattle.intel_words.specs.Scanning.{first, rest, word, rest_behind}
use Rattle.intel_words.specs.ReadNumbers.{number_named, decimal_digit}
use Rattle.intel_words.specs.ReadRegisters.{register_named, segment_of_word}

-- ---- displacement

-- the magnitude behind a sign, where it is a number
unfoldable pub signed_by : Bool → Option ℕ → Option (Option SignedText)
signed_by negative None = None
signed_by negative (Some n) = Some (Some (record { negative = negative; magnitude = n }))

-- a displacement with its sign, or the bracket that ends the address
unfoldable pub signed_in : List ℕ → Option (Option SignedText)
signed_in text =
    if first text == 93 then Some None
    else (if first text == 43 then signed_by false (number_named (word (rest text)))
    else (if first text == 45 then signed_by true (number_named (word (rest text))) else None))

-- ---- registers

-- registers, a scale and the displacement behind them
unfoldable pub sum_with : Option Register → Option Register → Option ℕ → Option (Option SignedText) → Option Inside
sum_with base index scale None = None
sum_with base index scale (Some disp) = Some (Sum (record { base = base; index = index; scale = scale; disp = disp }))

-- behind the star
unfoldable pub scaled_by : Option Register → Option Register → Option ℕ → List ℕ → Option Inside
scaled_by base index None text = None
scaled_by base index (Some scale) text = sum_with base index (Some scale) (signed_in text)

-- behind an index: its scale, and the displacement
unfoldable pub behind_index : Option Register → Option Register → List ℕ → Option Inside
behind_index base index text =
    if first text == 42 then scaled_by base index (decimal_digit (first (rest text))) (rest (rest text))
    else sum_with base index None (signed_in text)

-- an index behind a base
unfoldable pub index_by : Option Register → Option Register → List ℕ → Option Inside
index_by base None text = None
index_by base (Some index) text = behind_index base (Some index) text

-- behind the first register: a star where it is an index, a plus and a second register where it is a base, or the displacement
unfoldable pub sum_by : Option Register → List ℕ → Option Inside
sum_by None text = None
sum_by (Some r) text =
    if first text == 42 then behind_index None (Some r) text
    else (if first text == 43 && nat_le 97 (first (rest text)) then index_by (Some r) (register_named (word (rest text))) (rest_behind (rest text))
    else sum_with (Some r) None None (signed_in text))

-- ---- inside the brackets

-- a target relative to EIP or RIP, where it is a number
unfoldable pub rel_by : Bool → Option ℕ → Option Inside
rel_by eip None = None
rel_by eip (Some target) = Some (Rel eip target)

-- a target behind rel or rel32
unfoldable pub relative_in : List ℕ → List ℕ → Option Inside
relative_in name text =
    if bytes_eq name (codes "rel") then rel_by false (number_named (word text))
    else (if bytes_eq name (codes "rel32") then rel_by true (number_named (word text)) else None)

-- the text behind the opening bracket
unfoldable pub inside_in : List ℕ → Option Inside
inside_in text =
    if first (rest_behind text) == 32 then relative_in (word text) (rest (rest_behind text))
    else (if first text == 93 then Some Nothing
    else (if first text == 48 then option_map Lone (number_named (word text)) else sum_by (register_named (word text)) (rest_behind text)))

-- ---- an address

-- the size of a size word
unfoldable pub size_named : List ℕ → Option SizeName
size_named name =
    if bytes_eq name (codes "dword") then Some Dword else (if bytes_eq name (codes "qword") then Some Qword
    else (if bytes_eq name (codes "byte") then Some Byte else (if bytes_eq name (codes "word") then Some Word
    else (if bytes_eq name (codes "xmmword") then Some Xmmword else (if bytes_eq name (codes "ymmword") then Some Ymmword
    else (if bytes_eq name (codes "tbyte") then Some Tbyte else (if bytes_eq name (codes "far16") then Some Far16
    else (if bytes_eq name (codes "far32") then Some Far32 else (if bytes_eq name (codes "far64") then Some Far64 else None)))))))))

-- the address of what was read between the brackets
unfoldable pub address_by : SizeName → Option Segment → Option Inside → Option OperandText
address_by size seg None = None
address_by size seg (Some inside) = Some (Address (record { size = size; seg = seg; inside = inside }))

-- an address with the segment in front of its brackets
unfoldable pub address_at : SizeName → Option Segment → List ℕ → Option OperandText
address_at size None text = None
address_at size (Some seg) text = if first text == 91 then address_by size (Some seg) (inside_in (rest text)) else None

-- brackets with or without a segment
unfoldable pub address_in : SizeName → List ℕ → Option OperandText
address_in size text =
    if first text == 91 then address_by size None (inside_in (rest text))
    else (if first (rest_behind text) == 58 then address_at size (segment_of_word (word text)) (rest (rest_behind text)) else None)

-- behind a size word
unfoldable pub sized_in : Option SizeName → List ℕ → Option OperandText
sized_in None text = None
sized_in (Some size) text = address_in size text

-- ---- an operand

-- what stands at a place, where something was written to it
abbrev pub written_operand : Option (Unit {0}) → OperandText → Option OperandText
written_operand None place = None
written_operand (Some done) place = Some place

-- a far pointer of a selector and an offset, where both are numbers
unfoldable pub far_by : Option ℕ → Option ℕ → Option OperandText
far_by (Some selector) (Some offset) = Some (Far selector offset)
far_by _ _ = None

-- a register or a number
unfoldable pub plain_in : List ℕ → Option OperandText
plain_in name = if first name == 48 then option_map Number (number_named name) else option_map Reg (register_named name)

-- two numbers with a colon between them
unfoldable pub far_in : List ℕ → Option OperandText
far_in text = far_by (number_named (word text)) (number_named (word (rest (rest_behind text))))

-- the operand of a text that is not empty
unfoldable pub some_operand : List ℕ → Option OperandText
some_operand text =
    if first (rest_behind text) == 32 then sized_in (size_named (word text)) (rest (rest_behind text))
    else (if first text == 91 then address_in NoSize text
    else (if first (rest_behind text) == 58 then (if first text == 48 then far_in text else address_in NoSize text)
    else plain_in (word text)))

-- the operand of a text
unfoldable pub operand_in : List ℕ → Option OperandText
operand_in [] = Some Absent
operand_in (c ∷ cs) = some_operand (c ∷ cs)
