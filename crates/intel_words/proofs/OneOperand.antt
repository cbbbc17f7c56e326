-- The text of one operand is read again.
use Rattle.std.proofs.Common.{◌≡◌, ℕ, ◌^◌, ◌<◌, Bool, true, false, List, [], ◌∷◌, ◌++◌, option_map, Option, Some, None, refl, ap, ◌∙◌, arith}
use Rattle.std.specs.Prelude.{◌==◌, nat_lt, nat_le, if◌then◌else◌, codes}
use Rattle.std.specs.List.{list_all}
use Rattle.std.proofs.lemmas.Bool.{ltb-true, and_parts}
use Rattle.std.proofs.lemmas.Bool.Decides.{nat_tests}
use Rattle.x86_values.specs.declared.Bits.{Bits}
use Rattle.x86_values.specs.declared.Segment.{Segment}
use Rattle.x86_values.specs.declared.Segment.TheVariants.{Es, Cs, Ss, Ds, Fs, Gs}
use Rattle.x86_values.specs.declared.Register.{Register}
use Rattle.x86_values.specs.declared.Mem.{Mem}
use Rattle.x86_values.specs.declared.Operand.{Operand}
use Rattle.x86_values.specs.declared.Operand.TheVariants.{Absent as NoOperand, Reg as RegOperand, Mem as MemOperand, Imm, Near, Far as FarOperand}
use Rattle.x86_values.specs.declared.Instr.{Instr}
use Rattle.instruction_parts.specs.declared.row_types.Row.{Row}
use Rattle.instruction_parts.specs.declared.row_types.Size.{Size}
use Rattle.instruction_parts.specs.declared.row_types.Size.TheVariants.{O16, O64}
use Rattle.row_fit.specs.Fits.{kind_at}
use Rattle.row_meaning.specs.MemorySize.{memory_size}
use Rattle.text_parts.specs.declared.style.Style.TheVariants.{Intel}
use Rattle.text_parts.specs.Numbers.{number}
use Rattle.text_parts.specs.Registers.{register, segment_name, segment_override, sigil}
use Rattle.text_parts.specs.Addresses.{bracket_segment, bracketed_address}
use Rattle.text_parts.specs.PrefixWords.{text_address_size}
use Rattle.text_parts.specs.Layout.{size_name, far_name, is_far_pointer, operand_size_name, behind_size, size_word, bracket_operand}
use Rattle.intel_words.specs.declared.words.OperandText.TheVariants.{Reg, Number, Far, Mem as Address}
use Rattle.intel_words.specs.declared.words.SizeName.{SizeName}
use Rattle.intel_words.specs.declared.words.SizeName.TheVariants.{None as NoSize, Byte, Word, Dword, Qword, Tbyte, Xmmword, Ymmword, Far16, Far32, Far64}
use Rattle.intel_words.specs.Words.{size_of_bytes, size_of_far, size_word_of, inside_of, operand_of}
use Rattle.x86_values.specs.Named.{is_named}
use Rattle.intel_words.specs.Printable.{is_word_number, is_printable_address, is_printable_operand}
use Rattle.intel_words.specs.Scanning.{is_word_byte, front_while, back, first, rest, word, rest_behind}
use Rattle.intel_words.specs.ReadNumbers.{number_named}
use Rattle.intel_words.specs.ReadRegisters.{segment_of_word, segment_by}
use Rattle.intel_words.specs.ReadAddresses.{size_named, address_by, address_at, address_in, sized_in, far_by, plain_in, far_in, some_operand, operand_in}
use Rattle.intel_words.proofs.Cutting.{front-all, back-all, if-no, if-yes}
use Rattle.intel_words.proofs.NumberText.{number-read, number-bytes, number-first}
use Rattle.intel_words.proofs.RegisterText.{register-read}
use Rattle.intel_words.proofs.InBrackets.{number-word, number-behind, no-letter, inside-read}

-- ---- choices

-- a text with a first byte is not empty
not-empty : (xs : List ℕ) → 0 < first xs → operand_in xs ≡ some_operand xs
unfolding operand_in first
not-empty [] h = absurd (omega arith)
not-empty (c ∷ cs) h = refl

above-zero : (c : ℕ) → nat_le 97 c ≡ true → 0 < c
above-zero c h = grind (arith, nat_tests)

-- ---- an operand that is one word

-- nothing stands behind the word
plain-read : (xs : List ℕ) → list_all is_word_byte xs ≡ true → (first xs == 91) ≡ false → some_operand xs ≡ plain_in xs
unfolding some_operand first
plain-read xs bytes bracket =
    let none : rest_behind xs ≡ [] = back-all is_word_byte xs bytes in
    if-no (first (rest_behind xs) == 32) _ _ (ap (λ (u : List ℕ). first u == 32) none)
    ∙ (if-no (first xs == 91) _ _ bracket
    ∙ (if-no (first (rest_behind xs) == 58) _ _ (ap (λ (u : List ℕ). first u == 58) none)
    ∙ ap plain_in (front-all is_word_byte xs bytes)))

register-operand : (r : Register) → is_named r ≡ true → operand_in (register Intel r) ≡ Some (Reg r)
unfolding plain_in
register-operand r h =
    let read = register-read r h in
    not-empty (register Intel r) (above-zero (first (register Intel r)) read.letter)
    ∙ (plain-read (register Intel r) read.bytes (no-letter (first (register Intel r)) 91 read.letter (omega arith))
    ∙ (if-no (first (register Intel r) == 48) _ _ (no-letter (first (register Intel r)) 48 read.letter (omega arith)) ∙ ap (option_map Reg) read.named))

number-zero : (n : ℕ) → first (number Intel n) ≡ 48
unfolding number first
number-zero n = refl

number-operand : (n : ℕ) → n < 2 ^ 64 → operand_in (number Intel n) ≡ Some (Number n)
unfolding plain_in
number-operand n h =
    let z : first (number Intel n) ≡ 48 = number-zero n in
    let some : 0 < first (number Intel n) = omega arith in
    not-empty (number Intel n) some
    ∙ (plain-read (number Intel n) (number-bytes n) (ap (λ (c : ℕ). c == 91) z)
    ∙ (if-yes (first (number Intel n) == 48) _ _ (ap (λ (c : ℕ). c == 48) z) ∙ ap (option_map Number) (number-read n h)))

-- ---- two numbers

-- the text behind the selector
offset-text : (selector offset : ℕ) → rest_behind (number Intel selector ++ (codes ":" ++ number Intel offset)) ≡ codes ":" ++ number Intel offset
unfolding back is_word_byte
offset-text selector offset = number-behind selector (codes ":" ++ number Intel offset) refl

selector-number : (selector offset : ℕ) → selector < 2 ^ 64 →
    number_named (word (number Intel selector ++ (codes ":" ++ number Intel offset))) ≡ Some selector
unfolding front_while is_word_byte
selector-number selector offset h = number-word selector (codes ":" ++ number Intel offset) h refl

far-read : (selector offset : ℕ) → selector < 2 ^ 64 → offset < 2 ^ 64 →
    far_in (number Intel selector ++ (codes ":" ++ number Intel offset)) ≡ Some (Far selector offset)
unfolding far_in far_by rest
far-read selector offset hs ho =
    let text : List ℕ = number Intel selector ++ (codes ":" ++ number Intel offset) in
    ap (λ (a : Option ℕ). far_by a (number_named (word (rest (rest_behind text))))) (selector-number selector offset hs)
    ∙ ap (λ (b : Option ℕ). far_by (Some selector) b)
    (ap (λ (u : List ℕ). number_named (word (rest u))) (offset-text selector offset)
    ∙ (ap number_named (front-all is_word_byte (number Intel offset) (number-bytes offset)) ∙ number-read offset ho))

far-operand : (selector offset : ℕ) → selector < 2 ^ 64 → offset < 2 ^ 64 →
    operand_in (number Intel selector ++ (codes ":" ++ number Intel offset)) ≡ Some (Far selector offset)
unfolding some_operand first
far-operand selector offset hs ho =
    let text : List ℕ = number Intel selector ++ (codes ":" ++ number Intel offset) in
    let z : first text ≡ 48 = number-first selector (codes ":" ++ number Intel offset) in
    let some : 0 < first text = omega arith in
    not-empty text some
    ∙ (if-no (first (rest_behind text) == 32) _ _ (ap (λ (u : List ℕ). first u == 32) (offset-text selector offset))
    ∙ (if-no (first text == 91) _ _ (ap (λ (c : ℕ). c == 91) z)
    ∙ (if-yes (first (rest_behind text) == 58) _ _ (ap (λ (u : List ℕ). first u == 58) (offset-text selector offset))
    ∙ (if-yes (first text == 48) _ _ (ap (λ (c : ℕ). c == 48) z) ∙ far-read selector offset hs ho))))

-- ---- addresses

-- a printed memory operand is read as it was printed
pub bracket-read : (size : SizeName) (seg : Option Segment) (asize : Bits) (m : Mem) → is_printable_address asize m ≡ true →
    address_in size (bracketed_address Intel seg asize m) ≡ Some (Address (record { size = size; seg = seg; inside = inside_of asize m }))
unfolding bracketed_address bracket_segment segment_override sigil segment_name address_in address_at address_by segment_of_word segment_by first rest front_while back is_word_byte
bracket-read size None asize m h = ap (address_by size None) (inside-read asize m h)
bracket-read size (Some Es) asize m h = ap (address_by size (Some Es)) (inside-read asize m h)
bracket-read size (Some Cs) asize m h = ap (address_by size (Some Cs)) (inside-read asize m h)
bracket-read size (Some Ss) asize m h = ap (address_by size (Some Ss)) (inside-read asize m h)
bracket-read size (Some Ds) asize m h = ap (address_by size (Some Ds)) (inside-read asize m h)
bracket-read size (Some Fs) asize m h = ap (address_by size (Some Fs)) (inside-read asize m h)
bracket-read size (Some Gs) asize m h = ap (address_by size (Some Gs)) (inside-read asize m h)

-- a size word, as it is written
abbrev pub size_text : SizeName → List ℕ
size_text NoSize = []
size_text Byte = codes "byte"
size_text Word = codes "word"
size_text Dword = codes "dword"
size_text Qword = codes "qword"
size_text Tbyte = codes "tbyte"
size_text Xmmword = codes "xmmword"
size_text Ymmword = codes "ymmword"
size_text Far16 = codes "far16"
size_text Far32 = codes "far32"
size_text Far64 = codes "far64"

-- brackets without a size word
bare-read : (seg : Option Segment) (asize : Bits) (m : Mem) → operand_in (bracketed_address Intel seg asize m) ≡ address_in NoSize (bracketed_address Intel seg asize m)
unfolding bracketed_address bracket_segment segment_override sigil segment_name operand_in some_operand first rest front_while back is_word_byte
bare-read None asize m = refl
bare-read (Some Es) asize m = refl
bare-read _ asize m = refl

-- a size word in front of another text
size-read : (z : SizeName) (seg : Option Segment) (asize : Bits) (m : Mem) →
    operand_in ((size_text z ++ behind_size Intel (size_text z)) ++ bracketed_address Intel seg asize m) ≡ address_in z (bracketed_address Intel seg asize m)
unfolding behind_size operand_in some_operand size_named sized_in first rest front_while back is_word_byte
size-read NoSize seg asize m = bare-read seg asize m
size-read _ seg asize m = refl

-- which size word stands in front of an operand
pick-far : (size : Size) → far_name size ≡ size_text (size_of_far size)
unfolding far_name size_of_far
pick-far O16 = refl
pick-far O64 = refl
pick-far _ = refl

pick-size : (a b c d e f g : Bool) →
    (if a then codes "byte" else (if b then codes "word" else (if c then codes "dword" else (if d then codes "qword"
    else (if e then codes "tbyte" else (if f then codes "xmmword" else (if g then codes "ymmword" else []))))))) ≡
    size_text (if a then Byte else (if b then Word else (if c then Dword else (if d then Qword
    else (if e then Tbyte else (if f then Xmmword else (if g then Ymmword else NoSize)))))))
pick-size true b c d e f g = refl
pick-size false true c d e f g = refl
pick-size false false true d e f g = refl
pick-size false false false true e f g = refl
pick-size false false false false true f g = refl
pick-size false false false false false true g = refl
pick-size false false false false false false true = refl
pick-size false false false false false false false = refl

bytes-text : (n : ℕ) → size_name n ≡ size_text (size_of_bytes n)
unfolding size_name size_of_bytes
bytes-text n = pick-size (n == 1) (n == 2) (n == 4) (n == 8) (n == 10) (n == 16) (n == 32)

pick-either : (far : Bool) (size : Size) (n : ℕ) → (if far then far_name size else size_name n) ≡ size_text (if far then size_of_far size else size_of_bytes n)
pick-either true size n = pick-far size
pick-either false size n = bytes-text n

-- the size word of an operand is the text of its size
pub size-of-text : (row : Row) (n : ℕ) → operand_size_name row n ≡ size_text (size_word_of row n)
unfolding operand_size_name size_word_of
size-of-text row n = pick-either (is_far_pointer (kind_at row n)) row.size (memory_size row)

memory-operand : (bits : Bits) (row : Row) (instr : Instr) (n : ℕ) (m : Mem) → is_printable_address (text_address_size bits instr) m ≡ true →
    operand_in (bracket_operand Intel bits row instr n (MemOperand m)) ≡ Some (operand_of bits row instr n (MemOperand m))
unfolding bracket_operand operand_of size_word
memory-operand bits row instr n m h =
    let asize : Bits = text_address_size bits instr in
    ap (λ (t : List ℕ). operand_in ((t ++ behind_size Intel t) ++ bracketed_address Intel instr.seg asize m)) (size-of-text row n)
    ∙ (size-read (size_word_of row n) instr.seg asize m ∙ bracket-read (size_word_of row n) instr.seg asize m h)

-- ---- each operand

-- a printed operand is read as it was printed
pub operand-read : (bits : Bits) (row : Row) (instr : Instr) (n : ℕ) (op : Operand) → is_printable_operand (text_address_size bits instr) op ≡ true →
    operand_in (bracket_operand Intel bits row instr n op) ≡ Some (operand_of bits row instr n op)
unfolding bracket_operand operand_of is_printable_operand is_word_number operand_in
operand-read bits row instr n NoOperand h = refl
operand-read bits row instr n (RegOperand r) h = register-operand r h
operand-read bits row instr n (Imm x) h = number-operand x (ltb-true x (2 ^ 64) h)
operand-read bits row instr n (Near x) h = number-operand x (ltb-true x (2 ^ 64) h)
operand-read bits row instr n (FarOperand selector offset) h =
    far-operand selector offset (ltb-true selector (2 ^ 64) (and_parts (nat_lt selector (2 ^ 64)) _ h).0)
    (ltb-true offset (2 ^ 64) (and_parts (nat_lt selector (2 ^ 64)) (nat_lt offset (2 ^ 64)) h).1)
operand-read bits row instr n (MemOperand m) h = memory-operand bits row instr n m h
