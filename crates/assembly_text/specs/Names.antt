-- The names of instructions: which the printer writes for one that the manual has besides.
use Rattle.std.specs.Prelude.{ℕ, ◌==◌, Bool, ◌&&◌, ◌||◌, nat_lt, if◌then◌else◌, List, [], ◌∷◌, ◌++◌, length, take, drop, codes, bytes_eq}
use Rattle.intel_reader.specs.Mnemonics.{is_mnemonic}
use Rattle.assembly_text.specs.Lines.{byte_at, unindented, name_len}

-- ---- conditions

-- the condition of another name for it, of those about carry and zero
unfoldable pub carry_condition : List ℕ → List ℕ
carry_condition word =
    if bytes_eq word (codes "z") then codes "e" else (if bytes_eq word (codes "nz") then codes "ne" else (if bytes_eq word (codes "c") then codes "b" else (
    if bytes_eq word (codes "nae") then codes "b" else (if bytes_eq word (codes "nc") then codes "ae" else (if bytes_eq word (codes "nb") then codes "ae" else (
    if bytes_eq word (codes "na") then codes "be" else word))))))

-- the condition of another name for it
unfoldable pub condition : List ℕ → List ℕ
condition word =
    if bytes_eq word (codes "nbe") then codes "a" else (if bytes_eq word (codes "pe") then codes "p" else (if bytes_eq word (codes "po") then codes "np" else (
    if bytes_eq word (codes "nge") then codes "l" else (if bytes_eq word (codes "nl") then codes "ge" else (if bytes_eq word (codes "ng") then codes "le" else (
    if bytes_eq word (codes "nle") then codes "g" else carry_condition word))))))

-- the word begins with j
abbrev pub is_jump : List ℕ → Bool
is_jump word = byte_at word 0 == 106

-- the word begins with set
unfoldable pub is_set : List ℕ → Bool
is_set word = bytes_eq (take 3 word) (codes "set")

-- the word begins with cmov
unfoldable pub is_move : List ℕ → Bool
is_move word = bytes_eq (take 4 word) (codes "cmov")

-- how many bytes stand before the condition of a name
unfoldable pub before_condition : List ℕ → ℕ
before_condition word = if is_jump word then 1 else (if is_set word then 3 else (if is_move word then 4 else length word))

-- ---- other names

-- the name of another name for it, of those that are not of the manual
unfoldable pub other_name : List ℕ → List ℕ
other_name word =
    if bytes_eq word (codes "loopz") then codes "loope" else (if bytes_eq word (codes "loopnz") then codes "loopne" else (if bytes_eq word (codes "icebp") then codes "int1" else (
    if bytes_eq word (codes "movabs") then codes "mov" else (if bytes_eq word (codes "ud2a") then codes "ud2" else (if bytes_eq word (codes "ud2b") then codes "ud1" else word)))))

-- the name of another name for it
unfoldable pub plain_name : List ℕ → List ℕ
plain_name word =
    if bytes_eq word (codes "sal") then codes "shl" else (if bytes_eq word (codes "fwait") then codes "wait" else (if bytes_eq word (codes "xlatb") then codes "xlat" else (
    if bytes_eq word (codes "retn") then codes "ret" else (if bytes_eq word (codes "lcall") then codes "callf" else (if bytes_eq word (codes "ljmp") then codes "jmpf" else (
    if bytes_eq word (codes "lret") then codes "retf" else other_name word))))))

-- the part of a name before its condition, or the name
abbrev pub stem : List ℕ → List ℕ
stem word = plain_name (take (before_condition word) word)

-- its condition, if it has one
abbrev pub ending : List ℕ → List ℕ
ending word = condition (drop (before_condition word) word)

-- ---- prefix words

-- the word of a prefix of segment or size
unfoldable pub is_plain_prefix : List ℕ → Bool
is_plain_prefix word =
    bytes_eq word (codes "lock") || (bytes_eq word (codes "rep") || (bytes_eq word (codes "repne") || (bytes_eq word (codes "o16")
    || (bytes_eq word (codes "o32") || (bytes_eq word (codes "o64") || (bytes_eq word (codes "a16") || (bytes_eq word (codes "a32")
    || bytes_eq word (codes "a64"))))))))

-- the word of a segment
unfoldable pub is_segment : List ℕ → Bool
is_segment word = length word == 2 && (byte_at word 1 == 115 && (byte_at word 0 == 99 || (byte_at word 0 == 100 || (byte_at word 0 == 101
    || (byte_at word 0 == 102 || (byte_at word 0 == 103 || byte_at word 0 == 115))))))

-- the prefix of a word, nothing of another
unfoldable pub prefix_of : List ℕ → List ℕ
prefix_of word =
    if bytes_eq word (codes "repe") || bytes_eq word (codes "repz") then codes "rep"
    else (if bytes_eq word (codes "repnz") then codes "repne" else (if is_plain_prefix word || is_segment word then word else []))

-- ---- the front of a text

-- the first word
abbrev pub first_word : List ℕ → List ℕ
first_word text = take (name_len text) text

-- what stands behind it
abbrev pub behind_word : List ℕ → List ℕ
behind_word text = unindented (drop (name_len text) text)

-- the prefix in front, with a space
unfoldable pub with_space : List ℕ → List ℕ
with_space [] = []
with_space (c ∷ cs) = (c ∷ cs) ++ codes " "

-- what stands behind a prefix, or the text
unfoldable pub unless_prefix : List ℕ → List ℕ → List ℕ
unless_prefix [] text = text
unless_prefix (c ∷ cs) text = behind_word text

-- what stands behind the prefix in front, if there is one
abbrev pub behind_prefix : List ℕ → List ℕ
behind_prefix text = unless_prefix (prefix_of (first_word text)) text

-- what stands behind three prefixes: the name and the operands
abbrev pub named_text : List ℕ → List ℕ
named_text text = behind_prefix (behind_prefix (behind_prefix text))

-- the prefix words and the name as the printer writes them
abbrev pub head_text : List ℕ → List ℕ
head_text text =
    with_space (prefix_of (first_word text)) ++ (with_space (prefix_of (first_word (behind_prefix text)))
    ++ (with_space (prefix_of (first_word (behind_prefix (behind_prefix text)))) ++ (stem (first_word (named_text text)) ++ ending (first_word (named_text text)))))

-- ---- mnemonics

-- a word in lower case is a prefix, or one of the names of an instruction
unfoldable pub is_instruction_name : List ℕ → Bool
is_instruction_name word = nat_lt 0 (length (prefix_of word)) || is_mnemonic (stem word ++ ending word)
