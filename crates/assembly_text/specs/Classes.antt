-- What a word of an operand is.
use Rattle.std.specs.Prelude.{ℕ, ◌-◌, ◌==◌, nat_le, Bool, ◌&&◌, ◌||◌, if◌then◌else◌, List, codes, bytes_eq, Option, Some, None}
use Rattle.x86_values.specs.declared.Register.{Register}
use Rattle.x86_values.specs.declared.Register.TheVariants.{St}
use Rattle.intel_words.specs.declared.words.SizeName.TheVariants.{Byte, Word, Dword, Qword, Tbyte, Xmmword, Ymmword, Far16, Far32, Far64}
use Rattle.intel_words.specs.ReadRegisters.{register_named}
use Rattle.assembly_text.specs.declared.classes.Class.{Class}
use Rattle.assembly_text.specs.declared.classes.Class.TheVariants.{Blank, Open, Close, Plus, Minus, Star, Colon, Number, Reg, Size, Skipped, Rel, Name, Other}
use Rattle.assembly_text.specs.Lines.{byte_at, is_blank, is_digit, is_name_byte}
use Rattle.assembly_text.specs.Digits.{number_of_word}

-- a sign of one byte
unfoldable pub sign_class : ℕ → Class
sign_class c =
    if is_blank c then Blank else (if c == 91 then Open else (if c == 93 then Close else (if c == 43 then Plus
    else (if c == 45 then Minus else (if c == 42 then Star else (if c == 58 then Colon else Other))))))

-- a number, if the word is one
unfoldable pub number_class : Option ℕ → Class
number_class (Some n) = Number n
number_class None = Other

-- a word without meaning: the shortest branch is taken anyway
unfoldable pub is_skipped : List ℕ → Bool
is_skipped word = bytes_eq word (codes "ptr") || (bytes_eq word (codes "short") || bytes_eq word (codes "near"))

-- a size of a vector or a far pointer, or another word
unfoldable pub long_size_class : List ℕ → Class
long_size_class word =
    if bytes_eq word (codes "xmmword") || bytes_eq word (codes "oword") then Size Xmmword
    else (if bytes_eq word (codes "ymmword") || bytes_eq word (codes "yword") then Size Ymmword
    else (if bytes_eq word (codes "far16") then Size Far16 else (if bytes_eq word (codes "far32") then Size Far32
    else (if bytes_eq word (codes "far64") then Size Far64 else Name))))

-- a size, or another word
unfoldable pub size_class : List ℕ → Class
size_class word =
    if bytes_eq word (codes "byte") then Size Byte else (if bytes_eq word (codes "word") then Size Word
    else (if bytes_eq word (codes "dword") then Size Dword else (if bytes_eq word (codes "qword") then Size Qword
    else (if bytes_eq word (codes "tbyte") || bytes_eq word (codes "tword") then Size Tbyte else long_size_class word))))

-- a word of letters that is no register
unfoldable pub letters_class : List ℕ → Class
letters_class word = if is_skipped word then Skipped else (if bytes_eq word (codes "rel") then Rel else size_class word)

-- a register, if the word is one
unfoldable pub register_class : Option Register → List ℕ → Class
register_class (Some r) word = Reg r
register_class None word = letters_class word

-- a register of the stack with this digit, from 0 to 7
unfoldable pub stack_class : ℕ → Class
stack_class c = if nat_le 48 c && nat_le c 55 then Reg (St (c - 48)) else Other

-- a register, as `rax` and `st(1)`, or another word of letters
unfoldable pub word_class : List ℕ → Class
word_class word = if byte_at word 2 == 40 then stack_class (byte_at word 3) else register_class (register_named word) word

-- what a word is
unfoldable pub class_of : List ℕ → Class
class_of word =
    if is_digit (byte_at word 0) then number_class (number_of_word word)
    else (if is_name_byte (byte_at word 0) then word_class word else sign_class (byte_at word 0))
