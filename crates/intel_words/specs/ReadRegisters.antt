-- Reading the names of registers (Intel SDM volume 1, 3.4.1; volume 2, table 3-1).
use Rattle.std.specs.Prelude.{ℕ, ◌&&◌, ◌==◌, nat_le, nat_lt, if◌then◌else◌, List, [], ◌∷◌, Option, Some, None, option_map}
use Rattle.x86_values.specs.declared.Segment.{Segment}
use Rattle.x86_values.specs.declared.Segment.TheVariants.{Es, Cs, Ss, Ds, Fs, Gs}
use Rattle.x86_values.specs.declared.Register.{Register}
use Rattle.x86_values.specs.declared.Register.TheVariants.{Low8, High8, R16, R32, R64, Seg, Cr, Dr, St, Mm, Xmm, Ymm, Eip, Rip}
use Rattle.intel_words.specs.Scanning.{first, rest}
use Rattle.intel_words.specs.ReadNumbers.{decimal_in}

-- the segment of which this is the first letter
unfoldable pub segment_by : ℕ → Option Segment
segment_by a =
    if a == 101 then Some Es else (if a == 99 then Some Cs else (if a == 115 then Some Ss else (if a == 100 then Some Ds
    else (if a == 102 then Some Fs else (if a == 103 then Some Gs else None)))))

-- the segment of this name
unfoldable pub segment_of_word : List ℕ → Option Segment
segment_of_word [] = None
segment_of_word (a ∷ []) = None
segment_of_word (a ∷ b ∷ []) = if b == 115 then segment_by a else None
segment_of_word (a ∷ b ∷ c ∷ more) = None

-- a, c, d or b: one of the first four registers
unfoldable pub letter_number : ℕ → Option ℕ
letter_number a = if a == 97 then Some 0 else (if a == 99 then Some 1 else (if a == 100 then Some 2 else (if a == 98 then Some 3 else None)))

-- ax, cx, dx, bx, sp, bp, si or di
unfoldable pub word_number : ℕ → ℕ → Option ℕ
word_number a b =
    if b == 120 then letter_number a
    else (if b == 112 then (if a == 115 then Some 4 else (if a == 98 then Some 5 else None))
    else (if b == 105 then (if a == 115 then Some 6 else (if a == 100 then Some 7 else None)) else None))

-- of eight registers
unfoldable pub below_8 : Option ℕ → Option ℕ
below_8 None = None
below_8 (Some n) = if nat_lt n 8 then Some n else None

-- spl, bpl, sil and dil have names made of sp, bp, si and di
unfoldable pub pointer_byte : Option ℕ → Option Register
pointer_byte None = None
pointer_byte (Some n) = if nat_le 4 n then Some (Low8 n) else None

-- a name of two letters
unfoldable pub two_letters : ℕ → ℕ → Option Register
two_letters a b =
    if b == 108 then option_map Low8 (letter_number a)
    else (if b == 104 then option_map High8 (letter_number a)
    else (if b == 115 then option_map Seg (segment_by a) else option_map R16 (word_number a b)))

-- a name of letters alone without the e or r of a larger register
unfoldable pub register_of_letters : ℕ → List ℕ → Option Register
register_of_letters a [] = None
register_of_letters a (b ∷ []) = two_letters a b
register_of_letters a (b ∷ c ∷ []) = if c == 108 then pointer_byte (word_number a b) else None
register_of_letters a (b ∷ c ∷ d ∷ more) = None

-- a name that begins with e
unfoldable pub e_named : List ℕ → Option Register
e_named [] = None
e_named (a ∷ []) = if a == 115 then Some (Seg Es) else None
e_named (a ∷ b ∷ []) = if a == 105 && b == 112 then Some Eip else option_map R32 (word_number a b)
e_named (a ∷ b ∷ c ∷ more) = None

-- r8 to r15 have no other numbers
unfoldable pub from_8 : Option ℕ → Option ℕ
from_8 None = None
from_8 (Some n) = if nat_le 8 n then Some n else None

-- r8 to r15 with the letter of their size
unfoldable pub sized_by : ℕ → Option ℕ → Option Register
sized_by letter n = if letter == 98 then option_map Low8 n else (if letter == 119 then option_map R16 n else (if letter == 100 then option_map R32 n else None))

-- a name that begins with r
unfoldable pub r_named : List ℕ → Option Register
r_named [] = None
r_named (a ∷ []) = option_map R64 (from_8 (decimal_in (a ∷ [])))
r_named (a ∷ b ∷ []) =
    if nat_le 97 a then (if a == 105 && b == 112 then Some Rip else option_map R64 (word_number a b))
    else (if nat_le 97 b then sized_by b (from_8 (decimal_in (a ∷ []))) else option_map R64 (from_8 (decimal_in (a ∷ b ∷ []))))
r_named (a ∷ b ∷ c ∷ []) = sized_by c (from_8 (decimal_in (a ∷ b ∷ [])))
r_named (a ∷ b ∷ c ∷ d ∷ more) = None

-- mm and a number behind x or y
unfoldable pub vector_number : List ℕ → Option ℕ
vector_number text = if first text == 109 && first (rest text) == 109 then decimal_in (rest (rest text)) else None

-- the register whose name begins with this letter
unfoldable pub register_from : ℕ → List ℕ → Option Register
register_from a more =
    if a == 114 then r_named more
    else (if a == 101 then e_named more
    else (if a == 120 then option_map Xmm (vector_number more)
    else (if a == 121 then option_map Ymm (vector_number more)
    else (if a == 109 && first more == 109 then option_map Mm (below_8 (decimal_in (rest more)))
    else (if a == 115 && first more == 116 then option_map St (below_8 (decimal_in (rest more)))
    else (if a == 99 && first more == 114 then option_map Cr (decimal_in (rest more))
    else (if a == 100 && first more == 114 then option_map Dr (below_8 (decimal_in (rest more)))
    else register_of_letters a more)))))))

-- the register of this name
unfoldable pub register_named : List ℕ → Option Register
register_named [] = None
register_named (a ∷ more) = register_from a more
