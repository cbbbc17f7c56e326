-- The names of registers (Intel SDM volume 1, 3.4.1; volume 2, table 3-1).
use Rattle.std.specs.Prelude.{ℕ, ◌==◌, nat_lt, if◌then◌else◌, List, [], ◌++◌, Option, Some, None, codes}
use Rattle.x86_values.specs.declared.Segment.{Segment}
use Rattle.x86_values.specs.declared.Segment.TheVariants.{Es, Cs, Ss, Ds, Fs, Gs}
use Rattle.x86_values.specs.declared.Register.{Register}
use Rattle.x86_values.specs.declared.Register.TheVariants.{Low8, High8, R16, R32, R64, Seg, Cr, Dr, St, Mm, Xmm, Ymm, Eip, Rip}
use Rattle.text_parts.specs.declared.style.Style.{Style}
use Rattle.text_parts.specs.declared.style.Style.TheVariants.{Intel, Att}
use Rattle.text_parts.specs.Numbers.{decimal}

-- the first eight general registers of 16 bits
unfoldable pub word_name : ℕ → List ℕ
word_name n =
    if n == 0 then codes "ax" else (if n == 1 then codes "cx" else (if n == 2 then codes "dx" else (if n == 3 then codes "bx"
    else (if n == 4 then codes "sp" else (if n == 5 then codes "bp" else (if n == 6 then codes "si" else codes "di"))))))

-- the first eight byte registers under REX
unfoldable pub low_byte_name : ℕ → List ℕ
low_byte_name n =
    if n == 0 then codes "al" else (if n == 1 then codes "cl" else (if n == 2 then codes "dl" else (if n == 3 then codes "bl"
    else (if n == 4 then codes "spl" else (if n == 5 then codes "bpl" else (if n == 6 then codes "sil" else codes "dil"))))))

-- the high bytes of the first four registers
unfoldable pub high_byte_name : ℕ → List ℕ
high_byte_name n =
    if n == 0 then codes "ah" else (if n == 1 then codes "ch" else (if n == 2 then codes "dh" else codes "bh"))

-- the name of a segment register
unfoldable pub segment_name : Segment → List ℕ
segment_name Es = codes "es"
segment_name Cs = codes "cs"
segment_name Ss = codes "ss"
segment_name Ds = codes "ds"
segment_name Fs = codes "fs"
segment_name Gs = codes "gs"

-- a name made of a number
abbrev pub name_with_number : List ℕ → ℕ → List ℕ → List ℕ
name_with_number front n back = front ++ (decimal n ++ back)

-- a general register: one of the first eight by its name, the others as r8 to r15 with the letter of their size
abbrev pub general_name : List ℕ → ℕ → List ℕ → List ℕ
general_name front n letter =
    if nat_lt n 8 then front ++ word_name n else name_with_number (codes "r") n letter

-- a byte register other than AH, CH, DH and BH
abbrev pub low_byte : ℕ → List ℕ
low_byte n = if nat_lt n 8 then low_byte_name n else name_with_number (codes "r") n (codes "b")

-- a stack register: st0 in the Intel style, else st(0)
unfoldable pub stack_name : Style → ℕ → List ℕ
stack_name Intel n = name_with_number (codes "st") n []
stack_name _ n = name_with_number (codes "st(") n (codes ")")

-- the name of a register, without the sign of a style in front
unfoldable pub register_name : Style → Register → List ℕ
register_name style (Low8 n) = low_byte n
register_name style (High8 n) = high_byte_name n
register_name style (R16 n) = general_name [] n (codes "w")
register_name style (R32 n) = general_name (codes "e") n (codes "d")
register_name style (R64 n) = general_name (codes "r") n []
register_name style (Seg s) = segment_name s
register_name style (Cr n) = name_with_number (codes "cr") n []
register_name style (Dr n) = name_with_number (codes "dr") n []
register_name style (St n) = stack_name style n
register_name style (Mm n) = name_with_number (codes "mm") n []
register_name style (Xmm n) = name_with_number (codes "xmm") n []
register_name style (Ymm n) = name_with_number (codes "ymm") n []
register_name style Eip = codes "eip"
register_name style Rip = codes "rip"

-- what stands in front of a register's name: % in AT&T
unfoldable pub sigil : Style → List ℕ
sigil Att = codes "%"
sigil _ = []

-- a register
unfoldable pub register : Style → Register → List ℕ
register style r = sigil style ++ register_name style r

-- a segment override in front of an address: fs:
unfoldable pub segment_override : Style → Option Segment → List ℕ
segment_override style None = []
segment_override style (Some s) = sigil style ++ (segment_name s ++ codes ":")
