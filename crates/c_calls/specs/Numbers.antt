-- Modes, styles, registers and other words as numbers, and back.
use Rattle.std.specs.Prelude.{ℕ, Bool, true, false, ◌==◌, if◌then◌else◌, Option, Some, None}
use Rattle.x86_values.specs.declared.Bits.{Bits}
use Rattle.x86_values.specs.declared.Bits.TheVariants.{B16, B32, B64}
use Rattle.x86_values.specs.Wrapping.{width}
use Rattle.x86_values.specs.declared.Segment.{Segment}
use Rattle.x86_values.specs.declared.Segment.TheVariants.{Es, Cs, Ss, Ds, Fs, Gs}
use Rattle.x86_values.specs.declared.Register.{Register}
use Rattle.x86_values.specs.declared.Register.TheVariants.{Low8, High8, R16, R32, R64, Seg, Cr, Dr, St, Mm, Xmm, Ymm, Eip, Rip}
use Rattle.x86_values.specs.declared.DispSize.{DispSize}
use Rattle.x86_values.specs.declared.DispSize.TheVariants.{D0, D8, D16, D32, D64}
use Rattle.x86_values.specs.declared.Rep.{Rep}
use Rattle.x86_values.specs.declared.Rep.TheVariants.{None as NoRep, F2, F3}
use Rattle.text_parts.specs.declared.style.Style.{Style}
use Rattle.text_parts.specs.declared.style.Style.TheVariants.{Intel, Att, Masm}

-- ---- modes and sizes: their numbers of bits

-- the mode or the size of a number: none of another number
unfoldable pub bits_numbered : ℕ → Option Bits
bits_numbered n =
    if n == 16 then Some B16
    else (if n == 32 then Some B32
    else (if n == 64 then Some B64 else None))

-- an address size that may be absent: 0 without one
abbrev pub asize_number : Option Bits → ℕ
asize_number None = 0
asize_number (Some bits) = width bits

-- and back
unfoldable pub asize_numbered : ℕ → Option (Option Bits)
asize_numbered n =
    if n == 0 then Some None
    else (if n == 16 then Some (Some B16)
    else (if n == 32 then Some (Some B32)
    else (if n == 64 then Some (Some B64) else None)))

-- the bits of a displacement
abbrev pub disp_number : DispSize → ℕ
disp_number D0 = 0
disp_number D8 = 8
disp_number D16 = 16
disp_number D32 = 32
disp_number D64 = 64

-- and back
unfoldable pub disp_numbered : ℕ → Option DispSize
disp_numbered n =
    if n == 0 then Some D0
    else (if n == 8 then Some D8
    else (if n == 16 then Some D16
    else (if n == 32 then Some D32
    else (if n == 64 then Some D64 else None))))

-- ---- styles

-- the style of a number: 0 Intel, 1 AT&T, 2 MASM
unfoldable pub style_numbered : ℕ → Option Style
style_numbered n =
    if n == 0 then Some Intel
    else (if n == 1 then Some Att
    else (if n == 2 then Some Masm else None))

-- ---- prefixes

-- LOCK or not
abbrev pub lock_number : Bool → ℕ
lock_number false = 0
lock_number true = 1

-- and back
unfoldable pub lock_numbered : ℕ → Option Bool
lock_numbered n = if n == 0 then Some false else (if n == 1 then Some true else None)

-- a repeat prefix: its byte
abbrev pub rep_number : Rep → ℕ
rep_number NoRep = 0
rep_number F2 = 0xF2
rep_number F3 = 0xF3

-- and back
unfoldable pub rep_numbered : ℕ → Option Rep
rep_numbered n =
    if n == 0 then Some NoRep
    else (if n == 0xF2 then Some F2
    else (if n == 0xF3 then Some F3 else None))

-- a segment prefix that may be absent: 0 without one, and 1 more than the encoded number (Intel SDM volume 2, table 3-1)
abbrev pub prefix_number : Option Segment → ℕ
prefix_number None = 0
prefix_number (Some Es) = 1
prefix_number (Some Cs) = 2
prefix_number (Some Ss) = 3
prefix_number (Some Ds) = 4
prefix_number (Some Fs) = 5
prefix_number (Some Gs) = 6

-- and back
unfoldable pub prefix_numbered : ℕ → Option (Option Segment)
prefix_numbered n =
    if n == 0 then Some None
    else (if n == 1 then Some (Some Es)
    else (if n == 2 then Some (Some Cs)
    else (if n == 3 then Some (Some Ss)
    else (if n == 4 then Some (Some Ds)
    else (if n == 5 then Some (Some Fs)
    else (if n == 6 then Some (Some Gs) else None))))))

-- ---- registers: a class, and a number in it; class 0 is no register

-- the class of a register, by its number
abbrev pub class_number : Register → ℕ
class_number (Low8 n) = 1
class_number (High8 n) = 2
class_number (R16 n) = 3
class_number (R32 n) = 4
class_number (R64 n) = 5
class_number (Seg s) = 6
class_number (Cr n) = 7
class_number (Dr n) = 8
class_number (St n) = 9
class_number (Mm n) = 10
class_number (Xmm n) = 11
class_number (Ymm n) = 12
class_number Eip = 13
class_number Rip = 14

-- a segment register by its encoded number
unfoldable pub segment_register : ℕ → Option Register
segment_register n =
    if n == 0 then Some (Seg Es)
    else (if n == 1 then Some (Seg Cs)
    else (if n == 2 then Some (Seg Ss)
    else (if n == 3 then Some (Seg Ds)
    else (if n == 4 then Some (Seg Fs)
    else (if n == 5 then Some (Seg Gs) else None)))))

-- the register of a class and a number; EIP and RIP are the only ones of theirs, and have 0
unfoldable pub register_numbered : ℕ → ℕ → Option Register
register_numbered class n =
    if class == 1 then Some (Low8 n)
    else (if class == 2 then Some (High8 n)
    else (if class == 3 then Some (R16 n)
    else (if class == 4 then Some (R32 n)
    else (if class == 5 then Some (R64 n)
    else (if class == 6 then segment_register n
    else (if class == 7 then Some (Cr n)
    else (if class == 8 then Some (Dr n)
    else (if class == 9 then Some (St n)
    else (if class == 10 then Some (Mm n)
    else (if class == 11 then Some (Xmm n)
    else (if class == 12 then Some (Ymm n)
    else (if class == 13 then (if n == 0 then Some Eip else None)
    else (if class == 14 then (if n == 0 then Some Rip else None)
    else None)))))))))))))

-- a register that may be absent: class 0 and number 0 without one
unfoldable pub base_numbered : ℕ → ℕ → Option (Option Register)
base_numbered class n =
    if class == 0 then (if n == 0 then Some None else None)
    else elim (register_numbered class n) [ None ↦ None | Some r ↦ Some (Some r) ]
