-- The numbers and sizes of registers (Intel SDM volume 1, 3.4; volume 2, 2.1.5 and 3.1.1.1).
use Rattle.std.specs.Prelude.{ℕ}
use Rattle.x86_values.specs.declared.Segment.{Segment}
use Rattle.x86_values.specs.declared.Segment.TheVariants.{Es, Cs, Ss, Ds, Fs, Gs}
use Rattle.x86_values.specs.declared.Register.{Register}
use Rattle.x86_values.specs.declared.Register.TheVariants.{Low8, High8, R16, R32, R64, Seg, Cr, Dr, St, Mm, Xmm, Ymm, Eip, Rip}

-- the encoded number of a segment register (volume 2, table 3-1)
abbrev pub segment_number : Segment → ℕ
segment_number Es = 0
segment_number Cs = 1
segment_number Ss = 2
segment_number Ds = 3
segment_number Fs = 4
segment_number Gs = 5

-- the number of a register in its class
abbrev pub number : Register → ℕ
number (Low8 n) = n
number (High8 n) = n
number (R16 n) = n
number (R32 n) = n
number (R64 n) = n
number (Seg s) = segment_number s
number (Cr n) = n
number (Dr n) = n
number (St n) = n
number (Mm n) = n
number (Xmm n) = n
number (Ymm n) = n
number Eip = 0
number Rip = 0

-- the bytes that a register holds; of a control or debug register in 64-bit mode, of a segment register the selector
abbrev pub size : Register → ℕ
size (Low8 _) = 1
size (High8 _) = 1
size (R16 _) = 2
size (R32 _) = 4
size (R64 _) = 8
size (Seg _) = 2
size (Cr _) = 8
size (Dr _) = 8
size (St _) = 10
size (Mm _) = 8
size (Xmm _) = 16
size (Ymm _) = 32
size Eip = 4
size Rip = 8
