-- Tests for equal registers and sizes.
use Rattle.std.specs.Prelude.{Bool, true, false, ◌==◌}
use Rattle.x86_values.specs.declared.Bits.{Bits}
use Rattle.x86_values.specs.declared.Bits.TheVariants.{B16, B32, B64}
use Rattle.x86_values.specs.declared.Segment.{Segment}
use Rattle.x86_values.specs.declared.Segment.TheVariants.{Es, Cs, Ss, Ds, Fs, Gs}
use Rattle.x86_values.specs.declared.Register.{Register}
use Rattle.x86_values.specs.declared.Register.TheVariants.{Low8, High8, R16, R32, R64, Seg, Cr, Dr, St, Mm, Xmm, Ymm, Eip, Rip}

-- two sizes are one
abbrev pub same_bits : Bits → Bits → Bool
same_bits B16 B16 = true
same_bits B32 B32 = true
same_bits B64 B64 = true
same_bits _ _ = false

-- two segment registers are one
abbrev pub same_segment : Segment → Segment → Bool
same_segment Es Es = true
same_segment Cs Cs = true
same_segment Ss Ss = true
same_segment Ds Ds = true
same_segment Fs Fs = true
same_segment Gs Gs = true
same_segment _ _ = false

-- two registers are one
unfoldable pub same_register : Register → Register → Bool
same_register (Low8 m) (Low8 n) = m == n
same_register (High8 m) (High8 n) = m == n
same_register (R16 m) (R16 n) = m == n
same_register (R32 m) (R32 n) = m == n
same_register (R64 m) (R64 n) = m == n
same_register (Seg s) (Seg t) = same_segment s t
same_register (Cr m) (Cr n) = m == n
same_register (Dr m) (Dr n) = m == n
same_register (St m) (St n) = m == n
same_register (Mm m) (Mm n) = m == n
same_register (Xmm m) (Xmm n) = m == n
same_register (Ymm m) (Ymm n) = m == n
same_register Eip Eip = true
same_register Rip Rip = true
same_register _ _ = false
