-- What stands behind an opcode byte, by the formats alone (Intel SDM volume 2, 2.3, 2.7 and appendix A; AMD64 manual volume 3, chapter 1 and appendix A).
use Rattle.std.specs.Prelude.{ℕ, ◌/◌, ◌%◌, Bool, true, false, ◌&&◌, ◌||◌, not, ◌==◌, nat_le, if◌then◌else◌, List, Option, Some, None}
use Rattle.x86_values.specs.declared.Bits.{Bits}
use Rattle.instruction_parts.specs.Counting.{is_16, is_64, has_66, counting_repeat, counting_rex, rex_bit, bit_of}
use Rattle.instruction_parts.specs.Front.{top_two_set}
use Rattle.row_fit.specs.Fits.{is_no_repeat, is_repeat_f3, is_repeat_f2}
use Rattle.x86_values.specs.declared.Rep.{Rep}
use Rattle.unlisted.specs.declared.Kind.{Kind}
use Rattle.unlisted.specs.declared.Kind.TheVariants as kinds
use Rattle.unlisted.specs.declared.ShapeFlow.{ShapeFlow}
use Rattle.unlisted.specs.declared.ShapeFlow.TheVariants as flows
use Rattle.unlisted.specs.declared.formats.ModRmBytes.{ModRmBytes}
use Rattle.unlisted.specs.declared.formats.ModRmBytes.TheVariants.{No, Any, Reg, Between, X87NoOps}
use Rattle.unlisted.specs.declared.formats.TailFlow.{TailFlow}
use Rattle.unlisted.specs.declared.formats.TailFlow.TheVariants.{Always, ShortBranch, NearBranch, System}
use Rattle.unlisted.specs.declared.formats.Tail.{Tail}
use Rattle.unlisted.specs.declared.formats.Lead.{Lead}
use Rattle.unlisted.specs.declared.formats.Lead.TheVariants as leads

-- from the least number to the most
unfoldable pub within : ℕ → ℕ → ℕ → Bool
within least most b = nat_le least b && nat_le b most

-- the bytes of a word or doubleword of the operand size: REX.W outranks 66, and 66 gives the other of 16 and 32 (2.2.1.2)
unfoldable pub word_bytes : Bits → List ℕ → ℕ
word_bytes bits prefixes =
    if rex_bit 3 (counting_rex bits prefixes) then 4
    else (if has_66 prefixes then (if is_16 bits then 4 else 2) else (if is_16 bits then 2 else 4))

-- ---- ModRM

-- the ModRM byte belongs to the format; reg is in bits 3 to 5 (2.1.3)
unfoldable pub allows : ModRmBytes → ℕ → Bool
allows No b = false
allows Any b = true
allows (Reg reg) b = b / 8 % 8 == reg
allows (Between least most) b = within least most b
allows X87NoOps b = within 0xE0 0xE1 b || within 0xE4 0xE5 b

-- the format has a ModRM byte
unfoldable pub has_modrm : ModRmBytes → Bool
has_modrm No = false
has_modrm _ = true

-- ---- the one-byte map

-- these ModRM bytes, and so many bytes of immediates; control goes to the next instruction
abbrev pub tail_of : Kind → ModRmBytes → ℕ → Tail
tail_of kind modrm immediates = record { kind = kind; modrm = modrm; flow = Always flows.Next; immediates = immediates }

-- of a legacy instruction
abbrev pub legacy : ModRmBytes → ℕ → Tail
legacy modrm immediates = tail_of kinds.Legacy modrm immediates

-- of a legacy instruction with another flow
abbrev pub flowing : TailFlow → ModRmBytes → ℕ → Tail
flowing flow modrm immediates = record { kind = kinds.Legacy; modrm = modrm; flow = flow; immediates = immediates }

-- the x87 instructions that have a second encoding, FFREEP, and those of the 8087 to the 80287 that do nothing today: FNENI, FNDISI, FNSETPM, FRSTPM
-- (A.5; AMD64 manual volume 3, A.1.4; volume 1, 8.3.12)
unfoldable pub x87_tail : ℕ → Option Tail
x87_tail b =
    if b == 0xD9 then Some (legacy (Between 0xD8 0xDF) 0)
    else (if b == 0xDB then Some (legacy X87NoOps 0)
    else (if b == 0xDC then Some (legacy (Between 0xD0 0xDF) 0)
    else (if b == 0xDD then Some (legacy (Between 0xC8 0xCF) 0)
    else (if b == 0xDE then Some (legacy (Between 0xD0 0xD7) 0)
    else (if b == 0xDF then Some (legacy (Between 0xC0 0xDF) 0) else None)))))

-- XABORT with a byte, which in a transaction goes to where an aborted one continues; XBEGIN, which names that; and SALC outside 64-bit mode (A.4,
-- XABORT, XBEGIN)
unfoldable pub single_tail : Bits → ℕ → Option Tail
single_tail bits b =
    if b == 0xC6 then Some (flowing (Always flows.Elsewhere) (Between 0xF8 0xF8) 1)
    else (if b == 0xC7 then Some (flowing NearBranch (Between 0xF8 0xF8) 0)
    else (if b == 0xD6 && not (is_64 bits) then Some (legacy No 0) else x87_tail b))

-- the shifts by /6, which are SAL, and TEST by /1, with their immediates (A.4, AMD64 manual volume 3, SAL and TEST)
unfoldable pub one_byte_tail : Bits → List ℕ → ℕ → Option Tail
one_byte_tail bits prefixes b =
    if within 0xD0 0xD3 b then Some (legacy (Reg 6) 0)
    else (if within 0xC0 0xC1 b then Some (legacy (Reg 6) 1)
    else (if b == 0xF6 then Some (legacy (Reg 1) 1)
    else (if b == 0xF7 then Some (legacy (Reg 1) (word_bytes bits prefixes)) else single_tail bits b)))

-- ---- map 0F

-- a ModRM byte and nothing else, and control goes on: the groups 0D, 18 to 1F, AE and C7, and 79, B7 and BF (A.3, A.4)
unfoldable pub is_group : ℕ → Bool
is_group b = b == 0x0D || within 0x18 0x1F b || b == 0x79 || b == 0xAE || b == 0xB7 || b == 0xBF || b == 0xC7

-- nothing, and control goes on: BSWAP, and WBNOINVD, which is 09 with F3 (A.3, WBNOINVD)
unfoldable pub is_bare : List ℕ → ℕ → Bool
is_bare prefixes b = within 0xC8 0xCF b || (b == 0x09 && is_repeat_f3 (counting_repeat prefixes))

-- control goes elsewhere, or on: the group 01, by its ModRM byte; UD0 raises #UD (UD); RSM returns from system management (RSM); GETSEC enters and leaves
-- an authenticated code module (volume 2, 7.2.1: ENTERACCS, EXITAC, SENTER)
unfoldable pub control_tail : ℕ → Option Tail
control_tail b =
    if b == 0x01 then Some (flowing System Any 0)
    else (if b == 0xFF then Some (flowing (Always flows.Exception) Any 0)
    else (if b == 0xAA then Some (flowing (Always flows.Return) No 0)
    else (if b == 0x37 then Some (flowing (Always flows.Elsewhere) No 0) else None)))

-- EXTRQ and INSERTQ, with 66 and F2, have two bytes, VMREAD has none (A.3; AMD64 manual volume 4, EXTRQ and INSERTQ)
unfoldable pub extract_immediates : List ℕ → ℕ
extract_immediates prefixes = if has_66 prefixes || is_repeat_f2 (counting_repeat prefixes) then 2 else 0

-- the opcode bytes behind 0F; FEMMS is 0E, and a 3DNow! instruction is 0F with a suffix byte; MOVNTSS and MOVNTSD are 2B with F3 and F2 (A.3; AMD64
-- manual volume 3, A.1.2)
unfoldable pub two_byte_tail : List ℕ → ℕ → Option Tail
two_byte_tail prefixes b =
    if is_group b then Some (legacy Any 0)
    else (if is_bare prefixes b then Some (legacy No 0)
    else (if b == 0x0E then Some (tail_of kinds.Now3d No 0)
    else (if b == 0x0F then Some (tail_of kinds.Now3d Any 1)
    else (if b == 0x78 then Some (legacy Any (extract_immediates prefixes))
    else (if b == 0x2B && not (is_no_repeat (counting_repeat prefixes)) then Some (legacy Any 0) else control_tail b)))))

-- ---- EVEX, VEX and XOP

-- 62, C5, C4 and 8F lead an encoding with more bytes in front of its opcode byte (2.3, 2.7)
unfoldable pub lead_of : ℕ → Option Lead
lead_of b =
    if b == 0x62 then Some leads.Evex
    else (if b == 0xC5 then Some leads.Vex2
    else (if b == 0xC4 then Some leads.Vex3
    else (if b == 0x8F then Some leads.Xop else None)))

-- the number of the map in the byte behind the lead: mmm of EVEX, mmmmm of VEX and XOP, and 0F of a VEX of two bytes (2.3.6.1, 2.7.1)
unfoldable pub map_of : Lead → ℕ → ℕ
map_of leads.Evex p = p % 8
map_of leads.Vex2 p = 1
map_of leads.Vex3 p = p % 32
map_of leads.Xop p = p % 32

-- the byte behind the lead stands in an encoding with a map that is there; outside 64-bit mode the top two bits of EVEX and VEX are 11, and bit 3 of
-- EVEX is 0 (2.3.5, 2.7.1); map 0 of VEX has the short JKZD and JKNZD alone
unfoldable pub stands : Bits → Lead → ℕ → Bool
stands bits leads.Evex p =
    (is_64 bits || top_two_set p) && (not (bit_of 3 p) && (within 1 3 (p % 8) || within 5 6 (p % 8)))
stands bits leads.Vex2 p = is_64 bits || top_two_set p
stands bits leads.Vex3 p = (is_64 bits || top_two_set p) && within 0 3 (p % 32)
stands bits leads.Xop p = within 8 10 (p % 32)

-- 70 to 73, C2 and C4 to C6 of map 0F have an immediate byte (A.3)
unfoldable pub has_immediate : ℕ → Bool
has_immediate opcode = within 0x70 0x73 opcode || opcode == 0xC2 || within 0xC4 0xC6 opcode

-- each opcode of map 0F3A has an immediate byte too, and no other (A.3)
unfoldable pub vector_immediates : ℕ → ℕ → ℕ
vector_immediates map opcode = if map == 3 || (map == 1 && has_immediate opcode) then 1 else 0

-- the mask registers: 41 to 4B, 90 to 93, 98 and 99 of map 0F, and 30 to 33 of map 0F3A (the pages of KADD to KXOR)
unfoldable pub is_mask : ℕ → ℕ → Bool
is_mask map opcode =
    if map == 1 then within 0x41 0x4B opcode || within 0x90 0x93 opcode || within 0x98 0x99 opcode
    else (map == 3 && within 0x30 0x33 opcode)

-- JKZD and JKNZD of an accelerator, which branch by a mask register: 84 and 85 of map 0F with a near distance, 74 and 75 of map 0 with a short one (Intel
-- Xeon Phi coprocessor instruction set reference, JKZD and JKNZD)
unfoldable pub mask_branch : ℕ → ℕ → Option TailFlow
mask_branch map opcode =
    if map == 1 && within 0x84 0x85 opcode then Some NearBranch
    else (if map == 0 && within 0x74 0x75 opcode then Some ShortBranch else None)

-- behind a VEX that is no such branch; 77 of map 0F, VZEROUPPER and VZEROALL, has no ModRM byte (2.3.9)
unfoldable pub vex_map_tail : ℕ → ℕ → Tail
vex_map_tail map opcode =
    if map == 1 && opcode == 0x77 then tail_of kinds.Vex No 0
    else tail_of (if is_mask map opcode then kinds.Mask else kinds.Vex) Any (vector_immediates map opcode)

-- behind a VEX, by whether it is such a branch; map 0 has nothing else
abbrev pub vex_tail_by : Option TailFlow → ℕ → ℕ → Option Tail
vex_tail_by (Some flow) map opcode = Some (record { kind = kinds.Vex; modrm = No; flow = flow; immediates = 0 })
vex_tail_by None map opcode = if map == 0 then None else Some (vex_map_tail map opcode)

-- behind a VEX
unfoldable pub vex_tail : ℕ → ℕ → Option Tail
vex_tail map opcode = vex_tail_by (mask_branch map opcode) map opcode

-- XOP: a byte in map 8, none in map 9 and four in map A (AMD64 manual volume 3, chapter 1)
unfoldable pub xop_immediates : ℕ → ℕ
xop_immediates map = if map == 8 then 1 else (if map == 9 then 0 else 4)

-- behind an EVEX, a VEX or an XOP
unfoldable pub vector_tail : Lead → ℕ → ℕ → Option Tail
vector_tail leads.Evex map opcode = Some (tail_of kinds.Evex Any (vector_immediates map opcode))
vector_tail leads.Vex2 map opcode = vex_tail map opcode
vector_tail leads.Vex3 map opcode = vex_tail map opcode
vector_tail leads.Xop map opcode = Some (tail_of kinds.Xop Any (xop_immediates map))

-- ---- control

-- behind 0F 01: UIRET is EC with F3, ERETS and ERETU are CA with F2 and F3 (UIRET, ERETS, ERETU)
unfoldable pub is_system_return : Rep → ℕ → Bool
is_system_return rep b = (b == 0xCA && not (is_no_repeat rep)) || (b == 0xEC && is_repeat_f3 rep)

-- behind 0F 01: VMLAUNCH is C2 and VMRESUME C3 (volume 3, VMLAUNCH/VMRESUME), ENCLU is D7 (ENCLU: EENTER, EEXIT, ERESUME), SEAMRET is CD with 66 (Intel
-- Trust Domain CPU architectural extensions), VMRUN is D8 and SKINIT DE (AMD64 manual volume 3, VMRUN and SKINIT)
unfoldable pub is_system_leap : List ℕ → ℕ → Bool
is_system_leap prefixes b = within 0xC2 0xC3 b || within 0xD7 0xD8 b || b == 0xDE || (b == 0xCD && has_66 prefixes)

-- the flow behind 0F 01, by the ModRM byte
unfoldable pub system_flow : List ℕ → ℕ → ShapeFlow
system_flow prefixes b =
    if is_system_return (counting_repeat prefixes) b then flows.Return
    else (if is_system_leap prefixes b then flows.Elsewhere else flows.Next)

-- the flow, by the ModRM byte where it depends on that
unfoldable pub tail_flow : List ℕ → TailFlow → ℕ → ShapeFlow
tail_flow prefixes (Always flow) b = flow
tail_flow prefixes ShortBranch b = flows.Branch
tail_flow prefixes NearBranch b = flows.Branch
tail_flow prefixes System b = system_flow prefixes b

-- the bytes of the distance, where it is a branch: one, or those of the operand size
unfoldable pub distance_bytes : Bits → List ℕ → TailFlow → Option ℕ
distance_bytes bits prefixes (Always flow) = None
distance_bytes bits prefixes ShortBranch = Some 1
distance_bytes bits prefixes NearBranch = Some (word_bytes bits prefixes)
distance_bytes bits prefixes System = None
