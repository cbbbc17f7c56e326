-- Examples of spellings, fronts and meanings, each proved by computing; their values come from outside.
use Rattle.std.proofs.Common.{◌≡◌, ℕ, Bool, true, false, List, [], ◌∷◌, refl, Option, Some, None}
use Rattle.arrayvec.specs.ArrayVec.{ArrayVec}
use Rattle.x86_values.specs.declared.Bits.{Bits}
use Rattle.x86_values.specs.declared.Bits.TheVariants.{B16, B32, B64}
use Rattle.x86_values.specs.declared.Segment.{Segment}
use Rattle.x86_values.specs.declared.Segment.TheVariants.{Cs as SCs, Fs as SFs}
use Rattle.x86_values.specs.declared.Register.{Register}
use Rattle.x86_values.specs.declared.Register.TheVariants.{Low8, High8, R16, R32, R64, Cr, St, Mm, Xmm, Eip, Rip}
use Rattle.x86_values.specs.declared.DispSize.{DispSize}
use Rattle.x86_values.specs.declared.DispSize.TheVariants.{D0, D8, D32, D64}
use Rattle.x86_values.specs.declared.Mem.{Mem}
use Rattle.x86_values.specs.declared.Operand.{Operand}
use Rattle.x86_values.specs.declared.Operand.TheVariants.{Absent as NoOperand, Reg, Mem as MemOperand, Imm, Near, Far}
use Rattle.x86_values.specs.declared.Rep.{Rep}
use Rattle.x86_values.specs.declared.Rep.TheVariants.{None as NoRep, F2 as RepF2, F3 as RepF3}
use Rattle.x86_values.specs.declared.Instr.{Instr}
use Rattle.instruction_parts.specs.declared.row_types.Row.{Row}
use Rattle.instruction_parts.specs.RowTypes.Rows.{row}
use Rattle.instruction_parts.specs.declared.row_types.RowKind.TheVariants.{Legacy as LegacyRow, Vex as VexRow}
use Rattle.instruction_parts.specs.declared.row_types.Map.{Map}
use Rattle.instruction_parts.specs.declared.row_types.Map.TheVariants.{One as MapOne, M0f, M0f38, M0f3a}
use Rattle.instruction_parts.specs.declared.row_types.Class.TheVariants.{Any as AnyClass, Np, Nf3, P66, F3 as ClassF3}
use Rattle.instruction_parts.specs.declared.row_types.Plus.TheVariants.{No as NoPlus, Register as PlusRegister, Stack as PlusStack}
use Rattle.instruction_parts.specs.declared.row_types.ModRmRule.TheVariants.{No as NoModRm, Any as AnyModRm, Digit, Fixed as FixedByte}
use Rattle.instruction_parts.specs.declared.row_types.Place.TheVariants.{Any as AnyPlace, Memory as MemoryPlace}
use Rattle.instruction_parts.specs.declared.row_types.Size.TheVariants.{None as NoSize, O16, O32, O64, W0 as SizeW0}
use Rattle.instruction_parts.specs.declared.row_types.WBit.TheVariants.{None as NoW, W0, Wig}
use Rattle.instruction_parts.specs.declared.row_types.LBit.TheVariants.{None as NoL, L128, Lz}
use Rattle.instruction_parts.specs.declared.row_types.OpKind.TheVariants.{Eb as KEb, Ew as KEw, Ev as KEv, Ey as KEy, Qq as KQq, Wx as KWx, Wd as KWd, Rm as KRm, Mp as KMp, GatherL as KGatherL, Gb as KGb, Gv as KGv, Gy as KGy, Sw as KSw, Cn as KCn, Dn as KDn, Pq as KPq, Vx as KVx, By as KBy, Hx as KHx, Zv as KZv, Lx as KLx, Ov as KOv, Ibs as KIbs, Iz as KIz, Iv as KIv, Jb as KJb, Jz as KJz, RaxAny as KRaxAny, St as KSt, StI as KStI, Ap as KAp, Absent as KAbsent}
use Rattle.instruction_parts.specs.declared.spelling.Vex.{Vex}
use Rattle.instruction_parts.specs.declared.spelling.ModRm.{ModRm}
use Rattle.instruction_parts.specs.declared.spelling.Sib.{Sib}
use Rattle.instruction_parts.specs.declared.spelling.Spelling.{Spelling}
use Rattle.instruction_parts.specs.declared.spelling.PrefixState.{PrefixState}
use Rattle.instruction_parts.specs.Bytes.{bytes_of, state, state_of}
use Rattle.instruction_parts.specs.Front.{Open, Forbidden, Known, front_of}
use Rattle.row_fit.specs.Fits.{fits}
use Rattle.row_meaning.specs.Meaning.{meaning}
use Rattle.row_relation.specs.EveryRule.{every_rule}

-- a VEX by its fields
abbrev pub vex : Bool → Bool → Bool → Bool → Bool → Bool → Map → ℕ → ℕ → Vex
vex three r x b w l map vvvv pp =
    record { three = three; r = r; x = x; b = b; w = w; l = l; map = map; vvvv = vvvv; pp = pp }

abbrev pub modrm : ℕ → ℕ → ℕ → ModRm
modrm mode3 reg rm = record { mode3 = mode3; reg = reg; rm = rm }

-- a SIB by its fields
abbrev pub sib : ℕ → ℕ → ℕ → Sib
sib scale index base = record { scale = scale; index = index; base = base }

-- some bytes as the type that holds prefixes
abbrev pub bytes : List ℕ → ArrayVec ℕ
bytes items = record { items = items }

-- a spelling by its parts
abbrev pub spell : List ℕ → Option Vex → ℕ → Option ModRm → Option Sib → List ℕ → List ℕ → Spelling
spell prefixes vex opcode modrm sib disp imm = record {
  prefixes = bytes prefixes;
  vex = vex;
  opcode = opcode;
  modrm = modrm;
  sib = sib;
  disp = bytes disp;
  imm = bytes imm;
}

-- a memory operand by its base, index, scale, displacement and displacement size
abbrev pub memory : Option Register → Option Register → ℕ → ℕ → DispSize → Mem
memory base index scale disp disp_size =
    record { base = base; index = index; scale = scale; disp = disp; disp_size = disp_size }

-- an instruction by its code, operands and prefixes
abbrev pub instr : ℕ → Operand → Operand → Operand → Operand → Bool → Rep → Option Segment → Option Bits → Instr
instr n a b c d lock rep seg asize = record {
  code = record { 0 = n };
  ops = a ∷ b ∷ c ∷ d ∷ [];
  lock = lock;
  rep = rep;
  seg = seg;
  asize = asize;
}

-- ---- rows of more than one example

-- o32 01 /r add
abbrev add_row : Row
add_row = row LegacyRow MapOne AnyClass 0x01 NoPlus AnyModRm AnyPlace O32 NoW NoL 7 KEv KGv KAbsent KAbsent 1

-- o64 50+ro push
abbrev push_row : Row
push_row = row LegacyRow MapOne AnyClass 0x50 PlusRegister NoModRm AnyPlace O64 NoW NoL 4 KZv KAbsent KAbsent KAbsent 8

-- 88 /r mov
abbrev mov_byte_row : Row
mov_byte_row = row LegacyRow MapOne AnyClass 0x88 NoPlus AnyModRm AnyPlace NoSize NoW NoL 7 KEb KGb KAbsent KAbsent 0

-- o32 8B /r mov
abbrev mov_row : Row
mov_row = row LegacyRow MapOne AnyClass 0x8B NoPlus AnyModRm AnyPlace O32 NoW NoL 7 KGv KEv KAbsent KAbsent 0

-- NF3 90 nop
abbrev nop_row : Row
nop_row = row LegacyRow MapOne Nf3 0x90 NoPlus NoModRm AnyPlace NoSize NoW NoL 7 KAbsent KAbsent KAbsent KAbsent 0

-- o32 90+rd xchg
abbrev xchg_row : Row
xchg_row = row LegacyRow MapOne AnyClass 0x90 PlusRegister NoModRm AnyPlace O32 NoW NoL 7 KZv KRaxAny KAbsent KAbsent 0

-- F3 90 pause
abbrev pause_row : Row
pause_row = row LegacyRow MapOne ClassF3 0x90 NoPlus NoModRm AnyPlace NoSize NoW NoL 7 KAbsent KAbsent KAbsent KAbsent 0

-- o64 EB cb jmp
abbrev jmp_row : Row
jmp_row = row LegacyRow MapOne AnyClass 0xEB NoPlus NoModRm AnyPlace O64 NoW NoL 4 KJb KAbsent KAbsent KAbsent 20

-- VEX.128.0F.WIG 58 /r vaddps
abbrev vaddps_row : Row
vaddps_row = row VexRow M0f Np 0x58 NoPlus AnyModRm AnyPlace NoSize Wig L128 7 KVx KHx KWx KAbsent 0

-- VEX.128.0F.WIG 77 vzeroupper
abbrev vzeroupper_row : Row
vzeroupper_row = row VexRow M0f Np 0x77 NoPlus NoModRm AnyPlace NoSize Wig L128 7 KAbsent KAbsent KAbsent KAbsent 0

-- VEX.128.66.0F38.W0 92 /r vgatherdps
abbrev vgatherdps_row : Row
vgatherdps_row = row VexRow M0f38 P66 0x92 NoPlus AnyModRm MemoryPlace NoSize W0 L128 7 KVx KGatherL KHx KAbsent 0

-- a spelling of a row fits, has these bytes, means this at the address, and its bytes have this front
pub record Spelled (bits : Bits) (ip : ℕ) (r : Row) (s : Spelling) (expected : List ℕ) (i : Instr) (f : PrefixState) : Type 0 where
  pub fitting : fits bits r s ≡ true
  pub bytes_are : bytes_of r s ≡ expected
  pub means : meaning bits ip i.code r s ≡ i
  pub front_is : front_of bits expected ≡ Known f
  pub state_is : state_of bits r s ≡ f

-- a spelling of a row does not fit
abbrev pub NotFitting : Bits → Row → Spelling → Type 0
NotFitting bits r s = fits bits r s ≡ false

-- without prefixes the operand size is 32 in 64-bit mode (o32 01 /r add: 01 C0)
add_of_registers : Spelled B64 0x401000
    add_row
    (spell ([]) None 0x01 (Some (modrm 3 0 0)) None ([]) ([]))
    (0x01 ∷ 0xC0 ∷ [])
    (instr 2 (Reg (R32 0)) (Reg (R32 0)) NoOperand NoOperand false NoRep None None)
    (state 0 false false false NoRep None None None MapOne 0x01)
unfolding every_rule
add_of_registers = record { fitting = refl; bytes_are = refl; means = refl; front_is = refl; state_is = refl }

-- REX.W gives the operand size 64 (REX.W + 01 /r add: 48 01 C0)
rex_w_gives_size_64 : Spelled B64 0x401000
    (row LegacyRow MapOne AnyClass 0x01 NoPlus AnyModRm AnyPlace O64 NoW NoL 4 KEv KGv KAbsent KAbsent 1)
    (spell (0x48 ∷ []) None 0x01 (Some (modrm 3 0 0)) None ([]) ([]))
    (0x48 ∷ 0x01 ∷ 0xC0 ∷ [])
    (instr 3 (Reg (R64 0)) (Reg (R64 0)) NoOperand NoOperand false NoRep None None)
    (state 1 false false false NoRep None (Some 0x48) None MapOne 0x01)
unfolding every_rule
rex_w_gives_size_64 = record { fitting = refl; bytes_are = refl; means = refl; front_is = refl; state_is = refl }

-- PUSH has the operand size 64 in 64-bit mode without a REX (o64 50+ro push: 50)
push_is_64_by_default : Spelled B64 0x401000
    push_row
    (spell ([]) None 0x50 None None ([]) ([]))
    (0x50 ∷ [])
    (instr 120 (Reg (R64 0)) NoOperand NoOperand NoOperand false NoRep None None)
    (state 0 false false false NoRep None None None MapOne 0x50)
unfolding every_rule
push_is_64_by_default = record { fitting = refl; bytes_are = refl; means = refl; front_is = refl; state_is = refl }

-- REX.B adds 8 to the register in the opcode byte (o64 50+ro push: 41 50)
rex_b_adds_to_opcode_register : Spelled B64 0x401000
    push_row
    (spell (0x41 ∷ []) None 0x50 None None ([]) ([]))
    (0x41 ∷ 0x50 ∷ [])
    (instr 120 (Reg (R64 8)) NoOperand NoOperand NoOperand false NoRep None None)
    (state 1 false false false NoRep None (Some 0x41) None MapOne 0x50)
unfolding every_rule
rex_b_adds_to_opcode_register = record { fitting = refl; bytes_are = refl; means = refl; front_is = refl; state_is = refl }

-- a near target counts from the next address (o64 E8 cd call: E8 F6 0F 00 00)
call_counts_from_next_address : Spelled B64 0x401000
    (row LegacyRow MapOne AnyClass 0xE8 NoPlus NoModRm AnyPlace O64 NoW NoL 4 KJz KAbsent KAbsent KAbsent 20)
    (spell ([]) None 0xE8 None None ([]) (0xF6 ∷ 0x0F ∷ 0x00 ∷ 0x00 ∷ []))
    (0xE8 ∷ 0xF6 ∷ 0x0F ∷ 0x00 ∷ 0x00 ∷ [])
    (instr 623 (Near 0x401FFB) NoOperand NoOperand NoOperand false NoRep None None)
    (state 0 false false false NoRep None None None MapOne 0xE8)
unfolding every_rule
call_counts_from_next_address = record { fitting = refl; bytes_are = refl; means = refl; front_is = refl; state_is = refl }

-- 67 gives the address size 32 in 64-bit mode (o32 8B /r mov: 67 8B 00)
prefix_67_gives_addresses_of_32 : Spelled B64 0x401000
    mov_row
    (spell (0x67 ∷ []) None 0x8B (Some (modrm 0 0 0)) None ([]) ([]))
    (0x67 ∷ 0x8B ∷ 0x00 ∷ [])
    (instr 278 (Reg (R32 0)) (MemOperand (memory (Some (R32 0)) None 1 0 D0)) NoOperand NoOperand false NoRep None (Some B32))
    (state 1 false true false NoRep None None None MapOne 0x8B)
unfolding every_rule
prefix_67_gives_addresses_of_32 = record { fitting = refl; bytes_are = refl; means = refl; front_is = refl; state_is = refl }

-- mod 0 with rm 5 is RIP-relative, and kept as the absolute address (REX.W + 8B /r mov: 48 8B 05 00 00 00 00)
rip_operand_is_absolute : Spelled B64 0x401000
    (row LegacyRow MapOne AnyClass 0x8B NoPlus AnyModRm AnyPlace O64 NoW NoL 4 KGv KEv KAbsent KAbsent 0)
    (spell (0x48 ∷ []) None 0x8B (Some (modrm 0 0 5)) None (0x00 ∷ 0x00 ∷ 0x00 ∷ 0x00 ∷ []) ([]))
    (0x48 ∷ 0x8B ∷ 0x05 ∷ 0x00 ∷ 0x00 ∷ 0x00 ∷ 0x00 ∷ [])
    (instr 279 (Reg (R64 0)) (MemOperand (memory (Some Rip) None 1 0x401007 D32)) NoOperand NoOperand false NoRep None (Some B64))
    (state 1 false false false NoRep None (Some 0x48) None MapOne 0x8B)
unfolding every_rule
rip_operand_is_absolute = record { fitting = refl; bytes_are = refl; means = refl; front_is = refl; state_is = refl }

-- with 67 it is EIP-relative (o32 8B /r mov: 67 8B 05 00 00 00 00)
eip_operand_is_absolute : Spelled B64 0x401000
    mov_row
    (spell (0x67 ∷ []) None 0x8B (Some (modrm 0 0 5)) None (0x00 ∷ 0x00 ∷ 0x00 ∷ 0x00 ∷ []) ([]))
    (0x67 ∷ 0x8B ∷ 0x05 ∷ 0x00 ∷ 0x00 ∷ 0x00 ∷ 0x00 ∷ [])
    (instr 278 (Reg (R32 0)) (MemOperand (memory (Some Eip) None 1 0x401007 D32)) NoOperand NoOperand false NoRep None (Some B32))
    (state 1 false true false NoRep None None None MapOne 0x8B)
unfolding every_rule
eip_operand_is_absolute = record { fitting = refl; bytes_are = refl; means = refl; front_is = refl; state_is = refl }

-- without a REX the byte register 4 is AH (88 /r mov: 88 E0)
ah_without_rex : Spelled B64 0x401000
    mov_byte_row
    (spell ([]) None 0x88 (Some (modrm 3 4 0)) None ([]) ([]))
    (0x88 ∷ 0xE0 ∷ [])
    (instr 272 (Reg (Low8 0)) (Reg (High8 0)) NoOperand NoOperand false NoRep None None)
    (state 0 false false false NoRep None None None MapOne 0x88)
unfolding every_rule
ah_without_rex = record { fitting = refl; bytes_are = refl; means = refl; front_is = refl; state_is = refl }

-- with a REX it is SPL (88 /r mov: 40 88 E0)
spl_with_rex : Spelled B64 0x401000
    mov_byte_row
    (spell (0x40 ∷ []) None 0x88 (Some (modrm 3 4 0)) None ([]) ([]))
    (0x40 ∷ 0x88 ∷ 0xE0 ∷ [])
    (instr 272 (Reg (Low8 0)) (Reg (Low8 4)) NoOperand NoOperand false NoRep None None)
    (state 1 false false false NoRep None (Some 0x40) None MapOne 0x88)
unfolding every_rule
spl_with_rex = record { fitting = refl; bytes_are = refl; means = refl; front_is = refl; state_is = refl }

-- 90 is NOP (NF3 90 nop: 90)
nop_at_90 : Spelled B64 0x401000
    nop_row
    (spell ([]) None 0x90 None None ([]) ([]))
    (0x90 ∷ [])
    (instr 290 NoOperand NoOperand NoOperand NoOperand false NoRep None None)
    (state 0 false false false NoRep None None None MapOne 0x90)
unfolding every_rule
nop_at_90 = record { fitting = refl; bytes_are = refl; means = refl; front_is = refl; state_is = refl }

-- 90 with REX.B is XCHG (o32 90+rd xchg: 41 90)
xchg_at_90_with_rex_b : Spelled B64 0x401000
    xchg_row
    (spell (0x41 ∷ []) None 0x90 None None ([]) ([]))
    (0x41 ∷ 0x90 ∷ [])
    (instr 292 (Reg (R32 8)) (Reg (R32 0)) NoOperand NoOperand false NoRep None None)
    (state 1 false false false NoRep None (Some 0x41) None MapOne 0x90)
unfolding every_rule
xchg_at_90_with_rex_b = record { fitting = refl; bytes_are = refl; means = refl; front_is = refl; state_is = refl }

-- 90 with F3 is PAUSE (F3 90 pause: F3 90)
pause_at_90_with_f3 : Spelled B64 0x401000
    pause_row
    (spell (0xF3 ∷ []) None 0x90 None None ([]) ([]))
    (0xF3 ∷ 0x90 ∷ [])
    (instr 294 NoOperand NoOperand NoOperand NoOperand false NoRep None None)
    (state 1 false false false RepF3 None None None MapOne 0x90)
unfolding every_rule
pause_at_90_with_f3 = record { fitting = refl; bytes_are = refl; means = refl; front_is = refl; state_is = refl }

-- a REX that a legacy prefix follows is ignored (NF3 90 nop: 48 66 90)
rex_before_66_is_ignored : Spelled B64 0x401000
    nop_row
    (spell (0x48 ∷ 0x66 ∷ []) None 0x90 None None ([]) ([]))
    (0x48 ∷ 0x66 ∷ 0x90 ∷ [])
    (instr 290 NoOperand NoOperand NoOperand NoOperand false NoRep None None)
    (state 2 true false false NoRep None None None MapOne 0x90)
unfolding every_rule
rex_before_66_is_ignored = record { fitting = refl; bytes_are = refl; means = refl; front_is = refl; state_is = refl }

-- of F2 and F3 the last one counts (F3 90 pause: F2 F3 90)
last_repeat_counts : Spelled B64 0x401000
    pause_row
    (spell (0xF2 ∷ 0xF3 ∷ []) None 0x90 None None ([]) ([]))
    (0xF2 ∷ 0xF3 ∷ 0x90 ∷ [])
    (instr 294 NoOperand NoOperand NoOperand NoOperand false NoRep None None)
    (state 2 false false false RepF3 None None None MapOne 0x90)
unfolding every_rule
last_repeat_counts = record { fitting = refl; bytes_are = refl; means = refl; front_is = refl; state_is = refl }

-- F3 before F2 is F2, which NOP keeps (NF3 90 nop: F3 F2 90)
last_repeat_counts_also_f2 : Spelled B64 0x401000
    nop_row
    (spell (0xF3 ∷ 0xF2 ∷ []) None 0x90 None None ([]) ([]))
    (0xF3 ∷ 0xF2 ∷ 0x90 ∷ [])
    (instr 290 NoOperand NoOperand NoOperand NoOperand false RepF2 None None)
    (state 2 false false false RepF2 None None None MapOne 0x90)
unfolding every_rule
last_repeat_counts_also_f2 = record { fitting = refl; bytes_are = refl; means = refl; front_is = refl; state_is = refl }

-- a VEX of two bytes (VEX.128.0F.WIG 58 /r vaddps: C5 F8 58 C1)
two_byte_vex : Spelled B64 0x401000
    vaddps_row
    (spell ([]) (Some (vex false false false false false false M0f 0 0)) 0x58 (Some (modrm 3 0 1)) None ([]) ([]))
    (0xC5 ∷ 0xF8 ∷ 0x58 ∷ 0xC1 ∷ [])
    (instr 1496 (Reg (Xmm 0)) (Reg (Xmm 0)) (Reg (Xmm 1)) NoOperand false NoRep None None)
    (state 2 false false false NoRep None None (Some (vex false false false false false false M0f 0 0)) M0f 0x58)
unfolding every_rule
two_byte_vex = record { fitting = refl; bytes_are = refl; means = refl; front_is = refl; state_is = refl }

-- a VEX of three bytes means the same (VEX.128.0F.WIG 58 /r vaddps: C4 E1 78 58 C1)
three_byte_vex_means_the_same : Spelled B64 0x401000
    vaddps_row
    (spell ([]) (Some (vex true false false false false false M0f 0 0)) 0x58 (Some (modrm 3 0 1)) None ([]) ([]))
    (0xC4 ∷ 0xE1 ∷ 0x78 ∷ 0x58 ∷ 0xC1 ∷ [])
    (instr 1496 (Reg (Xmm 0)) (Reg (Xmm 0)) (Reg (Xmm 1)) NoOperand false NoRep None None)
    (state 3 false false false NoRep None None (Some (vex true false false false false false M0f 0 0)) M0f 0x58)
unfolding every_rule
three_byte_vex_means_the_same = record { fitting = refl; bytes_are = refl; means = refl; front_is = refl; state_is = refl }

-- the index of a gather is a vector register (VEX.128.66.0F38.W0 92 /r vgatherdps: C4 E2 69 92 04 08)
gather_index_is_a_vector : Spelled B64 0x401000
    vgatherdps_row
    (spell ([]) (Some (vex true false false false false false M0f38 2 1)) 0x92 (Some (modrm 0 0 4)) (Some (sib 0 1 0)) ([]) ([]))
    (0xC4 ∷ 0xE2 ∷ 0x69 ∷ 0x92 ∷ 0x04 ∷ 0x08 ∷ [])
    (instr 1881 (Reg (Xmm 0)) (MemOperand (memory (Some (R64 0)) (Some (Xmm 1)) 1 0 D0)) (Reg (Xmm 2)) NoOperand false NoRep None (Some B64))
    (state 3 false false false NoRep None None (Some (vex true false false false false false M0f38 2 1)) M0f38 0x92)
unfolding every_rule
gather_index_is_a_vector = record { fitting = refl; bytes_are = refl; means = refl; front_is = refl; state_is = refl }

-- LOCK stands with a memory operand first (o32 01 /r add: F0 01 00)
lock_with_memory : Spelled B64 0x401000
    add_row
    (spell (0xF0 ∷ []) None 0x01 (Some (modrm 0 0 0)) None ([]) ([]))
    (0xF0 ∷ 0x01 ∷ 0x00 ∷ [])
    (instr 2 (MemOperand (memory (Some (R64 0)) None 1 0 D0)) (Reg (R32 0)) NoOperand NoOperand true NoRep None (Some B64))
    (state 1 false false true NoRep None None None MapOne 0x01)
unfolding every_rule
lock_with_memory = record { fitting = refl; bytes_are = refl; means = refl; front_is = refl; state_is = refl }

-- RSP as base takes a SIB, whose index 4 is none (REX.W + 89 /r mov: 48 89 5C 24 10)
rsp_as_base_takes_a_sib : Spelled B64 0x401000
    (row LegacyRow MapOne AnyClass 0x89 NoPlus AnyModRm AnyPlace O64 NoW NoL 4 KEv KGv KAbsent KAbsent 0)
    (spell (0x48 ∷ []) None 0x89 (Some (modrm 1 3 4)) (Some (sib 0 4 4)) (0x10 ∷ []) ([]))
    (0x48 ∷ 0x89 ∷ 0x5C ∷ 0x24 ∷ 0x10 ∷ [])
    (instr 275 (MemOperand (memory (Some (R64 4)) None 1 16 D8)) (Reg (R64 3)) NoOperand NoOperand false NoRep None (Some B64))
    (state 1 false false false NoRep None (Some 0x48) None MapOne 0x89)
unfolding every_rule
rsp_as_base_takes_a_sib = record { fitting = refl; bytes_are = refl; means = refl; front_is = refl; state_is = refl }

-- a sign-extended immediate of one byte (REX.W + 83 /5 ib sub: 48 83 EC 20)
immediate_is_sign_extended : Spelled B64 0x401000
    (row LegacyRow MapOne AnyClass 0x83 NoPlus (Digit 5) AnyPlace O64 NoW NoL 4 KEv KIbs KAbsent KAbsent 1)
    (spell (0x48 ∷ []) None 0x83 (Some (modrm 3 5 4)) None ([]) (0x20 ∷ []))
    (0x48 ∷ 0x83 ∷ 0xEC ∷ 0x20 ∷ [])
    (instr 257 (Reg (R64 4)) (Imm 32) NoOperand NoOperand false NoRep None None)
    (state 1 false false false NoRep None (Some 0x48) None MapOne 0x83)
unfolding every_rule
immediate_is_sign_extended = record { fitting = refl; bytes_are = refl; means = refl; front_is = refl; state_is = refl }

-- in 64-bit mode FS outranks CS, whichever stands last (o32 8B /r mov: 64 2E 8B 00)
fs_outranks_cs : Spelled B64 0x401000
    mov_row
    (spell (0x64 ∷ 0x2E ∷ []) None 0x8B (Some (modrm 0 0 0)) None ([]) ([]))
    (0x64 ∷ 0x2E ∷ 0x8B ∷ 0x00 ∷ [])
    (instr 278 (Reg (R32 0)) (MemOperand (memory (Some (R64 0)) None 1 0 D0)) NoOperand NoOperand false NoRep (Some SFs) (Some B64))
    (state 2 false false false NoRep (Some SFs) None None MapOne 0x8B)
unfolding every_rule
fs_outranks_cs = record { fitting = refl; bytes_are = refl; means = refl; front_is = refl; state_is = refl }

-- a stack number in a fixed ModRM byte (D8 C0+i fadd: D8 C1)
stack_register_in_modrm : Spelled B64 0x401000
    (row LegacyRow MapOne AnyClass 0xD8 PlusStack (FixedByte 192) AnyPlace NoSize NoW NoL 7 KSt KStI KAbsent KAbsent 0)
    (spell ([]) None 0xD8 (Some (modrm 3 0 1)) None ([]) ([]))
    (0xD8 ∷ 0xC1 ∷ [])
    (instr 475 (Reg (St 0)) (Reg (St 1)) NoOperand NoOperand false NoRep None None)
    (state 0 false false false NoRep None None None MapOne 0xD8)
unfolding every_rule
stack_register_in_modrm = record { fitting = refl; bytes_are = refl; means = refl; front_is = refl; state_is = refl }

-- MMX numbers have 3 bits, and REX.R and REX.B are not read (NP 0F 6F /r movq: 45 0F 6F C1)
mmx_ignores_rex : Spelled B64 0x401000
    (row LegacyRow M0f Np 0x6F NoPlus AnyModRm AnyPlace NoSize NoW NoL 7 KPq KQq KAbsent KAbsent 0)
    (spell (0x45 ∷ []) None 0x6F (Some (modrm 3 0 1)) None ([]) ([]))
    (0x45 ∷ 0x0F ∷ 0x6F ∷ 0xC1 ∷ [])
    (instr 948 (Reg (Mm 0)) (Reg (Mm 1)) NoOperand NoOperand false NoRep None None)
    (state 2 false false false NoRep None (Some 0x45) None M0f 0x6F)
unfolding every_rule
mmx_ignores_rex = record { fitting = refl; bytes_are = refl; means = refl; front_is = refl; state_is = refl }

-- a VEX row without operands (VEX.128.0F.WIG 77 vzeroupper: C5 F8 77)
vzeroupper_in_64_bit_mode : Spelled B64 0x401000
    vzeroupper_row
    (spell ([]) (Some (vex false false false false false false M0f 0 0)) 0x77 None None ([]) ([]))
    (0xC5 ∷ 0xF8 ∷ 0x77 ∷ [])
    (instr 1610 NoOperand NoOperand NoOperand NoOperand false NoRep None None)
    (state 2 false false false NoRep None None (Some (vex false false false false false false M0f 0 0)) M0f 0x77)
unfolding every_rule
vzeroupper_in_64_bit_mode = record { fitting = refl; bytes_are = refl; means = refl; front_is = refl; state_is = refl }

-- the class F3 allows a 66 (F3 0F 58 /r addss: F3 66 0F 58 C1)
f3_outranks_66 : Spelled B64 0x401000
    (row LegacyRow M0f ClassF3 0x58 NoPlus AnyModRm AnyPlace NoSize NoW NoL 7 KVx KWd KAbsent KAbsent 0)
    (spell (0xF3 ∷ 0x66 ∷ []) None 0x58 (Some (modrm 3 0 1)) None ([]) ([]))
    (0xF3 ∷ 0x66 ∷ 0x0F ∷ 0x58 ∷ 0xC1 ∷ [])
    (instr 889 (Reg (Xmm 0)) (Reg (Xmm 1)) NoOperand NoOperand false NoRep None None)
    (state 3 true false false RepF3 None None None M0f 0x58)
unfolding every_rule
f3_outranks_66 = record { fitting = refl; bytes_are = refl; means = refl; front_is = refl; state_is = refl }

-- a jump over minus 2 (o64 EB cb jmp: EB FE)
jump_to_itself : Spelled B64 0x401000
    jmp_row
    (spell ([]) None 0xEB None None ([]) (0xFE ∷ []))
    (0xEB ∷ 0xFE ∷ [])
    (instr 631 (Near 0x401000) NoOperand NoOperand NoOperand false NoRep None None)
    (state 0 false false false NoRep None None None MapOne 0xEB)
unfolding every_rule
jump_to_itself = record { fitting = refl; bytes_are = refl; means = refl; front_is = refl; state_is = refl }

-- a near branch ignores 66 in 64-bit mode, and the 66 moves its next address (o64 EB cb jmp: 66 EB 7F)
jump_ignores_66_in_64_bit_mode : Spelled B64 0x401000
    jmp_row
    (spell (0x66 ∷ []) None 0xEB None None ([]) (0x7F ∷ []))
    (0x66 ∷ 0xEB ∷ 0x7F ∷ [])
    (instr 631 (Near 0x401082) NoOperand NoOperand NoOperand false NoRep None None)
    (state 1 true false false NoRep None None None MapOne 0xEB)
unfolding every_rule
jump_ignores_66_in_64_bit_mode = record { fitting = refl; bytes_are = refl; means = refl; front_is = refl; state_is = refl }

-- an immediate of operand size (REX.W + B8+ro io mov: 48 B8 F0 DE BC 9A 78 56 34 12)
immediate_of_64_bits : Spelled B64 0x401000
    (row LegacyRow MapOne AnyClass 0xB8 PlusRegister NoModRm AnyPlace O64 NoW NoL 4 KZv KIv KAbsent KAbsent 0)
    (spell (0x48 ∷ []) None 0xB8 None None ([]) (0xF0 ∷ 0xDE ∷ 0xBC ∷ 0x9A ∷ 0x78 ∷ 0x56 ∷ 0x34 ∷ 0x12 ∷ []))
    (0x48 ∷ 0xB8 ∷ 0xF0 ∷ 0xDE ∷ 0xBC ∷ 0x9A ∷ 0x78 ∷ 0x56 ∷ 0x34 ∷ 0x12 ∷ [])
    (instr 347 (Reg (R64 0)) (Imm 1311768467463790320) NoOperand NoOperand false NoRep None None)
    (state 1 false false false NoRep None (Some 0x48) None MapOne 0xB8)
unfolding every_rule
immediate_of_64_bits = record { fitting = refl; bytes_are = refl; means = refl; front_is = refl; state_is = refl }

-- an absolute address has the address size (o32 A1 mov: A1 F0 DE BC 9A 78 56 34 12)
absolute_address_of_64_bits : Spelled B64 0x401000
    (row LegacyRow MapOne AnyClass 0xA1 NoPlus NoModRm AnyPlace O32 NoW NoL 7 KRaxAny KOv KAbsent KAbsent 0)
    (spell ([]) None 0xA1 None None (0xF0 ∷ 0xDE ∷ 0xBC ∷ 0x9A ∷ 0x78 ∷ 0x56 ∷ 0x34 ∷ 0x12 ∷ []) ([]))
    (0xA1 ∷ 0xF0 ∷ 0xDE ∷ 0xBC ∷ 0x9A ∷ 0x78 ∷ 0x56 ∷ 0x34 ∷ 0x12 ∷ [])
    (instr 314 (Reg (R32 0)) (MemOperand (memory None None 1 1311768467463790320 D64)) NoOperand NoOperand false NoRep None (Some B64))
    (state 0 false false false NoRep None None None MapOne 0xA1)
unfolding every_rule
absolute_address_of_64_bits = record { fitting = refl; bytes_are = refl; means = refl; front_is = refl; state_is = refl }

-- REX.R names CR8 (0F 20 /r mov: 44 0F 20 C0)
cr8_by_rex_r : Spelled B64 0x401000
    (row LegacyRow M0f AnyClass 0x20 NoPlus AnyModRm AnyPlace NoSize NoW NoL 7 KRm KCn KAbsent KAbsent 0)
    (spell (0x44 ∷ []) None 0x20 (Some (modrm 3 0 0)) None ([]) ([]))
    (0x44 ∷ 0x0F ∷ 0x20 ∷ 0xC0 ∷ [])
    (instr 782 (Reg (R64 0)) (Reg (Cr 8)) NoOperand NoOperand false NoRep None None)
    (state 2 false false false NoRep None (Some 0x44) None M0f 0x20)
unfolding every_rule
cr8_by_rex_r = record { fitting = refl; bytes_are = refl; means = refl; front_is = refl; state_is = refl }

-- fourteen prefixes and an opcode byte (NF3 90 nop: 66 66 66 66 66 66 66 66 66 66 66 66 66 66 90)
fifteen_bytes : Spelled B64 0
    nop_row
    (spell (0x66 ∷ 0x66 ∷ 0x66 ∷ 0x66 ∷ 0x66 ∷ 0x66 ∷ 0x66 ∷ 0x66 ∷ 0x66 ∷ 0x66 ∷ 0x66 ∷ 0x66 ∷ 0x66 ∷ 0x66 ∷ []) None 0x90 None None ([]) ([]))
    (0x66 ∷ 0x66 ∷ 0x66 ∷ 0x66 ∷ 0x66 ∷ 0x66 ∷ 0x66 ∷ 0x66 ∷ 0x66 ∷ 0x66 ∷ 0x66 ∷ 0x66 ∷ 0x66 ∷ 0x66 ∷ 0x90 ∷ [])
    (instr 290 NoOperand NoOperand NoOperand NoOperand false NoRep None None)
    (state 14 true false false NoRep None None None MapOne 0x90)
unfolding every_rule
fifteen_bytes = record { fitting = refl; bytes_are = refl; means = refl; front_is = refl; state_is = refl }

-- the upper half of the last byte names a register (VEX.128.66.0F3A.W0 4A /r /is4 vblendvps: C4 E3 69 4A CB F0)
register_in_last_byte : Spelled B64 0
    (row VexRow M0f3a P66 0x4A NoPlus AnyModRm AnyPlace NoSize W0 L128 7 KVx KHx KWx KLx 0)
    (spell ([]) (Some (vex true false false false false false M0f3a 2 1)) 0x4A (Some (modrm 3 1 3)) None ([]) (0xF0 ∷ []))
    (0xC4 ∷ 0xE3 ∷ 0x69 ∷ 0x4A ∷ 0xCB ∷ 0xF0 ∷ [])
    (instr 1955 (Reg (Xmm 1)) (Reg (Xmm 2)) (Reg (Xmm 3)) (Reg (Xmm 15)) false NoRep None None)
    (state 3 false false false NoRep None None (Some (vex true false false false false false M0f3a 2 1)) M0f3a 0x4A)
unfolding every_rule
register_in_last_byte = record { fitting = refl; bytes_are = refl; means = refl; front_is = refl; state_is = refl }

-- outside 64-bit mode C5 before a byte that says memory is LDS (o32 C5 /r lds: C5 00)
lds_is_no_vex : Spelled B32 4096
    (row LegacyRow MapOne AnyClass 0xC5 NoPlus AnyModRm MemoryPlace O32 NoW NoL 3 KGv KMp KAbsent KAbsent 0)
    (spell ([]) None 0xC5 (Some (modrm 0 0 0)) None ([]) ([]))
    (0xC5 ∷ 0x00 ∷ [])
    (instr 385 (Reg (R32 0)) (MemOperand (memory (Some (R32 0)) None 1 0 D0)) NoOperand NoOperand false NoRep None (Some B32))
    (state 0 false false false NoRep None None None MapOne 0xC5)
unfolding every_rule
lds_is_no_vex = record { fitting = refl; bytes_are = refl; means = refl; front_is = refl; state_is = refl }

-- a VEX row of general registers in 32-bit mode (VEX.LZ.0F38.W0 F2 /r andn: C4 E2 70 F2 C2)
vex_b_is_ignored_in_32_bit_mode : Spelled B32 4096
    (row VexRow M0f38 Np 0xF2 NoPlus AnyModRm AnyPlace SizeW0 W0 Lz 7 KGy KBy KEy KAbsent 0)
    (spell ([]) (Some (vex true false false false false false M0f38 1 0)) 0xF2 (Some (modrm 3 0 2)) None ([]) ([]))
    (0xC4 ∷ 0xE2 ∷ 0x70 ∷ 0xF2 ∷ 0xC2 ∷ [])
    (instr 1889 (Reg (R32 0)) (Reg (R32 1)) (Reg (R32 2)) NoOperand false NoRep None None)
    (state 3 false false false NoRep None None (Some (vex true false false false false false M0f38 1 0)) M0f38 0xF2)
unfolding every_rule
vex_b_is_ignored_in_32_bit_mode = record { fitting = refl; bytes_are = refl; means = refl; front_is = refl; state_is = refl }

-- 67 gives 16-bit addressing in 32-bit mode: BX plus SI (o32 8B /r mov: 67 8B 00)
addresses_of_16_bits : Spelled B32 4096
    mov_row
    (spell (0x67 ∷ []) None 0x8B (Some (modrm 0 0 0)) None ([]) ([]))
    (0x67 ∷ 0x8B ∷ 0x00 ∷ [])
    (instr 278 (Reg (R32 0)) (MemOperand (memory (Some (R16 3)) (Some (R16 6)) 1 0 D0)) NoOperand NoOperand false NoRep None (Some B16))
    (state 1 false true false NoRep None None None MapOne 0x8B)
unfolding every_rule
addresses_of_16_bits = record { fitting = refl; bytes_are = refl; means = refl; front_is = refl; state_is = refl }

-- C5 before a byte that begins with 11 is a VEX (VEX.128.0F.WIG 77 vzeroupper: C5 F8 77)
vzeroupper_in_32_bit_mode : Spelled B32 4096
    vzeroupper_row
    (spell ([]) (Some (vex false false false false false false M0f 0 0)) 0x77 None None ([]) ([]))
    (0xC5 ∷ 0xF8 ∷ 0x77 ∷ [])
    (instr 1610 NoOperand NoOperand NoOperand NoOperand false NoRep None None)
    (state 2 false false false NoRep None None (Some (vex false false false false false false M0f 0 0)) M0f 0x77)
unfolding every_rule
vzeroupper_in_32_bit_mode = record { fitting = refl; bytes_are = refl; means = refl; front_is = refl; state_is = refl }

-- a sign-extended immediate is cut to the operand size (o32 83 /0 ib add: 83 C0 FF)
immediate_is_cut_to_operand_size : Spelled B32 4096
    (row LegacyRow MapOne AnyClass 0x83 NoPlus (Digit 0) AnyPlace O32 NoW NoL 7 KEv KIbs KAbsent KAbsent 1)
    (spell ([]) None 0x83 (Some (modrm 3 0 0)) None ([]) (0xFF ∷ []))
    (0x83 ∷ 0xC0 ∷ 0xFF ∷ [])
    (instr 241 (Reg (R32 0)) (Imm 4294967295) NoOperand NoOperand false NoRep None None)
    (state 0 false false false NoRep None None None MapOne 0x83)
unfolding every_rule
immediate_is_cut_to_operand_size = record { fitting = refl; bytes_are = refl; means = refl; front_is = refl; state_is = refl }

-- a far pointer: the offset, then the selector (o32 9A cp callf: 9A 10 00 00 00 08 00)
far_pointer : Spelled B32 4096
    (row LegacyRow MapOne AnyClass 0x9A NoPlus NoModRm AnyPlace O32 NoW NoL 3 KAp KAbsent KAbsent KAbsent 4)
    (spell ([]) None 0x9A None None ([]) (0x10 ∷ 0x00 ∷ 0x00 ∷ 0x00 ∷ 0x08 ∷ 0x00 ∷ []))
    (0x9A ∷ 0x10 ∷ 0x00 ∷ 0x00 ∷ 0x00 ∷ 0x08 ∷ 0x00 ∷ [])
    (instr 302 (Far 8 16) NoOperand NoOperand NoOperand false NoRep None None)
    (state 0 false false false NoRep None None None MapOne 0x9A)
unfolding every_rule
far_pointer = record { fitting = refl; bytes_are = refl; means = refl; front_is = refl; state_is = refl }

-- prefixes, ModRM, SIB, displacement and immediate (o32 81 /0 id add: F0 F2 2E 81 84 98 44 33 22 11 78 56 34 12)
all_parts_at_once : Spelled B32 4096
    (row LegacyRow MapOne AnyClass 0x81 NoPlus (Digit 0) AnyPlace O32 NoW NoL 7 KEv KIz KAbsent KAbsent 1)
    (spell (0xF0 ∷ 0xF2 ∷ 0x2E ∷ []) None 0x81 (Some (modrm 2 0 4)) (Some (sib 2 3 0)) (0x44 ∷ 0x33 ∷ 0x22 ∷ 0x11 ∷ []) (0x78 ∷ 0x56 ∷ 0x34 ∷ 0x12 ∷ []))
    (0xF0 ∷ 0xF2 ∷ 0x2E ∷ 0x81 ∷ 0x84 ∷ 0x98 ∷ 0x44 ∷ 0x33 ∷ 0x22 ∷ 0x11 ∷ 0x78 ∷ 0x56 ∷ 0x34 ∷ 0x12 ∷ [])
    (instr 209 (MemOperand (memory (Some (R32 0)) (Some (R32 3)) 4 287454020 D32)) (Imm 305419896) NoOperand NoOperand true RepF2 (Some SCs) (Some B32))
    (state 3 false false true RepF2 (Some SCs) None None MapOne 0x81)
unfolding every_rule
all_parts_at_once = record { fitting = refl; bytes_are = refl; means = refl; front_is = refl; state_is = refl }

-- an address size without a memory operand (o32 E2 cb loop: E2 FE)
loop_keeps_its_address_size : Spelled B32 4096
    (row LegacyRow MapOne AnyClass 0xE2 NoPlus NoModRm AnyPlace O32 NoW NoL 3 KJb KAbsent KAbsent KAbsent 22)
    (spell ([]) None 0xE2 None None ([]) (0xFE ∷ []))
    (0xE2 ∷ 0xFE ∷ [])
    (instr 610 (Near 4096) NoOperand NoOperand NoOperand false NoRep None (Some B32))
    (state 0 false false false NoRep None None None MapOne 0xE2)
unfolding every_rule
loop_keeps_its_address_size = record { fitting = refl; bytes_are = refl; means = refl; front_is = refl; state_is = refl }

-- 67 gives 32-bit addressing in 16-bit mode (o16 8B /r mov: 67 8B 00)
addresses_of_32_bits_in_16_bit_mode : Spelled B16 4096
    (row LegacyRow MapOne AnyClass 0x8B NoPlus AnyModRm AnyPlace O16 NoW NoL 7 KGv KEv KAbsent KAbsent 0)
    (spell (0x67 ∷ []) None 0x8B (Some (modrm 0 0 0)) None ([]) ([]))
    (0x67 ∷ 0x8B ∷ 0x00 ∷ [])
    (instr 277 (Reg (R16 0)) (MemOperand (memory (Some (R32 0)) None 1 0 D0)) NoOperand NoOperand false NoRep None (Some B32))
    (state 1 false true false NoRep None None None MapOne 0x8B)
unfolding every_rule
addresses_of_32_bits_in_16_bit_mode = record { fitting = refl; bytes_are = refl; means = refl; front_is = refl; state_is = refl }

-- C4 before a byte that says memory is LES (o16 C4 /r les: C4 00)
les_in_16_bit_mode : Spelled B16 4096
    (row LegacyRow MapOne AnyClass 0xC4 NoPlus AnyModRm MemoryPlace O16 NoW NoL 3 KGv KMp KAbsent KAbsent 0)
    (spell ([]) None 0xC4 (Some (modrm 0 0 0)) None ([]) ([]))
    (0xC4 ∷ 0x00 ∷ [])
    (instr 382 (Reg (R16 0)) (MemOperand (memory (Some (R16 3)) (Some (R16 6)) 1 0 D0)) NoOperand NoOperand false NoRep None (Some B16))
    (state 0 false false false NoRep None None None MapOne 0xC4)
unfolding every_rule
les_in_16_bit_mode = record { fitting = refl; bytes_are = refl; means = refl; front_is = refl; state_is = refl }

-- 66 gives the operand size 32 in 16-bit mode (o32 E8 cd call: 66 E8 00 00 00 00)
call_of_32_bits_in_16_bit_mode : Spelled B16 4096
    (row LegacyRow MapOne AnyClass 0xE8 NoPlus NoModRm AnyPlace O32 NoW NoL 3 KJz KAbsent KAbsent KAbsent 20)
    (spell (0x66 ∷ []) None 0xE8 None None ([]) (0x00 ∷ 0x00 ∷ 0x00 ∷ 0x00 ∷ []))
    (0x66 ∷ 0xE8 ∷ 0x00 ∷ 0x00 ∷ 0x00 ∷ 0x00 ∷ [])
    (instr 622 (Near 4102) NoOperand NoOperand NoOperand false NoRep None None)
    (state 1 true false false NoRep None None None MapOne 0xE8)
unfolding every_rule
call_of_32_bits_in_16_bit_mode = record { fitting = refl; bytes_are = refl; means = refl; front_is = refl; state_is = refl }

-- LOCK with a register destination (o32 01 /r add)
lock_needs_memory : NotFitting B64
    add_row
    (spell (0xF0 ∷ []) None 0x01 (Some (modrm 3 0 0)) None ([]) ([]))
unfolding every_rule
lock_needs_memory = refl

-- 66 before a row of the operand size 32 (o32 01 /r add)
size_32_without_66 : NotFitting B64
    add_row
    (spell (0x66 ∷ []) None 0x01 (Some (modrm 3 0 0)) None ([]) ([]))
unfolding every_rule
size_32_without_66 = refl

-- REX.W before a row of the operand size 32 (o32 01 /r add)
size_32_without_rex_w : NotFitting B64
    add_row
    (spell (0x48 ∷ []) None 0x01 (Some (modrm 3 0 0)) None ([]) ([]))
unfolding every_rule
size_32_without_rex_w = refl

-- a vvvv that the row does not use (VEX.128.0F.WIG 77 vzeroupper)
unused_vvvv_is_1111 : NotFitting B64
    vzeroupper_row
    (spell ([]) (Some (vex false false false false false false M0f 1 0)) 0x77 None None ([]) ([]))
unfolding every_rule
unused_vvvv_is_1111 = refl

-- a VEX behind 66 (VEX.128.0F.WIG 77 vzeroupper)
no_vex_behind_66 : NotFitting B64
    vzeroupper_row
    (spell (0x66 ∷ []) (Some (vex false false false false false false M0f 0 0)) 0x77 None None ([]) ([]))
unfolding every_rule
no_vex_behind_66 = refl

-- a VEX directly behind a REX (VEX.128.0F.WIG 77 vzeroupper)
no_vex_behind_rex : NotFitting B64
    vzeroupper_row
    (spell (0x48 ∷ []) (Some (vex false false false false false false M0f 0 0)) 0x77 None None ([]) ([]))
unfolding every_rule
no_vex_behind_rex = refl

-- a gather whose mask is its destination (VEX.128.66.0F38.W0 90 /r vpgatherdd)
gather_registers_differ : NotFitting B64
    (row VexRow M0f38 P66 0x90 NoPlus AnyModRm MemoryPlace NoSize W0 L128 7 KVx KGatherL KHx KAbsent 0)
    (spell ([]) (Some (vex true false false false false false M0f38 1 1)) 0x90 (Some (modrm 0 1 4)) (Some (sib 0 2 0)) ([]) ([]))
unfolding every_rule
gather_registers_differ = refl

-- a gather in 16-bit addressing (VEX.128.66.0F38.W0 92 /r vgatherdps)
gather_needs_32_bit_addresses : NotFitting B32
    vgatherdps_row
    (spell (0x67 ∷ []) (Some (vex true false false false false false M0f38 2 1)) 0x92 (Some (modrm 0 0 4)) None ([]) ([]))
unfolding every_rule
gather_needs_32_bit_addresses = refl

-- a debug register with REX.R (0F 21 /r mov)
no_debug_register_of_rex_r : NotFitting B64
    (row LegacyRow M0f AnyClass 0x21 NoPlus AnyModRm AnyPlace NoSize NoW NoL 7 KRm KDn KAbsent KAbsent 0)
    (spell (0x44 ∷ []) None 0x21 (Some (modrm 3 0 0)) None ([]) ([]))
unfolding every_rule
no_debug_register_of_rex_r = refl

-- NOP with REX.B (NF3 90 nop)
nop_without_rex_b : NotFitting B64
    nop_row
    (spell (0x41 ∷ []) None 0x90 None None ([]) ([]))
unfolding every_rule
nop_without_rex_b = refl

-- XCHG at 90 without REX.B (o32 90+rd xchg)
xchg_at_90_needs_rex_b : NotFitting B64
    xchg_row
    (spell ([]) None 0x90 None None ([]) ([]))
unfolding every_rule
xchg_at_90_needs_rex_b = refl

-- XCHG at 90 with F3 (o32 90+rd xchg)
xchg_at_90_without_f3 : NotFitting B64
    xchg_row
    (spell (0xF3 ∷ 0x41 ∷ []) None 0x90 None None ([]) ([]))
unfolding every_rule
xchg_at_90_without_f3 = refl

-- LES with a register (o32 C4 /r les)
les_needs_memory : NotFitting B32
    (row LegacyRow MapOne AnyClass 0xC4 NoPlus AnyModRm MemoryPlace O32 NoW NoL 3 KGv KMp KAbsent KAbsent 0)
    (spell ([]) None 0xC4 (Some (modrm 3 0 0)) None ([]) ([]))
unfolding every_rule
les_needs_memory = refl

-- PAUSE with F2 (F3 90 pause)
pause_needs_f3 : NotFitting B64
    pause_row
    (spell (0xF2 ∷ []) None 0x90 None None ([]) ([]))
unfolding every_rule
pause_needs_f3 = refl

-- POPCNT without F3 (F3 o32 0F B8 /r popcnt)
popcnt_needs_f3 : NotFitting B32
    (row LegacyRow M0f ClassF3 0xB8 NoPlus AnyModRm AnyPlace O32 NoW NoL 7 KGv KEv KAbsent KAbsent 0)
    (spell ([]) None 0xB8 (Some (modrm 3 0 1)) None ([]) ([]))
unfolding every_rule
popcnt_needs_f3 = refl

-- MOV to CS (8E /r mov)
no_move_to_cs : NotFitting B64
    (row LegacyRow MapOne AnyClass 0x8E NoPlus AnyModRm AnyPlace NoSize NoW NoL 7 KSw KEw KAbsent KAbsent 0)
    (spell ([]) None 0x8E (Some (modrm 3 1 0)) None ([]) ([]))
unfolding every_rule
no_move_to_cs = refl

-- ---- fronts

-- no bytes at all
no_bytes_are_open : front_of B64 ([]) ≡ Open
unfolding every_rule
no_bytes_are_open = refl

-- C5 alone, in 64-bit mode a VEX
vex_lead_is_open : front_of B64 (197 ∷ []) ≡ Open
unfolding every_rule
vex_lead_is_open = refl

-- two bytes of a VEX of three
vex_with_a_map_is_open : front_of B64 (196 ∷ 226 ∷ []) ≡ Open
unfolding every_rule
vex_with_a_map_is_open = refl

-- the map number 0 of a VEX
vex_without_a_map_is_forbidden : front_of B64 (196 ∷ 224 ∷ []) ≡ Forbidden
unfolding every_rule
vex_without_a_map_is_forbidden = refl

-- 66 C4: in 64-bit mode forbidden at once
vex_behind_66_is_forbidden : front_of B64 (102 ∷ 196 ∷ []) ≡ Forbidden
unfolding every_rule
vex_behind_66_is_forbidden = refl

-- REX.W C5
vex_behind_rex_is_forbidden : front_of B64 (72 ∷ 197 ∷ []) ≡ Forbidden
unfolding every_rule
vex_behind_rex_is_forbidden = refl

-- a REX that a segment prefix follows does not count
vex_behind_ignored_rex_is_open : front_of B64 (72 ∷ 46 ∷ 197 ∷ []) ≡ Open
unfolding every_rule
vex_behind_ignored_rex_is_open = refl

-- 0F alone
escape_byte_is_open : front_of B64 (15 ∷ []) ≡ Open
unfolding every_rule
escape_byte_is_open = refl

-- F0 0F 38: LOCK is not looked at here
two_escape_bytes_are_open : front_of B64 (240 ∷ 15 ∷ 56 ∷ []) ≡ Open
unfolding every_rule
two_escape_bytes_are_open = refl

-- 0F 0F
escape_byte_twice_is_forbidden : front_of B64 (15 ∷ 15 ∷ []) ≡ Forbidden
unfolding every_rule
escape_byte_twice_is_forbidden = refl

-- 62 in 64-bit mode
opcode_62_is_forbidden_in_64_bit_mode : front_of B64 (98 ∷ []) ≡ Forbidden
unfolding every_rule
opcode_62_is_forbidden_in_64_bit_mode = refl

-- fourteen prefixes
fourteen_prefixes_are_open : front_of B64 (102 ∷ 102 ∷ 102 ∷ 102 ∷ 102 ∷ 102 ∷ 102 ∷ 102 ∷ 102 ∷ 102 ∷ 102 ∷ 102 ∷ 102 ∷ 102 ∷ []) ≡ Open
unfolding every_rule
fourteen_prefixes_are_open = refl

-- fifteen prefixes
fifteen_prefixes_are_forbidden : front_of B64 (102 ∷ 102 ∷ 102 ∷ 102 ∷ 102 ∷ 102 ∷ 102 ∷ 102 ∷ 102 ∷ 102 ∷ 102 ∷ 102 ∷ 102 ∷ 102 ∷ 102 ∷ []) ≡ Forbidden
unfolding every_rule
fifteen_prefixes_are_forbidden = refl

-- fourteen prefixes and an escape byte: fifteen bytes without an opcode byte
escape_byte_at_the_end_is_forbidden : front_of B64 (102 ∷ 102 ∷ 102 ∷ 102 ∷ 102 ∷ 102 ∷ 102 ∷ 102 ∷ 102 ∷ 102 ∷ 102 ∷ 102 ∷ 102 ∷ 102 ∷ 15 ∷ []) ≡ Forbidden
unfolding every_rule
escape_byte_at_the_end_is_forbidden = refl

-- 66 C4 in 32-bit mode: not yet a VEX
c4_at_the_end_is_open_in_32_bit_mode : front_of B32 (102 ∷ 196 ∷ []) ≡ Open
unfolding every_rule
c4_at_the_end_is_open_in_32_bit_mode = refl

-- 66 C4 C0 in 32-bit mode
vex_behind_66_is_forbidden_in_32_bit_mode : front_of B32 (102 ∷ 196 ∷ 192 ∷ []) ≡ Forbidden
unfolding every_rule
vex_behind_66_is_forbidden_in_32_bit_mode = refl
