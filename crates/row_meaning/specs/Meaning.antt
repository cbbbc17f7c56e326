-- What a fitting spelling means: the operands of an instruction (Intel SDM volume 2, 2.1.3 to 2.1.5, 2.2.1, 2.3.5 to 2.3.12).
use Rattle.std.specs.Prelude.{◌≡◌, ℕ, ◌+◌, ◌-◌, ◌*◌, ◌/◌, ◌%◌, ◌^◌, Bool, true, false, ◌&&◌, ◌||◌, ◌==◌, nat_lt, if◌then◌else◌, List, [], ◌∷◌, length, take, drop, Option, Some, None, slice_index}
use Rattle.std.specs.List.{list_any}
use Rattle.x86_values.specs.declared.Bits.{Bits}
use Rattle.x86_values.specs.declared.Bits.TheVariants.{B16, B32, B64}
use Rattle.x86_values.specs.declared.Segment.{Segment}
use Rattle.x86_values.specs.declared.Segment.TheVariants.{Es, Cs, Ss, Ds, Fs, Gs}
use Rattle.x86_values.specs.declared.Register.{Register}
use Rattle.x86_values.specs.declared.Register.TheVariants.{Low8, High8, R16, R32, R64, Seg, Cr, Dr, St, Mm, Xmm, Ymm, Eip, Rip}
use Rattle.x86_values.specs.declared.DispSize.{DispSize}
use Rattle.x86_values.specs.declared.DispSize.TheVariants.{D0, D8, D16, D32, D64}
use Rattle.x86_values.specs.declared.Mem.{Mem}
use Rattle.x86_values.specs.declared.Operand.{Operand}
use Rattle.x86_values.specs.declared.Operand.TheVariants.{Absent as AbsentOperand, Reg, Mem as MemOperand, Imm, Near, Far}
use Rattle.x86_values.specs.declared.Rep.{Rep}
use Rattle.x86_values.specs.declared.Rep.TheVariants.{None as NoRep}
use Rattle.x86_values.specs.declared.Code.{Code}
use Rattle.x86_values.specs.declared.Instr.{Instr}
use Rattle.x86_values.specs.Wrapping.{width, modulo_width}
use Rattle.instruction_parts.specs.declared.row_types.Row.{Row}
use Rattle.instruction_parts.specs.declared.row_types.Class.{Class}
use Rattle.instruction_parts.specs.declared.row_types.Class.TheVariants.{Any as AnyClass, Nf3}
use Rattle.instruction_parts.specs.declared.row_types.LBit.{LBit}
use Rattle.instruction_parts.specs.declared.row_types.LBit.TheVariants.{L256}
use Rattle.instruction_parts.specs.declared.row_types.OpKind.{OpKind}
use Rattle.instruction_parts.specs.declared.kinds.Method.{Method}
use Rattle.instruction_parts.specs.declared.kinds.Method.TheVariants.{Nothing, ModRmReg, RegisterOrMemory, RegisterOnly, MemoryOnly, AnyMode, OpcodeLow, Vvvv, LastByte, Gather, Offset, AsWritten, Extended, Near as NearTarget, Pointer, Fixed, One as OneMethod}
use Rattle.instruction_parts.specs.declared.kinds.File.{File}
use Rattle.instruction_parts.specs.declared.kinds.File.TheVariants.{Byte as ByteFile, Word as WordFile, Dword as DwordFile, Qword as QwordFile, OperandSize as OperandSizeFile, WordOrDword as WordOrDwordFile, ByW as ByWFile, Native as NativeFile, Segment as SegmentFile, Control as ControlFile, Debug as DebugFile, Stack as StackFile, Mmx as MmxFile, Xmm as XmmFile, Vector as VectorFile}
use Rattle.instruction_parts.specs.declared.spelling.ModRm.{ModRm}
use Rattle.instruction_parts.specs.declared.spelling.Sib.{Sib}
use Rattle.instruction_parts.specs.declared.spelling.Spelling.{Spelling}
use Rattle.instruction_parts.specs.declared.spelling.PrefixState.{PrefixState}
use Rattle.instruction_parts.specs.Kinds.{method_of, file_of, fixed_number}
use Rattle.instruction_parts.specs.Counting.{is_64}
use Rattle.instruction_parts.specs.Sizes.{state_size, state_address_size, bit_b, bit_x, bit_w, has_address_mark}
use Rattle.instruction_parts.specs.Bytes.{state_of, bytes_of}
use Rattle.row_fit.specs.Fits.{with_high_bit, has_modrm, reg_number, rm_number, vvvv_number, index_number, is_displacement_alone, immediate_bytes, is_memory_method, kind_at}

-- ---- numbers in bytes

-- the number whose bytes these are, the lowest first
unfoldable pub little_endian : List ℕ → ℕ
little_endian [] = 0
little_endian (b ∷ bytes) = b + 256 * little_endian bytes

-- the number in these bytes, sign-extended and cut to n bits (2.2.1.3, 2.2.1.5)
unfoldable pub sign_extended : ℕ → List ℕ → ℕ
sign_extended n bytes =
    let bits = 8 * length bytes in
    let x = little_endian bytes in
    if nat_lt (2 * x) (2 ^ bits) then x % 2 ^ n else (x + (2 ^ 64 - 2 ^ bits)) % 2 ^ n

-- ---- registers

-- the number of a segment register, from 0 to 5
unfoldable pub segment_numbered : ℕ → Segment
segment_numbered n =
    if n == 0 then Es else (if n == 1 then Cs else (if n == 2 then Ss else (if n == 3 then Ds else (if n == 4 then Fs else Gs))))

-- a general register of a size
unfoldable pub general_register : Bits → ℕ → Register
general_register B16 n = R16 n
general_register B32 n = R32 n
general_register B64 n = R64 n

-- a byte register: without a counting REX the numbers 4 to 7 are AH, CH, DH and BH, with one SPL, BPL, SIL and DIL (2.2.1.2)
unfoldable pub byte_register : Option ℕ → ℕ → Register
byte_register (Some _) n = Low8 n
byte_register None n = if nat_lt n 4 then Low8 n else High8 (n - 4)

-- a vector register: YMM on rows with L 256, else XMM (2.3.6.2)
unfoldable pub vector : LBit → ℕ → Register
vector L256 n = Ymm n
vector _ n = Xmm n

-- 16 at size 16, and else 32
abbrev pub word_or_dword : Bits → Bits
word_or_dword B16 = B16
word_or_dword _ = B32

-- 64 where W is 1, and else 32
abbrev pub size_by_w : Bool → Bits
size_by_w true = B64
size_by_w false = B32

-- the size of a general register that is moved to a control register: 64 in 64-bit mode, and else 32
abbrev pub native_size : Bits → Bits
native_size B64 = B64
native_size _ = B32

-- the register of a file with a number; MMX, stack and segment registers have a number of 3 bits
unfoldable pub register_of : Bits → Row → PrefixState → File → ℕ → Register
register_of bits row state ByteFile n = byte_register state.rex n
register_of bits row state WordFile n = R16 n
register_of bits row state DwordFile n = R32 n
register_of bits row state QwordFile n = R64 n
register_of bits row state OperandSizeFile n = general_register (state_size bits row state) n
register_of bits row state WordOrDwordFile n = general_register (word_or_dword (state_size bits row state)) n
register_of bits row state ByWFile n = general_register (size_by_w (bit_w bits state)) n
register_of bits row state NativeFile n = general_register (native_size bits) n
register_of bits row state SegmentFile n = Seg (segment_numbered (n % 8))
register_of bits row state ControlFile n = Cr n
register_of bits row state DebugFile n = Dr n
register_of bits row state StackFile n = St (n % 8)
register_of bits row state MmxFile n = Mm (n % 8)
register_of bits row state XmmFile n = Xmm n
register_of bits row state VectorFile n = vector row.l n

-- under the prefixes of the state the row has this operand size, and it has this L
abbrev pub HasSizes : Bits → PrefixState → Bits → LBit → Row → Type 0
HasSizes bits state size l row = (size ≡ state_size bits row state) × (l ≡ row.l)

-- under the prefixes of the state an address has this size, and its registers have these bits B and X
abbrev pub HasAddressParts : Bits → PrefixState → Bits → Bool → Bool → Type 0
HasAddressParts bits state asize b x = (asize ≡ state_address_size bits state) × (b ≡ bit_b bits state) × (x ≡ bit_x state)

-- ---- memory

-- the displacement's size, by its bytes
unfoldable pub disp_size_of : ℕ → DispSize
disp_size_of n =
    if n == 0 then D0 else (if n == 1 then D8 else (if n == 2 then D16 else (if n == 4 then D32 else D64)))

-- the base of a 16-bit address (table 2-1)
unfoldable pub base_16 : ℕ → Register
base_16 rm =
    if rm == 0 then R16 3 else (if rm == 1 then R16 3 else (if rm == 2 then R16 5 else (if rm == 3 then R16 5
    else (if rm == 4 then R16 6 else (if rm == 5 then R16 7 else (if rm == 6 then R16 5 else R16 3))))))

-- its index, where the address is a sum
unfoldable pub index_16 : ℕ → Option Register
index_16 rm =
    if rm == 0 then Some (R16 6) else (if rm == 1 then Some (R16 7) else (if rm == 2 then Some (R16 6)
    else (if rm == 3 then Some (R16 7) else None)))

-- a displacement is kept sign-extended and cut to the address size (2.2.1.3)
abbrev pub displacement : Bits → List ℕ → ℕ
displacement asize disp = sign_extended (width asize) disp

-- an address in 16-bit addressing
unfoldable pub memory_16 : ModRm → List ℕ → Mem
memory_16 m disp =
    if is_displacement_alone B16 m None then
    record { base = None; index = None; scale = 1; disp = displacement B16 disp; disp_size = D16 }
    else record {
      base = Some (base_16 m.rm);
      index = index_16 m.rm;
      scale = 1;
      disp = displacement B16 disp;
      disp_size = disp_size_of (length disp);
    }

-- the instruction pointer that an address size names
abbrev pub instruction_pointer : Bits → Register
instruction_pointer B64 = Rip
instruction_pointer _ = Eip

-- an address plus a sign-extended distance, cut to a size
abbrev pub target_of : Bits → ℕ → List ℕ → ℕ
target_of size next distance = modulo_width size (next + sign_extended 64 distance)

-- an address without base and index and without a SIB: RIP-relative in 64-bit mode, EIP-relative with 67 (2.2.1.6)
unfoldable pub ip_or_absolute : Bits → Bits → ℕ → List ℕ → Mem
ip_or_absolute B64 asize next disp = record {
  base = Some (instruction_pointer asize);
  index = None;
  scale = 1;
  disp = target_of asize next disp;
  disp_size = D32;
}
ip_or_absolute _ asize next disp =
    record { base = None; index = None; scale = 1; disp = displacement asize disp; disp_size = D32 }

-- the base of an address with a SIB: base 5 with mod 0 is none, whatever B (2.1.5, table 2-3; 2.2.1.2, table 2-5)
unfoldable pub sib_base : Bits → Bits → PrefixState → ModRm → Sib → Option Register
sib_base bits asize state m s =
    if m.mode3 == 0 && s.base == 5 then None
    else Some (general_register asize (with_high_bit (bit_b bits state) s.base))

-- the index of an address with a SIB: number 4, with X 0, is none (2.1.5, table 2-3; 2.2.1.2, table 2-5)
unfoldable pub sib_index : Bits → PrefixState → Sib → Option Register
sib_index asize state s =
    let n = index_number state (Some s) in if n == 4 then None else Some (general_register asize n)

-- the scale, which is 1 without an index
abbrev pub scale_of : Option Register → Sib → ℕ
scale_of None s = 1
scale_of (Some _) s = 2 ^ s.scale

-- an address with a SIB and this index
unfoldable pub memory_with_sib : Bits → Bits → PrefixState → Option Register → ModRm → Sib → List ℕ → Mem
memory_with_sib bits asize state index m s disp = record {
  base = sib_base bits asize state m s;
  index = index;
  scale = scale_of index s;
  disp = displacement asize disp;
  disp_size = disp_size_of (length disp);
}

-- an address of a general register
unfoldable pub memory_at_base : Bits → Bits → PrefixState → ModRm → List ℕ → Mem
memory_at_base bits asize state m disp = record {
  base = Some (general_register asize (with_high_bit (bit_b bits state) m.rm));
  index = None;
  scale = 1;
  disp = displacement asize disp;
  disp_size = disp_size_of (length disp);
}

-- an address in 32 and 64-bit addressing (tables 2-2 and 2-3)
unfoldable pub memory_wide : Bits → Bits → PrefixState → ModRm → Option Sib → ℕ → List ℕ → Mem
memory_wide bits asize state m (Some s) next disp =
    memory_with_sib bits asize state (sib_index asize state s) m s disp
memory_wide bits asize state m None next disp =
    if m.mode3 == 0 && m.rm == 5 then ip_or_absolute bits asize next disp
    else memory_at_base bits asize state m disp

-- an address of any size
unfoldable pub memory_of : Bits → Bits → PrefixState → ModRm → Option Sib → ℕ → List ℕ → Mem
memory_of bits B16 state m sib next disp = memory_16 m disp
memory_of bits B32 state m sib next disp = memory_wide bits B32 state m sib next disp
memory_of bits B64 state m sib next disp = memory_wide bits B64 state m sib next disp

-- an absolute address of address size (2.2.1.4)
unfoldable pub memory_absolute : Bits → List ℕ → Mem
memory_absolute asize disp = record {
  base = None;
  index = None;
  scale = 1;
  disp = displacement asize disp;
  disp_size = disp_size_of (length disp);
}

-- ---- operands

-- the operand of a ModRM, absent without one
abbrev pub with_modrm : (ModRm → Operand) → Option ModRm → Operand
with_modrm f None = AbsentOperand
with_modrm f (Some m) = f m

-- the address of a gather, whose every index is a vector register (2.3.12)
unfoldable pub gather_memory : Bits → Row → PrefixState → File → ModRm → Option Sib → List ℕ → Operand
gather_memory bits row state file m None disp = AbsentOperand
gather_memory bits row state file m (Some s) disp =
    MemOperand (memory_with_sib bits (state_address_size bits state) state
    (Some (register_of bits row state file (index_number state (Some s)))) m s disp)

-- the register number in the upper four bits of the last byte, of which outside 64-bit mode the top bit is not read (2.3.9)
unfoldable pub last_byte_number : Bits → List ℕ → ℕ
last_byte_number bits imm = if is_64 bits then slice_index imm 0 / 16 else slice_index imm 0 / 16 % 8

-- a near target: the next address plus the sign-extended offset, cut to the operand size (CALL, JMP, Jcc)
unfoldable pub near_target : Bits → ℕ → List ℕ → Operand
near_target size next imm = Near (target_of size next imm)

-- a far pointer: the offset, then the selector of two bytes
unfoldable pub far_pointer : List ℕ → Operand
far_pointer imm = Far (little_endian (drop (length imm - 2) imm)) (little_endian (take (length imm - 2) imm))

-- the operand that is memory by ModRM
unfoldable pub memory_operand : Bits → PrefixState → Option ModRm → Option Sib → List ℕ → ℕ → Operand
memory_operand bits state m sib disp next =
    with_modrm (λ m. MemOperand (memory_of bits (state_address_size bits state) state m sib next disp)) m

-- what stands behind the opcode byte, with the address behind it
pub record Tail : Type 0 where
  pub modrm : Option ModRm
  pub sib : Option Sib
  pub disp : List ℕ
  pub next : ℕ

-- a tail of its parts
abbrev pub tail : Option ModRm → Option Sib → List ℕ → ℕ → Tail
tail m sib disp next = record { modrm = m; sib = sib; disp = disp; next = next }

-- an operand by how it is read; imm are the bytes of the immediates that are its own
unfoldable pub operand_by : Bits → Row → PrefixState → Tail → OpKind → Method → List ℕ → Operand
operand_by bits row state t kind Nothing imm = AbsentOperand
operand_by bits row state t kind ModRmReg imm =
    Reg (register_of bits row state (file_of kind) (reg_number state t.modrm))
operand_by bits row state t kind RegisterOrMemory imm =
    if has_modrm (λ m. nat_lt m.mode3 3) t.modrm then memory_operand bits state t.modrm t.sib t.disp t.next
    else Reg (register_of bits row state (file_of kind) (rm_number bits state t.modrm))
operand_by bits row state t kind RegisterOnly imm =
    Reg (register_of bits row state (file_of kind) (rm_number bits state t.modrm))
operand_by bits row state t kind AnyMode imm =
    Reg (register_of bits row state (file_of kind) (rm_number bits state t.modrm))
operand_by bits row state t kind MemoryOnly imm = memory_operand bits state t.modrm t.sib t.disp t.next
operand_by bits row state t kind OpcodeLow imm =
    Reg (register_of bits row state (file_of kind) (with_high_bit (bit_b bits state) (state.opcode % 8)))
operand_by bits row state t kind Vvvv imm =
    Reg (register_of bits row state (file_of kind) (vvvv_number bits state))
operand_by bits row state t kind LastByte imm =
    Reg (register_of bits row state (file_of kind) (last_byte_number bits imm))
operand_by bits row state t kind Gather imm =
    with_modrm (λ m. gather_memory bits row state (file_of kind) m t.sib t.disp) t.modrm
operand_by bits row state t kind Offset imm =
    MemOperand (memory_absolute (state_address_size bits state) t.disp)
operand_by bits row state t kind AsWritten imm = Imm (little_endian imm)
operand_by bits row state t kind Extended imm = Imm (sign_extended (width (state_size bits row state)) imm)
operand_by bits row state t kind NearTarget imm = near_target (state_size bits row state) t.next imm
operand_by bits row state t kind Pointer imm = far_pointer imm
operand_by bits row state t kind Fixed imm = Reg (register_of bits row state (file_of kind) (fixed_number kind))
operand_by bits row state t kind OneMethod imm = Imm 1

-- the bytes of the immediates before those of operand n
unfoldable pub immediates_before : Bits → Row → ℕ → ℕ
immediates_before size row n =
    if n == 0 then 0 else (immediate_bytes size (kind_at row 0)
    + (if n == 1 then 0 else (immediate_bytes size (kind_at row 1)
    + (if n == 2 then 0 else immediate_bytes size (kind_at row 2)))))

-- the bytes of the immediates that are those of operand n
unfoldable pub own_immediate : Bits → Row → ℕ → List ℕ → List ℕ
own_immediate size row n imm =
    take (immediate_bytes size (kind_at row n)) (drop (immediates_before size row n) imm)

-- operand n
unfoldable pub operand_at : Bits → Row → PrefixState → Tail → List ℕ → ℕ → Operand
operand_at bits row state t imm n =
    operand_by bits row state t (kind_at row n) (method_of (kind_at row n))
    (own_immediate (state_size bits row state) row n imm)

-- ---- the instruction

-- the classes any and NF3 keep the counting repeat prefix, and no other does
unfoldable pub kept_repeat : Class → Rep → Rep
kept_repeat AnyClass rep = rep
kept_repeat Nf3 rep = rep
kept_repeat _ rep = NoRep

-- some operand is memory
unfoldable pub has_memory : Row → Option ModRm → Bool
has_memory row m = list_any (λ kind. is_memory_method (method_of kind) m) row.ops

-- the address size, where the instruction has a memory operand or the row the mark a
unfoldable pub kept_address_size : Bits → Row → PrefixState → Option ModRm → Option Bits
kept_address_size bits row state m =
    if has_memory row m || has_address_mark row then Some (state_address_size bits state) else None

-- what a state, a tail and its immediates mean
unfoldable pub instr_of : Bits → Code → Row → PrefixState → Tail → List ℕ → Instr
instr_of bits code row state t imm = record {
  code = code;
  ops = operand_at bits row state t imm 0 ∷ operand_at bits row state t imm 1 ∷ operand_at bits row state t imm 2
      ∷ operand_at bits row state t imm 3 ∷ [];
  lock = state.lock;
  rep = kept_repeat row.class state.rep;
  seg = state.seg;
  asize = kept_address_size bits row state t.modrm;
}

-- the next address of an instruction of n bytes
abbrev pub next_address : Bits → ℕ → ℕ → ℕ
next_address bits ip n = modulo_width bits (ip + n)

-- what stands behind the opcode byte of a spelling
abbrev pub tail_of : Bits → ℕ → Row → Spelling → Tail
tail_of bits ip row s = record {
  modrm = s.modrm;
  sib = s.sib;
  disp = s.disp.items;
  next = next_address bits ip (length (bytes_of row s));
}

-- what a spelling means at an address
unfoldable pub meaning : Bits → ℕ → Code → Row → Spelling → Instr
meaning bits ip code row s =
    instr_of bits code row (state_of bits row s) (tail_of bits ip row s) s.imm.items
