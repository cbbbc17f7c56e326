-- The registers and addresses that a fitting spelling names have numbers of their class.
use Rattle.std.proofs.Common.{◌≡◌, ℕ, zero, suc, ◌-◌, ◌%◌, ◌^◌, ◌<◌, Bool, true, false, ◌&&◌, ◌==◌, nat_lt, List, Option, Some, None, refl, arith, if◌then◌else◌}
use Rattle.x86_values.specs.declared.Bits.{Bits}
use Rattle.x86_values.specs.declared.Bits.TheVariants.{B16, B32, B64}
use Rattle.x86_values.specs.declared.Register.{Register}
use Rattle.x86_values.specs.declared.Register.TheVariants.{Low8, High8, R16}
use Rattle.x86_values.specs.declared.Mem.{Mem}
use Rattle.x86_values.specs.declared.Operand.TheVariants.{Mem as MemOperand}
use Rattle.instruction_parts.specs.declared.row_types.Row.{Row}
use Rattle.instruction_parts.specs.declared.row_types.LBit.{LBit}
use Rattle.instruction_parts.specs.declared.row_types.LBit.TheVariants.{None as NoL, L128, L256, Lig, Lz}
use Rattle.instruction_parts.specs.declared.kinds.File.{File}
use Rattle.instruction_parts.specs.declared.kinds.File.TheVariants.{Byte as ByteFile, Word as WordFile, Dword as DwordFile, Qword as QwordFile, OperandSize as OperandSizeFile, WordOrDword as WordOrDwordFile, ByW as ByWFile, Native as NativeFile, Segment as SegmentFile, Control as ControlFile, Debug as DebugFile, Stack as StackFile, Mmx as MmxFile, Xmm as XmmFile, Vector as VectorFile}
use Rattle.instruction_parts.specs.declared.spelling.Vex.{Vex}
use Rattle.instruction_parts.specs.declared.spelling.ModRm.{ModRm}
use Rattle.instruction_parts.specs.declared.spelling.Sib.{Sib}
use Rattle.instruction_parts.specs.declared.spelling.PrefixState.{PrefixState}
use Rattle.instruction_parts.specs.Sizes.{state_size, bit_x, bit_b, bit_w, shared_bit}
use Rattle.row_fit.specs.Fits.{with_high_bit, is_displacement_alone, index_number}
use Rattle.row_meaning.specs.Meaning.{general_register, byte_register, vector, word_or_dword, size_by_w, native_size, register_of, base_16, index_16, memory_16, ip_or_absolute, scale_of, sib_base, sib_index, memory_with_sib, memory_at_base, memory_wide, memory_of, memory_absolute}
use Rattle.plain_spelling.specs.Forms.{is_scale}
use Rattle.opcode_rows.specs.Allowed.{is_named, is_named_if, has_numbers}

-- a number below another tests as below it
pub lt_true : (a b : ℕ) → a < b → nat_lt a b ≡ true
lt_true a b h = grind (arith, h)

-- two tests that hold hold together
pub both : (a b : Bool) → a ≡ true → b ≡ true → (a && b) ≡ true
both a b ha hb = rw (ha, hb)

-- ---- registers

general_named : (size : Bits) (n : ℕ) → n < 16 → is_named (general_register size n) ≡ true
unfolding is_named general_register
general_named B16 n h = lt_true n 16 h
general_named B32 n h = lt_true n 16 h
general_named B64 n h = lt_true n 16 h

vector_named : (l : LBit) (n : ℕ) → n < 16 → is_named (vector l n) ≡ true
unfolding is_named vector
vector_named NoL n h = lt_true n 16 h
vector_named L128 n h = lt_true n 16 h
vector_named L256 n h = lt_true n 16 h
vector_named Lig n h = lt_true n 16 h
vector_named Lz n h = lt_true n 16 h

byte_by_test : (n : ℕ) (test : Bool) → nat_lt n 4 ≡ test → n < 8 → is_named (if test then Low8 n else High8 (n - 4)) ≡ true
unfolding is_named
byte_by_test n true e h = lt_true n 16 (omega arith)
byte_by_test n false e h = lt_true (n - 4) 4 (omega arith)

byte_named : (rex : Option ℕ) (n : ℕ) → n < 16 → (rex ≡ None → n < 8) → is_named (byte_register rex n) ≡ true
unfolding is_named byte_register
byte_named (Some rex) n h low = lt_true n 16 h
byte_named None n h low = byte_by_test n (nat_lt n 4) refl (low refl)

-- the number is below 16, and below 8 where the register is a byte register without a REX or a debug register
pub record IsNumber (state : PrefixState) (file : File) (n : ℕ) : Type 0 where
  pub small : n < 16
  pub byte : file ≡ ByteFile → state.rex ≡ None → n < 8
  pub debug : file ≡ DebugFile → n < 8

-- a register of a file with a number that the fields can hold is named
pub register_named : (bits : Bits) (row : Row) (state : PrefixState) (file : File) (n : ℕ) → IsNumber state file n → is_named (register_of bits row state file n) ≡ true
unfolding is_named register_of
register_named bits row state ByteFile n h = byte_named state.rex n h.small (h.byte refl)
register_named bits row state WordFile n h = lt_true n 16 h.small
register_named bits row state DwordFile n h = lt_true n 16 h.small
register_named bits row state QwordFile n h = lt_true n 16 h.small
register_named bits row state OperandSizeFile n h = general_named (state_size bits row state) n h.small
register_named bits row state WordOrDwordFile n h = general_named (word_or_dword (state_size bits row state)) n h.small
register_named bits row state ByWFile n h = general_named (size_by_w (bit_w bits state)) n h.small
register_named bits row state NativeFile n h = general_named (native_size bits) n h.small
register_named bits row state SegmentFile n h = refl
register_named bits row state ControlFile n h = lt_true n 16 h.small
register_named bits row state DebugFile n h = lt_true n 8 (h.debug refl)
register_named bits row state StackFile n h = lt_true (n % 8) 8 (omega arith)
register_named bits row state MmxFile n h = lt_true (n % 8) 8 (omega arith)
register_named bits row state XmmFile n h = lt_true n 16 h.small
register_named bits row state VectorFile n h = vector_named row.l n h.small

-- ---- numbers

-- three bits with an extending bit are below 16
pub extended_small : (b : Bool) (n : ℕ) → n < 8 → with_high_bit b n < 16
extended_small true n h = omega arith
extended_small false n h = omega arith

-- and below 8 without it
pub extended_low : (b : Bool) (n : ℕ) → b ≡ false → n < 8 → with_high_bit b n < 8
extended_low true n e h = cc
extended_low false n e h = omega arith

-- without VEX and REX no bit adds 8
pub no_bit : (field : Vex → Bool) (k : ℕ) (state : PrefixState) → state.vex ≡ None → state.rex ≡ None → shared_bit field k state ≡ false
no_bit field k state v r = rw (v, r)

-- ---- addresses

if_named : (test : Bool) (x y : Register) → is_named x ≡ true → is_named y ≡ true → is_named (if test then x else y) ≡ true
if_named true x y hx hy = hx
if_named false x y hx hy = hy

if_named_if : (test : Bool) (x y : Option Register) → is_named_if x ≡ true → is_named_if y ≡ true → is_named_if (if test then x else y) ≡ true
if_named_if true x y hx hy = hx
if_named_if false x y hx hy = hy

base_16_named : (rm : ℕ) → is_named (base_16 rm) ≡ true
unfolding base_16 is_named
base_16_named rm =
    if_named (rm == 0) (R16 3) _ refl (if_named (rm == 1) (R16 3) _ refl (if_named (rm == 2) (R16 5) _ refl (if_named (rm == 3) (R16 5) _ refl
    (if_named (rm == 4) (R16 6) _ refl (if_named (rm == 5) (R16 7) _ refl (if_named (rm == 6) (R16 5) (R16 3) refl refl))))))

index_16_named : (rm : ℕ) → is_named_if (index_16 rm) ≡ true
unfolding index_16 is_named is_named_if
index_16_named rm =
    if_named_if (rm == 0) (Some (R16 6)) _ refl (if_named_if (rm == 1) (Some (R16 7)) _ refl (if_named_if (rm == 2) (Some (R16 6)) _ refl
    (if_named_if (rm == 3) (Some (R16 7)) None refl refl)))

-- the scale is one, and base and index have numbers of their class
pub record IsAddress (m : Mem) : Type 0 where
  pub scale : is_scale m.scale ≡ true
  pub base : is_named_if m.base ≡ true
  pub index : is_named_if m.index ≡ true

-- the registers of an address have numbers of their classes
pub address_numbers : (m : Mem) → IsAddress m → has_numbers (MemOperand m) ≡ true
unfolding has_numbers
address_numbers m h = both _ _ h.scale (both _ _ h.base h.index)

if_address : (test : Bool) (x y : Mem) → IsAddress x → IsAddress y → IsAddress (if test then x else y)
if_address true x y hx hy = hx
if_address false x y hx hy = hy

memory_16_address : (m : ModRm) (disp : List ℕ) → IsAddress (memory_16 m disp)
unfolding memory_16 is_named_if
memory_16_address m disp =
    if_address (is_displacement_alone B16 m None) _ _ (record { scale = refl; base = refl; index = refl })
    (record { scale = refl; base = base_16_named m.rm; index = index_16_named m.rm })

scale_small : (k : ℕ) → k < 4 → is_scale (2 ^ k) ≡ true
scale_small zero h = refl
scale_small (suc zero) h = refl
scale_small (suc (suc zero)) h = refl
scale_small (suc (suc (suc zero))) h = refl
scale_small (suc (suc (suc (suc k)))) h = absurd (omega arith)

scale_of_is : (index : Option Register) (s : Sib) → s.scale < 4 → is_scale (scale_of index s) ≡ true
scale_of_is None s h = refl
scale_of_is (Some r) s h = scale_small s.scale h

-- the fields of a SIB are values of theirs
pub record SibRange (s : Sib) : Type 0 where
  pub scale : s.scale < 4
  pub index : s.index < 8
  pub base : s.base < 8

sib_base_named : (bits asize : Bits) (state : PrefixState) (m : ModRm) (s : Sib) → s.base < 8 → is_named_if (sib_base bits asize state m s) ≡ true
unfolding sib_base is_named_if
sib_base_named bits asize state m s h =
    if_named_if (m.mode3 == 0 && s.base == 5) None _ refl (general_named asize _ (extended_small (bit_b bits state) s.base h))

sib_index_named : (asize : Bits) (state : PrefixState) (s : Sib) → s.index < 8 → is_named_if (sib_index asize state s) ≡ true
unfolding sib_index is_named_if index_number
sib_index_named asize state s h =
    if_named_if (with_high_bit (bit_x state) s.index == 4) None _ refl (general_named asize _ (extended_small (bit_x state) s.index h))

-- a memory operand with a SIB is an address
pub with_sib_address : (bits asize : Bits) (state : PrefixState) (index : Option Register) (m : ModRm) (s : Sib) (disp : List ℕ) → SibRange s → is_named_if index ≡ true → IsAddress (memory_with_sib bits asize state index m s disp)
unfolding memory_with_sib
with_sib_address bits asize state index m s disp r named =
    record { scale = scale_of_is index s r.scale; base = sib_base_named bits asize state m s r.base; index = named }

alone_address : (bits asize : Bits) (next : ℕ) (disp : List ℕ) → IsAddress (ip_or_absolute bits asize next disp)
unfolding ip_or_absolute is_named_if is_named
alone_address B16 asize next disp = record { scale = refl; base = refl; index = refl }
alone_address B32 asize next disp = record { scale = refl; base = refl; index = refl }
alone_address B64 B16 next disp = record { scale = refl; base = refl; index = refl }
alone_address B64 B32 next disp = record { scale = refl; base = refl; index = refl }
alone_address B64 B64 next disp = record { scale = refl; base = refl; index = refl }

at_base_address : (bits asize : Bits) (state : PrefixState) (m : ModRm) (disp : List ℕ) → m.rm < 8 → IsAddress (memory_at_base bits asize state m disp)
unfolding memory_at_base is_named_if
at_base_address bits asize state m disp h =
    record { scale = refl; base = general_named asize _ (extended_small (bit_b bits state) m.rm h); index = refl }

-- a SIB that may be absent has fields of theirs
abbrev pub SibRangeIf : Option Sib → Type 0
SibRangeIf None = Unit {0}
SibRangeIf (Some s) = SibRange s

wide_address : (bits asize : Bits) (state : PrefixState) (m : ModRm) (sib : Option Sib) (next : ℕ) (disp : List ℕ) → m.rm < 8 → SibRangeIf sib → IsAddress (memory_wide bits asize state m sib next disp)
unfolding memory_wide
wide_address bits asize state m (Some s) next disp h r = with_sib_address bits asize state (sib_index asize state s) m s disp r (sib_index_named asize state s r.index)
wide_address bits asize state m None next disp h r = if_address (m.mode3 == 0 && m.rm == 5) _ _ (alone_address bits asize next disp) (at_base_address bits asize state m disp h)

-- so is each memory operand that ModRM names
pub memory_address : (bits asize : Bits) (state : PrefixState) (m : ModRm) (sib : Option Sib) (next : ℕ) (disp : List ℕ) → m.rm < 8 → SibRangeIf sib → IsAddress (memory_of bits asize state m sib next disp)
unfolding memory_of
memory_address bits B16 state m sib next disp h r = memory_16_address m disp
memory_address bits B32 state m sib next disp h r = wide_address bits B32 state m sib next disp h r
memory_address bits B64 state m sib next disp h r = wide_address bits B64 state m sib next disp h r

-- and an absolute one
pub absolute_address : (asize : Bits) (disp : List ℕ) → IsAddress (memory_absolute asize disp)
unfolding memory_absolute is_named_if
absolute_address asize disp = record { scale = refl; base = refl; index = refl }
