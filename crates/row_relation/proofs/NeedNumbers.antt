-- The registers that a fitting spelling names have numbers of at least 8 only where a bit adds 8.
use Rattle.std.proofs.Common.{◌≡◌, ℕ, zero, suc, ◌+◌, ◌-◌, ◌*◌, ◌%◌, ◌<◌, ◌≤◌, Bool, true, false, ◌&&◌, ◌==◌, nat_le, nat_lt, List, Option, Some, None, refl, arith, if◌then◌else◌}
use Rattle.std.proofs.lemmas.Bool.{leb-true, ltb-false, and_parts}
use borrow.Author.Tests.{ltb-true}
use Rattle.x86_values.specs.declared.Bits.{Bits}
use Rattle.x86_values.specs.declared.Bits.TheVariants.{B16, B32, B64}
use Rattle.x86_values.specs.declared.Register.{Register}
use Rattle.x86_values.specs.declared.Register.TheVariants.{Low8, High8}
use Rattle.x86_values.specs.declared.Mem.{Mem}
use Rattle.x86_values.specs.declared.Operand.{Operand}
use Rattle.x86_values.specs.declared.Operand.TheVariants.{Reg}
use Rattle.x86_values.specs.Registers.{segment_number}
use Rattle.instruction_parts.specs.declared.row_types.Row.{Row}
use Rattle.instruction_parts.specs.declared.row_types.LBit.{LBit}
use Rattle.instruction_parts.specs.declared.row_types.LBit.TheVariants.{None as NoL, L128, L256, Lig, Lz}
use Rattle.instruction_parts.specs.declared.row_types.OpKind.{OpKind}
use Rattle.instruction_parts.specs.declared.kinds.Method.{Method}
use Rattle.instruction_parts.specs.declared.kinds.Method.TheVariants as method
use Rattle.instruction_parts.specs.declared.kinds.File.{File}
use Rattle.instruction_parts.specs.declared.kinds.File.TheVariants as file
use Rattle.instruction_parts.specs.declared.spelling.ModRm.{ModRm}
use Rattle.instruction_parts.specs.declared.spelling.Sib.{Sib}
use Rattle.instruction_parts.specs.declared.spelling.PrefixState.{PrefixState}
use Rattle.instruction_parts.specs.Kinds.{file_of}
use Rattle.instruction_parts.specs.Sizes.{state_size, state_address_size, bit_r, bit_x, bit_b, bit_w}
use Rattle.row_fit.specs.Fits.{with_high_bit, has_modrm, reg_field, rm_field, reg_number, rm_number, index_number, is_displacement_alone, modrm_in_range, sib_in_range}
use Rattle.row_meaning.specs.Meaning.{general_register, byte_register, vector, word_or_dword, size_by_w, native_size, segment_numbered, register_of, base_16, index_16, memory_16, ip_or_absolute, sib_base, sib_index, memory_with_sib, memory_at_base, memory_wide, memory_of, memory_absolute, with_modrm, memory_operand, gather_memory, near_target, far_pointer, Tail, operand_by}
use Rattle.plain_spelling.specs.PlainFront.{register_number, number_or_zero, base_or_register_number, operand_index_number, number_in_reg, number_in_rm, number_in_index}

-- ---- registers

-- a general register has the number that it is made from
pub number-general_register : (size : Bits) (n : ℕ) → register_number (general_register size n) ≡ n
unfolding register_number general_register
number-general_register B16 n = refl
number-general_register B32 n = refl
number-general_register B64 n = refl

-- so has a vector register
pub number-vector : (l : LBit) (n : ℕ) → register_number (vector l n) ≡ n
unfolding register_number vector
number-vector NoL n = refl
number-vector L128 n = refl
number-vector L256 n = refl
number-vector Lig n = refl
number-vector Lz n = refl

byte_by_test : (n : ℕ) (test : Bool) → nat_lt n 4 ≡ test → register_number (if test then Low8 n else High8 (n - 4)) ≡ n
unfolding register_number
byte_by_test n true e = refl
byte_by_test n false e = let h : 4 ≤ n = ltb-false n 4 e in omega arith

-- so has a byte register
pub number-byte : (rex : Option ℕ) (n : ℕ) → register_number (byte_register rex n) ≡ n
unfolding register_number byte_register
number-byte (Some rex) n = refl
number-byte None n = byte_by_test n (nat_lt n 4) refl

-- the number of a segment register is at most the one that it is made from
pub segment_numbered-below : (n : ℕ) → n < 8 → segment_number (segment_numbered n) ≤ n
unfolding segment_numbered
segment_numbered-below zero h = omega arith
segment_numbered-below (suc zero) h = omega arith
segment_numbered-below (suc (suc zero)) h = omega arith
segment_numbered-below (suc (suc (suc zero))) h = omega arith
segment_numbered-below (suc (suc (suc (suc zero)))) h = omega arith
segment_numbered-below (suc (suc (suc (suc (suc zero))))) h = omega arith
segment_numbered-below (suc (suc (suc (suc (suc (suc zero)))))) h = omega arith
segment_numbered-below (suc (suc (suc (suc (suc (suc (suc zero))))))) h = omega arith
segment_numbered-below (suc (suc (suc (suc (suc (suc (suc (suc n)))))))) h = absurd (omega arith)

-- a register's number is at most the number that names it
pub number-le : (bits : Bits) (row : Row) (st : PrefixState) (f : File) (n : ℕ) → register_number (register_of bits row st f n) ≤ n
unfolding register_of register_number
number-le bits row st file.Byte n = let e = number-byte st.rex n in omega arith
number-le bits row st file.Word n = omega arith
number-le bits row st file.Dword n = omega arith
number-le bits row st file.Qword n = omega arith
number-le bits row st file.OperandSize n = let e = number-general_register (state_size bits row st) n in omega arith
number-le bits row st file.WordOrDword n = let e = number-general_register (word_or_dword (state_size bits row st)) n in omega arith
number-le bits row st file.ByW n = let e = number-general_register (size_by_w (bit_w bits st)) n in omega arith
number-le bits row st file.Native n = let e = number-general_register (native_size bits) n in omega arith
number-le bits row st file.Segment n = let e = segment_numbered-below (n % 8) (omega arith) in omega arith
number-le bits row st file.Control n = omega arith
number-le bits row st file.Debug n = omega arith
number-le bits row st file.Stack n = omega arith
number-le bits row st file.Mmx n = omega arith
number-le bits row st file.Xmm n = omega arith
number-le bits row st file.Vector n = let e = number-vector row.l n in omega arith

-- ---- what a number asks of a bit

-- the bit stands where the number is at least 8
abbrev pub Needs : Bool → ℕ → Type 0
Needs b n = nat_le 8 n ≡ true → b ≡ true

-- a number below 8 needs no extending bit
pub needs_small : (b : Bool) (n : ℕ) → n < 8 → Needs b n
needs_small b n h = λ e. let k : 8 ≤ n = leb-true 8 n e in absurd (omega arith)

-- a smaller number needs no more
pub needs_le : (b : Bool) (n m : ℕ) → n ≤ m → m < 8 + 8 * (if b then 1 else 0) → Needs b n
needs_le true n m h k = λ e. refl
needs_le false n m h k = needs_small false n (omega arith)

-- three bits with an extending bit need at most that bit
pub extended_needs : (b : Bool) (n : ℕ) → n < 8 → with_high_bit b n < 8 + 8 * (if b then 1 else 0)
extended_needs true n h = omega arith
extended_needs false n h = omega arith

-- a register with an extended number needs the bit
pub register_needs : (bits : Bits) (row : Row) (st : PrefixState) (f : File) (b : Bool) (n : ℕ) → n < 8 → Needs b (register_number (register_of bits row st f (with_high_bit b n)))
register_needs bits row st f b n h =
    needs_le b _ (with_high_bit b n) (number-le bits row st f (with_high_bit b n)) (extended_needs b n h)

-- so does a general register of that number
pub general_needs : (size : Bits) (b : Bool) (n : ℕ) → n < 8 → Needs b (register_number (general_register size (with_high_bit b n)))
general_needs size b n h =
    needs_le b _ (with_high_bit b n) (let e = number-general_register size (with_high_bit b n) in omega arith) (extended_needs b n h)

-- ---- fields

-- the field reg is below 8
pub reg_small : (m : Option ModRm) → modrm_in_range m ≡ true → reg_field m < 8
unfolding modrm_in_range
reg_small None h = omega arith
reg_small (Some m) h =
    ltb-true m.reg 8 (and_parts (nat_lt m.reg 8) (nat_lt m.rm 8) (and_parts (nat_lt m.mode3 4) (nat_lt m.reg 8 && nat_lt m.rm 8) h).1).0

-- so is the field r/m
pub rm_small : (m : Option ModRm) → modrm_in_range m ≡ true → rm_field m < 8
unfolding modrm_in_range
rm_small None h = omega arith
rm_small (Some m) h =
    ltb-true m.rm 8 (and_parts (nat_lt m.reg 8) (nat_lt m.rm 8) (and_parts (nat_lt m.mode3 4) (nat_lt m.reg 8 && nat_lt m.rm 8) h).1).1

-- so is the index of a SIB
pub sib_index_small : (s : Sib) → sib_in_range (Some s) ≡ true → s.index < 8
unfolding sib_in_range
sib_index_small s h =
    ltb-true s.index 8 (and_parts (nat_lt s.index 8) (nat_lt s.base 8) (and_parts (nat_lt s.scale 4) (nat_lt s.index 8 && nat_lt s.base 8) h).1).0

-- so is its base
pub sib_base_small : (s : Sib) → sib_in_range (Some s) ≡ true → s.base < 8
unfolding sib_in_range
sib_base_small s h =
    ltb-true s.base 8 (and_parts (nat_lt s.index 8) (nat_lt s.base 8) (and_parts (nat_lt s.scale 4) (nat_lt s.index 8 && nat_lt s.base 8) h).1).1

-- ---- addresses

-- what holds of both values of a choice holds of the choice
pub if_holds : {T : Type 0} → (P : T → Type 0) (test : Bool) (x y : T) → P x → P y → P (if test then x else y)
if_holds P true x y hx hy = hx
if_holds P false x y hx hy = hy

-- base and index of an address need the bits
pub record AddressNeeds (b x : Bool) (m : Mem) : Type 0 where
  pub base : Needs b (number_or_zero m.base)
  pub index : Needs x (number_or_zero m.index)

no_number : (b : Bool) → Needs b 0
no_number b = needs_small b 0 (omega arith)

base_16-low : (rm : ℕ) → register_number (base_16 rm) < 8
unfolding base_16 register_number
base_16-low rm =
    if_holds (λ (r : Register). register_number r < 8) (rm == 0) _ _ (omega arith) (if_holds (λ (r : Register). register_number r < 8) (rm == 1) _ _ (omega arith)
    (if_holds (λ (r : Register). register_number r < 8) (rm == 2) _ _ (omega arith) (if_holds (λ (r : Register). register_number r < 8) (rm == 3) _ _ (omega arith)
    (if_holds (λ (r : Register). register_number r < 8) (rm == 4) _ _ (omega arith) (if_holds (λ (r : Register). register_number r < 8) (rm == 5) _ _ (omega arith)
    (if_holds (λ (r : Register). register_number r < 8) (rm == 6) _ _ (omega arith) (omega arith)))))))

index_16-low : (rm : ℕ) → number_or_zero (index_16 rm) < 8
unfolding index_16 register_number
index_16-low rm =
    if_holds (λ (r : Option Register). number_or_zero r < 8) (rm == 0) _ _ (omega arith) (if_holds (λ (r : Option Register). number_or_zero r < 8) (rm == 1) _ _ (omega arith)
    (if_holds (λ (r : Option Register). number_or_zero r < 8) (rm == 2) _ _ (omega arith) (if_holds (λ (r : Option Register). number_or_zero r < 8) (rm == 3) _ _ (omega arith) (omega arith))))

memory_16-needs : (b x : Bool) (m : ModRm) (disp : List ℕ) → AddressNeeds b x (memory_16 m disp)
unfolding memory_16
memory_16-needs b x m disp =
    if_holds (AddressNeeds b x) (is_displacement_alone B16 m None) _ _
    (record { base = no_number b; index = no_number x })
    (record { base = needs_small b _ (base_16-low m.rm); index = needs_small x _ (index_16-low m.rm) })

sib_base-needs : (bits asize : Bits) (st : PrefixState) (m : ModRm) (s : Sib) → s.base < 8 → Needs (bit_b bits st) (number_or_zero (sib_base bits asize st m s))
unfolding sib_base
sib_base-needs bits asize st m s h =
    if_holds (λ (r : Option Register). Needs (bit_b bits st) (number_or_zero r)) (m.mode3 == 0 && s.base == 5) _ _
    (no_number (bit_b bits st)) (general_needs asize (bit_b bits st) s.base h)

sib_index-needs : (asize : Bits) (st : PrefixState) (s : Sib) → s.index < 8 → Needs (bit_x st) (number_or_zero (sib_index asize st s))
unfolding sib_index index_number
sib_index-needs asize st s h =
    if_holds (λ (r : Option Register). Needs (bit_x st) (number_or_zero r)) (with_high_bit (bit_x st) s.index == 4) _ _
    (no_number (bit_x st)) (general_needs asize (bit_x st) s.index h)

with_sib-needs : (bits asize : Bits) (st : PrefixState) (index : Option Register) (m : ModRm) (s : Sib) (disp : List ℕ) → s.base < 8 → Needs (bit_x st) (number_or_zero index) → AddressNeeds (bit_b bits st) (bit_x st) (memory_with_sib bits asize st index m s disp)
unfolding memory_with_sib
with_sib-needs bits asize st index m s disp h k = record { base = sib_base-needs bits asize st m s h; index = k }

alone-needs : (b x : Bool) (bits asize : Bits) (next : ℕ) (disp : List ℕ) → AddressNeeds b x (ip_or_absolute bits asize next disp)
unfolding ip_or_absolute register_number
alone-needs b x B16 asize next disp = record { base = no_number b; index = no_number x }
alone-needs b x B32 asize next disp = record { base = no_number b; index = no_number x }
alone-needs b x B64 B16 next disp = record { base = no_number b; index = no_number x }
alone-needs b x B64 B32 next disp = record { base = no_number b; index = no_number x }
alone-needs b x B64 B64 next disp = record { base = no_number b; index = no_number x }

at_base-needs : (bits asize : Bits) (x : Bool) (st : PrefixState) (m : ModRm) (disp : List ℕ) → m.rm < 8 → AddressNeeds (bit_b bits st) x (memory_at_base bits asize st m disp)
unfolding memory_at_base
at_base-needs bits asize x st m disp h = record { base = general_needs asize (bit_b bits st) m.rm h; index = no_number x }

wide-needs : (bits asize : Bits) (st : PrefixState) (m : ModRm) (sib : Option Sib) (next : ℕ) (disp : List ℕ) → m.rm < 8 → sib_in_range sib ≡ true → AddressNeeds (bit_b bits st) (bit_x st) (memory_wide bits asize st m sib next disp)
unfolding memory_wide
wide-needs bits asize st m (Some s) next disp h r =
    with_sib-needs bits asize st (sib_index asize st s) m s disp (sib_base_small s r) (sib_index-needs asize st s (sib_index_small s r))
wide-needs bits asize st m None next disp h r =
    if_holds (AddressNeeds (bit_b bits st) (bit_x st)) (m.mode3 == 0 && m.rm == 5) _ _ (alone-needs (bit_b bits st) (bit_x st) bits asize next disp)
    (at_base-needs bits asize (bit_x st) st m disp h)

-- a memory operand needs at most the bits that it is read with
pub memory-needs : (bits asize : Bits) (st : PrefixState) (m : ModRm) (sib : Option Sib) (next : ℕ) (disp : List ℕ) → m.rm < 8 → sib_in_range sib ≡ true → AddressNeeds (bit_b bits st) (bit_x st) (memory_of bits asize st m sib next disp)
unfolding memory_of
memory-needs bits B16 st m sib next disp h r = memory_16-needs (bit_b bits st) (bit_x st) m disp
memory-needs bits B32 st m sib next disp h r = wide-needs bits B32 st m sib next disp h r
memory-needs bits B64 st m sib next disp h r = wide-needs bits B64 st m sib next disp h r

-- ---- operands

-- a memory operand needs the bits that its address needs, and a register operand the bit B
pub record OperandNeeds (b x : Bool) (op : Operand) : Type 0 where
  pub base : Needs b (base_or_register_number op)
  pub index : Needs x (operand_index_number op)

memory_operand-needs : (bits : Bits) (st : PrefixState) (m : Option ModRm) (sib : Option Sib) (disp : List ℕ) (next : ℕ) → modrm_in_range m ≡ true → sib_in_range sib ≡ true → OperandNeeds (bit_b bits st) (bit_x st) (memory_operand bits st m sib disp next)
unfolding memory_operand
memory_operand-needs bits st None sib disp next h r = record { base = no_number (bit_b bits st); index = no_number (bit_x st) }
memory_operand-needs bits st (Some m) sib disp next h r =
    let a = memory-needs bits (state_address_size bits st) st m sib next disp (rm_small (Some m) h) r in
    record { base = a.base; index = a.index }

gather_index : (bits : Bits) (row : Row) (st : PrefixState) (f : File) (s : Sib) → s.index < 8 → Needs (bit_x st) (register_number (register_of bits row st f (index_number st (Some s))))
unfolding index_number
gather_index bits row st f s h = register_needs bits row st f (bit_x st) s.index h

gather-needs : (bits : Bits) (row : Row) (st : PrefixState) (f : File) (m : Option ModRm) (sib : Option Sib) (disp : List ℕ) → sib_in_range sib ≡ true → OperandNeeds (bit_b bits st) (bit_x st) (with_modrm (λ m. gather_memory bits row st f m sib disp) m)
unfolding gather_memory
gather-needs bits row st f None sib disp r = record { base = no_number (bit_b bits st); index = no_number (bit_x st) }
gather-needs bits row st f (Some m) None disp r = record { base = no_number (bit_b bits st); index = no_number (bit_x st) }
gather-needs bits row st f (Some m) (Some s) disp r =
    let a = with_sib-needs bits (state_address_size bits st) st (Some (register_of bits row st f (index_number st (Some s)))) m s disp (sib_base_small s r)
    (gather_index bits row st f s (sib_index_small s r)) in
    record { base = a.base; index = a.index }

register-needs : (bits : Bits) (row : Row) (st : PrefixState) (x : Bool) (f : File) (b : Bool) (n : ℕ) → n < 8 → OperandNeeds b x (Reg (register_of bits row st f (with_high_bit b n)))
register-needs bits row st x f b n h = record { base = register_needs bits row st f b n h; index = no_number x }

-- what stands behind the opcode byte has fields in their ranges
pub record InRange (t : Tail) : Type 0 where
  pub modrm : modrm_in_range t.modrm ≡ true
  pub sib : sib_in_range t.sib ≡ true

either_operand-needs : (bits : Bits) (row : Row) (st : PrefixState) (t : Tail) (f : File) → InRange t → OperandNeeds (bit_b bits st) (bit_x st) (if has_modrm (λ m. nat_lt m.mode3 3) t.modrm then memory_operand bits st t.modrm t.sib t.disp t.next else Reg (register_of bits row st f (rm_number bits st t.modrm)))
unfolding rm_number
either_operand-needs bits row st t f r =
    if_holds (OperandNeeds (bit_b bits st) (bit_x st)) (has_modrm (λ m. nat_lt m.mode3 3) t.modrm) _ _
    (memory_operand-needs bits st t.modrm t.sib t.disp t.next r.modrm r.sib)
    (register-needs bits row st (bit_x st) f (bit_b bits st) (rm_field t.modrm) (rm_small t.modrm r.modrm))

-- **what an operand asks of ModRM.reg**
pub asks_reg : (bits : Bits) (row : Row) (st : PrefixState) (t : Tail) (kind : OpKind) (how : Method) (imm : List ℕ) → InRange t → Needs (bit_r st) (number_in_reg how (operand_by bits row st t kind how imm))
unfolding number_in_reg operand_by reg_number
asks_reg bits row st t kind method.ModRmReg imm r = register_needs bits row st (file_of kind) (bit_r st) (reg_field t.modrm) (reg_small t.modrm r.modrm)
asks_reg bits row st t kind _ imm r = no_number (bit_r st)

-- **what an operand asks of B**
pub asks_rm : (bits : Bits) (row : Row) (st : PrefixState) (t : Tail) (kind : OpKind) (how : Method) (imm : List ℕ) → InRange t → Needs (bit_b bits st) (number_in_rm how (operand_by bits row st t kind how imm))
unfolding number_in_rm operand_by rm_number
asks_rm bits row st t kind method.RegisterOrMemory imm r = (either_operand-needs bits row st t (file_of kind) r).base
asks_rm bits row st t kind method.RegisterOnly imm r = register_needs bits row st (file_of kind) (bit_b bits st) (rm_field t.modrm) (rm_small t.modrm r.modrm)
asks_rm bits row st t kind method.AnyMode imm r = register_needs bits row st (file_of kind) (bit_b bits st) (rm_field t.modrm) (rm_small t.modrm r.modrm)
asks_rm bits row st t kind method.MemoryOnly imm r = (memory_operand-needs bits st t.modrm t.sib t.disp t.next r.modrm r.sib).base
asks_rm bits row st t kind method.Gather imm r = (gather-needs bits row st (file_of kind) t.modrm t.sib t.disp r.sib).base
asks_rm bits row st t kind method.OpcodeLow imm r = register_needs bits row st (file_of kind) (bit_b bits st) (st.opcode % 8) (omega arith)
asks_rm bits row st t kind _ imm r = no_number (bit_b bits st)

-- **what an operand asks of X**
pub asks_index : (bits : Bits) (row : Row) (st : PrefixState) (t : Tail) (kind : OpKind) (how : Method) (imm : List ℕ) → InRange t → Needs (bit_x st) (number_in_index how (operand_by bits row st t kind how imm))
unfolding number_in_index operand_by memory_absolute near_target far_pointer
asks_index bits row st t kind method.RegisterOrMemory imm r = (either_operand-needs bits row st t (file_of kind) r).index
asks_index bits row st t kind method.MemoryOnly imm r = (memory_operand-needs bits st t.modrm t.sib t.disp t.next r.modrm r.sib).index
asks_index bits row st t kind method.Gather imm r = (gather-needs bits row st (file_of kind) t.modrm t.sib t.disp r.sib).index
asks_index bits row st t kind _ imm r = no_number (bit_x st)
