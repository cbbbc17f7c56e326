-- When an instruction has a plain spelling: ten conditions, in the order in which an encoder names them (Intel SDM volume 2, 2.1 to 2.3).
use Rattle.std.specs.Prelude.{◌≡◌, ℕ, ◌-◌, ◌*◌, ◌^◌, Bool, true, false, ◌&&◌, ◌||◌, not, ◌==◌, nat_le, nat_lt, if◌then◌else◌, Option, Some, None, is_none}
use Rattle.x86_values.specs.declared.Bits.{Bits}
use Rattle.x86_values.specs.declared.Register.{Register}
use Rattle.x86_values.specs.declared.Register.TheVariants.{Low8, Xmm, Ymm}
use Rattle.x86_values.specs.declared.Mem.{Mem}
use Rattle.x86_values.specs.declared.Operand.{Operand}
use Rattle.x86_values.specs.declared.Operand.TheVariants.{Absent, Reg, Mem as MemOperand, Imm, Near, Far}
use Rattle.x86_values.specs.declared.Instr.{Instr}
use Rattle.x86_values.specs.Wrapping.{width}
use Rattle.instruction_parts.specs.declared.row_types.Row.{Row}
use Rattle.instruction_parts.specs.declared.row_types.Class.TheVariants.{Any as AnyClass, Nf3}
use Rattle.instruction_parts.specs.declared.row_types.Plus.TheVariants.{Register as PlusRegister}
use Rattle.instruction_parts.specs.declared.row_types.OpKind.{OpKind}
use Rattle.instruction_parts.specs.declared.row_types.OpKind.TheVariants.{Ev, Gv, Rv, Sw, Cn, Dn}
use Rattle.instruction_parts.specs.declared.kinds.Method.{Method}
use Rattle.instruction_parts.specs.declared.kinds.Method.TheVariants as method
use Rattle.instruction_parts.specs.Kinds.{method_of, file_of, fixed_number}
use Rattle.instruction_parts.specs.Counting.{is_16, is_64, or_else}
use Rattle.instruction_parts.specs.Sizes.{exists_in, is_lockable, has_address_mark}
use Rattle.row_fit.specs.Fits.{kind_at, immediate_bytes, is_control_number, is_nop_byte, reads_by, is_gather, is_no_repeat, is_repeat_f3}
use Rattle.row_meaning.specs.Meaning.{register_of}
use Rattle.plain_spelling.specs.declared.NoSpelling.{NoSpelling}
use Rattle.plain_spelling.specs.declared.NoSpelling.TheVariants as cause
use Rattle.plain_spelling.specs.Values.{is_extended_of, distance}
use Rattle.x86_values.specs.Operands.{is_absent, is_memory}
use Rattle.plain_spelling.specs.Forms.{is_variant_of, operand_at}
use Rattle.x86_values.specs.Comparing.{same_bits, same_register}
use Rattle.plain_spelling.specs.PlainFront.{register_number, number_in_reg, number_in_vvvv, number_in_index, number_asked_of, asked_opcode, plain_front_of}
use Rattle.plain_spelling.specs.declared.addresses.AddressForm.TheVariants.{Relative}
use Rattle.plain_spelling.specs.Addresses.{form_of, register_count, has_address_size, is_address_register, pointer_size, shown_size, written_size, shape_suits, displacement_suits}
use Rattle.plain_spelling.specs.PlainTail.{plain_size, plain_len, plain_next}

-- ---- 1. the row exists in the mode

-- the row exists in the mode (3.1.1.3, 64/32-bit mode)
abbrev pub row_exists : Bits → Row → Bool
row_exists bits row = exists_in bits row

-- ---- 2. each operand has a variant that its kind allows

-- operand n has a variant that its kind allows
unfoldable pub kind_suits : Row → Instr → ℕ → Bool
kind_suits row i n = is_variant_of row.place (method_of (kind_at row n)) (operand_at i n)

-- ---- 3. each register operand is one that its kind can name in the mode

-- SPL to DIL and R8B to R15B exist in 64-bit mode alone (2.2.1.2)
unfoldable pub exists_in_mode : Bits → Register → Bool
exists_in_mode bits (Low8 n) = nat_lt n 4 || is_64 bits
exists_in_mode bits _ = true

-- the number that names a register by its kind: a fixed operand has its own
abbrev pub naming_number : Method → OpKind → Register → ℕ
naming_number method.Fixed kind r = fixed_number kind
naming_number _ kind r = register_number r

-- the register is the one that the kind names by this number under the plain prefixes: it has the kind's class, and AH, CH, DH and BH
-- have no partner that needs a REX (2.2.1.2)
unfoldable pub is_of_kind : Bits → Row → Instr → OpKind → Register → Bool
is_of_kind bits row i kind r =
    same_register r (register_of bits row (plain_front_of bits row i) (file_of kind) (naming_number (method_of kind) kind r))

-- XCHG of the opcode byte 90 cannot name register 0, which is NOP (XCHG)
unfoldable pub is_not_nop : Row → Method → Register → Bool
is_not_nop row method.OpcodeLow r = not (is_nop_byte row row.opcode && register_number r == 0)
is_not_nop row _ r = true

-- what a kind asks besides: a segment register that is written is not CS, the control registers that exist, a debug register without R
-- (2.2.2; MOV)
unfoldable pub kind_allows : Bits → ℕ → OpKind → Register → Bool
kind_allows bits n Sw r = not (n == 0 && register_number r == 1)
kind_allows bits n Cn r = is_control_number bits (register_number r)
kind_allows bits n Dn r = nat_lt (register_number r) 8
kind_allows bits n _ r = true

-- the register can be named as operand n
unfoldable pub is_nameable : Bits → Row → Instr → ℕ → Register → Bool
is_nameable bits row i n r =
    exists_in_mode bits r && (nat_lt (register_number r) (register_count bits)
    && (is_of_kind bits row i (kind_at row n) r && (is_not_nop row (method_of (kind_at row n)) r && kind_allows bits n (kind_at row n) r)))

-- the kind names general registers of operand size, and asks no more of them
abbrev pub names_any_sized : OpKind → Bool
names_any_sized Ev = true
names_any_sized Gv = true
names_any_sized Rv = true
names_any_sized _ = false

-- a general register of the operand size with a number of the mode, of which the kind names any: a register that can be named by its kind
unfoldable pub is_sized_register : Bits → Bits → OpKind → Register → Bool
is_sized_register bits size kind r = names_any_sized kind && is_address_register bits size r

-- XMM0 to XMM15 or YMM0 to YMM15
abbrev pub is_vector_register : Register → Bool
is_vector_register (Xmm n) = true
is_vector_register (Ymm n) = true
is_vector_register _ = false

-- a vector register that is read from ModRM.reg
unfoldable pub vector_in_reg : Method → Operand → Bool
vector_in_reg method.ModRmReg (Reg r) = is_vector_register r
vector_in_reg _ op = false

-- an address of a gather whose index is a vector register
unfoldable pub vector_in_index : Method → Operand → Bool
vector_in_index method.Gather (MemOperand m) = elim m.index [ None ↦ false | Some r ↦ is_vector_register r ]
vector_in_index _ op = false

-- a vector register that is read from vvvv
unfoldable pub vector_in_vvvv : Method → Operand → Bool
vector_in_vvvv method.Vvvv (Reg r) = is_vector_register r
vector_in_vvvv _ op = false

-- operand n, and how it is read, pass a test
abbrev pub passes : (Method → Operand → Bool) → Row → Instr → ℕ → Bool
passes p row i n = p (method_of (kind_at row n)) (operand_at i n)

-- the number that the instruction asks of a field, where an operand asks it for a vector register
abbrev pub asked_vector : (Method → Operand → Bool) → (Method → Operand → ℕ) → Row → Instr → Option ℕ
asked_vector is_vector number row i =
    if passes is_vector row i 0 || (passes is_vector row i 1 || (passes is_vector row i 2 || passes is_vector row i 3))
    then Some (number_asked_of number row i) else None

-- of two numbers one is absent, or they differ
abbrev pub differ : Option ℕ → Option ℕ → Bool
differ (Some m) (Some n) = not (m == n)
differ _ _ = true

-- of a gather's destination, index and mask those that are vector registers have numbers that differ pairwise (2.3.12)
unfoldable pub gather_numbers_differ : Row → Instr → Bool
gather_numbers_differ row i =
    let destination = asked_vector vector_in_reg number_in_reg row i in
    let index = asked_vector vector_in_index number_in_index row i in
    let mask = asked_vector vector_in_vvvv number_in_vvvv row i in
    differ destination index && (differ destination mask && differ index mask)

-- the rule on a gather's numbers counts with operand 0
abbrev pub gather_suits : Row → Instr → ℕ → Bool
gather_suits row i n = not (n == 0) || (not (reads_by is_gather row) || gather_numbers_differ row i)

-- operand n, where it is a register, is one that its kind can name
unfoldable pub register_suits : Bits → Row → Instr → ℕ → Bool
register_suits bits row i n =
    (elim (operand_at i n) [ Reg r ↦ is_nameable bits row i n r | _ ↦ true ]) && gather_suits row i n

-- ---- 4. base, index and scale of each memory operand are a shape

-- operand n, where it is memory, has a base, index and scale that can be written
unfoldable pub address_suits : Bits → Row → Instr → ℕ → Bool
address_suits bits row i n =
    elim (operand_at i n) [ MemOperand m ↦ shape_suits bits row (method_of (kind_at row n)) (file_of (kind_at row n)) m | _ ↦ true ]

-- ---- 5. the shape offers the displacement

-- operand n, where it is memory, has a displacement that its shape offers
unfoldable pub displacement_offered : Bits → Row → Instr → ℕ → Bool
displacement_offered bits row i n =
    elim (operand_at i n) [ MemOperand m ↦ displacement_suits (written_size bits i.asize m) (method_of (kind_at row n)) m | _ ↦ true ]

-- ---- 6. each immediate is a value of its written size

-- an immediate of n bytes: as it is written, or sign-extended to the operand size; `1` is not written (2.2.1.5, A.2.2)
unfoldable pub immediate_suits_how : Bits → Method → ℕ → Operand → Bool
immediate_suits_how size method.AsWritten n (Imm x) = nat_lt x (2 ^ (8 * n))
immediate_suits_how size method.Extended n (Imm x) = is_extended_of n (width size) x
immediate_suits_how size method.One n (Imm x) = x == 1
immediate_suits_how size method.Pointer n (Far selector offset) = nat_lt selector (2 ^ 16) && nat_lt offset (2 ^ (8 * (n - 2)))
immediate_suits_how size how n op = true

-- operand n, where it is an immediate, is a value of its written size
unfoldable pub immediate_suits : Bits → Row → Instr → ℕ → Bool
immediate_suits bits row i n =
    immediate_suits_how (plain_size bits row) (method_of (kind_at row n)) (immediate_bytes (plain_size bits row) (kind_at row n)) (operand_at i n)

-- ---- 7. each near, RIP or EIP target is reached from the next address

-- a near target is an address of the operand size, and n bytes of offset come to it (CALL, JMP, Jcc)
unfoldable pub near_reaches : Bits → ℕ → ℕ → ℕ → Bool
near_reaches size next n target = nat_lt target (2 ^ width size) && is_extended_of n (width size) (distance size next target)

-- four bytes of displacement come to an address at RIP or EIP (2.2.1.6)
unfoldable pub address_reaches : ℕ → Mem → Bool
address_reaches next m =
    elim (form_of m.base m.index) [ Relative size ↦ is_extended_of 4 (width size) (distance size next m.disp) | _ ↦ true ]

-- operand n, where it is a near target or an address at RIP or EIP, is reached from the next address
unfoldable pub target_suits : Bits → ℕ → Row → Instr → ℕ → Bool
target_suits bits ip row i n =
    let next = plain_next bits ip row i in
    elim (operand_at i n) [
      | Near target ↦ near_reaches (plain_size bits row) next (immediate_bytes (plain_size bits row) (kind_at row n)) target
      | MemOperand m ↦ address_reaches next m
      | _ ↦ true
    ]

-- ---- 8. LOCK and the repeat prefix are allowed

-- LOCK stands on lockable rows with a memory operand first (LOCK)
unfoldable pub lock_suits : Row → Instr → Bool
lock_suits row i = not i.lock || (is_lockable row && is_memory (operand_at i 0))

-- XCHG of the opcode byte 90 (XCHG)
abbrev pub is_exchange_of_90 : Row → Instr → Bool
is_exchange_of_90 row i = (elim row.plus [ PlusRegister ↦ true | _ ↦ false ]) && is_nop_byte row (asked_opcode row i)

-- a repeat prefix is kept on the classes without a condition on it; F3 with the byte 90 is PAUSE (REP, PAUSE)
unfoldable pub repeat_suits : Row → Instr → Bool
repeat_suits row i =
    elim row.class [
      | AnyClass ↦ not (is_repeat_f3 i.rep && is_exchange_of_90 row i)
      | Nf3 ↦ not (is_repeat_f3 i.rep)
      | _ ↦ is_no_repeat i.rep
    ]

-- LOCK and the repeat prefix are allowed (2.1.1, group 1)
unfoldable pub prefixes_suit : Row → Instr → Bool
prefixes_suit row i = lock_suits row i && repeat_suits row i

-- ---- 9. the address size is that of the operand, and one of the mode

-- some operand is memory
unfoldable pub has_memory_operand : Instr → Bool
has_memory_operand i =
    is_memory (operand_at i 0) || (is_memory (operand_at i 1) || (is_memory (operand_at i 2) || is_memory (operand_at i 3)))

-- the address size that an address shows by a general register, RIP or EIP
unfoldable pub told_size : Mem → Option Bits
told_size m = or_else (elim m.base [ None ↦ None | Some r ↦ pointer_size r ]) (shown_size m)

-- an address size agrees with what an operand shows
unfoldable pub size_agrees : Bits → Operand → Bool
size_agrees asize (MemOperand m) = elim (told_size m) [ None ↦ true | Some size ↦ same_bits size asize ]
size_agrees asize _ = true

-- an address size of the mode that agrees with all operands, and not 16 on a gather (2.1.1, group 4; 2.3.12)
unfoldable pub is_size_of : Bits → Row → Instr → Bits → Bool
is_size_of bits row i asize =
    has_address_size bits asize
    && ((size_agrees asize (operand_at i 0) && (size_agrees asize (operand_at i 1) && (size_agrees asize (operand_at i 2) && size_agrees asize (operand_at i 3))))
    && not (is_16 asize && reads_by is_gather row))

-- an address size stands exactly where an operand is memory or the row uses one without
unfoldable pub address_size_suits : Bits → Row → Instr → Bool
address_size_suits bits row i =
    if has_memory_operand i || has_address_mark row
    then (elim i.asize [ None ↦ false | Some asize ↦ is_size_of bits row i asize ])
    else is_none i.asize

-- ---- 10. the plain spelling has at most 15 bytes

-- an instruction has at most 15 bytes (2.3.11)
abbrev pub is_short : Bits → Row → Instr → Bool
is_short bits row i = nat_le (plain_len bits row i) 15

-- ---- all of them, in order

-- the first of the four operands that fails a test
unfoldable pub first_failing : (ℕ → Bool) → Option ℕ
first_failing p =
    if not (p 0) then Some 0 else (if not (p 1) then Some 1 else (if not (p 2) then Some 2 else (if not (p 3) then Some 3 else None)))

-- a condition on operands, with its cause
abbrev pub caused_at : (ℕ → NoSpelling) → Option ℕ → Option NoSpelling
caused_at why None = None
caused_at why (Some n) = Some (why n)

-- a condition with its cause
abbrev pub caused_unless : Bool → NoSpelling → Option NoSpelling
caused_unless true why = None
caused_unless false why = Some why

-- all four operands pass
abbrev pub each_operand : (ℕ → Bool) → Bool
each_operand p = p 0 && (p 1 && (p 2 && p 3))

-- the first that fails of the conditions 2 to 9, which the tail of a spelling is written by
unfoldable pub first_failed_condition : Bits → ℕ → Row → Instr → Option NoSpelling
first_failed_condition bits ip row i =
    or_else (caused_at cause.OperandKind (first_failing (kind_suits row i)))
    (or_else (caused_at cause.Register (first_failing (register_suits bits row i)))
    (or_else (caused_unless (each_operand (address_suits bits row i)) cause.Memory)
    (or_else (caused_unless (each_operand (displacement_offered bits row i)) cause.Displacement)
    (or_else (caused_at cause.Immediate (first_failing (immediate_suits bits row i)))
    (or_else (caused_unless (each_operand (target_suits bits ip row i)) cause.Target)
    (or_else (caused_unless (prefixes_suit row i) cause.Prefix)
    (caused_unless (address_size_suits bits row i) cause.AddressSize)))))))

-- a register operand is one that its kind can name in the mode, whatever the numbers of a gather are
unfoldable pub is_operand_nameable : Bits → Row → Instr → ℕ → Bool
is_operand_nameable bits row i n = elim (operand_at i n) [ Reg r ↦ is_nameable bits row i n r | _ ↦ true ]

-- an operand meets the conditions 2 to 7 by itself
unfoldable pub operand_suits : Bits → ℕ → Row → Instr → ℕ → Bool
operand_suits bits ip row i n =
    kind_suits row i n && (is_operand_nameable bits row i n && (address_suits bits row i n && (displacement_offered bits row i n
    && (immediate_suits bits row i n && target_suits bits ip row i n))))

-- the operands 2 and 3 are absent, as their kinds ask
unfoldable pub is_pair : Row → Instr → Bool
is_pair row i =
    is_variant_of row.place (method_of (kind_at row 2)) Absent && (is_variant_of row.place (method_of (kind_at row 3)) Absent
    && (is_absent (operand_at i 2) && is_absent (operand_at i 3)))

-- the conditions 2 to 9 hold
unfoldable pub tail_suits : Bits → ℕ → Row → Instr → Bool
tail_suits bits ip row i =
    each_operand (operand_suits bits ip row i)
    && (gather_suits row i 0 && (prefixes_suit row i && address_size_suits bits row i))

-- the first that fails of all ten, of an instruction whose code names this row
unfoldable pub failure : Bits → ℕ → Row → Instr → Option NoSpelling
failure bits ip row i =
    or_else (caused_unless (row_exists bits row) cause.Row)
    (or_else (first_failed_condition bits ip row i) (caused_unless (is_short bits row i) cause.Length))

-- the first that fails of all ten; where no row has the code of the instruction, the condition on its row
abbrev pub failure_of : Bits → ℕ → Option Row → Instr → Option NoSpelling
failure_of bits ip None i = Some cause.Row
failure_of bits ip (Some row) i = failure bits ip row i

-- the conditions that the plain spelling meets whatever its length, by their names
pub record Suits (bits : Bits) (ip : ℕ) (row : Row) (i : Instr) : Type 0 where
  pub exists : row_exists bits row ≡ true
  pub kinds : each_operand (kind_suits row i) ≡ true
  pub registers : each_operand (register_suits bits row i) ≡ true
  pub addresses : each_operand (address_suits bits row i) ≡ true
  pub displacements : each_operand (displacement_offered bits row i) ≡ true
  pub immediates : each_operand (immediate_suits bits row i) ≡ true
  pub targets : each_operand (target_suits bits ip row i) ≡ true
  pub prefixes : prefixes_suit row i ≡ true
  pub address_size : address_size_suits bits row i ≡ true
