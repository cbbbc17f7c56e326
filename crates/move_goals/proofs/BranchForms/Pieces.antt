-- How long the instructions of an image are.
use Rattle.std.proofs.Common.{◌≡◌, ℕ, ◌+◌, ◌<◌, true, refl, ◌∙◌, slice_get, arith}
use Rattle.std.specs.Prelude.{Option, Some, None}
use Rattle.std.proofs.lemmas.Nat.{xor_lt}
use Rattle.x86_values.specs.declared.Bits.{Bits}
use Rattle.x86_values.specs.declared.Bits.TheVariants.{B16, B32, B64}
use Rattle.x86_values.specs.declared.Instr.{Instr}
use Rattle.instruction_parts.specs.declared.row_types.Row.{Row}
use Rattle.instruction_parts.specs.declared.row_types.Map.TheVariants.{One, M0f}
use Rattle.instruction_parts.specs.declared.row_types.OpKind.TheVariants.{Jb, Jz}
use Rattle.instruction_parts.specs.Bytes.{lead_bytes}
use Rattle.instruction_parts.specs.Kinds.{method_of, immediate_width}
use Rattle.instruction_parts.specs.Sizes.{operand_size}
use Rattle.row_fit.specs.Fits.{immediate_bytes}
use Rattle.plain_spelling.specs.PlainFront.{register_number, is_low_byte_of_rex, number_in_reg, number_in_rm, number_in_index, number_in_vvvv, number_in_opcode, asks_r, asks_x, asks_b, asks_rex_w, asks_vex_w, asks_66, asks_67, asked_repeat, asked_rex, class_pp, asked_vex, asked_opcode, asked_used, plain_front_of}
use Rattle.plain_spelling.specs.Addresses.{written_size, shown_size, general_size, pointer_size, form_of, address_fields, alone_fields, wide_fields, wide_needs_sib, displacement_count}
use Rattle.plain_spelling.specs.PlainTail.{plain_size, rm_fields, fixed_rm, plain_modrm, plain_sib_of, plain_len}
use Rattle.opcode_rows.specs.Table.{table}
use Rattle.move_goals.specs.MovedTargets.Targets.{plain_length}
use Rattle.move_goals.specs.declared.branch_forms.branch.Action.TheVariants.{Jump, Call, Condition, Count}
use Rattle.move_goals.specs.BranchForms.Branches.{is_pair, short_code, near_code, far_code, opposite_condition}
use Rattle.move_goals.specs.BranchForms.Images.{branch_to, through_slot}
use Rattle.move_goals.specs.BranchForms.Lengths.{size_byte, address_byte, offset_bytes, slot_bytes}
use Rattle.move_goals.specs.BranchForms.Rows.{offset_row, memory_row}
use Rattle.move_goals.proofs.BranchForms.Codes.{short-jump, short-condition, short-count, near-jump, near-call, near-condition, far-call, far-jump}

-- ---- modes and sizes

-- the five pairs that there are
pub by_pair : (P : Bits → Bits → Type 0) → P B16 B16 → P B16 B32 → P B32 B16 → P B32 B32 → P B64 B64 → (bits size : Bits) → is_pair bits size ≡ true → P bits size
by_pair P a b c d e B16 B16 h = a
by_pair P a b c d e B16 B32 h = b
by_pair P a b c d e B16 B64 h = cc
by_pair P a b c d e B32 B16 h = c
by_pair P a b c d e B32 B32 h = d
by_pair P a b c d e B32 B64 h = cc
by_pair P a b c d e B64 B16 h = cc
by_pair P a b c d e B64 B32 h = cc
by_pair P a b c d e B64 B64 h = e

-- the nine pairs
by_sizes : (P : Bits → Bits → Type 0) → P B16 B16 → P B16 B32 → P B16 B64 → P B32 B16 → P B32 B32 → P B32 B64 → P B64 B16 → P B64 B32 → P B64 B64
    → (bits size : Bits) → P bits size
by_sizes P a b c d e f g h i B16 B16 = a
by_sizes P a b c d e f g h i B16 B32 = b
by_sizes P a b c d e f g h i B16 B64 = c
by_sizes P a b c d e f g h i B32 B16 = d
by_sizes P a b c d e f g h i B32 B32 = e
by_sizes P a b c d e f g h i B32 B64 = f
by_sizes P a b c d e f g h i B64 B16 = g
by_sizes P a b c d e f g h i B64 B32 = h
by_sizes P a b c d e f g h i B64 B64 = i

-- ---- by row

row-length : (bits : Bits) (row : Row) (i : Instr) → slice_get table i.code.0 ≡ Some row → plain_length bits i ≡ plain_len bits row i
unfolding plain_length
row-length bits row i at = rw at refl

-- a branch of 8 bits without an address size
short-len : (opcode code t : ℕ) (bits size : Bits) → plain_len bits (offset_row One opcode Jb 20 size) (branch_to code None t) ≡ 2 + size_byte bits size
unfolding branch_to plain_len plain_size plain_modrm plain_sib_of rm_fields fixed_rm operand_size immediate_bytes immediate_width method_of plain_front_of asked_used asked_repeat asked_rex asks_rex_w asks_r asks_x asks_b asks_66 asks_67 asked_vex asks_vex_w asked_opcode class_pp lead_bytes number_in_reg number_in_rm number_in_index number_in_vvvv number_in_opcode is_low_byte_of_rex register_number
short-len opcode code t =
    by_sizes (λ bits size. plain_len bits (offset_row One opcode Jb 20 size) (branch_to code None t) ≡ 2 + size_byte bits size) refl refl refl refl refl refl refl refl refl

-- one on a counter
count-len-of : (opcode code t : ℕ) (asize : Option Bits) (bits size : Bits) → plain_len bits (offset_row One opcode Jb 22 size) (branch_to code asize t) ≡ 2 + size_byte bits size + address_byte bits asize
unfolding branch_to plain_len plain_size plain_modrm plain_sib_of rm_fields fixed_rm operand_size immediate_bytes immediate_width method_of plain_front_of asked_used asked_repeat asked_rex asks_rex_w asks_r asks_x asks_b asks_66 asks_67 asked_vex asks_vex_w asked_opcode class_pp lead_bytes number_in_reg number_in_rm number_in_index number_in_vvvv number_in_opcode is_low_byte_of_rex register_number
count-len-of opcode code t None =
    by_sizes (λ bits size. plain_len bits (offset_row One opcode Jb 22 size) (branch_to code None t) ≡ 2 + size_byte bits size + 0) refl refl refl refl refl refl refl refl refl
count-len-of opcode code t (Some B16) =
    by_sizes (λ bits size. plain_len bits (offset_row One opcode Jb 22 size) (branch_to code (Some B16) t) ≡ 2 + size_byte bits size + address_byte bits (Some B16)) refl refl refl refl refl refl refl refl refl
count-len-of opcode code t (Some B32) =
    by_sizes (λ bits size. plain_len bits (offset_row One opcode Jb 22 size) (branch_to code (Some B32) t) ≡ 2 + size_byte bits size + address_byte bits (Some B32)) refl refl refl refl refl refl refl refl refl
count-len-of opcode code t (Some B64) =
    by_sizes (λ bits size. plain_len bits (offset_row One opcode Jb 22 size) (branch_to code (Some B64) t) ≡ 2 + size_byte bits size + address_byte bits (Some B64)) refl refl refl refl refl refl refl refl refl

-- JMP and CALL with an offset of the operand size
near-len : (opcode code t : ℕ) (bits size : Bits) → plain_len bits (offset_row One opcode Jz 20 size) (branch_to code None t) ≡ 1 + size_byte bits size + offset_bytes bits size
unfolding branch_to plain_len plain_size plain_modrm plain_sib_of rm_fields fixed_rm operand_size immediate_bytes immediate_width method_of plain_front_of asked_used asked_repeat asked_rex asks_rex_w asks_r asks_x asks_b asks_66 asks_67 asked_vex asks_vex_w asked_opcode class_pp lead_bytes number_in_reg number_in_rm number_in_index number_in_vvvv number_in_opcode is_low_byte_of_rex register_number
near-len opcode code t =
    by_sizes (λ bits size. plain_len bits (offset_row One opcode Jz 20 size) (branch_to code None t) ≡ 1 + size_byte bits size + offset_bytes bits size) refl refl refl refl refl refl refl refl refl

-- Jcc with one
condition-len : (opcode code t : ℕ) (bits size : Bits) → plain_len bits (offset_row M0f opcode Jz 20 size) (branch_to code None t) ≡ 2 + size_byte bits size + offset_bytes bits size
unfolding branch_to plain_len plain_size plain_modrm plain_sib_of rm_fields fixed_rm operand_size immediate_bytes immediate_width method_of plain_front_of asked_used asked_repeat asked_rex asks_rex_w asks_r asks_x asks_b asks_66 asks_67 asked_vex asks_vex_w asked_opcode class_pp lead_bytes number_in_reg number_in_rm number_in_index number_in_vvvv number_in_opcode is_low_byte_of_rex register_number
condition-len opcode code t =
    by_sizes (λ bits size. plain_len bits (offset_row M0f opcode Jz 20 size) (branch_to code None t) ≡ 2 + size_byte bits size + offset_bytes bits size) refl refl refl refl refl refl refl refl refl

-- JMP and CALL through a slot
slot-len : (digit code slot : ℕ) (bits : Bits) → plain_len bits (memory_row digit) (through_slot code slot) ≡ slot_bytes bits
unfolding through_slot plain_len plain_size plain_modrm plain_sib_of rm_fields fixed_rm operand_size immediate_bytes immediate_width method_of plain_front_of asked_used asked_repeat asked_rex asks_rex_w asks_r asks_x asks_b asks_66 asks_67 asked_vex asks_vex_w asked_opcode class_pp lead_bytes number_in_reg number_in_rm number_in_index number_in_vvvv number_in_opcode is_low_byte_of_rex register_number written_size shown_size general_size pointer_size form_of address_fields alone_fields wide_fields wide_needs_sib displacement_count
slot-len digit code slot B16 = refl
slot-len digit code slot B32 = refl
slot-len digit code slot B64 = refl

-- ---- by code

branch-row : (bits : Bits) (row : Row) (code : ℕ) (asize : Option Bits) (t : ℕ) → slice_get table code ≡ Some row → plain_length bits (branch_to code asize t) ≡ plain_len bits row (branch_to code asize t)
unfolding branch_to
branch-row bits row code asize t at = row-length bits row (branch_to code asize t) at

slot-row : (bits : Bits) (row : Row) (code slot : ℕ) → slice_get table code ≡ Some row → plain_length bits (through_slot code slot) ≡ plain_len bits row (through_slot code slot)
unfolding through_slot
slot-row bits row code slot at = row-length bits row (through_slot code slot) at

-- a short JMP has two bytes and its size prefix
pub short_jump-length : (bits size : Bits) → (t : ℕ) → plain_length bits (branch_to (short_code Jump size) None t) ≡ 2 + size_byte bits size
short_jump-length bits size t =
    branch-row bits (offset_row One 0xEB Jb 20 size) (short_code Jump size) None t (short-jump size) ∙ short-len 0xEB (short_code Jump size) t bits size

-- so has a short Jcc
pub short_condition-length : (bits size : Bits) → (n : ℕ) → n < 16 → (t : ℕ) → plain_length bits (branch_to (short_code (Condition n) size) None t) ≡ 2 + size_byte bits size
short_condition-length bits size n lt t =
    branch-row bits (offset_row One (0x70 + n) Jb 20 size) (short_code (Condition n) size) None t (short-condition n size lt)
    ∙ short-len (0x70 + n) (short_code (Condition n) size) t bits size

-- a branch by the counter has its address-size prefix too
pub short_count-length : (bits size : Bits) → (n : ℕ) → n < 4 → (asize : Option Bits) (t : ℕ) → plain_length bits (branch_to (short_code (Count n) size) asize t) ≡ 2 + size_byte bits size + address_byte bits asize
short_count-length bits size n lt asize t =
    branch-row bits (offset_row One (0xE0 + n) Jb 22 size) (short_code (Count n) size) asize t (short-count n size lt)
    ∙ count-len-of (0xE0 + n) (short_code (Count n) size) t asize bits size

-- a near JMP has its opcode byte, its size prefix and the offset
pub near_jump-length : (bits size : Bits) → (t : ℕ) → plain_length bits (branch_to (near_code Jump size) None t) ≡ 1 + size_byte bits size + offset_bytes bits size
near_jump-length bits size t =
    branch-row bits (offset_row One 0xE9 Jz 20 size) (near_code Jump size) None t (near-jump size) ∙ near-len 0xE9 (near_code Jump size) t bits size

-- so has a near CALL
pub near_call-length : (bits size : Bits) → (t : ℕ) → plain_length bits (branch_to (near_code Call size) None t) ≡ 1 + size_byte bits size + offset_bytes bits size
near_call-length bits size t =
    branch-row bits (offset_row One 0xE8 Jz 20 size) (near_code Call size) None t (near-call size) ∙ near-len 0xE8 (near_code Call size) t bits size

-- a near Jcc has two opcode bytes
pub near_condition-length : (bits size : Bits) → (n : ℕ) → n < 16 → (t : ℕ) → plain_length bits (branch_to (near_code (Condition n) size) None t) ≡ 2 + size_byte bits size + offset_bytes bits size
near_condition-length bits size n lt t =
    branch-row bits (offset_row M0f (0x80 + n) Jz 20 size) (near_code (Condition n) size) None t (near-condition n size lt)
    ∙ condition-len (0x80 + n) (near_code (Condition n) size) t bits size

-- a CALL through a slot has a length that depends on the mode alone
pub slot_call-length : (bits : Bits) (slot : ℕ) → plain_length bits (through_slot (far_code Call) slot) ≡ slot_bytes bits
slot_call-length bits slot = slot-row bits (memory_row 2) (far_code Call) slot far-call ∙ slot-len 2 (far_code Call) slot bits

-- so has a JMP through a slot
pub slot_jump-length : (bits : Bits) (slot : ℕ) → plain_length bits (through_slot (far_code Jump) slot) ≡ slot_bytes bits
slot_jump-length bits slot = slot-row bits (memory_row 4) (far_code Jump) slot far-jump ∙ slot-len 4 (far_code Jump) slot bits

-- the opposite of a condition is a condition
pub opposite_condition-small : (n : ℕ) → n < 16 → opposite_condition n < 16
unfolding opposite_condition
opposite_condition-small n lt = xor_lt 4 n 1 lt (omega arith)
