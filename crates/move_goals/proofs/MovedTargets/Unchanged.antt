-- What an instruction that is aimed elsewhere asks of the fields of its row.
use Rattle.std.proofs.Common.{◌≡◌, ℕ, ◌+◌, ◌/◌, ◌%◌, ◌||◌, Option, Some, None, refl, ap, sym, ◌∙◌}
use Rattle.x86_values.specs.declared.Bits.{Bits}
use Rattle.x86_values.specs.declared.Mem.{Mem}
use Rattle.x86_values.specs.declared.Operand.{Operand}
use Rattle.x86_values.specs.declared.Instr.{Instr}
use Rattle.instruction_parts.specs.declared.row_types.Row.{Row}
use Rattle.instruction_parts.specs.declared.row_types.Place.{Place}
use Rattle.instruction_parts.specs.declared.row_types.Plus.TheVariants.{Register as PlusRegister, Stack as PlusStack}
use Rattle.instruction_parts.specs.declared.row_types.ModRmRule.{ModRmRule}
use Rattle.instruction_parts.specs.declared.row_types.ModRmRule.TheVariants.{No as NoModRm, Any as AnyModRm, Digit, Fixed as FixedByte}
use Rattle.instruction_parts.specs.declared.kinds.Method.{Method}
use Rattle.instruction_parts.specs.declared.kinds.Method.TheVariants as method
use Rattle.instruction_parts.specs.declared.spelling.ModRm.{ModRm}
use Rattle.plain_spelling.specs.declared.addresses.AddressFields.{AddressFields}
use Rattle.row_fit.specs.Fits.{is_offset}
use Rattle.row_fit.specs.Sound.{reads_rm}
use Rattle.plain_spelling.specs.PlainFront.{number_in_reg, number_in_rm, number_in_index, number_in_vvvv, number_in_opcode, number_asked_of, asks_low_byte, asks_r, asks_x, asks_b, asked_rex, asked_vex, asked_opcode, asked_used, asked_repeat, plain_front_of}
use Rattle.plain_spelling.specs.Addresses.{address_fields, alone_fields, wide_fields, plain_sib, written_size, shown_size, wide_needs_sib}
use Rattle.plain_spelling.specs.PlainTail.{operand_where, rm_fields, fields_of, fixed_rm, modrm_with, plain_modrm, plain_sib_of, operand_displacement, address_operand, plain_len}
use Rattle.move_goals.specs.MovedTargets.Targets.{with_target}
use Rattle.move_goals.proofs.MovedTargets.Ignored.{IgnoresTarget, ignored, over_operands-map, operand_where-map, asks_low_byte-map}

-- ---- the numbers of registers

in_reg : (how : Method) → IgnoresTarget (number_in_reg how)
unfolding number_in_reg
in_reg method.ModRmReg = record { memory = λ m disp. refl; near = λ x y. refl }
in_reg _ = record { memory = λ m disp. refl; near = λ x y. refl }

in_rm : (how : Method) → IgnoresTarget (number_in_rm how)
unfolding number_in_rm
in_rm method.RegisterOrMemory = record { memory = λ m disp. refl; near = λ x y. refl }
in_rm method.RegisterOnly = record { memory = λ m disp. refl; near = λ x y. refl }
in_rm method.MemoryOnly = record { memory = λ m disp. refl; near = λ x y. refl }
in_rm method.AnyMode = record { memory = λ m disp. refl; near = λ x y. refl }
in_rm method.Gather = record { memory = λ m disp. refl; near = λ x y. refl }
in_rm method.OpcodeLow = record { memory = λ m disp. refl; near = λ x y. refl }
in_rm _ = record { memory = λ m disp. refl; near = λ x y. refl }

in_index : (how : Method) → IgnoresTarget (number_in_index how)
unfolding number_in_index
in_index how = record { memory = λ m disp. refl; near = λ x y. refl }

in_vvvv : (how : Method) → IgnoresTarget (number_in_vvvv how)
unfolding number_in_vvvv
in_vvvv method.Vvvv = record { memory = λ m disp. refl; near = λ x y. refl }
in_vvvv _ = record { memory = λ m disp. refl; near = λ x y. refl }

in_opcode : (how : Method) → IgnoresTarget (number_in_opcode how)
unfolding number_in_opcode
in_opcode method.OpcodeLow = record { memory = λ m disp. refl; near = λ x y. refl }
in_opcode _ = record { memory = λ m disp. refl; near = λ x y. refl }

asked-with_target : (f : Method → Operand → ℕ) → ((how : Method) → IgnoresTarget (f how)) → (t : ℕ) (row : Row) (i : Instr) → number_asked_of f row (with_target t i) ≡ number_asked_of f row i
unfolding with_target
asked-with_target f h t row i = over_operands-map f h t row.ops i.ops

-- aiming an instruction keeps the number in the field reg
pub reg-with_target : (t : ℕ) (row : Row) (i : Instr) → number_asked_of number_in_reg row (with_target t i) ≡ number_asked_of number_in_reg row i
reg-with_target t row i = asked-with_target number_in_reg in_reg t row i

-- the number in r/m
pub rm-with_target : (t : ℕ) (row : Row) (i : Instr) → number_asked_of number_in_rm row (with_target t i) ≡ number_asked_of number_in_rm row i
rm-with_target t row i = asked-with_target number_in_rm in_rm t row i

-- the number in the index of a SIB
pub index-with_target : (t : ℕ) (row : Row) (i : Instr) → number_asked_of number_in_index row (with_target t i) ≡ number_asked_of number_in_index row i
index-with_target t row i = asked-with_target number_in_index in_index t row i

-- the number in vvvv
pub vvvv-with_target : (t : ℕ) (row : Row) (i : Instr) → number_asked_of number_in_vvvv row (with_target t i) ≡ number_asked_of number_in_vvvv row i
vvvv-with_target t row i = asked-with_target number_in_vvvv in_vvvv t row i

-- and the number in the opcode byte
pub opcode-with_target : (t : ℕ) (row : Row) (i : Instr) → number_asked_of number_in_opcode row (with_target t i) ≡ number_asked_of number_in_opcode row i
opcode-with_target t row i = asked-with_target number_in_opcode in_opcode t row i

low-with_target : (t : ℕ) (i : Instr) → asks_low_byte (with_target t i).ops ≡ asks_low_byte i.ops
unfolding with_target
low-with_target t i = asks_low_byte-map t i.ops

-- ---- the front

r-with_target : (t : ℕ) (row : Row) (i : Instr) → asks_r row (with_target t i) ≡ asks_r row i
unfolding asks_r
r-with_target t row i = rw (reg-with_target t row i) refl

x-with_target : (t : ℕ) (row : Row) (i : Instr) → asks_x row (with_target t i) ≡ asks_x row i
unfolding asks_x
x-with_target t row i = rw (index-with_target t row i) refl

b-with_target : (t : ℕ) (row : Row) (i : Instr) → asks_b row (with_target t i) ≡ asks_b row i
unfolding asks_b
b-with_target t row i = rw (rm-with_target t row i) refl

repeat-with_target : (t : ℕ) (row : Row) (i : Instr) → asked_repeat row (with_target t i) ≡ asked_repeat row i
unfolding asked_repeat with_target
repeat-with_target t row i = refl

rex-with_target : (t : ℕ) (row : Row) (i : Instr) → asked_rex row (with_target t i) ≡ asked_rex row i
unfolding asked_rex
rex-with_target t row i = rw (r-with_target t row i, x-with_target t row i, b-with_target t row i, low-with_target t i) refl

vex-with_target : (t : ℕ) (row : Row) (i : Instr) → asked_vex row (with_target t i) ≡ asked_vex row i
unfolding asked_vex
vex-with_target t row i = rw (r-with_target t row i, x-with_target t row i, b-with_target t row i, vvvv-with_target t row i) refl

-- so its opcode byte stays
pub asked_opcode-with_target : (t : ℕ) (row : Row) (i : Instr) → asked_opcode row (with_target t i) ≡ asked_opcode row i
unfolding asked_opcode
asked_opcode-with_target t row i = ap (λ (n : ℕ). elim row.plus [ PlusRegister ↦ row.opcode + n % 8 | _ ↦ row.opcode ]) (opcode-with_target t row i)

-- its address size stays
pub asize-with_target : (t : ℕ) (i : Instr) → (with_target t i).asize ≡ i.asize
unfolding with_target
asize-with_target t i = refl

used-with_target : (bits : Bits) (t : ℕ) (row : Row) (i : Instr) → asked_used bits row (with_target t i) ≡ asked_used bits row i
unfolding asked_used with_target
used-with_target bits t row i = rw (repeat-with_target t row i, rex-with_target t row i, vex-with_target t row i) refl

-- **the front does not depend on the target**
pub front-with_target : (bits : Bits) (t : ℕ) (row : Row) (i : Instr) → plain_front_of bits row (with_target t i) ≡ plain_front_of bits row i
unfolding plain_front_of with_target
front-with_target bits t row i =
    rw (used-with_target bits t row i, repeat-with_target t row i, rex-with_target t row i, vex-with_target t row i, asked_opcode-with_target t row i) refl

-- ---- ModRM, SIB and the displacement's length

shown : (m : Mem) (disp : ℕ) → shown_size (record m { disp = disp }) ≡ shown_size m
unfolding shown_size
shown m disp = refl

-- the address size that is written does not depend on the displacement
pub written_size-disp : (bits : Bits) (asize : Option Bits) (m : Mem) (disp : ℕ) → written_size bits asize (record m { disp = disp }) ≡ written_size bits asize m
unfolding written_size
written_size-disp bits asize m disp = rw (shown m disp) refl

fields-disp : (bits asize : Bits) (m : Mem) (disp : ℕ) → address_fields bits asize (record m { disp = disp }) ≡ address_fields bits asize m
unfolding address_fields alone_fields wide_fields plain_sib wide_needs_sib
fields-disp bits asize m disp = refl

in_fields : (bits : Bits) (asize : Option Bits) (place : Place) → IgnoresTarget (rm_fields bits asize place)
unfolding rm_fields
in_fields bits asize place = record {
  memory = λ m disp. rw (written_size-disp bits asize m disp, fields-disp bits (written_size bits asize m) m disp) refl;
  near = λ x y. refl;
}

fields-with_target : (bits : Bits) (t : ℕ) (row : Row) (i : Instr) → fields_of bits row (with_target t i) ≡ fields_of bits row i
unfolding with_target
fields-with_target bits t row i =
    ap (λ (op : Operand). rm_fields bits i.asize row.place op) (operand_where-map reads_rm t row.ops i.ops)
    ∙ ignored (rm_fields bits i.asize row.place) (in_fields bits i.asize row.place) t (operand_where reads_rm row.ops i.ops)

fixed-with_target : (t : ℕ) (row : Row) (i : Instr) (b : ℕ) → fixed_rm row (with_target t i) b ≡ fixed_rm row i b
unfolding fixed_rm
fixed-with_target t row i b = ap (λ (n : ℕ). elim row.plus [ PlusStack ↦ n % 8 | _ ↦ b % 8 ]) (rm-with_target t row i)

-- the ModRM by the rule, the number in reg, the fields of the operand in r/m and rm of a fixed byte
abbrev modrm_by : ModRmRule → ℕ → AddressFields → (ℕ → ℕ) → Option ModRm
modrm_by rule reg fields rm =
    elim rule [
      | NoModRm ↦ None
      | AnyModRm ↦ Some (modrm_with (reg % 8) fields)
      | Digit d ↦ Some (modrm_with d fields)
      | FixedByte b ↦ Some (record { mode3 = b / 64; reg = b / 8 % 8; rm = rm b })
    ]

same_modrm : (rule : ModRmRule) (reg other : ℕ) (fields others : AddressFields) (rm rms : ℕ → ℕ) → reg ≡ other → fields ≡ others → ((b : ℕ) → rm b ≡ rms b) → modrm_by rule reg fields rm ≡ modrm_by rule other others rms
same_modrm NoModRm reg other fields others rm rms a b c = refl
same_modrm AnyModRm reg other fields others rm rms a b c = rw (a, b) refl
same_modrm (Digit d) reg other fields others rm rms a b c = rw b refl
same_modrm (FixedByte d) reg other fields others rm rms a b c = rw (c d) refl

modrm_is : (bits : Bits) (row : Row) (i : Instr) → plain_modrm bits row i ≡ modrm_by row.modrm (number_asked_of number_in_reg row i) (fields_of bits row i) (fixed_rm row i)
unfolding plain_modrm
modrm_is bits row i = refl

modrm-with_target : (bits : Bits) (t : ℕ) (row : Row) (i : Instr) → plain_modrm bits row (with_target t i) ≡ plain_modrm bits row i
modrm-with_target bits t row i =
    modrm_is bits row (with_target t i)
    ∙ same_modrm row.modrm (number_asked_of number_in_reg row (with_target t i)) (number_asked_of number_in_reg row i) (fields_of bits row (with_target t i)) (fields_of bits row i) (fixed_rm row (with_target t i)) (fixed_rm row i)
    (reg-with_target t row i) (fields-with_target bits t row i) (fixed-with_target t row i)
    ∙ sym (modrm_is bits row i)

sib-with_target : (bits : Bits) (t : ℕ) (row : Row) (i : Instr) → plain_sib_of bits row (with_target t i) ≡ plain_sib_of bits row i
unfolding plain_sib_of
sib-with_target bits t row i =
    ap (λ (fields : AddressFields). elim row.modrm [ NoModRm ↦ None | AnyModRm ↦ fields.sib | Digit d ↦ fields.sib | FixedByte b ↦ None ]) (fields-with_target bits t row i)

in_displacement : IgnoresTarget operand_displacement
in_displacement = record { memory = λ m disp. refl; near = λ x y. refl }

displacement-with_target : (t : ℕ) (row : Row) (i : Instr) → operand_displacement (address_operand row (with_target t i)) ≡ operand_displacement (address_operand row i)
unfolding with_target
displacement-with_target t row i =
    let p = λ (how : Method). reads_rm how || is_offset how in
    ap operand_displacement (operand_where-map p t row.ops i.ops) ∙ ignored operand_displacement in_displacement t (operand_where p row.ops i.ops)

-- **the length does not depend on the target**
pub len-with_target : (bits : Bits) (t : ℕ) (row : Row) (i : Instr) → plain_len bits row (with_target t i) ≡ plain_len bits row i
unfolding plain_len
len-with_target bits t row i =
    rw (front-with_target bits t row i, modrm-with_target bits t row i, sib-with_target bits t row i, displacement-with_target t row i) refl
