-- An instruction has at most 32 uses of registers: those rows that imply more than 19 registers have one operand at the most, and imply no memory.
use Rattle.std.proofs.Common.{◌≡◌, ℕ, ◌≤◌, ◌+◌, Bool, true, false, ◌&&◌, ◌||◌, List, [], ◌∷◌, ◌++◌, length, slice_get, refl, arith, length-append}
use Rattle.std.specs.Prelude.{Option, Some, None, IsTrue, ◌==◌, nat_le}
use Rattle.std.proofs.lemmas.Bool.{eqb-true, leb-true, and_parts}
use Rattle.x86_values.specs.declared.Bits.{Bits}
use Rattle.x86_values.specs.declared.Register.{Register}
use Rattle.x86_values.specs.declared.Operand.{Operand}
use Rattle.x86_values.specs.declared.Operand.TheVariants.{Absent, Reg, Mem as Memory, Imm, Near, Far}
use Rattle.x86_values.specs.declared.Instr.{Instr}
use Rattle.x86_values.specs.Operands.{is_absent}
use Rattle.instruction_parts.specs.declared.row_types.Row.{Row}
use Rattle.instruction_parts.specs.declared.row_types.Place.{Place}
use Rattle.instruction_parts.specs.declared.kinds.Method.{Method}
use Rattle.instruction_parts.specs.declared.kinds.Method.TheVariants as method
use Rattle.instruction_parts.specs.Kinds.{method_of}
use Rattle.row_fit.specs.Fits.{kind_at}
use Rattle.plain_spelling.specs.Forms.{is_variant_of, operand_at}
use Rattle.opcode_rows.specs.Parts.{integer_rows, integer_flat, x87_rows, x87_flat, sse_rows, sse_flat, vex_rows, vex_flat}
use Rattle.opcode_rows.specs.Table.{spots, rows_in, table, names}
use Rattle.opcode_rows.specs.Allowed.{has_numbers, operand_is_formed, is_formed, is_formed_by, is_well_formed}
use Rattle.operand_info.specs.declared.columns.Access.{Access}
use Rattle.operand_info.specs.declared.columns.Access.TheVariants as operand
use Rattle.operand_info.specs.ByCode.{access_of}
use Rattle.operand_info.specs.Operands.{operand_use, address_use, uses_of, uses_at, uses}
use Rattle.instruction_info.specs.declared.effect.Effect.{Effect}
use Rattle.instruction_info.specs.declared.effect.ImpliedMemory.{ImpliedMemory}
use Rattle.instruction_info.specs.declared.memory.MemoryUse.{MemoryUse}
use Rattle.instruction_info.specs.declared.setting.Setting.{Setting}
use Rattle.instruction_info.specs.Effects.{indexes, effects, effect_of, effect_fits, registers_of, implied_memory_of}
use Rattle.instruction_info.specs.Settings.{setting_of}
use Rattle.instruction_info.specs.Memory.{named_memory, named_uses, use_list, implied_uses, all_memory}
use Rattle.instruction_info.proofs.Effects.{take-few, memory-few, registers-few}
use Rattle.instruction_info.proofs.LawTests.{all_rows, each_row, each_effect}

-- ---- the table

-- there is no such operand
abbrev is_nothing : Method → Bool
is_nothing method.Nothing = true
is_nothing _ = false

abbrev lacks : Row → ℕ → Bool
lacks row n = is_nothing (method_of (kind_at row n))

-- the row has one operand at the most
abbrev has_one : Row → Bool
has_one row = lacks row 1 && (lacks row 2 && lacks row 3)

abbrev is_alone : Row → Effect → Bool
is_alone row e = e.memories == 0 && has_one row

abbrev is_few : List ℕ → Row → Effect → Bool
is_few name row e = nat_le e.registers 19 || is_alone row e

all_few : all_rows is_few names table indexes ≡ true
unfolding all_rows method_of effects indexes names table rows_in spots integer_rows integer_flat x87_rows x87_flat sse_rows sse_flat vex_rows vex_flat
all_few = refl

effects_fit : (code : ℕ) → effect_fits (effect_of code) ≡ true
unfolding effect_fits effects
effects_fit code = each_effect effect_fits refl refl code

-- ---- operands

operand_few : (r : Register) (access : Access) → length (operand_use r access) ≤ 1
unfolding operand_use
operand_few r operand.None = omega arith
operand_few r operand.Read = omega arith
operand_few r operand.Write = omega arith
operand_few r operand.ReadWrite = omega arith

address_few : (r : Option Register) → length (address_use r) ≤ 1
address_few None = omega arith
address_few (Some r) = omega arith

few_of : (o : Operand) (access : Access) → length (uses_of o access) ≤ 2
unfolding uses_of
few_of Absent access = omega arith
few_of (Reg r) access = omega (arith, operand_few r access)
few_of (Memory m) access = omega (arith, length-append (address_use m.base) (address_use m.index), address_few m.base, address_few m.index)
few_of (Imm x) access = omega arith
few_of (Near x) access = omega arith
few_of (Far s x) access = omega arith

few_at : (i : Instr) (n : ℕ) → length (uses_at i n) ≤ 2
unfolding uses_at
few_at i n = few_of (operand_at i n) (access_of i.code.0 n)

none_of : (o : Operand) (access : Access) → is_absent o ≡ true → length (uses_of o access) ≡ 0
unfolding uses_of
none_of Absent access h = refl
none_of (Reg r) access h = cc
none_of (Memory m) access h = cc
none_of (Imm x) access h = cc
none_of (Near x) access h = cc
none_of (Far s x) access h = cc

absent_by : (place : Place) (m : Method) (o : Operand) → is_variant_of place m o ≡ true → is_nothing m ≡ true → is_absent o ≡ true
unfolding is_variant_of
absent_by place method.Nothing o h lacking = h
absent_by place method.ModRmReg o h lacking = cc
absent_by place method.RegisterOrMemory o h lacking = cc
absent_by place method.RegisterOnly o h lacking = cc
absent_by place method.MemoryOnly o h lacking = cc
absent_by place method.AnyMode o h lacking = cc
absent_by place method.OpcodeLow o h lacking = cc
absent_by place method.Vvvv o h lacking = cc
absent_by place method.LastByte o h lacking = cc
absent_by place method.Gather o h lacking = cc
absent_by place method.Offset o h lacking = cc
absent_by place method.AsWritten o h lacking = cc
absent_by place method.Extended o h lacking = cc
absent_by place method.Near o h lacking = cc
absent_by place method.Pointer o h lacking = cc
absent_by place method.Fixed o h lacking = cc
absent_by place method.One o h lacking = cc

none_at : (row : Row) (i : Instr) (n : ℕ) → operand_is_formed row i n ≡ true → lacks row n ≡ true → length (uses_at i n) ≡ 0
unfolding operand_is_formed uses_at
none_at row i n formed lacking =
    let variant = (and_parts (is_variant_of row.place (method_of (kind_at row n)) (operand_at i n)) (has_numbers (operand_at i n)) formed).0 in
    none_of (operand_at i n) (access_of i.code.0 n) (absent_by row.place (method_of (kind_at row n)) (operand_at i n) variant lacking)

-- the sum of the uses of four operands
sum_at : (i : Instr) → length (uses i) ≡ length (uses_at i 0) + (length (uses_at i 1) + (length (uses_at i 2) + length (uses_at i 3)))
unfolding uses
sum_at i =
    let a = uses_at i 0 in
    let b = uses_at i 1 in
    let c = uses_at i 2 in
    let d = uses_at i 3 in
    omega (arith, length-append a (b ++ (c ++ d)), length-append b (c ++ d), length-append c d)

few_named : (i : Instr) → length (uses i) ≤ 8
few_named i = omega (arith, sum_at i, few_at i 0, few_at i 1, few_at i 2, few_at i 3)

-- of a row with one operand at the most
fewest_named : (row : Row) (i : Instr) → is_formed row i ≡ true → has_one row ≡ true → length (uses i) ≤ 2
unfolding is_formed
fewest_named row i formed one =
    let f0 = operand_is_formed row i 0 in
    let f1 = operand_is_formed row i 1 in
    let f2 = operand_is_formed row i 2 in
    let f3 = operand_is_formed row i 3 in
    let rest = (and_parts f0 (f1 && (f2 && f3)) formed).1 in
    let last = (and_parts f1 (f2 && f3) rest).1 in
    let others = (and_parts (lacks row 1) (lacks row 2 && lacks row 3) one).1 in
    let second = none_at row i 1 (and_parts f1 (f2 && f3) rest).0 (and_parts (lacks row 1) (lacks row 2 && lacks row 3) one).0 in
    let third = none_at row i 2 (and_parts f2 f3 last).0 (and_parts (lacks row 2) (lacks row 3) others).0 in
    let fourth = none_at row i 3 (and_parts f2 f3 last).1 (and_parts (lacks row 2) (lacks row 3) others).1 in
    omega (arith, sum_at i, few_at i 0, second, third, fourth)

-- ---- memory

listed_few : (m : Option MemoryUse) → length (use_list m) ≤ 1
listed_few None = omega arith
listed_few (Some m) = omega arith

implied_many : (s : Setting) (ms : List ImpliedMemory) → length (implied_uses s ms) ≡ length ms
unfolding implied_uses
implied_many s [] = refl
implied_many s (m ∷ ms) = omega (arith, implied_many s ms)

few_memories : (bits : Bits) (i : Instr) → length (all_memory bits i) ≤ 1 + (effect_of i.code.0).memories
unfolding all_memory implied_memory_of
few_memories bits i =
    let s = setting_of bits i in
    let ms = implied_memory_of i.code.0 in
    let taken : length ms ≤ (effect_of i.code.0).memories = take-few (effect_of i.code.0).memories _ in
    omega (arith, length-append (named_uses s i) (implied_uses s ms), listed_few (named_memory s i), implied_many s ms, taken)

few_registers : (code : ℕ) → length (registers_of code) ≤ (effect_of code).registers
unfolding registers_of
few_registers code = take-few (effect_of code).registers _

-- ---- together

abbrev total : Bits → Instr → ℕ
total bits i = length (uses i) + (length (all_memory bits i) + length (registers_of i.code.0))

total_of : (bits : Bits) (i : Instr) (row : Row) → is_formed row i ≡ true → (small : Bool) → nat_le (effect_of i.code.0).registers 19 ≡ small
    → small || is_alone row (effect_of i.code.0) ≡ true → total bits i ≤ 31
total_of bits i row formed true small h =
    let e = effect_of i.code.0 in
    omega (arith, few_named i, few_memories bits i, memory-few e (effects_fit i.code.0), few_registers i.code.0, leb-true e.registers 19 small)
total_of bits i row formed false small h =
    let e = effect_of i.code.0 in
    let none = eqb-true e.memories 0 (and_parts (e.memories == 0) (has_one row) h).0 in
    let named = fewest_named row i formed (and_parts (e.memories == 0) (has_one row) h).1 in
    omega (arith, named, few_memories bits i, none, few_registers i.code.0, registers-few e (effects_fit i.code.0))

total_by : (o : Option Row) (bits : Bits) (i : Instr) → slice_get table i.code.0 ≡ o → is_formed_by o i ≡ true → total bits i ≤ 31
total_by None bits i at h = cc
total_by (Some row) bits i at h = total_of bits i row h (nat_le (effect_of i.code.0).registers 19) refl (each_row is_few all_few i.code.0 row at)

-- the registers that operands name, the memory and the implied registers of a well-formed instruction are 31 together, at the most
pub few_uses : (bits : Bits) (i : Instr) → IsTrue (is_well_formed i) → length (uses i) + (length (all_memory bits i) + length (registers_of i.code.0)) ≤ 31
unfolding is_well_formed
few_uses bits i h = total_by (slice_get table i.code.0) bits i refl h
