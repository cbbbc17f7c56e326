-- The plain ModRM: what its fields are by the row's rule, that it keeps the rule and the limits to register or memory, and its ranges.
use Rattle.std.proofs.Common.{◌≡◌, inl, inr, ℕ, zero, suc, ◌+◌, ◌*◌, ◌/◌, ◌%◌, ◌<◌, Bool, true, false, ◌&&◌, ◌||◌, not, ◌==◌, nat_le, nat_lt, List, [], ◌∷◌, length, refl, ap, sym, ◌∙◌, subst, arith, if◌then◌else◌, Option, Some, None, eq-eqb}
use Rattle.std.proofs.lemmas.Option.{same_Some}
use Rattle.std.specs.Prelude.{slice_index_or}
use Rattle.std.proofs.lemmas.Bool.{leb-true, and_from, lt-ltb, and_parts, cases_Bool, eqb-true, not-true}
use Rattle.std.specs.List.{list_any, list_all}
use borrow.Author.Tests.{ltb-true}
use Rattle.x86_values.specs.declared.Bits.{Bits}
use Rattle.x86_values.specs.declared.Register.{Register}
use Rattle.x86_values.specs.declared.Register.TheVariants.{R16}
use Rattle.x86_values.specs.declared.Mem.{Mem}
use Rattle.x86_values.specs.declared.Operand.{Operand}
use Rattle.x86_values.specs.declared.Operand.TheVariants.{Absent as AbsentOperand, Reg, Mem as MemOperand}
use Rattle.x86_values.specs.declared.Instr.{Instr}
use Rattle.instruction_parts.specs.declared.row_types.Row.{Row}
use Rattle.instruction_parts.specs.declared.row_types.Plus.{Plus}
use Rattle.instruction_parts.specs.declared.row_types.Plus.TheVariants.{No as NoPlus, Register as PlusRegister, Stack as PlusStack}
use Rattle.instruction_parts.specs.declared.row_types.ModRmRule.{ModRmRule}
use Rattle.instruction_parts.specs.declared.row_types.ModRmRule.TheVariants.{No as NoModRm, Any as AnyModRm, Digit, Fixed as FixedByte}
use Rattle.instruction_parts.specs.declared.row_types.Place.{Place}
use Rattle.instruction_parts.specs.declared.row_types.Place.TheVariants.{Any as AnyPlace, Memory as OnlyMemory, Register as OnlyRegister}
use Rattle.instruction_parts.specs.declared.row_types.OpKind.{OpKind}
use Rattle.instruction_parts.specs.declared.row_types.OpKind.TheVariants.{Absent}
use Rattle.instruction_parts.specs.declared.kinds.Method.{Method}
use Rattle.instruction_parts.specs.declared.kinds.Method.TheVariants as method
use Rattle.instruction_parts.specs.declared.spelling.ModRm.{ModRm}
use Rattle.instruction_parts.specs.Kinds.{method_of}
use Rattle.instruction_parts.specs.Counting.{is_64, is_16}
use Rattle.instruction_parts.specs.Sizes.{is_vex_row}
use Rattle.row_fit.specs.Fits.{kind_at, reads_by, is_any_mode, is_gather, modrm_rule_fits, is_fixed_byte, place_allows, place_of, place_fits, modrm_in_range}
use Rattle.row_fit.specs.Sound.{Sound, reads_reg, reads_rm, has_modrm_rule, is_any_place, rule_in_range, plus_is_proper}
use Rattle.x86_values.specs.Operands.{is_memory}
use Rattle.plain_spelling.specs.Forms.{operand_at, is_variant_of, is_allowed_in, is_register}
use Rattle.plain_spelling.specs.PlainFront.{register_number, number_in_reg, number_in_rm, number_asked_of, base_or_register_number}
use Rattle.plain_spelling.specs.declared.addresses.AddressForm.{AddressForm}
use Rattle.plain_spelling.specs.declared.addresses.AddressForm.TheVariants.{Relative, Alone, Short, Wide}
use Rattle.plain_spelling.specs.declared.addresses.AddressFields.{AddressFields}
use Rattle.plain_spelling.specs.Addresses.{written_size, form_of, rm_of_one, rm_of_two, rm_of_short, displacement_count, mode_of_count, base_bits, wide_needs_sib, wide_fields, alone_fields, or_zero, address_fields}
use Rattle.plain_spelling.specs.PlainTail.{rm_operand, rm_fields, no_address, lone_mode, fields_of, modrm_with, fixed_rm, plain_modrm, plain_sib_of}
use Rattle.plain_spelling.specs.Expressible.{each_operand, kind_suits}
use Rattle.plain_spelling.specs.Writable.{rule_is_plain, place_is_plain, is_register_only, is_memory_only}
use Rattle.plain_spelling.proofs.Asked.{proper, four_kinds, one_rm, each-at, asked_rm-at, rm_operand-at, rm_operand-none, reads_b}
use Rattle.row_relation.specs.Given.{Given}
use Rattle.row_relation.proofs.FitNumbers.{kind_that_passes}

-- a test that holds at each index holds of all kinds
pub all-from : (p : OpKind → Bool) (kinds : List OpKind) (d : OpKind) → ((k : ℕ) → k < length kinds → p (slice_index_or kinds k d) ≡ true) → list_all p kinds ≡ true
all-from p [] d h = refl
all-from p (kind ∷ kinds) d h = and_from (p kind) (list_all p kinds) (h 0 (omega arith)) (all-from p kinds d (λ k below. h (suc k) (omega arith)))

-- one of two tests holds if the second does
pub or_true : (a b : Bool) → b ≡ true → (a || b) ≡ true
or_true true b h = refl
or_true false b h = h

-- an operand is read so
pub reads-at : (p : Method → Bool) (row : Row) (n : ℕ) → Sound row → n < 4 → p (method_of (kind_at row n)) ≡ true → reads_by p row ≡ true
reads-at p row n s h e = let four = four_kinds row s in go row.ops n (omega arith) e
  where
    go : (kinds : List OpKind) (n : ℕ) → n < length kinds → p (method_of (slice_index_or kinds n Absent)) ≡ true → list_any (λ kind. p (method_of kind)) kinds ≡ true
    go [] n below h = absurd (omega arith)
    go (kind ∷ kinds) zero below h = rw h refl
    go (kind ∷ kinds) (suc n) below h = or_true (p (method_of kind)) (list_any (λ kind. p (method_of kind)) kinds) (go kinds n (omega arith) h)

-- ---- the fields of an address

-- mod says memory, and rm is a field
pub record FieldsSmall (fields : AddressFields) : Type 0 where
  pub mode : fields.mode3 < 3
  pub rm : fields.rm < 8

if_below : (test : Bool) (a b n : ℕ) → a < n → b < n → (if test then a else b) < n
if_below true a b n ha hb = ha
if_below false a b n ha hb = hb

mode_small : (n : ℕ) → mode_of_count n < 3
unfolding mode_of_count
mode_small n = if_below (n == 0) 0 (if n == 1 then 1 else 2) 3 (omega arith) (if_below (n == 1) 1 2 3 (omega arith) (omega arith))

or_below : (test : Bool) (a : ℕ) (o : Option ℕ) → a < 8 → or_zero o < 8 → or_zero (if test then Some a else o) < 8
or_below true a o ha ho = ha
or_below false a o ha ho = ho

if_zero_below : (test : Bool) (o p : Option ℕ) → or_zero o < 8 → or_zero p < 8 → or_zero (if test then o else p) < 8
if_zero_below true o p ho hp = ho
if_zero_below false o p ho hp = hp

one_below : (base : ℕ) → or_zero (rm_of_one base) < 8
unfolding rm_of_one
one_below base =
    or_below (base == 6) 4 _ (omega arith) (or_below (base == 7) 5 _ (omega arith) (or_below (base == 5) 6 _ (omega arith) (or_below (base == 3) 7 None (omega arith) (omega arith))))

two_below : (base index : ℕ) → or_zero (rm_of_two base index) < 8
unfolding rm_of_two
two_below base index =
    if_zero_below (base == 3) _ _
    (or_below (index == 6) 0 _ (omega arith) (or_below (index == 7) 1 None (omega arith) (omega arith)))
    (if_zero_below (base == 5) _ None (or_below (index == 6) 2 _ (omega arith) (or_below (index == 7) 3 None (omega arith) (omega arith))) (omega arith))

short_below : (base : ℕ) (index : Option Register) → or_zero (rm_of_short base index) < 8
unfolding rm_of_short
short_below base None = one_below base
short_below base (Some (R16 index)) = two_below base index
short_below base (Some _) = omega arith

base_below : (base : Option Register) → base_bits base < 8
unfolding base_bits
base_below None = omega arith
base_below (Some r) = omega arith

base_mode : (base : Option Register) (n : ℕ) → n < 3 → (elim base [ None ↦ 0 | Some _ ↦ n ]) < 3
base_mode None n h = omega arith
base_mode (Some r) n h = h

wide_small : (m : Mem) → FieldsSmall (wide_fields m)
unfolding wide_fields
wide_small m = record {
  mode = base_mode m.base (mode_of_count (displacement_count m.disp_size)) (mode_small (displacement_count m.disp_size));
  rm = if_below (wide_needs_sib m) 4 (base_bits m.base) 8 (omega arith) (base_below m.base);
}

alone_small : (bits asize : Bits) (m : Mem) → FieldsSmall (alone_fields bits asize m)
unfolding alone_fields
alone_small bits asize m = elim (cases_Bool (is_16 asize)) [
  | inl word ↦ rw word (record { mode = omega arith; rm = omega arith })
  | inr other ↦ (elim (cases_Bool (is_64 bits)) [
    | inl long ↦ rw (other, long) (record { mode = omega arith; rm = omega arith })
    | inr legacy ↦ rw (other, legacy) (record { mode = omega arith; rm = omega arith })
  ])
]

form_small : (form : AddressForm) (bits asize : Bits) (m : Mem) → FieldsSmall (elim form [
  | Relative size ↦ record { mode3 = 0; rm = 5; sib = None }
  | Alone ↦ alone_fields bits asize m
  | Short base ↦ record { mode3 = mode_of_count (displacement_count m.disp_size); rm = or_zero (rm_of_short base m.index); sib = None }
  | Wide ↦ wide_fields m
])
form_small (Relative size) bits asize m = record { mode = omega arith; rm = omega arith }
form_small Alone bits asize m = alone_small bits asize m
form_small (Short base) bits asize m = record { mode = mode_small (displacement_count m.disp_size); rm = short_below base m.index }
form_small Wide bits asize m = wide_small m

-- **an address has mod below 3**
pub address_small : (bits asize : Bits) (m : Mem) → FieldsSmall (address_fields bits asize m)
unfolding address_fields
address_small bits asize m = form_small (form_of m.base m.index) bits asize m

-- ---- the plain ModRM by the row's rule

-- a row without ModRM has none in the plain spelling
pub modrm_none : (bits : Bits) (row : Row) (i : Instr) → row.modrm ≡ NoModRm → plain_modrm bits row i ≡ None
unfolding plain_modrm
modrm_none bits row i e = rw e refl

-- a row with any ModRM has the number and the fields of its operands
pub modrm_any : (bits : Bits) (row : Row) (i : Instr) → row.modrm ≡ AnyModRm → plain_modrm bits row i ≡ Some (modrm_with (number_asked_of number_in_reg row i % 8) (fields_of bits row i))
unfolding plain_modrm
modrm_any bits row i e = rw e refl

-- a row with a digit has it in ModRM.reg
pub modrm_digit : (bits : Bits) (row : Row) (i : Instr) (d : ℕ) → row.modrm ≡ Digit d → plain_modrm bits row i ≡ Some (modrm_with d (fields_of bits row i))
unfolding plain_modrm
modrm_digit bits row i d e = rw e refl

-- the ModRM that a row fixes, with a stack number
abbrev pub fixed_modrm : Row → Instr → ℕ → ModRm
fixed_modrm row i b = record { mode3 = b / 64; reg = b / 8 % 8; rm = fixed_rm row i b }

-- a row with a fixed byte has that byte
pub modrm_fixed : (bits : Bits) (row : Row) (i : Instr) (b : ℕ) → row.modrm ≡ FixedByte b → plain_modrm bits row i ≡ Some (fixed_modrm row i b)
unfolding plain_modrm
modrm_fixed bits row i b e = rw e refl

-- a row with any ModRM has the SIB of the address
pub sib_any : (bits : Bits) (row : Row) (i : Instr) → row.modrm ≡ AnyModRm → plain_sib_of bits row i ≡ (fields_of bits row i).sib
unfolding plain_sib_of
sib_any bits row i e = rw e refl

-- so has a row with a digit
pub sib_digit : (bits : Bits) (row : Row) (i : Instr) (d : ℕ) → row.modrm ≡ Digit d → plain_sib_of bits row i ≡ (fields_of bits row i).sib
unfolding plain_sib_of
sib_digit bits row i d e = rw e refl

-- a row that reads ModRM has a rule
rule_is_some : (row : Row) → has_modrm_rule row.modrm ≡ true → row.modrm ≡ NoModRm → true ≡ false
rule_is_some row h e = sym h ∙ ap has_modrm_rule e

-- ---- the row's rule is kept

stack_by : (plus : Plus) (rule : ModRmRule) (vex : Bool) (opcode b : ℕ) → (elim plus [ NoPlus ↦ true | PlusRegister ↦ not vex && (not (has_modrm_rule rule) && opcode % 8 == 0) | PlusStack ↦ elim rule [ FixedByte b ↦ b % 8 == 0 | _ ↦ false ] ]) ≡ true
    → rule ≡ FixedByte b → (elim plus [ PlusStack ↦ b % 8 == 0 | _ ↦ true ]) ≡ true
stack_by NoPlus rule vex opcode b h e = refl
stack_by PlusRegister rule vex opcode b h e = refl
stack_by PlusStack rule vex opcode b h e = rw e at h

-- a byte that a stack number is added to is a multiple of 8
stack_byte : (row : Row) (b : ℕ) → Sound row → row.modrm ≡ FixedByte b → (elim row.plus [ PlusStack ↦ b % 8 == 0 | _ ↦ true ]) ≡ true
unfolding plus_is_proper
stack_byte row b s e = stack_by row.plus row.modrm (is_vex_row row) row.opcode b s.plus e

fixed_by_plus : (plus : Plus) (b k : ℕ) → (elim plus [ PlusStack ↦ b % 8 == 0 | _ ↦ true ]) ≡ true → is_fixed_byte plus b (record { mode3 = b / 64; reg = b / 8 % 8; rm = elim plus [ PlusStack ↦ k | _ ↦ b % 8 ] }) ≡ true
fixed_by_plus NoPlus b k h = eq-eqb (b / 64 * 64 + b / 8 % 8 * 8 + b % 8) b (omega arith)
fixed_by_plus PlusRegister b k h = eq-eqb (b / 64 * 64 + b / 8 % 8 * 8 + b % 8) b (omega arith)
fixed_by_plus PlusStack b k h = let e = eqb-true (b % 8) 0 h in eq-eqb (b / 64 * 64 + b / 8 % 8 * 8) b (omega arith)

-- **the plain ModRM keeps the row's rule**
pub rule_fits : (bits : Bits) (row : Row) (i : Instr) → Sound row → modrm_rule_fits row.plus row.modrm (plain_modrm bits row i) ≡ true
unfolding modrm_rule_fits fixed_rm
rule_fits bits row i s = go row.modrm refl
  where
    go : (rule : ModRmRule) → row.modrm ≡ rule → modrm_rule_fits row.plus row.modrm (plain_modrm bits row i) ≡ true
    go NoModRm e = rw (modrm_none bits row i e, e) refl
    go AnyModRm e = rw (modrm_any bits row i e, e) refl
    go (Digit d) e = rw (modrm_digit bits row i d e, e) (eq-eqb d d refl)
    go (FixedByte b) e = rw (modrm_fixed bits row i b e, e) (fixed_by_plus row.plus b (number_asked_of number_in_rm row i % 8) (stack_byte row b s e))

-- ---- what r/m says of its operand

-- a fixed byte says a register (3.1.1.1)
fixed_mode : (b : ℕ) → rule_in_range (FixedByte b) ≡ true → b / 64 ≡ 3
unfolding rule_in_range
fixed_mode b h =
    let low = leb-true 0xC0 b (and_parts (nat_le 0xC0 b) (nat_lt b 256) h).0 in
    let high = ltb-true b 256 (and_parts (nat_le 0xC0 b) (nat_lt b 256) h).1 in
    omega arith

-- a fixed ModRM byte has mod 3
pub fixed_mode_is : (row : Row) (b : ℕ) → Sound row → row.modrm ≡ FixedByte b → b / 64 ≡ 3
fixed_mode_is row b s e = fixed_mode b (subst (λ (rule : ModRmRule). rule_in_range rule ≡ true) e s.rule)

fixed_rule : (rule : ModRmRule) (plus : Plus) (reg rm alone : Bool) (b : ℕ) → (elim rule [
  | Digit d ↦ not reg
  | FixedByte b ↦ not reg && (elim plus [ PlusStack ↦ alone | _ ↦ not rm ])
  | _ ↦ true
]) ≡ true → rule ≡ FixedByte b → (reg ≡ false) × ((elim plus [ PlusStack ↦ alone | _ ↦ not rm ]) ≡ true)
fixed_rule rule plus reg rm alone b h e =
    let k : (not reg && (elim plus [ PlusStack ↦ alone | _ ↦ not rm ])) ≡ true = rw e at h in
    (not-true reg (and_parts (not reg) (elim plus [ PlusStack ↦ alone | _ ↦ not rm ]) k).0, (and_parts (not reg) (elim plus [ PlusStack ↦ alone | _ ↦ not rm ]) k).1)

digit_rule : (rule : ModRmRule) (plus : Plus) (reg rm alone : Bool) (d : ℕ) → (elim rule [
  | Digit d ↦ not reg
  | FixedByte b ↦ not reg && (elim plus [ PlusStack ↦ alone | _ ↦ not rm ])
  | _ ↦ true
]) ≡ true → rule ≡ Digit d → reg ≡ false
digit_rule rule plus reg rm alone d h e =
    let k : not reg ≡ true = rw e at h in
    not-true reg k

-- an operand is read from reg on rows of any ModRM alone
pub rule_of_reg : (row : Row) → Sound row → rule_is_plain row ≡ true → reads_by reads_reg row ≡ true → row.modrm ≡ AnyModRm
unfolding rule_is_plain
rule_of_reg row s h reg = go row.modrm refl
  where
    go : (rule : ModRmRule) → row.modrm ≡ rule → row.modrm ≡ AnyModRm
    go NoModRm e = let k = rule_is_some row ((proper row s).reg reg) e in cc
    go AnyModRm e = e
    go (Digit d) e = let k = digit_rule row.modrm row.plus (reads_by reads_reg row) (reads_by reads_rm row) (reads_by is_register_only row) d h e in cc
    go (FixedByte b) e = let k = fixed_rule row.modrm row.plus (reads_by reads_reg row) (reads_by reads_rm row) (reads_by is_register_only row) b h e in cc

stack_and_register : (plus : Plus) (rm alone : Bool) → (elim plus [ PlusStack ↦ alone | _ ↦ not rm ]) ≡ true → rm ≡ true → (plus ≡ PlusStack) × (alone ≡ true)
stack_and_register NoPlus rm alone h e = cc
stack_and_register PlusRegister rm alone h e = cc
stack_and_register PlusStack rm alone h e = (refl, h)

register_only_reads : (how : Method) → is_register_only how ≡ true → reads_rm how ≡ true
register_only_reads method.RegisterOnly h = refl
register_only_reads _ h = cc

-- beside a fixed byte r/m is read by a stack register alone
fixed_operand : (row : Row) (n b : ℕ) → Sound row → rule_is_plain row ≡ true → n < 4 → row.modrm ≡ FixedByte b → reads_rm (method_of (kind_at row n)) ≡ true → (row.plus ≡ PlusStack) × (is_register_only (method_of (kind_at row n)) ≡ true)
unfolding rule_is_plain
fixed_operand row n b s h below e reads =
    let rule = fixed_rule row.modrm row.plus (reads_by reads_reg row) (reads_by reads_rm row) (reads_by is_register_only row) b h e in
    let stack = stack_and_register row.plus (reads_by reads_rm row) (reads_by is_register_only row) rule.1 (reads-at reads_rm row n s below reads) in
    let k = kind_that_passes (λ kind. is_register_only (method_of kind)) row.ops Absent stack.1 in
    let four = four_kinds row s in
    let same : k.0 ≡ n = one_rm row k.0 n s (omega arith) below (register_only_reads (method_of (kind_at row k.0)) k.2) reads in
    (stack.0, subst (λ (j : ℕ). is_register_only (method_of (kind_at row j)) ≡ true) same k.2)

fixed_rm_is : (row : Row) (i : Instr) (b : ℕ) → row.plus ≡ PlusStack → fixed_rm row i b ≡ number_asked_of number_in_rm row i % 8
unfolding fixed_rm
fixed_rm_is row i b e = by_plus row.plus (number_asked_of number_in_rm row i % 8) (b % 8) e
  where
    by_plus : (plus : Plus) (x y : ℕ) → plus ≡ PlusStack → (elim plus [ PlusStack ↦ x | _ ↦ y ]) ≡ x
    by_plus NoPlus x y e = cc
    by_plus PlusRegister x y e = cc
    by_plus PlusStack x y e = refl

fields_of_register : (bits : Bits) (row : Row) (i : Instr) (r : Register) → rm_operand row i ≡ Reg r → fields_of bits row i ≡ no_address 3 (register_number r % 8)
unfolding rm_fields
fields_of_register bits row i r e = ap (λ (op : Operand). rm_fields bits i.asize row.place op) e

fields_of_memory : (bits : Bits) (row : Row) (i : Instr) (m : Mem) → rm_operand row i ≡ MemOperand m → fields_of bits row i ≡ address_fields bits (written_size bits i.asize m) m
unfolding rm_fields
fields_of_memory bits row i m e = ap (λ (op : Operand). rm_fields bits i.asize row.place op) e

-- the ModRM of a register in r/m
pub record RegisterInRm (bits : Bits) (row : Row) (i : Instr) (r : Register) : Type 0 where
  pub modrm : ModRm
  pub is_plain : plain_modrm bits row i ≡ Some modrm
  pub mode : modrm.mode3 ≡ 3
  pub rm : modrm.rm ≡ register_number r % 8

-- a kind that is read in r/m uses B
pub reads_b_of_rm : (how : Method) → reads_rm how ≡ true → reads_b how ≡ true
reads_b_of_rm how h = rw h refl

-- a register that is read in r/m stands there
pub register_in_rm : (bits : Bits) (row : Row) (i : Instr) (n : ℕ) (r : Register) → Sound row → rule_is_plain row ≡ true → length i.ops ≡ 4 → n < 4 → reads_rm (method_of (kind_at row n)) ≡ true → operand_at i n ≡ Reg r → RegisterInRm bits row i r
register_in_rm bits row i n r s plain four below reads e = go row.modrm refl
  where
    fields : fields_of bits row i ≡ no_address 3 (register_number r % 8)
    fields = fields_of_register bits row i r (rm_operand-at row i n s four below reads ∙ e)

    go : (rule : ModRmRule) → row.modrm ≡ rule → RegisterInRm bits row i r
    go NoModRm rule = let k = rule_is_some row ((proper row s).rm (reads-at reads_rm row n s below reads)) rule in cc
    go AnyModRm rule = record {
      modrm = modrm_with (number_asked_of number_in_reg row i % 8) (no_address 3 (register_number r % 8));
      is_plain = modrm_any bits row i rule ∙ ap (λ (x : AddressFields). Some (modrm_with (number_asked_of number_in_reg row i % 8) x)) fields;
      mode = refl;
      rm = refl;
    }
    go (Digit d) rule = record {
      modrm = modrm_with d (no_address 3 (register_number r % 8));
      is_plain = modrm_digit bits row i d rule ∙ ap (λ (x : AddressFields). Some (modrm_with d x)) fields;
      mode = refl;
      rm = refl;
    }
    go (FixedByte b) rule =
        let stack = fixed_operand row n b s plain below rule reads in
        let number : number_asked_of number_in_rm row i ≡ register_number r = asked_rm-at row i n s four below (reads_b_of_rm (method_of (kind_at row n)) reads) ∙ ap base_or_register_number e in
        record {
          modrm = fixed_modrm row i b;
          is_plain = modrm_fixed bits row i b rule;
          mode = fixed_mode_is row b s rule;
          rm = fixed_rm_is row i b stack.0 ∙ ap (λ (x : ℕ). x % 8) number;
        }

-- ModRM and SIB of an address in r/m
pub record MemoryInRm (bits : Bits) (row : Row) (i : Instr) (m : Mem) : Type 0 where
  pub reg : ℕ
  pub modrm : plain_modrm bits row i ≡ Some (modrm_with reg (address_fields bits (written_size bits i.asize m) m))
  pub sib : plain_sib_of bits row i ≡ (address_fields bits (written_size bits i.asize m) m).sib

not_register : (place : Place) (how : Method) (m : Mem) → is_register_only how ≡ true → is_variant_of place how (MemOperand m) ≡ true → true ≡ false
unfolding is_variant_of
not_register place method.RegisterOnly m h k = sym k
not_register place _ m h k = sym h

-- so does a memory operand
pub memory_in_rm : (bits : Bits) (row : Row) (i : Instr) (n : ℕ) (m : Mem) → Sound row → rule_is_plain row ≡ true → length i.ops ≡ 4 → each_operand (kind_suits row i) ≡ true → n < 4 → reads_rm (method_of (kind_at row n)) ≡ true → operand_at i n ≡ MemOperand m → MemoryInRm bits row i m
unfolding kind_suits
memory_in_rm bits row i n m s plain four kinds below reads e = go row.modrm refl
  where
    fields : fields_of bits row i ≡ address_fields bits (written_size bits i.asize m) m
    fields = fields_of_memory bits row i m (rm_operand-at row i n s four below reads ∙ e)

    go : (rule : ModRmRule) → row.modrm ≡ rule → MemoryInRm bits row i m
    go NoModRm rule = let k = rule_is_some row ((proper row s).rm (reads-at reads_rm row n s below reads)) rule in cc
    go AnyModRm rule = record {
      reg = number_asked_of number_in_reg row i % 8;
      modrm = modrm_any bits row i rule ∙ ap (λ (x : AddressFields). Some (modrm_with (number_asked_of number_in_reg row i % 8) x)) fields;
      sib = sib_any bits row i rule ∙ ap (λ (x : AddressFields). x.sib) fields;
    }
    go (Digit d) rule = record {
      reg = d;
      modrm = modrm_digit bits row i d rule ∙ ap (λ (x : AddressFields). Some (modrm_with d x)) fields;
      sib = sib_digit bits row i d rule ∙ ap (λ (x : AddressFields). x.sib) fields;
    }
    go (FixedByte b) rule =
        let stack = fixed_operand row n b s plain below rule reads in
        let variant = subst (λ (op : Operand). is_variant_of row.place (method_of (kind_at row n)) op ≡ true) e (each-at (kind_suits row i) n below kinds) in
        let k = not_register row.place (method_of (kind_at row n)) m stack.1 variant in
        cc

-- ---- the limits to register or memory

-- an operand of r/m that the limit of its kind and that of the row allow
register_allowed : (place : Place) (op : Operand) → is_register op ≡ true → (place ≡ OnlyMemory → true ≡ false) → is_allowed_in place op ≡ true
unfolding is_allowed_in
register_allowed AnyPlace op h k = rw h refl
register_allowed OnlyMemory op h k = let e = k refl in cc
register_allowed OnlyRegister op h k = h

memory_allowed : (place : Place) (op : Operand) → is_memory op ≡ true → (place ≡ OnlyRegister → true ≡ false) → is_allowed_in place op ≡ true
unfolding is_allowed_in
memory_allowed AnyPlace op h k = or_true (is_register op) (is_memory op) h
memory_allowed OnlyMemory op h k = h
memory_allowed OnlyRegister op h k = let e = k refl in cc

only_memory : (place : Place) (alone memory gather fixed : Bool) → (elim place [ AnyPlace ↦ true | OnlyMemory ↦ not alone && fixed | OnlyRegister ↦ not memory && not gather ]) ≡ true → place ≡ OnlyMemory → (alone ≡ false) × (fixed ≡ true)
only_memory AnyPlace alone memory gather fixed h e = cc
only_memory OnlyMemory alone memory gather fixed h e = (not-true alone (and_parts (not alone) fixed h).0, (and_parts (not alone) fixed h).1)
only_memory OnlyRegister alone memory gather fixed h e = cc

only_register : (place : Place) (alone memory gather fixed : Bool) → (elim place [ AnyPlace ↦ true | OnlyMemory ↦ not alone && fixed | OnlyRegister ↦ not memory && not gather ]) ≡ true → place ≡ OnlyRegister → (memory ≡ false) × (gather ≡ false)
only_register AnyPlace alone memory gather fixed h e = cc
only_register OnlyMemory alone memory gather fixed h e = cc
only_register OnlyRegister alone memory gather fixed h e = (not-true memory (and_parts (not memory) (not gather) h).0, not-true gather (and_parts (not memory) (not gather) h).1)

-- the row's limit and its kinds agree
record PlacesAgree (row : Row) : Type 0 where
  register : row.place ≡ OnlyMemory → reads_by is_register_only row ≡ false
  fixed : row.place ≡ OnlyMemory → (elim row.modrm [ FixedByte b ↦ false | _ ↦ true ]) ≡ true
  memory : row.place ≡ OnlyRegister → reads_by is_memory_only row ≡ false
  gather : row.place ≡ OnlyRegister → reads_by is_gather row ≡ false

places_agree : (row : Row) → place_is_plain row ≡ true → PlacesAgree row
unfolding place_is_plain
places_agree row h =
    let alone = reads_by is_register_only row in
    let memory = reads_by is_memory_only row in
    let gather = reads_by is_gather row in
    let fixed : Bool = elim row.modrm [ FixedByte b ↦ false | _ ↦ true ] in
    record {
      register = λ e. (only_memory row.place alone memory gather fixed h e).0;
      fixed = λ e. (only_memory row.place alone memory gather fixed h e).1;
      memory = λ e. (only_register row.place alone memory gather fixed h e).0;
      gather = λ e. (only_register row.place alone memory gather fixed h e).1;
    }

any_place_is : (place : Place) → is_any_place place ≡ true → place ≡ AnyPlace
any_place_is AnyPlace h = refl
any_place_is _ h = cc

variant_allowed : (place : Place) (how : Method) (op : Operand) → reads_rm how ≡ true → is_variant_of place how op ≡ true
    → (is_register_only how ≡ true → place ≡ OnlyMemory → true ≡ false) → (is_memory_only how ≡ true → place ≡ OnlyRegister → true ≡ false)
    → (is_gather how ≡ true → place ≡ OnlyRegister → true ≡ false) → (is_any_mode how ≡ true → place ≡ OnlyMemory → true ≡ false) → is_allowed_in place op ≡ true
unfolding is_variant_of
variant_allowed place method.RegisterOrMemory op h k r m g a = k
variant_allowed place method.RegisterOnly op h k r m g a = register_allowed place op k (r refl)
variant_allowed place method.MemoryOnly op h k r m g a = memory_allowed place op k (m refl)
variant_allowed place method.Gather op h k r m g a = memory_allowed place op k (g refl)
variant_allowed place method.AnyMode op h k r m g a = register_allowed place op k (a refl)
variant_allowed place _ op h k r m g a = cc

-- **an operand in r/m is one that the row's limit allows**
allowed_in_rm : (row : Row) (i : Instr) (n : ℕ) → Sound row → place_is_plain row ≡ true → each_operand (kind_suits row i) ≡ true → n < 4 → reads_rm (method_of (kind_at row n)) ≡ true → is_allowed_in row.place (operand_at i n) ≡ true
unfolding kind_suits
allowed_in_rm row i n s plain kinds below reads =
    let p = places_agree row plain in
    let how = method_of (kind_at row n) in
    variant_allowed row.place how (operand_at i n) reads (each-at (kind_suits row i) n below kinds)
    (λ h e. sym (reads-at is_register_only row n s below h) ∙ p.register e)
    (λ h e. sym (reads-at is_memory_only row n s below h) ∙ p.memory e)
    (λ h e. sym (reads-at is_gather row n s below h) ∙ p.gather e)
    (λ h e. let k = any_place_is row.place ((proper row s).place (reads-at is_any_mode row n s below h)) in cc)

-- mod of a register or memory operand, by the limit
mode_allowed : (place : Place) (op : Operand) (m : ModRm) → is_allowed_in place op ≡ true → (is_register op ≡ true → m.mode3 ≡ 3) → (is_memory op ≡ true → m.mode3 < 3) → place_allows place m ≡ true
unfolding is_allowed_in place_allows
mode_allowed AnyPlace op m h r k = refl
mode_allowed OnlyMemory op m h r k = lt-ltb m.mode3 3 (k h)
mode_allowed OnlyRegister op m h r k = eq-eqb m.mode3 3 (r h)

-- what the kind of an operand in r/m asks of it
kind_allowed : (place : Place) (how : Method) (op : Operand) (m : ModRm) → is_variant_of place how op ≡ true → (is_register op ≡ true → m.mode3 ≡ 3) → (is_memory op ≡ true → m.mode3 < 3) → place_allows (place_of how) m ≡ true
unfolding is_variant_of place_allows
kind_allowed place method.RegisterOnly op m h r k = eq-eqb m.mode3 3 (r h)
kind_allowed place method.MemoryOnly op m h r k = lt-ltb m.mode3 3 (k h)
kind_allowed place method.Gather op m h r k = lt-ltb m.mode3 3 (k h)
kind_allowed place _ op m h r k = refl

-- a kind that is not read from r/m asks nothing of mod
kind_apart : (how : Method) (m : ModRm) → reads_rm how ≡ false → place_allows (place_of how) m ≡ true
unfolding place_allows
kind_apart method.RegisterOnly m h = cc
kind_apart method.MemoryOnly m h = cc
kind_apart method.Gather m h = cc
kind_apart _ m h = refl

-- mod of the plain ModRM says what its operand is
record ModeOf (op : Operand) (m : ModRm) : Type 0 where
  register : is_register op ≡ true → m.mode3 ≡ 3
  memory : is_memory op ≡ true → m.mode3 < 3

mode_of_rm : (bits : Bits) (row : Row) (i : Instr) (n : ℕ) (m : ModRm) → Sound row → rule_is_plain row ≡ true → length i.ops ≡ 4 → each_operand (kind_suits row i) ≡ true → n < 4 → reads_rm (method_of (kind_at row n)) ≡ true → plain_modrm bits row i ≡ Some m → ModeOf (operand_at i n) m
mode_of_rm bits row i n m s plain four kinds below reads e = go (operand_at i n) refl
  where
    go : (op : Operand) → operand_at i n ≡ op → ModeOf op m
    go (Reg r) same =
        let k = register_in_rm bits row i n r s plain four below reads same in
        let one = same_Some m k.modrm (sym e ∙ k.is_plain) in
        record { register = λ _. ap (λ (x : ModRm). x.mode3) one ∙ k.mode; memory = λ h. cc }
    go (MemOperand a) same =
        let k = memory_in_rm bits row i n a s plain four kinds below reads same in
        let one = same_Some m (modrm_with k.reg (address_fields bits (written_size bits i.asize a) a)) (sym e ∙ k.modrm) in
        let small = (address_small bits (written_size bits i.asize a) a).mode in
        record { register = λ h. cc; memory = λ _. subst (λ (x : ModRm). x.mode3 < 3) (sym one) small }
    go _ same = record { register = λ h. cc; memory = λ h. cc }

-- without an operand in r/m, mod is what the limit asks for
lone_allowed : (place : Place) (reg : ℕ) → place_allows place (modrm_with reg (no_address (lone_mode place) 0)) ≡ true
unfolding place_allows
lone_allowed AnyPlace reg = refl
lone_allowed OnlyMemory reg = refl
lone_allowed OnlyRegister reg = refl

fields_of_none : (bits : Bits) (row : Row) (i : Instr) → rm_operand row i ≡ AbsentOperand → fields_of bits row i ≡ no_address (lone_mode row.place) 0
unfolding rm_fields
fields_of_none bits row i e = ap (λ (op : Operand). rm_fields bits i.asize row.place op) e

fixed_allowed : (place : Place) (m : ModRm) → m.mode3 ≡ 3 → (place ≡ OnlyMemory → true ≡ false) → place_allows place m ≡ true
unfolding place_allows
fixed_allowed AnyPlace m h k = refl
fixed_allowed OnlyMemory m h k = let e = k refl in cc
fixed_allowed OnlyRegister m h k = eq-eqb m.mode3 3 h

-- the row's own limit
row_allows : (bits : Bits) (row : Row) (i : Instr) (m : ModRm) → Sound row → rule_is_plain row ≡ true → place_is_plain row ≡ true → length i.ops ≡ 4 → each_operand (kind_suits row i) ≡ true → plain_modrm bits row i ≡ Some m → place_allows row.place m ≡ true
row_allows bits row i m s plain places four kinds e = elim (cases_Bool (reads_by reads_rm row)) [
  | inl some ↦
      let k = kind_that_passes (λ kind. reads_rm (method_of kind)) row.ops Absent some in
      let all = four_kinds row s in
      let below : k.0 < 4 = omega arith in
      let mode = mode_of_rm bits row i k.0 m s plain four kinds below k.2 e in
      mode_allowed row.place (operand_at i k.0) m (allowed_in_rm row i k.0 s places kinds below k.2) mode.register mode.memory
  | inr none ↦ alone row.modrm refl (fields_of_none bits row i (rm_operand-none row i none))
]
  where
    alone : (rule : ModRmRule) → row.modrm ≡ rule → fields_of bits row i ≡ no_address (lone_mode row.place) 0 → place_allows row.place m ≡ true
    alone NoModRm rule fields = let k = sym e ∙ modrm_none bits row i rule in cc
    alone AnyModRm rule fields =
        let one = same_Some m _ (sym e ∙ modrm_any bits row i rule ∙ ap (λ (x : AddressFields). Some (modrm_with (number_asked_of number_in_reg row i % 8) x)) fields) in
        rw one (lone_allowed row.place (number_asked_of number_in_reg row i % 8))
    alone (Digit d) rule fields =
        let one = same_Some m _ (sym e ∙ modrm_digit bits row i d rule ∙ ap (λ (x : AddressFields). Some (modrm_with d x)) fields) in
        rw one (lone_allowed row.place d)
    alone (FixedByte b) rule fields =
        let one = same_Some m (fixed_modrm row i b) (sym e ∙ modrm_fixed bits row i b rule) in
        fixed_allowed row.place m (ap (λ (x : ModRm). x.mode3) one ∙ fixed_mode_is row b s rule)
        (λ only. sym ((places_agree row places).fixed only) ∙ ap (λ (r : ModRmRule). elim r [ FixedByte b ↦ false | _ ↦ true ]) rule)

kinds_allow : (bits : Bits) (row : Row) (i : Instr) (m : ModRm) → Sound row → rule_is_plain row ≡ true → length i.ops ≡ 4 → each_operand (kind_suits row i) ≡ true → plain_modrm bits row i ≡ Some m → list_all (λ kind. place_allows (place_of (method_of kind)) m) row.ops ≡ true
unfolding kind_suits
kinds_allow bits row i m s plain four kinds e =
    all-from (λ kind. place_allows (place_of (method_of kind)) m) row.ops Absent (λ k below. elim (cases_Bool (reads_rm (method_of (kind_at row k)))) [
      | inl reads ↦
          let all = four_kinds row s in
          let small : k < 4 = omega arith in
          let mode = mode_of_rm bits row i k m s plain four kinds small reads e in
          kind_allowed row.place (method_of (kind_at row k)) (operand_at i k) m (each-at (kind_suits row i) k small kinds) mode.register mode.memory
      | inr other ↦ kind_apart (method_of (kind_at row k)) m other
    ])

-- **the plain ModRM keeps the limits to register or memory**
pub places_fit : (bits : Bits) (ip : ℕ) (row : Row) (i : Instr) → Given bits ip row i → place_fits row (plain_modrm bits row i) ≡ true
unfolding place_fits
places_fit bits ip row i g = go (plain_modrm bits row i) refl
  where
    go : (m : Option ModRm) → plain_modrm bits row i ≡ m → place_fits row m ≡ true
    go None e = refl
    go (Some m) e =
        and_from (place_allows row.place m) _
        (row_allows bits row i m g.is_sound g.is_writable.rule g.is_writable.place g.four g.suits.kinds e)
        (kinds_allow bits row i m g.is_sound g.is_writable.rule g.four g.suits.kinds e)

-- ---- ranges

fields_small : (bits : Bits) (asize : Option Bits) (place : Place) (op : Operand) → ((rm_fields bits asize place op).mode3 < 4) × ((rm_fields bits asize place op).rm < 8)
unfolding rm_fields
fields_small bits asize place (Reg r) = (omega arith, omega arith)
fields_small bits asize place (MemOperand m) = let k = address_small bits (written_size bits asize m) m in (omega arith, omega arith)
fields_small bits asize place _ = (lone_small place, omega arith)
  where
    lone_small : (place : Place) → lone_mode place < 4
    lone_small AnyPlace = omega arith
    lone_small OnlyMemory = omega arith
    lone_small OnlyRegister = omega arith

digit_small : (d : ℕ) → rule_in_range (Digit d) ≡ true → d < 8
unfolding rule_in_range
digit_small d h = ltb-true d 8 h

fixed_rm_small : (row : Row) (i : Instr) (b : ℕ) → fixed_rm row i b < 8
unfolding fixed_rm
fixed_rm_small row i b = by_plus row.plus (number_asked_of number_in_rm row i)
  where
    by_plus : (plus : Plus) (x : ℕ) → (elim plus [ PlusStack ↦ x % 8 | _ ↦ b % 8 ]) < 8
    by_plus NoPlus x = omega arith
    by_plus PlusRegister x = omega arith
    by_plus PlusStack x = omega arith

modrm_small : (m : ModRm) → m.mode3 < 4 → m.reg < 8 → m.rm < 8 → modrm_in_range (Some m) ≡ true
unfolding modrm_in_range
modrm_small m a b c = and_from (nat_lt m.mode3 4) _ (lt-ltb m.mode3 4 a) (and_from (nat_lt m.reg 8) _ (lt-ltb m.reg 8 b) (lt-ltb m.rm 8 c))

no_modrm : modrm_in_range None ≡ true
unfolding modrm_in_range
no_modrm = refl

-- **the fields of the plain ModRM are values of theirs**
pub modrm_fits : (bits : Bits) (row : Row) (i : Instr) → Sound row → modrm_in_range (plain_modrm bits row i) ≡ true
modrm_fits bits row i s = go row.modrm refl
  where
    small : ((fields_of bits row i).mode3 < 4) × ((fields_of bits row i).rm < 8)
    small = fields_small bits i.asize row.place (rm_operand row i)

    go : (rule : ModRmRule) → row.modrm ≡ rule → modrm_in_range (plain_modrm bits row i) ≡ true
    go NoModRm e = rw (modrm_none bits row i e) no_modrm
    go AnyModRm e = rw (modrm_any bits row i e) (modrm_small (modrm_with (number_asked_of number_in_reg row i % 8) (fields_of bits row i)) small.0 (omega arith) small.1)
    go (Digit d) e =
        rw (modrm_digit bits row i d e) (modrm_small (modrm_with d (fields_of bits row i)) small.0 (digit_small d (subst (λ (rule : ModRmRule). rule_in_range rule ≡ true) e s.rule)) small.1)
    go (FixedByte b) e =
        let mode = fixed_mode_is row b s e in
        rw (modrm_fixed bits row i b e) (modrm_small (fixed_modrm row i b) (omega arith) (omega arith) (fixed_rm_small row i b))
