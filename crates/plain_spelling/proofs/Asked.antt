-- A field of a sound row is asked for by the one operand that is read from it, and so is the displacement.
use Rattle.std.proofs.Common.{◌≡◌, ◌⊎◌, inl, inr, ℕ, zero, suc, ◌+◌, ◌%◌, ◌<◌, ◌≤◌, Bool, true, false, ◌&&◌, ◌||◌, not, ◌==◌, List, [], ◌∷◌, length, refl, ap, sym, ◌∙◌, arith, if◌then◌else◌, cond, Option, Some, None, is_none}
use Rattle.std.specs.Prelude.{slice_index_or}
use Rattle.std.proofs.lemmas.Bool.{leb-true, or_parts, and_parts, cases_Bool, eqb-true, not-true}
use Rattle.std.specs.List.{list_any}
use Rattle.x86_values.specs.declared.Bits.{Bits}
use Rattle.x86_values.specs.declared.Register.{Register}
use Rattle.x86_values.specs.declared.DispSize.{DispSize}
use Rattle.x86_values.specs.declared.DispSize.TheVariants.{D0, D8, D16, D32, D64}
use Rattle.x86_values.specs.declared.Mem.{Mem}
use Rattle.x86_values.specs.declared.Operand.{Operand}
use Rattle.x86_values.specs.declared.Operand.TheVariants.{Absent as AbsentOperand, Mem as MemOperand}
use Rattle.x86_values.specs.declared.Instr.{Instr}
use Rattle.instruction_parts.specs.declared.row_types.Row.{Row}
use Rattle.instruction_parts.specs.declared.row_types.Plus.{Plus}
use Rattle.instruction_parts.specs.declared.row_types.Plus.TheVariants.{No as NoPlus, Register as PlusRegister, Stack as PlusStack}
use Rattle.instruction_parts.specs.declared.row_types.ModRmRule.TheVariants.{Fixed as FixedByte}
use Rattle.instruction_parts.specs.declared.row_types.Place.{Place}
use Rattle.instruction_parts.specs.declared.row_types.OpKind.{OpKind}
use Rattle.instruction_parts.specs.declared.row_types.OpKind.TheVariants.{Absent as AbsentKind}
use Rattle.instruction_parts.specs.declared.kinds.Method.{Method}
use Rattle.instruction_parts.specs.declared.kinds.Method.TheVariants as method
use Rattle.instruction_parts.specs.declared.kinds.File.{File}
use Rattle.instruction_parts.specs.Kinds.{method_of, file_of}
use Rattle.instruction_parts.specs.Sizes.{is_vex_row}
use Rattle.row_fit.specs.Fits.{kind_at, reads_by, is_offset, is_any_mode, is_vvvv}
use Rattle.row_fit.specs.Sound.{Sound, count_where, at_most_one, reads_reg, reads_rm, reads_opcode, reads_last_byte, has_modrm_rule, is_any_place, plus_is_proper, operands_are_proper, operands_are_apart, has_four_operands}
use Rattle.plain_spelling.specs.Forms.{operand_at, is_variant_of}
use Rattle.plain_spelling.specs.PlainFront.{over_operands, operand_number, base_or_register_number, operand_index_number, number_in_reg, number_in_rm, number_in_index, number_in_vvvv, number_in_opcode, number_asked_of, number_or_zero}
use Rattle.plain_spelling.specs.Addresses.{displacement_count, shape_suits}
use Rattle.plain_spelling.specs.Expressible.{each_operand, kind_suits, address_suits}
use Rattle.plain_spelling.specs.PlainTail.{operand_where, rm_operand, address_operand, operand_displacement, displacement_read}

-- the row adds a register to its opcode byte
abbrev pub adds_register : Plus → Bool
adds_register PlusRegister = true
adds_register _ = false

-- ---- lists of kinds and operands

-- the method of kind n of a list
abbrev method_at : List OpKind → ℕ → Method
method_at kinds n = method_of (slice_index_or kinds n AbsentKind)

-- how many kinds pass a test of their methods
abbrev count_by : (Method → Bool) → List OpKind → ℕ
count_by p kinds = count_where (λ kind. p (method_of kind)) kinds

-- some kind does
abbrev any_by : (Method → Bool) → List OpKind → Bool
any_by p kinds = list_any (λ kind. p (method_of kind)) kinds

-- operands that are not read so add nothing
abbrev AddsNothing : (Method → Bool) → (Method → Operand → ℕ) → List OpKind → List Operand → Type 0
AddsNothing p f kinds ops = (k : ℕ) → k < length kinds → p (method_at kinds k) ≡ false → f (method_at kinds k) (slice_index_or ops k AbsentOperand) ≡ 0

count_of-none : (p : Method → Bool) (kinds : List OpKind) → any_by p kinds ≡ false → count_by p kinds ≡ 0
count_of-none p [] h = refl
count_of-none p (kind ∷ kinds) h =
    let parts = or_parts (p (method_of kind)) (any_by p kinds) h in
    rw (parts.0) (rw (count_of-none p kinds parts.1) refl)

count_first : (b : Bool) (n : ℕ) → b ≡ true → (if b then 1 else 0) + n ≤ 1 → n ≡ 0
count_first true n e h = omega arith
count_first false n e h = cc

count_rest : (b : Bool) (n : ℕ) → (if b then 1 else 0) + n ≤ 1 → n ≤ 1
count_rest true n h = omega arith
count_rest false n h = omega arith

first_not : (b : Bool) (n : ℕ) → (if b then 1 else 0) + n ≤ 1 → 0 < n → b ≡ false
first_not true n h k = absurd (omega arith)
first_not false n h k = refl

no_count : (b : Bool) (n : ℕ) → (if b then 1 else 0) + n ≡ 0 → (b ≡ false) × (n ≡ 0)
no_count true n h = absurd (omega arith)
no_count false n h = (refl, omega arith)

some_count : (b : Bool) (n : ℕ) → b ≡ true → 0 < (if b then 1 else 0) + n
some_count true n e = omega arith
some_count false n e = cc

more_count : (b : Bool) (n : ℕ) → 0 < n → 0 < (if b then 1 else 0) + n
more_count true n e = omega arith
more_count false n e = omega arith

-- a kind that passes is counted
counted : (p : Method → Bool) (kinds : List OpKind) (n : ℕ) → n < length kinds → p (method_at kinds n) ≡ true → 0 < count_by p kinds
counted p [] n h e = absurd (omega arith)
counted p (kind ∷ kinds) zero h e = some_count (p (method_of kind)) (count_by p kinds) e
counted p (kind ∷ kinds) (suc n) h e = more_count (p (method_of kind)) (count_by p kinds) (counted p kinds n (omega arith) e)

rest_adds : (p : Method → Bool) (f : Method → Operand → ℕ) (kind : OpKind) (kinds : List OpKind) (op : Operand) (ops : List Operand) → AddsNothing p f (kind ∷ kinds) (op ∷ ops) → AddsNothing p f kinds ops
rest_adds p f kind kinds op ops h = λ k below other. h (suc k) (omega arith) other

-- where no kind passes, nothing is asked
over-none : (p : Method → Bool) (f : Method → Operand → ℕ) (kinds : List OpKind) (ops : List Operand) → AddsNothing p f kinds ops → count_by p kinds ≡ 0 → over_operands f kinds ops ≡ 0
over-none p f [] ops h c = refl
over-none p f (kind ∷ kinds) [] h c = refl
over-none p f (kind ∷ kinds) (op ∷ ops) h c =
    let parts = no_count (p (method_of kind)) (count_by p kinds) c in
    let first : f (method_of kind) op ≡ 0 = h 0 (omega arith) parts.0 in
    let rest = over-none p f kinds ops (rest_adds p f kind kinds op ops h) parts.1 in
    omega arith

-- where one passes, its operand alone is asked
over-one : (p : Method → Bool) (f : Method → Operand → ℕ) (kinds : List OpKind) (ops : List Operand) (n : ℕ) → n < length kinds → length ops ≡ length kinds → AddsNothing p f kinds ops → count_by p kinds ≤ 1 → p (method_at kinds n) ≡ true
    → over_operands f kinds ops ≡ f (method_at kinds n) (slice_index_or ops n AbsentOperand)
over-one p f [] ops n h l none c e = absurd (omega arith)
over-one p f (kind ∷ kinds) [] n h l none c e = absurd (omega arith)
over-one p f (kind ∷ kinds) (op ∷ ops) zero h l none c e =
    let rest = over-none p f kinds ops (rest_adds p f kind kinds op ops none) (count_first (p (method_of kind)) (count_by p kinds) e c) in
    omega arith
over-one p f (kind ∷ kinds) (op ∷ ops) (suc n) h l none c e =
    let here = first_not (p (method_of kind)) (count_by p kinds) c (counted p kinds n (omega arith) e) in
    let first : f (method_of kind) op ≡ 0 = none 0 (omega arith) here in
    let rest = over-one p f kinds ops n (omega arith) (omega arith) (rest_adds p f kind kinds op ops none) (count_rest (p (method_of kind)) (count_by p kinds) c) e in
    omega arith

-- the operand of the one kind that passes is found
where-one : (p : Method → Bool) (kinds : List OpKind) (ops : List Operand) (n : ℕ) → n < length kinds → length ops ≡ length kinds → count_by p kinds ≤ 1 → p (method_at kinds n) ≡ true → operand_where p kinds ops ≡ slice_index_or ops n AbsentOperand
where-one p [] ops n h l c e = absurd (omega arith)
where-one p (kind ∷ kinds) [] n h l c e = absurd (omega arith)
where-one p (kind ∷ kinds) (op ∷ ops) zero h l c e = rw e refl
where-one p (kind ∷ kinds) (op ∷ ops) (suc n) h l c e =
    let here = first_not (p (method_of kind)) (count_by p kinds) c (counted p kinds n (omega arith) e) in
    rw here (where-one p kinds ops n (omega arith) (omega arith) (count_rest (p (method_of kind)) (count_by p kinds) c) e)

where-none : (p : Method → Bool) (kinds : List OpKind) (ops : List Operand) → count_by p kinds ≡ 0 → operand_where p kinds ops ≡ AbsentOperand
where-none p [] ops c = refl
where-none p (kind ∷ kinds) [] c = refl
where-none p (kind ∷ kinds) (op ∷ ops) c =
    let parts = no_count (p (method_of kind)) (count_by p kinds) c in
    rw (parts.0) (where-none p kinds ops parts.1)

-- two kinds that pass are one
one_place : (p : Method → Bool) (kinds : List OpKind) (k n : ℕ) → k < length kinds → n < length kinds → count_by p kinds ≤ 1 → p (method_at kinds k) ≡ true → p (method_at kinds n) ≡ true → k ≡ n
one_place p [] k n hk hn c ek en = absurd (omega arith)
one_place p (kind ∷ kinds) zero zero hk hn c ek en = refl
one_place p (kind ∷ kinds) zero (suc n) hk hn c ek en =
    let rest = count_first (p (method_of kind)) (count_by p kinds) ek c in
    let some = counted p kinds n (omega arith) en in
    absurd (omega arith)
one_place p (kind ∷ kinds) (suc k) zero hk hn c ek en =
    let rest = count_first (p (method_of kind)) (count_by p kinds) en c in
    let some = counted p kinds k (omega arith) ek in
    absurd (omega arith)
one_place p (kind ∷ kinds) (suc k) (suc n) hk hn c ek en =
    let rest = one_place p kinds k n (omega arith) (omega arith) (count_rest (p (method_of kind)) (count_by p kinds) c) ek en in
    omega arith

-- two tests of which no kind passes the second count as the first
abbrev or_test : (Method → Bool) → (Method → Bool) → Method → Bool
or_test p q how = p how || q how

count-or_left : (p q : Method → Bool) (kinds : List OpKind) → any_by q kinds ≡ false → count_by (or_test p q) kinds ≡ count_by p kinds
count-or_left p q [] h = refl
count-or_left p q (kind ∷ kinds) h =
    let parts = or_parts (q (method_of kind)) (any_by q kinds) h in
    let rest = count-or_left p q kinds parts.1 in
    by_cases (p (method_of kind)) (q (method_of kind)) (count_by (or_test p q) kinds) (count_by p kinds) parts.0 rest
  where
    by_cases : (a b : Bool) (m n : ℕ) → b ≡ false → m ≡ n → (if a || b then 1 else 0) + m ≡ (if a then 1 else 0) + n
    by_cases true b m n e k = omega arith
    by_cases false true m n e k = cc
    by_cases false false m n e k = omega arith

count-or_right : (p q : Method → Bool) (kinds : List OpKind) → any_by p kinds ≡ false → count_by (or_test p q) kinds ≡ count_by q kinds
count-or_right p q [] h = refl
count-or_right p q (kind ∷ kinds) h =
    let parts = or_parts (p (method_of kind)) (any_by p kinds) h in
    let rest = count-or_right p q kinds parts.1 in
    by_cases (p (method_of kind)) (q (method_of kind)) (count_by (or_test p q) kinds) (count_by q kinds) parts.0 rest
  where
    by_cases : (a b : Bool) (m n : ℕ) → a ≡ false → m ≡ n → (if a || b then 1 else 0) + m ≡ (if b then 1 else 0) + n
    by_cases true b m n e k = cc
    by_cases false true m n e k = omega arith
    by_cases false false m n e k = omega arith

-- at most one passes cases_Bool, where at most one passes each and one of the tests passes none
count-or : (p q : Method → Bool) (kinds : List OpKind) → (any_by p kinds ≡ false) ⊎ (any_by q kinds ≡ false) → count_by p kinds ≤ 1 → count_by q kinds ≤ 1 → count_by (or_test p q) kinds ≤ 1
count-or p q kinds (inl none) hp hq = let e = count-or_right p q kinds none in omega arith
count-or p q kinds (inr none) hp hq = let e = count-or_left p q kinds none in omega arith

any-or : (p q : Method → Bool) (kinds : List OpKind) → any_by p kinds ≡ false → any_by q kinds ≡ false → any_by (or_test p q) kinds ≡ false
any-or p q [] hp hq = refl
any-or p q (kind ∷ kinds) hp hq =
    let a = or_parts (p (method_of kind)) (any_by p kinds) hp in
    let b = or_parts (q (method_of kind)) (any_by q kinds) hq in
    rw (a.0) (rw (b.0) (any-or p q kinds a.1 b.1))

-- ---- what a sound row says of its operands

-- a sound row has four operand kinds
pub four_kinds : (row : Row) → Sound row → length row.ops ≡ 4
unfolding has_four_operands
four_kinds row s = eqb-true (length row.ops) 4 s.four_operands

at_most : (p : Method → Bool) (row : Row) → at_most_one p row ≡ true → count_by p row.ops ≤ 1
at_most p row h = leb-true (count_by p row.ops) 1 h

-- no two operands are read from one place
record Apart (row : Row) : Type 0 where
  reg : count_by reads_reg row.ops ≤ 1
  rm : count_by reads_rm row.ops ≤ 1
  vvvv : count_by is_vvvv row.ops ≤ 1
  opcode : count_by reads_opcode row.ops ≤ 1
  last : count_by reads_last_byte row.ops ≤ 1
  offset : count_by is_offset row.ops ≤ 1

apart : (row : Row) → Sound row → Apart row
unfolding operands_are_apart
apart row s =
    let a = at_most_one reads_reg row in
    let b = at_most_one reads_rm row in
    let c = at_most_one is_vvvv row in
    let d = at_most_one reads_opcode row in
    let e = at_most_one reads_last_byte row in
    let f = at_most_one is_offset row in
    let h1 = (and_parts a (b && (c && (d && (e && f)))) s.apart).1 in
    let h2 = (and_parts b (c && (d && (e && f))) h1).1 in
    let h3 = (and_parts c (d && (e && f)) h2).1 in
    let h4 = (and_parts d (e && f) h3).1 in
    record {
      reg = at_most reads_reg row (and_parts a (b && (c && (d && (e && f)))) s.apart).0;
      rm = at_most reads_rm row (and_parts b (c && (d && (e && f))) h1).0;
      vvvv = at_most is_vvvv row (and_parts c (d && (e && f)) h2).0;
      opcode = at_most reads_opcode row (and_parts d (e && f) h3).0;
      last = at_most reads_last_byte row (and_parts e f h4).0;
      offset = at_most is_offset row (and_parts e f h4).1;
    }

-- operands that read ModRM stand on rows that have one, an absolute address on rows that have none, a register of the opcode byte
-- exactly on rows that add one, and no limit on mod where an operand does not read it
pub record Proper (row : Row) : Type 0 where
  pub reg : reads_by reads_reg row ≡ true → has_modrm_rule row.modrm ≡ true
  pub rm : reads_by reads_rm row ≡ true → has_modrm_rule row.modrm ≡ true
  pub offset : reads_by is_offset row ≡ true → has_modrm_rule row.modrm ≡ false
  pub opcode : reads_by reads_opcode row ≡ adds_register row.plus
  pub place : reads_by is_any_mode row ≡ true → is_any_place row.place ≡ true

first_of_three : (a b h : Bool) → ((not a && not b) || h) ≡ true → a ≡ true → h ≡ true
first_of_three a b true e x = refl
first_of_three true b false e x = cc
first_of_three false b false e x = cc

second_of_three : (a b h : Bool) → ((not a && not b) || h) ≡ true → b ≡ true → h ≡ true
second_of_three a b true e x = refl
second_of_three a false false e x = cc
second_of_three true true false e x = cc
second_of_three false true false e x = cc

implied : (a b : Bool) → (not a || b) ≡ true → a ≡ true → b ≡ true
implied a true e x = refl
implied true false e x = cc
implied false false e x = cc

by_plus : (plus : Plus) (o : Bool) → (elim plus [ PlusRegister ↦ o | _ ↦ not o ]) ≡ true → o ≡ adds_register plus
by_plus NoPlus o h = not-true o h
by_plus PlusStack o h = not-true o h
by_plus PlusRegister o h = h

-- a sound row reads each part of its bytes for one operand at most
pub proper : (row : Row) → Sound row → Proper row
unfolding operands_are_proper
proper row s =
    let a = reads_by reads_reg row in
    let b = reads_by reads_rm row in
    let h = has_modrm_rule row.modrm in
    let o = reads_by is_offset row in
    let q = reads_by reads_opcode row in
    let e : Bool = elim row.plus [ PlusRegister ↦ q | _ ↦ not q ] in
    let m = reads_by is_any_mode row in
    let one = (not a && not b) || h in
    let two = not o || not h in
    let four = not m || is_any_place row.place in
    let h1 = (and_parts one (two && (e && four)) s.operands).0 in
    let h2 = (and_parts one (two && (e && four)) s.operands).1 in
    let h3 = (and_parts two (e && four) h2).1 in
    record {
      reg = first_of_three a b h h1;
      rm = second_of_three a b h h1;
      offset = λ x. not-true h (implied o (not h) (and_parts two (e && four) h2).0 x);
      opcode = by_plus row.plus q (and_parts e four h3).0;
      place = implied m (is_any_place row.place) (and_parts e four h3).1;
    }

plus_without_modrm : (plus : Plus) (vex has : Bool) (opcode : ℕ) (fixed : Bool) → (elim plus [ NoPlus ↦ true | PlusRegister ↦ not vex && (not has && opcode % 8 == 0) | PlusStack ↦ fixed ]) ≡ true → adds_register plus ≡ true → (vex ≡ false) × (has ≡ false) × (opcode % 8 ≡ 0)
plus_without_modrm NoPlus vex has opcode fixed h e = cc
plus_without_modrm PlusStack vex has opcode fixed h e = cc
plus_without_modrm PlusRegister vex has opcode fixed h e =
    let rest = (and_parts (not vex) (not has && opcode % 8 == 0) h).1 in
    (not-true vex (and_parts (not vex) (not has && opcode % 8 == 0) h).0, not-true has (and_parts (not has) (opcode % 8 == 0) rest).0, eqb-true (opcode % 8) 0 (and_parts (not has) (opcode % 8 == 0) rest).1)

-- an added register stands on a legacy row without ModRM, and its opcode byte is a multiple of 8
pub plus_register : (row : Row) → Sound row → adds_register row.plus ≡ true → (is_vex_row row ≡ false) × (has_modrm_rule row.modrm ≡ false) × (row.opcode % 8 ≡ 0)
unfolding plus_is_proper
plus_register row s e =
    plus_without_modrm row.plus (is_vex_row row) (has_modrm_rule row.modrm) row.opcode (elim row.modrm [ FixedByte b ↦ b % 8 == 0 | _ ↦ false ]) s.plus e

-- one operand alone is read from r/m
pub one_rm : (row : Row) (k n : ℕ) → Sound row → k < 4 → n < 4 → reads_rm (method_of (kind_at row k)) ≡ true → reads_rm (method_of (kind_at row n)) ≡ true → k ≡ n
one_rm row k n s hk hn ek en =
    let four = four_kinds row s in
    one_place reads_rm row.ops k n (omega arith) (omega arith) (apart row s).rm ek en

-- r/m and the opcode byte are not both read
rm_or_opcode : (row : Row) → Sound row → (any_by reads_rm row.ops ≡ false) ⊎ (any_by reads_opcode row.ops ≡ false)
rm_or_opcode row s = elim (cases_Bool (reads_by reads_opcode row)) [
  | inr none ↦ inr none
  | inl opcode ↦ (elim (cases_Bool (reads_by reads_rm row)) [
    | inr none ↦ inl none
    | inl rm ↦
        let adds : adds_register row.plus ≡ true = sym (proper row s).opcode ∙ opcode in
        let without = (plus_register row s adds).1 in
        let with_one = (proper row s).rm rm in
        cc
  ])
]

-- nor r/m and an absolute address
rm_or_offset : (row : Row) → Sound row → (any_by reads_rm row.ops ≡ false) ⊎ (any_by is_offset row.ops ≡ false)
rm_or_offset row s = elim (cases_Bool (reads_by is_offset row)) [
  | inr none ↦ inr none
  | inl offset ↦ (elim (cases_Bool (reads_by reads_rm row)) [
    | inr none ↦ inl none
    | inl rm ↦
        let without = (proper row s).offset offset in
        let with_one = (proper row s).rm rm in
        cc
  ])
]

-- ---- methods

-- r/m, the SIB's base or the opcode byte
abbrev pub reads_b : Method → Bool
reads_b how = reads_rm how || reads_opcode how

-- r/m or an absolute address
abbrev pub reads_address : Method → Bool
reads_address how = reads_rm how || is_offset how

reg_vanishes : (how : Method) (op : Operand) → reads_reg how ≡ false → number_in_reg how op ≡ 0
unfolding number_in_reg
reg_vanishes method.ModRmReg op h = cc
reg_vanishes _ op h = refl

reg_shows : (how : Method) (op : Operand) → reads_reg how ≡ true → number_in_reg how op ≡ operand_number op
unfolding number_in_reg
reg_shows method.ModRmReg op h = refl
reg_shows _ op h = cc

vvvv_vanishes : (how : Method) (op : Operand) → is_vvvv how ≡ false → number_in_vvvv how op ≡ 0
unfolding number_in_vvvv
vvvv_vanishes method.Vvvv op h = cc
vvvv_vanishes _ op h = refl

vvvv_shows : (how : Method) (op : Operand) → is_vvvv how ≡ true → number_in_vvvv how op ≡ operand_number op
unfolding number_in_vvvv
vvvv_shows method.Vvvv op h = refl
vvvv_shows _ op h = cc

opcode_vanishes : (how : Method) (op : Operand) → reads_opcode how ≡ false → number_in_opcode how op ≡ 0
unfolding number_in_opcode
opcode_vanishes method.OpcodeLow op h = cc
opcode_vanishes _ op h = refl

opcode_shows : (how : Method) (op : Operand) → reads_opcode how ≡ true → number_in_opcode how op ≡ operand_number op
unfolding number_in_opcode
opcode_shows method.OpcodeLow op h = refl
opcode_shows _ op h = cc

number_in_rm-is : (how : Method) (op : Operand) → number_in_rm how op ≡ cond (reads_b how) (base_or_register_number op) 0
unfolding number_in_rm
number_in_rm-is method.OpcodeLow op = refl
number_in_rm-is _ op = refl

rm_vanishes : (how : Method) (op : Operand) → reads_b how ≡ false → number_in_rm how op ≡ 0
rm_vanishes how op h = number_in_rm-is how op ∙ ap (λ (b : Bool). cond b (base_or_register_number op) 0) h

rm_shows : (how : Method) (op : Operand) → reads_b how ≡ true → number_in_rm how op ≡ base_or_register_number op
rm_shows how op h = number_in_rm-is how op ∙ ap (λ (b : Bool). cond b (base_or_register_number op) 0) h

-- ---- what a field is asked for

-- a field that one operand is read from
at_field : (p : Method → Bool) (f : Method → Operand → ℕ) (row : Row) (i : Instr) (n : ℕ) → Sound row → length i.ops ≡ 4 → n < 4 → AddsNothing p f row.ops i.ops → count_by p row.ops ≤ 1 → p (method_of (kind_at row n)) ≡ true
    → number_asked_of f row i ≡ f (method_of (kind_at row n)) (operand_at i n)
at_field p f row i n s four h none c e =
    let k = four_kinds row s in
    over-one p f row.ops i.ops n (omega arith) (omega arith) none c e

no_field : (p : Method → Bool) (f : Method → Operand → ℕ) (row : Row) (i : Instr) → AddsNothing p f row.ops i.ops → reads_by p row ≡ false → number_asked_of f row i ≡ 0
no_field p f row i none h = over-none p f row.ops i.ops none (count_of-none p row.ops h)

-- **ModRM.reg is asked for by the register that is read from it**
pub asked_reg-at : (row : Row) (i : Instr) (n : ℕ) → Sound row → length i.ops ≡ 4 → n < 4 → reads_reg (method_of (kind_at row n)) ≡ true → number_asked_of number_in_reg row i ≡ operand_number (operand_at i n)
asked_reg-at row i n s four h e =
    at_field reads_reg number_in_reg row i n s four h (λ k _ other. reg_vanishes _ _ other) (apart row s).reg e ∙ reg_shows _ _ e

-- a row that does not read reg asks for the number 0 there
pub asked_reg-none : (row : Row) (i : Instr) → reads_by reads_reg row ≡ false → number_asked_of number_in_reg row i ≡ 0
asked_reg-none row i h = no_field reads_reg number_in_reg row i (λ k _ other. reg_vanishes _ _ other) h

-- the number in vvvv is that of the operand that is read there
pub asked_vvvv-at : (row : Row) (i : Instr) (n : ℕ) → Sound row → length i.ops ≡ 4 → n < 4 → is_vvvv (method_of (kind_at row n)) ≡ true → number_asked_of number_in_vvvv row i ≡ operand_number (operand_at i n)
asked_vvvv-at row i n s four h e =
    at_field is_vvvv number_in_vvvv row i n s four h (λ k _ other. vvvv_vanishes _ _ other) (apart row s).vvvv e ∙ vvvv_shows _ _ e

-- a row that does not read vvvv asks for the number 0 there
pub asked_vvvv-none : (row : Row) (i : Instr) → reads_by is_vvvv row ≡ false → number_asked_of number_in_vvvv row i ≡ 0
asked_vvvv-none row i h = no_field is_vvvv number_in_vvvv row i (λ k _ other. vvvv_vanishes _ _ other) h

-- the number in the opcode byte is that of the operand that is read there
pub asked_opcode-at : (row : Row) (i : Instr) (n : ℕ) → Sound row → length i.ops ≡ 4 → n < 4 → reads_opcode (method_of (kind_at row n)) ≡ true → number_asked_of number_in_opcode row i ≡ operand_number (operand_at i n)
asked_opcode-at row i n s four h e =
    at_field reads_opcode number_in_opcode row i n s four h (λ k _ other. opcode_vanishes _ _ other) (apart row s).opcode e ∙ opcode_shows _ _ e

-- a row that reads no register in the opcode byte asks for the number 0 there
pub asked_opcode-none : (row : Row) (i : Instr) → reads_by reads_opcode row ≡ false → number_asked_of number_in_opcode row i ≡ 0
asked_opcode-none row i h = no_field reads_opcode number_in_opcode row i (λ k _ other. opcode_vanishes _ _ other) h

-- **r/m, the SIB's base and the opcode byte share one number**
pub asked_rm-at : (row : Row) (i : Instr) (n : ℕ) → Sound row → length i.ops ≡ 4 → n < 4 → reads_b (method_of (kind_at row n)) ≡ true → number_asked_of number_in_rm row i ≡ base_or_register_number (operand_at i n)
asked_rm-at row i n s four h e =
    let a = apart row s in
    at_field reads_b number_in_rm row i n s four h (λ k _ other. rm_vanishes _ _ other) (count-or reads_rm reads_opcode row.ops (rm_or_opcode row s) a.rm a.opcode) e ∙ rm_shows _ _ e

-- a row that does not read r/m asks for the number 0 there
pub asked_rm-none : (row : Row) (i : Instr) → reads_by reads_rm row ≡ false → reads_by reads_opcode row ≡ false → number_asked_of number_in_rm row i ≡ 0
asked_rm-none row i h k = no_field reads_b number_in_rm row i (λ k _ other. rm_vanishes _ _ other) (any-or reads_rm reads_opcode row.ops h k)

-- operands that are not read from r/m have no index
abbrev pub IndexInRm : Row → Instr → Type 0
IndexInRm row i = (k : ℕ) → k < 4 → reads_rm (method_of (kind_at row k)) ≡ false → operand_index_number (operand_at i k) ≡ 0

index_adds : (row : Row) (i : Instr) → Sound row → IndexInRm row i → AddsNothing reads_rm number_in_index row.ops i.ops
unfolding number_in_index
index_adds row i s h = λ k below other. let e = four_kinds row s in h k (omega arith) other

index_shows : (how : Method) (op : Operand) → number_in_index how op ≡ operand_index_number op
unfolding number_in_index
index_shows how op = refl

-- the number in the index of a SIB is that of the memory operand's index
pub asked_index-at : (row : Row) (i : Instr) (n : ℕ) → Sound row → length i.ops ≡ 4 → n < 4 → IndexInRm row i → reads_rm (method_of (kind_at row n)) ≡ true → number_asked_of number_in_index row i ≡ operand_index_number (operand_at i n)
asked_index-at row i n s four h none e =
    at_field reads_rm number_in_index row i n s four h (index_adds row i s none) (apart row s).rm e ∙ index_shows _ _

-- a row that does not read r/m has no index
pub asked_index-none : (row : Row) (i : Instr) → Sound row → IndexInRm row i → reads_by reads_rm row ≡ false → number_asked_of number_in_index row i ≡ 0
asked_index-none row i s none h = no_field reads_rm number_in_index row i (index_adds row i s none) h

-- **the operand that r/m names is the one that is read from it**
pub rm_operand-at : (row : Row) (i : Instr) (n : ℕ) → Sound row → length i.ops ≡ 4 → n < 4 → reads_rm (method_of (kind_at row n)) ≡ true → rm_operand row i ≡ operand_at i n
rm_operand-at row i n s four h e =
    let k = four_kinds row s in
    where-one reads_rm row.ops i.ops n (omega arith) (omega arith) (apart row s).rm e

-- a row that does not read r/m has no operand there
pub rm_operand-none : (row : Row) (i : Instr) → reads_by reads_rm row ≡ false → rm_operand row i ≡ AbsentOperand
rm_operand-none row i h = where-none reads_rm row.ops i.ops (count_of-none reads_rm row.ops h)

-- the operand with an address is the one that is read as such
pub address_operand-at : (row : Row) (i : Instr) (n : ℕ) → Sound row → length i.ops ≡ 4 → n < 4 → reads_address (method_of (kind_at row n)) ≡ true → address_operand row i ≡ operand_at i n
address_operand-at row i n s four h e =
    let k = four_kinds row s in
    let a = apart row s in
    where-one reads_address row.ops i.ops n (omega arith) (omega arith) (count-or reads_rm is_offset row.ops (rm_or_offset row s) a.rm a.offset) e

-- a row that reads no address has no such operand
pub address_operand-none : (row : Row) (i : Instr) → reads_by reads_rm row ≡ false → reads_by is_offset row ≡ false → address_operand row i ≡ AbsentOperand
address_operand-none row i h k = where-none reads_address row.ops i.ops (count_of-none reads_address row.ops (any-or reads_rm is_offset row.ops h k))

-- ---- conditions on each operand

-- a test that holds of each of four operands holds at an index below four
pub each-at : (p : ℕ → Bool) (n : ℕ) → n < 4 → each_operand p ≡ true → p n ≡ true
each-at p zero h e = (and_parts (p 0) (p 1 && (p 2 && p 3)) e).0
each-at p (suc zero) h e = (and_parts (p 1) (p 2 && p 3) (and_parts (p 0) (p 1 && (p 2 && p 3)) e).1).0
each-at p (suc (suc zero)) h e = (and_parts (p 2) (p 3) (and_parts (p 1) (p 2 && p 3) (and_parts (p 0) (p 1 && (p 2 && p 3)) e).1).1).0
each-at p (suc (suc (suc zero))) h e = (and_parts (p 2) (p 3) (and_parts (p 1) (p 2 && p 3) (and_parts (p 0) (p 1 && (p 2 && p 3)) e).1).1).1
each-at p (suc (suc (suc (suc n)))) h e = absurd (omega arith)

all_four : (a b c d : Bool) → a ≡ true → b ≡ true → c ≡ true → d ≡ true → (a && (b && (c && d))) ≡ true
all_four a b c d ha hb hc hd = rw (ha, hb, hc, hd)

-- and the other way round
pub each-from : (p : ℕ → Bool) → ((n : ℕ) → n < 4 → p n ≡ true) → each_operand p ≡ true
each-from p h = all_four (p 0) (p 1) (p 2) (p 3) (h 0 (omega arith)) (h 1 (omega arith)) (h 2 (omega arith)) (h 3 (omega arith))

no_index : (index : Option Register) → is_none index ≡ true → number_or_zero index ≡ 0
no_index None h = refl
no_index (Some r) h = cc

index_outside : (bits : Bits) (row : Row) (place : Place) (how : Method) (file : File) (m : Mem) → reads_rm how ≡ false → is_variant_of place how (MemOperand m) ≡ true → shape_suits bits row how file m ≡ true → number_or_zero m.index ≡ 0
unfolding is_variant_of shape_suits
index_outside bits row place method.RegisterOrMemory file m h k e = cc
index_outside bits row place method.RegisterOnly file m h k e = cc
index_outside bits row place method.MemoryOnly file m h k e = cc
index_outside bits row place method.AnyMode file m h k e = cc
index_outside bits row place method.Gather file m h k e = cc
index_outside bits row place method.Offset file m h k e =
    no_index m.index (and_parts (is_none m.index) (m.scale == 1) (and_parts (is_none m.base) (is_none m.index && m.scale == 1) e).1).0
index_outside bits row place _ file m h k e = cc

index_of_operand : (bits : Bits) (row : Row) (place : Place) (how : Method) (file : File) (op : Operand) → reads_rm how ≡ false → is_variant_of place how op ≡ true → (elim op [ MemOperand m ↦ shape_suits bits row how file m | _ ↦ true ]) ≡ true → operand_index_number op ≡ 0
index_of_operand bits row place how file (MemOperand m) h k e = index_outside bits row place how file m h k e
index_of_operand bits row place how file _ h k e = refl

-- an instruction whose operands have their kinds and shapes has an index in r/m alone
pub index_in_rm : (bits : Bits) (row : Row) (i : Instr) → each_operand (kind_suits row i) ≡ true → each_operand (address_suits bits row i) ≡ true → IndexInRm row i
unfolding kind_suits address_suits
index_in_rm bits row i kinds shapes =
    λ k below other. index_of_operand bits row row.place (method_of (kind_at row k)) (file_of (kind_at row k)) (operand_at i k) other (each-at (kind_suits row i) k below kinds) (each-at (address_suits bits row i) k below shapes)

-- ---- the displacement

displacement_read-is : (how : Method) (op : Operand) → displacement_read how op ≡ cond (reads_address how) (operand_displacement op) 0
unfolding displacement_read
displacement_read-is method.Offset op = refl
displacement_read-is _ op = refl

displacement_vanishes : (how : Method) (op : Operand) → reads_address how ≡ false → displacement_read how op ≡ 0
displacement_vanishes how op h = displacement_read-is how op ∙ ap (λ (b : Bool). cond b (operand_displacement op) 0) h

displacement_shows : (how : Method) (op : Operand) → reads_address how ≡ true → displacement_read how op ≡ operand_displacement op
displacement_shows how op h = displacement_read-is how op ∙ ap (λ (b : Bool). cond b (operand_displacement op) 0) h

displacement_over : (kinds : List OpKind) (ops : List Operand) → count_by reads_address kinds ≤ 1 → over_operands displacement_read kinds ops ≡ operand_displacement (operand_where reads_address kinds ops)
displacement_over [] ops c = refl
displacement_over (kind ∷ kinds) [] c = refl
displacement_over (kind ∷ kinds) (op ∷ ops) c = elim (cases_Bool (reads_address (method_of kind))) [
  | inl e ↦
      let first = displacement_shows (method_of kind) op e in
      let rest = over-none reads_address displacement_read kinds ops (λ k below other. displacement_vanishes _ _ other) (count_first (reads_address (method_of kind)) (count_by reads_address kinds) e c) in
      rw e (omega (arith, first, rest))
  | inr e ↦
      let first = displacement_vanishes (method_of kind) op e in
      let rest = displacement_over kinds ops (count_rest (reads_address (method_of kind)) (count_by reads_address kinds) c) in
      rw e (omega (arith, first, rest))
]

-- **the displacement that is asked is that of the operand that may have one**
pub asked_displacement : (row : Row) (i : Instr) → Sound row → number_asked_of displacement_read row i ≡ operand_displacement (address_operand row i)
asked_displacement row i s =
    let a = apart row s in
    displacement_over row.ops i.ops (count-or reads_rm is_offset row.ops (rm_or_offset row s) a.rm a.offset)

count-short : (size : DispSize) → displacement_count size ≤ 8
unfolding displacement_count
count-short D0 = omega arith
count-short D8 = omega arith
count-short D16 = omega arith
count-short D32 = omega arith
count-short D64 = omega arith

-- an operand has at most eight bytes of displacement
pub displacement-short : (op : Operand) → operand_displacement op ≤ 8
displacement-short (MemOperand m) = count-short m.disp_size
displacement-short _ = omega arith
