-- A near target stands as the first operand alone, on the rows of relative branches.
use Rattle.std.proofs.Common.{◌≡◌, ℕ, ◌⊎◌, inl, inr, Bool, true, false, ◌&&◌, not, List, Option, Some, None, refl, sym, ◌∙◌, slice_get}
use Rattle.std.specs.List.{list_all}
use Rattle.std.specs.Option.{option_or}
use Rattle.std.proofs.lemmas.Bool.{and_parts}
use Rattle.x86_values.specs.declared.Bits.{Bits}
use Rattle.x86_values.specs.declared.Operand.{Operand}
use Rattle.x86_values.specs.declared.Operand.TheVariants.{Near}
use Rattle.x86_values.specs.declared.Instr.{Instr}
use Rattle.instruction_parts.specs.declared.row_types.Row.{Row}
use Rattle.instruction_parts.specs.declared.row_types.Place.{Place}
use Rattle.instruction_parts.specs.declared.row_types.Place.TheVariants.{Any as AnyPlace, Memory as OnlyMemory, Register as OnlyRegister}
use Rattle.instruction_parts.specs.declared.row_types.OpKind.{OpKind}
use Rattle.instruction_parts.specs.declared.row_types.OpKind.TheVariants.{Jb, Jz}
use Rattle.instruction_parts.specs.declared.kinds.Method.{Method}
use Rattle.instruction_parts.specs.declared.kinds.Method.TheVariants as method
use Rattle.instruction_parts.specs.Kinds.{method_of}
use Rattle.row_fit.specs.Fits.{kind_at}
use Rattle.row_relation.specs.Spells.{Spells}
use Rattle.plain_spelling.specs.Forms.{operand_at, is_variant_of, is_allowed_in}
use Rattle.plain_spelling.specs.Expressible.{kind_suits}
use Rattle.opcode_rows.specs.Parts.{integer_rows, integer_flat, x87_rows, x87_flat, sse_rows, sse_flat, vex_rows, vex_flat}
use Rattle.opcode_rows.specs.declared.spot.Part.{Part}
use Rattle.opcode_rows.specs.declared.spot.Part.TheVariants as part
use Rattle.opcode_rows.specs.Table.{part_table, table}
use Rattle.operand_info.specs.Operands.{near_value, first_value}
use Rattle.move_goals.specs.declared.branch_forms.branch.RelativeBranch.{RelativeBranch}
use Rattle.move_goals.specs.BranchForms.LawsBelow.{FormLawsBelow}
use Rattle.move_goals.specs.BranchForms.Branches.{size_of, short_action, near_action, branch_in, branch_of}

-- ---- the table

-- an operand is an offset
abbrev is_offset_method : Method → Bool
is_offset_method method.Near = true
is_offset_method _ = false

-- operand n of a row is one
abbrev is_offset_at : Row → ℕ → Bool
is_offset_at row n = is_offset_method (method_of (kind_at row n))

-- no operand behind the first one is an offset
unfoldable offset_first : Row → Bool
offset_first row = not (is_offset_at row 1) && (not (is_offset_at row 2) && not (is_offset_at row 3))

integer-first : list_all offset_first integer_rows ≡ true
unfolding offset_first method_of integer_rows integer_flat
integer-first = refl

x87-first : list_all offset_first x87_rows ≡ true
unfolding offset_first method_of x87_rows x87_flat
x87-first = refl

sse-first : list_all offset_first sse_rows ≡ true
unfolding offset_first method_of sse_rows sse_flat
sse-first = refl

vex-first : list_all offset_first vex_rows ≡ true
unfolding offset_first method_of vex_rows vex_flat
vex-first = refl

each-first : (p : Part) → list_all offset_first (part_table p) ≡ true
each-first part.Integer = integer-first
each-first part.X87 = x87-first
each-first part.Sse = sse-first
each-first part.Vex = vex-first

first-row : FormLawsBelow → (code : ℕ) (row : Row) → slice_get table code ≡ Some row → offset_first row ≡ true
first-row laws code row at = laws.rows offset_first each-first code row at

-- ---- operands

-- only an offset is a near target
near_variant : (place : Place) (how : Method) (x : ℕ) → is_variant_of place how (Near x) ≡ true → is_offset_method how ≡ true
unfolding is_variant_of is_allowed_in
near_variant place method.Near x h = refl
near_variant AnyPlace method.RegisterOrMemory x h = h
near_variant OnlyMemory method.RegisterOrMemory x h = h
near_variant OnlyRegister method.RegisterOrMemory x h = h
near_variant place _ x h = h

no_near : (place : Place) (how : Method) (op : Operand) → is_variant_of place how op ≡ true → is_offset_method how ≡ false → near_value op ≡ None
unfolding near_value
no_near place how (Near x) h other = let k : true ≡ false = sym (near_variant place how x h) ∙ other in cc
no_near place how _ h other = refl

no_near-at : (row : Row) (i : Instr) (n : ℕ) → kind_suits row i n ≡ true → is_offset_at row n ≡ false → near_value (operand_at i n) ≡ None
unfolding kind_suits
no_near-at row i n h other = no_near row.place (method_of (kind_at row n)) (operand_at i n) h other

not_true : (b : Bool) → not b ≡ true → b ≡ false
not_true true h = cc
not_true false h = refl

-- a row that is no relative branch has no offset first
no_offset : (row : Row) → branch_in row ≡ None → is_offset_at row 0 ≡ false
unfolding branch_in method_of
no_offset row h = by_kind (kind_at row 0) h
  where
    by_kind : (kind : OpKind) → (elim kind as (λ (k : OpKind). Option RelativeBranch) [ Jb ↦ Some (record { action = short_action row.opcode; is_short = true; size = size_of row.size }) | Jz ↦ Some (record { action = near_action row.opcode; is_short = false; size = size_of row.size }) | _ ↦ None ]) ≡ None → is_offset_method (method_of kind) ≡ false
    by_kind Jb h = cc
    by_kind Jz h = cc
    by_kind _ h = refl

-- ---- what is spelled

none_of_four : (a b c d : Option ℕ) → a ≡ None → b ≡ None → c ≡ None → d ≡ None → option_or a (option_or b (option_or c d)) ≡ None
none_of_four a b c d p q r s = rw (p, q, r, s) refl

by_branch : (i : Instr) (row : Row) (o : Option ℕ) → first_value near_value i ≡ o → slice_get table i.code.0 ≡ Some row → branch_of i ≡ None → (o ≡ None) ⊎ (branch_in row ≡ None)
unfolding branch_of
by_branch i row None e at h = inl refl
by_branch i row (Some x) e at h = inr (let k = rw (e, at) at h in k)

-- what meets the conditions on its kinds has none, on a row that is no relative branch
row-no_near : (row : Row) (i : Instr) → (kind_suits row i 0 && (kind_suits row i 1 && (kind_suits row i 2 && kind_suits row i 3))) ≡ true → offset_first row ≡ true → branch_in row ≡ None → first_value near_value i ≡ None
unfolding offset_first
row-no_near row i kinds first none =
    let k = λ (n : ℕ). kind_suits row i n in
    let o = λ (n : ℕ). not (is_offset_at row n) in
    let k1 = (and_parts (k 0) (k 1 && (k 2 && k 3)) kinds).1 in
    let k2 = (and_parts (k 1) (k 2 && k 3) k1).1 in
    let o1 = (and_parts (o 1) (o 2 && o 3) first).1 in
    none_of_four (near_value (operand_at i 0)) (near_value (operand_at i 1)) (near_value (operand_at i 2)) (near_value (operand_at i 3))
    (no_near-at row i 0 (and_parts (k 0) (k 1 && (k 2 && k 3)) kinds).0 (no_offset row none))
    (no_near-at row i 1 (and_parts (k 1) (k 2 && k 3) k1).0 (not_true (is_offset_at row 1) (and_parts (o 1) (o 2 && o 3) first).0))
    (no_near-at row i 2 (and_parts (k 2) (k 3) k2).0 (not_true (is_offset_at row 2) (and_parts (o 2) (o 3) o1).0))
    (no_near-at row i 3 (and_parts (k 2) (k 3) k2).1 (not_true (is_offset_at row 3) (and_parts (o 2) (o 3) o1).1))

-- **what is spelled and is no relative branch has no near target**
pub no_branch-no_near : (laws : FormLawsBelow) (bits : Bits) (ip : ℕ) (bytes : List ℕ) (i : Instr) → Spells table bits ip bytes i → branch_of i ≡ None → first_value near_value i ≡ None
no_branch-no_near laws bits ip bytes i (short, (row, at, (s, e))) h =
    let need = laws.spelled.spelled-suits bits ip bytes i row s at e in
    elim (by_branch i row (first_value near_value i) refl at h) [
      | inl none ↦ none
      | inr none ↦ row-no_near row i need.kinds (first-row laws i.code.0 row at) none
    ]
