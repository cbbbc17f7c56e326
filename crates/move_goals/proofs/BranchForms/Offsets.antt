-- The rows of relative branches: their conditions and counters, and the operand sizes that they have in a mode.
use Rattle.std.proofs.Common.{◌≡◌, Bool, true, false, ◌&&◌, ◌||◌, if◌then◌else◌, refl, sym, ◌∙◌, ap, slice_get}
use Rattle.std.specs.Prelude.{Option, Some, None, is_some, not}
use Rattle.std.specs.List.{list_all}
use Rattle.std.proofs.lemmas.Bool.{and_parts}
use Rattle.x86_values.specs.declared.Bits.{Bits}
use Rattle.x86_values.specs.declared.Bits.TheVariants.{B16, B32, B64}
use Rattle.x86_values.specs.declared.Instr.{Instr}
use Rattle.instruction_parts.specs.declared.row_types.Row.{Row}
use Rattle.instruction_parts.specs.Sizes.{exists_in}
use Rattle.opcode_rows.specs.Parts.{integer_rows, integer_flat, x87_rows, x87_flat, sse_rows, sse_flat, vex_rows, vex_flat}
use Rattle.opcode_rows.specs.declared.spot.Part.{Part}
use Rattle.opcode_rows.specs.declared.spot.Part.TheVariants as part
use Rattle.opcode_rows.specs.Table.{part_table, table}
use Rattle.operand_info.specs.Operands.{near_value, first_value}
use Rattle.move_goals.specs.declared.branch_forms.branch.RelativeBranch.{RelativeBranch}
use Rattle.move_goals.specs.BranchForms.LawsBelow.{FormLawsBelow}
use Rattle.move_goals.specs.BranchForms.Branches.{size_of, short_action, near_action, branch_in, branch_by, branch_of, is_pair, in_range}

-- a row that exists in a mode has an operand size of it
abbrev is_sized_in : Row → Bits → Bits → Bool
is_sized_in row size bits = not (exists_in bits row) || is_pair bits size

-- in each mode
abbrev is_sized : Row → Bits → Bool
is_sized row size = is_sized_in row size B16 && (is_sized_in row size B32 && is_sized_in row size B64)

-- a row of a branch has a condition or counter that is one, and sizes of its modes
abbrev is_fit_by : Row → Option RelativeBranch → Bool
is_fit_by row None = true
is_fit_by row (Some b) = in_range b.action b.is_short && is_sized row b.size

-- the same of the branch that the row is
unfoldable is_fit_row : Row → Bool
is_fit_row row = is_fit_by row (branch_in row)

integer-fit : list_all is_fit_row integer_rows ≡ true
unfolding is_fit_row branch_in size_of short_action near_action exists_in integer_rows integer_flat
integer-fit = refl

x87-fit : list_all is_fit_row x87_rows ≡ true
unfolding is_fit_row branch_in size_of short_action near_action exists_in x87_rows x87_flat
x87-fit = refl

sse-fit : list_all is_fit_row sse_rows ≡ true
unfolding is_fit_row branch_in size_of short_action near_action exists_in sse_rows sse_flat
sse-fit = refl

vex-fit : list_all is_fit_row vex_rows ≡ true
unfolding is_fit_row branch_in size_of short_action near_action exists_in vex_rows vex_flat
vex-fit = refl

each-fit : (p : Part) → list_all is_fit_row (part_table p) ≡ true
each-fit part.Integer = integer-fit
each-fit part.X87 = x87-fit
each-fit part.Sse = sse-fit
each-fit part.Vex = vex-fit

sized-in : (row : Row) (size bits : Bits) → is_sized_in row size bits ≡ true → exists_in bits row ≡ true → is_pair bits size ≡ true
sized-in row size bits h e = rw e at h

sized : (row : Row) (size bits : Bits) → is_sized row size ≡ true → exists_in bits row ≡ true → is_pair bits size ≡ true
sized row size B16 h = sized-in row size B16 (and_parts (is_sized_in row size B16) (is_sized_in row size B32 && is_sized_in row size B64) h).0
sized row size B32 h =
    sized-in row size B32
    (and_parts (is_sized_in row size B32) (is_sized_in row size B64) (and_parts (is_sized_in row size B16) (is_sized_in row size B32 && is_sized_in row size B64) h).1).0
sized row size B64 h =
    sized-in row size B64
    (and_parts (is_sized_in row size B32) (is_sized_in row size B64) (and_parts (is_sized_in row size B16) (is_sized_in row size B32 && is_sized_in row size B64) h).1).1

if-some : (c : Bool) (o : Option RelativeBranch) (b : RelativeBranch) → (if c then o else None) ≡ Some b → o ≡ Some b
if-some true o b h = h
if-some false o b h = cc

row-by-branch : (o : Option Row) (b : RelativeBranch) → branch_by o ≡ Some b → (row : Row) × (o ≡ Some row)
row-by-branch None b h = cc
row-by-branch (Some row) b h = (row, refl)

-- a branch has a row
pub row-of-branch : (i : Instr) (b : RelativeBranch) → branch_of i ≡ Some b → (row : Row) × (slice_get table i.code.0 ≡ Some row)
unfolding branch_of
row-of-branch i b h =
    row-by-branch (slice_get table i.code.0) b (if-some (is_some (first_value near_value i)) (branch_by (slice_get table i.code.0)) b h)

-- the branch of an instruction is that of its row
pub branch-in-row : (i : Instr) (row : Row) (b : RelativeBranch) → slice_get table i.code.0 ≡ Some row → branch_of i ≡ Some b → branch_in row ≡ Some b
unfolding branch_of
branch-in-row i row b at h =
    ap branch_by (sym at) ∙ if-some (is_some (first_value near_value i)) (branch_by (slice_get table i.code.0)) b h

module _ (laws : FormLawsBelow) where
  fit-by : (i : Instr) (row : Row) (b : RelativeBranch) → slice_get table i.code.0 ≡ Some row → branch_of i ≡ Some b → (in_range b.action b.is_short && is_sized row b.size) ≡ true
  unfolding is_fit_row
  fit-by i row b at h = ap (is_fit_by row) (sym (branch-in-row i row b at h)) ∙ laws.rows is_fit_row each-fit i.code.0 row at

  -- each branch of the table is in the range of its action
  pub branch-range : (i : Instr) (row : Row) (b : RelativeBranch) → slice_get table i.code.0 ≡ Some row → branch_of i ≡ Some b → in_range b.action b.is_short ≡ true
  branch-range i row b at h = (and_parts (in_range b.action b.is_short) (is_sized row b.size) (fit-by i row b at h)).0

  -- each branch of the table exists with its operand size
  pub branch-pair : (bits : Bits) (i : Instr) (row : Row) (b : RelativeBranch) → slice_get table i.code.0 ≡ Some row → branch_of i ≡ Some b → exists_in bits row ≡ true → is_pair bits b.size ≡ true
  branch-pair bits i row b at h stands =
      sized row b.size bits (and_parts (in_range b.action b.is_short) (is_sized row b.size) (fit-by i row b at h)).1 stands
