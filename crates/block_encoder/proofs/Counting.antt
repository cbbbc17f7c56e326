-- What spelled branches have in 64-bit mode: the operand size of the mode, and on a counter an address size of it.
use Rattle.std.proofs.Common.{◌≡◌, ℕ, ◌⊎◌, inl, inr, Bool, true, false, ◌||◌, List, Option, Some, None, refl, ap, sym, ◌∙◌}
use Rattle.std.specs.Prelude.{if◌then◌else◌, is_none}
use Rattle.std.specs.List.{list_all}
use Rattle.x86_values.specs.declared.Bits.{Bits}
use Rattle.x86_values.specs.declared.Bits.TheVariants.{B16, B32, B64}
use Rattle.x86_values.specs.declared.Instr.{Instr}
use Rattle.instruction_parts.specs.declared.row_types.Row.{Row}
use Rattle.instruction_parts.specs.Sizes.{has_address_mark}
use Rattle.row_relation.specs.Spells.{Spells}
use Rattle.plain_spelling.specs.Addresses.{has_address_size}
use Rattle.plain_spelling.specs.Expressible.{has_memory_operand, is_size_of, address_size_suits}
use Rattle.opcode_rows.specs.Parts.{integer_rows, integer_flat, x87_rows, x87_flat, sse_rows, sse_flat, vex_rows, vex_flat}
use Rattle.opcode_rows.specs.declared.spot.Part.{Part}
use Rattle.opcode_rows.specs.declared.spot.Part.TheVariants as part
use Rattle.opcode_rows.specs.Table.{part_table, table}
use Rattle.move_goals.specs.declared.branch_forms.branch.Action.{Action}
use Rattle.move_goals.specs.declared.branch_forms.branch.Action.TheVariants.{Jump, Call, Condition, Count}
use Rattle.move_goals.specs.declared.branch_forms.branch.RelativeBranch.{RelativeBranch}
use Rattle.move_goals.specs.BranchForms.Branches.{size_of, short_action, near_action, branch_in, branch_of, is_pair, in_range}
use Rattle.block_encoder.specs.LawsBelow.{MovedLawsBelow}
use Rattle.block_encoder.proofs.Formed.{CountFits}

-- a row on a counter has the mark of an address size
unfoldable counts_marked : Row → Bool
counts_marked row = elim (branch_in row) [ Some b ↦ (elim b.action [ Count n ↦ has_address_mark row | _ ↦ true ]) | None ↦ true ]

integer-marked : list_all counts_marked integer_rows ≡ true
unfolding counts_marked branch_in size_of short_action near_action integer_rows integer_flat
integer-marked = refl

x87-marked : list_all counts_marked x87_rows ≡ true
unfolding counts_marked branch_in size_of short_action near_action x87_rows x87_flat
x87-marked = refl

sse-marked : list_all counts_marked sse_rows ≡ true
unfolding counts_marked branch_in size_of short_action near_action sse_rows sse_flat
sse-marked = refl

vex-marked : list_all counts_marked vex_rows ≡ true
unfolding counts_marked branch_in size_of short_action near_action vex_rows vex_flat
vex-marked = refl

each-marked : (p : Part) → list_all counts_marked (part_table p) ≡ true
each-marked part.Integer = integer-marked
each-marked part.X87 = x87-marked
each-marked part.Sse = sse-marked
each-marked part.Vex = vex-marked

marked : (row : Row) (b : RelativeBranch) (n : ℕ) → branch_in row ≡ Some b → b.action ≡ Count n → counts_marked row ≡ true → has_address_mark row ≡ true
unfolding counts_marked
marked row b n e a h =
    let k : (elim b.action as (λ (x : Action). Bool) [ Count n ↦ has_address_mark row | _ ↦ true ]) ≡ true =
    ap (λ (o : Option RelativeBranch). elim o as (λ (x : Option RelativeBranch). Bool) [ Some b ↦ (elim b.action as (λ (x : Action). Bool) [ Count n ↦ has_address_mark row | _ ↦ true ]) | None ↦ true ]) (sym e) ∙ h in
    ap (λ (x : Action). elim x as (λ (y : Action). Bool) [ Count n ↦ has_address_mark row | _ ↦ true ]) (sym a) ∙ k

of_mode : (row : Row) (i : Instr) (a : Bits) → is_size_of B64 row i a ≡ true → (Some a ≡ Some B32) ⊎ (Some a ≡ Some B64)
unfolding is_size_of has_address_size
of_mode row i B16 h = cc
of_mode row i B32 h = inl refl
of_mode row i B64 h = inr refl

size_by : (row : Row) (i : Instr) (memory mark : Bool) (asize : Option Bits) → mark ≡ true
    → (if memory || mark then (elim asize as (λ (o : Option Bits). Bool) [ None ↦ false | Some a ↦ is_size_of B64 row i a ]) else is_none asize) ≡ true
    → (asize ≡ Some B32) ⊎ (asize ≡ Some B64)
size_by row i memory false asize e h = cc
size_by row i true true None e h = cc
size_by row i false true None e h = cc
size_by row i true true (Some a) e h = of_mode row i a h
size_by row i false true (Some a) e h = of_mode row i a h

size_of_marked : (row : Row) (i : Instr) → has_address_mark row ≡ true → address_size_suits B64 row i ≡ true → (i.asize ≡ Some B32) ⊎ (i.asize ≡ Some B64)
unfolding address_size_suits
size_of_marked row i e h = size_by row i (has_memory_operand i) (has_address_mark row) i.asize e h

count_fits : (row : Row) (i : Instr) (b : RelativeBranch) (action : Action) → b.action ≡ action → branch_in row ≡ Some b → counts_marked row ≡ true → address_size_suits B64 row i ≡ true → CountFits action i.asize
count_fits row i b (Count n) a e h suits = size_of_marked row i (marked row b n e a h) suits
count_fits row i b Jump a e h suits = tt
count_fits row i b Call a e h suits = tt
count_fits row i b (Condition n) a e h suits = tt

module _ (laws : MovedLawsBelow) where
  -- **a branch on a counter in 64-bit mode has an address size of the mode**
  pub counter-fits : (ip : ℕ) (bytes : List ℕ) (i : Instr) (b : RelativeBranch) → Spells table B64 ip bytes i → branch_of i ≡ Some b → CountFits b.action i.asize
  counter-fits ip bytes i b (short, (row, at, (s, e))) h =
      let need = laws.spelled.spelled-suits B64 ip bytes i row s at e in
      count_fits row i b b.action refl (laws.forms.branch-in-row i row b at h) (laws.rows counts_marked each-marked i.code.0 row at) need.address_size

  -- its operand size is that of the mode, and its condition or counter is one
  pub mode-fits : (ip : ℕ) (bytes : List ℕ) (i : Instr) (b : RelativeBranch) → Spells table B64 ip bytes i → branch_of i ≡ Some b → (b.size ≡ B64) × (in_range b.action b.is_short ≡ true)
  mode-fits ip bytes i b (short, (row, at, (s, e))) h =
      let need = laws.spelled.spelled-suits B64 ip bytes i row s at e in
      (pair_64 b.size (laws.forms.branch-pair B64 i row b at h need.exists), laws.forms.branch-range i row b at h)
    where
      pair_64 : (size : Bits) → is_pair B64 size ≡ true → size ≡ B64
      pair_64 B64 h = refl
      pair_64 B32 h = cc
      pair_64 B16 h = cc
