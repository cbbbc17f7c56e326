use Rattle.std.proofs.Common.{◌≡◌, ◌∙◌, ap, sym, arith, refl, Bool, true, false, if◌then◌else◌}
use Rattle.std.specs.Prelude.{Option, None, is_some}
use Rattle.std.proofs.lemmas.Option.{slice_get_past}
use Rattle.opcode_rows.specs.Table.{table}
use Rattle.operand_info.specs.Operands.{near_value, first_value}
use Rattle.move_goals.specs.declared.branch_forms.branch.RelativeBranch.{RelativeBranch}
use Rattle.move_goals.specs.BranchForms.Branches.{branch_of, branch_by}
use Rattle.move_goals.proofs.branch_forms.branch.branch_of.Goals as goal

either-same : (b : Bool) (x : Option RelativeBranch) → (if b then x else x) ≡ x
either-same true x = refl
either-same false x = refl

pub returns-then-instr-ge-ROWS : goal.returns-then-instr-ge-ROWS
unfolding branch_of
returns-then-instr-ge-ROWS c =
    let i = c.args.instr.now in
    let has = is_some (first_value near_value i) in
    sym (ap (λ row. if has then branch_by row else None) (slice_get_past table i.code.0 (omega (arith, c.rows_are_counted.ensures, c.if-instr-ge-ROWS.true)))
    ∙ either-same has None)
