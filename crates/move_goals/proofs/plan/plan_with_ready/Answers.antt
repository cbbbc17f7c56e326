use Rattle.std.proofs.Common.{ap, ◌∙◌, sym, subst}
use Rattle.branch_sizes.specs.Plan.{plan_of, IsWellFormed}
use Rattle.move_goals.specs.Plan.{plan_with}
use Rattle.move_goals.proofs.Planned.{well_formed}
use Rattle.move_goals.proofs.plan.plan_with_ready.Goals as goal

pub of_blocks-requires : goal.of_blocks-requires
unfolding plan_with
of_blocks-requires c =
    let spans = c.in_ok-from_slice.ensures.items in
    let branches = c.in_ok-branches.ensures in
    subst (λ xs. IsWellFormed (plan_of xs c.in_ok-branches.branches.items)) (sym spans)
    (subst (λ ys. IsWellFormed (plan_of c.args.spans.now ys)) (sym branches)
    (well_formed c.forms_are_fit.ensures c.args.bits c.args.spans.now c.args.items.now c.requires.placed c.requires.few c.requires.spans))

pub returns : goal.returns
unfolding plan_with
returns c =
    let spans = c.in_ok-from_slice.ensures.items in
    let branches = c.in_ok-branches.ensures in
    c.of_blocks.ensures ∙ ap (λ xs. plan_of xs c.in_ok-branches.branches.items) spans ∙ ap (plan_of c.args.spans.now) branches
