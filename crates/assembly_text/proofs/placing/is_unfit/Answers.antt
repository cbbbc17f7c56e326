use Rattle.std.proofs.Common.{sym, ap, ◌∙◌}
use Rattle.assembly_text.specs.Placing.{View, view_of, zeroed, placed_text}
use Rattle.assembly_text.proofs.Spelling.{placed_by}
use Rattle.assembly_text.proofs.placing.is_unfit.Goals as goal

pub returns : goal.returns
returns c =
    let text = c.args.text.now in (
      c.in_ok-code.code,
      (
        placed_by c.args.bits c.args.round.now.base text c.deref.result.now (placed_text (zeroed (view_of c.args.round.now)) text) c.in_ok-code.code
            (c.deref.ensures.value ∙ c.in_ok-placed.ensures ∙ ap (λ (v : View). placed_text v text) c.zeroed.ensures) c.in_ok-code.ensures,
        sym c.is_nameless.ensures,
      ),
    )
