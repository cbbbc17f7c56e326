use Rattle.std.proofs.Common.{[], ◌∷◌, sym, subst}
use Rattle.flow_graph.specs.Control.{code_bytes}
use Rattle.flow_graph.specs.declared.hook_sight.answers.StartRule.{StartRule}
use Rattle.flow_graph.specs.HookSight.Entries.{part_of}
use Rattle.flow_graph.specs.HookSight.Views.{IsView}
use Rattle.detour.proofs.kept.seen_in_head.Goals as goal

pub returns : goal.returns
returns c =
    let code = code_bytes c.args.bits c.args.ip c.args.code.now in (
      c.in_ok-view.view,
      (
        subst (λ (r : StartRule). IsView code c.args.entries.now (part_of 4 (0 ∷ []) r) c.in_ok-view.view) c.rule_of-rule.ensures c.in_ok-view.ensures,
        sym c.head_passage.ensures,
      ),
    )
