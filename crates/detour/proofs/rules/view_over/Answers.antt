use Rattle.std.proofs.Common.{ℕ, List, subst}
use Rattle.std.specs.Prelude.{IfOk}
use Rattle.flow_graph.specs.Control.{code_bytes}
use Rattle.flow_graph.specs.declared.hook_sight.answers.StartRule.{StartRule}
use Rattle.flow_graph.specs.HookSight.Entries.{part_of}
use Rattle.flow_graph.specs.HookSight.Views.{IsView}
use Rattle.detour.specs.Rules.{rule_of}
use Rattle.detour.proofs.rules.view_over.Goals as goal

pub returns : goal.returns
returns c =
    let code = code_bytes c.args.bits c.args.ip c.args.code.now in
    let entries = c.args.entries.now in
    let d = c.args.made.now in
    let rule = rule_of c.args.start in
    let taken = c.taken-taken.result in
    let starts = c.starts-starts.result.now in
    subst (λ (n : ℕ). IfOk c.look.result (λ view. IsView code entries (part_of n d.starts rule) view)) c.taken-taken.ensures
    (subst (λ (xs : List ℕ). IfOk c.look.result (λ view. IsView code entries (part_of taken xs rule) view))
    c.starts-starts.ensures
    (subst (λ (r : StartRule). IfOk c.look.result (λ view. IsView code entries (part_of taken starts r) view))
    c.rule_of-rule.ensures c.look.ensures))
