use Rattle.std.proofs.Common.{Option, subst}
use Rattle.flow_graph.specs.declared.hook_sight.answers.Passage.{Passage}
use Rattle.detour.specs.Kept.{IsHeadPassage}
use Rattle.detour.proofs.Keeping.{kept_answer}
use Rattle.detour.proofs.kept.keeping.Goals as goal

pub returns-in-Ok-None : goal.returns-in-Ok-None
returns-in-Ok-None c =
    let a = c.args in
    kept_answer a.bits a.ip a.code.now a.to a.place a.entries.now a.rules
    (subst (λ (p : Option Passage). IsHeadPassage a.bits a.ip a.code.now a.entries.now a.rules.start p) c.in-Ok-None.field-0-is c.in-Ok-None.ensures)
    c.behind_endbr.result c.behind_endbr.ensures
