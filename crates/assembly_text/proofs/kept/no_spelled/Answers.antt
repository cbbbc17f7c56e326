use Rattle.std.proofs.Common.{subst, sym, List, Option}
use Rattle.assembly_text.specs.declared.kept.SpelledText.{SpelledText}
use Rattle.assembly_text.specs.Kept.{AreSpelled}
use Rattle.assembly_text.proofs.Keeping.{spelled_more}
use Rattle.assembly_text.proofs.kept.no_spelled.Goals as goal

pub spelled-init : goal.spelled-init
spelled-init c = subst (λ (l : List (Option SpelledText)). AreSpelled c.args.bits c.args.base l) (sym c.in_ok-spelled.ensures.items) (λ k. tt)

pub spelled-preserved : goal.spelled-preserved
spelled-preserved c =
    subst (λ (l : List (Option SpelledText)). AreSpelled c.args.bits c.args.base l) (sym c.in_ok-push.ensures.items)
    (spelled_more c.args.bits c.args.base c.spelled.spelled.items c.spelled.invariant)

pub returns : goal.returns
returns c = c.spelled.invariant
