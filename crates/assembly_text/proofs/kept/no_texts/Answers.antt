use Rattle.std.proofs.Common.{subst, sym, List, Option}
use Rattle.assembly_text.specs.declared.kept.KeptText.{KeptText}
use Rattle.assembly_text.specs.Kept.{AreKept}
use Rattle.assembly_text.proofs.Keeping.{kept_more}
use Rattle.assembly_text.proofs.kept.no_texts.Goals as goal

pub texts-init : goal.texts-init
texts-init c = subst (λ (l : List (Option KeptText)). AreKept c.args.bits l) (sym c.in_ok-texts.ensures.items) (λ k. tt)

pub texts-preserved : goal.texts-preserved
texts-preserved c =
    subst (λ (l : List (Option KeptText)). AreKept c.args.bits l) (sym c.in_ok-push.ensures.items)
    (kept_more c.args.bits c.texts.texts.items c.texts.invariant)

pub returns : goal.returns
returns c = c.texts.invariant
