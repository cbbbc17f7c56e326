use Rattle.std.proofs.Common.{Bool, subst, sym, ◌∙◌}
use Rattle.detour.specs.Kept.{IsKeptBy}
use Rattle.detour.proofs.Keeping.{endbr_long}
use Rattle.detour.proofs.kept.detour_keeping_endbr.Goals as goal

pub keeping-requires-clause-kept : goal.keeping-requires-clause-kept
keeping-requires-clause-kept c = endbr_long c.args.bits c.args.code.now (sym c.has_endbr.ensures ∙ c.if-has_endbr.true)

pub returns-then-has_endbr : goal.returns-then-has_endbr
returns-then-has_endbr c =
    let a = c.args in
    subst (λ (b : Bool). IsKeptBy b a.bits a.ip a.code.now a.to a.place a.entries.now a.rules c.keeping.result)
    (sym (sym c.has_endbr.ensures ∙ c.if-has_endbr.true)) c.keeping.ensures

pub returns-else-has_endbr : goal.returns-else-has_endbr
returns-else-has_endbr c =
    let a = c.args in
    subst (λ (b : Bool). IsKeptBy b a.bits a.ip a.code.now a.to a.place a.entries.now a.rules c.keeping_none.result)
    (sym (sym c.has_endbr.ensures ∙ c.if-has_endbr.false)) c.keeping_none.ensures
