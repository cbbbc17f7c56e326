use Rattle.std.proofs.Common.{inr, subst, sym, refl}
use Rattle.assembly_text.specs.declared.code.Code.{Code}
use Rattle.assembly_text.specs.Text.{IsCode}
use Rattle.assembly_text.proofs.text.code_in.Goals as goal

pub returns-in_ok-code-in-Err-clause-code : goal.returns-in_ok-code-in-Err-clause-code
returns-in_ok-code-in-Err-clause-code c =
    subst (λ (k : Code). IsCode c.args.bits c.args.base c.args.text.now k) (sym c.prepared.ensures.code)
    (inr (c.in-Err.ensures.none.0 refl, c.in_ok-code-in-Err.ensures))
