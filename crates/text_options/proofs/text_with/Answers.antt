use Rattle.std.proofs.Common.{◌≡◌, ℕ, true, List, ◌++◌, ap, sym, ◌∙◌}
use Rattle.std.proofs.lemmas.Result.{on_ok_weaker}
use Rattle.text_options.specs.declared.options.Options.{Options}
use Rattle.text_options.specs.Defaults.{default_options}
use Rattle.text_options.specs.Unnamed.{are_unnamed}
use Rattle.text_options.specs.Changed.{text_by}
use Rattle.text_options.proofs.Quiet.{unnamed-text}
use Rattle.text_options.proofs.text_with.Goals as goal

pub returns-then-are_unnamed-clause-done : goal.returns-then-are_unnamed-clause-done
returns-then-are_unnamed-clause-done g c =
    let names = g.S.Symbols.names c.args.symbols.now in
    let plain : c.args.options.now ≡ default_options = c.is_default.ensures c.if-is_default.true in
    let quiet : are_unnamed names c.args.instr.now ≡ true = cc in
    on_ok_weaker c.append_printed.result
    (λ done. done ∙ sym (ap (λ (t : List ℕ). c.args.out.now.items ++ t)
    (ap (λ (o : Options). text_by c.args.style o c.args.bits c.args.instr.now c.args.end names) plain
    ∙ unnamed-text c.args.style c.args.bits c.args.instr.now c.args.end names quiet)))
    c.append_printed.ensures.done
