use Rattle.std.proofs.Common.{◌≡◌, sym, ◌∙◌, rules}
use Rattle.assembly_text.specs.Names.{plain_name}
use Rattle.assembly_text.proofs.Naming.{whole_name}
use Rattle.assembly_text.proofs.names.is_own_name.Goals as goal

pub returns-then-count-word : goal.returns-then-count-word
returns-then-count-word c = λ none.
    let word = c.args.word.now in
    let plain : plain_name word ≡ word = search rules in
    whole_name word (sym c.before_condition-count.ensures ∙ c.if-count-word.true) plain
