use Rattle.std.proofs.Common.{take, drop, ap, sym, ◌∙◌}
use Rattle.std.proofs.lemmas.List.Sums.{prefix_len-le-length}
use Rattle.intel_words.specs.Scanning.{is_no_comma, rest}
use Rattle.intel_words.proofs.Cutting.{front-take, back-drop}
use Rattle.intel_words.proofs.scanning.split_operand.Goals as goal

pub split_at-requires : goal.split_at-requires
split_at-requires c = rw c.token_len.ensures (prefix_len-le-length is_no_comma c.args.text.now)

pub returns-clause-token : goal.returns-clause-token
returns-clause-token c =
    c.split_at.ensures.front ∙ (ap (λ n. take n c.args.text.now) c.token_len.ensures ∙ sym (front-take is_no_comma c.args.text.now))

pub returns-clause-next : goal.returns-clause-next
returns-clause-next c =
    c.rest-2.ensures ∙ ap rest (c.rest.ensures ∙ ap rest (c.split_at.ensures.back
    ∙ (ap (λ n. drop n c.args.text.now) c.token_len.ensures ∙ sym (back-drop is_no_comma c.args.text.now))))
