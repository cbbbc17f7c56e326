use Rattle.std.proofs.Common.{take, drop, ap, sym, ◌∙◌}
use Rattle.std.proofs.lemmas.List.Sums.{prefix_len-le-length}
use Rattle.intel_words.specs.Scanning.{is_word_byte}
use Rattle.intel_words.proofs.Cutting.{front-take, back-drop}
use Rattle.intel_words.proofs.scanning.split_word.Goals as goal

pub split_at-requires : goal.split_at-requires
split_at-requires c = rw c.word_len.ensures (prefix_len-le-length is_word_byte c.args.text.now)

pub returns-clause-word : goal.returns-clause-word
returns-clause-word c =
    c.split_at.ensures.front ∙ (ap (λ n. take n c.args.text.now) c.word_len.ensures ∙ sym (front-take is_word_byte c.args.text.now))

pub returns-clause-behind : goal.returns-clause-behind
returns-clause-behind c =
    c.split_at.ensures.back ∙ (ap (λ n. drop n c.args.text.now) c.word_len.ensures ∙ sym (back-drop is_word_byte c.args.text.now))
