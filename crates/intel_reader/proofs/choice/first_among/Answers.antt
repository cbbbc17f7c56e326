use Rattle.std.proofs.Common.{sym, ◌∙◌}
use Rattle.intel_reader.proofs.Choosing.{held_after, first_from, none_from, led_by_names, led_by_one_name}
use Rattle.intel_reader.proofs.choice.first_among.Goals as goal

pub returns-clause-first : goal.returns-clause-first
returns-clause-first c =
    first_from c.args.bits c.args.ip c.args.text.now c.with_name-2.new.best
    (held_after c.args.bits c.args.ip c.args.text.now c.with_name.new.best c.with_name-2.new.best c.with_name.ensures.progress c.with_name-2.ensures.progress)
    (led_by_names c.args.bits c.args.ip c.args.text.now c.args.word.now c.as_slice.result.now c.with_name.new.best c.with_name-2.new.best c.with_name-2.ensures.progress c.requires.named c.with_name.ensures.covers c.as_slice.ensures c.with_name-2.ensures.covers)

pub returns-clause-none : goal.returns-clause-none
returns-clause-none c =
    none_from c.args.bits c.args.ip c.args.text.now c.with_name-2.new.best
    (led_by_names c.args.bits c.args.ip c.args.text.now c.args.word.now c.as_slice.result.now c.with_name.new.best c.with_name-2.new.best c.with_name-2.ensures.progress c.requires.named c.with_name.ensures.covers c.as_slice.ensures c.with_name-2.ensures.covers)

pub returns-then-not-is_counter_word-clause-first : goal.returns-then-not-is_counter_word-clause-first
returns-then-not-is_counter_word-clause-first c =
    first_from c.args.bits c.args.ip c.args.text.now c.with_name.new.best (c.with_name.ensures.progress.held tt)
    (led_by_one_name c.args.bits c.args.ip c.args.text.now c.args.word.now c.with_name.new.best (sym c.is_counter_word.ensures ∙ c.if-not-is_counter_word.true) c.requires.named c.with_name.ensures.covers)

pub returns-then-not-is_counter_word-clause-none : goal.returns-then-not-is_counter_word-clause-none
returns-then-not-is_counter_word-clause-none c =
    none_from c.args.bits c.args.ip c.args.text.now c.with_name.new.best
    (led_by_one_name c.args.bits c.args.ip c.args.text.now c.args.word.now c.with_name.new.best (sym c.is_counter_word.ensures ∙ c.if-not-is_counter_word.true) c.requires.named c.with_name.ensures.covers)
