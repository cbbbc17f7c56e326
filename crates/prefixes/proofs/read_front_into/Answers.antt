use Rattle.std.proofs.Common.{sym, ◌∙◌}
use Rattle.prefixes.proofs.Runs.{run_of_none, run_of_rex}
use Rattle.prefixes.proofs.read_front_into.Goals as goal

pub front_behind-requires-clause-run : goal.front_behind-requires-clause-run
front_behind-requires-clause-run c =
    run_of_rex c.args.bits c.in-Some.first.now c.in-Some-split_first.second.now c.args.bytes.now c.in-Some.rest.now _
    c.in-Some.ensures.cases.0 c.in-Some-split_first.ensures.cases.0 (sym c.is_64.ensures ∙ c.if-is_64.true) (sym c.is_rex.ensures ∙ c.if-is_rex.true)
    (sym c.is_prefix_byte.ensures ∙ c.if-not-is_prefix_byte.true)

pub front_behind-requires-then-not-is_prefix_byte-2-clause-run : goal.front_behind-requires-then-not-is_prefix_byte-2-clause-run
front_behind-requires-then-not-is_prefix_byte-2-clause-run c =
    run_of_none c.args.bits c.in-Some.first.now c.args.bytes.now c.in-Some.rest.now c.in-Some.ensures.cases.0
    (sym c.is_prefix_byte-else-is_64.ensures ∙ c.if-not-is_prefix_byte-2.true)
