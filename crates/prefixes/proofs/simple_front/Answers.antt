use Rattle.prefixes.proofs.Simple.{rex_within, simple_known, simple_when}
use Rattle.prefixes.proofs.simple_front.Goals as goal

pub split_at-requires : goal.split_at-requires
split_at-requires c = rex_within c.args.bits c.args.bytes.now c.leading_rex-rex.result c.rex_len-run.result c.leading_rex-rex.ensures.rex c.rex_len-run.ensures

pub returns-in-Some-clause-front : goal.returns-in-Some-clause-front
returns-in-Some-clause-front c =
    simple_known c.args.bits c.args.bytes.now _ c.leading_rex-rex.result c.rex_len-run.result c.in-Some.lead.escapes c.in-Some.lead.map c.in-Some.lead.opcode
    c.leading_rex-rex.ensures.rex c.rex_len-run.ensures c.split_at.ensures.back c.in-Some.ensures.run c.in-Some.ensures.lead c.in-Some.ensures.few

pub returns-in-Some-clause-when : goal.returns-in-Some-clause-when
returns-in-Some-clause-when c =
    simple_when c.args.bits c.args.bytes.now _ c.leading_rex-rex.result c.rex_len-run.result _ c.leading_rex-rex.ensures.when c.rex_len-run.ensures
    c.split_at.ensures.back c.in-Some.ensures.when
