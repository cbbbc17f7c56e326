use Rattle.std.proofs.Common.{sym, ◌∙◌}
use Rattle.prefixes.proofs.Simple.{first_of}
use Rattle.prefixes.proofs.leading_rex.Goals as goal

pub returns-then-is_rex-clause-rex : goal.returns-then-is_rex-clause-rex
returns-then-is_rex-clause-rex c =
    record {
      first = first_of c.args.bytes.now _ c.in-Some.b.now c.in-Some.ensures.cases.0;
      mode = sym c.is_64.ensures ∙ c.if-is_64.true;
      is = sym c.is_rex.ensures ∙ c.if-is_rex.true;
    }
