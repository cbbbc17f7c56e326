use Rattle.std.proofs.Common.{◌<◌, arith}
use Rattle.handler_tables.specs.Splits.{width_of, field_at}
use Rattle.handler_tables.proofs.FieldLemmas.{field_at-lt}
use Rattle.handler_tables.proofs.walk.along.Goals as goal

pub next-requires : goal.next-requires
next-requires g c =
    let lt : field_at g.S.FieldSource.bits c.args.split (g.S.FieldSource.fields c.args.source.now) < width_of c.args.split =
    field_at-lt g.S.FieldSource.bits c.args.split (g.S.FieldSource.fields c.args.source.now) (omega arith)
    in
    omega (arith, lt)
