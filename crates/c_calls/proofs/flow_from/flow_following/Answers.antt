use Rattle.std.proofs.Common.{Err, refl, arith}
use Rattle.std.proofs.lemmas.Int.{ints}
use Rattle.c_calls.specs.Numbers.{bits_numbered}
use Rattle.c_calls.specs.FlowFrom.{graph_within}
use Rattle.c_calls.proofs.FewReached.{few_reached_from}
use Rattle.c_calls.proofs.flow_from.flow_following.Goals as goal

pub put_graph-requires-clause-few : goal.put_graph-requires-clause-few
put_graph-requires-clause-few c =
    let is = c.in-Ok.ensures in
    omega (arith, is.1, few_reached_from c.args.follow (bits_numbered c.args.bits) c.args.base c.args.bytes.now c.args.entries.now c.in-Ok.graph is.0)

pub returns-in-Err : goal.returns-in-Err
unfolding graph_within
returns-in-Err c = record {
  graph = Err c.in-Err.why;
  is = c.in-Err.ensures;
  answer_is = omega (arith, ints, c.refusal_status.ensures);
  starts_are = refl;
  leaders_are = refl;
  kinds_are = refl;
}
