use Rattle.std.proofs.Common.{◌∙◌, ap, subst, length, arith, refl, rules}
use Rattle.flow_graph.proofs.Entering.{enters_none, enters_more}
use Rattle.flow_graph.specs.Walks.{IsStarted}
use Rattle.flow_graph.proofs.walk.Walk.start.Goals as goal

pub entries-init : goal.entries-init
entries-init c = record {
  entered =
      enters_none c.args.entries.now c.args.count c.in_ok-vec.field-0.items c.new.result.items (search rules) c.new.ensures.items;
  flows = omega (arith, c.in_ok-vec-2.ensures.len);
}

pub entries-preserved : goal.entries-preserved
entries-preserved c = record {
  entered =
      enters_more c.args.entries.now c.args.count c.entries.entry-index c.entries.walk.marks.items c.entries.walk.order.items c.entries.invariant.entered
      _ (omega arith) refl c.enter.new.self.marks.items c.enter.new.self.order.items c.in_ok-enter.ensures.marks c.in_ok-enter.ensures.order;
  flows = ap length c.in_ok-enter.ensures.flows ∙ c.entries.invariant.flows;
}

pub returns : goal.returns
returns c = record {
  entered = subst (λ n. IsStarted c.args.entries.now c.args.count n c.entries.walk.marks.items c.entries.walk.order.items) (omega arith)
      c.entries.invariant.entered;
  flows = c.entries.invariant.flows;
}
