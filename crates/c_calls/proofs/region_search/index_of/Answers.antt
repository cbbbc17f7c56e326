use Rattle.std.proofs.Common.{arith}
use Rattle.c_calls.proofs.RegionsLaid.{passed-start, passed-step, passed-found, passed-all}
use Rattle.c_calls.proofs.region_search.index_of.Goals as goal

pub live-init : goal.live-init
live-init c = passed-start c.args.base c.args.limit c.args.place c.args.live.now c.requires.laid

pub live-preserved : goal.live-preserved
live-preserved c = passed-step _ _ _ c.live.k c.live.invariant (omega arith) c.if-live-k.false

pub returns-then-live-k-clause-found : goal.returns-then-live-k-clause-found
returns-then-live-k-clause-found c = passed-found _ _ _ c.live.k c.live.invariant (omega arith) c.if-live-k.true

pub returns-clause-none : goal.returns-clause-none
returns-clause-none c = passed-all _ _ _ c.live.k c.live.invariant (omega arith)
