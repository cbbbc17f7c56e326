use Rattle.std.proofs.Common.{arith}
use Rattle.c_calls.proofs.RegionsLaid.{searched-start, searched-step, searched-end, searched-found, searched-last, searched-full, laid_within}
use Rattle.c_calls.proofs.region_search.new_place.Goals as goal

pub live-init : goal.live-init
live-init c = rw c.from-from.ensures (searched-start c.args.base c.args.limit c.args.needed c.args.live.now c.requires.laid)

pub live-preserved : goal.live-preserved
live-preserved c = rw (c.from-in-live-2.ensures, c.from-in-live-3.ensures) (searched-step c.args.base c.args.limit c.args.needed c.args.live.now c.live.k c.live.from c.live.invariant (omega arith) (omega arith))

pub overflow_add-from : goal.overflow_add-from
overflow_add-from c = omega (arith, laid_within c.live.from c.args.limit _ c.live.invariant.laid)

pub overflow_cast-result : goal.overflow_cast-result
overflow_cast-result c = omega (arith, searched-end c.args.base c.args.limit c.args.needed c.args.live.now c.live.k c.live.from c.live.invariant (omega arith))

pub returns-then-from-clause-found : goal.returns-then-from-clause-found
returns-then-from-clause-found c = searched-found c.args.base c.args.limit c.args.needed c.args.live.now c.live.k c.live.from c.live.invariant (omega arith) (omega arith) (omega arith)

pub overflow_add-from-in-live : goal.overflow_add-from-in-live
overflow_add-from-in-live c = omega (arith, searched-end c.args.base c.args.limit c.args.needed c.args.live.now c.live.k c.live.from c.live.invariant (omega arith))

pub returns-then-from-limit-clause-found : goal.returns-then-from-limit-clause-found
returns-then-from-limit-clause-found c = searched-last c.args.base c.args.limit c.args.needed c.args.live.now c.live.k c.live.from c.live.invariant (omega arith) (omega arith)

pub returns-clause-none : goal.returns-clause-none
returns-clause-none c = searched-full c.args.base c.args.limit c.args.needed c.args.live.now c.live.k c.live.from c.live.invariant (omega arith) (omega arith)
