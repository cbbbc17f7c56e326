use Rattle.std.proofs.Common.{◌≤◌, ◌<◌, length, arith}
use Rattle.std.proofs.lemmas.List.Elements.{All-get_or}
use Rattle.flow_graph.specs.Control.{code_bytes}
use Rattle.flow_graph.specs.HookSight.Entries.{part_of}
use Rattle.flow_graph.proofs.HookSight.Places.{one_more, at_all}
use Rattle.flow_graph.proofs.HookSight.Entering.{NoneFrom, first_enters}
use Rattle.flow_graph.proofs.hook_sight.passages.first_passage.Goals as goal

pub passage_from-requires-clause-inside : goal.passage_from-requires-clause-inside
passage_from-requires-clause-inside c =
    All-get_or (λ p. p < length c.args.code.now) c.args.starts.now c.places.k 0 c.places-test.true c.requires.inside

pub returns-in-Some : goal.returns-in-Some
returns-in-Some c =
    first_enters (code_bytes c.args.bits c.args.ip c.args.code.now) (part_of c.args.taken c.args.moved.now c.args.start) c.args.starts.now
    c.requires.ascending c.places.k c.places-test.true c.places.invariant c.in-Some.target c.in-Some.ensures

pub places-preserved : goal.places-preserved
places-preserved c =
    one_more (NoneFrom (code_bytes c.args.bits c.args.ip c.args.code.now) (part_of c.args.taken c.args.moved.now c.args.start)) c.args.starts.now
    c.places.k c.places.invariant c.in_default.ensures

pub returns : goal.returns
returns c =
    let all : length c.args.starts.now ≤ c.places.k = omega (arith, c.places-test.false) in
    λ p q e. at_all (NoneFrom (code_bytes c.args.bits c.args.ip c.args.code.now) (part_of c.args.taken c.args.moved.now c.args.start))
    c.args.starts.now c.places.k all c.places.invariant p e.reached q e.passes
