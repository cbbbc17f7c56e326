use Rattle.std.proofs.Common.{◌≤◌, ◌<◌, length, arith}
use Rattle.std.proofs.lemmas.List.Elements.{All-get_or}
use Rattle.flow_graph.specs.Control.{code_bytes}
use Rattle.flow_graph.specs.HookSight.Sight.{IsFollowed}
use Rattle.flow_graph.proofs.HookSight.Places.{one_more, at_all}
use Rattle.flow_graph.proofs.HookSight.Ending.{first_ends}
use Rattle.flow_graph.proofs.hook_sight.ends.first_end.Goals as goal

pub end_at-requires-clause-inside : goal.end_at-requires-clause-inside
end_at-requires-clause-inside c =
    All-get_or (λ p. p < length c.args.code.now) c.args.starts.now c.places.k 0 c.places-test.true c.requires.inside

pub end_at-requires-clause-told : goal.end_at-requires-clause-told
end_at-requires-clause-told c = c.requires.told c.places.k c.places-test.true

pub returns-in-Some : goal.returns-in-Some
returns-in-Some c =
    first_ends (code_bytes c.args.bits c.args.ip c.args.code.now) c.args.starts.now c.requires.ascending c.places.k c.places-test.true
    c.places.invariant c.in-Some.why c.in-Some.ensures

pub places-preserved : goal.places-preserved
places-preserved c =
    one_more (IsFollowed (code_bytes c.args.bits c.args.ip c.args.code.now)) c.args.starts.now c.places.k c.places.invariant c.in_default.ensures

pub returns : goal.returns
returns c =
    let all : length c.args.starts.now ≤ c.places.k = omega (arith, c.places-test.false) in
    at_all (IsFollowed (code_bytes c.args.bits c.args.ip c.args.code.now)) c.args.starts.now c.places.k all c.places.invariant
