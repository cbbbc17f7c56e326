use Rattle.std.proofs.Common.{◌≤◌, length, arith}
use Rattle.flow_graph.specs.Control.{code_bytes}
use Rattle.flow_graph.specs.HookSight.Entries.{part_of}
use Rattle.flow_graph.proofs.HookSight.Places.{cursor_start}
use Rattle.flow_graph.proofs.HookSight.Suspecting.{none_more, none_at_all, first_is}
use Rattle.flow_graph.proofs.hook_sight.suspects.first_suspect.Goals as goal

pub offsets-init : goal.offsets-init
offsets-init c = record { cursor = cursor_start c.args.starts.now; none = λ r l s sus. absurd (omega arith) }

pub returns-in-Some : goal.returns-in-Some
returns-in-Some c =
    first_is (code_bytes c.args.bits c.args.ip c.args.code.now) (part_of c.args.taken c.args.moved.now c.args.start) c.args.starts.now c.offsets.p
    c.in-Some.target c.offsets.invariant.none c.in-Some.ensures

pub offsets-preserved : goal.offsets-preserved
offsets-preserved c = record {
  cursor = c.count_to-next.ensures;
  none =
      none_more (code_bytes c.args.bits c.args.ip c.args.code.now) (part_of c.args.taken c.args.moved.now c.args.start) c.args.starts.now c.offsets.p
      c.offsets.invariant.none c.in_default.ensures;
}

pub returns : goal.returns
returns c =
    let all : length c.args.code.now ≤ c.offsets.p = omega (arith, c.offsets-test.false) in
    none_at_all (code_bytes c.args.bits c.args.ip c.args.code.now) (part_of c.args.taken c.args.moved.now c.args.start) c.args.starts.now c.offsets.p
    all c.offsets.invariant.none
