use Rattle.std.proofs.Common.{◌∷◌, length, sym, ap, ◌∙◌}
use Rattle.flow_graph.specs.Control.{code_bytes}
use Rattle.flow_graph.specs.HookSight.Sight.{IsSeen}
use Rattle.flow_graph.specs.HookSight.Entries.{part_of}
use Rattle.std.specs.List.{Contains}
use Rattle.flow_graph.proofs.HookSight.Seeing.{starts_reached, reached_starts, starts_inside, starts_ascend, starts_told, sight_kept, entered_kept, suspect_kept}
use Rattle.flow_graph.proofs.hook_sight.looking.view_of.Goals as goal

pub first_end-sight-requires : goal.first_end-sight-requires
first_end-sight-requires c =
    let code = code_bytes c.args.bits c.args.ip c.args.code.now in
    let firsts = 0 ∷ c.args.entries.now in
    let starts = c.starts-starts.result.now in
    record {
      size = c.requires.size;
      inside = starts_inside code firsts c.args.graph.now c.requires.graph starts c.starts-starts.ensures;
      ascending = starts_ascend code firsts c.args.graph.now c.requires.graph starts c.starts-starts.ensures;
      each = c.flows-flows.ensures.len ∙ ap length (sym c.starts-starts.ensures);
      told = starts_told code firsts c.args.graph.now c.requires.graph starts c.starts-starts.ensures c.flows-flows.result.now c.flows-flows.ensures.flows;
    }

pub first_passage-entered-requires : goal.first_passage-entered-requires
first_passage-entered-requires c =
    let code = code_bytes c.args.bits c.args.ip c.args.code.now in
    let firsts = 0 ∷ c.args.entries.now in
    let starts = c.starts-starts.result.now in
    record {
      size = c.requires.size;
      inside = starts_inside code firsts c.args.graph.now c.requires.graph starts c.starts-starts.ensures;
      ascending = starts_ascend code firsts c.args.graph.now c.requires.graph starts c.starts-starts.ensures;
    }

pub suspect_by_sight-suspect-requires-clause-ascending : goal.suspect_by_sight-suspect-requires-clause-ascending
suspect_by_sight-suspect-requires-clause-ascending c =
    let code = code_bytes c.args.bits c.args.ip c.args.code.now in
    starts_ascend code (0 ∷ c.args.entries.now) c.args.graph.now c.requires.graph c.starts-starts.result.now c.starts-starts.ensures

pub returns : goal.returns
returns c =
    let code = code_bytes c.args.bits c.args.ip c.args.code.now in
    let part = part_of c.args.taken c.args.moved.now c.args.start in
    let firsts = 0 ∷ c.args.entries.now in
    let starts = c.starts-starts.result.now in
    let there = starts_reached code firsts c.args.graph.now c.requires.graph starts c.starts-starts.ensures in
    let back = reached_starts code firsts c.args.graph.now c.requires.graph starts c.starts-starts.ensures in
    record {
      sight = sight_kept code part (Contains starts) (IsSeen code c.args.entries.now) there back c.first_end-sight.result c.first_end-sight.ensures;
      entered =
          entered_kept code part (Contains starts) (IsSeen code c.args.entries.now) there back c.first_passage-entered.result
          c.first_passage-entered.ensures;
      inside = c.first_inside-inside.ensures;
      suspect =
          suspect_kept code part (Contains starts) (IsSeen code c.args.entries.now) there back c.first_end-sight.result
          c.suspect_by_sight-suspect.result c.suspect_by_sight-suspect.ensures;
    }
