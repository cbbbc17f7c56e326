use Rattle.std.proofs.Common.{sym, ◌∙◌}
use Rattle.step_slots.proofs.Kept.{kept-ascend, finish-stands, finish-made, finish-refused}
use Rattle.step_slots.proofs.slots.StepSlots.finish.Goals as goal

pub returns-in_err-release-clause-state : goal.returns-in_err-release-clause-state
returns-in_err-release-clause-state c =
    let f = c.self.inside in
    finish-refused c.laws_below.ensures f.bits f.region f.live.items _ c.self.invariant.1 c.args.place _ (sym c.release.ensures.answer ∙ c.in_err-release.was)
    c.release.new.self c.release.ensures.state c.args.self.now c.self.view_is

pub remove_entry-requires-clause-ascend : goal.remove_entry-requires-clause-ascend
remove_entry-requires-clause-ascend c =
    let f = c.self.inside in
    kept-ascend c.laws_below.ensures f.bits f.region f.live.items _ c.self.invariant.1

pub remove_entry-requires-clause-live : goal.remove_entry-requires-clause-live
remove_entry-requires-clause-live c =
    let f = c.self.inside in
    finish-stands c.laws_below.ensures f.bits f.region f.live.items _ c.self.invariant.1 c.args.place (sym c.release.ensures.answer ∙ c.in_ok-release.was)

pub invariant_of-self-2 : goal.invariant_of-self-2
invariant_of-self-2 c =
    let f = c.self.inside in
    finish-made c.laws_below.ensures f.bits f.region f.live.items _ c.self.invariant.1 c.args.place c.release.new.self c.release.ensures.state
    c.remove_entry.new.entries.items c.remove_entry.ensures.items _ c.remove_entry.ensures.capacity f.base c.self.invariant.0
