use Rattle.std.proofs.Common.{vec_capacity, Ok, arith, subst, sym, Result, ℕ}
use Rattle.step_slots.specs.declared.refusals.StepError.{StepError}
use Rattle.move_goals.specs.Items.{IsPlaced}
use Rattle.step_slots.specs.State.{SlotState}
use Rattle.step_slots.specs.Stepping.{IsBlockStepped}
use Rattle.step_slots.proofs.Kept.{kept-units, kept-ascend}
use Rattle.step_slots.proofs.Slotted.{stepped-room, stepped-made}
use Rattle.step_slots.proofs.slots.StepSlots.step.Goals as goal

pub step_block-requires-clause-units : goal.step_block-requires-clause-units
step_block-requires-clause-units c =
    let f = c.self.inside in
    kept-units c.laws_below.ensures f.bits f.region f.live.items _ c.self.invariant.1

pub insert_entry-requires-clause-ascend : goal.insert_entry-requires-clause-ascend
insert_entry-requires-clause-ascend c =
    let f = c.self.inside in
    kept-ascend c.laws_below.ensures f.bits f.region f.live.items _ c.self.invariant.1

pub insert_entry-requires-clause-room : goal.insert_entry-requires-clause-room
insert_entry-requires-clause-room c =
    let f = c.self.inside in
    let spelled = subst (λ (s : SlotState). IsPlaced s.bits c.args.item) (sym c.self.view_is) c.requires in
    let P : Result ℕ StepError → Type 0 = λ (r : Result ℕ StepError). IsBlockStepped f.bits f.region c.args.item r c.step_block.new.region in
    let stepped : P (Ok c.in_ok-place.place) = subst P c.in_ok-place.was c.step_block.ensures in
    let room = stepped-room c.laws_below.ensures f.bits f.region f.live.items (vec_capacity f.live) c.self.invariant.1 c.args.item spelled c.in_ok-place.place
    c.step_block.new.region stepped in
    omega (arith, room, f.live.ok.0)

pub invariant_of-self-2 : goal.invariant_of-self-2
invariant_of-self-2 c =
    let f = c.self.inside in
    let spelled = subst (λ (s : SlotState). IsPlaced s.bits c.args.item) (sym c.self.view_is) c.requires in
    let P : Result ℕ StepError → Type 0 = λ (r : Result ℕ StepError). IsBlockStepped f.bits f.region c.args.item r c.step_block.new.region in
    let stepped : P (Ok c.in_ok-place.place) = subst P c.in_ok-place.was c.step_block.ensures in
    stepped-made c.laws_below.ensures f.bits f.region f.live.items (vec_capacity f.live) c.self.invariant.1 c.args.item spelled c.in_ok-place.place
    c.step_block.new.region stepped _ c.insert_entry.ensures.capacity c.insert_entry.new.entries.items c.insert_entry.ensures.items f.base c.self.invariant.0
