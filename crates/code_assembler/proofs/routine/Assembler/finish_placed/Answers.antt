use Rattle.std.proofs.Common.{◌≡◌, List, length, Option, ℕ, sym, subst, ap, ◌∙◌}
use Rattle.std.specs.Prelude.{None}
use Rattle.arrayvec.specs.ArrayVec.{ArrayVec}
use Rattle.branch_sizes.specs.Plan.{BlockPlan}
use Rattle.move_goals.specs.declared.items.Placed.{Placed}
use Rattle.move_goals.specs.Items.{one_span}
use Rattle.move_goals.specs.Plan.{plan_with}
use Rattle.move_goals.specs.Ready.{AreReady}
use Rattle.block_encoder.specs.ByPlan.{IsPlanAnswer}
use Rattle.block_encoder.specs.Planned.{as_moving}
use Rattle.code_assembler.specs.Routine.{RoutineState, IsRoutine, HasAdded, first_unplaced, routine_goals, routine_plan}
use Rattle.code_assembler.specs.Finished.{IsMade, IsLaidAnswer}
use Rattle.code_assembler.proofs.AtLabels.{finished}
use Rattle.code_assembler.proofs.ReadyItems.{are_ready}
use Rattle.code_assembler.proofs.routine.Assembler.finish_placed.Goals as goal

pub returns : goal.returns
unfolding routine_plan
returns c =
    let s : RoutineState = record {
      bits = c.self.inside.bits;
      items = c.self.inside.items.items;
      aims = c.self.inside.aims.items;
      filled = c.self.inside.filled.items;
      labels = c.self.inside.labels.items;
    } in
    let same : c.args.self.now ≡ s = sym c.self.view_is in
    let is : IsRoutine s = c.self.invariant.routine in
    let none : first_unplaced s.labels s.aims (length s.items) ≡ None =
    subst (λ (t : RoutineState). first_unplaced t.labels t.aims (length t.items) ≡ None) same c.requires.stand in
    let added : HasAdded s c.args.count = subst (λ (t : RoutineState). HasAdded t c.args.count) same c.requires.added in
    let items : c.deref-6.result.now ≡ s.items = c.deref-6.ensures.value in
    let plan =
    c.in_ok-plan.ensures
    ∙ (ap (λ (xs : List Placed). plan_with s.bits (one_span xs c.args.base) xs (routine_goals c.deref.result.now c.deref-2.result.now xs)) c.deref-3.ensures.value
    ∙ (ap (λ (ls : List (Option ℕ)). plan_with s.bits (one_span s.items c.args.base) s.items (routine_goals ls c.deref-2.result.now s.items)) c.deref.ensures.value
    ∙ ap (λ (xs : List (Option ℕ)). plan_with s.bits (one_span s.items c.args.base) s.items (routine_goals s.labels xs s.items)) c.deref-2.ensures.value)) in
    let moved : IsPlanAnswer s.bits s.items (routine_plan s c.args.base) (as_moving c.move_with_ready-moved.result) =
    subst (λ (p : BlockPlan). IsPlanAnswer s.bits s.items p (as_moving c.move_with_ready-moved.result)) plan
    (subst (λ (xs : List Placed). IsPlanAnswer s.bits xs c.in_ok-plan.plan (as_moving c.move_with_ready-moved.result)) items c.move_with_ready-moved.ensures) in
    let labels : c.in_ok-labels.labels.items ≡ s.labels = c.in_ok-labels.ensures ∙ c.deref-5.ensures.value in
    let made : IsMade c.move_with_ready-moved.result s.filled s.labels c.args.base c.args.count c.assembled_of.result =
    subst (λ (ls : List (Option ℕ)). IsMade c.move_with_ready-moved.result s.filled ls c.args.base c.args.count c.assembled_of.result) labels
    (subst (λ (fs : List (Option ℕ)). IsMade c.move_with_ready-moved.result fs c.in_ok-labels.labels.items c.args.base c.args.count c.assembled_of.result)
    c.deref-8.ensures.value c.assembled_of.ensures) in
    subst (λ (t : RoutineState). IsLaidAnswer t c.args.base c.args.count c.assembled_of.result) (sym same)
    (finished c.laws_below.ensures s c.args.base c.args.count is added none c.move_with_ready-moved.result moved c.assembled_of.result made)

pub plan_at-requires-clause-ready : goal.plan_at-requires-clause-ready
plan_at-requires-clause-ready c =
    subst (λ (xs : List Placed). AreReady c.self.inside.bits xs c.deref-4.result.now) (sym c.deref-3.ensures.value)
    (subst (λ (rs : List (ArrayVec ℕ)). AreReady c.self.inside.bits c.self.inside.items.items rs) (sym c.deref-4.ensures.value)
    (are_ready c.self.inside.bits c.self.inside.items.items c.self.inside.ready.items c.self.invariant.bytes))

pub move_with_ready-moved-requires-clause-ready : goal.move_with_ready-moved-requires-clause-ready
move_with_ready-moved-requires-clause-ready c =
    subst (λ (xs : List Placed). AreReady c.self.inside.bits xs c.deref-7.result.now) (sym c.deref-6.ensures.value)
    (subst (λ (rs : List (ArrayVec ℕ)). AreReady c.self.inside.bits c.self.inside.items.items rs) (sym c.deref-7.ensures.value)
    (are_ready c.self.inside.bits c.self.inside.items.items c.self.inside.ready.items c.self.invariant.bytes))
