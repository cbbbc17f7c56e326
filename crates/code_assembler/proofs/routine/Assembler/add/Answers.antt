use Rattle.std.proofs.Common.{◌≡◌, ◌<◌, List, [], ◌∷◌, ◌++◌, length, Option, None, ℕ, sym, subst, ap, ◌∙◌}
use Rattle.arrayvec.specs.ArrayVec.{ArrayVec}
use Rattle.x86_values.specs.declared.Bits.{Bits}
use Rattle.move_goals.specs.declared.items.Placed.{Placed}
use Rattle.move_goals.specs.Items.{IsPlaced}
use Rattle.code_assembler.specs.Prepared.{PreparedState}
use Rattle.code_assembler.specs.Routine.{RoutineState, IsAssembler, HasReady}
use Rattle.code_assembler.proofs.ReadyItems.{held_one}
use Rattle.code_assembler.proofs.routine.Assembler.add.Goals as goal

pub invariant_of-self-2 : goal.invariant_of-self-2
invariant_of-self-2 c =
    let s : RoutineState = record {
      bits = c.self.inside.bits;
      items = c.self.inside.items.items;
      aims = c.self.inside.aims.items;
      filled = c.self.inside.filled.items;
      labels = c.self.inside.labels.items;
    } in
    let item = c.it.inside.item in
    let bytes = c.it.inside.ready in
    let ready = c.self.inside.ready.items in
    let mode : c.it.inside.bits ≡ s.bits =
    ap (λ (p : PreparedState). p.bits) c.it.view_is ∙ (sym c.requires.mode ∙ sym (ap (λ (t : RoutineState). t.bits) c.self.view_is)) in
    let few : length s.items < 65536 = subst (λ (t : RoutineState). length t.items < 65536) (sym c.self.view_is) c.requires.few in
    let placed : IsPlaced s.bits item = subst (λ (b : Bits). IsPlaced b item) mode c.it.invariant.placed in
    let has : HasReady s.bits item bytes = subst (λ (b : Bits). HasReady b item bytes) mode c.it.invariant.bytes in
    let more = held_one s ready item c.args.aim bytes c.self.invariant placed has few in
    subst (λ (items : List Placed). IsAssembler (record s { items = items; aims = c.append-2.new.list.items; filled = c.append-3.new.list.items }) c.append-4.new.list.items)
    (sym (c.append.ensures ∙ ap (λ (xs : List Placed). xs ++ item ∷ []) c.in_ok-reserve.ensures.items))
    (subst (λ (aims : List (Option ℕ)). IsAssembler (record s { items = s.items ++ item ∷ []; aims = aims; filled = c.append-3.new.list.items }) c.append-4.new.list.items)
    (sym (c.append-2.ensures ∙ ap (λ (xs : List (Option ℕ)). xs ++ c.args.aim ∷ []) c.in_ok-reserve-2.ensures.items))
    (subst (λ (filled : List (Option ℕ)). IsAssembler (record s { items = s.items ++ item ∷ []; aims = s.aims ++ c.args.aim ∷ []; filled = filled }) c.append-4.new.list.items)
    (sym (c.append-3.ensures ∙ ap (λ (xs : List (Option ℕ)). xs ++ None ∷ []) c.in_ok-reserve-3.ensures.items))
    (subst (λ (held : List (ArrayVec ℕ)). IsAssembler (record s { items = s.items ++ item ∷ []; aims = s.aims ++ c.args.aim ∷ []; filled = s.filled ++ None ∷ [] }) held)
    (sym (c.append-4.ensures ∙ (ap (λ (xs : List (ArrayVec ℕ)). xs ++ c.copy_of_ready.result ∷ []) c.in_ok-reserve-4.ensures.items
    ∙ ap (λ (r : ArrayVec ℕ). ready ++ r ∷ []) c.copy_of_ready.ensures))) more)))
