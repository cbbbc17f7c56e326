use Rattle.std.proofs.Common.{◌≡◌, ◌<◌, List, [], ◌∷◌, ◌++◌, length, Option, Some, None, ℕ, sym, subst, ap, ◌∙◌}
use Rattle.arrayvec.specs.ArrayVec.{ArrayVec}
use Rattle.move_goals.specs.declared.items.Placed.{Placed}
use Rattle.move_goals.specs.Items.{IsPlaced}
use Rattle.code_assembler.specs.StandIn.{stand_in}
use Rattle.code_assembler.specs.Routine.{RoutineState, IsAssembler, HasReady, with_byte}
use Rattle.code_assembler.proofs.ReadyItems.{held_end}
use Rattle.code_assembler.proofs.routine.Assembler.with_end.Goals as goal

pub invariant_of-result : goal.invariant_of-result
invariant_of-result c =
    let s : RoutineState = record {
      bits = c.self.inside.bits;
      items = c.self.inside.items.items;
      aims = c.self.inside.aims.items;
      filled = c.self.inside.filled.items;
      labels = c.self.inside.labels.items;
    } in
    let same : c.args.self.now ≡ s = sym c.self.view_is in
    let placed : IsPlaced s.bits (stand_in s.bits) = subst (λ (i : Placed). IsPlaced s.bits i) c.stand_in-item.ensures.value c.stand_in-item.ensures.placed in
    let few : length s.items < 65536 = subst (λ (t : RoutineState). length t.items < 65536) same c.requires in
    let has : HasReady s.bits (stand_in s.bits) c.independent_bytes-last.result =
    subst (λ (i : Placed). HasReady s.bits i c.independent_bytes-last.result) c.stand_in-item.ensures.value c.independent_bytes-last.ensures.everywhere in
    let more = held_end s c.self.inside.ready.items c.independent_bytes-last.result c.self.invariant placed has few in
    subst (λ (items : List Placed). IsAssembler (record s { items = items; aims = c.in_ok-aims.aims.items; filled = c.in_ok-filled.filled.items; labels = c.in_ok-labels.labels.items }) c.in_ok-ready.ready.items)
    (sym (c.in_ok-items.ensures ∙ (ap (λ (xs : List Placed). xs ++ c.stand_in-item.result ∷ []) c.deref.ensures.value ∙ ap (λ (i : Placed). s.items ++ i ∷ []) c.stand_in-item.ensures.value)))
    (subst (λ (aims : List (Option ℕ)). IsAssembler (record s { items = s.items ++ stand_in s.bits ∷ []; aims = aims; filled = c.in_ok-filled.filled.items; labels = c.in_ok-labels.labels.items }) c.in_ok-ready.ready.items)
    (sym (c.in_ok-aims.ensures ∙ ap (λ (xs : List (Option ℕ)). xs ++ None ∷ []) c.deref-2.ensures.value))
    (subst (λ (filled : List (Option ℕ)). IsAssembler (record s { items = s.items ++ stand_in s.bits ∷ []; aims = s.aims ++ None ∷ []; filled = filled; labels = c.in_ok-labels.labels.items }) c.in_ok-ready.ready.items)
    (sym (c.in_ok-filled.ensures ∙ ap (λ (xs : List (Option ℕ)). xs ++ Some 0xCC ∷ []) c.deref-3.ensures.value))
    (subst (λ (labels : List (Option ℕ)). IsAssembler (record s { items = s.items ++ stand_in s.bits ∷ []; aims = s.aims ++ None ∷ []; filled = s.filled ++ Some 0xCC ∷ []; labels = labels }) c.in_ok-ready.ready.items)
    (sym (c.in_ok-labels.ensures ∙ c.deref-4.ensures.value))
    (subst (λ (ready : List (ArrayVec ℕ)). IsAssembler (with_byte s 0xCC) ready)
    (sym (c.in_ok-ready.ensures ∙ ap (λ (xs : List (ArrayVec ℕ)). xs ++ c.independent_bytes-last.result ∷ []) c.deref-5.ensures.value)) more))))
