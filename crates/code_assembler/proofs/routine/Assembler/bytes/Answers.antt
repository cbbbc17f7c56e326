use Rattle.std.proofs.Common.{◌≡◌, ◌≤◌, ◌+◌, arith, List, ◌++◌, length, map, replicate, Option, Some, None, ℕ, sym, subst, ap, ◌∙◌}
use Rattle.arrayvec.specs.ArrayVec.{ArrayVec}
use Rattle.move_goals.specs.declared.items.Placed.{Placed}
use Rattle.move_goals.specs.Items.{IsPlaced}
use Rattle.code_assembler.specs.StandIn.{stand_in}
use Rattle.code_assembler.specs.Routine.{RoutineState, IsAssembler, HasReady}
use Rattle.code_assembler.specs.Built.{with_bytes}
use Rattle.code_assembler.proofs.ReadyItems.{held_bytes}
use Rattle.code_assembler.proofs.routine.Assembler.bytes.Goals as goal

pub invariant_of-self-2 : goal.invariant_of-self-2
invariant_of-self-2 c =
    let s : RoutineState = record {
      bits = c.self.inside.bits;
      items = c.self.inside.items.items;
      aims = c.self.inside.aims.items;
      filled = c.self.inside.filled.items;
      labels = c.self.inside.labels.items;
    } in
    let bytes = c.args.bytes.now in
    let n = length bytes in
    let placed : IsPlaced s.bits (stand_in s.bits) = subst (λ (i : Placed). IsPlaced s.bits i) c.stand_in-item.ensures.value c.stand_in-item.ensures.placed in
    let few : length s.items + n ≤ 65536 = omega (arith, c.len.ensures, c.if-count-gt-MOST.false, c.if-len-count.false) in
    let item : c.stand_in-item.result ≡ stand_in s.bits = c.stand_in-item.ensures.value in
    let has : HasReady s.bits (stand_in s.bits) c.independent_bytes-ready.result =
    subst (λ (i : Placed). HasReady s.bits i c.independent_bytes-ready.result) item c.independent_bytes-ready.ensures.everywhere in
    let more = held_bytes s c.self.inside.ready.items bytes c.independent_bytes-ready.result c.self.invariant placed has few in
    subst (λ (items : List Placed). IsAssembler (record s { items = items; aims = c.fill-2.new.list.items; filled = c.append_bytes.new.list.items }) c.fill_ready.new.list.items)
    (sym (c.fill.ensures ∙ (ap (λ (xs : List Placed). xs ++ replicate n c.stand_in-item.result) c.in_ok-reserve.ensures.items
    ∙ ap (λ (i : Placed). s.items ++ replicate n i) c.stand_in-item.ensures.value)))
    (subst (λ (aims : List (Option ℕ)). IsAssembler (record s { items = s.items ++ replicate n (stand_in s.bits); aims = aims; filled = c.append_bytes.new.list.items }) c.fill_ready.new.list.items)
    (sym (c.fill-2.ensures ∙ ap (λ (xs : List (Option ℕ)). xs ++ replicate n None) c.in_ok-reserve-2.ensures.items))
    (subst (λ (filled : List (Option ℕ)). IsAssembler (record s { items = s.items ++ replicate n (stand_in s.bits); aims = s.aims ++ replicate n None; filled = filled }) c.fill_ready.new.list.items)
    (sym (c.append_bytes.ensures ∙ ap (λ (xs : List (Option ℕ)). xs ++ map Some bytes) c.in_ok-reserve-3.ensures.items))
    (subst (λ (ready : List (ArrayVec ℕ)). IsAssembler (with_bytes s bytes) ready)
    (sym (c.fill_ready.ensures ∙ ap (λ (xs : List (ArrayVec ℕ)). xs ++ replicate n c.independent_bytes-ready.result) c.in_ok-reserve-4.ensures.items)) more)))
