use Rattle.std.proofs.Common.{◌≡◌, ℕ, length, sym, subst, arith}
use Rattle.code_assembler.specs.Routine.{RoutineState, HasAdded, with_byte}
use Rattle.code_assembler.proofs.AtLabels.{end_added}
use Rattle.code_assembler.proofs.routine.Assembler.finish_longer.Goals as goal

pub finish_placed-requires-clause-added : goal.finish_placed-requires-clause-added
finish_placed-requires-clause-added c =
    let s : RoutineState = record {
      bits = c.self.inside.bits;
      items = c.self.inside.items.items;
      aims = c.self.inside.aims.items;
      filled = c.self.inside.filled.items;
      labels = c.self.inside.labels.items;
    } in
    let same : c.args.self.now ≡ s = sym c.self.view_is in
    let many : c.len-count.result ≡ length s.items = omega (arith, c.len-count.ensures) in
    subst (λ (w : RoutineState). HasAdded w c.len-count.result) (sym c.in_ok-whole.ensures)
    (subst (λ (t : RoutineState). HasAdded (with_byte t 0xCC) c.len-count.result) (sym same)
    (subst (λ (n : ℕ). HasAdded (with_byte s 0xCC) n) (sym many) (end_added s c.self.invariant.routine)))
