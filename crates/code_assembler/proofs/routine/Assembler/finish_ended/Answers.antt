use Rattle.std.proofs.Common.{◌≡◌, ℕ, ◌+◌, List, length, Option, Some, None, sym, ap, ◌∙◌, subst, arith}
use Rattle.code_assembler.specs.Routine.{RoutineState, first_unplaced, with_byte}
use Rattle.code_assembler.proofs.AtLabels.{end_unplaced}
use Rattle.code_assembler.proofs.routine.Assembler.finish_ended.Goals as goal

pub finish_longer-requires-clause-stand : goal.finish_longer-requires-clause-stand
finish_longer-requires-clause-stand c =
    let s : RoutineState = record {
      bits = c.self.inside.bits;
      items = c.self.inside.items.items;
      aims = c.self.inside.aims.items;
      filled = c.self.inside.filled.items;
      labels = c.self.inside.labels.items;
    } in
    let same : c.args.self.now ≡ s = sym c.self.view_is in
    let many : c.len.result ≡ length s.items = omega (arith, c.len.ensures) in
    let e : c.first_unplaced.result ≡ first_unplaced s.labels s.aims (length s.items + 1) =
    c.first_unplaced.ensures
    ∙ (ap (λ (ls : List (Option ℕ)). first_unplaced ls c.deref-2.result.now (c.len.result + 1)) c.deref.ensures.value
    ∙ (ap (λ (xs : List (Option ℕ)). first_unplaced s.labels xs (c.len.result + 1)) c.deref-2.ensures.value
    ∙ ap (λ (n : ℕ). first_unplaced s.labels s.aims (n + 1)) many)) in
    subst (λ (t : RoutineState). first_unplaced t.labels (with_byte t 0xCC).aims (length (with_byte t 0xCC).items) ≡ None) (sym same)
    (end_unplaced c.laws_below.ensures s ∙ (sym e ∙ c.in-None.is))

pub returns-in-Some : goal.returns-in-Some
returns-in-Some c =
    let s : RoutineState = record {
      bits = c.self.inside.bits;
      items = c.self.inside.items.items;
      aims = c.self.inside.aims.items;
      filled = c.self.inside.filled.items;
      labels = c.self.inside.labels.items;
    } in
    let same : c.args.self.now ≡ s = sym c.self.view_is in
    let many : c.len.result ≡ length s.items = omega (arith, c.len.ensures) in
    let e : c.first_unplaced.result ≡ first_unplaced s.labels s.aims (length s.items + 1) =
    c.first_unplaced.ensures
    ∙ (ap (λ (ls : List (Option ℕ)). first_unplaced ls c.deref-2.result.now (c.len.result + 1)) c.deref.ensures.value
    ∙ (ap (λ (xs : List (Option ℕ)). first_unplaced s.labels xs (c.len.result + 1)) c.deref-2.ensures.value
    ∙ ap (λ (n : ℕ). first_unplaced s.labels s.aims (n + 1)) many)) in
    subst (λ (t : RoutineState). first_unplaced t.labels (with_byte t 0xCC).aims (length (with_byte t 0xCC).items) ≡ Some c.in-Some.at) (sym same)
    (end_unplaced c.laws_below.ensures s ∙ (sym e ∙ c.in-Some.is))
