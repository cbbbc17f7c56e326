use Rattle.std.proofs.Common.{◌≡◌, ℕ, Bool, List, length, Option, ap, sym, subst, ◌∙◌, arith}
use Rattle.std.specs.Prelude.{if◌then◌else◌}
use Rattle.code_assembler.specs.Routine.{RoutineState, has_end_label, with_byte}
use Rattle.code_assembler.specs.Finished.{IsLaidAnswer}
use Rattle.code_assembler.proofs.routine.Assembler.finish.Goals as goal

pub returns-then-has_end_label : goal.returns-then-has_end_label
returns-then-has_end_label c =
    let s : RoutineState = record {
      bits = c.self.inside.bits;
      items = c.self.inside.items.items;
      aims = c.self.inside.aims.items;
      filled = c.self.inside.filled.items;
      labels = c.self.inside.labels.items;
    } in
    let same : c.args.self.now ≡ s = sym c.self.view_is in
    let many : c.len-count.result ≡ length s.items = omega (arith, c.len-count.ensures) in
    let there : c.has_end_label.result ≡ has_end_label c.args.self.now.labels (length c.args.self.now.items) =
    subst (λ (t : RoutineState). c.has_end_label.result ≡ has_end_label t.labels (length t.items)) (sym same)
    (c.has_end_label.ensures.value
    ∙ (ap (λ (ls : List (Option ℕ)). has_end_label ls c.len-count.result) c.deref.ensures.value ∙ ap (has_end_label s.labels) many)) in
    let t = c.args.self.now in
    subst (λ (b : Bool). IsLaidAnswer (if b then with_byte t 0xCC else t) c.args.base (length t.items) c.finish_ended.result) (sym c.if-has_end_label.true ∙ there) c.finish_ended.ensures

pub returns-else-has_end_label : goal.returns-else-has_end_label
returns-else-has_end_label c =
    let s : RoutineState = record {
      bits = c.self.inside.bits;
      items = c.self.inside.items.items;
      aims = c.self.inside.aims.items;
      filled = c.self.inside.filled.items;
      labels = c.self.inside.labels.items;
    } in
    let same : c.args.self.now ≡ s = sym c.self.view_is in
    let many : c.len-count.result ≡ length s.items = omega (arith, c.len-count.ensures) in
    let there : c.has_end_label.result ≡ has_end_label c.args.self.now.labels (length c.args.self.now.items) =
    subst (λ (t : RoutineState). c.has_end_label.result ≡ has_end_label t.labels (length t.items)) (sym same)
    (c.has_end_label.ensures.value
    ∙ (ap (λ (ls : List (Option ℕ)). has_end_label ls c.len-count.result) c.deref.ensures.value ∙ ap (has_end_label s.labels) many)) in
    let t = c.args.self.now in
    subst (λ (b : Bool). IsLaidAnswer (if b then with_byte t 0xCC else t) c.args.base (length t.items) c.finish_plain.result) (sym c.if-has_end_label.false ∙ there) c.finish_plain.ensures
