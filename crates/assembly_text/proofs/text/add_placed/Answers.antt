use Rattle.std.proofs.Common.{◌≡◌, false, List, ℕ, inr, sym, subst, ◌∙◌}
use Rattle.assembly_text.specs.declared.code.Code.{Code}
use Rattle.assembly_text.specs.Placing.{view_of, placed_text, is_nothing}
use Rattle.assembly_text.specs.Text.{AddsCode, RefusesCode}
use Rattle.assembly_text.proofs.Spelling.{placed_for, placed_refused}
use Rattle.assembly_text.proofs.Telling.{told_more}
use Rattle.assembly_text.proofs.text.add_placed.Goals as goal

pub returns-then-is_nothing : goal.returns-then-is_nothing
returns-then-is_nothing c =
    placed_refused (view_of c.args.round.now) c.bits-bits.result c.args.body.now c.args.placed.now c.args.routine.now c.in_ok-code.code c.in_ok-why.why
    c.bits-bits.ensures c.requires (sym c.is_nothing.ensures ∙ c.if-is_nothing.true) c.in_ok-code.ensures c.in_ok-why.ensures

pub returns : goal.returns
returns c =
    let v = view_of c.args.round.now in
    let code = c.in_ok-code.code in
    let is = placed_for v c.bits-bits.result c.args.routine.now.bits c.args.body.now c.args.placed.now code c.bits-bits.ensures c.requires c.in_ok-code.ensures in
    let same : c.unprepared.result.code ≡ code = c.unprepared.ensures.code in
    let some : is_nothing code ≡ false = sym c.is_nothing.ensures ∙ c.if-is_nothing.false in
    told_more c.push_code.result _ _ _ _
    (λ a. (
      code,
      (
        is,
        (
          some,
          subst (λ (k : Code). AddsCode v.all (placed_text v c.args.body.now) k c.args.routine.now c.push_code.new.routine) same
              (subst (λ (x : List ℕ). AddsCode v.all x c.unprepared.result.code c.args.routine.now c.push_code.new.routine) c.requires a),
        ),
      ),
    ))
    (λ w a. (
      code,
      (
        is,
        inr (
          some,
          subst (λ (k : Code). RefusesCode v.all (placed_text v c.args.body.now) k c.args.routine.now w) same
              (subst (λ (x : List ℕ). RefusesCode v.all x c.unprepared.result.code c.args.routine.now w) c.requires a),
        ),
      ),
    ))
    c.push_code.ensures
