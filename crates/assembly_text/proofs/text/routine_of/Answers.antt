use Rattle.std.proofs.Common.{◌+◌, ◌≤◌, length, arith, ap, ◌∙◌, subst, refl, Option}
use Rattle.std.specs.Prelude.{MatchOption}
use Rattle.std.proofs.lemmas.Bool.Decides.{nat_tests}
use Rattle.assembly_text.specs.declared.text_error.LineError.{LineError}
use Rattle.code_assembler.specs.Built.{with_labels}
use Rattle.assembly_text.specs.Placing.{view_of}
use Rattle.assembly_text.specs.Text.{AddsLine, RefusesLine}
use Rattle.assembly_text.proofs.Going.{gone_start, gone_step, gone_bad, gone_end}
use Rattle.assembly_text.proofs.text.routine_of.Goals as goal

pub lines-init : goal.lines-init
lines-init c = record {
  gone = gone_start c.args.bits (view_of c.args.round.now) c.args.round.now.labels.now.text.now c.in-Ok.routine c.no_trace-trace.result
      c.no_origins-origins.result.lines.items c.no_origins-origins.result.end refl
      (c.in-Ok.ensures ∙ ap (with_labels c.args.bits) c.args.round.now.labels.now.counted) c.no_trace-trace.ensures c.no_origins-origins.ensures.lines
      c.no_origins-origins.ensures.end;
  few = omega arith;
  known = c.requires.known;
}

pub lines-preserved : goal.lines-preserved
lines-preserved c =
    let v = view_of c.args.round.now in
    let line = c.first_line-kind.result.0.now in
    let P = AddsLine v line c.lines.routine c.lines.trace c.add_line.new.routine c.add_line.new.trace in
    let Q : LineError → Type 0 = λ why. RefusesLine v line c.lines.routine c.lines.trace why in
    let step : P = subst (λ (o : Option LineError). MatchOption o P Q) c.in-None.is c.in-Ok-add_line.ensures.told in
    record {
      gone = gone_step c.args.bits v c.lines.rest.now line c.first_line-kind.result.1.now c.lines.number c.lines.routine c.lines.trace
          c.lines.origins.lines.items c.lines.origins.end c.add_line.new.routine c.add_line.new.trace c.note.new.origins.lines.items c.note.new.origins.end
          (record { end = c.len.result; number = c.lines.number + 1; column = c.line_parts-parts.result.column })
          c.lines.invariant.gone c.first_line-kind.ensures.lines step c.len.ensures refl c.line_parts-parts.ensures.column c.in-Ok-note.ensures.lines c.in-Ok-note.ensures.end;
      few = omega (arith, c.lines.invariant.few, c.first_line-kind.ensures.less);
      known = c.in-Ok-add_line.ensures.known;
    }

pub returns-in-Some-clause-told : goal.returns-in-Some-clause-told
returns-in-Some-clause-told c =
    let v = view_of c.args.round.now in
    let line = c.first_line-kind.result.0.now in
    let P = AddsLine v line c.lines.routine c.lines.trace c.add_line.new.routine c.add_line.new.trace in
    let Q : LineError → Type 0 = λ why. RefusesLine v line c.lines.routine c.lines.trace why in
    gone_bad c.args.bits v c.lines.rest.now line c.first_line-kind.result.1.now c.lines.number c.lines.routine c.lines.trace
    c.lines.origins.lines.items c.lines.origins.end c.in-Some.why _ c.requires.good c.column_of.ensures
    c.lines.invariant.gone c.first_line-kind.ensures.lines (subst (λ (o : Option LineError). MatchOption o P Q) c.in-Some.is c.in-Ok-add_line.ensures.told)

pub returns-clause-told : goal.returns-clause-told
returns-clause-told c =
    let none : length c.lines.rest.now ≤ 0 = grind (arith, nat_tests, c.is_empty.ensures, c.lines-test.false) in
    gone_end c.args.bits (view_of c.args.round.now) c.lines.rest.now c.lines.number c.lines.routine c.lines.trace
    c.lines.origins.lines.items c.lines.origins.end c.requires.good c.lines.invariant.gone none
