use Rattle.std.proofs.Common.{◌≡◌, ◌<◌, ◌+◌, Bool, true, false, List, ℕ, arith, ap, refl, sym, ◌∙◌}
use Rattle.std.specs.Prelude.{bytes_eq}
use Rattle.opcode_rows.specs.Table.{name_of}
use Rattle.opcode_rows.specs.ByName.{rows_named}
use Rattle.opcode_rows.proofs.ByName.{one-more, no-more, before-le, before-all}
use Rattle.opcode_rows.proofs.by_name.code_of.Goals as goal
use Rattle.opcode_rows.proofs.by_name.code_of.Goals.{then-eq+else-passed-n, else-eq}

-- what a test of a name says, where the name is that of a code
tested : (bytes name : List ℕ) (code : ℕ) (b answer : Bool) → bytes ≡ name_of code → answer ≡ bytes_eq bytes name → answer ≡ b
    → bytes_eq (name_of code) name ≡ b
tested bytes name code b answer is e h = ap (λ y. bytes_eq y name) (sym is) ∙ sym e ∙ h

pub returns-then-passed-n-clause-none : goal.returns-then-passed-n-clause-none
returns-then-passed-n-clause-none c =
    let more =
    one-more c.loop-code.code c.args.name.now c.loop-code-test.true
    (tested c.name.result.now c.args.name.now c.loop-code.code true _ c.name.ensures.name c.eq.ensures c.if-eq.true) in
    let all = before-le c.args.name.now (c.loop-code.code + 1) in
    let many : c.args.n < rows_named c.args.name.now = omega (arith, more, all, c.loop-code.invariant.0, c.if-passed-n.true) in
    grind (arith, many)

pub loop-code-preserved : goal.loop-code-preserved
loop-code-preserved c =
    elim c.if-eq.branch [
      | then-eq+else-passed-n w ↦
          let more =
          one-more c.loop-code.code c.args.name.now c.loop-code-test.true
          (tested c.name.result.now c.args.name.now c.loop-code.code true _ c.name.ensures.name c.eq.ensures w.if-eq.true)
          in (
            omega (arith, more, w.passed-is, c.loop-code.invariant.0),
            omega (arith, w.passed-is, c.loop-code.invariant.1, w.if-passed-n.false),
          )
      | else-eq w ↦
          let same =
          no-more c.loop-code.code c.args.name.now c.loop-code-test.true
          (tested c.name.result.now c.args.name.now c.loop-code.code false _ c.name.ensures.name c.eq.ensures w.if-eq.false)
          in (
            omega (arith, same, w.passed-is, c.loop-code.invariant.0),
            omega (arith, w.passed-is, c.loop-code.invariant.1),
          )
    ]

pub returns-clause-none : goal.returns-clause-none
returns-clause-none c =
    let all = before-all c.args.name.now c.loop-code.code (omega (arith, c.loop-code-test.false)) in (
      λ e. omega (arith, all, c.loop-code.invariant.0, c.loop-code.invariant.1),
      λ e. refl,
    )
