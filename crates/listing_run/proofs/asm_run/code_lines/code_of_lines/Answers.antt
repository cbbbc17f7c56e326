use Rattle.std.proofs.Common.{◌≡◌, ◌≤◌, length, arith}
use Rattle.std.proofs.lemmas.Bool.Decides.{nat_tests}
use Rattle.listing_run.proofs.AsmRun.Going.{gone_step, gone_bad, gone_end}
use Rattle.listing_run.proofs.asm_run.code_lines.code_of_lines.Goals as goal

pub returns-in_default-clause-refused : goal.returns-in_default-clause-refused
returns-in_default-clause-refused c =
    let none = rw (c.wrap-ip.ensures, c.from.ensures, c.len.ensures) at c.in_default.ensures in
    gone_bad _ _ _ c.loop-rest.rest.now c.first_line.result.0.now _ c.loop-rest.number _ c.loop-rest.code.len (omega (arith, c.loop-rest.code.ok))
    c.loop-rest.invariant c.first_line.ensures.lines none

pub loop-rest-preserved : goal.loop-rest-preserved
loop-rest-preserved c =
    let is = rw (c.wrap-ip.ensures, c.from.ensures, c.len.ensures) at c.in-Some.ensures in
    let grown = rw c.deref.ensures.0 at c.in-Ok.ensures.items in
    gone_step _ _ _ c.loop-rest.rest.now c.first_line.result.0.now _ c.loop-rest.number _ c.in-Some.bytes.items _ c.loop-rest.code.len
    (omega (arith, c.loop-rest.code.ok)) c.loop-rest.invariant c.first_line.ensures.lines (omega (arith, c.first_line.ensures.less)) is grown

pub returns-clause-code : goal.returns-clause-code
returns-clause-code c =
    let none : length c.loop-rest.rest.now ≤ 0 = grind (arith, nat_tests, c.is_empty.ensures, c.loop-rest-test.false) in
    gone_end _ _ _ _ _ _ c.loop-rest.invariant none
