use Rattle.std.proofs.Common.{◌≡◌, length, false, Some, None, sym, ap, rules}
use Rattle.x86_values.specs.declared.Rep.TheVariants.{None as NoRep}
use Rattle.c_calls.specs.Numbers.{lock_numbered, rep_numbered, prefix_numbered, asize_numbered}
use Rattle.c_calls.proofs.ThereAndBack.{instr_back_parts}
use Rattle.c_calls.proofs.unflatten.instr_back_into.Goals as goal

pub returns : goal.returns
returns c =
    let four : length c.args.out.now.ops ≡ 4 = search rules in
    instr_back_parts c.args.f.now c.args.out.now.ops _ _ _ _ _ _ _ _ four
    c.in_ok-operand_back_into.ensures c.in_ok-operand_back_into-2.ensures c.in_ok-operand_back_into-3.ensures c.in_ok-operand_back_into-4.ensures
    (sym c.in_ok-out.ensures) (sym c.in_ok-out-2.ensures) (sym c.in_ok-out-3.ensures) (sym c.in_ok-out-4.ensures)

pub returns-then-f-eq0-4 : goal.returns-then-f-eq0-4
unfolding lock_numbered rep_numbered prefix_numbered asize_numbered
returns-then-f-eq0-4 c =
    let four : length c.args.out.now.ops ≡ 4 = search rules in
    let lock : lock_numbered c.args.f.now.lock ≡ Some false = ap lock_numbered c.if-f-eq0.true in
    let rep : rep_numbered c.args.f.now.rep ≡ Some NoRep = ap rep_numbered c.if-f-eq0-2.true in
    let seg : prefix_numbered c.args.f.now.segment ≡ Some None = ap prefix_numbered c.if-f-eq0-3.true in
    let asize : asize_numbered c.args.f.now.asize ≡ Some None = ap asize_numbered c.if-f-eq0-4.true in
    instr_back_parts c.args.f.now c.args.out.now.ops _ _ _ _ _ _ _ _ four
    c.in_ok-operand_back_into.ensures c.in_ok-operand_back_into-2.ensures c.in_ok-operand_back_into-3.ensures c.in_ok-operand_back_into-4.ensures
    lock rep seg asize
