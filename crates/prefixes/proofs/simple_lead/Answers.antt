use Rattle.std.proofs.Common.{◌≡◌, sym, ◌∙◌, arith}
use Rattle.prefixes.proofs.Simple.{no_prefix_0f, no_run, in_any_case, lone_is_no_prefix}
use Rattle.prefixes.proofs.simple_lead.Goals as goal

pub returns-then-b-eq15-clause-run : goal.returns-then-b-eq15-clause-run
returns-then-b-eq15-clause-run c =
    let e : c.in-Some.b.now ≡ 0x0F = grind (arith, c.if-b-eq15.true) in
    in_any_case c.escaped_lead.result
    (no_run c.args.bits c.in-Some.b.now c.args.bytes.now c.in-Some.rest.now c.in-Some.ensures.cases.0 (rw e (no_prefix_0f c.args.bits)))

pub returns-then-is_lone_opcode-clause-run : goal.returns-then-is_lone_opcode-clause-run
returns-then-is_lone_opcode-clause-run c =
    no_run c.args.bits c.in-Some.b.now c.args.bytes.now c.in-Some.rest.now c.in-Some.ensures.cases.0
    (lone_is_no_prefix c.args.bits c.in-Some.b.now (sym c.is_lone_opcode.ensures ∙ c.if-is_lone_opcode.true))
