use Rattle.std.proofs.Common.{sym, subst}
use Rattle.x86_values.specs.declared.Instr.{Instr}
use Rattle.move_goals.specs.MovedTargets.Targets.{plain_length}
use Rattle.move_goals.specs.Items.{IsPlaced}
use Rattle.code_assembler.proofs.StandIn.{nop-placed}
use Rattle.code_assembler.proofs.stand_in.stand_in.Goals as goal

pub returns-clause-placed : goal.returns-clause-placed
returns-clause-placed c =
    subst (λ n. IsPlaced c.args.bits (record { ip = 0; len = n; instr = c.nop-instr.result })) (sym c.plain_length.ensures.value)
    (subst (λ (i : Instr). IsPlaced c.args.bits (record { ip = 0; len = plain_length c.args.bits i; instr = i })) (sym c.nop-instr.ensures)
    (nop-placed c.laws_below.ensures c.args.bits))
