use Rattle.std.proofs.Common.{length, length-append, ap, arith}
use Rattle.step_slots.proofs.UnlistedSteps.{jump-bytes, jump-few}
use Rattle.step_slots.proofs.unlisted_step.with_jump.Goals as goal

pub append_few-requires : goal.append_few-requires
append_few-requires c =
    let few =
    jump-bytes c.spellings_are_moved.ensures c.pieces_have_their_lengths.ensures c.args.bits _ _ _ c.in-Ok.jump.items c.jump_to.ensures c.in-Ok.ensures.encoding in
    omega (arith, ap length c.deref.ensures.0, few, jump-few c.args.bits, c.requires.len, c.requires.short)

pub returns-in-Ok-clause-len : goal.returns-in-Ok-clause-len
returns-in-Ok-clause-len c =
    let few =
    jump-bytes c.spellings_are_moved.ensures c.pieces_have_their_lengths.ensures c.args.bits _ _ _ c.in-Ok.jump.items c.jump_to.ensures c.in-Ok.ensures.encoding in
    omega (
      arith,
      ap length c.append_few.ensures,
      length-append c.args.instruction.items c.deref.result.now,
      ap length c.deref.ensures.0,
      few,
      c.requires.len,
    )

pub returns-in-Ok-clause-short : goal.returns-in-Ok-clause-short
returns-in-Ok-clause-short c = omega (arith, returns-in-Ok-clause-len c, jump-few c.args.bits, c.requires.short)
