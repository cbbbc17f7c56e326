use Rattle.std.proofs.Common.{◌≡◌, ◌∙◌, ap}
use Rattle.c_calls.specs.Back.{instr_back}
use Rattle.c_calls.proofs.ThereAndBack.{instr_back_flat}
use Rattle.c_calls.proofs.flatten.flat_into.Goals as goal

-- the struct is that of the instruction, which comes back from it
pub returns-clause-back : goal.returns-clause-back
returns-clause-back c =
    ap instr_back c.fields_into.ensures.flat
    ∙ instr_back_flat c.args.d.now.instr c.args.d.now.len c.fields_into.ensures.four
