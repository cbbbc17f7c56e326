use Rattle.std.proofs.Common.{◌≡◌, true, None, Ok, Err, is_some, rules, ◌∙◌}
use Rattle.move_goals.specs.MovedTargets.Targets.{target_of}
use Rattle.move_goals.proofs.MovedTargets.Alike.{targeted-bytes, untargeted-bytes}
use Rattle.move_goals.proofs.moved_targets.independent.independent_bytes.Goals as goal

pub returns-then-is_some-clause-value : goal.returns-then-is_some-clause-value
returns-then-is_some-clause-value c =
    let some : is_some (target_of c.args.instr.now) ≡ true = search rules in
    c.new.ensures ∙ targeted-bytes c.args.bits c.args.instr.now some

pub returns-in-Ok-clause-value : goal.returns-in-Ok-clause-value
returns-in-Ok-clause-value c =
    let none : target_of c.args.instr.now ≡ None = search rules in
    untargeted-bytes c.args.bits c.args.instr.now (Ok c.in-Ok.bytes.items) none c.in-Ok.ensures.encoding

pub returns-in-Err-clause-value : goal.returns-in-Err-clause-value
returns-in-Err-clause-value c =
    let none : target_of c.args.instr.now ≡ None = search rules in
    c.new-in-Err.ensures ∙ untargeted-bytes c.args.bits c.args.instr.now (Err c.in-Err.field-0) none c.in-Err.ensures.encoding
