use Rattle.std.proofs.Common.{arith}
use Rattle.text_parts.proofs.Bounds.{register-le}
use Rattle.text_parts.proofs.registers.register_text.Goals as goal

pub append_register-requires : goal.append_register-requires
append_register-requires c = let short = register-le c.args.style c.args.r in grind (arith, short, c.new-text.ensures)
