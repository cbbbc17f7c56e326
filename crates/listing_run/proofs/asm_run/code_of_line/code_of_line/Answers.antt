use Rattle.std.proofs.Common.{refl}
use Rattle.listing_run.proofs.AsmRun.Unique.{not_code}
use Rattle.listing_run.proofs.asm_run.code_of_line.code_of_line.Goals as goal

pub returns-in-Err : goal.returns-in-Err
returns-in-Err c =
    let none = rw c.in-None.is at c.single_byte.ensures in
    λ bytes is. not_code c.args.bits c.args.ip c.args.line.now bytes (c.in-Err.ensures.none.0 refl) none is
