use Rattle.std.proofs.Common.{Some, Ok, Err, ap}
use Rattle.detour.specs.Detours.{IsTakenAnswer}
use Rattle.detour.specs.Made.{IsWholeTaken}
use Rattle.detour.proofs.Enough.{length_untaken}
use Rattle.detour.proofs.lengths.taken_len.Goals as goal

pub returns-in_ok-moved_len-in-Ok-clause-value : goal.returns-in_ok-moved_len-in-Ok-clause-value
returns-in_ok-moved_len-in-Ok-clause-value c =
    let h : IsWholeTaken c.args.bits c.args.ip c.args.code.now c.args.need (Ok c.in-Ok.taken) = c.in-Ok.ensures in
    (Ok c.in-Ok.taken.items.items, (h.1, ap Some c.in_ok-moved_len-in-Ok.ensures.value))

pub returns-in-Err-clause-value : goal.returns-in-Err-clause-value
returns-in-Err-clause-value c =
    let h : IsTakenAnswer c.args.bits c.args.ip c.args.code.now c.args.need (Err c.in-Err.why) = c.in-Err.ensures in
    length_untaken c.args.bits c.args.ip c.args.code.now c.args.need c.args.rule c.in-Err.why h c.no_len_for.result c.no_len_for.ensures.none
