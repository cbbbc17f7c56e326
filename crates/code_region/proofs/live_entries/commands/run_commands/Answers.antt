use Rattle.std.proofs.Common.{arith}
use Rattle.code_region.proofs.LiveEntries.Runs.{up_to-end}
use Rattle.code_region.proofs.live_entries.commands.run_commands.Goals as goal

pub returns : goal.returns
returns g c =
    up_to-end g.T.Executor.is_done c.args.on.now c.commands.on c.args.commands.now c.commands.replies c.commands.k
    (omega arith) (omega arith) c.commands.invariant.run
