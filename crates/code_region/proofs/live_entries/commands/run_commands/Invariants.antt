use Rattle.std.specs.Prelude.{All}
use Rattle.code_region.proofs.LiveEntries.Runs.{IsUpTo}
use Rattle.code_region.proofs.live_entries.commands.run_commands.Given as goal

abbrev pub invariant-commands : goal.invariant-commands
invariant-commands g l = record {
  fit : All (g.T.Executor.is_fit l.on) l.commands;
  run : IsUpTo g.T.Executor.is_done l.fn.on l.commands l.replies l.k l.on;
}
