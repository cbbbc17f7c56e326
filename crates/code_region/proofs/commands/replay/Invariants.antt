use Rattle.std.proofs.Common.{◌≡◌, ◌++◌, take, drop}
use Rattle.code_region.specs.Running.{run, replies_of}
use Rattle.code_region.proofs.commands.replay.Given as goal

abbrev pub invariant-loop-i : goal.invariant-loop-i
invariant-loop-i l = record {
  state : run l.region (drop l.i l.commands) ≡ run l.fn.region l.commands;
  answered : take l.i l.replies ++ replies_of l.region (drop l.i l.commands) ≡ replies_of l.fn.region l.commands;
}
