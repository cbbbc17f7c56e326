use Rattle.std.proofs.Common.{◌+◌, ◌≤◌, length}
use Rattle.branch_sizes.proofs.suspects.Suspects.note.Given as goal

abbrev pub invariant-near : goal.invariant-near
invariant-near l = length l.self.queue.items + l.first ≤ length l.fn.self.queue.items + 1 + l.n
