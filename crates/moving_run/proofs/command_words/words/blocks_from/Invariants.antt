use Rattle.std.proofs.Common.{◌≡◌, ◌-◌, ◌*◌, ◌≤◌, [], length, drop}
use Rattle.moving_run.specs.CommandWords.Words.{blocks_from, texts}
use Rattle.moving_run.proofs.command_words.words.blocks_from.Given as goal

abbrev pub invariant-loop-bits : goal.invariant-loop-bits
invariant-loop-bits l = record {
  few : length l.blocks.items ≤ 16;
  within : 3 * length l.blocks.items ≤ length l.words;
  same : blocks_from (16 - length l.blocks.items) l.bits l.blocks.items (drop (3 * length l.blocks.items) (texts l.words)) ≡ blocks_from 16 l.bits [] (texts l.words);
}

abbrev pub decreases-loop-bits : goal.decreases-loop-bits
decreases-loop-bits l = 16 - length l.blocks.items
