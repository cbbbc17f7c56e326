-- The old ends of blocks, from their lengths.
use Rattle.std.specs.Prelude.{ℕ, ◌+◌, ◌==◌, if◌then◌else◌, List, [], ◌∷◌, length, Option, Some, None}
use Rattle.x86_values.specs.declared.Bits.{Bits}
use Rattle.move_goals.specs.Items.{passes}
use Rattle.moving_run.specs.declared.command_words.commands.BlockWords.{BlockWords}
use Rattle.moving_run.specs.Code.{next_block_bytes, left_by}

-- the old end of a block that takes n bytes; that of an empty block is its new base
abbrev pub block_end : BlockWords → ℕ → ℕ
block_end w n = if n == 0 then w.new else w.old + n

-- an end, where it passes the address space, else another answer
abbrev pub end_or : Bits → ℕ → Option ℕ → Option ℕ
end_or bits end other = if passes bits end then Some end else other

-- the first old end of the blocks of some bytes that passes the address space
abbrev pub first_pass : Bits → List BlockWords → List ℕ → Option ℕ
first_pass bits [] bytes = None
first_pass bits (w ∷ ws) bytes = end_or bits (block_end w (length (next_block_bytes w.len bytes))) (first_pass bits ws (left_by w.len bytes))
