-- How much of its input a command takes.
use Rattle.std.specs.Prelude.{ℕ}
use Rattle.moving_run.specs.declared.command_words.commands.Command.{Command}
use Rattle.moving_run.specs.declared.command_words.commands.Command.TheVariants.{List as ListCommand, Info, Recode, Flow, Asm, Move, Map, Blocks, Slots}
use Rattle.sweep.specs.RunParts.Reads.{code_limit, whole_limit}

-- how many bytes a command reads at most
abbrev pub limit_of : Command → ℕ
limit_of (ListCommand bits base syntax) = code_limit
limit_of (Info bits base) = code_limit
limit_of (Recode bits base to new_base) = code_limit
limit_of (Flow bits base) = whole_limit
limit_of (Asm bits base) = whole_limit
limit_of (Move bits old new) = whole_limit
limit_of (Map bits old new) = whole_limit
limit_of (Blocks bits blocks) = whole_limit
limit_of (Slots old range) = whole_limit
limit_of _ = 0
