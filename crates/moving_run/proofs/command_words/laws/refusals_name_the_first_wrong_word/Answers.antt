use Rattle.moving_run.proofs.CommandWords.Refusals.{first_wrong, no_room}
use Rattle.moving_run.proofs.command_words.laws.refusals_name_the_first_wrong_word.Goals as goal

pub returns : goal.returns
returns c = record { first = first_wrong; no_room = no_room }
