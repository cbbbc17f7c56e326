use Rattle.std.proofs.Common.{◌≡◌, ◌++◌, length}
use Rattle.assembly_text.specs.Constants.{resolved_from}
use Rattle.assembly_text.specs.Placing.{number_in}
use Rattle.assembly_text.proofs.numbers.put_numbers.Given as goal

abbrev pub invariant-words : goal.invariant-words
invariant-words l =
    l.out.items ++ resolved_from (number_in l.numbers) l.quote 0 l.rest ≡ l.fn.out.items ++ resolved_from (number_in l.numbers) 0 0 l.text

abbrev pub decreases-words : goal.decreases-words
decreases-words l = length l.rest
