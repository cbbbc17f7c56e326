use Rattle.plain_spelling.proofs.numbers.+push_low_bytes.Given as goal

abbrev pub decreases-push_low_bytes : goal.decreases-push_low_bytes
decreases-push_low_bytes g l = l.n
