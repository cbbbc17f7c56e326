use Rattle.row_relation.proofs.Lengths.{four_of, given_from}
use Rattle.row_relation.proofs.One.{one_plain}
use Rattle.row_relation.proofs.laws.plain_spelling_is_constructed.Goals as goal

pub returns : goal.returns
returns c = λ bits ip row s i sound writable f p e. one_plain bits ip row s i (given_from bits ip row s i sound writable f e) (four_of bits ip row s i e) p
