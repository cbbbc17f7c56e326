use Rattle.row_relation.proofs.PlainIs.{plain_is}
use Rattle.row_relation.proofs.laws.constructed_spelling_is_plain.Goals as goal

pub returns : goal.returns
returns c = λ bits ip row i sound writable four suits. plain_is bits ip row i (record { is_sound = sound; is_writable = writable; suits = suits; four = four })
