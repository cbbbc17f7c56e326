use Rattle.encoder.proofs.Spelled as spelled
use Rattle.encoder.proofs.laws.spelled_meets_conditions.Goals as goal

pub returns : goal.returns
returns c = record {
  spelled-suits = spelled.spelled-suits;
  spelled-least = spelled.spelled-least;
  spelled-encoded = spelled.spelled-encoded;
  encoding-row = spelled.encoding-row;
}
