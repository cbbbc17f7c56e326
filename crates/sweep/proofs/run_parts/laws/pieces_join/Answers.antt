use Rattle.sweep.proofs.RunParts.Appending as appending
use Rattle.sweep.proofs.run_parts.laws.pieces_join.Goals as goal

pub returns : goal.returns
returns c = record {
  with_back-nil = appending.with_back-nil;
  with_back-append = appending.with_back-append;
  with_front-append = appending.with_front-append;
}
