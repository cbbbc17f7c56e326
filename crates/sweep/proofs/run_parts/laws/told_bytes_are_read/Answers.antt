use Rattle.sweep.proofs.RunParts.Whole as whole
use Rattle.sweep.proofs.run_parts.laws.told_bytes_are_read.Goals as goal

pub returns : goal.returns
returns c = record {
  all_bytes = whole.all_bytes;
  too_many = whole.too_many;
}
