use Rattle.branch_sizes.proofs.Totals as totals
use Rattle.branch_sizes.proofs.laws.totals_rise.Goals as goal

pub returns : goal.returns
returns c = record {
  total_more = totals.total_more;
  total_rises = totals.total_rises;
  total_small = totals.total_small;
  total-front = totals.total-front;
}
