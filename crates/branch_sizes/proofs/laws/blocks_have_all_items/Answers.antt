use Rattle.branch_sizes.proofs.Totals as totals
use Rattle.branch_sizes.proofs.Now as now
use Rattle.branch_sizes.proofs.laws.blocks_have_all_items.Goals as goal

pub returns : goal.returns
returns c = record {
  first_le = totals.first_le;
  within_block = totals.within_block;
  block_below = now.block_below;
  block_at = totals.block_at;
  first_below = now.first_below;
  first_of_end = totals.first_of_end;
  item_below = totals.item_below;
}
