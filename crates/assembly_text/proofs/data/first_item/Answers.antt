use Rattle.std.proofs.Common.{[]}
use Rattle.assembly_text.specs.Data.{items_in}
use Rattle.assembly_text.proofs.Items.{cut_item, cut_last}
use Rattle.assembly_text.proofs.data.first_item.Goals as goal

pub returns-then-len-text-clause-items : goal.returns-then-len-text-clause-items
returns-then-len-text-clause-items c =
    cut_item _ _ _ _ c.item_len-len.result c.item_len-len.ensures.value c.if-len-text.true c.split_at.ensures.front c.split_at.ensures.back c.behind.ensures

pub returns-then-len-text-clause-one : goal.returns-then-len-text-clause-one
returns-then-len-text-clause-one c =
    (items_in 0 c.behind.result.now, cut_item _ _ _ _ c.item_len-len.result c.item_len-len.ensures.value c.if-len-text.true c.split_at.ensures.front c.split_at.ensures.back c.behind.ensures)

pub returns-else-len-text-clause-items : goal.returns-else-len-text-clause-items
returns-else-len-text-clause-items c =
    cut_last _ _ c.item_len-len.result c.item_len-len.ensures.value c.if-len-text.false c.split_at.ensures.front

pub returns-else-len-text-clause-one : goal.returns-else-len-text-clause-one
returns-else-len-text-clause-one c =
    ([], cut_last _ _ c.item_len-len.result c.item_len-len.ensures.value c.if-len-text.false c.split_at.ensures.front)
