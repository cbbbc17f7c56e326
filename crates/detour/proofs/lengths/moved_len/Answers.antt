use Rattle.std.proofs.Common.{◌≡◌, length, arith, ap, ◌∙◌}
use Rattle.detour.specs.Trampoline.{block_items}
use Rattle.detour.proofs.Planned.{count_within, block_few}
use Rattle.detour.proofs.lengths.moved_len.Goals as goal

pub block_len-requires : goal.block_len-requires
block_len-requires c =
    let t = c.args.taken.now.items.items in
    let w = count_within c.laws_below.ensures.firsts t in
    let len : length c.deref.result.now ≡ length (block_items c.args.rule c.args.bits c.args.ip t) = ap length (c.deref.ensures.value ∙ c.in_ok-items.ensures) in
    omega (arith, len, block_few c.args.rule c.args.bits c.args.ip t w, c.requires.few)
