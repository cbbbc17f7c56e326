use Rattle.std.proofs.Common.{length, arith, ap, sym, ◌∙◌}
use Rattle.std.proofs.lemmas.List.FromFn.{length-map-range_with_len}
use Rattle.branch_sizes.specs.Layout.{place}
use Rattle.detour.specs.Trampoline.{IsTrampoline, block_items, trampoline_plan}
use Rattle.detour.proofs.Planned.{block_long, block_some, count_within}
use Rattle.detour.proofs.making.lay_over.Goals as goal

pub put_together-requires-clause-back : goal.put_together-requires-clause-back
put_together-requires-clause-back c goes =
    let items = c.args.taken.now.items.items in
    let block : IsTrampoline c.args.bits c.args.ip items c.args.place c.args.rule c.args.moved.now = c.requires.block in
    let starts = ap length block.lists.starts in
    let count = length-map-range_with_len (place (trampoline_plan c.args.bits c.args.ip items c.args.place c.args.rule) block.layout) 0 (length (block_items c.args.rule c.args.bits c.args.ip items)) in
    let some = block_some c.args.rule c.args.bits c.args.ip items (sym c.goes_back-back.ensures ∙ goes) in
    omega (arith, starts, count, some)

pub put_together-requires-clause-within : goal.put_together-requires-clause-within
put_together-requires-clause-within c =
    let bits = c.args.bits in
    let ip = c.args.ip in
    let items = c.args.taken.now.items.items in
    let block : IsTrampoline bits ip items c.args.place c.args.rule c.args.moved.now = c.requires.block in
    let starts = ap length block.lists.starts in
    let plan = trampoline_plan bits ip items c.args.place c.args.rule in
    let count = length-map-range_with_len (place plan block.layout) 0 (length (block_items c.args.rule bits ip items)) in
    let long = block_long c.args.rule bits ip items (count_within c.first_numbers_pass.ensures items) in
    omega (arith, starts, count, long)
