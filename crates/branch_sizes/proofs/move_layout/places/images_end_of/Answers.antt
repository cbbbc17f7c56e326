use Rattle.std.proofs.Common.{◌≡◌, ◌+◌, ◌-◌, arith, ap}
use Rattle.branch_sizes.specs.Layout.{span_at, image_length, place}
use Rattle.branch_sizes.specs.MoveLayout.Tables.{plan_in}
use Rattle.branch_sizes.proofs.MoveLayout.Standing.{images-none, item-below, place-last}
use Rattle.branch_sizes.proofs.MoveLayout.Tabled.{block-fits}
use Rattle.branch_sizes.proofs.move_layout.places.images_end_of.Goals as goal

pub returns-then-span-eq0-clause-value : goal.returns-then-span-eq0-clause-value
returns-then-span-eq0-clause-value c =
    omega (arith, c.from.ensures, images-none c.blocks_have_all_items.ensures c.totals_rise.ensures (plan_in c.args.tables.now) c.args.tables.now.plan c.args.tables.now.layout.now c.args.b c.if-span-eq0.true)

pub overflow_add-last : goal.overflow_add-last
overflow_add-last c = let fits = block-fits c.blocks_have_all_items.ensures c.args.tables.now c.args.b c.args.first c.requires.block c.requires.first in omega (arith, fits.0, fits.1)

pub offset_bounds-tables-last : goal.offset_bounds-tables-last
offset_bounds-tables-last c = let fits = block-fits c.blocks_have_all_items.ensures c.args.tables.now c.args.b c.args.first c.requires.block c.requires.first in omega (arith, fits.0, fits.1)

pub bounds-tables-last : goal.bounds-tables-last
bounds-tables-last c =
    let fits = block-fits c.blocks_have_all_items.ensures c.args.tables.now c.args.b c.args.first c.requires.block c.requires.first in omega (arith, c.args.tables.now.right_places.len, fits.0)

pub choice_of-requires : goal.choice_of-requires
choice_of-requires c = let fits = block-fits c.blocks_have_all_items.ensures c.args.tables.now c.args.b c.args.first c.requires.block c.requires.first in omega (arith, fits.0)

pub returns-clause-value : goal.returns-clause-value
returns-clause-value c =
    let t = c.args.tables.now in
    let p = plan_in t in
    let n = (span_at t.spans.now c.args.b).count in
    let k = c.args.first + n - 1 in
    let at : place p t.layout.now k + image_length p t.layout.now k ≡ _ =
    place-last c.blocks_have_all_items.ensures c.totals_rise.ensures p t.plan t.layout.now c.args.b (n - 1) k c.requires.block (omega arith) (omega (arith, c.requires.first)) (omega arith) in
    let here = t.right_places.each k (item-below c.blocks_have_all_items.ensures c.totals_rise.ensures p t.plan t.layout.now c.args.b (n - 1) k c.requires.block (omega arith) (omega (arith, c.requires.first))) in
    let len : c.choice_of.result.len ≡ image_length p t.layout.now k = ap (λ x. x.len) c.choice_of.ensures in
    omega (arith, at, here, len, c.from-2.ensures)
