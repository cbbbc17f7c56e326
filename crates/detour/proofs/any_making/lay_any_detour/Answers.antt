use Rattle.std.proofs.Common.{◌≡◌, true, arith, ap, sym, ◌∙◌}
use Rattle.detour.specs.declared.taken.Taken.{Taken}
use Rattle.detour.specs.Taken.{moved_count}
use Rattle.detour.specs.Trampoline.{goes_back}
use Rattle.detour.specs.AnyTaken.{outline}
use Rattle.detour.proofs.Planned.{block_long, block_some, count_within}
use Rattle.detour.proofs.AnyPlanned.{block-same, starts-count}
use Rattle.detour.proofs.any_making.lay_any_detour.Goals as goal

pub put_any_together-requires-clause-back : goal.put_any_together-requires-clause-back
put_any_together-requires-clause-back c goes =
    let bits = c.args.bits in
    let xs = c.args.taken.items.items in
    let within = count_within c.first_numbers_pass.ensures (outline bits xs) in
    let shown : goes_back c.args.rule bits (outline bits xs) ≡ true =
    sym (ap (goes_back c.args.rule bits) c.requires.fit.lines) ∙ (sym c.goes_back-back.ensures ∙ goes) in
    let some = block_some c.args.rule bits c.args.ip (outline bits xs) shown in
    let same = block-same c.args.rule bits c.args.ip xs within in
    let count = starts-count bits c.args.ip xs c.args.place c.args.rule c.in-Ok.laid.moved c.in-Ok.ensures.1.1 in
    omega (arith, some, same, count)

pub put_any_together-requires-clause-within : goal.put_any_together-requires-clause-within
put_any_together-requires-clause-within c =
    let bits = c.args.bits in
    let xs = c.args.taken.items.items in
    let within = count_within c.first_numbers_pass.ensures (outline bits xs) in
    let moved : moved_count c.in-Ok.laid.outline.items.items ≡ moved_count (outline bits xs) =
    ap (λ (t : Taken). moved_count t.items.items) c.in-Ok.ensures.0 ∙ ap moved_count c.requires.fit.lines in
    let long = block_long c.args.rule bits c.args.ip (outline bits xs) within in
    let same = block-same c.args.rule bits c.args.ip xs within in
    let count = starts-count bits c.args.ip xs c.args.place c.args.rule c.in-Ok.laid.moved c.in-Ok.ensures.1.1 in
    omega (arith, moved, long, same, count)
