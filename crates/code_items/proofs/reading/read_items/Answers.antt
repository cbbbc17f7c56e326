use Rattle.std.proofs.Common.{◌≡◌, ◌+◌, refl, ap, ◌∙◌}
use Rattle.x86_values.specs.Wrapping.{modulo_width}
use Rattle.code_items.proofs.ReadSoFar.{so_far-start, so_far-step, so_far-all, so_far-stops, so_far-sound}
use Rattle.code_items.proofs.reading.read_items.Goals as goal

pub loop-at-init : goal.loop-at-init
loop-at-init c = so_far-start _ _ _ _ c.new-placed.ensures.items

pub loop-at-preserved : goal.loop-at-preserved
loop-at-preserved c =
    let there : c.wrap-address.result ≡ modulo_width c.args.bits (c.args.ip + c.loop-at.at) =
    c.wrap-address.ensures ∙ ap (λ n. modulo_width c.args.bits (n + c.loop-at.at)) c.from.ensures in
    let reads = rw c.split_at.ensures.back at c.in-Ok.ensures.reading in
    let sized = rw c.split_at.ensures.back at c.in-Ok.ensures.length in
    rw c.from-at.ensures (so_far-step c.wrapped_twice.ensures _ _ _ c.loop-at.at c.wrap-address.result c.loop-at.placed.items _ c.in-Ok.read _ c.loop-at.invariant there c.in-Ok-push.ensures.items refl sized.0 sized.1 sized.2 reads c.in-Ok.ensures.form)

pub invariant_of-result : goal.invariant_of-result
invariant_of-result c = so_far-sound c.wrapped_twice.ensures _ _ _ _ _ c.loop-at.invariant

pub returns : goal.returns
returns c = so_far-all _ _ _ c.loop-at.at c.loop-at.placed.items c.loop-at.invariant c.loop-at-test.false

pub returns-in-Err : goal.returns-in-Err
returns-in-Err c =
    let there : c.wrap-address.result ≡ modulo_width c.args.bits (c.args.ip + c.loop-at.at) =
    c.wrap-address.ensures ∙ ap (λ n. modulo_width c.args.bits (n + c.loop-at.at)) c.from.ensures in
    let reads = rw c.split_at.ensures.back at c.in-Err.ensures.reading in
    so_far-stops c.wrapped_twice.ensures _ _ _ c.loop-at.at c.wrap-address.result c.loop-at.placed.items _ c.loop-at.invariant there c.loop-at-test.true reads
