use Rattle.std.proofs.Common.{◌≡◌, ◌+◌, ap, ◌∙◌}
use Rattle.x86_values.specs.Wrapping.{modulo_width}
use Rattle.code_items.proofs.AnySoFar.{so_far-start, so_far-step, so_far-all, so_far-stops}
use Rattle.code_items.proofs.any_items.read_any_items.Goals as goal

pub loop-at-init : goal.loop-at-init
loop-at-init c = so_far-start _ _ _ _ c.new-items.ensures.items

pub returns : goal.returns
returns c = so_far-all _ _ _ c.loop-at.at c.loop-at.items.items c.loop-at.invariant c.loop-at-test.false

pub returns-in-Err : goal.returns-in-Err
returns-in-Err c =
    let there : c.wrap-address.result ≡ modulo_width c.args.bits (c.args.ip + c.loop-at.at) =
    c.wrap-address.ensures ∙ ap (λ n. modulo_width c.args.bits (n + c.loop-at.at)) c.from.ensures in
    let none = rw c.split_at.ensures.back at c.in-Err.ensures.answer in
    so_far-stops c.wrapped_twice.ensures _ _ _ c.loop-at.at c.wrap-address.result c.loop-at.items.items _ c.loop-at.invariant there c.loop-at-test.true none

pub loop-at-preserved : goal.loop-at-preserved
loop-at-preserved c =
    let there : c.wrap-address.result ≡ modulo_width c.args.bits (c.args.ip + c.loop-at.at) =
    c.wrap-address.ensures ∙ ap (λ n. modulo_width c.args.bits (n + c.loop-at.at)) c.from.ensures in
    let first = rw c.split_at.ensures.back at c.in-Ok.ensures.answer in
    so_far-step c.wrapped_twice.ensures _ _ _ c.loop-at.at (c.loop-at.at + c.from-at.result) c.wrap-address.result c.loop-at.items.items _ c.in-Ok.item c.loop-at.invariant
    there c.in-Ok-push.ensures.items (ap (λ n. c.loop-at.at + n) (c.from-at.ensures ∙ c.item_len.ensures)) first
