use Rattle.std.proofs.Common.{◌≡◌, ◌+◌, ◌-◌, ℕ, List, length, take, drop, take_all, length-drop, arith, ap, subst, ◌∙◌}
use Rattle.x86_values.specs.Wrapping.{modulo_width}
use Rattle.code_items.specs.AnyItems.{AnyFirst}
use Rattle.detour.proofs.AnyFront.{item_of}
use Rattle.detour.proofs.any_taken.any_item.Goals as goal

pub returns-in-Ok : goal.returns-in-Ok
returns-in-Ok c =
    let rest = drop c.args.offset c.args.code.now in
    let n = length c.args.code.now - c.args.offset in
    let all : take n rest ≡ rest = take_all n rest (omega (arith, length-drop c.args.offset c.args.code.now)) in
    let is : c.wrap-at.result ≡ modulo_width c.args.bits (c.args.ip + c.args.offset) =
    c.wrap-at.ensures ∙ ap (λ (m : ℕ). modulo_width c.args.bits (m + c.args.offset)) c.from.ensures in
    item_of c.laws_below.ensures c.args.bits c.args.ip c.args.code.now c.args.offset c.wrap-at.result c.in-Ok.item is (c.has_filler.ensures c.if-not-has_filler.false)
    (subst (λ (bs : List ℕ). AnyFirst c.args.bits c.wrap-at.result bs c.in-Ok.item) all c.in-Ok.ensures.answer) c.in-Ok.ensures.formed (omega (arith, c.requires))
