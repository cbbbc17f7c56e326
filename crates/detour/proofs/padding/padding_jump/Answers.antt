use Rattle.std.proofs.Common.{ℕ, Option, None, subst, sym}
use Rattle.detour.specs.Jumps.{IsOutOfReach}
use Rattle.detour.specs.PaddingParts.{IsPaddingJumpAnswer}
use Rattle.detour.proofs.Padded.{relay_chosen, none_chosen}
use Rattle.detour.proofs.padding.padding_jump.Goals as goal

pub returns-in-Some-behind : goal.returns-in-Some-behind
returns-in-Some-behind c =
    let a = c.args in
    let far : IsOutOfReach a.bits a.at a.to = c.in-None.ensures.answer in
    subst (λ (b : Option ℕ). IsPaddingJumpAnswer a.bits a.at a.to b c.relay_jump.result) (sym c.in-Some-behind.is)
    (relay_chosen c.laws_below.ensures a.bits a.at a.to c.requires far c.in-Some-behind.address c.relay_jump.result c.relay_jump.ensures.answer)

pub returns-in-None-behind : goal.returns-in-None-behind
returns-in-None-behind c =
    let a = c.args in
    let far : IsOutOfReach a.bits a.at a.to = c.in-None.ensures.answer in
    subst (λ (b : Option ℕ). IsPaddingJumpAnswer a.bits a.at a.to b None) (sym c.in-None-behind.is)
    (none_chosen c.laws_below.ensures a.bits a.at a.to c.requires far)
