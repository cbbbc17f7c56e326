use Rattle.std.proofs.Common.{◌≡◌, ◌∙◌, sym, ap, subst, refl, IsTrue}
use Rattle.code_region.specs.State.{RegionState, len_in_units, gaps_of, live_block}
use Rattle.code_region.specs.Opening.{empty_region}
use Rattle.code_region.specs.Placing.{place_answer, after_place}
use Rattle.code_region.specs.Filling.{can_fill}
use Rattle.moving_tests.proofs.tests.region_tests.with_two_blocks.Goals as goal

-- the region after one refusal and two places has a live block at 16
two_live : IsTrue (can_fill (after_place (after_place (after_place (empty_region 0 64 2) 0) 1) 1) 16 1)
unfolding can_fill live_block after_place place_answer len_in_units gaps_of
two_live = refl

pub fill-requires : goal.fill-requires
fill-requires c =
    let P : RegionState → Type 0 = λ state. IsTrue (can_fill state 16 1) in
    let one : c.place-first.new.self ≡ after_place (after_place (empty_region 0 64 2) 0) 1 =
    c.place-first.ensures.state
    ∙ ap (λ state. after_place state 1)
    (c.place-empty.ensures.state ∙ ap (λ state. after_place state 0) c.in_ok-region.ensures.ok) in
    subst P (sym (c.place-second.ensures.state ∙ ap (λ state. after_place state 1) one)) two_live
