use Rattle.std.proofs.Common.{◌∷◌, ◌++◌, ◌+◌, ◌<◌, [], List, ℕ, length, refl, ap, sym, ◌∙◌, arith}
use Rattle.branch_sizes.specs.Layout.{span_at}
use Rattle.c_calls.specs.declared.flat.FlatPlace.{FlatPlace}
use Rattle.c_calls.specs.Blocks.{places}
use Rattle.c_calls.proofs.CodeLengths.{block_within}
use Rattle.c_calls.proofs.BlockPlaces.{places-none, places-more, next_first}
use Rattle.c_calls.proofs.block_places.places_of.Goals as goal

pub each-init : goal.each-init
each-init c = (c.new-list.ensures.items ∙ sym (places-none c.args.bits c.args.spans.now c.args.items.now c.args.moved.now), refl)

pub each-preserved : goal.each-preserved
each-preserved c = (
  c.in_ok-push.ensures.items
      ∙ (ap (λ (xs : List FlatPlace). xs ++ c.place_at.result ∷ []) c.each.invariant.0
      ∙ (ap (λ (p : FlatPlace). places c.args.bits c.args.spans.now c.args.items.now c.args.moved.now c.each.b ++ p ∷ []) c.place_at.ensures
      ∙ sym (places-more c.args.bits c.args.spans.now c.args.items.now c.args.moved.now c.each.b))),
  ap (λ (n : ℕ). n + (span_at c.args.spans.now c.each.b).count) c.each.invariant.1 ∙ sym (next_first c.args.spans.now c.each.b),
)

pub overflow_add-first : goal.overflow_add-first
overflow_add-first c =
    let inside : c.each.b < length c.args.spans.now = omega arith in
    omega (arith, c.each.invariant.1, block_within c.args.items.now c.args.spans.now c.requires.spans c.each.b inside)
