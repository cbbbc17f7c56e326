use Rattle.std.proofs.Common.{◌≡◌, ℕ, map, arith, ap, ◌∙◌}
use Rattle.std.specs.List.{range_with_len}
use Rattle.detour.specs.Starts.{place_at, places_to}
use Rattle.detour.proofs.Listed.{one_listed}
use Rattle.detour.proofs.starts.places_to.Goals as goal

pub items-preserved : goal.items-preserved
items-preserved c =
    one_listed (place_at c.args.addresses.now c.args.place) c.items.places.items c.push.new.self.items c.items.k
    c.place_at.result c.items.invariant c.in_ok-push.ensures.items c.place_at.ensures

pub returns : goal.returns
unfolding places_to
returns c =
    let all : c.items.k ≡ c.args.count = omega (arith, c.items-test.false, c.items.auto.k-end) in
    c.items.invariant ∙ ap (λ (n : ℕ). map (place_at c.args.addresses.now c.args.place) (range_with_len 0 n)) all
