use Rattle.std.proofs.Common.{◌≡◌, ℕ, map, arith, ap, ◌∙◌}
use Rattle.std.specs.List.{range_with_len}
use Rattle.detour.specs.Taken.{offset_at}
use Rattle.detour.specs.Starts.{starts_to}
use Rattle.detour.proofs.Listed.{one_listed}
use Rattle.detour.proofs.starts.starts_to.Goals as goal

pub items-preserved : goal.items-preserved
items-preserved c =
    one_listed (offset_at c.args.items.now) c.items.starts.items c.push.new.self.items c.items.k c.start_at.result
    c.items.invariant c.in_ok-push.ensures.items c.start_at.ensures

pub returns : goal.returns
unfolding starts_to
returns c =
    let all : c.items.k ≡ c.args.count = omega (arith, c.items-test.false, c.items.auto.k-end) in
    c.items.invariant ∙ ap (λ (n : ℕ). map (offset_at c.args.items.now) (range_with_len 0 n)) all
