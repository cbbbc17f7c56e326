use Rattle.std.proofs.Common.{◌≤◌, length, not, ap, sym, ◌∙◌, arith}
use Rattle.std.proofs.lemmas.Bool.{and_from, le-leb}
use Rattle.detour.specs.Taken.{is_code_behind, moved_count, first_code_behind}
use Rattle.detour.proofs.taken.first_code_behind.Goals as goal

pub returns-then-not-is_padding-clause-value : goal.returns-then-not-is_padding-clause-value
unfolding first_code_behind
returns-then-not-is_padding-clause-value c =
    let behind : moved_count c.args.items.now ≤ c.items.k = omega (arith, c.moved_count-moved.ensures.value, c.items.auto.k) in
    sym (c.laws_below.ensures.firsts.first_below_hit (is_code_behind c.args.items.now) (length c.args.items.now) c.items.k c.items-test.true
    (and_from _ _ (le-leb (moved_count c.args.items.now) c.items.k behind) (ap not (sym c.is_padding.ensures ∙ c.if-not-is_padding.true))) c.items.invariant)
