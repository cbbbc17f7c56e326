use Rattle.std.proofs.Common.{rules, arith, ◌≡◌, ◌+◌, ◌-◌, ap, sym, ◌∙◌, take}
use Rattle.code_region.specs.Searching.{end_from}
use Rattle.code_region.proofs.Apart.{AreApart-at, end_from-take}
use Rattle.code_region.proofs.gaps.end_of.Goals as goal

pub overflow_add-result : goal.overflow_add-result
overflow_add-result c =
    let at = AreApart-at 0 _ c.args.spans.now (c.args.count - 1) c.requires.apart (omega arith) in
    search rules

pub returns : goal.returns
returns c =
    let e : c.args.count - 1 + 1 ≡ c.args.count = omega arith in
    sym (end_from-take 0 c.args.spans.now (c.args.count - 1) (omega arith)) ∙ ap (λ n. end_from 0 (take n c.args.spans.now)) e
