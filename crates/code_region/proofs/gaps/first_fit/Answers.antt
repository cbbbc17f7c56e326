use Rattle.std.proofs.Common.{◌≡◌, ◌-◌, ◌≤◌, ◌<◌, ℕ, ◌∙◌, sym, ap, arith, rules, length, take, drop, subst, refl}
use Rattle.code_region.specs.Keeping.{AreApart, AreJoined}
use Rattle.code_region.specs.Gaps.{gaps_between, first_gap, longest}
use Rattle.code_region.specs.Searching.{gap_span_at, end_from}
use Rattle.code_region.proofs.Apart.{AreApart-drop, AreApart-le, AreApart-raise, end_from-take, first_gap-skip, longest-skip, max-step, fit-here, next_start-at, next_start-end}
use Rattle.code_region.proofs.Joined.{joined-start, joined-more, tight-insert}
use Rattle.code_region.proofs.gaps.first_fit.Goals as goal

pub end_of-from-requires-clause-apart : goal.end_of-from-requires-clause-apart
end_of-from-requires-clause-apart c = AreApart-raise 0 c.args.limit _ c.args.spans.now (omega arith) c.requires.apart

pub loop-index-init : goal.loop-index-init
loop-index-init c =
    let tight = c.requires.tight in
    let starts = joined-start 0 c.args.limit c.args.needed c.args.packed c.args.spans.now c.requires.apart tight.within tight.joined c.requires.some in
    let A : ℕ → Type 0 = λ n. AreApart n c.args.limit (drop c.args.packed c.args.spans.now) in
    record {
      within = tight.within;
      apart = subst A (sym c.end_of-from.ensures) starts.apart;
      front = sym c.end_of-from.ensures;
      first = starts.first ∙ ap (λ n. first_gap c.args.needed (gaps_between n c.args.limit (drop c.args.packed c.args.spans.now))) (sym c.end_of-from.ensures);
      long = (let e = starts.long ∙ ap (λ n. longest (gaps_between n c.args.limit (drop c.args.packed c.args.spans.now))) (sym c.end_of-from.ensures) in omega arith);
      all = λ none. tight.joined;
    }

pub returns-then-needed-from : goal.returns-then-needed-from
returns-then-needed-from c =
    let i = c.loop-index.index in
    let inv = c.loop-index.invariant in
    fit-here c.args.limit c.args.needed i c.loop-index.from _ _ c.args.spans.now inv.within (next_start-at c.args.limit i c.args.spans.now c.loop-index-test.true)
    inv.front inv.first c.requires.some (omega arith)
    (tight-insert c.args.packed i c.loop-index.largest c.loop-index.from _ c.args.spans.now _ c.requires.tight (omega arith) inv.within inv.all inv.front refl c.packed_with.ensures)

pub overflow_add-from : goal.overflow_add-from
overflow_add-from c =
    let here = AreApart-drop _ c.args.limit c.args.spans.now c.loop-index.index c.loop-index-test.true c.loop-index.invariant.apart in
    let below = AreApart-le _ _ _ here.2 in
    search rules

pub loop-index-preserved : goal.loop-index-preserved
loop-index-preserved c =
    let i = c.loop-index.index in
    let inv = c.loop-index.invariant in
    let here = AreApart-drop _ c.args.limit c.args.spans.now i c.loop-index-test.true inv.apart in
    let short : (gap_span_at c.args.spans.now i).start - c.loop-index.from < c.args.needed = omega arith in
    record {
      within = omega arith;
      apart = here.2;
      front = end_from-take 0 c.args.spans.now i c.loop-index-test.true;
      first = inv.first ∙ first_gap-skip _ c.args.limit c.args.needed i c.args.spans.now c.loop-index-test.true short;
      long = let skip = longest-skip c.loop-index.from c.args.limit i c.args.spans.now c.loop-index-test.true in
          max-step _ _ _ _ _ _ inv.long skip c.max-largest.ensures;
      all = λ none. joined-more c.loop-index.from c.args.limit i c.args.spans.now (inv.all (omega arith)) c.loop-index-test.true inv.front here.0 (omega arith);
    }

pub returns-then-needed-from-2 : goal.returns-then-needed-from-2
returns-then-needed-from-2 c =
    let inv = c.loop-index.invariant in
    let n : ℕ = length c.args.spans.now in
    let e : c.loop-index.index ≡ n = omega arith in
    let F : ℕ → Type 0 = λ i. end_from 0 (take i c.args.spans.now) ≡ c.loop-index.from in
    let G : ℕ → Type 0 = λ i. first_gap c.args.needed (gaps_between 0 c.args.limit c.args.spans.now) ≡
    first_gap c.args.needed (gaps_between c.loop-index.from c.args.limit (drop i c.args.spans.now)) in
    let J : ℕ → Type 0 = λ i. AreJoined 0 (take i c.args.spans.now) in
    let within : n ≤ length c.args.spans.now = omega arith in
    fit-here c.args.limit c.args.needed n c.loop-index.from _ _ c.args.spans.now within (next_start-end c.args.limit c.args.spans.now)
    (subst F e inv.front) (subst G e inv.first) c.requires.some (omega arith)
    (tight-insert c.args.packed n c.loop-index.largest c.loop-index.from _ c.args.spans.now _ c.requires.tight (omega arith) within
    (λ none. subst J e (inv.all none)) (subst F e inv.front) refl c.packed_with-then-needed-from-2.ensures)
