use Rattle.std.proofs.Common.{◌≡◌, ◌≤◌, length, arith, ap, sym, subst, ◌∙◌}
use Rattle.std.proofs.lemmas.List.{get_or_default}
use Rattle.branch_sizes.specs.Plan.{plan_of}
use Rattle.branch_sizes.specs.Layout.{first_layout, image_length}
use Rattle.branch_sizes.proofs.Rising.{image_short}
use Rattle.branch_sizes.proofs.Filling.{pushed, pushed_len, first_image, first_choice}
use Rattle.branch_sizes.proofs.worklist.first_lengths.Goals as goal

pub image_len-requires : goal.image_len-requires
image_len-requires c =
    (first_choice c.args.spans.now c.args.items.now c.requires c.lengths.k c.index-items-k.result
    c.lengths-test.true c.index-items-k.is).0

pub lengths-preserved : goal.lengths-preserved
lengths-preserved c =
    let p = plan_of c.args.spans.now c.args.items.now in
    let xs = c.lengths.lens.items in
    let ys = c.push.new.self.items in
    let n = c.image_len.result in
    let x = c.index-items-k.result in
    let is = c.image_len.ensures
    ∙ first_image c.args.spans.now c.args.items.now c.lengths.k x c.lengths-test.true c.index-items-k.is in
    let some = first_choice c.args.spans.now c.args.items.now c.requires c.lengths.k x
    c.lengths-test.true c.index-items-k.is in
    let low : 1 ≤ n = omega (arith, some.1, c.image_len.ensures) in
    let high : n ≤ 15 = omega (arith, is, image_short p c.requires (first_layout p) c.lengths.k) in
    record {
      len = omega (arith, pushed_len xs ys n c.in_ok-push.ensures.items, c.lengths.invariant.len);
      each = pushed (λ i v. v ≡ image_length p (first_layout p) i) xs ys n c.in_ok-push.ensures.items
          (subst (λ i. n ≡ image_length p (first_layout p) i) (sym c.lengths.invariant.len) is)
          c.lengths.invariant.each;
      fit = pushed (λ i v. (1 ≤ v) × (v ≤ 15)) xs ys n c.in_ok-push.ensures.items (low, high) c.lengths.invariant.fit;
    }

pub returns-clause-lengths : goal.returns-clause-lengths
returns-clause-lengths c = record {
  len = omega (arith, c.lengths.invariant.len, c.lengths-test.false, c.lengths.auto.k-end);
  each = λ k lt. c.lengths.invariant.each k (omega (arith, lt, c.lengths.invariant.len, c.lengths-test.false));
}

pub lengths-init : goal.lengths-init
lengths-init c =
    let none = ap length c.in_ok-lens.ensures.items in
    record {
      len = none;
      each = λ i lt. absurd (omega (arith, lt, none));
      fit = λ i lt. absurd (omega (arith, lt, none));
    }

pub returns-clause-fit : goal.returns-clause-fit
returns-clause-fit c =
    λ k d lt. subst (λ v. (1 ≤ v) × (v ≤ 15)) (get_or_default c.lengths.lens.items k 0 d lt)
    (c.lengths.invariant.fit k lt)
