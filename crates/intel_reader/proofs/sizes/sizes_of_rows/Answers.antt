use Rattle.std.proofs.Common.{◌≡◌, inl, inr, ℕ, true, false, ap, sym, ◌∙◌, arith, slice_get}
use Rattle.intel_reader.specs.Buckets.{order}
use Rattle.intel_reader.specs.Possible.{class_at}
use Rattle.intel_reader.proofs.Choosing.{last_or_below}
use Rattle.intel_reader.proofs.SizeSets.{has-none}
use Rattle.intel_reader.proofs.sizes.sizes_of_rows.Goals as goal

clash : true ≡ false → ⊥
clash h = cc

pub loop-index-init : goal.loop-index-init
loop-index-init c = record {
  all = λ size s k from to at. absurd (omega (from, to, arith));
  only = λ size h. absurd (clash (sym h ∙ has-none size));
}

pub loop-index-preserved : goal.loop-index-preserved
loop-index-preserved c = record {
  all = λ size s k from to at.
      elim (last_or_below k c.loop-index.index (omega (to, arith))) [
        | inl e ↦ c.insert_at.ensures.added size (record {
          code = s.code;
          row = s.row;
          below = s.below;
          at = ap (λ (j : ℕ). slice_get order j) (sym e) ∙ at;
          row_is = s.row_is;
          named = s.named;
          sized = s.sized;
        })
        | inr less ↦ c.insert_at.ensures.kept size (c.loop-index.invariant.all size s k from less at)
      ];
  only = λ size h.
      elim (c.insert_at.ensures.only size h) [
        | inl k ↦ c.loop-index.invariant.only size k
        | inr s ↦ record {
          code = s.code;
          row = s.row;
          below = s.below;
          row_is = s.row_is;
          named = s.named;
          takes = sym (c.takes_at.ensures c.args.bits (class_at c.args.words.now 0) (class_at c.args.words.now 1) (class_at c.args.words.now 2)
              (class_at c.args.words.now 3) s.code s.row c.asked_by-asked.ensures s.at s.row_is) ∙ c.if-not-takes_at.false;
          sized = s.sized;
        }
      ];
}

pub loop-index-preserved-then-not-takes_at : goal.loop-index-preserved-then-not-takes_at
loop-index-preserved-then-not-takes_at c = record {
  all = λ size s k from to at.
      elim (last_or_below k c.loop-index.index (omega (to, arith))) [
        | inl e ↦ absurd (clash (sym s.takes ∙ (sym (c.takes_at.ensures c.args.bits (class_at c.args.words.now 0) (class_at c.args.words.now 1)
            (class_at c.args.words.now 2) (class_at c.args.words.now 3) s.code s.row c.asked_by-asked.ensures
            (ap (λ (j : ℕ). slice_get order j) (sym e) ∙ at) s.row_is) ∙ c.if-not-takes_at.true)))
        | inr less ↦ c.loop-index.invariant.all size s k from less at
      ];
  only = c.loop-index.invariant.only;
}

pub returns : goal.returns
returns c = λ size. (
  λ h. c.loop-index.invariant.only size h,
  λ s.
      let at = c.indices_of-indices.ensures.found s.code s.below s.named in
      c.loop-index.invariant.all size s at.0 at.1 (omega (arith, at.2, c.loop-index-test.false)) at.3,
)
