use Rattle.std.proofs.Common.{◌∙◌, sym, ap, ℕ, List, ◌++◌, ◌≡◌, refl, arith}
use Rattle.assembly_text.proofs.Keeping.{spelled_with, spelled_as}
use Rattle.assembly_text.proofs.kept.keep_spelled.Goals as goal

pub invariant_of-kept : goal.invariant_of-kept
invariant_of-kept c =
    let words : c.args.low.now ≡ c.try_extend_from_slice.new.self.items =
    sym (c.in-Ok.ensures.ok ∙ ap (λ (x : List ℕ). x ++ c.args.low.now) c.new-copy.ensures) in
    record {
      at_zero = c.kept.invariant.at_zero;
      in_lower_case = spelled_with c.kept.inside.bits c.kept.inside.base c.kept.inside.spelled.items c.slot_of-slot.result _
          (spelled_as c.args.bits c.kept.inside.bits c.args.base c.kept.inside.base c.args.low.now c.try_extend_from_slice.new.self.items c.args.code
          (sym (c.if-not-same_bits.ensures.equal.0 refl)) (omega (arith, c.if-kept-base.false)) words c.requires)
          c.kept.invariant.in_lower_case;
    }
