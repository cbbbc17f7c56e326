use Rattle.std.proofs.Common.{inl, inr, Option, ℕ, None, length, not, ap, sym, ◌∙◌, arith}
use Rattle.std.proofs.lemmas.Bool.{cases_lt}
use Rattle.std.proofs.lemmas.List.{get_or_past}
use Rattle.code_assembler.specs.Routine.{is_aimed, aim_at, first_unplaced}
use Rattle.code_assembler.proofs.finishing.first_unplaced.Goals as goal

pub returns-then-not-is_aimed : goal.returns-then-not-is_aimed
unfolding first_unplaced
returns-then-not-is_aimed c =
    sym (c.laws_below.ensures.firsts.first_below_hit (λ k. not (is_aimed c.args.labels.now c.args.count (aim_at c.args.aims.now k)))
    c.args.count c.aims.k (omega (arith, c.aims-test.true, c.requires)) (ap not (sym c.is_aimed.ensures ∙ c.if-not-is_aimed.true)) c.aims.invariant)

pub returns : goal.returns
unfolding first_unplaced
returns c =
    sym (c.laws_below.ensures.firsts.first_below_none (λ k. not (is_aimed c.args.labels.now c.args.count (aim_at c.args.aims.now k))) c.args.count (λ j lt.
    elim (cases_lt j (length c.args.aims.now)) [
      | inl below ↦ c.aims.invariant j (omega (arith, c.aims-test.false, below))
      | inr past ↦ ap (λ (o : Option ℕ). not (is_aimed c.args.labels.now c.args.count o)) (get_or_past c.args.aims.now j None past)
    ]))
