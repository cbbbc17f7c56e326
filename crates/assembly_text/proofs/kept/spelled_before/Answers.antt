use Rattle.std.proofs.Common.{◌∙◌, sym, ap, ℕ, List, arith, refl}
use Rattle.std.specs.Prelude.{bytes_eq}
use Rattle.assembly_text.proofs.Keeping.{spelled_line}
use Rattle.assembly_text.proofs.kept.spelled_before.Goals as goal

pub returns-then-eq : goal.returns-then-eq
returns-then-eq c =
    let words = c.as_slice.ensures.value in
    let same = ap (λ (x : List ℕ). bytes_eq x c.args.low.now) (sym words) ∙ (sym c.eq.ensures ∙ c.if-eq.true) in
    spelled_line c.args.bits c.kept.inside.bits c.args.base c.kept.inside.base c.kept.inside.spelled.items c.slot_of.result
    c.index.result.now c.in-Some.line c.args.low.now c.kept.invariant.in_lower_case (omega (arith, c.slot_of.ensures, c.len.ensures)) c.index.ensures c.in-Some.is
    (c.if-not-same_bits.ensures.equal.0 refl) (omega (arith, c.if-kept-base.false)) same
