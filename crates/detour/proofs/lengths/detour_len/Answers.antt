use Rattle.std.proofs.Common.{ℕ, subst, ap, ◌∙◌}
use Rattle.std.specs.Prelude.{IfOk}
use Rattle.x86_values.specs.Wrapping.{modulo_width}
use Rattle.detour.specs.Rules.{move_rule}
use Rattle.detour.specs.Lengths.{IsDetourLength}
use Rattle.detour.proofs.Enough.{enough_for, enough_plain}
use Rattle.detour.proofs.Bounded.{answer_short}
use Rattle.detour.proofs.lengths.detour_len.Goals as goal

is_length : goal.returns-clause-exact
is_length c =
    subst (λ (t : ℕ). IfOk c.len_under.result (λ n. IsDetourLength c.args.bits c.args.ip c.args.code.now t (move_rule c.args.rules) n))
    (c.wrap-to.ensures ∙ ap (modulo_width c.args.bits) c.from.ensures) c.len_under.ensures

pub returns-clause-exact : goal.returns-clause-exact
returns-clause-exact c = is_length c

pub returns-clause-enough : goal.returns-clause-enough
returns-clause-enough c = enough_for c.length_laws.ensures.below c.args.bits c.args.ip c.args.code.now c.args.to c.args.rules c.len_under.result (is_length c)

pub returns-clause-plain : goal.returns-clause-plain
returns-clause-plain c =
    λ stay. enough_plain c.length_laws.ensures.below c.args.bits c.args.ip c.args.code.now c.args.to c.args.rules stay c.len_under.result (is_length c)

pub returns-clause-short : goal.returns-clause-short
returns-clause-short c = answer_short c.length_laws.ensures c.args.bits c.args.ip c.args.code.now c.args.to c.args.rules c.len_under.result (is_length c)
