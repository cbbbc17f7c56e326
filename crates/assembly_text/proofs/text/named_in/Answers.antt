use Rattle.std.proofs.Common.{◌≡◌, ℕ, List, inl, inr, true, false, Option, subst, sym, ◌∙◌, arith}
use Rattle.std.specs.Prelude.{MatchOption}
use Rattle.std.proofs.lemmas.Bool.{cases_lt}
use Rattle.x86_values.specs.declared.Instr.{Instr}
use Rattle.assembly_text.specs.Lines.{begins_name}
use Rattle.assembly_text.specs.Labels.{begins_label}
use Rattle.assembly_text.specs.Text.{IsNotNamed, IsAimedAt}
use Rattle.assembly_text.proofs.text.named_in.Goals as goal

pub places-preserved : goal.places-preserved
places-preserved c =
    let text = c.args.text.now in
    let here : begins_label text c.places.at ≡ true → IsNotNamed c.args.bits text c.places.at =
    subst (λ (o : Option Instr). MatchOption o (begins_label text c.places.at ≡ true → IsNotNamed c.args.bits text c.places.at)
    (λ i. (begins_label text c.places.at ≡ true) × IsAimedAt c.args.bits text c.places.at i)) c.in-None.is c.in_ok-found.ensures in
    λ j lt b. elim (cases_lt j c.places.at) [
      | inl less ↦ c.places.invariant j less b
      | inr past ↦
          let e : c.places.at ≡ j = omega arith in
          subst (λ (n : ℕ). begins_label text n ≡ true → IsNotNamed c.args.bits text n) e here b
    ]

-- no label begins where no name does
no_label : (text : List ℕ) (at : ℕ) → begins_name text at ≡ false → begins_label text at ≡ true → ⊥
unfolding begins_label
no_label text at none begins = cc

pub places-preserved-then-not-begins_name : goal.places-preserved-then-not-begins_name
places-preserved-then-not-begins_name c =
    let text = c.args.text.now in
    let here : begins_label text c.places.at ≡ true → IsNotNamed c.args.bits text c.places.at =
    λ b. absurd (no_label text c.places.at (sym c.begins_name.ensures ∙ c.if-not-begins_name.true) b) in
    λ j lt b. elim (cases_lt j c.places.at) [
      | inl less ↦ c.places.invariant j less b
      | inr past ↦
          let e : c.places.at ≡ j = omega arith in
          subst (λ (n : ℕ). begins_label text n ≡ true → IsNotNamed c.args.bits text n) e here b
    ]
