use Rattle.std.proofs.Common.{◌≡◌, true, false, List, ℕ, sym, ap, ◌∙◌, subst}
use Rattle.std.specs.Prelude.{bytes_eq, not}
use Rattle.assembly_text.specs.declared.text_error.AssembleError.{AssembleError}
use Rattle.assembly_text.specs.Placing.{view_of}
use Rattle.assembly_text.specs.Rounds.{places_of, IsNoRound}
use Rattle.assembly_text.proofs.Noting.{place_is}
use Rattle.assembly_text.proofs.Settling.{never_placed, same_again, other_again}
use Rattle.assembly_text.proofs.rounds.one_round.Goals as goal

pub returns-in-Err-finish_by-clause-told : goal.returns-in-Err-finish_by-clause-told
returns-in-Err-finish_by-clause-told c =
    let v = view_of c.args.round.now in
    let built = c.in-Ok.built in
    let place = place_is c.args.bits v built.routine built.trace built.origins.lines.items c.in-Ok.ensures.told c.in-Err-finish_by.why in
    subst (λ (e : AssembleError). IsNoRound c.args.slots c.args.bits v e) (sym c.unfinished.ensures)
    (built.routine, (built.trace, (c.in-Ok.ensures.told.0, (c.in-Err-finish_by.ensures, place))))

pub returns-then-not-built-clause-told : goal.returns-then-not-built-clause-told
returns-then-not-built-clause-told c =
    (c.in-Ok.built.routine, (c.in-Ok.built.trace, ((c.in-Ok.ensures.told.0, c.in-Ok-finish_by.ensures), never_placed c.in-Ok.built.trace _ _ (ap not c.if-not-built.true))))

pub returns-then-eq-clause-told : goal.returns-then-eq-clause-told
returns-then-eq-clause-told c =
    let before = c.args.round.now.places.now in
    let after = places_of c.in-Ok-finish_by.made c.args.round.now.base c.in-Ok.built.routine in
    let words = sym (c.as_slice.ensures.value ∙ c.in-Ok-places_of.ensures) in
    let same : bytes_eq after before ≡ true = ap (λ (x : List ℕ). bytes_eq x before) words ∙ (sym c.eq.ensures ∙ c.if-eq.true) in
    (c.in-Ok.built.routine, (c.in-Ok.built.trace, ((c.in-Ok.ensures.told.0, c.in-Ok-finish_by.ensures), same_again c.in-Ok.built.trace before after same)))

pub returns-clause-told : goal.returns-clause-told
returns-clause-told c =
    let before = c.args.round.now.places.now in
    let after = places_of c.in-Ok-finish_by.made c.args.round.now.base c.in-Ok.built.routine in
    let words = sym (c.as_slice.ensures.value ∙ c.in-Ok-places_of.ensures) in
    let other : bytes_eq after before ≡ false = ap (λ (x : List ℕ). bytes_eq x before) words ∙ (sym c.eq.ensures ∙ c.if-eq.false) in (
      c.in-Ok.built.routine,
      (
        c.in-Ok.built.trace,
        ((c.in-Ok.ensures.told.0, c.in-Ok-finish_by.ensures), (other_again c.in-Ok.built.trace before after (ap not c.if-not-built.false) other, c.in-Ok-places_of.ensures)),
      ),
    )
