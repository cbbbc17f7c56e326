use Rattle.std.proofs.Common.{◌≡◌, ◌<◌, ◌≤◌, ◌∙◌, ℕ, List, subst, sym, length, inl, inr, refl, arith}
use Rattle.std.proofs.lemmas.Bool.Decides.{nat_tests}
use Rattle.assembly_text.specs.Constants.{resolved}
use Rattle.assembly_text.specs.Placing.{view_of}
use Rattle.assembly_text.specs.Text.{AddsWords, RefusesWords, AddsBody, RefusesBody}
use Rattle.assembly_text.proofs.Resolving.{unnamed_text}
use Rattle.assembly_text.proofs.Telling.{told_more}
use Rattle.assembly_text.proofs.text.add_body.Goals as goal

pub returns-then-is_empty-clause-told : goal.returns-then-is_empty-clause-told
unfolding AddsBody
returns-then-is_empty-clause-told c =
    let none : length c.args.body.now ≡ 0 = grind (arith, nat_tests, c.is_empty.ensures, c.if-is_empty.true) in
    inl (none, (refl, refl))

pub returns-then-is_empty-2-clause-told : goal.returns-then-is_empty-2-clause-told
unfolding AddsBody RefusesBody
returns-then-is_empty-2-clause-told c =
    let some : 0 < length c.args.body.now = grind (arith, nat_tests, c.is_empty.ensures, c.if-is_empty.false) in
    let none : length c.args.round.now.names.now ≤ 0 = grind (arith, nat_tests, c.is_empty-2.ensures, c.if-is_empty-2.true) in
    let v = view_of c.args.round.now in
    let words : c.args.body.now ≡ resolved v.names c.args.body.now = sym (unnamed_text c.args.round.now.names.now c.args.body.now none) in
    told_more c.add_words.result _ _ _ _
    (λ h. inr (some, subst (λ (x : List ℕ). AddsWords v x c.args.routine.now c.args.trace.now c.add_words.new.routine c.add_words.new.trace) words h))
    (λ w h. (some, subst (λ (x : List ℕ). RefusesWords v x c.args.routine.now c.args.trace.now w) words h))
    c.add_words.ensures.told

pub returns-clause-told : goal.returns-clause-told
unfolding AddsBody RefusesBody
returns-clause-told c =
    let some : 0 < length c.args.body.now = grind (arith, nat_tests, c.is_empty.ensures, c.if-is_empty.false) in
    let v = view_of c.args.round.now in
    let words : c.deref.result.now ≡ resolved v.names c.args.body.now = c.deref.ensures.value ∙ c.in_ok-words.ensures in
    told_more c.add_words-2.result _ _ _ _
    (λ h. inr (some, subst (λ (x : List ℕ). AddsWords v x c.args.routine.now c.args.trace.now c.add_words-2.new.routine c.add_words-2.new.trace) words h))
    (λ w h. (some, subst (λ (x : List ℕ). RefusesWords v x c.args.routine.now c.args.trace.now w) words h))
    c.add_words-2.ensures.told
