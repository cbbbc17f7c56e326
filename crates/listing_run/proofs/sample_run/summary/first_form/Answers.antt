use Rattle.std.proofs.Common.{◌≡◌, List, [], ◌∷◌, Some, None, get_or, slice_get, refl, sym, ap}
use Rattle.branch_sizes.specs.declared.plan.Choice.{Choice}
use Rattle.branch_sizes.specs.declared.plan.Form.TheVariants.{Itself}
use Rattle.branch_sizes.specs.Plan.{no_choice}
use Rattle.listing_run.specs.SampleRun.Sample.{first_form}
use Rattle.listing_run.proofs.sample_run.summary.first_form.Goals as goal

first_of : (xs : List Choice) (x : Choice) → Some x ≡ slice_get xs 0 → get_or xs 0 no_choice ≡ x
first_of [] x e = cc
first_of (y ∷ xs) x e = cc

none_of : (xs : List Choice) → None ≡ slice_get xs 0 → Itself ≡ (get_or xs 0 no_choice).form
none_of [] e = refl
none_of (y ∷ xs) e = cc

pub returns-in-Some : goal.returns-in-Some
unfolding first_form
returns-in-Some c =
    let told = rw (c.deref.ensures.0, c.choices_of.ensures) at c.in-Some.ensures.value in
    ap (λ (x : Choice). x.form) (sym (first_of _ c.in-Some.choice.now told))

pub returns-in-None : goal.returns-in-None
unfolding first_form
returns-in-None c =
    let told = rw (c.deref.ensures.0, c.choices_of.ensures) at c.in-None.ensures.value in
    none_of _ told
