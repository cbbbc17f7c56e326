use Rattle.std.proofs.Common.{◌≡◌, ◌<◌, ◌≤◌, length, slice_get, Some, refl, ap, sym}
use Rattle.std.specs.Prelude.{unwrap_or}
use Rattle.std.proofs.lemmas.Bool.{ltb-true, ltb-false}
use Rattle.std.proofs.lemmas.Option.{slice_get_read, slice_get_past}
use Rattle.text_options.specs.declared.generated_gnu.TheConstants.{GNU_FORMS}
use Rattle.text_options.specs.GnuForms.{form_in, plain_form}
use Rattle.text_options.proofs.gnu_form.form_in.Goals as goal

pub returns-in-None : goal.returns-in-None
unfolding form_in
returns-in-None c =
    let past : length GNU_FORMS ≤ c.args.index = ltb-false c.args.index (length GNU_FORMS) (sym c.in-None.ensures.lookup.0) in
    sym (ap (λ o. unwrap_or o plain_form) (slice_get_past GNU_FORMS c.args.index past))

pub returns-in-Some : goal.returns-in-Some
unfolding form_in
returns-in-Some c =
    let lt : c.args.index < length GNU_FORMS = ltb-true c.args.index (length GNU_FORMS) (sym c.in-Some.ensures.lookup.0) in
    let here : slice_get GNU_FORMS c.args.index ≡ Some c.in-Some.form.now = slice_get_read GNU_FORMS (length GNU_FORMS) c.args.index c.in-Some.form.now refl lt c.in-Some.ensures.lookup.1 in
    sym (ap (λ o. unwrap_or o plain_form) here)
