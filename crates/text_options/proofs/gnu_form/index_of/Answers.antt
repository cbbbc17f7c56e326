use Rattle.std.proofs.Common.{◌≡◌, ◌<◌, ◌≤◌, length, slice_get, Some, refl, ap, sym}
use Rattle.std.specs.Prelude.{unwrap_or}
use Rattle.std.proofs.lemmas.Bool.{ltb-true, ltb-false}
use Rattle.std.proofs.lemmas.Option.{slice_get_read, slice_get_past}
use Rattle.text_options.specs.declared.generated_gnu.TheConstants.{GNU_INDEXES}
use Rattle.text_options.specs.GnuForms.{index_of}
use Rattle.text_options.proofs.gnu_form.index_of.Goals as goal

pub returns-in-None : goal.returns-in-None
unfolding index_of
returns-in-None c =
    let past : length GNU_INDEXES ≤ c.args.code.0 = ltb-false c.args.code.0 (length GNU_INDEXES) (sym c.in-None.ensures.lookup.0) in
    sym (ap (λ o. unwrap_or o 0) (slice_get_past GNU_INDEXES c.args.code.0 past))

pub returns-in-Some : goal.returns-in-Some
unfolding index_of
returns-in-Some c =
    let lt : c.args.code.0 < length GNU_INDEXES = ltb-true c.args.code.0 (length GNU_INDEXES) (sym c.in-Some.ensures.lookup.0) in
    let here : slice_get GNU_INDEXES c.args.code.0 ≡ Some c.in-Some.index.now = slice_get_read GNU_INDEXES (length GNU_INDEXES) c.args.code.0 c.in-Some.index.now refl lt c.in-Some.ensures.lookup.1 in
    sym (ap (λ o. unwrap_or o 0) here)
