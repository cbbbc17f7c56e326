use Rattle.std.proofs.Common.{◌≡◌, ℕ, ◌<◌, ◌≤◌, List, [], length, slice_get, Some, Bor, refl, ap, sym, ◌∙◌}
use Rattle.std.specs.Prelude.{unwrap_or, option_map}
use Rattle.std.proofs.lemmas.Bool.{ltb-true, ltb-false}
use Rattle.std.proofs.lemmas.Option.{slice_get-map, slice_get_read, slice_get_past}
use Rattle.text_options.specs.GnuForms.{own_name}
use Rattle.text_options.proofs.gnu_form.own_name.Goals as goal

abbrev bytes_of : Bor (List ℕ) → List ℕ
bytes_of name = name.now

pub returns-in-None : goal.returns-in-None
unfolding own_name
returns-in-None c =
    let names = c.own_names.result.now in
    let past : length names ≤ c.args.n = ltb-false c.args.n (length names) (sym c.in-None.ensures.lookup.0) in
    sym (ap (λ o. unwrap_or o []) (ap (λ l. slice_get l c.args.n) (sym c.own_names.ensures)
    ∙ (slice_get-map bytes_of names c.args.n ∙ ap (λ o. option_map bytes_of o) (slice_get_past names c.args.n past))))

pub returns-in-Some : goal.returns-in-Some
unfolding own_name
returns-in-Some c =
    let names = c.own_names.result.now in
    let lt : c.args.n < length names = ltb-true c.args.n (length names) (sym c.in-Some.ensures.lookup.0) in
    let here : slice_get names c.args.n ≡ Some c.in-Some.name.now = slice_get_read names (length names) c.args.n c.in-Some.name.now refl lt c.in-Some.ensures.lookup.1 in
    c.as_bytes.ensures.value
    ∙ sym (ap (λ o. unwrap_or o []) (ap (λ l. slice_get l c.args.n) (sym c.own_names.ensures)
    ∙ (slice_get-map bytes_of names c.args.n ∙ ap (λ o. option_map bytes_of o) here)))
