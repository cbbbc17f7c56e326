use Rattle.std.proofs.Common.{◌≡◌, ℕ, ◌<◌, ◌≤◌, List, [], ◌∷◌, length, map, slice_get, Option, Some, None, refl, ap, sym, ◌∙◌, arith}
use Rattle.std.specs.Prelude.{option_map}
use Rattle.std.proofs.lemmas.Bool.{ltb-true, ltb-false}
use Rattle.std.proofs.lemmas.Option.{slice_get-map, slice_get_read, slice_get_past}
use Rattle.std.proofs.lemmas.List.{length-map}
use Rattle.bitflags.specs.declared.traits.Flag.{Flag}
use Rattle.instruction_info.specs.declared.features.Features.{Features}
use Rattle.c_calls.specs.Effects.{feature_names, feature_in, feature_answer}
use Rattle.c_calls.proofs.effects.name_of_feature.Goals as goal

abbrev name_of : Flag Features → List ℕ
name_of f = f.name.now

abbrev row_of : Flag Features → List ℕ × ℕ
row_of f = (f.name.now, f.value.0)

abbrev first_of : List ℕ × ℕ → List ℕ
first_of row = row.0

-- the names of flags are the first parts of their rows
firsts : (flags : List (Flag Features)) → map first_of (map row_of flags) ≡ map name_of flags
firsts [] = refl
firsts (f ∷ fs) = ap (λ (l : List (List ℕ)). f.name.now ∷ l) (firsts fs)

pub returns-in-Some : goal.returns-in-Some
unfolding feature_answer
returns-in-Some c =
    let flags = c.flags.result.now in
    let bit = c.args.bit in
    let names : map name_of flags ≡ feature_names = sym (firsts flags) ∙ ap (map first_of) (c.flags.ensures tt) in
    let lt : bit < length flags = ltb-true bit (length flags) (sym c.in-Some.ensures.lookup.0) in
    let here : slice_get flags bit ≡ Some c.in-Some.feature.now = slice_get_read flags (length flags) bit c.in-Some.feature.now refl lt c.in-Some.ensures.lookup.1 in
    let named : slice_get (map name_of flags) bit ≡ Some (name_of c.in-Some.feature.now) = slice_get-map name_of flags bit ∙ ap (λ o. option_map name_of o) here in
    ap feature_in (ap (λ l. slice_get l bit) (sym names) ∙ (named ∙ ap Some (sym c.name.ensures)))

pub returns-in-None : goal.returns-in-None
unfolding feature_answer
returns-in-None c =
    let flags = c.flags.result.now in
    let names : map name_of flags ≡ feature_names = sym (firsts flags) ∙ ap (map first_of) (c.flags.ensures tt) in
    let past : length flags ≤ c.args.bit = ltb-false c.args.bit (length flags) (sym c.in-None.ensures.lookup.0) in
    let same : length feature_names ≡ length flags = ap length (sym names) ∙ length-map flags name_of in
    ap feature_in (slice_get_past feature_names c.args.bit (omega (arith, past, same)))
