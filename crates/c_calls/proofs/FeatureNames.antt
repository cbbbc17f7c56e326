-- The names of features are short.
use Rattle.std.proofs.Common.{◌≡◌, ℕ, zero, suc, ◌≤◌, Bool, true, false, ◌&&◌, List, [], ◌∷◌, length, slice_get, Option, Some, None, refl, ap, sym, ◌∙◌}
use Rattle.std.specs.Prelude.{Ok, nat_le}
use Rattle.std.specs.List.{list_all}
use Rattle.std.proofs.lemmas.Bool.{leb-true}
use Rattle.c_calls.specs.Effects.{feature_names, feature_in, feature_answer}

and_first : (a b : Bool) → (a && b) ≡ true → a ≡ true
and_first true b h = refl
and_first false b h = h

and_second : (a b : Bool) → (a && b) ≡ true → b ≡ true
and_second true b h = h
and_second false b h = cc

abbrev is_short : List ℕ → Bool
is_short name = nat_le (length name) 10

short_at : (names : List (List ℕ)) (k : ℕ) (name : List ℕ) → list_all is_short names ≡ true → slice_get names k ≡ Some name → is_short name ≡ true
short_at [] k name h at = cc
short_at (x ∷ xs) zero name h at =
    let same : x ≡ name = cc in ap is_short (sym same) ∙ and_first (is_short x) (list_all is_short xs) h
short_at (x ∷ xs) (suc k) name h at = short_at xs k name (and_second (is_short x) (list_all is_short xs) h) at

all_short : list_all is_short feature_names ≡ true
all_short = refl

named : (o : Option (List ℕ)) (name : List ℕ) → feature_in o ≡ Ok name → o ≡ Some name
named None name h = cc
named (Some x) name h = cc

-- a name that is answered has at most 10 bytes
pub feature_short : (bit : ℕ) (name : List ℕ) → feature_answer bit ≡ Ok name → length name ≤ 10
unfolding feature_answer
feature_short bit name h = leb-true (length name) 10 (short_at feature_names bit name all_short (named (slice_get feature_names bit) name h))
