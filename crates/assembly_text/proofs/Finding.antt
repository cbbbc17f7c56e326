-- Labels that are found by their names.
use Rattle.std.proofs.Common.{◌≡◌, ℕ, Bool, true, false, List, Option, Some, None, refl, sym, ap, ◌∙◌, bytes_eq}
use Rattle.std.specs.Prelude.{cond, if◌then◌else◌, is_some}
use Rattle.std.proofs.lemmas.Slice.Eq.{bytes_eq-Decides}
use Rattle.assembly_text.specs.Labels.{first_number}
use Rattle.assembly_text.proofs.Telling.{is_none}

-- behind a number stands none
pub first_none : (o : Option ℕ) → first_number o None ≡ o
first_none None = refl
first_none (Some n) = refl

-- a name that had no number has one
pub named_once : (b : Bool) (label name : List ℕ) (g : List ℕ → Option ℕ) (n : ℕ) (x : Option ℕ) → bytes_eq label name ≡ b
    → is_some (g label) ≡ false → x ≡ cond b (Some n) (g name) → x ≡ first_number (g name) (if b then Some n else None)
named_once true label name g n x same absent is =
    let itself : label ≡ name = (bytes_eq-Decides label name).0 same in
    let none : g name ≡ None = ap g (sym itself) ∙ is_none (g label) absent in
    is ∙ ap (λ (o : Option ℕ). first_number o (Some n)) (sym none)
named_once false label name g n x other absent is = is ∙ sym (first_none (g name))
