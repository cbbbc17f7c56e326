-- The characters of pieces one behind another, part by part.
use Rattle.std.proofs.Common.{◌≡◌, ℕ, Bool, true, false, List, [], ◌∷◌, ◌++◌, Option, Some, None, refl, ap, sym, ◌∙◌, append_assoc}
use Rattle.std.specs.Prelude.{if◌then◌else◌}
use Rattle.std.proofs.lemmas.List.{append-nil}
use Rattle.text_pieces.specs.Tokens.{Token, joined}

-- lists of pieces one behind the other
pub joined-append : (xs ys : List Token) → joined (xs ++ ys) ≡ joined xs ++ joined ys
joined-append [] ys = refl
joined-append (t ∷ ts) ys =
    ap (λ (zs : List ℕ). t.characters ++ zs) (joined-append ts ys) ∙ sym (append_assoc t.characters (joined ts) (joined ys))

-- two parts, each with its characters
pub joined-both : (xs ys : List Token) (a b : List ℕ) → joined xs ≡ a → joined ys ≡ b → joined (xs ++ ys) ≡ a ++ b
joined-both xs ys a b p q = joined-append xs ys ∙ ap (λ (c : List ℕ). c ++ joined ys) p ∙ ap (λ (c : List ℕ). a ++ c) q

-- a part that is there or not
pub joined-if : (b : Bool) (xs : List Token) (text : List ℕ) → joined xs ≡ text → joined (if b then xs else []) ≡ (if b then text else [])
joined-if true xs text h = h
joined-if false xs text h = refl

-- one part or another
pub joined-either : (b : Bool) (xs ys : List Token) (a c : List ℕ) → joined xs ≡ a → joined ys ≡ c → joined (if b then xs else ys) ≡ (if b then a else c)
joined-either true xs ys a c p q = p
joined-either false xs ys a c p q = q

-- a part that stands where a value is there
pub joined-option : {A : Type 0} (o : Option A) (xs : A → List Token) (text : A → List ℕ) → ((a : A) → joined (xs a) ≡ text a)
    → joined (elim o as (λ _. List Token) [ None ↦ [] | Some a ↦ xs a ]) ≡ (elim o as (λ _. List ℕ) [ None ↦ [] | Some a ↦ text a ])
joined-option None xs text h = refl
joined-option (Some a) xs text h = h a

-- nothing behind the last characters
pub nil-behind : (a b : List ℕ) → a ++ (b ++ []) ≡ a ++ b
nil-behind a b = ap (λ (c : List ℕ). a ++ c) (append-nil b)
