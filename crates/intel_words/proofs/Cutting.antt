-- Where words and operands end.
use Rattle.std.proofs.Common.{◌≡◌, ℕ, suc, ◌+◌, Bool, true, false, cond, List, [], ◌∷◌, ◌++◌, take, drop, refl, ap, ◌∙◌, append-nil, arith}
use Rattle.std.specs.Prelude.{if◌then◌else◌}
use Rattle.std.specs.List.{list_all, prefix_len}
use Rattle.std.proofs.lemmas.Bool.{and_from, and_parts}
use Rattle.intel_words.specs.Scanning.{front_while, back}

-- ---- choices

-- a choice by a test that fails
pub if-no : {A : Type 0} (b : Bool) (x y : A) → b ≡ false → (if b then x else y) ≡ y
if-no true x y h = absurd cc
if-no false x y h = refl

-- a choice by a test that holds
pub if-yes : {A : Type 0} (b : Bool) (x y : A) → b ≡ true → (if b then x else y) ≡ x
if-yes true x y h = refl
if-yes false x y h = absurd cc

-- ---- front and back by the number of bytes that pass

front-step : (b : Bool) (c : ℕ) (cs r : List ℕ) (n : ℕ) → r ≡ take n cs → (if b then c ∷ r else []) ≡ take (cond b (1 + n) 0) (c ∷ cs)
front-step true c cs r n e = let s : 1 + n ≡ suc n = omega arith in rw s (ap (λ (t : List ℕ). c ∷ t) e)
front-step false c cs r n e = refl

-- the longest front that passes a test, as a number of items taken
pub front-take : (p : ℕ → Bool) (xs : List ℕ) → front_while p xs ≡ take (prefix_len p xs) xs
unfolding front_while
front-take p [] = refl
front-take p (c ∷ cs) = front-step (p c) c cs (front_while p cs) (prefix_len p cs) (front-take p cs)

back-step : (b : Bool) (c : ℕ) (cs r : List ℕ) (n : ℕ) → r ≡ drop n cs → (if b then r else c ∷ cs) ≡ drop (cond b (1 + n) 0) (c ∷ cs)
back-step true c cs r n e = let s : 1 + n ≡ suc n = omega arith in rw s e
back-step false c cs r n e = refl

-- what follows it, as a number of items dropped
pub back-drop : (p : ℕ → Bool) (xs : List ℕ) → back p xs ≡ drop (prefix_len p xs) xs
unfolding back
back-drop p [] = refl
back-drop p (c ∷ cs) = back-step (p c) c cs (back p cs) (prefix_len p cs) (back-drop p cs)

-- ---- bytes that pass, and a text behind them

front-passes : (b : Bool) (c : ℕ) (r s : List ℕ) → b ≡ true → r ≡ s → (if b then c ∷ r else []) ≡ c ∷ s
front-passes true c r s h e = ap (λ (t : List ℕ). c ∷ t) e
front-passes false c r s h e = absurd cc

-- a front that passes goes on into what follows it
pub front-append : (p : ℕ → Bool) (xs ys : List ℕ) → list_all p xs ≡ true → front_while p (xs ++ ys) ≡ xs ++ front_while p ys
unfolding front_while
front-append p [] ys h = refl
front-append p (c ∷ cs) ys h =
    front-passes (p c) c (front_while p (cs ++ ys)) (cs ++ front_while p ys) (and_parts (p c) (list_all p cs) h).0
    (front-append p cs ys (and_parts (p c) (list_all p cs) h).1)

back-passes : (b : Bool) (r s t : List ℕ) → b ≡ true → r ≡ s → (if b then r else t) ≡ s
back-passes true r s t h e = e
back-passes false r s t h e = absurd cc

-- and so does what follows that
pub back-append : (p : ℕ → Bool) (xs ys : List ℕ) → list_all p xs ≡ true → back p (xs ++ ys) ≡ back p ys
unfolding back
back-append p [] ys h = refl
back-append p (c ∷ cs) ys h =
    back-passes (p c) (back p (cs ++ ys)) (back p ys) (c ∷ (cs ++ ys)) (and_parts (p c) (list_all p cs) h).0
    (back-append p cs ys (and_parts (p c) (list_all p cs) h).1)

-- what passes ends where the text behind it begins with a byte that fails, or is empty
pub front-ends : (p : ℕ → Bool) (xs ys : List ℕ) → list_all p xs ≡ true → front_while p ys ≡ [] → front_while p (xs ++ ys) ≡ xs
front-ends p xs ys h e = front-append p xs ys h ∙ (ap (λ (t : List ℕ). xs ++ t) e ∙ append-nil xs)

-- a list that passes in front of one that does not leaves the second
pub back-ends : (p : ℕ → Bool) (xs ys : List ℕ) → list_all p xs ≡ true → back p ys ≡ ys → back p (xs ++ ys) ≡ ys
back-ends p xs ys h e = back-append p xs ys h ∙ e

-- the same of a whole text
pub front-all : (p : ℕ → Bool) (xs : List ℕ) → list_all p xs ≡ true → front_while p xs ≡ xs
unfolding front_while
front-all p [] h = refl
front-all p (c ∷ cs) h =
    front-passes (p c) c (front_while p cs) cs (and_parts (p c) (list_all p cs) h).0 (front-all p cs (and_parts (p c) (list_all p cs) h).1)

-- nothing follows a list that passes as a whole
pub back-all : (p : ℕ → Bool) (xs : List ℕ) → list_all p xs ≡ true → back p xs ≡ []
unfolding back
back-all p [] h = refl
back-all p (c ∷ cs) h =
    back-passes (p c) (back p cs) [] (c ∷ cs) (and_parts (p c) (list_all p cs) h).0 (back-all p cs (and_parts (p c) (list_all p cs) h).1)

-- two texts that pass
pub all-both : (p : ℕ → Bool) (xs ys : List ℕ) → list_all p xs ≡ true → list_all p ys ≡ true → list_all p (xs ++ ys) ≡ true
all-both p [] ys hx hy = hy
all-both p (c ∷ cs) ys hx hy =
    and_from (p c) (list_all p (cs ++ ys)) (and_parts (p c) (list_all p cs) hx).0 (all-both p cs ys (and_parts (p c) (list_all p cs) hx).1 hy)
