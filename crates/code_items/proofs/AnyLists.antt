-- Lists of bytes that a function of the number gives, one behind another.
use Rattle.std.proofs.Common.{◌≡◌, ℕ, zero, suc, ◌+◌, ◌-◌, ◌<◌, ◌≤◌, List, [], ◌∷◌, ◌++◌, length, take, drop, sym, ap, ◌∙◌, append_assoc, arith, length-append}
use Rattle.std.specs.List.{flat_map, range_with_len}
use Rattle.std.proofs.Math.Seq.{take-append_seam, drop-append_seam}
use Rattle.std.proofs.lemmas.List.{append-nil}
use Rattle.std.proofs.lemmas.List.Concat.{flat_map-append}

range-from : (a n : ℕ) → range_with_len a (suc n) ≡ range_with_len a n ++ (a + n) ∷ []
range-from a zero = let e : a ≡ a + 0 = omega arith in ap (λ (n : ℕ). n ∷ []) e
range-from a (suc n) =
    let e : a + 1 + n ≡ a + suc n = omega arith in
    ap (λ xs. a ∷ xs) (range-from (a + 1) n ∙ ap (λ (m : ℕ). range_with_len (a + 1) n ++ m ∷ []) e)

-- one more
pub more : (g : ℕ → List ℕ) (k : ℕ) → flat_map g (range_with_len 0 (suc k)) ≡ flat_map g (range_with_len 0 k) ++ g k
more g k =
    let f : 0 + k ≡ k = omega arith in
    ap (flat_map g) (range-from 0 k ∙ ap (λ (n : ℕ). range_with_len 0 k ++ n ∷ []) f)
    ∙ (flat_map-append g (range_with_len 0 k) (k ∷ []) ∙ ap (λ xs. flat_map g (range_with_len 0 k) ++ xs) (append-nil (g k)))

-- the first ones, one, and the others
split-from : (g : ℕ → List ℕ) (a k n : ℕ) → k < n →
    flat_map g (range_with_len a n) ≡ flat_map g (range_with_len a k) ++ (g (a + k) ++ flat_map g (range_with_len (a + k + 1) (n - (k + 1))))
split-from g a zero zero lt = absurd (omega arith)
split-from g a (suc k) zero lt = absurd (omega arith)
split-from g a zero (suc n) lt =
    let e : a ≡ a + 0 = omega arith in
    let c : n ≡ suc n - (0 + 1) = omega arith in
    ap (λ (i : ℕ). g i ++ flat_map g (range_with_len (a + 1) n)) e
    ∙ (ap (λ (i : ℕ). g (a + 0) ++ flat_map g (range_with_len (i + 1) n)) e
    ∙ ap (λ (i : ℕ). g (a + 0) ++ flat_map g (range_with_len (a + 0 + 1) i)) c)
split-from g a (suc k) (suc n) lt =
    let e : a + 1 + k ≡ a + suc k = omega arith in
    let c : n - (k + 1) ≡ suc n - (suc k + 1) = omega arith in
    let first = flat_map g (range_with_len (a + 1) k) in
    ap (λ xs. g a ++ xs) (split-from g (a + 1) k n (omega arith))
    ∙ (sym (append_assoc (g a) first (g (a + 1 + k) ++ flat_map g (range_with_len (a + 1 + k + 1) (n - (k + 1)))))
    ∙ (ap (λ (i : ℕ). (g a ++ first) ++ (g i ++ flat_map g (range_with_len (i + 1) (n - (k + 1))))) e
    ∙ ap (λ (i : ℕ). (g a ++ first) ++ (g (a + suc k) ++ flat_map g (range_with_len (a + suc k + 1) i))) c))

-- parts one behind another, apart at part k
pub split : (g : ℕ → List ℕ) (k n : ℕ) (tail : List ℕ) → k < n →
    flat_map g (range_with_len 0 n) ++ tail ≡ flat_map g (range_with_len 0 k) ++ (g k ++ (flat_map g (range_with_len (k + 1) (n - (k + 1))) ++ tail))
split g k n tail lt =
    let e : 0 + k ≡ k = omega arith in
    let first = flat_map g (range_with_len 0 k) in
    let last = flat_map g (range_with_len (k + 1) (n - (k + 1))) in
    ap (λ xs. xs ++ tail)
    (split-from g 0 k n lt ∙ ap (λ (i : ℕ). first ++ (g i ++ flat_map g (range_with_len (i + 1) (n - (k + 1))))) e)
    ∙ (append_assoc first (g k ++ last) tail ∙ ap (λ xs. first ++ xs) (append_assoc (g k) last tail))

-- the first of some and the others
range-front : (f : ℕ → List ℕ) (k n : ℕ) → k < n → flat_map f (range_with_len k (n - k)) ≡ f k ++ flat_map f (range_with_len (k + 1) (n - (k + 1)))
range-front f k n lt =
    let m : n - k ≡ suc (n - (k + 1)) = omega arith in
    ap (λ c. flat_map f (range_with_len k c)) m

-- the first of some bytes, and what is behind them
pub front-is : (f : ℕ → List ℕ) (k n len : ℕ) (tail rest : List ℕ) → k < n → rest ≡ flat_map f (range_with_len k (n - k)) ++ tail → len ≡ length (f k) →
    (len ≤ length rest) × (take len rest ≡ f k) × (drop len rest ≡ flat_map f (range_with_len (k + 1) (n - (k + 1))) ++ tail)
front-is f k n len tail rest lt is size =
    let more = flat_map f (range_with_len (k + 1) (n - (k + 1))) in
    let whole : rest ≡ f k ++ (more ++ tail) = is ∙ (ap (λ xs. xs ++ tail) (range-front f k n lt) ∙ append_assoc (f k) more tail) in (
      omega (arith, size, ap length whole, length-append (f k) (more ++ tail)),
      ap (take len) whole ∙ (ap (λ n. take n (f k ++ (more ++ tail))) size ∙ take-append_seam (f k) (more ++ tail)),
      ap (drop len) whole ∙ (ap (λ n. drop n (f k ++ (more ++ tail))) size ∙ drop-append_seam (f k) (more ++ tail)),
    )

-- where all are passed
pub all-passed : (g f : ℕ → List ℕ) (k n : ℕ) (tail out rest all : List ℕ) → k ≡ n → out ≡ flat_map g (range_with_len 0 k) → rest ≡ flat_map f (range_with_len k (n - k)) ++ tail →
    all ≡ out ++ rest → all ≡ flat_map g (range_with_len 0 n) ++ tail
all-passed g f k n tail out rest all e before behind is =
    let none : n - k ≡ 0 = omega arith in
    is
    ∙ (ap (λ xs. xs ++ rest) (before ∙ ap (λ (i : ℕ). flat_map g (range_with_len 0 i)) e)
    ∙ ap (λ xs. flat_map g (range_with_len 0 n) ++ xs) (behind ∙ ap (λ (i : ℕ). flat_map f (range_with_len k i) ++ tail) none))
