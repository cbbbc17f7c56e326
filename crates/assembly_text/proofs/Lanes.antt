-- From the mask of one load to the bytes that pass a test.
use Rattle.std.proofs.Common.{◌≡◌, ℕ, ◌+◌, ◌%◌, ◌^◌, ◌<◌, ◌≤◌, Bool, true, false, List, [], ◌∷◌, map, length, get_or, Fits, w8, refl, sym, ap, ap₂, ◌∙◌, arith, inl, inr}
use Rattle.std.specs.Prelude.{not}
use Rattle.std.proofs.lemmas.Bool.{agree_below, agree_below_at, cases_eq, eq-eqb, ne_eqb, cond-true, cond-false, not-true, not-false}
use Rattle.std.proofs.lemmas.Simd.{map-map, mask_l-mod, length-chunk, leading_from_mask_l, trailing_mask_l, run_in_chunk_le, run_in_chunk_fails, run_in_chunk_stops}
use Rattle.std.proofs.lemmas.List.{length-map}
use Rattle.std.specs.List.{prefix_len}
use Rattle.std.specs.Simd.Lanes.{chunk, zip2, mask_l, top}
use Rattle.assembly_text.specs.Lines.{first_set}

zip2-map : (h : ℕ → ℕ → ℕ) (f g : ℕ → ℕ) (xs : List ℕ) → zip2 h (map f xs) (map g xs) ≡ map (λ x. h (f x) (g x)) xs
zip2-map h f g [] = refl
zip2-map h f g (x ∷ xs) = ap (λ r. h (f x) (g x) ∷ r) (zip2-map h f g xs)

-- an operation on two vectors that were computed lane by lane from one
pub joined : (h : ℕ → ℕ → ℕ) (f g : ℕ → ℕ) (v : List ℕ) {a b : List ℕ} → a ≡ map f v → b ≡ map g v → zip2 h a b ≡ map (λ x. h (f x) (g x)) v
joined h f g v p q = ap₂ (zip2 h) p q ∙ zip2-map h f g v

-- the lowest bit of a mask is the first lane that passes
run_is : (p : ℕ → Bool) (v : List ℕ) (n : ℕ) → length v ≡ n → n ≤ 64 → first_set (mask_l (map p v)) n ≡ prefix_len (λ x. not (p x)) v
run_is p v n long few =
    elim (cases_eq (mask_l (map p v)) 0) [
      | inl none ↦ cond-true _ _ _ (eq-eqb _ _ none) ∙ sym (leading_from_mask_l p v none ∙ long)
      | inr some ↦ cond-false _ _ _ (ne_eqb _ _ some) ∙ trailing_mask_l p 64 v (omega arith) (omega arith)
    ]

-- bytes of a load, of which the first so many pass a test
pub record IsRun (q : ℕ → Bool) (d : List ℕ) (i n r : ℕ) : Type 0 where
  pub within : r ≤ n
  pub pass : (k : ℕ) → i ≤ k → k < i + r → q (get_or d k 0) ≡ true
  pub stops : r < n → q (get_or d (i + r) 0) ≡ false

-- where a lane stops just where the test fails, the mask gives the run
pub run_in : (q : ℕ → Bool) (d : List ℕ) (i n r : ℕ) (z : List ℕ) → i + n ≤ length d → n ≤ 64 → ((k : ℕ) → Fits w8 (get_or d k 0))
    → r ≡ first_set (mask_l (map (top 7) z) % 2 ^ 64) n → (f : ℕ → ℕ) → z ≡ map f (chunk i n d)
    → agree_below (λ x. top 7 (f x)) (λ x. not (q x)) 256 ≡ true → IsRun q d i n r
run_in q d i n r z room few fits found f lanes all =
    let p : ℕ → Bool = λ x. top 7 (f x) in
    let v = chunk i n d in
    let long : length v ≡ n = length-chunk i n d room in
    let mask = ap (λ l. mask_l l % 2 ^ 64) (ap (map (top 7)) lanes ∙ map-map (top 7) f v) ∙ mask_l-mod (map p v) 64 (omega (arith, length-map v p, long)) in
    let counted : r ≡ prefix_len (λ x. not (p x)) v = found ∙ ap (λ m. first_set m n) mask ∙ run_is p v n long few in
    record {
      within = run_in_chunk_le p d i n r 0 room counted;
      pass = λ k from to.
          not-false _ (sym (agree_below_at p (λ x. not (q x)) 256 (get_or d k 0) all (fits k).fits) ∙ run_in_chunk_fails p d i n r 0 room counted k from to);
      stops = λ short.
          not-true _ (sym (agree_below_at p (λ x. not (q x)) 256 (get_or d (i + r) 0) all (fits (i + r)).fits) ∙ run_in_chunk_stops p d i n r 0 room counted short);
    }
