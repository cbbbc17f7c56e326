-- How the tree of partial sums is made: zeros before the lengths, then the sums from the last to the first.
use Rattle.std.proofs.Common.{◌≡◌, ℕ, ◌+◌, ◌-◌, ◌*◌, ◌<◌, ◌≤◌, inl, inr, List, ◌++◌, length, get_or, set, replicate}
use Rattle.std.proofs.Common.{arith, sym, subst, ap, ◌∙◌, length-append}
use Rattle.std.specs.Prelude.{All}
use Rattle.std.proofs.lemmas.Bool.{cases_lt, cases_eq}
use Rattle.std.proofs.lemmas.List.{length-replicate, length-set, get_or_past, get_or-append_right}
use Rattle.std.proofs.lemmas.List.{get_or-set_same, get_or-set_other}
use Rattle.branch_sizes.proofs.Partial.{IsSumTreeFrom}

leaf_small : (lens : List ℕ) → All (λ n. (1 ≤ n) × (n ≤ 15)) lens → (k : ℕ) → get_or lens k 0 ≤ 15
leaf_small lens fit k =
    elim (cases_lt k (length lens)) [
      | inl lt ↦ (fit k 0 lt).1
      | inr ge ↦ omega (arith, get_or_past lens k 0 ge)
    ]

-- behind as many zeros stand the lengths
pub leaf_behind : (lens tree : List ℕ) → tree ≡ replicate (length lens) 0 ++ lens
    → (u : ℕ) → length lens ≤ u → get_or tree u 0 ≡ get_or lens (u - length lens) 0
leaf_behind lens tree e u le =
    subst (λ t. get_or t u 0 ≡ get_or lens (u - length lens) 0) (sym e)
    (get_or-append_right (replicate (length lens) 0) lens (length lens) u 0 (length-replicate (length lens) 0) le)

-- the second half of a new tree has the lengths
pub leaf_at : (lens tree : List ℕ) → tree ≡ replicate (length lens) 0 ++ lens
    → (k : ℕ) → get_or tree (length lens + k) 0 ≡ get_or lens k 0
leaf_at lens tree e k =
    let back : length lens + k - length lens ≡ k = omega arith in
    leaf_behind lens tree e (length lens + k) (omega arith) ∙ ap (λ i. get_or lens i 0) back

-- a tree with no sums yet
pub filled : (lens tree : List ℕ) → All (λ n. (1 ≤ n) × (n ≤ 15)) lens → tree ≡ replicate (length lens) 0 ++ lens
    → IsSumTreeFrom (length lens) (length lens) tree
filled lens tree fit e = record {
  len = omega (
    arith,
    ap length e,
    length-append (replicate (length lens) 0) lens,
    length-replicate {A = ℕ} (length lens) 0,
  );
  small = λ u le. subst (λ x. x ≤ 15) (sym (leaf_behind lens tree e u le)) (leaf_small lens fit (u - length lens));
  nodes = λ u low pos below. absurd (omega (arith, low, below));
}

-- one more sum
pub next_sum : (t : List ℕ) (u n l r : ℕ) → IsSumTreeFrom (u + 1) n t → u < n
    → l ≡ get_or t (2 * u) 0 → r ≡ get_or t (2 * u + 1) 0 → IsSumTreeFrom u n (set t u (l + r))
next_sum t u n l r tree lt left right = record {
  len = length-set t u (l + r) ∙ tree.len;
  small = λ v ge. subst (λ x. x ≤ 15) (sym (get_or-set_other t u v (l + r) 0 (λ e. omega (arith, e, lt, ge)))) (tree.small v ge);
  nodes = λ v low pos below.
      let a = get_or-set_other t u (2 * v) (l + r) 0 (λ e. omega (arith, e, low, pos)) in
      let b = get_or-set_other t u (2 * v + 1) (l + r) 0 (λ e. omega (arith, e, low, pos)) in
      elim (cases_eq v u) [
        | inl same ↦
            let here = get_or-set_same t u (l + r) 0 (omega (arith, tree.len, lt)) in
            let at = ap (λ i. get_or (set t u (l + r)) i 0) same in
            let low_child = ap (λ i. get_or t (2 * i) 0) same in
            let high_child = ap (λ i. get_or t (2 * i + 1) 0) same in
            omega (arith, at, here, a, b, left, right, low_child, high_child)
        | inr other ↦
            let c = get_or-set_other t u v (l + r) 0 other in
            omega (arith, a, b, c, tree.nodes v (omega (arith, low, other)) pos below)
      ];
}

-- and the lengths stay
pub leaf_kept : (t : List ℕ) (u n x k : ℕ) → u < n → get_or (set t u x) (n + k) 0 ≡ get_or t (n + k) 0
leaf_kept t u n x k lt = get_or-set_other t u (n + k) x 0 (λ e. omega (arith, e, lt))
