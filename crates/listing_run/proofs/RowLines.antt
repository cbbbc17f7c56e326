-- The lines of the rows, one more at a time.
use Rattle.std.proofs.Common.{◌≡◌, ℕ, zero, suc, ◌+◌, ◌-◌, ◌≤◌, List, [], ◌++◌, Option, map, refl, sym, ap, ◌∙◌, subst, arith, append_assoc, append-nil}
use Rattle.std.specs.List.{flat_map, range_with_len}
use Rattle.std.proofs.lemmas.List.{flat_map_more}
use Rattle.std.proofs.lemmas.List.Folds.{flat_map-map}
use Rattle.std.proofs.lemmas.List.FromFn.{map-range_with_len_more}
use Rattle.text_rows.specs.RowLines.Lines.{row_line}
use Rattle.byte_ports.specs.Ports.{with_back}
use Rattle.sweep.specs.RunParts.Facts.{HeldFacts}
use Rattle.sweep.specs.RunParts.Writing.{HoldsFront, Moves, HeldText}
use Rattle.listing_run.specs.Rows.{lines_below}

lines-none : lines_below 0 ≡ []
unfolding lines_below
lines-none = refl

lines-more : (n : ℕ) → lines_below (n + 1) ≡ lines_below n ++ row_line n
unfolding lines_below
lines-more n =
    let same : ℕ → ℕ = λ x. x in
    sym (flat_map-map row_line same (range_with_len 0 (n + 1)))
    ∙ (ap (flat_map row_line) (map-range_with_len_more same 0 n n (omega arith))
    ∙ (sym (flat_map_more row_line [] (map same (range_with_len 0 n)) n)
    ∙ ap (λ (xs : List ℕ). xs ++ row_line n) (flat_map-map row_line same (range_with_len 0 n))))

-- fewer lines begin more
lines-begin : (n more : ℕ) → (rest : List ℕ) × (lines_below (n + more) ≡ lines_below n ++ rest)
lines-begin n zero =
    let none : n + zero ≡ n = omega arith in
    ([], ap lines_below none ∙ sym (append-nil (lines_below n)))
lines-begin n (suc more) =
    let p = lines-begin n more in
    let last = n + more in
    let place : n + suc more ≡ last + 1 = omega arith in (
      p.0 ++ row_line last,
      ap lines_below place
          ∙ (lines-more last
          ∙ (ap (λ (xs : List ℕ). xs ++ row_line last) p.1
          ∙ append_assoc (lines_below n) p.0 (row_line last))),
    )

module _ (f : HeldFacts) where
  -- a front of the first lines is one of them all
  lines-front : (n count : ℕ) (old new : Option (List ℕ)) → n ≤ count → HoldsFront old new (lines_below n) →
      HoldsFront old new (lines_below count)
  lines-front n count old new le first =
      let p = lines-begin n (count - n) in
      let all : n + (count - n) ≡ count = omega arith in
      let whole : lines_below n ++ p.0 ≡ lines_below count = sym p.1 ∙ ap lines_below all in
      subst (λ (xs : List ℕ). HoldsFront old new xs) whole (f.front-longer old new (lines_below n) p.0 first)

  -- before the first row
  pub rows-start : (start : Option (List ℕ)) (pending : List ℕ) → pending ≡ [] → HeldText start start pending (lines_below 0)
  rows-start start pending empty = subst (λ (xs : List ℕ). HeldText start start pending xs) (sym lines-none) (f.held-start start pending empty)

  -- one more row
  pub rows-step : (start held held' : Option (List ℕ)) (before after : List ℕ) (n : ℕ) → HeldText start held before (lines_below n) →
      Moves held held' before after (row_line n) → HeldText start held' after (lines_below (n + 1))
  rows-step start held held' before after n h moves =
      subst (λ (xs : List ℕ). HeldText start held' after xs) (sym (lines-more n)) (f.held-step start held held' before after (lines_below n) (row_line n) h moves)

  -- all rows
  pub rows-end : (start held held' : Option (List ℕ)) (pending : List ℕ) (n count : ℕ) → n ≤ count → count ≤ n →
      HeldText start held pending (lines_below n) → held' ≡ with_back held pending → held' ≡ with_back start (lines_below count)
  rows-end start held held' pending n count below above h all =
      let same : n ≡ count = omega arith in
      f.held-end start held held' pending (lines_below n) h all ∙ ap (λ (k : ℕ). with_back start (lines_below k)) same

  -- a failure while lines are held back
  pub rows-failed : (start held held' : Option (List ℕ)) (pending : List ℕ) (n count : ℕ) → n ≤ count →
      HeldText start held pending (lines_below n) → HoldsFront held held' pending → HoldsFront start held' (lines_below count)
  rows-failed start held held' pending n count below h first =
      lines-front n count start held' below (f.held-failed start held held' pending (lines_below n) h first)
