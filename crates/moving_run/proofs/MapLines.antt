-- The lines of the map, one more at a time.
use Rattle.std.proofs.Common.{◌≡◌, ℕ, zero, suc, ◌+◌, ◌-◌, ◌≤◌, List, [], ◌++◌, Option, map, refl, sym, ap, ◌∙◌, subst, arith, append_assoc, append-nil}
use Rattle.std.specs.List.{flat_map, range_with_len}
use Rattle.std.proofs.lemmas.List.{flat_map_more}
use Rattle.std.proofs.lemmas.List.Folds.{flat_map-map}
use Rattle.std.proofs.lemmas.List.FromFn.{map-range_with_len_more}
use Rattle.x86_values.specs.declared.Bits.{Bits}
use Rattle.branch_sizes.specs.declared.plan.Form.{Form}
use Rattle.move_goals.specs.declared.items.Placed.{Placed}
use Rattle.byte_ports.specs.Ports.{with_back}
use Rattle.sweep.specs.RunParts.Facts.{HeldFacts}
use Rattle.sweep.specs.RunParts.Writing.{HoldsFront, Moves, HeldText}
use Rattle.moving_run.specs.Map.{line_at, map_lines}

module _ (facts : HeldFacts) (bits : Bits) (items : List Placed) (starts : List ℕ) (forms : List Form) where
  abbrev lines : ℕ → List ℕ
  lines n = map_lines bits items starts forms n

  abbrev line : ℕ → List ℕ
  line k = line_at bits items starts forms k

  none : lines 0 ≡ []
  unfolding map_lines
  none = refl

  more : (n : ℕ) → lines (n + 1) ≡ lines n ++ line n
  unfolding map_lines
  more n =
      let same : ℕ → ℕ = λ x. x in
      sym (flat_map-map line same (range_with_len 0 (n + 1)))
      ∙ (ap (flat_map line) (map-range_with_len_more same 0 n n (omega arith))
      ∙ (sym (flat_map_more line [] (map same (range_with_len 0 n)) n)
      ∙ ap (λ (xs : List ℕ). xs ++ line n) (flat_map-map line same (range_with_len 0 n))))

  -- fewer lines begin more
  begin : (n extra : ℕ) → (rest : List ℕ) × (lines (n + extra) ≡ lines n ++ rest)
  begin n zero =
      let all : n + zero ≡ n = omega arith in
      ([], ap lines all ∙ sym (append-nil (lines n)))
  begin n (suc extra) =
      let p = begin n extra in
      let last = n + extra in
      let place : n + suc extra ≡ last + 1 = omega arith in (
        p.0 ++ line last,
        ap lines place ∙ (more last ∙ (ap (λ (xs : List ℕ). xs ++ line last) p.1 ∙ append_assoc (lines n) p.0 (line last))),
      )

  -- a front of the first lines is one of them all
  front : (n count : ℕ) (old new : Option (List ℕ)) → n ≤ count → HoldsFront old new (lines n) → HoldsFront old new (lines count)
  front n count old new le f =
      let p = begin n (count - n) in
      let all : n + (count - n) ≡ count = omega arith in
      let whole : lines n ++ p.0 ≡ lines count = sym p.1 ∙ ap lines all in
      subst (λ (xs : List ℕ). HoldsFront old new xs) whole (facts.front-longer old new (lines n) p.0 f)

  -- before the first line
  pub map-start : (start : Option (List ℕ)) (pending : List ℕ) → pending ≡ [] → HeldText start start pending (map_lines bits items starts forms 0)
  map-start start pending empty = subst (λ (xs : List ℕ). HeldText start start pending xs) (sym none) (facts.held-start start pending empty)

  -- one more line
  pub map-step : (start held held' : Option (List ℕ)) (before after : List ℕ) (n : ℕ) → HeldText start held before (map_lines bits items starts forms n) →
      Moves held held' before after (line_at bits items starts forms n) → HeldText start held' after (map_lines bits items starts forms (n + 1))
  map-step start held held' before after n h moves =
      subst (λ (xs : List ℕ). HeldText start held' after xs) (sym (more n)) (facts.held-step start held held' before after (lines n) (line n) h moves)

  -- a failure while lines are held back
  pub map-failed : (start held held' : Option (List ℕ)) (pending : List ℕ) (n count : ℕ) → n ≤ count →
      HeldText start held pending (map_lines bits items starts forms n) → HoldsFront held held' pending → HoldsFront start held' (map_lines bits items starts forms count)
  map-failed start held held' pending n count below h f =
      front n count start held' below (facts.held-failed start held held' pending (lines n) h f)

  -- all lines
  pub map-end : (start held held' : Option (List ℕ)) (pending : List ℕ) (n count : ℕ) → n ≤ count → count ≤ n →
      HeldText start held pending (map_lines bits items starts forms n) → held' ≡ with_back held pending → held' ≡ with_back start (map_lines bits items starts forms count)
  map-end start held held' pending n count below above h all =
      let same : n ≡ count = omega arith in
      facts.held-end start held held' pending (lines n) h all ∙ ap (λ (k : ℕ). with_back start (lines k)) same
