-- Commands in order.
use Rattle.std.proofs.Common.{◌≡◌, ℕ, zero, suc, ◌+◌, ◌<◌, ◌≤◌, List, [], ◌∷◌, ◌++◌, length, get_or, take, drop, arith, ap, refl, subst, sym, ◌∙◌, slice_set}
use Rattle.std.proofs.lemmas.List.{drop_more, take_more_set, append_assoc, append-nil}
use Rattle.code_region.specs.LiveEntries.Running.{IsRun}

-- what the commands from number k on do to a state, those before them did to the first one
abbrev pub IsUpTo : {S C R : Type 0} → (S → C → R → S → Type 0) → S → List C → List R → ℕ → S → Type 0
IsUpTo IsDone old commands replies k state =
    (rest : List _) (final : _) → IsRun IsDone state (drop k commands) rest final
    → IsRun IsDone old commands (take k replies ++ rest) final

take_all : {A : Type 0} (xs : List A) (k : ℕ) → length xs ≤ k → take k xs ≡ xs
take_all [] zero le = refl
take_all [] (suc k) le = refl
take_all (x ∷ xs) zero le = absurd (omega arith)
take_all (x ∷ xs) (suc k) le = ap (λ ys. x ∷ ys) (take_all xs k (omega arith))

drop_all : {A : Type 0} (xs : List A) (k : ℕ) → length xs ≤ k → drop k xs ≡ []
drop_all [] zero le = refl
drop_all [] (suc k) le = refl
drop_all (x ∷ xs) zero le = absurd (omega arith)
drop_all (x ∷ xs) (suc k) le = drop_all xs k (omega arith)

module _ {S C R : Type 0} (IsDone : S → C → R → S → Type 0) where
  -- one command more
  pub up_to-next : (old state new : S) (commands : List C) (replies more : List R) (k : ℕ) (command : C) (reply : R)
      → k < length commands → command ≡ get_or commands k command → k < length replies → more ≡ slice_set replies k reply
      → IsDone state command reply new → IsUpTo IsDone old commands replies k state
      → IsUpTo IsDone old commands more (k + 1) new
  up_to-next old state new commands replies more k command reply lt is room set done before rest final run =
      let left : drop k commands ≡ command ∷ drop (k + 1) commands =
      drop_more commands k command lt ∙ ap (λ (c : C). c ∷ drop (k + 1) commands) (sym is) in
      let here : IsRun IsDone state (drop k commands) (reply ∷ rest) final =
      subst (λ (cs : List C). IsRun IsDone state cs (reply ∷ rest) final) (sym left) (new, (done, run)) in
      let by_set = ap (λ (rs : List R). take (k + 1) rs ++ rest) set in
      let by_take = ap (λ (rs : List R). rs ++ rest) (take_more_set replies k reply room) in
      let same : take k replies ++ reply ∷ rest ≡ take (k + 1) more ++ rest =
      sym (by_set ∙ (by_take ∙ append_assoc (take k replies) (reply ∷ []) rest)) in
      subst (λ (rs : List R). IsRun IsDone old commands rs final) same (before (reply ∷ rest) final here)

  -- **behind the last command it is the run**
  pub up_to-end : (old state : S) (commands : List C) (replies : List R) (k : ℕ) → length commands ≤ k
      → length replies ≤ k → IsUpTo IsDone old commands replies k state → IsRun IsDone old commands replies state
  up_to-end old state commands replies k last all before =
      let none : IsRun IsDone state (drop k commands) [] state =
      subst (λ (cs : List C). IsRun IsDone state cs [] state) (sym (drop_all commands k last)) refl in
      let whole = append-nil (take k replies) ∙ take_all replies k all in
      subst (λ (rs : List R). IsRun IsDone old commands rs state) whole (before [] state none)
