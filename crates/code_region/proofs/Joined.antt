-- Stretches that stand one right behind the other from the start.
use Rattle.std.proofs.Common.{◌≡◌, ℕ, zero, suc, ◌+◌, ◌-◌, ◌≤◌, ◌<◌, List, [], ◌∷◌, ◌++◌, length, take, drop, insert, remove, arith, sym, ◌∙◌, ap, subst, refl, min, nat_eq, if◌then◌else◌, inl, inr, append_assoc, length-append, length-take-le}
use Rattle.std.proofs.lemmas.Bool.{lt-leb, cases_Bool, eqb-true}
use Rattle.std.proofs.lemmas.List.{take_at, take-append-le, take-take, take_more}
use Rattle.std.proofs.lemmas.List.Edits.{length-insert, length-remove}
use Rattle.code_region.specs.declared.gaps.Span.{Span}
use Rattle.code_region.specs.Gaps.{gaps_between, first_gap, longest}
use Rattle.code_region.specs.Keeping.{AreApart, AreJoined, IsTight}
use Rattle.code_region.specs.Searching.{end_from, gap_span_at, nowhere}

-- a search may begin behind the joined stretches
pub record Starts (from limit needed packed : ℕ) (spans : List Span) : Type 0 where
  pub apart : AreApart (end_from from (take packed spans)) limit (drop packed spans)
  pub first : first_gap needed (gaps_between from limit spans) ≡ first_gap needed (gaps_between (end_from from (take packed spans)) limit (drop packed spans))
  pub long : longest (gaps_between from limit spans) ≡ longest (gaps_between (end_from from (take packed spans)) limit (drop packed spans))

-- joining the first spans keeps where the list starts
pub joined-start : (from limit needed packed : ℕ) (spans : List Span) → AreApart from limit spans → packed ≤ length spans →
    AreJoined from (take packed spans) → 0 < needed → Starts from limit needed packed spans
joined-start from limit needed zero spans apart h joined some = record { apart = apart; first = refl; long = refl }
joined-start from limit needed (suc packed) [] apart h joined some = absurd (omega arith)
joined-start from limit needed (suc packed) (span ∷ spans) apart h joined some =
    let rest = joined-start (span.start + span.len) limit needed packed spans apart.2 (omega arith) joined.1 some in
    let start = joined.0 in
    let gap : span.start - from < needed = omega arith in
    let none : span.start - from ≡ 0 = omega arith in
    record {
      apart = rest.apart;
      first = rw (lt-leb needed (span.start - from) gap) rest.first;
      long = (let long = rest.long in omega arith);
    }

-- one more joined stretch, and fewer
pub joined-push : (from : ℕ) (spans : List Span) (span : Span) → AreJoined from spans → span.start ≡ end_from from spans → AreJoined from (spans ++ span ∷ [])
joined-push from [] span joined e = (e, tt)
joined-push from (other ∷ spans) span joined e = (joined.0, joined-push (other.start + other.len) spans span joined.1 e)

joined-take : (from n : ℕ) (spans : List Span) → AreJoined from spans → AreJoined from (take n spans)
joined-take from zero spans joined = tt
joined-take from (suc n) [] joined = tt
joined-take from (suc n) (span ∷ spans) joined = (joined.0, joined-take (span.start + span.len) n spans joined.1)

-- the next stretch has no gap before it
pub joined-more : (from limit index : ℕ) (spans : List Span) → AreJoined 0 (take index spans) → index < length spans → end_from 0 (take index spans) ≡ from →
    from ≤ (gap_span_at spans index).start → (gap_span_at spans index).start - from ≡ 0 → AreJoined 0 (take (index + 1) spans)
joined-more from limit index spans joined h front above none =
    let P : List Span → Type 0 = λ xs. AreJoined 0 xs in
    let e : (gap_span_at spans index).start ≡ end_from 0 (take index spans) = omega arith in
    subst P (sym (take_more spans index nowhere h)) (joined-push 0 (take index spans) (gap_span_at spans index) joined e)

-- how many are joined with one more stretch
pub tight-insert : (packed index largest start result : ℕ) (spans : List Span) (span : Span) → IsTight packed spans → packed ≤ index → index ≤ length spans →
    (largest ≡ 0 → AreJoined 0 (take index spans)) → end_from 0 (take index spans) ≡ start → span.start ≡ start →
    result ≡ (if nat_eq largest 0 then index + 1 else packed) → IsTight result (insert spans index span)
tight-insert packed index largest start result spans span tight below inside all front s e =
    let l = length-insert spans index span inside in
    let P : ℕ → Type 0 = λ n. IsTight n (insert spans index span) in
    let Q : List Span → Type 0 = λ xs. AreJoined 0 xs in
    elim (cases_Bool (nat_eq largest 0)) [
      | inl none ↦ (
          let n : result ≡ index + 1 = rw none at e in
          let joined = joined-push 0 (take index spans) span (all (eqb-true largest 0 none)) (s ∙ sym front) in
          let m : length (take index spans ++ span ∷ []) ≡ index + 1 = omega (arith, length-append (take index spans) (span ∷ []), length-take-le index spans inside) in
          let same : take (index + 1) (insert spans index span) ≡ take index spans ++ span ∷ [] =
          ap (λ xs. take (index + 1) xs) (sym (append_assoc (take index spans) (span ∷ []) (drop index spans))) ∙
          take_at (take index spans ++ span ∷ []) (drop index spans) (index + 1) m in
          subst P (sym n) (record { within = omega arith; joined = subst Q (sym same) joined }))
      | inr longer ↦ (
          let n : result ≡ packed = rw longer at e in
          let w = tight.within in
          let m = length-take-le index spans inside in
          let same : take packed (insert spans index span) ≡ take packed spans =
          take-append-le packed (take index spans) (span ∷ drop index spans) (omega arith) ∙ take-take packed index spans below in
          subst P (sym n) (record { within = omega arith; joined = subst Q (sym same) tight.joined }))
    ]

-- how many are joined with one stretch less
pub tight-remove : (packed index : ℕ) (spans : List Span) → IsTight packed spans → index < length spans → IsTight (min packed index) (remove spans index)
tight-remove packed index spans tight h =
    let l = length-remove spans index h in
    let m = length-take-le index spans (omega arith) in
    let Q : List Span → Type 0 = λ xs. AreJoined 0 xs in
    let same : take (min packed index) (remove spans index) ≡ take (min packed index) (take packed spans) =
    take-append-le (min packed index) (take index spans) (drop (suc index) spans) (omega arith) ∙
    take-take (min packed index) index spans (omega arith) ∙ sym (take-take (min packed index) packed spans (omega arith)) in
    record {
      within = omega arith;
      joined = subst Q (sym same) (joined-take 0 (min packed index) (take packed spans) tight.joined);
    }
