-- Places that get what stands for nothing, and then one use after another.
use Rattle.std.proofs.Common.{◌≡◌, ℕ, zero, suc, ◌+◌, ◌<◌, ◌≤◌, inl, inr, List, length, get_or, set, map, replicate, Option, Some, None, slice_get, refl, ap, sym, ◌∙◌, arith}
use Rattle.std.specs.List.{range_with_len}
use Rattle.std.proofs.lemmas.Bool.{cases_lt}
use Rattle.std.proofs.lemmas.List.{length-set, length-replicate, get_or-set_same, get_or-set_other}
use Rattle.std.proofs.lemmas.List.FromFn.{fill_by_all}
use Rattle.std.proofs.lemmas.Option.{slice_get_past}

module _ {U F : Type 0} (f : Option U → F) (size : ℕ) (us : List U) where
  -- the first of so many places hold the first uses, and the others what stands for none
  pub record HoldUses (n : ℕ) (places : List F) : Type 0 where
    pub long : length places ≡ size
    pub filled : (k : ℕ) → k < n → get_or places k (f None) ≡ f (slice_get us k)
    pub others : (k : ℕ) → n ≤ k → get_or places k (f None) ≡ f None

  blank : (n k : ℕ) → get_or (replicate n (f None)) k (f None) ≡ f None
  blank zero k = refl
  blank (suc n) zero = refl
  blank (suc n) (suc k) = blank n k

  -- before the first use no place holds one
  pub places_start : HoldUses 0 (replicate size (f None))
  places_start = record { long = length-replicate size (f None); filled = λ k lt. absurd (omega arith); others = λ k le. blank size k }

  -- the next use is put into the next place
  pub places_step : (n : ℕ) (u : U) (v : F) (places : List F) → n < length us → length us ≤ size → slice_get us n ≡ Some u → v ≡ f (Some u) →
      HoldUses n places → HoldUses (n + 1) (set places n v)
  places_step n u v places lt fits at is before =
      let room : n < length places = omega (arith, before.long, lt, fits) in record {
        long = length-set places n v ∙ before.long;
        filled = λ k less. elim (cases_lt k n) [
          | inl below ↦ get_or-set_other places n k v (f None) (λ e. omega (arith, e, below)) ∙ before.filled k below
          | inr above ↦
              let here : k ≡ n = omega (arith, above, less) in
              ap (λ (m : ℕ). get_or (set places n v) m (f None)) here
              ∙ (get_or-set_same places n v (f None) room ∙ (is ∙ sym (ap f (ap (slice_get us) here ∙ at))))
        ];
        others = λ k more. get_or-set_other places n k v (f None) (λ e. omega (arith, e, more)) ∙ before.others k (omega (arith, more));
      }

  place_of : (n : ℕ) (places : List F) → length us ≤ n → HoldUses n places → (k : ℕ) → get_or places k (f None) ≡ f (slice_get us k)
  place_of n places last all k = elim (cases_lt k n) [
    | inl below ↦ all.filled k below
    | inr past ↦ all.others k past ∙ sym (ap f (slice_get_past us k (omega (arith, last, past))))
  ]

  -- after the last use each place holds its use, or what stands for none
  pub places_end : (n : ℕ) (places : List F) → length us ≤ n → HoldUses n places → places ≡ map (λ k. f (slice_get us k)) (range_with_len 0 size)
  places_end n places last all = fill_by_all (λ k. f (slice_get us k)) places size (f None) all.long (λ k lt. place_of n places last all k)
