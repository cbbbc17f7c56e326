-- What is computed of each number below a bound.
use Rattle.std.proofs.Common.{◌≡◌, ℕ, ◌<◌, map, get_or, ap, sym, ◌∙◌, arith}
use Rattle.std.specs.List.{range_with_len}
use Rattle.std.proofs.lemmas.List.FromFn.{get_or-map-range_with_len}

-- two functions agree below a bound: at a bound that is written out, their lists compute
pub agree-below : {A : Type 0} (f g : ℕ → A) (count n : ℕ) → map f (range_with_len 0 count) ≡ map g (range_with_len 0 count) → n < count → f n ≡ g n
agree-below f g count n e lt =
    sym (get_or-map-range_with_len f 0 count n n (f n) lt (omega arith)) ∙ ap (λ l. get_or l n (f n)) e
    ∙ get_or-map-range_with_len g 0 count n n (f n) lt (omega arith)
