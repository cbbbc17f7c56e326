use Rattle.std.proofs.Common.{◌≡◌, ℕ, ◌<◌, suc, List, [], ◌∷◌, get_or, true, refl, sym, arith, rules, nat_lt, Fits, w8}
use Rattle.std.specs.List.{list_all}
use Rattle.row_fit.proofs.relation.are_bytes.Goals as goal

-- numbers that are each below 256 pass the test
each_below : (xs : List ℕ) → ((k : ℕ) → Fits w8 (get_or xs k 0)) → list_all (λ b. nat_lt b 256) xs ≡ true
each_below [] h = refl
each_below (x ∷ xs) h =
    let first = h 0 in
    let here : x < 256 = search (rules, first) in
    let rest = each_below xs (λ k. h (suc k)) in
    grind (arith, rest, here)

pub returns : goal.returns
returns c = sym (each_below c.args.bytes.now c.type_inv.bytes)
