-- The names, read from the lists that hold them.
use Rattle.std.proofs.Common.{◌≡◌, ◌<◌, ℕ, zero, suc, ◌+◌, ◌*◌, List, [], ◌∷◌, ◌++◌, map, length, slice_get, Some, get_or, Bor, refl, ap, sym, ◌∙◌, arith}
use Rattle.std.specs.Prelude.{option_map, unwrap_or}
use Rattle.std.proofs.lemmas.Option.{slice_get-map, slice_get-get_or}
use Rattle.std.proofs.lemmas.List.{length-map}
use Rattle.opcode_rows.specs.declared.generated_spots.TheConstants.{VERSION1_ROWS}
use Rattle.opcode_rows.specs.Table.{names_from_0, names_from_512, names_from_1024, names_from_1536, added_names, names, name_of}
use Rattle.opcode_rows.specs.NameLines.{names_in_line}

get-first : (xs ys : List (List ℕ)) (k : ℕ) → k < length xs → slice_get (xs ++ ys) k ≡ slice_get xs k
get-first [] ys k lt = absurd (omega arith)
get-first (x ∷ xs) ys zero lt = refl
get-first (x ∷ xs) ys (suc k) lt = get-first xs ys k (omega arith)

get-second : (xs ys : List (List ℕ)) (k i : ℕ) → k ≡ length xs + i → slice_get (xs ++ ys) k ≡ slice_get ys i
get-second [] ys k i e = let is : k ≡ i = omega (arith, e) in ap (slice_get ys) is
get-second (x ∷ xs) ys zero i e = absurd (omega (arith, e))
get-second (x ∷ xs) ys (suc k) i e = get-second xs ys k i (omega (arith, e))

read : (xs : List (Bor (List ℕ))) (k : ℕ) (d : Bor (List ℕ)) → k < length xs → slice_get (map (λ b. b.now) xs) k ≡ Some (get_or xs k d).now
read xs k d lt = slice_get-map (λ b. b.now) xs k ∙ ap (option_map (λ b. b.now)) (slice_get-get_or xs k d lt)

-- a name that is read from a list of names behind others
list-named : (before : List (List ℕ)) (xs : List (Bor (List ℕ))) (list after : List (List ℕ)) (k i : ℕ) (d : Bor (List ℕ))
    → names ≡ before ++ (list ++ after) → map (λ b. b.now) xs ≡ list → k ≡ length before + i → i < length xs
    → (get_or xs i d).now ≡ name_of k
unfolding name_of
list-named before xs list after k i d whole e is lt =
    let same : length list ≡ length xs = ap length (sym e) ∙ length-map xs (λ b. b.now) in
    let there : slice_get (before ++ (list ++ after)) k ≡ slice_get (list ++ after) i = get-second before (list ++ after) k i is in
    let here : slice_get (list ++ after) i ≡ slice_get list i = get-first list after i (omega (arith, lt, same)) in
    let found : slice_get names k ≡ slice_get list i = ap (λ l. slice_get l k) whole ∙ there ∙ here in
    ap (λ o. unwrap_or o []) (sym (found ∙ ap (λ l. slice_get l i) (sym e) ∙ read xs i d lt))

-- a name that is read from the names from the code 0 on
pub named-from-0 : (xs : List (Bor (List ℕ))) (k i : ℕ) (d : Bor (List ℕ)) → map (λ b. b.now) xs ≡ names_from_0 → k ≡ 0 + i → i < length xs
    → (get_or xs i d).now ≡ name_of k
unfolding names
named-from-0 xs k i d e is lt =
    list-named [] xs names_from_0 (names_from_512 ++ (names_from_1024 ++ (names_from_1536 ++ added_names))) k i d refl e is lt

-- a name that is read from the names from the code 512 on
pub named-from-512 : (xs : List (Bor (List ℕ))) (k i : ℕ) (d : Bor (List ℕ)) → map (λ b. b.now) xs ≡ names_from_512 → k ≡ 512 + i → i < length xs
    → (get_or xs i d).now ≡ name_of k
unfolding names
named-from-512 xs k i d e is lt =
    list-named names_from_0 xs names_from_512 (names_from_1024 ++ (names_from_1536 ++ added_names)) k i d refl e is lt

-- a name that is read from the names from the code 1024 on
pub named-from-1024 : (xs : List (Bor (List ℕ))) (k i : ℕ) (d : Bor (List ℕ)) → map (λ b. b.now) xs ≡ names_from_1024 → k ≡ 1024 + i → i < length xs
    → (get_or xs i d).now ≡ name_of k
unfolding names
named-from-1024 xs k i d e is lt =
    list-named (names_from_0 ++ names_from_512) xs names_from_1024 (names_from_1536 ++ added_names) k i d refl e is lt

-- a name that is read from the names from the code 1536 on
pub named-from-1536 : (xs : List (Bor (List ℕ))) (k i : ℕ) (d : Bor (List ℕ)) → map (λ b. b.now) xs ≡ names_from_1536 → k ≡ 1536 + i → i < length xs
    → (get_or xs i d).now ≡ name_of k
unfolding names
named-from-1536 xs k i d e is lt =
    list-named (names_from_0 ++ (names_from_512 ++ names_from_1024)) xs names_from_1536 added_names k i d refl e is lt

-- a name that is read from those that version 2 adds is that of the code behind
pub added-named : (xs : List (Bor (List ℕ))) (k i : ℕ) (d : Bor (List ℕ)) → map (λ b. b.now) xs ≡ added_names → k ≡ VERSION1_ROWS + i → i < length xs
    → (get_or xs i d).now ≡ name_of k
unfolding names
added-named xs k i d e is lt =
    list-named (names_from_0 ++ (names_from_512 ++ (names_from_1024 ++ names_from_1536))) xs added_names [] k i d refl e is lt

-- a name that is read from a line of 512 of the first names
pub named-early : (xs : List (Bor (List ℕ))) (k n i : ℕ) (d : Bor (List ℕ)) → map (λ b. b.now) xs ≡ names_in_line n → n < 3 → k ≡ 512 * n + i → i < length xs
    → (get_or xs i d).now ≡ name_of k
named-early xs k zero i d e some is lt = named-from-0 xs k i d e (omega (arith, is)) lt
named-early xs k (suc zero) i d e some is lt = named-from-512 xs k i d e (omega (arith, is)) lt
named-early xs k (suc (suc zero)) i d e some is lt = named-from-1024 xs k i d e (omega (arith, is)) lt
named-early xs k (suc (suc (suc n))) i d e some is lt = absurd (omega (arith, some))
