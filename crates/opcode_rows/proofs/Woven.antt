-- The table, read in one walk: the rows of each part follow one another in it, so that each spot has the next row of its part.
use Rattle.std.proofs.Common.{◌≡◌, ℕ, zero, suc, Bool, true, ◌&&◌, List, [], ◌∷◌, slice_get, refl, ap, sym, ◌∙◌, eqb-true}
use Rattle.std.proofs.lemmas.Bool.{and_parts}
use Rattle.std.specs.Prelude.{Option, Some, None, ◌==◌}
use Rattle.instruction_parts.specs.declared.row_types.Row.{Row}
use Rattle.opcode_rows.specs.Parts.{integer_rows, x87_rows, sse_rows, vex_rows}
use Rattle.opcode_rows.specs.declared.spot.Spot.{Spot}
use Rattle.opcode_rows.specs.declared.spot.Part.{Part}
use Rattle.opcode_rows.specs.declared.spot.Part.TheVariants as part
use Rattle.opcode_rows.specs.Table.{part_table, spots, with_item, rows_in, table}

-- ---- a list by its first item and the rest

abbrev first : List Row → Option Row
first [] = None
first (r ∷ rs) = Some r

abbrev rest : List Row → List Row
rest [] = []
rest (r ∷ rs) = rs

abbrev behind : ℕ → List Row → List Row
behind zero rows = rows
behind (suc k) rows = behind k (rest rows)

rest-behind : (k : ℕ) (rows : List Row) → rest (behind k rows) ≡ behind (suc k) rows
rest-behind zero rows = refl
rest-behind (suc k) rows = rest-behind k (rest rows)

first-behind : (k : ℕ) (rows : List Row) → first (behind k rows) ≡ slice_get rows k
first-behind zero [] = refl
first-behind zero (r ∷ rs) = refl
first-behind (suc k) [] = first-behind k []
first-behind (suc k) (r ∷ rs) = first-behind k rs

-- ---- the walk

-- a spot is the next of its part, where so many rows of each part have been met, and the test holds of what is left
abbrev turn : (ℕ → ℕ → ℕ → ℕ → Bool) → Part → ℕ → ℕ → ℕ → ℕ → ℕ → Bool
turn later part.Integer at i x s v = (at == i) && later (suc i) x s v
turn later part.X87 at i x s v = (at == x) && later i (suc x) s v
turn later part.Sse at i x s v = (at == s) && later i x (suc s) v
turn later part.Vex at i x s v = (at == v) && later i x s (suc v)

unfoldable in_turn : List Spot → ℕ → ℕ → ℕ → ℕ → Bool
in_turn [] i x s v = true
in_turn (spot ∷ ss) i x s v = turn (λ a b c d. in_turn ss a b c d) spot.part spot.at i x s v

-- the next row of a part, and those of what is left
abbrev weave : (List Row → List Row → List Row → List Row → List Row) → Part → List Row → List Row → List Row → List Row → List Row
weave later part.Integer i x s v = with_item (first i) (later (rest i) x s v)
weave later part.X87 i x s v = with_item (first x) (later i (rest x) s v)
weave later part.Sse i x s v = with_item (first s) (later i x (rest s) v)
weave later part.Vex i x s v = with_item (first v) (later i x s (rest v))

-- the rows that spots name, taken from four lists in order
unfoldable pub woven : List Spot → List Row → List Row → List Row → List Row → List Row
woven [] i x s v = []
woven (spot ∷ ss) i x s v = weave (λ a b c d. woven ss a b c d) spot.part i x s v

-- the rows at these spots are woven from what is left of the parts
abbrev IsWoven : List Spot → ℕ → ℕ → ℕ → ℕ → Type 0
IsWoven ss i x s v = rows_in ss ≡ woven ss (behind i integer_rows) (behind x x87_rows) (behind s sse_rows) (behind v vex_rows)

next : (rows : List Row) (at k : ℕ) (later : List Row) (f : List Row → List Row) → at ≡ k → later ≡ f (behind (suc k) rows)
    → with_item (slice_get rows at) later ≡ with_item (first (behind k rows)) (f (rest (behind k rows)))
next rows at k later f is e =
    ap (λ n. with_item (slice_get rows n) later) is
    ∙ ap (λ o. with_item o later) (sym (first-behind k rows))
    ∙ ap (with_item (first (behind k rows))) (e ∙ ap f (sym (rest-behind k rows)))

step : (p : Part) (at : ℕ) (ss : List Spot) → ((i x s v : ℕ) → in_turn ss i x s v ≡ true → IsWoven ss i x s v) → (i x s v : ℕ)
    → turn (λ a b c d. in_turn ss a b c d) p at i x s v ≡ true
    → with_item (slice_get (part_table p) at) (rows_in ss)
    ≡ weave (λ a b c d. woven ss a b c d) p (behind i integer_rows) (behind x x87_rows) (behind s sse_rows) (behind v vex_rows)
step part.Integer at ss later i x s v h =
    let t = and_parts (at == i) (in_turn ss (suc i) x s v) h in
    next integer_rows at i (rows_in ss) (λ l. woven ss l (behind x x87_rows) (behind s sse_rows) (behind v vex_rows)) (eqb-true at i t.0)
    (later (suc i) x s v t.1)
step part.X87 at ss later i x s v h =
    let t = and_parts (at == x) (in_turn ss i (suc x) s v) h in
    next x87_rows at x (rows_in ss) (λ l. woven ss (behind i integer_rows) l (behind s sse_rows) (behind v vex_rows)) (eqb-true at x t.0)
    (later i (suc x) s v t.1)
step part.Sse at ss later i x s v h =
    let t = and_parts (at == s) (in_turn ss i x (suc s) v) h in
    next sse_rows at s (rows_in ss) (λ l. woven ss (behind i integer_rows) (behind x x87_rows) l (behind v vex_rows)) (eqb-true at s t.0)
    (later i x (suc s) v t.1)
step part.Vex at ss later i x s v h =
    let t = and_parts (at == v) (in_turn ss i x s (suc v)) h in
    next vex_rows at v (rows_in ss) (λ l. woven ss (behind i integer_rows) (behind x x87_rows) (behind s sse_rows) l) (eqb-true at v t.0)
    (later i x s (suc v) t.1)

is-woven : (ss : List Spot) (i x s v : ℕ) → in_turn ss i x s v ≡ true → IsWoven ss i x s v
unfolding in_turn rows_in woven
is-woven [] i x s v h = refl
is-woven (spot ∷ ss) i x s v h = step spot.part spot.at ss (λ a b c d t. is-woven ss a b c d t) i x s v h

are_in_turn : in_turn spots 0 0 0 0 ≡ true
unfolding in_turn spots
are_in_turn = refl

-- the table as it is computed in one walk
unfoldable pub woven_table : List Row
unfolding woven spots
woven_table = woven spots integer_rows x87_rows sse_rows vex_rows

-- the table is woven from its four parts
pub table-woven : table ≡ woven_table
unfolding table woven_table
table-woven = is-woven spots 0 0 0 0 are_in_turn

-- a test of the table, computed in one walk
pub by_walk : (test : List Row → Bool) → test woven_table ≡ true → test table ≡ true
by_walk test h = ap test table-woven ∙ h
