-- Each spot has its row.
use Rattle.std.proofs.Common.{◌≡◌, ℕ, zero, suc, Bool, true, ◌&&◌, is_some, List, [], ◌∷◌, length, slice_get, ◌<◌, refl, ap, sym, ◌∙◌, arith, ltb-true}
use Rattle.std.proofs.lemmas.Bool.{and_parts}
use Rattle.std.specs.Prelude.{Option, Some, None, nat_lt}
use Rattle.std.proofs.lemmas.Option.{slice_get_within}
use Rattle.instruction_parts.specs.declared.row_types.Row.{Row}
use Rattle.opcode_rows.specs.Parts.{integer_rows, integer_flat, x87_rows, x87_flat, sse_rows, sse_flat, vex_rows, vex_flat}
use Rattle.opcode_rows.specs.declared.spot.Spot.{Spot}
use Rattle.opcode_rows.specs.declared.spot.Part.{Part}
use Rattle.opcode_rows.specs.declared.spot.Part.TheVariants as part
use Rattle.opcode_rows.specs.declared.generated_spots.TheConstants.{ROWS}
use Rattle.opcode_rows.specs.Table.{part_table, spots, with_item, rows_in, table}

unfoldable all_there : List Spot → Bool
all_there [] = true
all_there (s ∷ ss) = is_some (slice_get (part_table s.part) s.at) && all_there ss

-- how many rows a part has, by how many each has
abbrev bound : Part → ℕ → ℕ → ℕ → ℕ → ℕ
bound part.Integer i x s v = i
bound part.X87 i x s v = x
bound part.Sse i x s v = s
bound part.Vex i x s v = v

-- each spot is within its part
unfoldable within : ℕ → ℕ → ℕ → ℕ → List Spot → Bool
within i x s v [] = true
within i x s v (spot ∷ ss) = nat_lt spot.at (bound spot.part i x s v) && within i x s v ss

are_within : within (length integer_rows) (length x87_rows) (length sse_rows) (length vex_rows) spots ≡ true
unfolding within spots integer_rows integer_flat x87_rows x87_flat sse_rows sse_flat vex_rows vex_flat
are_within = refl

some-within : (rows : List Row) (k : ℕ) → k < length rows → is_some (slice_get rows k) ≡ true
some-within [] k lt = absurd (omega arith)
some-within (r ∷ rs) zero lt = refl
some-within (r ∷ rs) (suc k) lt = some-within rs k (omega arith)

bound-is : (p : Part) → bound p (length integer_rows) (length x87_rows) (length sse_rows) (length vex_rows) ≡ length (part_table p)
bound-is part.Integer = refl
bound-is part.X87 = refl
bound-is part.Sse = refl
bound-is part.Vex = refl

there-within : (ss : List Spot) → within (length integer_rows) (length x87_rows) (length sse_rows) (length vex_rows) ss ≡ true → all_there ss ≡ true
unfolding within all_there
there-within [] h = refl
there-within (spot ∷ ss) h =
    let t =
    and_parts (nat_lt spot.at (bound spot.part (length integer_rows) (length x87_rows) (length sse_rows) (length vex_rows)))
    (within (length integer_rows) (length x87_rows) (length sse_rows) (length vex_rows) ss) h
    in
    let lt : spot.at < length (part_table spot.part) =
    rw (bound-is spot.part) at (ltb-true spot.at (bound spot.part (length integer_rows) (length x87_rows) (length sse_rows) (length vex_rows)) t.0)
    in
    rw (some-within (part_table spot.part) spot.at lt) (there-within ss t.1)

are_there : all_there spots ≡ true
are_there = there-within spots are_within

some-known : (o : Option Row) → is_some o ≡ true → (r : Row) × (o ≡ Some r)
some-known None h = cc
some-known (Some r) h = (r, refl)

item-front : (o : Option Row) (r : Row) (rows : List Row) → o ≡ Some r → slice_get (with_item o rows) 0 ≡ Some r
item-front o r rows e = rw e refl

item-later : (o : Option Row) (r : Row) (rows : List Row) (k : ℕ) → o ≡ Some r → slice_get (with_item o rows) (suc k) ≡ slice_get rows k
item-later o r rows k e = rw e refl

rows_in-get : (ss : List Spot) (k : ℕ) (s : Spot) → all_there ss ≡ true → slice_get ss k ≡ Some s
    → (r : Row) × (slice_get (part_table s.part) s.at ≡ Some r) × (slice_get (rows_in ss) k ≡ Some r)
unfolding all_there rows_in
rows_in-get [] k s h at = cc
rows_in-get (x ∷ ss) zero s h at =
    let same : x ≡ s = cc in
    let k = some-known (slice_get (part_table x.part) x.at) (and_parts (is_some (slice_get (part_table x.part) x.at)) (all_there ss) h).0 in
    (k.0, ap (λ y. slice_get (part_table y.part) y.at) (sym same) ∙ k.1, item-front (slice_get (part_table x.part) x.at) k.0 (rows_in ss) k.1)
rows_in-get (x ∷ ss) (suc k) s h at =
    let here = some-known (slice_get (part_table x.part) x.at) (and_parts (is_some (slice_get (part_table x.part) x.at)) (all_there ss) h).0 in
    let t = rows_in-get ss k s (and_parts (is_some (slice_get (part_table x.part) x.at)) (all_there ss) h).1 at in
    (t.0, t.1, item-later (slice_get (part_table x.part) x.at) here.0 (rows_in ss) k here.1 ∙ t.2)

length-rows_in : (ss : List Spot) → all_there ss ≡ true → length (rows_in ss) ≡ length ss
unfolding all_there rows_in
length-rows_in [] h = refl
length-rows_in (x ∷ ss) h =
    let here = some-known (slice_get (part_table x.part) x.at) (and_parts (is_some (slice_get (part_table x.part) x.at)) (all_there ss) h).0 in
    rw here.1 (ap suc (length-rows_in ss (and_parts (is_some (slice_get (part_table x.part) x.at)) (all_there ss) h).1))

-- there is a spot for each row
pub length-spots : length spots ≡ ROWS
unfolding spots
length-spots = refl

-- the table has ROWS rows
pub length-table : length table ≡ ROWS
unfolding table
length-table = length-rows_in spots are_there ∙ length-spots

-- each spot leads to its row of the table
pub row-there : (k : ℕ) (s : Spot) → slice_get spots k ≡ Some s → (r : Row) × (slice_get (part_table s.part) s.at ≡ Some r) × (slice_get table k ≡ Some r)
unfolding table
row-there k s at = rows_in-get spots k s are_there at

-- ---- a test of every row of every part is one of every row of the table

-- a test holds of all rows of a list
unfoldable pub all_rows : (Row → Bool) → List Row → Bool
all_rows p [] = true
all_rows p (r ∷ rs) = p r && all_rows p rs

all_rows-at : (p : Row → Bool) (rows : List Row) (k : ℕ) (r : Row) → all_rows p rows ≡ true → slice_get rows k ≡ Some r → p r ≡ true
unfolding all_rows
all_rows-at p [] k r h at = cc
all_rows-at p (x ∷ rs) zero r h at =
    let same : x ≡ r = cc in
    ap p (sym same) ∙ (and_parts (p x) (all_rows p rs) h).0
all_rows-at p (x ∷ rs) (suc k) r h at = all_rows-at p rs k r (and_parts (p x) (all_rows p rs) h).1 at

slice_get-known : (ss : List Spot) (k : ℕ) → k < length ss → (s : Spot) × (slice_get ss k ≡ Some s)
slice_get-known [] k lt = absurd (omega arith)
slice_get-known (s ∷ ss) zero lt = (s, refl)
slice_get-known (s ∷ ss) (suc k) lt = slice_get-known ss k (omega arith)

some-inj : (q r : Row) → Some q ≡ Some r → q ≡ r
some-inj q r e = cc

-- what holds of the rows of each part holds of every row of the table
pub in_each_part : (p : Row → Bool) → ((part : Part) → all_rows p (part_table part) ≡ true)
    → (code : ℕ) (row : Row) → slice_get table code ≡ Some row → p row ≡ true
in_each_part p h code row at =
    let lt : code < length table = slice_get_within table code row at in
    let lt' : code < length spots = omega (arith, lt, length-table, length-spots) in
    let s = slice_get-known spots code lt' in
    let t = row-there code s.0 s.1 in
    let same : t.0 ≡ row = some-inj t.0 row (sym t.2 ∙ at) in
    ap p (sym same) ∙ all_rows-at p (part_table s.0.part) s.0.at t.0 (h s.0.part) t.1
