-- Rows of one cell that no values meet together.
use Rattle.std.proofs.Common.{◌≡◌, ℕ, zero, suc, ◌<◌, ◌≤◌, Bool, true, false, not, ◌&&◌, ◌||◌, List, [], ◌∷◌, length, refl, sym, ◌∙◌, arith, inl, inr, eqb-true, eq-eqb, lit<}
use Rattle.std.proofs.lemmas.Bool.{and_parts}
use Rattle.instruction_parts.specs.RowFields.Candidates.{Cand, Coded, rows_with_codes, of_number, at_opcode, cands, alive, below}
use Rattle.instruction_parts.proofs.RowFields.Cands.{alive-cands, below-at}
use Rattle.std.specs.Prelude.{◌==◌, ◌⊎◌}
use Rattle.instruction_parts.specs.declared.row_types.Row.{Row}
use Rattle.instruction_parts.specs.declared.row_types.Map.{Map}
use Rattle.instruction_parts.specs.declared.row_types.Map.TheVariants as map
use Rattle.x86_values.specs.declared.Bits.{Bits}
use Rattle.x86_values.specs.declared.Bits.TheVariants.{B16, B32, B64}
use Rattle.instruction_parts.specs.declared.row_fields.Fields.{Fields}
use Rattle.instruction_parts.specs.RowFields.Holds.{map_number, codes_holding}
use Rattle.instruction_parts.specs.RowFields.Masks.{Mask, free, only, oneof, nth, allows, meets, values}

-- no value is allowed by both masks
unfoldable pub disjoint : List Bool → List Bool → Bool
disjoint [] ys = true
disjoint (a ∷ xs) [] = true
disjoint (true ∷ xs) (true ∷ ys) = false
disjoint (true ∷ xs) (false ∷ ys) = disjoint xs ys
disjoint (false ∷ xs) (b ∷ ys) = disjoint xs ys

-- no value is in both
unfoldable pub mask_apart : Mask → Mask → Bool
unfolding disjoint nth
mask_apart (only a) (only b) = not (a == b)
mask_apart (only a) (oneof ys) = not (nth ys a)
mask_apart (oneof xs) (only b) = not (nth xs b)
mask_apart (oneof xs) (oneof ys) = disjoint xs ys
mask_apart _ _ = false

-- one of nine pairs of masks is disjoint
unfoldable pub masks_apart : List Mask → List Mask → Bool
unfolding mask_apart
masks_apart [] ns = false
masks_apart (m ∷ ms) [] = false
masks_apart (m ∷ ms) (n ∷ ns) = mask_apart m n || masks_apart ms ns

-- a candidate is apart from all of a list
unfoldable pub apart_from : Cand → List Cand → Bool
unfolding masks_apart
apart_from c [] = true
apart_from c (d ∷ ds) = masks_apart c.masks d.masks && apart_from c ds

-- any two candidates of a list are apart
unfoldable pub all_apart : List Cand → Bool
unfolding apart_from
all_apart [] = true
all_apart (c ∷ cs) = apart_from c cs && all_apart cs

disjoint-nth : (xs ys : List Bool) (v : ℕ) → disjoint xs ys ≡ true → nth xs v ≡ true → nth ys v ≡ true → ⊥
unfolding disjoint nth
disjoint-nth [] ys v d p q = cc
disjoint-nth (a ∷ xs) [] v d p q = cc
disjoint-nth (true ∷ xs) (true ∷ ys) v d p q = cc
disjoint-nth (true ∷ xs) (false ∷ ys) zero d p q = cc
disjoint-nth (true ∷ xs) (false ∷ ys) (suc v) d p q = disjoint-nth xs ys v d p q
disjoint-nth (false ∷ xs) (b ∷ ys) zero d p q = cc
disjoint-nth (false ∷ xs) (b ∷ ys) (suc v) d p q = disjoint-nth xs ys v d p q

not-both : (b : Bool) → not b ≡ true → b ≡ true → ⊥
not-both true h p = cc
not-both false h p = cc

mask_apart-allows : (m n : Mask) (v : ℕ) → mask_apart m n ≡ true → allows m v ≡ true → allows n v ≡ true → ⊥
unfolding mask_apart allows
mask_apart-allows (only a) (only b) v h p q =
    not-both (a == b) h (eq-eqb a b (sym (eqb-true v a p) ∙ eqb-true v b q))
mask_apart-allows (only a) (oneof ys) v h p q = let e : v ≡ a = eqb-true v a p in not-both (nth ys a) h (rw (← e) q)
mask_apart-allows (oneof xs) (only b) v h p q = let e : v ≡ b = eqb-true v b q in not-both (nth xs b) h (rw (← e) p)
mask_apart-allows (oneof xs) (oneof ys) v h p q = disjoint-nth xs ys v h p q
mask_apart-allows free n v h p q = cc
mask_apart-allows (only a) free v h p q = cc
mask_apart-allows (oneof xs) free v h p q = cc

or-either : (a b : Bool) → (a || b) ≡ true → (a ≡ true) ⊎ (b ≡ true)
or-either true b h = inl refl
or-either false b h = inr h

masks_apart-meets : (ms ns : List Mask) (vs : List ℕ) → masks_apart ms ns ≡ true → meets ms vs ≡ true → meets ns vs ≡ true → ⊥
unfolding masks_apart meets
masks_apart-meets [] ns vs h p q = cc
masks_apart-meets (m ∷ ms) [] vs h p q = cc
masks_apart-meets (m ∷ ms) (n ∷ ns) [] h p q =
    elim (or-either (mask_apart m n) (masks_apart ms ns) h) [
      | inl a ↦ mask_apart-allows m n 0 a (and_parts (allows m 0) (meets ms []) p).0 (and_parts (allows n 0) (meets ns []) q).0
      | inr a ↦ masks_apart-meets ms ns [] a (and_parts (allows m 0) (meets ms []) p).1 (and_parts (allows n 0) (meets ns []) q).1
    ]
masks_apart-meets (m ∷ ms) (n ∷ ns) (v ∷ vs) h p q =
    elim (or-either (mask_apart m n) (masks_apart ms ns) h) [
      | inl a ↦ mask_apart-allows m n v a (and_parts (allows m v) (meets ms vs) p).0 (and_parts (allows n v) (meets ns vs) q).0
      | inr a ↦ masks_apart-meets ms ns vs a (and_parts (allows m v) (meets ms vs) p).1 (and_parts (allows n v) (meets ns vs) q).1
    ]

-- a truth value is true or false
pub bool_cases : (b : Bool) → (b ≡ true) ⊎ (b ≡ false)
bool_cases true = inl refl
bool_cases false = inr refl

-- where one candidate is met, those apart from it are not
apart_from-alive : (c : Cand) (cs : List Cand) (vs : List ℕ) → apart_from c cs ≡ true → meets c.masks vs ≡ true → alive cs vs ≡ []
unfolding apart_from alive
apart_from-alive c [] vs h p = refl
apart_from-alive c (d ∷ ds) vs h p =
    elim (bool_cases (meets d.masks vs)) [
      | inl q ↦ absurd (masks_apart-meets c.masks d.masks vs (and_parts (masks_apart c.masks d.masks) (apart_from c ds) h).0 p q)
      | inr q ↦ rw q (apart_from-alive c ds vs (and_parts (masks_apart c.masks d.masks) (apart_from c ds) h).1 p)
    ]

-- of candidates that are apart at most one allows some values
pub alive-all_apart : (cs : List Cand) (vs : List ℕ) → all_apart cs ≡ true → length (alive cs vs) ≤ 1
unfolding all_apart alive
alive-all_apart [] vs h = omega arith
alive-all_apart (c ∷ cs) vs h =
    elim (bool_cases (meets c.masks vs)) [
      | inl q ↦ rw q (rw (apart_from-alive c cs vs (and_parts (apart_from c cs) (all_apart cs) h).0 q) (omega arith))
      | inr q ↦ rw q (alive-all_apart cs vs (and_parts (apart_from c cs) (all_apart cs) h).1)
    ]

-- The test over a table: every cell in every mode.

-- the rows of an opcode byte are apart, in each mode
unfoldable pub cell_apart : ℕ → List Coded → Bool
unfolding all_apart
cell_apart op cell = all_apart (cands B16 op cell) && (all_apart (cands B32 op cell) && all_apart (cands B64 op cell))

-- the rows of a kind and map are apart at each opcode byte
unfoldable pub kind_apart : List Coded → Bool
unfolding below
kind_apart rows = below 256 (λ op. cell_apart op (at_opcode op rows))

-- the rows of a table are apart in each cell
unfoldable pub table_apart : List Row → Bool
unfolding below
table_apart rows = below 8 (λ number. kind_apart (of_number number (rows_with_codes 0 rows)))

-- the number of a kind and map is below 8
pub map_number-lt : (v : Bool) (m : Map) → map_number v m < 8
map_number-lt false map.One = lit< tt
map_number-lt false map.M0f = lit< tt
map_number-lt false map.M0f38 = lit< tt
map_number-lt false map.M0f3a = lit< tt
map_number-lt true map.One = lit< tt
map_number-lt true map.M0f = lit< tt
map_number-lt true map.M0f38 = lit< tt
map_number-lt true map.M0f3a = lit< tt

cell_apart-mode : (op : ℕ) (cell : List Coded) (bits : Bits) → cell_apart op cell ≡ true → all_apart (cands bits op cell) ≡ true
unfolding cell_apart
cell_apart-mode op cell B16 h =
    (and_parts (all_apart (cands B16 op cell)) (all_apart (cands B32 op cell) && all_apart (cands B64 op cell)) h).0
cell_apart-mode op cell B32 h =
    (and_parts (all_apart (cands B32 op cell)) (all_apart (cands B64 op cell))
    (and_parts (all_apart (cands B16 op cell)) (all_apart (cands B32 op cell) && all_apart (cands B64 op cell)) h).1).0
cell_apart-mode op cell B64 h =
    (and_parts (all_apart (cands B32 op cell)) (all_apart (cands B64 op cell))
    (and_parts (all_apart (cands B16 op cell)) (all_apart (cands B32 op cell) && all_apart (cands B64 op cell)) h).1).1

-- where the test says yes, at most one row holds, in each mode and on all fields
pub at_most_one : (rows : List Row) → table_apart rows ≡ true → (bits : Bits) (f : Fields) → f.opcode < 256
    → length (codes_holding bits 0 rows f) ≤ 1
unfolding table_apart kind_apart
at_most_one rows h bits f lt =
    let number : ℕ = map_number f.vex f.map in
    let kept : List Coded = of_number number (rows_with_codes 0 rows) in
    let of_kind : kind_apart kept ≡ true =
    below-at 8 (λ n. kind_apart (of_number n (rows_with_codes 0 rows))) number h (map_number-lt f.vex f.map) in
    let of_cell : cell_apart f.opcode (at_opcode f.opcode kept) ≡ true =
    below-at 256 (λ op. cell_apart op (at_opcode op kept)) f.opcode of_kind lt in
    rw (← alive-cands bits 0 rows f)
    (alive-all_apart (cands bits f.opcode (at_opcode f.opcode kept)) (values bits f)
    (cell_apart-mode f.opcode (at_opcode f.opcode kept) bits of_cell))
