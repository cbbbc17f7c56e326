-- The rows of a cell as a run of codes.
use Rattle.std.proofs.Common.{◌≡◌, ℕ, zero, suc, pred, ◌+◌, ◌<◌, Bool, true, false, ◌&&◌, List, [], ◌∷◌, length, map, slice_get, refl, ap, sym, ◌∙◌, arith, inl, inr, eqb-true, nat_lt, ltb-true}
use Rattle.std.proofs.lemmas.Bool.{and_parts}
use Rattle.instruction_parts.specs.RowFields.Candidates.{Coded, rows_with_codes, of_number, at_opcode}
use Rattle.instruction_parts.proofs.RowFields.Cands.{at_opcode-keep_if}
use Rattle.std.specs.Prelude.{◌==◌, Some}
use Rattle.instruction_parts.specs.declared.row_types.Row.{Row}
use Rattle.instruction_parts.specs.RowFields.Holds.{keep_if, stands_in, is_vex, opcode_holds, map_number, rows_at}
use Rattle.instruction_parts.proofs.RowFields.Apart.{bool_cases}
use Rattle.instruction_parts.specs.RowFields.Candidates.{is_run}

-- a run has as many rows as its count
pub length-is_run : (first count : ℕ) (cs : List Coded) → is_run first count cs ≡ true → length cs ≡ count
unfolding is_run
length-is_run first count [] h = sym (eqb-true count 0 h)
length-is_run first count (c ∷ cs) h =
    let here : Bool = nat_lt 0 count && (c.code == first) in
    let rest : length cs ≡ pred count = length-is_run (suc first) (pred count) cs (and_parts here (is_run (suc first) (pred count) cs) h).1 in
    let some : 0 < count = ltb-true 0 count (and_parts (nat_lt 0 count) (c.code == first) (and_parts here (is_run (suc first) (pred count) cs) h).0).0 in
    omega (arith, rest, some)

-- and its codes follow one another
pub code-is_run : (first count : ℕ) (cs : List Coded) → is_run first count cs ≡ true → (i : ℕ) (c : Coded) → slice_get cs i ≡ Some c → c.code ≡ first + i
unfolding is_run
code-is_run first count [] h i c at = cc
code-is_run first count (x ∷ cs) h zero c at =
    let here : Bool = nat_lt 0 count && (x.code == first) in
    let same : x ≡ c = cc in
    let is : x.code ≡ first = eqb-true x.code first (and_parts (nat_lt 0 count) (x.code == first) (and_parts here (is_run (suc first) (pred count) cs) h).0).1 in
    rw (← same) (omega (arith, is))
code-is_run first count (x ∷ cs) h (suc i) c at =
    let here : Bool = nat_lt 0 count && (x.code == first) in
    let rest : c.code ≡ suc first + i = code-is_run (suc first) (pred count) cs (and_parts here (is_run (suc first) (pred count) cs) h).1 i c at in
    omega (arith, rest)

map-keep_if : (b : Bool) (c : Coded) (cs : List Coded) → map (λ x. x.row) (keep_if b c cs) ≡ keep_if b c.row (map (λ x. x.row) cs)
map-keep_if true c cs = refl
map-keep_if false c cs = refl

-- the rows of a cell are those from its first index on
pub rows-of_cell : (number op first : ℕ) (rows : List Row)
    → map (λ c. c.row) (at_opcode op (of_number number (rows_with_codes first rows))) ≡ rows_at number op rows
unfolding rows_with_codes of_number at_opcode rows_at
rows-of_cell number op first [] = refl
rows-of_cell number op first (r ∷ rs) =
    let c : Coded = record { code = first; row = r } in
    let here : Bool = map_number (is_vex r.kind) r.map == number in
    let rest : List Coded = of_number number (rows_with_codes (suc first) rs) in
    ap (λ x. map (λ d. d.row) x) (at_opcode-keep_if op here c rest)
    ∙ map-keep_if (here && opcode_holds r.plus r.opcode op) c (at_opcode op rest)
    ∙ ap (λ x. keep_if (stands_in r number op) r x) (rows-of_cell number op (suc first) rs)

-- a row of a cell stands in the table at its code
pub table-at_code : (number op first : ℕ) (rows : List Row) (i : ℕ) (c : Coded)
    → slice_get (at_opcode op (of_number number (rows_with_codes first rows))) i ≡ Some c → (k : ℕ) × (c.code ≡ first + k) × (slice_get rows k ≡ Some c.row)
unfolding rows_with_codes of_number at_opcode
table-at_code number op first [] i c at = cc
table-at_code number op first (r ∷ rs) i c at =
    let x : Coded = record { code = first; row = r } in
    let here : Bool = map_number (is_vex r.kind) r.map == number in
    let rest : List Coded = of_number number (rows_with_codes (suc first) rs) in
    let b : Bool = here && opcode_holds r.plus r.opcode op in
    let at' : slice_get (keep_if b x (at_opcode op rest)) i ≡ Some c = ap (λ l. slice_get l i) (sym (at_opcode-keep_if op here x rest)) ∙ at in
    let later : (j : ℕ) → slice_get (at_opcode op rest) j ≡ Some c → (k : ℕ) × (c.code ≡ first + k) × (slice_get (r ∷ rs) k ≡ Some c.row) =
    λ j h. (let t = table-at_code number op (suc first) rs j c h in
    let is : c.code ≡ suc first + t.0 = t.1 in
    (suc t.0, omega (arith, is), t.2))
    in
    elim (bool_cases b) [
      | inl p ↦ first_or_later first r rs c (at_opcode op rest) later i (rw p at at')
      | inr p ↦ later i (rw p at at')
    ]
  where
    first_or_later : (first : ℕ) (r : Row) (rs : List Row) (c : Coded) (ds : List Coded)
        → ((j : ℕ) → slice_get ds j ≡ Some c → (k : ℕ) × (c.code ≡ first + k) × (slice_get (r ∷ rs) k ≡ Some c.row))
        → (i : ℕ) → slice_get (record { code = first; row = r } ∷ ds) i ≡ Some c → (k : ℕ) × (c.code ≡ first + k) × (slice_get (r ∷ rs) k ≡ Some c.row)
    first_or_later first r rs c ds later zero h =
        let same : c ≡ record { code = first; row = r } = cc in
        let code : c.code ≡ first = ap (λ d. d.code) same in
        let row : r ≡ c.row = sym (ap (λ d. d.row) same) in
        (0, omega (arith, code), ap Some row)
    first_or_later first r rs c ds later (suc i) h = later i h
