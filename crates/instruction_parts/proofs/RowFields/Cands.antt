-- The rows of a cell as candidates, each a code with the masks that are not yet known to be met.
use Rattle.std.proofs.Common.{◌≡◌, ℕ, zero, suc, ◌<◌, Bool, true, false, ◌&&◌, List, [], ◌∷◌, refl, ap, sym, ◌∙◌, arith, inl, inr, eqb-true}
use Rattle.std.proofs.lemmas.Bool.{cases_lt, and_parts}
use Rattle.std.specs.Prelude.{◌==◌}
use Rattle.instruction_parts.specs.declared.row_types.Row.{Row}
use Rattle.x86_values.specs.declared.Bits.{Bits}
use Rattle.instruction_parts.specs.Sizes.{exists_in}
use Rattle.instruction_parts.specs.declared.row_fields.Fields.{Fields}
use Rattle.instruction_parts.specs.RowFields.Holds.{holds, keep_if, codes_holding, is_vex, opcode_holds, map_number}
use Rattle.instruction_parts.specs.RowFields.Masks.{Mask, free, only, oneof, allows, meets, masks, values}
use Rattle.instruction_parts.proofs.RowFields.MaskLemmas.{holds-masks}
use Rattle.instruction_parts.specs.RowFields.Candidates.{Coded, Cand, rows_with_codes, of_number, at_opcode, cands, alive, mask_at, value_at, clear, keep, is_empty, is_free, all_free, is_one, below}

-- a row stays among those at an opcode byte exactly if it is there
pub at_opcode-keep_if : (op : ℕ) (b : Bool) (c : Coded) (cs : List Coded)
    → at_opcode op (keep_if b c cs) ≡ keep_if (b && opcode_holds c.row.plus c.row.opcode op) c (at_opcode op cs)
unfolding at_opcode
at_opcode-keep_if op true c cs = refl
at_opcode-keep_if op false c cs = refl

cands-keep_if : (bits : Bits) (op : ℕ) (b : Bool) (c : Coded) (cs : List Coded)
    → cands bits op (keep_if b c cs)
    ≡ keep_if (b && exists_in bits c.row) (record { code = c.code; masks = masks bits op c.row }) (cands bits op cs)
unfolding cands
cands-keep_if bits op true c cs = refl
cands-keep_if bits op false c cs = refl

alive-keep_if : (b : Bool) (c : Cand) (cs : List Cand) (vs : List ℕ)
    → alive (keep_if b c cs) vs ≡ keep_if (b && meets c.masks vs) c.code (alive cs vs)
unfolding alive
alive-keep_if true c cs vs = refl
alive-keep_if false c cs vs = refl

and-assoc : (a b c : Bool) → ((a && b) && c) ≡ (a && (b && c))
and-assoc true b c = refl
and-assoc false b c = refl

-- the candidates of the fields' own cell are right
pub alive-cands : (bits : Bits) (first : ℕ) (rows : List Row) (f : Fields)
    → alive (cands bits f.opcode (at_opcode f.opcode (of_number (map_number f.vex f.map) (rows_with_codes first rows)))) (values bits f)
    ≡ codes_holding bits first rows f
unfolding rows_with_codes of_number at_opcode cands alive codes_holding
alive-cands bits first [] f = refl
alive-cands bits first (r ∷ rs) f =
    let c : Coded = record { code = first; row = r } in
    let d : Cand = record { code = first; masks = masks bits f.opcode r } in
    let number : ℕ = map_number f.vex f.map in
    let here : Bool = map_number (is_vex r.kind) r.map == number in
    let there : Bool = opcode_holds r.plus r.opcode f.opcode in
    let rest : List Coded = of_number number (rows_with_codes (suc first) rs) in
    ap (λ x. alive (cands bits f.opcode x) (values bits f)) (at_opcode-keep_if f.opcode here c rest)
    ∙ ap (λ x. alive x (values bits f)) (cands-keep_if bits f.opcode (here && there) c (at_opcode f.opcode rest))
    ∙ alive-keep_if ((here && there) && exists_in bits r) d (cands bits f.opcode (at_opcode f.opcode rest)) (values bits f)
    ∙ ap (λ x. keep_if x first (alive (cands bits f.opcode (at_opcode f.opcode rest)) (values bits f)))
    (and-assoc (here && there) (exists_in bits r) (meets (masks bits f.opcode r) (values bits f)) ∙ sym (holds-masks bits r f))
    ∙ ap (λ x. keep_if (holds bits r f) first x) (alive-cands bits (suc first) rs f)

-- Splits.

and-swap : (a b c : Bool) → (a && (b && c)) ≡ (b && (a && c))
and-swap true b c = refl
and-swap false true c = refl
and-swap false false c = refl

meets-clear : (ms : List Mask) (vs : List ℕ) (k : ℕ) → (allows (mask_at ms k) (value_at vs k) && meets (clear ms k) vs) ≡ meets ms vs
unfolding meets allows mask_at value_at clear
meets-clear [] vs k = refl
meets-clear (m ∷ ms) [] zero = refl
meets-clear (m ∷ ms) (v ∷ vs) zero = refl
meets-clear (m ∷ ms) [] (suc k) =
    and-swap (allows (mask_at ms k) 0) (allows m 0) (meets (clear ms k) []) ∙ ap (λ x. allows m 0 && x) (meets-clear ms [] k)
meets-clear (m ∷ ms) (v ∷ vs) (suc k) =
    and-swap (allows (mask_at ms k) (value_at vs k)) (allows m v) (meets (clear ms k) vs) ∙ ap (λ x. allows m v && x) (meets-clear ms vs k)

-- keeping the candidates that allow a value loses none that allow all values
pub alive-keep : (k : ℕ) (cs : List Cand) (vs : List ℕ) → alive (keep k (value_at vs k) cs) vs ≡ alive cs vs
unfolding alive keep
alive-keep k [] vs = refl
alive-keep k (c ∷ cs) vs =
    let d : Cand = record { code = c.code; masks = clear c.masks k } in
    alive-keep_if (allows (mask_at c.masks k) (value_at vs k)) d (keep k (value_at vs k) cs) vs
    ∙ ap (λ x. keep_if x c.code (alive (keep k (value_at vs k) cs) vs)) (meets-clear c.masks vs k)
    ∙ ap (λ x. keep_if (meets c.masks vs) c.code x) (alive-keep k cs vs)

-- Ends.

-- of no candidates none allows the values
pub alive-is_empty : (cs : List Cand) (vs : List ℕ) → is_empty cs ≡ true → alive cs vs ≡ []
unfolding is_empty alive
alive-is_empty [] vs h = refl
alive-is_empty (c ∷ cs) vs h = cc

meets-all_free : (ms : List Mask) (vs : List ℕ) → all_free ms ≡ true → meets ms vs ≡ true
unfolding all_free is_free meets allows
meets-all_free [] vs h = refl
meets-all_free (free ∷ ms) [] h = meets-all_free ms [] h
meets-all_free (free ∷ ms) (v ∷ vs) h = meets-all_free ms vs h
meets-all_free (only n ∷ ms) vs h = cc
meets-all_free (oneof bs ∷ ms) vs h = cc

-- one candidate with free masks is the only one that allows the values
pub alive-is_one : (code : ℕ) (cs : List Cand) (vs : List ℕ) → is_one code cs ≡ true → alive cs vs ≡ code ∷ []
unfolding is_one alive
alive-is_one code [] vs h = cc
alive-is_one code (c ∷ []) vs h =
    let same : c.code ≡ code = eqb-true c.code code (and_parts (c.code == code) (all_free c.masks) h).0 in
    rw (meets-all_free c.masks vs (and_parts (c.code == code) (all_free c.masks) h).1) (ap (λ x. x ∷ []) same)
alive-is_one code (c ∷ d ∷ cs) vs h = cc

-- Tests of each number below another.

-- a test that is computed as true below n holds at each number below n
pub below-at : (n : ℕ) (p : ℕ → Bool) (k : ℕ) → below n p ≡ true → k < n → p k ≡ true
unfolding below
below-at zero p k h lt = absurd (omega arith)
below-at (suc n) p k h lt =
    elim (cases_lt k n) [
      | inl l ↦ below-at n p k (and_parts (p n) (below n p) h).1 l
      | inr g ↦ (let e : k ≡ n = omega arith in rw e (and_parts (p n) (below n p) h).0)
    ]
