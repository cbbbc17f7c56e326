-- The instructions that are read one behind the other: each is well placed, and begins where the one before it ends.
use Rattle.std.proofs.Common.{◌≡◌, ℕ, zero, suc, ◌+◌, ◌-◌, ◌<◌, ◌≤◌, true, not, List, [], ◌∷◌, ◌++◌, length, take, drop, None, refl, sym, ap, ◌∙◌, subst, arith, length-drop, drop-drop}
use Rattle.std.specs.Prelude.{◌==◌}
use Rattle.std.proofs.lemmas.Bool.{eq-eqb, or_left, or_right}
use Rattle.x86_values.specs.declared.Bits.{Bits}
use Rattle.x86_values.specs.declared.Decoded.{Decoded}
use Rattle.x86_values.specs.Wrapping.{modulo_width}
use Rattle.row_relation.specs.Spells.{Read, Spells}
use Rattle.opcode_rows.specs.Table.{table}
use Rattle.opcode_rows.specs.Reading.{IsRead}
use Rattle.branch_sizes.specs.declared.plan.BlockSpan.{BlockSpan}
use Rattle.branch_sizes.specs.Layout.{block_number, first_of_block}
use Rattle.branch_sizes.proofs.Totals.{first_le}
use Rattle.move_goals.specs.declared.items.Placed.{Placed}
use Rattle.move_goals.specs.Items.{item_at, old_end, ArePlaced, one_span, begins_block, is_in_order, first_disorder}
use Rattle.move_goals.proofs.First.{first_below_none}
use Rattle.c_calls.specs.Moving.{decoded_item, AreReadUpTo}

-- ---- one more instruction

-- a further instruction extends what was read
pub one_more : (bits : Bits) (ip : ℕ) (bytes : List ℕ) (items : List Placed) (ip' : ℕ) (rest : List ℕ) (p : Placed) →
    AreReadUpTo bits ip bytes items ip' rest → p.ip ≡ ip' → 1 ≤ p.len → p.len ≤ 15 → IsRead bits ip' rest (Read (decoded_item p)) →
    AreReadUpTo bits ip bytes (items ++ p ∷ []) (ip' + p.len) (drop p.len rest)
one_more bits ip bytes [] ip' rest p h e some few reads =
    let R : ℕ → Type 0 = λ n. IsRead bits n bytes (Read (decoded_item p)) in
    let R' : List ℕ → Type 0 = λ xs. IsRead bits ip' xs (Read (decoded_item p)) in
    (e ∙ h.0, some, few, subst R h.0 (subst R' h.1 reads), (ap (λ (n : ℕ). n + p.len) h.0, ap (drop p.len) h.1))
one_more bits ip bytes (q ∷ qs) ip' rest p h e some few reads =
    (h.0, h.1, h.2, h.3, one_more bits (ip + q.len) (drop q.len bytes) qs ip' rest p h.4 e some few reads)

-- some first instructions of the code were read, and its rest stands at this offset
pub record ReadSoFar (bits : Bits) (base : ℕ) (bytes : List ℕ) (at : ℕ) (items : List Placed) : Type 0 where
  pub reads : AreReadUpTo bits base bytes items (base + at) (drop at bytes)
  pub within : at ≤ length bytes

-- at the start nothing is read
pub so_far-start : (bits : Bits) (base : ℕ) (bytes : List ℕ) (items : List Placed) → items ≡ [] → ReadSoFar bits base bytes 0 items
so_far-start bits base bytes items none =
    let R : List Placed → Type 0 = λ xs. AreReadUpTo bits base bytes xs (base + 0) (drop 0 bytes) in
    record {
      reads = subst R (sym none) (omega arith, refl);
      within = omega arith;
    }

-- an instruction that is read is kept
pub so_far-step : (bits : Bits) (base : ℕ) (bytes : List ℕ) (at : ℕ) (items items' : List Placed) (d : Decoded) (p : Placed) → ReadSoFar bits base bytes at items →
    items' ≡ items ++ p ∷ [] → p ≡ record { ip = base + at; len = d.len; instr = d.instr } → 0 < d.len → d.len ≤ 15 → d.len ≤ length (drop at bytes) →
    IsRead bits (base + at) (drop at bytes) (Read d) → ReadSoFar bits base bytes (at + d.len) items'
so_far-step bits base bytes at items items' d p far e is some few within reads =
    let item : Placed = record { ip = base + at; len = d.len; instr = d.instr } in
    let more = one_more bits base bytes items (base + at) (drop at bytes) item far.reads refl (omega arith) few reads in
    let there : base + at + d.len ≡ base + (at + d.len) = omega arith in
    let R : ℕ → Type 0 = λ n. AreReadUpTo bits base bytes (items ++ item ∷ []) n (drop d.len (drop at bytes)) in
    let R' : List ℕ → Type 0 = λ xs. AreReadUpTo bits base bytes (items ++ item ∷ []) (base + (at + d.len)) xs in
    let R'' : List Placed → Type 0 = λ xs. AreReadUpTo bits base bytes xs (base + (at + d.len)) (drop (at + d.len) bytes) in
    let size = length-drop at bytes in
    let before = far.within in
    record {
      reads = subst R'' (ap (λ (q : Placed). items ++ q ∷ []) (sym is) ∙ sym e) (subst R' (drop-drop d.len at bytes ∙ ap (λ (n : ℕ). drop n bytes) (omega arith)) (subst R there more));
      within = omega arith;
    }

-- ---- each is well placed

-- instructions that were read are well placed
pub are_placed : (bits : Bits) (ip : ℕ) (bytes : List ℕ) (items : List Placed) (ip' : ℕ) (rest : List ℕ) → AreReadUpTo bits ip bytes items ip' rest → ArePlaced bits items
are_placed bits ip bytes [] ip' rest h k lt = absurd (omega arith)
are_placed bits ip bytes (p ∷ ps) ip' rest h zero lt =
    let S : ℕ → Type 0 = λ n. Spells table bits (modulo_width bits n) (take p.len bytes) p.instr in
    record {
      some = h.1;
      few = h.2;
      bytes = take p.len bytes;
      spelled = subst S (sym h.0) h.3.1;
    }
are_placed bits ip bytes (p ∷ ps) ip' rest h (suc k) lt = are_placed bits (ip + p.len) (drop p.len bytes) ps ip' rest h.4 k (omega arith)

-- ---- and in order

-- each begins where the one before it ends
pub follows : (bits : Bits) (ip : ℕ) (bytes : List ℕ) (items : List Placed) (ip' : ℕ) (rest : List ℕ) → AreReadUpTo bits ip bytes items ip' rest →
    (j : ℕ) → suc j < length items → (item_at items (suc j)).ip ≡ old_end (item_at items j)
follows bits ip bytes [] ip' rest h j lt = absurd (omega arith)
follows bits ip bytes (p ∷ []) ip' rest h j lt = absurd (omega arith)
follows bits ip bytes (p ∷ q ∷ ps) ip' rest h zero lt = h.4.0 ∙ ap (λ (n : ℕ). n + p.len) (sym h.0)
follows bits ip bytes (p ∷ q ∷ ps) ip' rest h (suc j) lt = follows bits (ip + p.len) (drop p.len bytes) (q ∷ ps) ip' rest h.4 j (omega arith)

in_order : (spans : List BlockSpan) (items : List Placed) → ((j : ℕ) → suc j < length items → (item_at items (suc j)).ip ≡ old_end (item_at items j)) →
    (k : ℕ) → k < length items → is_in_order spans items k ≡ true
in_order spans items chain zero lt =
    let least = first_le spans zero in
    let here : first_of_block spans (block_number spans zero) ≡ zero = omega arith in
    or_left (begins_block spans zero) ((item_at items zero).ip == old_end (item_at items (zero - 1))) (eq-eqb _ _ here)
in_order spans items chain (suc j) lt =
    let before : suc j - 1 ≡ j = omega arith in
    or_right
    (begins_block spans (suc j))
    ((item_at items (suc j)).ip == old_end (item_at items (suc j - 1)))
    (eq-eqb _ _ (chain j lt ∙ ap (λ (i : ℕ). old_end (item_at items i)) (sym before)))

-- so they are in order
pub no_disorder : (bits : Bits) (ip : ℕ) (bytes : List ℕ) (items : List Placed) (ip' : ℕ) (rest : List ℕ) → AreReadUpTo bits ip bytes items ip' rest →
    (new : ℕ) → first_disorder (one_span items new) items ≡ None
unfolding first_disorder
no_disorder bits ip bytes items ip' rest h new =
    first_below_none _ (length items) (λ j lt. ap not (in_order (one_span items new) items (follows bits ip bytes items ip' rest h) j lt))
