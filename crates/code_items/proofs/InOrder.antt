-- The instructions that are read one behind the other: each begins where the one before it ends, and the last ends where the bytes do.
use Rattle.std.proofs.Common.{◌≡◌, ℕ, zero, suc, ◌+◌, ◌-◌, ◌<◌, true, not, List, [], ◌∷◌, length, drop, Option, None, Some, sym, ap, ◌∙◌, arith, length-drop}
use Rattle.std.specs.Prelude.{◌==◌}
use Rattle.std.proofs.lemmas.Bool.{eq-eqb, ne_eqb, cond-false, or_left, or_right}
use Rattle.x86_values.specs.declared.Bits.{Bits}
use Rattle.branch_sizes.specs.declared.plan.BlockSpan.{BlockSpan}
use Rattle.branch_sizes.specs.Layout.{block_number, first_of_block}
use Rattle.branch_sizes.specs.Facts.{BlockFacts}
use Rattle.move_goals.specs.declared.items.Placed.{Placed}
use Rattle.move_goals.specs.Items.{item_at, old_end, one_span, begins_block, is_in_order, first_disorder, passes, block_old_end, first_old_pass}
use Rattle.move_goals.specs.Facts.{FirstFacts}
use Rattle.code_items.specs.Items.{ReadsUpTo}

-- ---- in order

follows : (bits : Bits) (ip : ℕ) (bytes : List ℕ) (items : List Placed) (ip' : ℕ) (rest : List ℕ) → ReadsUpTo bits ip bytes items ip' rest →
    (j : ℕ) → suc j < length items → (item_at items (suc j)).ip ≡ old_end (item_at items j)
follows bits ip bytes [] ip' rest h j lt = absurd (omega arith)
follows bits ip bytes (p ∷ []) ip' rest h j lt = absurd (omega arith)
follows bits ip bytes (p ∷ q ∷ ps) ip' rest h zero lt = h.1.0.address ∙ ap (λ (n : ℕ). n + p.len) (sym h.0.address)
follows bits ip bytes (p ∷ q ∷ ps) ip' rest h (suc j) lt = follows bits (ip + p.len) (drop p.len bytes) (q ∷ ps) ip' rest h.1 j (omega arith)

in_order : BlockFacts → (spans : List BlockSpan) (items : List Placed) →
    ((j : ℕ) → suc j < length items → (item_at items (suc j)).ip ≡ old_end (item_at items j)) →
    (k : ℕ) → k < length items → is_in_order spans items k ≡ true
in_order blocks spans items chain zero lt =
    let least = blocks.first_le spans zero in
    let here : first_of_block spans (block_number spans zero) ≡ zero = omega arith in
    or_left (begins_block spans zero) ((item_at items zero).ip == old_end (item_at items (zero - 1))) (eq-eqb _ _ here)
in_order blocks spans items chain (suc j) lt =
    let before : suc j - 1 ≡ j = omega arith in
    or_right
    (begins_block spans (suc j))
    ((item_at items (suc j)).ip == old_end (item_at items (suc j - 1)))
    (eq-eqb _ _ (chain j lt ∙ ap (λ (i : ℕ). old_end (item_at items i)) (sym before)))

-- instructions that were read are in order
pub no_disorder : BlockFacts → FirstFacts → (bits : Bits) (ip : ℕ) (bytes : List ℕ) (items : List Placed) (ip' : ℕ) (rest : List ℕ) →
    ReadsUpTo bits ip bytes items ip' rest → (new : ℕ) → first_disorder (one_span items new) items ≡ None
unfolding first_disorder
no_disorder blocks firsts bits ip bytes items ip' rest h new =
    firsts.first_below_none _ (length items) (λ j lt. ap not (in_order blocks (one_span items new) items (follows bits ip bytes items ip' rest h) j lt))

-- ---- the old end

-- where the first items end
pub end_is : (bits : Bits) (ip : ℕ) (bytes : List ℕ) (items : List Placed) (ip' : ℕ) (rest : List ℕ) → ReadsUpTo bits ip bytes items ip' rest →
    ip' + length rest ≡ ip + length bytes
end_is bits ip bytes [] ip' rest h = omega (arith, h.0, ap length h.1)
end_is bits ip bytes (p ∷ ps) ip' rest h =
    let within = h.0.within in
    omega (arith, end_is bits (ip + p.len) (drop p.len bytes) ps ip' rest h.1, length-drop p.len bytes)

last_end : (bits : Bits) (ip : ℕ) (bytes : List ℕ) (p : Placed) (ps : List Placed) (ip' : ℕ) (rest : List ℕ) → ReadsUpTo bits ip bytes (p ∷ ps) ip' rest →
    old_end (item_at (p ∷ ps) (length ps)) ≡ ip'
last_end bits ip bytes p [] ip' rest h = ap (λ (n : ℕ). n + p.len) h.0.address ∙ sym h.1.0
last_end bits ip bytes p (q ∷ ps) ip' rest h = last_end bits (ip + p.len) (drop p.len bytes) q ps ip' rest h.1

-- the end of one block is that of the bytes
block_end : (bits : Bits) (ip : ℕ) (bytes : List ℕ) (items : List Placed) (ip' : ℕ) → ReadsUpTo bits ip bytes items ip' [] → 0 < length items →
    (new : ℕ) → block_old_end (one_span items new) items 0 ≡ ip + length bytes
unfolding block_old_end
block_end bits ip bytes [] ip' h some new = absurd (omega arith)
block_end bits ip bytes (p ∷ ps) ip' h some new =
    let at : 0 + length (p ∷ ps) - 1 ≡ length ps = omega arith in
    let count = length (p ∷ ps) in
    cond-false (count == 0) new (old_end (item_at (p ∷ ps) (0 + count - 1))) (ne_eqb count 0 (λ e. omega (arith, e)))
    ∙ ap (λ (n : ℕ). old_end (item_at (p ∷ ps) n)) at
    ∙ (last_end bits ip bytes p ps ip' [] h ∙ omega (arith, end_is bits ip bytes (p ∷ ps) ip' [] h))

-- code that ends past the address space is refused for its old end
pub old_end_passes : FirstFacts → (bits : Bits) (ip : ℕ) (bytes : List ℕ) (items : List Placed) (ip' : ℕ) → ReadsUpTo bits ip bytes items ip' [] →
    0 < length items → passes bits (ip + length bytes) ≡ true → (new : ℕ) → first_old_pass bits (one_span items new) items ≡ Some (ip + length bytes)
unfolding first_old_pass
old_end_passes firsts bits ip bytes items ip' h some passing new =
    let ends = block_old_end (one_span items new) items in
    let end : ends 0 ≡ ip + length bytes = block_end bits ip bytes items ip' h some new in
    let there : passes bits (ends 0) ≡ true = ap (passes bits) end ∙ passing in
    let hit = firsts.first_below_hit (λ b. passes bits (ends b)) (length (one_span items new)) 0 (omega arith) there (λ j lt. absurd (omega arith)) in
    ap (λ (o : Option ℕ). elim o as (λ _. Option ℕ) [ Some b ↦ Some (ends b) | None ↦ None ]) hit ∙ ap Some end
