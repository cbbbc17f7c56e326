-- The instructions of swept blocks: each is well placed, begins where the one before it ends, and the blocks end where their bytes do.
use Rattle.std.proofs.Common.{◌≡◌, ℕ, zero, suc, ◌+◌, ◌-◌, ◌<◌, ◌≤◌, true, false, List, [], ◌∷◌, ◌++◌, length, take, drop, None, inl, inr, refl, sym, ap, ◌∙◌, subst, arith, length-append, length-drop, length-take}
use Rattle.std.specs.Prelude.{All, ◌==◌, nat_lt}
use Rattle.std.proofs.lemmas.Bool.{cases_lt, cases_Bool, cond-true, cond-false, lt-ltb, le-ltb, eq-eqb, ne_eqb, eqb-true, or_cases, or_left, or_right}
use Rattle.std.proofs.lemmas.List.{get_or_append_left, get_or-append_right}
use Rattle.std.proofs.lemmas.List.Elements.{All-nil, All-cons, All-head, All-tail, All-same}
use Rattle.x86_values.specs.declared.Bits.{Bits}
use Rattle.x86_values.specs.Wrapping.{modulo_width}
use Rattle.row_relation.specs.Spells.{Reading, Read, TooShort, Invalid, Spells}
use Rattle.opcode_rows.specs.Table.{table}
use Rattle.opcode_rows.specs.Sweep.{Item, IsReadAt, IsItemAt, Sweeps, item_len}
use Rattle.sweep.specs.SweepText.Lines.{error_of}
use Rattle.branch_sizes.specs.declared.plan.BlockSpan.{BlockSpan}
use Rattle.branch_sizes.specs.Layout.{total, block_number, first_of_block, span_at}
use Rattle.branch_sizes.specs.Facts.{BlockFacts}
use Rattle.move_goals.specs.declared.items.Placed.{Placed}
use Rattle.move_goals.specs.Items.{item_at, no_item, old_end, IsPlaced, begins_block, is_in_order, block_old_end}
use Rattle.moving_run.specs.Code.{IsInstruction, placed_by, placed_in}

-- ---- one instruction

-- an instruction that is read at an offset: where it stood
pub record IsOne (bits : Bits) (base offset at : ℕ) (reading : Reading) : Type 0 where
  pub item : Placed
  pub is : placed_by base at reading ≡ item ∷ []
  pub ip_is : item.ip ≡ base + offset
  pub len_is : item.len ≡ item_len reading
  pub placed : IsPlaced bits item

one_is : (bits : Bits) (base offset at : ℕ) (bytes : List ℕ) (reading : Reading) → at ≡ offset → IsReadAt bits base offset bytes reading →
    0 < item_len reading → error_of reading ≡ None → IsOne bits base offset at reading
unfolding IsReadAt
one_is bits base offset at bytes (Read d) place reads some e =
    let S : ℕ → Type 0 = λ n. Spells table bits (modulo_width bits (base + n)) (take d.len bytes) d.instr in
    let spells : Spells table bits (modulo_width bits (base + offset)) (take d.len bytes) d.instr = reads.1 in
    let short : length (take d.len bytes) ≤ 15 = spells.0 in
    record {
      item = record { ip = base + at; len = d.len; instr = d.instr };
      is = refl;
      ip_is = omega arith;
      len_is = refl;
      placed = record {
        some = omega arith;
        few = omega (arith, length-take d.len bytes, reads.0);
        bytes = take d.len bytes;
        spelled = subst S (sym place) spells;
      };
    }
one_is bits base offset at bytes TooShort place reads some e = absurd (cc)
one_is bits base offset at bytes Invalid place reads some e = absurd (cc)

-- an instruction of a sweep begins where the one before it ended
pub item_one : (bits : Bits) (base offset : ℕ) (bytes : List ℕ) (item : Item) → IsItemAt bits base offset bytes item → IsInstruction item →
    IsOne bits base offset item.offset item.reading
item_one bits base offset bytes item is_at e = one_is bits base offset item.offset bytes item.reading is_at.offset_is is_at.reads is_at.some e

-- the first of some instructions
first_one : (bits : Bits) (base offset : ℕ) (item : Item) (items : List Item) (one : IsOne bits base offset item.offset item.reading) →
    placed_in base (item ∷ items) ≡ one.item ∷ placed_in base items
first_one bits base offset item items one = ap (λ (xs : List Placed). xs ++ placed_in base items) one.is

-- ---- the instructions of a block

-- the instructions of a block are well placed
pub block_placed : (bits : Bits) (base offset : ℕ) (bytes : List ℕ) (items : List Item) (rest : List ℕ) → Sweeps bits base offset bytes items rest →
    All IsInstruction items → All (IsPlaced bits) (placed_in base items)
block_placed bits base offset bytes [] rest sweeps all = All-nil (IsPlaced bits)
block_placed bits base offset bytes (item ∷ items) rest sweeps all =
    let one = item_one bits base offset bytes item sweeps.0 (All-head IsInstruction item items all) in
    let more = block_placed bits base (offset + item_len item.reading) (drop (item_len item.reading) bytes) items rest sweeps.1 (All-tail IsInstruction item items all) in
    All-same (IsPlaced bits) _ _ (first_one bits base offset item items one) (All-cons (IsPlaced bits) one.item (placed_in base items) one.placed more)

first_ip : (bits : Bits) (base offset : ℕ) (bytes : List ℕ) (item : Item) (items : List Item) (rest : List ℕ) →
    Sweeps bits base offset bytes (item ∷ items) rest → All IsInstruction (item ∷ items) → (item_at (placed_in base (item ∷ items)) 0).ip ≡ base + offset
first_ip bits base offset bytes item items rest sweeps all =
    let one = item_one bits base offset bytes item sweeps.0 (All-head IsInstruction item items all) in
    ap (λ (xs : List Placed). (item_at xs 0).ip) (first_one bits base offset item items one) ∙ one.ip_is

-- each instruction but the first begins where the one before it ends
pub block_chain : (bits : Bits) (base offset : ℕ) (bytes : List ℕ) (items : List Item) (rest : List ℕ) → Sweeps bits base offset bytes items rest →
    All IsInstruction items → (j : ℕ) → suc j < length items →
    (item_at (placed_in base items) (suc j)).ip ≡ old_end (item_at (placed_in base items) j)
block_chain bits base offset bytes [] rest sweeps all j lt = absurd (omega arith)
block_chain bits base offset bytes (item ∷ []) rest sweeps all j lt = absurd (omega arith)
block_chain bits base offset bytes (item ∷ next ∷ items) rest sweeps all zero lt =
    let one = item_one bits base offset bytes item sweeps.0 (All-head IsInstruction item (next ∷ items) all) in
    let is = first_one bits base offset item (next ∷ items) one in
    let behind = first_ip bits base (offset + item_len item.reading) (drop (item_len item.reading) bytes) next items rest sweeps.1 (All-tail IsInstruction item (next ∷ items) all) in
    let ip_is = one.ip_is in
    let len_is = one.len_is in
    let here : (item_at (placed_in base (next ∷ items)) 0).ip ≡ old_end one.item = omega arith in
    ap (λ (xs : List Placed). (item_at xs 1).ip) is ∙ (here ∙ sym (ap (λ (xs : List Placed). old_end (item_at xs 0)) is))
block_chain bits base offset bytes (item ∷ next ∷ items) rest sweeps all (suc j) lt =
    let one = item_one bits base offset bytes item sweeps.0 (All-head IsInstruction item (next ∷ items) all) in
    let is = first_one bits base offset item (next ∷ items) one in
    let more = block_chain bits base (offset + item_len item.reading) (drop (item_len item.reading) bytes) (next ∷ items) rest sweeps.1 (All-tail IsInstruction item (next ∷ items) all) j (omega arith) in
    ap (λ (xs : List Placed). (item_at xs (suc (suc j))).ip) is ∙ (more ∙ sym (ap (λ (xs : List Placed). old_end (item_at xs (suc j))) is))

-- the last instruction of a block ends where its bytes do
pub block_last : (bits : Bits) (base offset : ℕ) (bytes : List ℕ) (item : Item) (items : List Item) → Sweeps bits base offset bytes (item ∷ items) [] →
    All IsInstruction (item ∷ items) → old_end (item_at (placed_in base (item ∷ items)) (length items)) ≡ base + offset + length bytes
block_last bits base offset bytes item [] sweeps all =
    let one = item_one bits base offset bytes item sweeps.0 (All-head IsInstruction item [] all) in
    let ip_is = one.ip_is in
    let len_is = one.len_is in
    let within = sweeps.0.within in
    let end : old_end one.item ≡ base + offset + length bytes = omega (arith, ap length sweeps.1, length-drop (item_len item.reading) bytes) in
    ap (λ (xs : List Placed). old_end (item_at xs 0)) (first_one bits base offset item [] one) ∙ end
block_last bits base offset bytes item (next ∷ items) sweeps all =
    let one = item_one bits base offset bytes item sweeps.0 (All-head IsInstruction item (next ∷ items) all) in
    let within = sweeps.0.within in
    let more = block_last bits base (offset + item_len item.reading) (drop (item_len item.reading) bytes) next items sweeps.1 (All-tail IsInstruction item (next ∷ items) all) in
    let whole : base + (offset + item_len item.reading) + length (drop (item_len item.reading) bytes) ≡ base + offset + length bytes
    = omega (arith, length-drop (item_len item.reading) bytes) in
    ap (λ (xs : List Placed). old_end (item_at xs (suc (length items)))) (first_one bits base offset item (next ∷ items) one) ∙ (more ∙ whole)

-- ---- a block in front of others

total_from_front : (f : ℕ → ℕ) (n : ℕ) → total f (suc n) ≡ f 0 + total (λ i. f (suc i)) n
total_from_front f zero = omega arith
total_from_front f (suc n) = omega (arith, total_from_front f n)

module _ (s : BlockSpan) (ss : List BlockSpan) (block others : List Placed) (count_is : length block ≡ s.count) where
  -- an item of the block
  own_item : (k : ℕ) → k < s.count → item_at (block ++ others) k ≡ item_at block k
  own_item k lt = get_or_append_left block others no_item k (omega arith)

  -- an item of another one
  other_item : (k : ℕ) → s.count ≤ k → item_at (block ++ others) k ≡ item_at others (k - s.count)
  other_item k ge = get_or-append_right block others s.count k no_item count_is ge

  own_block : (k : ℕ) → k < s.count → block_number (s ∷ ss) k ≡ 0
  own_block k lt = cond-true (nat_lt k s.count) 0 (suc (block_number ss (k - s.count))) (lt-ltb k s.count lt)

  other_block : (k : ℕ) → s.count ≤ k → block_number (s ∷ ss) k ≡ suc (block_number ss (k - s.count))
  other_block k ge = cond-false (nat_lt k s.count) 0 (suc (block_number ss (k - s.count))) (le-ltb k s.count ge)

  first_behind : (b : ℕ) → first_of_block (s ∷ ss) (suc b) ≡ s.count + first_of_block ss b
  first_behind b = total_from_front (λ i. (span_at (s ∷ ss) i).count) b

  by_begin : (k : ℕ) → first_of_block (s ∷ ss) (block_number (s ∷ ss) k) ≡ k → is_in_order (s ∷ ss) (block ++ others) k ≡ true
  by_begin k e = or_left (begins_block (s ∷ ss) k) ((item_at (block ++ others) k).ip == old_end (item_at (block ++ others) (k - 1))) (eq-eqb _ _ e)

  by_follow : (k : ℕ) → (item_at (block ++ others) k).ip ≡ old_end (item_at (block ++ others) (k - 1)) → is_in_order (s ∷ ss) (block ++ others) k ≡ true
  by_follow k e = or_right (begins_block (s ∷ ss) k) ((item_at (block ++ others) k).ip == old_end (item_at (block ++ others) (k - 1))) (eq-eqb _ _ e)

  own_order : ((j : ℕ) → suc j < s.count → (item_at block (suc j)).ip ≡ old_end (item_at block j)) → (k : ℕ) → k < s.count →
      is_in_order (s ∷ ss) (block ++ others) k ≡ true
  own_order chain zero lt = by_begin zero (ap (first_of_block (s ∷ ss)) (own_block zero lt))
  own_order chain (suc j) lt =
      let before : suc j - 1 ≡ j = omega arith in
      by_follow
      (suc j)
      (ap (λ (p : Placed). p.ip) (own_item (suc j) lt)
      ∙ (chain j lt
      ∙ (ap old_end (sym (own_item j (omega arith))) ∙ ap (λ (i : ℕ). old_end (item_at (block ++ others) i)) (sym before))))

  begins_behind : (k : ℕ) → s.count ≤ k → first_of_block ss (block_number ss (k - s.count)) ≡ k - s.count → is_in_order (s ∷ ss) (block ++ others) k ≡ true
  begins_behind k ge e =
      by_begin k (ap (first_of_block (s ∷ ss)) (other_block k ge) ∙ (first_behind (block_number ss (k - s.count)) ∙ omega (arith, e)))

  module _ (blocks : BlockFacts) where
    other_order : (k j : ℕ) → s.count ≤ k → j ≡ k - s.count → is_in_order ss others j ≡ true → is_in_order (s ∷ ss) (block ++ others) k ≡ true
    other_order k zero ge e ordered =
        let at = blocks.first_le ss zero in
        let there : first_of_block ss (block_number ss zero) ≡ zero = omega arith in
        begins_behind k ge (ap (λ (i : ℕ). first_of_block ss (block_number ss i)) (sym e) ∙ (there ∙ e))
    other_order k (suc j) ge e ordered =
        elim (or_cases (begins_block ss (suc j)) ((item_at others (suc j)).ip == old_end (item_at others (suc j - 1))) ordered) [
          | inl begins ↦
              let there = eqb-true _ _ begins in
              begins_behind k ge (ap (λ (i : ℕ). first_of_block ss (block_number ss i)) (sym e) ∙ (there ∙ e))
          | inr follows ↦
              let there : (item_at others (suc j)).ip ≡ old_end (item_at others (suc j - 1)) = eqb-true _ _ follows in
              let before : suc j - 1 ≡ k - 1 - s.count = omega arith in
              by_follow
              k
              (ap (λ (p : Placed). p.ip) (other_item k ge)
              ∙ (ap (λ (i : ℕ). (item_at others i).ip) (sym e)
              ∙ (there
              ∙ (ap (λ (i : ℕ). old_end (item_at others i)) before ∙ ap old_end (sym (other_item (k - 1) (omega arith)))))))
        ]

    -- the items of the block are in order, and so are the others
    pub order_behind : ((j : ℕ) → suc j < s.count → (item_at block (suc j)).ip ≡ old_end (item_at block j)) →
        ((k : ℕ) → k < length others → is_in_order ss others k ≡ true) →
        (k : ℕ) → k < length (block ++ others) → is_in_order (s ∷ ss) (block ++ others) k ≡ true
    order_behind chain more k lt =
        elim (cases_lt k s.count) [
          | inl below ↦ own_order chain k below
          | inr ge ↦ other_order k (k - s.count) ge refl (more (k - s.count) (omega (arith, length-append block others)))
        ]

  -- the end of another block
  pub end_behind : (b : ℕ) → block_old_end (s ∷ ss) (block ++ others) (suc b) ≡ block_old_end ss others b
  unfolding block_old_end
  end_behind b =
      let n = (span_at ss b).count in
      elim (cases_Bool (n == 0)) [
        | inl none ↦ cond-true (n == 0) _ _ none ∙ sym (cond-true (n == 0) _ _ none)
        | inr some ↦
            let more : 1 ≤ n = one_or_more n some in
            let front = first_behind b in
            let at : first_of_block (s ∷ ss) (suc b) + n - 1 - s.count ≡ first_of_block ss b + n - 1 = omega arith in
            let e = other_item (first_of_block (s ∷ ss) (suc b) + n - 1) (omega arith) in
            cond-false (n == 0) _ _ some
            ∙ (ap old_end e ∙ (ap (λ (i : ℕ). old_end (item_at others i)) at ∙ sym (cond-false (n == 0) _ _ some)))
      ]
    where
      one_or_more : (n : ℕ) → (n == 0) ≡ false → 1 ≤ n
      one_or_more zero e = absurd (cc)
      one_or_more (suc n) e = omega arith

  -- the end of an empty block, and of one that has items
  pub end_empty : s.count ≡ 0 → block_old_end (s ∷ ss) (block ++ others) 0 ≡ s.new_base
  unfolding block_old_end
  end_empty none = cond-true (s.count == 0) _ _ (eq-eqb s.count 0 none)

  -- the old end of a block is the end of its last item
  pub end_last : (n : ℕ) → s.count ≡ suc n → block_old_end (s ∷ ss) (block ++ others) 0 ≡ old_end (item_at block n)
  unfolding block_old_end
  end_last n some =
      let at : 0 + s.count - 1 ≡ n = omega arith in
      let apart : (s.count == 0) ≡ false = ne_eqb s.count 0 (λ e. omega arith) in
      cond-false (s.count == 0) _ _ apart ∙ (ap (λ (i : ℕ). old_end (item_at (block ++ others) i)) at ∙ ap old_end (own_item n (omega arith)))
