-- The instructions of all blocks: they are well placed and in order, and the first old end that passes is told by the lengths of the blocks.
use Rattle.std.proofs.Common.{◌≡◌, ℕ, zero, suc, ◌+◌, ◌<◌, ◌≤◌, Bool, true, false, not, List, [], ◌∷◌, ◌++◌, length, Option, Some, None, refl, sym, ap, ◌∙◌, arith, length-append}
use Rattle.std.specs.Prelude.{All, ◌==◌, if◌then◌else◌, sum_by}
use Rattle.std.proofs.lemmas.Bool.{cond-true, cond-false, eq-eqb, ne_eqb}
use Rattle.std.proofs.lemmas.List.Sums.{sum_by-cons}
use Rattle.std.proofs.lemmas.List.Elements.{All-nil, All-append, All-get_or}
use Rattle.x86_values.specs.declared.Bits.{Bits}
use Rattle.opcode_rows.specs.Sweep.{Item, IsSweep}
use Rattle.branch_sizes.specs.declared.plan.BlockSpan.{BlockSpan}
use Rattle.branch_sizes.specs.Facts.{BlockFacts}
use Rattle.move_goals.specs.Items.{no_item, IsPlaced, ArePlaced, AreSpansOf, first_below, passes, first_passing, is_in_order, first_disorder, block_old_end, first_old_pass}
use Rattle.moving_run.specs.declared.command_words.commands.BlockWords.{BlockWords}
use Rattle.moving_run.specs.Code.{next_block_bytes, left_by, IsInstruction, AreSwept, placed_in, all_placed, all_spans}
use Rattle.moving_run.specs.Ends.{block_end, end_or, first_pass}
use Rattle.moving_run.proofs.Order.{block_placed, block_chain, block_last, order_behind, end_behind, end_empty, end_last}
use Rattle.moving_run.proofs.Blocks.{placed_length}

-- ---- the first of some ends

abbrev next : Option ℕ → Bool → ℕ → Option ℕ
next o b n = elim o [ Some k ↦ Some k | None ↦ if b then Some n else None ]

abbrev front_or : Bool → Option ℕ → Option ℕ
front_or true o = Some 0
front_or false None = None
front_or false (Some k) = Some (suc k)

next_front : (b : Bool) (o : Option ℕ) (c : Bool) (n : ℕ) → next (front_or b o) c (suc n) ≡ front_or b (next o c n)
next_front true o c n = refl
next_front false None true n = refl
next_front false None false n = refl
next_front false (Some k) c n = refl

front_none : (b : Bool) → (if b then Some 0 else None) ≡ front_or b None
front_none true = refl
front_none false = refl

-- the least number that passes a test: 0, or the one behind the least that passes the test of the next number
below_front : (p : ℕ → Bool) (n : ℕ) → first_below p (suc n) ≡ front_or (p 0) (first_below (λ k. p (suc k)) n)
below_front p zero = front_none (p 0)
below_front p (suc n) =
    ap (λ (o : Option ℕ). next o (p (suc n)) (suc n)) (below_front p n)
    ∙ next_front (p 0) (first_below (λ k. p (suc k)) n) (p (suc n)) n

abbrev end_found : (ℕ → ℕ) → Option ℕ → Option ℕ
end_found f o = elim o [ Some b ↦ Some (f b) | None ↦ None ]

found_front : (f : ℕ → ℕ) (b : Bool) (o : Option ℕ) → end_found f (front_or b o) ≡ (if b then Some (f 0) else end_found (λ k. f (suc k)) o)
found_front f true o = refl
found_front f false None = refl
found_front f false (Some k) = refl

passing_front : (bits : Bits) (f : ℕ → ℕ) (n : ℕ) → first_passing bits f (suc n) ≡ end_or bits (f 0) (first_passing bits (λ k. f (suc k)) n)
passing_front bits f n =
    ap (end_found f) (below_front (λ k. passes bits (f k)) n)
    ∙ found_front f (passes bits (f 0)) (first_below (λ k. passes bits (f (suc k))) n)

passing_same : (bits : Bits) (f g : ℕ → ℕ) (n : ℕ) → ((k : ℕ) → f k ≡ g k) → first_passing bits f n ≡ first_passing bits g n
passing_same bits f g zero same = refl
passing_same bits f g (suc n) same =
    passing_front bits f n
    ∙ (ap (λ (end : ℕ). end_or bits end (first_passing bits (λ k. f (suc k)) n)) (same 0)
    ∙ (ap (end_or bits (g 0)) (passing_same bits (λ k. f (suc k)) (λ k. g (suc k)) n (λ k. same (suc k)))
    ∙ sym (passing_front bits g n)))

-- ---- all blocks

-- the blocks have all instructions
pub counts_are : (bits : Bits) (words : List BlockWords) (bytes : List ℕ) (items : List (List Item)) → AreSwept bits words bytes items →
    sum_by (λ (s : BlockSpan). s.count) (all_spans words items) ≡ length (all_placed words items)
counts_are bits [] bytes [] swept = refl
counts_are bits [] bytes (x ∷ items) swept = absurd swept
counts_are bits (w ∷ ws) bytes [] swept = absurd swept
counts_are bits (w ∷ ws) bytes (x ∷ items) swept =
    let span : BlockSpan = record { count = length x; new_base = w.new } in
    omega (
      arith,
      sum_by-cons (λ (s : BlockSpan). s.count) span (all_spans ws items),
      counts_are bits ws (left_by w.len bytes) items swept.2,
      length-append (placed_in w.old x) (all_placed ws items),
      placed_length w.old x swept.1,
    )

-- there is a span for each block
pub spans_length : (bits : Bits) (words : List BlockWords) (bytes : List ℕ) (items : List (List Item)) → AreSwept bits words bytes items →
    length (all_spans words items) ≡ length words
spans_length bits [] bytes [] swept = refl
spans_length bits [] bytes (x ∷ items) swept = absurd swept
spans_length bits (w ∷ ws) bytes [] swept = absurd swept
spans_length bits (w ∷ ws) bytes (x ∷ items) swept = ap suc (spans_length bits ws (left_by w.len bytes) items swept.2)

-- the spans are those of the placed items
pub spans_of : (bits : Bits) (words : List BlockWords) (bytes : List ℕ) (items : List (List Item)) → AreSwept bits words bytes items →
    length words ≤ 16 → AreSpansOf (all_placed words items) (all_spans words items)
spans_of bits words bytes items swept few = record {
  few = omega (arith, spans_length bits words bytes items swept);
  counts = counts_are bits words bytes items swept;
}

all_are_placed : (bits : Bits) (words : List BlockWords) (bytes : List ℕ) (items : List (List Item)) → AreSwept bits words bytes items →
    All (IsPlaced bits) (all_placed words items)
all_are_placed bits [] bytes [] swept = All-nil (IsPlaced bits)
all_are_placed bits [] bytes (x ∷ items) swept = absurd swept
all_are_placed bits (w ∷ ws) bytes [] swept = absurd swept
all_are_placed bits (w ∷ ws) bytes (x ∷ items) swept =
    All-append (IsPlaced bits) (placed_in w.old x) (all_placed ws items)
    (block_placed bits w.old 0 (next_block_bytes w.len bytes) x [] swept.0 swept.1)
    (all_are_placed bits ws (left_by w.len bytes) items swept.2)

-- each instruction is well placed
pub are_placed : (bits : Bits) (words : List BlockWords) (bytes : List ℕ) (items : List (List Item)) → AreSwept bits words bytes items →
    ArePlaced bits (all_placed words items)
are_placed bits words bytes items swept k lt = All-get_or (IsPlaced bits) (all_placed words items) k no_item lt (all_are_placed bits words bytes items swept)

none_below : (p : ℕ → Bool) (n : ℕ) → ((j : ℕ) → j < n → p j ≡ false) → first_below p n ≡ None
none_below p zero h = refl
none_below p (suc n) h =
    ap (λ (o : Option ℕ). next o (p n) n) (none_below p n (λ j lt. h j (omega arith)))
    ∙ ap (λ (b : Bool). next None b n) (h n (omega arith))

module _ (blocks : BlockFacts) where
  in_order : (bits : Bits) (words : List BlockWords) (bytes : List ℕ) (items : List (List Item)) → AreSwept bits words bytes items →
      (k : ℕ) → k < length (all_placed words items) → is_in_order (all_spans words items) (all_placed words items) k ≡ true
  in_order bits [] bytes [] swept k lt = absurd (omega arith)
  in_order bits [] bytes (x ∷ items) swept k lt = absurd swept
  in_order bits (w ∷ ws) bytes [] swept k lt = absurd swept
  in_order bits (w ∷ ws) bytes (x ∷ items) swept k lt =
      let span : BlockSpan = record { count = length x; new_base = w.new } in
      order_behind span (all_spans ws items) (placed_in w.old x) (all_placed ws items) (placed_length w.old x swept.1) blocks
      (block_chain bits w.old 0 (next_block_bytes w.len bytes) x [] swept.0 swept.1)
      (in_order bits ws (left_by w.len bytes) items swept.2)
      k
      lt

  -- no instruction is out of order
  pub no_disorder : (bits : Bits) (words : List BlockWords) (bytes : List ℕ) (items : List (List Item)) → AreSwept bits words bytes items →
      first_disorder (all_spans words items) (all_placed words items) ≡ None
  unfolding first_disorder
  no_disorder bits words bytes items swept =
      none_below _ (length (all_placed words items)) (λ j lt. ap not (in_order bits words bytes items swept j lt))

-- the old end of the first block
first_end : (bits : Bits) (w : BlockWords) (ws : List BlockWords) (bytes : List ℕ) (x : List Item) (items : List (List Item)) →
    IsSweep bits w.old (next_block_bytes w.len bytes) x → All IsInstruction x →
    block_old_end (record { count = length x; new_base = w.new } ∷ all_spans ws items) (placed_in w.old x ++ all_placed ws items) 0
    ≡ block_end w (length (next_block_bytes w.len bytes))
first_end bits w ws bytes [] items sweep all =
    let span : BlockSpan = record { count = 0; new_base = w.new } in
    let n = length (next_block_bytes w.len bytes) in
    let none : (n == 0) ≡ true = eq-eqb n 0 (ap length sweep) in
    end_empty span (all_spans ws items) [] (all_placed ws items) refl refl ∙ sym (cond-true (n == 0) w.new (w.old + n) none)
first_end bits w ws bytes (item ∷ x) items sweep all =
    let span : BlockSpan = record { count = suc (length x); new_base = w.new } in
    let n = length (next_block_bytes w.len bytes) in
    let within = sweep.0.within in
    let some = sweep.0.some in
    let more : (n == 0) ≡ false = ne_eqb n 0 (λ e. omega arith) in
    let whole : w.old + 0 + n ≡ w.old + n = omega arith in
    end_last span (all_spans ws items) (placed_in w.old (item ∷ x)) (all_placed ws items) (placed_length w.old (item ∷ x) all) (length x) refl
    ∙ (block_last bits w.old 0 (next_block_bytes w.len bytes) item x sweep all
    ∙ (whole ∙ sym (cond-false (n == 0) w.new (w.old + n) more)))

-- **the first old end that passes is the one that the lengths tell**
pub ends_are : (bits : Bits) (words : List BlockWords) (bytes : List ℕ) (items : List (List Item)) → AreSwept bits words bytes items →
    first_old_pass bits (all_spans words items) (all_placed words items) ≡ first_pass bits words bytes
unfolding first_old_pass
ends_are bits [] bytes [] swept = refl
ends_are bits [] bytes (x ∷ items) swept = absurd swept
ends_are bits (w ∷ ws) bytes [] swept = absurd swept
ends_are bits (w ∷ ws) bytes (x ∷ items) swept =
    let span : BlockSpan = record { count = length x; new_base = w.new } in
    let ss = all_spans ws items in
    let block = placed_in w.old x in
    let others = all_placed ws items in
    let ends = block_old_end (span ∷ ss) (block ++ others) in
    passing_front bits ends (length ss)
    ∙ (ap (λ (end : ℕ). end_or bits end (first_passing bits (λ k. ends (suc k)) (length ss))) (first_end bits w ws bytes x items swept.0 swept.1)
    ∙ ap (end_or bits (block_end w (length (next_block_bytes w.len bytes))))
    (passing_same bits (λ k. ends (suc k)) (block_old_end ss others) (length ss) (end_behind span ss block others (placed_length w.old x swept.1))
    ∙ ends_are bits ws (left_by w.len bytes) items swept.2))
