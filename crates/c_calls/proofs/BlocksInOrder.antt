-- Blocks that are read one by one: their spans take all items, and each item is well placed and in order.
use Rattle.std.proofs.Common.{◌≡◌, ℕ, zero, suc, ◌+◌, ◌-◌, ◌<◌, ◌≤◌, true, not, inl, inr, List, [], ◌∷◌, ◌++◌, length, take, drop, None, refl, sym, ap, ◌∙◌, subst, arith, length-append, append_assoc, length-drop, length-take-le}
use Rattle.std.specs.Prelude.{◌==◌, nat_lt, sum_by}
use Rattle.std.proofs.lemmas.Bool.{cases_lt, eq-eqb, eqb-true, or_left, or_right, cases_Bool, cond-false, le-ltb}
use Rattle.std.proofs.lemmas.List.{get_or_append_left, take_more, append-nil}
use Rattle.std.proofs.Math.Seq.{get_or-append_right}
use Rattle.std.proofs.lemmas.List.Sums.{sum_by-cons, get_or-le-sum_by}
use Rattle.x86_values.specs.declared.Bits.{Bits}
use Rattle.branch_sizes.specs.declared.plan.BlockSpan.{BlockSpan}
use Rattle.branch_sizes.specs.Layout.{block_number, first_of_block, span_at}
use Rattle.branch_sizes.proofs.Totals.{first_le, total-front}
use Rattle.move_goals.specs.declared.items.Placed.{Placed}
use Rattle.move_goals.specs.Items.{item_at, no_item, old_end, IsPlaced, ArePlaced, AreSpansOf, begins_block, is_in_order, first_disorder}
use Rattle.move_goals.proofs.First.{first_below_none}
use Rattle.c_calls.specs.declared.flat.FlatBlock.{FlatBlock}
use Rattle.c_calls.specs.Moving.{AreReadUpTo}
use Rattle.c_calls.specs.Blocks.{flat_block_at, no_block, block_code, IsBlockRead, block_span, AreBlocksRead, AreFew}
use Rattle.c_calls.proofs.ItemsInOrder.{are_placed, follows}

-- ---- one more block

-- a further block adds its instructions and its span
pub one_more_block : (bits : Bits) (bytes : List ℕ) (blocks : List FlatBlock) (spans : List BlockSpan) (items : List Placed) (block : FlatBlock) (front : List Placed) →
    AreBlocksRead bits bytes blocks spans items → IsBlockRead bits bytes block front →
    AreBlocksRead bits bytes (blocks ++ block ∷ []) (spans ++ block_span block front ∷ []) (items ++ front)
one_more_block bits bytes [] spans items block front h read =
    (front, [], [], ap (λ (xs : List Placed). xs ++ front) h.1 ∙ sym (append-nil front), ap (λ (xs : List BlockSpan). xs ++ block_span block front ∷ []) h.0, read, (refl, refl))
one_more_block bits bytes (c ∷ cs) spans items block front (first, rest, others, items_are, spans_are, is, more) read = (
  first,
  rest ++ front,
  others ++ block_span block front ∷ [],
  ap (λ (xs : List Placed). xs ++ front) items_are ∙ append_assoc first rest front,
  ap (λ (xs : List BlockSpan). xs ++ block_span block front ∷ []) spans_are,
  is,
  one_more_block bits bytes cs others rest block front more read,
)

-- the same where the blocks so far are the first of some blocks
pub one_more_of : (bits : Bits) (bytes : List ℕ) (blocks : List FlatBlock) (b : ℕ) (spans : List BlockSpan) (items front : List Placed) → b < length blocks →
    AreBlocksRead bits bytes (take b blocks) spans items → IsBlockRead bits bytes (flat_block_at blocks b) front →
    AreBlocksRead bits bytes (take (b + 1) blocks) (spans ++ block_span (flat_block_at blocks b) front ∷ []) (items ++ front)
one_more_of bits bytes blocks b spans items front lt h read =
    let R : List FlatBlock → Type 0 = λ xs. AreBlocksRead bits bytes xs (spans ++ block_span (flat_block_at blocks b) front ∷ []) (items ++ front) in
    subst R (sym (take_more blocks b no_block lt)) (one_more_block bits bytes (take b blocks) spans items (flat_block_at blocks b) front h read)

-- ---- how many instructions

few_items : (bits : Bits) (ip : ℕ) (bytes : List ℕ) (items : List Placed) (ip' : ℕ) (rest : List ℕ) → AreReadUpTo bits ip bytes items ip' rest → length items ≤ length bytes
few_items bits ip bytes [] ip' rest h = omega arith
few_items bits ip bytes (p ∷ ps) ip' rest h =
    omega (arith, few_items bits (ip + p.len) (drop p.len bytes) ps ip' rest h.4, length-drop p.len bytes, h.1, h.3.0)

-- a block has no more instructions than bytes
pub few_in_block : (bits : Bits) (bytes : List ℕ) (block : FlatBlock) (items : List Placed) → IsBlockRead bits bytes block items → length items ≤ length (block_code bytes block)
few_in_block bits bytes block items h = few_items bits block.old_ip (block_code bytes block) items h.read.0 [] h.read.1

-- so it has few where the blocks are short together
pub few_in_blocks : (bits : Bits) (bytes : List ℕ) (blocks : List FlatBlock) (b : ℕ) (items : List Placed) → AreFew blocks → b < length blocks →
    IsBlockRead bits bytes (flat_block_at blocks b) items → length items ≤ 1048576
few_in_blocks bits bytes blocks b items few lt h =
    let block = flat_block_at blocks b in
    let inside : block.offset + block.len ≤ length bytes = h.within in
    let size : length (block_code bytes block) ≡ block.len = length-take-le block.len (drop block.offset bytes) (omega (arith, length-drop block.offset bytes, inside)) in
    omega (arith, few_in_block bits bytes block items h, size, get_or-le-sum_by (λ (x : FlatBlock). x.len) blocks b no_block lt, few.short)

-- ---- the spans take all items

as_many : (bits : Bits) (bytes : List ℕ) (blocks : List FlatBlock) (spans : List BlockSpan) (items : List Placed) → AreBlocksRead bits bytes blocks spans items →
    length spans ≡ length blocks
as_many bits bytes [] spans items h = ap length h.0
as_many bits bytes (c ∷ cs) spans items (first, rest, others, items_are, spans_are, is, more) =
    ap length spans_are ∙ ap suc (as_many bits bytes cs others rest more)

counted : (bits : Bits) (bytes : List ℕ) (blocks : List FlatBlock) (spans : List BlockSpan) (items : List Placed) → AreBlocksRead bits bytes blocks spans items →
    sum_by (λ (s : BlockSpan). s.count) spans ≡ length items
counted bits bytes [] spans items h = ap (λ (xs : List BlockSpan). sum_by (λ (s : BlockSpan). s.count) xs) h.0 ∙ sym (ap length h.1)
counted bits bytes (c ∷ cs) spans items (first, rest, others, items_are, spans_are, is, more) =
    ap (λ (xs : List BlockSpan). sum_by (λ (s : BlockSpan). s.count) xs) spans_are
    ∙ (sum_by-cons (λ (s : BlockSpan). s.count) (block_span c first) others
    ∙ (ap (λ (n : ℕ). length first + n) (counted bits bytes cs others rest more)
    ∙ (sym (length-append first rest) ∙ sym (ap length items_are))))

-- the spans of blocks that were read are those of their instructions
pub spans_of_read : (bits : Bits) (bytes : List ℕ) (blocks : List FlatBlock) (spans : List BlockSpan) (items : List Placed) → AreBlocksRead bits bytes blocks spans items →
    length blocks ≤ 65536 → AreSpansOf items spans
spans_of_read bits bytes blocks spans items h few = record {
  few = omega (arith, as_many bits bytes blocks spans items h);
  counts = counted bits bytes blocks spans items h;
}

-- ---- each item is well placed

placed_in : (bits : Bits) (first rest : List Placed) → ArePlaced bits first → ArePlaced bits rest → ArePlaced bits (first ++ rest)
placed_in bits first rest a b k lt =
    let P : Placed → Type 0 = λ p. IsPlaced bits p in
    elim (cases_lt k (length first)) [
      | inl below ↦ subst P (sym (get_or_append_left first rest no_item k below)) (a k below)
      | inr ge ↦ subst P (sym (get_or-append_right first rest k no_item ge)) (b (k - length first) (omega (arith, length-append first rest)))
    ]

-- instructions of blocks that were read are well placed
pub placed_of_read : (bits : Bits) (bytes : List ℕ) (blocks : List FlatBlock) (spans : List BlockSpan) (items : List Placed) → AreBlocksRead bits bytes blocks spans items →
    ArePlaced bits items
placed_of_read bits bytes [] spans items h =
    let P : List Placed → Type 0 = λ xs. ArePlaced bits xs in
    subst P (sym h.1) (λ k lt. absurd (omega arith))
placed_of_read bits bytes (c ∷ cs) spans items (first, rest, others, items_are, spans_are, is, more) =
    let P : List Placed → Type 0 = λ xs. ArePlaced bits xs in
    subst P (sym items_are) (placed_in bits first rest
    (are_placed bits c.old_ip (block_code bytes c) first is.read.0 [] is.read.1)
    (placed_of_read bits bytes cs others rest more))

-- ---- and in order

-- each item is the first of its block, or begins where the one before ends
abbrev InOrder : List BlockSpan → List Placed → Type 0
InOrder spans items = (k : ℕ) → k < length items → is_in_order spans items k ≡ true

-- the first item of all
first_in_order : (spans : List BlockSpan) (items : List Placed) → is_in_order spans items zero ≡ true
first_in_order spans items =
    let least = first_le spans zero in
    let here : first_of_block spans (block_number spans zero) ≡ zero = omega arith in
    or_left (begins_block spans zero) ((item_at items zero).ip == old_end (item_at items (zero - 1))) (eq-eqb _ _ here)

-- an item of the first block that is not its first
inside_front : (spans : List BlockSpan) (first rest : List Placed) (j : ℕ) → suc j < length first →
    (item_at first (suc j)).ip ≡ old_end (item_at first j) → is_in_order spans (first ++ rest) (suc j) ≡ true
inside_front spans first rest j lt chain =
    let here = get_or_append_left first rest no_item (suc j) lt in
    let before = get_or_append_left first rest no_item j (omega arith) in
    let back : suc j - 1 ≡ j = omega arith in
    let one : item_at (first ++ rest) (suc j - 1) ≡ item_at first j = ap (λ (i : ℕ). item_at (first ++ rest) i) back ∙ before in
    or_right (begins_block spans (suc j)) ((item_at (first ++ rest) (suc j)).ip == old_end (item_at (first ++ rest) (suc j - 1)))
    (eq-eqb _ _ (ap (λ (p : Placed). p.ip) here ∙ (chain ∙ ap (λ (p : Placed). old_end p) (sym one))))

-- a number behind the first block is one of the others
number_behind : (s : BlockSpan) (ss : List BlockSpan) (k : ℕ) → s.count ≤ k → block_number (s ∷ ss) k ≡ suc (block_number ss (k - s.count))
number_behind s ss k le = cond-false (nat_lt k s.count) 0 (suc (block_number ss (k - s.count))) (le-ltb k s.count le)

-- the first item of another block is that of all blocks too
begins_behind : (s : BlockSpan) (ss : List BlockSpan) (k : ℕ) → s.count ≤ k → first_of_block ss (block_number ss (k - s.count)) ≡ k - s.count →
    begins_block (s ∷ ss) k ≡ true
begins_behind s ss k le e =
    let number = number_behind s ss k le in
    let front = total-front (λ i. (span_at (s ∷ ss) i).count) (block_number ss (k - s.count)) in
    let F : ℕ → ℕ = λ b. first_of_block (s ∷ ss) b in
    let here : first_of_block (s ∷ ss) (block_number (s ∷ ss) k) ≡ k = ap F number ∙ omega (arith, front, e, le) in
    eq-eqb _ _ here

-- an item behind the first block
behind_front : (s : BlockSpan) (ss : List BlockSpan) (first rest : List Placed) → s.count ≡ length first → InOrder ss rest →
    (k : ℕ) → length first ≤ k → k < length (first ++ rest) → is_in_order (s ∷ ss) (first ++ rest) k ≡ true
behind_front s ss first rest e chain zero le lt = first_in_order (s ∷ ss) (first ++ rest)
behind_front s ss first rest e chain (suc j) le lt =
    let k = suc j in
    let m = k - s.count in
    let inside : m < length rest = omega (arith, length-append first rest, e) in
    let begins = begins_block (s ∷ ss) k in
    let joins = (item_at (first ++ rest) k).ip == old_end (item_at (first ++ rest) (k - 1)) in
    let start : first_of_block ss (block_number ss m) ≡ m → is_in_order (s ∷ ss) (first ++ rest) k ≡ true =
    λ (h : first_of_block ss (block_number ss m) ≡ m). or_left begins joins (begins_behind s ss k (omega (arith, e)) h) in
    elim (cases_Bool (begins_block ss m)) [
      | inl at_start ↦ start (eqb-true (first_of_block ss (block_number ss m)) m at_start)
      | inr inside_it ↦
          elim (cases_lt 0 m) [
            | inr none ↦ (
                let least = first_le ss m in
                start (omega arith))
            | inl some ↦ (
                let is : is_in_order ss rest m ≡ true = chain m inside in
                let same : ((item_at rest m).ip == old_end (item_at rest (m - 1))) ≡ true = rw inside_it at is in
                let here = get_or-append_right first rest k no_item le in
                let before = get_or-append_right first rest (k - 1) no_item (omega (arith, e)) in
                let at_m : k - length first ≡ m = omega (arith, e) in
                let at_before : k - 1 - length first ≡ m - 1 = omega (arith, e) in
                let item_here : item_at (first ++ rest) k ≡ item_at rest m = here ∙ ap (λ (i : ℕ). item_at rest i) at_m in
                let item_before : item_at (first ++ rest) (k - 1) ≡ item_at rest (m - 1) = before ∙ ap (λ (i : ℕ). item_at rest i) at_before in
                or_right begins joins (eq-eqb _ _
                (ap (λ (p : Placed). p.ip) item_here ∙ (eqb-true (item_at rest m).ip (old_end (item_at rest (m - 1))) same ∙ ap (λ (p : Placed). old_end p) (sym item_before)))))
          ]
    ]

-- the items of a block in front of others in order
joined_order : (s : BlockSpan) (ss : List BlockSpan) (first rest : List Placed) → s.count ≡ length first →
    ((j : ℕ) → suc j < length first → (item_at first (suc j)).ip ≡ old_end (item_at first j)) → InOrder ss rest → InOrder (s ∷ ss) (first ++ rest)
joined_order s ss first rest e chain others zero lt = first_in_order (s ∷ ss) (first ++ rest)
joined_order s ss first rest e chain others (suc j) lt =
    elim (cases_lt (suc j) (length first)) [
      | inl below ↦ inside_front (s ∷ ss) first rest j below (chain j below)
      | inr ge ↦ behind_front s ss first rest e others (suc j) ge lt
    ]

in_order_of_read : (bits : Bits) (bytes : List ℕ) (blocks : List FlatBlock) (spans : List BlockSpan) (items : List Placed) → AreBlocksRead bits bytes blocks spans items →
    InOrder spans items
in_order_of_read bits bytes [] spans items h =
    let P : List Placed → Type 0 = λ xs. InOrder spans xs in
    subst P (sym h.1) (λ k lt. absurd (omega arith))
in_order_of_read bits bytes (c ∷ cs) spans items (first, rest, others, items_are, spans_are, is, more) =
    let P : List Placed → Type 0 = λ xs. InOrder spans xs in
    let Q : List BlockSpan → Type 0 = λ ss. InOrder ss (first ++ rest) in
    let chain = follows bits c.old_ip (block_code bytes c) first is.read.0 [] is.read.1 in
    subst P (sym items_are) (subst Q (sym spans_are) (joined_order (block_span c first) others first rest refl chain (in_order_of_read bits bytes cs others rest more)))

-- and in order
pub no_disorder_of_read : (bits : Bits) (bytes : List ℕ) (blocks : List FlatBlock) (spans : List BlockSpan) (items : List Placed) → AreBlocksRead bits bytes blocks spans items →
    first_disorder spans items ≡ None
unfolding first_disorder
no_disorder_of_read bits bytes blocks spans items h =
    first_below_none _ (length items) (λ j lt. ap not (in_order_of_read bits bytes blocks spans items h j lt))
