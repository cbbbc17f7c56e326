-- The moving of made code is refused for want of memory alone.
use Rattle.std.proofs.Common.{◌≡◌, inl, inr, ℕ, zero, suc, ◌+◌, ◌^◌, ◌<◌, ◌≤◌, List, [], ◌∷◌, ◌++◌, length, Option, Some, None, refl, sym, ap, ◌∙◌, subst, arith, append-nil}
use Rattle.std.specs.Prelude.{All, nat_lt, ◌==◌, if◌then◌else◌}
use Rattle.std.proofs.lemmas.Bool.{le-ltb, ne_eqb}
use Rattle.std.proofs.lemmas.List.Elements.{All-nil, All-cons, All-head, All-tail}
use Rattle.x86_values.specs.declared.Bits.TheVariants.{B64}
use Rattle.row_relation.specs.Spells.{Reading}
use Rattle.opcode_rows.specs.Sweep.{Item, IsSweep}
use Rattle.sweep.specs.SweepText.Lines.{error_of}
use Rattle.sweep.specs.SweepText.Facts.{OneSweepFacts}
use Rattle.branch_sizes.specs.declared.plan.BlockSpan.{BlockSpan}
use Rattle.move_goals.specs.declared.items.Placed.{Placed}
use Rattle.move_goals.specs.Items.{ArePlaced, item_at, one_span, first_old_pass}
use Rattle.block_encoder.specs.declared.error.MoveError.{MoveError}
use Rattle.block_encoder.specs.declared.error.MoveError.TheVariants as error
use Rattle.block_encoder.specs.Moved.{MovedLists, IsMoved, IsRefused}
use Rattle.sweep.specs.declared.run_parts.status.Status.{Status}
use Rattle.sweep.specs.declared.run_parts.status.Status.TheVariants.{BadCode, Memory, Wraps, TooFar, TooMany}
use Rattle.moving_run.specs.Code.{IsInstruction, AreSwept, placed_by, placed_in, all_placed, all_spans}
use Rattle.moving_run.specs.Ends.{first_pass}
use Rattle.moving_run.specs.Moving.{MovesInput, RefusesBlocks, IsMovingRefusal}
use Rattle.moving_run.specs.Facts.{InputFacts, PlacedFacts}
use Rattle.listing_run.specs.SampleRun.Generator.{sample_base, sample_code}
use Rattle.listing_run.specs.SampleRun.Made.{IsAimedLow, IsMade, HasInstructions}
use Rattle.branch_sizes.specs.Facts.{LengthFacts, TotalFacts}
use Rattle.move_goals.specs.Facts.{FirstFacts, PlanFacts}
use Rattle.branch_sizes.specs.MoveLayout.Facts.{SlotFacts}
use Rattle.block_encoder.specs.Facts.{FragmentFacts, ReachFacts}
use Rattle.listing_run.specs.SampleRun.Sample.{moved_base}
use Rattle.listing_run.specs.SampleRun.Facts.{made_block}
use Rattle.listing_run.proofs.SampleRun.Reaching.{ends-inside, with_target-reached}

-- ---- made items

is_instruction : (item : Item) → IsMade item → IsInstruction item
is_instruction item made = ap error_of made.reads

-- items of made code are instructions
pub are_instructions : (items : List Item) → All IsMade items → All IsInstruction items
are_instructions [] all = All-nil IsInstruction
are_instructions (item ∷ items) all =
    All-cons IsInstruction item items (is_instruction item (All-head IsMade item items all)) (are_instructions items (All-tail IsMade item items all))

-- the first of some made instructions
first_made : (item : Item) (items : List Item) (made : IsMade item) →
    placed_in sample_base (item ∷ items) ≡ record { ip = sample_base + item.offset; len = made.decoded.len; instr = made.decoded.instr } ∷ placed_in sample_base items
first_made item items made = ap (λ (r : Reading). placed_by sample_base item.offset r ++ placed_in sample_base items) made.reads

-- each instruction is aimed low
aimed_at : (items : List Item) → All IsMade items → (k : ℕ) → k < length items → IsAimedLow (item_at (placed_in sample_base items) k).instr
aimed_at [] all k lt = absurd (omega arith)
aimed_at (item ∷ items) all zero lt =
    let made = All-head IsMade item items all in
    let A : List Placed → Type 0 = λ xs. IsAimedLow (item_at xs 0).instr in
    subst A (sym (first_made item items made)) made.aim
aimed_at (item ∷ items) all (suc k) lt =
    let made = All-head IsMade item items all in
    let A : List Placed → Type 0 = λ xs. IsAimedLow (item_at xs (suc k)).instr in
    subst A (sym (first_made item items made)) (aimed_at items (All-tail IsMade item items all) k (omega arith))

-- ---- its block

module _ (totals : TotalFacts) (lengths : LengthFacts) (first : FirstFacts) (plans : PlanFacts) (slots : SlotFacts) (fragments : FragmentFacts) (reach : ReachFacts)
    (one : OneSweepFacts) (inputs : InputFacts) (placed_facts : PlacedFacts) (n : ℕ) (made : HasInstructions n) (few : n ≤ 65536) where
  swept : AreSwept B64 made_block (sample_code n) (made.items ∷ [])
  swept = (made.sweep, are_instructions made.items made.made, tt)

  placed_is : all_placed made_block (made.items ∷ []) ≡ placed_in sample_base made.items
  placed_is = append-nil (placed_in sample_base made.items)

  count_is : length (placed_in sample_base made.items) ≡ length made.items
  count_is = placed_facts.placed_length sample_base made.items (are_instructions made.items made.made)

  spans_are : all_spans made_block (made.items ∷ []) ≡ one_span (placed_in sample_base made.items) moved_base
  spans_are = ap (λ (k : ℕ). record { count = k; new_base = moved_base } ∷ []) (sym count_is)

  -- what holds of the block holds of the items
  told : (P : List Placed → List BlockSpan → Type 0) → P (all_placed made_block (made.items ∷ [])) (all_spans made_block (made.items ∷ []))
      → P (placed_in sample_base made.items) (one_span (placed_in sample_base made.items) moved_base)
  told P h =
      subst (λ (spans : List BlockSpan). P (placed_in sample_base made.items) spans) spans_are
      (subst (λ (xs : List Placed). P xs (all_spans made_block (made.items ∷ []))) placed_is h)

  few_items : length (placed_in sample_base made.items) ≤ 65536
  few_items = omega (arith, count_is, made.count)

  well_placed : ArePlaced B64 (placed_in sample_base made.items)
  well_placed = subst (λ (xs : List Placed). ArePlaced B64 xs) placed_is (placed_facts.are_placed B64 made_block (sample_code n) (made.items ∷ []) swept)

  no_pass : first_pass B64 made_block (sample_code n) ≡ None
  no_pass =
      let short = made.short in
      let len = length (sample_code n) in
      by_length len (omega arith)
    where
      by_length : (len : ℕ) → len ≤ 458752 → (if nat_lt (2 ^ 64) (if len == 0 then moved_base else sample_base + len) then Some (if len == 0 then moved_base else sample_base + len) else None) ≡ None
      by_length zero h = refl
      by_length (suc m) h = rw (ne_eqb (suc m) 0 (λ e. omega arith), le-ltb (2 ^ 64) (sample_base + suc m) (omega arith)) refl

  old_inside : first_old_pass B64 (one_span (placed_in sample_base made.items) moved_base) (placed_in sample_base made.items) ≡ None
  old_inside = told (λ xs spans. first_old_pass B64 spans xs ≡ None) (placed_facts.ends_are B64 made_block (sample_code n) (made.items ∷ []) swept ∙ no_pass)

  some_none : (o : Option ℕ) (x : ℕ) → o ≡ Some x → o ≡ None → ⊥
  some_none o x some none = let e : Some x ≡ None = sym some ∙ none in cc

  -- its moving is not refused
  unrefused : (why : MoveError) → (why ≡ error.Memory → ⊥) → ((at : ℕ) → why ≡ error.OldOrder at → ⊥)
      → IsRefused B64 (placed_in sample_base made.items) (one_span (placed_in sample_base made.items) moved_base) why → ⊥
  unrefused error.Memory no_memory in_order h = no_memory refl
  unrefused (error.OldOrder at) no_memory in_order h = in_order at refl
  unrefused (error.TooMany count) no_memory in_order h = let few = few_items in omega (arith, h.0)
  unrefused (error.Wraps end) no_memory in_order (inl h) = some_none _ end h.passes old_inside
  unrefused (error.Wraps end) no_memory in_order (inr h) =
      some_none _ end h.passes (ends-inside totals lengths first plans slots fragments reach (placed_in sample_base made.items) few_items well_placed h.layout)
  unrefused (error.TooFar at target) no_memory in_order h =
      let far = h.first in
      far.unreached (with_target-reached totals lengths first plans slots fragments reach (placed_in sample_base made.items) few_items well_placed h.layout at far.within h.least
      (aimed_at made.items made.made at (omega (arith, far.within, count_is))))

  code_unrefused : (why : MoveError) → (why ≡ error.Memory → ⊥) → ((at : ℕ) → why ≡ error.OldOrder at → ⊥) → RefusesBlocks B64 made_block (sample_code n) why → ⊥
  code_unrefused why no_memory in_order r =
      let same = inputs.swept_unique B64 made_block (sample_code n) r.items (made.items ∷ []) r.swept swept in
      let here = subst (λ (xs : List (List Item)). IsRefused B64 (all_placed made_block xs) (all_spans made_block xs) why) same r.refused in
      unrefused why no_memory in_order (told (λ xs spans. IsRefused B64 xs spans why) here)

  -- **the moving of made code is refused for want of memory alone**
  pub memory-alone : (status : Status) → IsMovingRefusal B64 made_block (sample_code n) status → status ≡ Memory
  memory-alone Memory h = refl
  memory-alone (BadCode offset error) h = absurd (inputs.swept_not_bad B64 made_block (sample_code n) 0 offset error h (made.items ∷ []) swept)
  memory-alone (TooMany count) h = absurd (code_unrefused (error.TooMany count) (λ e. cc) (λ at e. cc) h)
  memory-alone (Wraps end) h = absurd (code_unrefused (error.Wraps end) (λ e. cc) (λ at e. cc) h)
  memory-alone (TooFar at target) h = absurd (code_unrefused (error.TooFar at target) (λ e. cc) (λ at e. cc) h)
  memory-alone _ h = absurd h

  -- what was moved, of the items of the sweep
  pub made-moved : (items : List Item) (placed : List Placed) (m : MovedLists) → IsSweep B64 sample_base (sample_code n) items → MovesInput B64 made_block (sample_code n) placed m →
      (placed ≡ placed_in sample_base items) × IsMoved B64 (placed_in sample_base items) (one_span (placed_in sample_base items) moved_base) m
  made-moved items placed m sweep h =
      let same = inputs.swept_unique B64 made_block (sample_code n) h.items (made.items ∷ []) h.swept swept in
      let own : made.items ≡ items = one.sweep_unique B64 sample_base (sample_code n) made.items items made.sweep sweep in
      let here = subst (λ (xs : List (List Item)). IsMoved B64 (all_placed made_block xs) (all_spans made_block xs) m) same h.is_moved in
      let there : IsMoved B64 (placed_in sample_base made.items) (one_span (placed_in sample_base made.items) moved_base) m = told (λ xs spans. IsMoved B64 xs spans m) here in (
        h.placed_is ∙ (ap (all_placed made_block) same ∙ (placed_is ∙ ap (placed_in sample_base) own)),
        subst (λ (xs : List Item). IsMoved B64 (placed_in sample_base xs) (one_span (placed_in sample_base xs) moved_base) m) own there,
      )
