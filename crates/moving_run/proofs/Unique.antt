-- Some bytes have one answer.
use Rattle.std.proofs.Common.{◌≡◌, ℕ, ◌+◌, ◌≤◌, List, [], ◌∷◌, ◌++◌, length, drop, Option, Some, None, ◌⊎◌, inl, inr, refl, sym, ap, ◌∙◌, subst, arith}
use Rattle.std.specs.Prelude.{All}
use Rattle.std.proofs.lemmas.Bool.{cases_order}
use Rattle.std.proofs.lemmas.List.Elements.{All-head, All-tail, All-same}
use Rattle.x86_values.specs.declared.Bits.{Bits}
use Rattle.row_relation.specs.Spells.{Reading}
use Rattle.decoder.specs.declared.DecodeError.{DecodeError}
use Rattle.opcode_rows.specs.Sweep.{Item, IsSweep, Sweeps, item_len}
use Rattle.sweep.specs.SweepText.Lines.{error_of}
use Rattle.sweep.specs.SweepText.Facts.{OneSweepFacts}
use Rattle.branch_sizes.specs.declared.plan.BlockSpan.{BlockSpan}
use Rattle.branch_sizes.specs.Plan.{BlockPlan}
use Rattle.branch_sizes.specs.Layout.{IsLeast}
use Rattle.move_goals.specs.declared.items.Placed.{Placed}
use Rattle.move_goals.specs.Items.{first_old_pass}
use Rattle.move_goals.specs.Plan.{plan_for}
use Rattle.branch_sizes.specs.MoveLayout.Laid.{goal_address}
use Rattle.block_encoder.specs.declared.error.MoveError.TheVariants as error
use Rattle.block_encoder.specs.Moved.{MovedLists, IsMoved, IsRefused, IsOldPass, IsNewPass, IsTooFar, IsFirstUnreached, first_new_pass}
use Rattle.moving_run.specs.declared.command_words.commands.BlockWords.{BlockWords}
use Rattle.sweep.specs.declared.run_parts.status.Status.{Status}
use Rattle.sweep.specs.declared.run_parts.status.Status.TheVariants.{Done, BadCode, Wraps, TooFar, TooMany}
use Rattle.moving_run.specs.declared.moving.Wanted.{Wanted}
use Rattle.moving_run.specs.Code.{next_block_bytes, left_by, IsInstruction, AreSwept, BlockStopsAt, IsBadAt, here, later, all_placed, all_spans}
use Rattle.moving_run.specs.Moving.{IsMovingAnswer}

-- ---- the instructions, and the first single byte

-- a single byte is no instruction
apart : (r : Reading) (error : DecodeError) → error_of r ≡ Some error → error_of r ≡ None → ⊥
apart r error some none = let e : Some error ≡ None = sym some ∙ none in cc

-- an instruction among others is one
among : (items : List Item) (last : Item) (more : List Item) → All IsInstruction ((items ++ last ∷ []) ++ more) → IsInstruction last
among [] last more all = All-head IsInstruction last more all
among (item ∷ items) last more all = among items last more (All-tail IsInstruction item ((items ++ last ∷ []) ++ more) all)

module _ (one : OneSweepFacts) where
  -- some bytes have the same instructions in the same blocks
  pub swept_unique : (bits : Bits) (words : List BlockWords) (bytes : List ℕ) (a b : List (List Item)) → AreSwept bits words bytes a →
      AreSwept bits words bytes b → a ≡ b
  swept_unique bits [] bytes [] [] h k = refl
  swept_unique bits [] bytes [] (y ∷ b) h k = absurd k
  swept_unique bits [] bytes (x ∷ a) b h k = absurd h
  swept_unique bits (w ∷ ws) bytes [] b h k = absurd h
  swept_unique bits (w ∷ ws) bytes (x ∷ a) [] h k = absurd k
  swept_unique bits (w ∷ ws) bytes (x ∷ a) (y ∷ b) h k =
      ap (λ (z : List Item). z ∷ a) (one.sweep_unique bits w.old (next_block_bytes w.len bytes) x y h.0 k.0)
      ∙ ap (λ (c : List (List Item)). y ∷ c) (swept_unique bits ws (left_by w.len bytes) a b h.2 k.2)

  -- bytes that are instructions alone have no single byte
  pub whole_stops : (bits : Bits) (base : ℕ) (bytes : List ℕ) (offset : ℕ) (error : DecodeError) (items : List Item) → IsSweep bits base bytes items →
      All IsInstruction items → BlockStopsAt bits base bytes offset error → ⊥
  whole_stops bits base bytes offset error items sweep all s =
      let begun = s.sweep in
      let more = one.sweep_begins bits base 0 bytes (s.items ++ s.last ∷ []) items begun.0 begun.1 sweep in
      apart s.last.reading error s.stops (among s.items s.last more.0 (All-same IsInstruction _ items (sym more.1) all))

  -- items that begin at one offset have one first single byte
  stops_same : (bits : Bits) (base offset : ℕ) (bytes : List ℕ) (xs ys : List Item) (x y : Item) (rest rest' : List ℕ) (e f : DecodeError) →
      Sweeps bits base offset bytes (xs ++ x ∷ []) rest → Sweeps bits base offset bytes (ys ++ y ∷ []) rest' → All IsInstruction xs → All IsInstruction ys →
      error_of x.reading ≡ Some e → error_of y.reading ≡ Some f → (x.offset ≡ y.offset) × (e ≡ f)
  stops_same bits base offset bytes [] [] x y rest rest' e f h k all all' stop stop' =
      let reading = one.reading_unique bits base offset bytes x.reading y.reading h.0.reads k.0.reads in
      let error : Some e ≡ Some f = sym stop ∙ (ap error_of reading ∙ stop') in
      (h.0.offset_is ∙ sym k.0.offset_is, cc)
  stops_same bits base offset bytes [] (z ∷ ys) x y rest rest' e f h k all all' stop stop' =
      let reading = one.reading_unique bits base offset bytes x.reading z.reading h.0.reads k.0.reads in
      absurd (apart x.reading e stop (ap error_of reading ∙ All-head IsInstruction z ys all'))
  stops_same bits base offset bytes (z ∷ xs) [] x y rest rest' e f h k all all' stop stop' =
      let reading = one.reading_unique bits base offset bytes y.reading z.reading k.0.reads h.0.reads in
      absurd (apart y.reading f stop' (ap error_of reading ∙ All-head IsInstruction z xs all))
  stops_same bits base offset bytes (z ∷ xs) (v ∷ ys) x y rest rest' e f h k all all' stop stop' =
      let reading = one.reading_unique bits base offset bytes v.reading z.reading k.0.reads h.0.reads in
      let S : Reading → Type 0 = λ r. Sweeps bits base (offset + item_len r) (drop (item_len r) bytes) (ys ++ y ∷ []) rest' in
      stops_same bits base (offset + item_len z.reading) (drop (item_len z.reading) bytes) xs ys x y rest rest' e f h.1 (subst S reading k.1)
      (All-tail IsInstruction z xs all)
      (All-tail IsInstruction v ys all')
      stop
      stop'

  -- a block stops at one place for one cause
  pub stops_unique : (bits : Bits) (base : ℕ) (bytes : List ℕ) (at at' : ℕ) (e f : DecodeError) → BlockStopsAt bits base bytes at e → BlockStopsAt bits base bytes at' f →
      (at ≡ at') × (e ≡ f)
  stops_unique bits base bytes at at' e f h k =
      let same = stops_same bits base 0 bytes h.items k.items h.last k.last h.sweep.0 k.sweep.0 e f h.sweep.1 k.sweep.1 h.all k.all h.stops k.stops in
      (sym h.offset_is ∙ (same.0 ∙ k.offset_is), same.1)

  -- **blocks of instructions alone have no single byte**
  pub swept_not_bad : {bits : Bits} {words : List BlockWords} {bytes : List ℕ} {start at : ℕ} {error : DecodeError} → IsBadAt bits words bytes start at error →
      (items : List (List Item)) → AreSwept bits words bytes items → ⊥
  swept_not_bad {words = []} bad items swept = elim bad [ ]
  swept_not_bad {words = w ∷ ws} (here s) [] swept = swept
  swept_not_bad {bits = bits} {words = w ∷ ws} {bytes = bytes} (here {offset = offset} {error = error} s) (x ∷ items) swept =
      whole_stops bits w.old (next_block_bytes w.len bytes) offset error x swept.0 swept.1 s
  swept_not_bad {words = w ∷ ws} (later whole bad) [] swept = swept
  swept_not_bad {words = w ∷ ws} (later whole bad) (x ∷ items) swept = swept_not_bad bad items swept.2

  -- some bytes have one first single byte
  bad_unique : {bits : Bits} {words : List BlockWords} {bytes : List ℕ} {start at at' : ℕ} {e f : DecodeError} → IsBadAt bits words bytes start at e →
      IsBadAt bits words bytes start at' f → (at ≡ at') × (e ≡ f)
  bad_unique {words = []} bad other = elim bad [ ]
  bad_unique {bits = bits} {words = w ∷ ws} {bytes = bytes} {start = start} (here {offset = m} {error = e} s) (here {offset = n} {error = f} t) =
      let same = stops_unique bits w.old (next_block_bytes w.len bytes) m n e f s t in (ap (λ (n : ℕ). start + n) same.0, same.1)
  bad_unique {bits = bits} {words = w ∷ ws} {bytes = bytes} (here {offset = m} {error = e} s) (later whole bad) =
      absurd (whole_stops bits w.old (next_block_bytes w.len bytes) m e whole.items whole.sweep whole.all s)
  bad_unique {bits = bits} {words = w ∷ ws} {bytes = bytes} (later whole bad) (here {offset = n} {error = f} t) =
      absurd (whole_stops bits w.old (next_block_bytes w.len bytes) n f whole.items whole.sweep whole.all t)
  bad_unique {words = w ∷ ws} (later whole bad) (later whole' bad') = bad_unique bad bad'

-- ---- the moving

-- the answer for some instructions
abbrev IsItemsAnswer : Bits → List Placed → List BlockSpan → Status → Type 0
IsItemsAnswer bits items spans Done = (m : MovedLists) × IsMoved bits items spans m
IsItemsAnswer bits items spans (TooMany count) = IsRefused bits items spans (error.TooMany count)
IsItemsAnswer bits items spans (Wraps end) = IsRefused bits items spans (error.Wraps end)
IsItemsAnswer bits items spans (TooFar at target) = IsRefused bits items spans (error.TooFar at target)
IsItemsAnswer bits items spans _ = ⊥

some_none : (a : ℕ) (o : Option ℕ) → o ≡ Some a → o ≡ None → ⊥
some_none a o some none = let e : Some a ≡ None = sym some ∙ none in cc

same_some : (a b : ℕ) (o : Option ℕ) → o ≡ Some a → o ≡ Some b → a ≡ b
same_some a b o h k = let e : Some a ≡ Some b = sym h ∙ k in cc

module _ (least_unique : (p : BlockPlan) → (a b : List ℕ) → IsLeast p a → IsLeast p b → a ≡ b) (bits : Bits) (items : List Placed) (spans : List BlockSpan) where
  -- the end past the address space, where all old ends are inside
  new_none : (a b : List ℕ) → IsLeast (plan_for bits spans items) a → IsLeast (plan_for bits spans items) b →
      first_new_pass bits (plan_for bits spans items) a ≡ None → first_new_pass bits (plan_for bits spans items) b ≡ None
  new_none a b la lb e = subst (λ (l : List ℕ). first_new_pass bits (plan_for bits spans items) l ≡ None) (least_unique (plan_for bits spans items) a b la lb) e

  -- an end does not pass where the blocks are moved
  moved_inside : (layout : List ℕ) (end : ℕ) → IsLeast (plan_for bits spans items) layout → first_new_pass bits (plan_for bits spans items) layout ≡ None →
      IsNewPass bits items spans end → ⊥
  moved_inside layout end least inside n = some_none end (first_new_pass bits (plan_for bits spans items) n.layout) n.passes (new_none layout n.layout least n.least inside)

  moved_not_far : (m : MovedLists) (at target : ℕ) → IsMoved bits items spans m → IsTooFar bits items spans at target → ⊥
  moved_not_far m at target h t =
      let first = subst (λ (l : List ℕ). IsFirstUnreached bits items (plan_for bits spans items) l at) (least_unique (plan_for bits spans items) t.layout h.layout t.least h.least) t.first in
      first.unreached (h.reached at first.within)

  wraps_same : (a b : ℕ) → IsOldPass bits items spans a ⊎ IsNewPass bits items spans a → IsOldPass bits items spans b ⊎ IsNewPass bits items spans b → a ≡ b
  wraps_same a b (inl h) (inl k) = same_some a b _ h.passes k.passes
  wraps_same a b (inl h) (inr k) = absurd (some_none a _ h.passes k.old.ends)
  wraps_same a b (inr h) (inl k) = absurd (some_none b _ k.passes h.old.ends)
  wraps_same a b (inr h) (inr k) =
      let there = subst (λ (l : List ℕ). first_new_pass bits (plan_for bits spans items) l ≡ Some a) (least_unique (plan_for bits spans items) h.layout k.layout h.least k.least) h.passes in
      same_some a b _ there k.passes

  -- no end passes the address space where another cause is told
  no_wraps : (layout : List ℕ) (end : ℕ) → first_old_pass bits spans items ≡ None → IsLeast (plan_for bits spans items) layout →
      first_new_pass bits (plan_for bits spans items) layout ≡ None → IsOldPass bits items spans end ⊎ IsNewPass bits items spans end → ⊥
  no_wraps layout end old least inside (inl h) = some_none end _ h.passes old
  no_wraps layout end old least inside (inr h) = moved_inside layout end least inside h

  few_wraps : (end : ℕ) → IsOldPass bits items spans end ⊎ IsNewPass bits items spans end → length items ≤ 65536
  few_wraps end (inl h) = h.few
  few_wraps end (inr h) = h.old.few

  far_same : (a b t u : ℕ) → IsTooFar bits items spans a t → IsTooFar bits items spans b u → TooFar a t ≡ TooFar b u
  far_same a b t u h k =
      let p = plan_for bits spans items in
      let layouts = least_unique p h.layout k.layout h.least k.least in
      let first = subst (λ (l : List ℕ). IsFirstUnreached bits items p l a) layouts h.first in
      let at : a ≡ b = elim (cases_order a b) [
        | inl e ↦ e
        | inr (inl lt) ↦ absurd (first.unreached (k.first.before a lt))
        | inr (inr gt) ↦ absurd (k.first.unreached (first.before b gt))
      ] in
      let target : t ≡ u = h.target_is ∙ (ap (λ (l : List ℕ). goal_address p l a) layouts ∙ (ap (goal_address p k.layout) at ∙ sym k.target_is)) in
      ap (λ (n : ℕ). TooFar n t) at ∙ ap (TooFar b) target

  items_unique : (s t : Status) → IsItemsAnswer bits items spans s → IsItemsAnswer bits items spans t → s ≡ t
  items_unique Done Done h k = refl
  items_unique Done (TooMany count) h k = let few = h.1.old.few in absurd (omega (arith, k.0))
  items_unique Done (Wraps end) h k = absurd (no_wraps h.1.layout end h.1.old.ends h.1.least h.1.ends k)
  items_unique Done (TooFar at target) h k = absurd (moved_not_far h.0 at target h.1 k)
  items_unique (TooMany count) Done h k = let few = k.1.old.few in absurd (omega (arith, h.0))
  items_unique (TooMany count) (TooMany other) h k = ap TooMany (h.1 ∙ sym k.1)
  items_unique (TooMany count) (Wraps end) h k = absurd (omega (arith, h.0, few_wraps end k))
  items_unique (TooMany count) (TooFar at target) h k = let few = k.old.few in absurd (omega (arith, h.0))
  items_unique (Wraps end) Done h k = absurd (no_wraps k.1.layout end k.1.old.ends k.1.least k.1.ends h)
  items_unique (Wraps end) (TooMany count) h k = absurd (omega (arith, k.0, few_wraps end h))
  items_unique (Wraps end) (Wraps other) h k = ap Wraps (wraps_same end other h k)
  items_unique (Wraps end) (TooFar at target) h k = absurd (no_wraps k.layout end k.old.ends k.least k.ends h)
  items_unique (TooFar at target) Done h k = absurd (moved_not_far k.0 at target k.1 h)
  items_unique (TooFar at target) (TooMany count) h k = let few = h.old.few in absurd (omega (arith, k.0))
  items_unique (TooFar at target) (Wraps end) h k = absurd (no_wraps h.layout end h.old.ends h.least h.ends k)
  items_unique (TooFar at target) (TooFar other goal) h k = far_same at other target goal h k
  items_unique Done _ h k = absurd k
  items_unique (TooMany count) _ h k = absurd k
  items_unique (Wraps end) _ h k = absurd k
  items_unique (TooFar at target) _ h k = absurd k
  items_unique _ t h k = absurd h

-- ---- the answer

-- an answer for some bytes: that for their instructions, or their first single byte
abbrev Split : Bits → List BlockWords → List ℕ → Status → Type 0
Split bits words bytes s =
    ((items : List (List Item)) × (AreSwept bits words bytes items × IsItemsAnswer bits (all_placed words items) (all_spans words items) s))
    ⊎ ((at : ℕ) × ((error : DecodeError) × ((s ≡ BadCode at error) × IsBadAt bits words bytes 0 at error)))

split : (wanted : Wanted) (bits : Bits) (words : List BlockWords) (bytes : List ℕ) (s : Status) → IsMovingAnswer wanted bits words bytes s → Split bits words bytes s
split wanted bits words bytes Done h = inl (h.1.items, (h.1.swept, (h.1.moved, h.1.is_moved)))
split wanted bits words bytes (BadCode offset e) h = inr (offset, (e, (refl, h)))
split wanted bits words bytes (TooMany count) h = inl (h.items, (h.swept, h.refused))
split wanted bits words bytes (Wraps end) h = inl (h.items, (h.swept, h.refused))
split wanted bits words bytes (TooFar at target) h = inl (h.items, (h.swept, h.refused))
split wanted bits words bytes _ h = absurd h

module _ (one : OneSweepFacts) (least_unique : (p : BlockPlan) → (a b : List ℕ) → IsLeast p a → IsLeast p b → a ≡ b) where
  joined : (bits : Bits) (words : List BlockWords) (bytes : List ℕ) (s t : Status) → Split bits words bytes s → Split bits words bytes t → s ≡ t
  joined bits words bytes s t (inl h) (inl k) =
      let same = swept_unique one bits words bytes k.0 h.0 k.1.0 h.1.0 in
      let there = subst (λ (items : List (List Item)). IsItemsAnswer bits (all_placed words items) (all_spans words items) t) same k.1.1 in
      items_unique least_unique bits (all_placed words h.0) (all_spans words h.0) s t h.1.1 there
  joined bits words bytes s t (inl h) (inr k) = absurd (swept_not_bad one k.1.1.1 h.0 h.1.0)
  joined bits words bytes s t (inr h) (inl k) = absurd (swept_not_bad one h.1.1.1 k.0 k.1.0)
  joined bits words bytes s t (inr h) (inr k) =
      let same = bad_unique one h.1.1.1 k.1.1.1 in
      h.1.1.0 ∙ (ap (λ (n : ℕ). BadCode n h.1.0) same.0 ∙ (ap (BadCode k.0) same.1 ∙ sym k.1.1.0))

  -- **some bytes have one answer**
  pub answer_unique : (wanted : Wanted) (bits : Bits) (words : List BlockWords) (bytes : List ℕ) (s t : Status) → IsMovingAnswer wanted bits words bytes s →
      IsMovingAnswer wanted bits words bytes t → s ≡ t
  answer_unique wanted bits words bytes s t h k = joined bits words bytes s t (split wanted bits words bytes s h) (split wanted bits words bytes t k)
