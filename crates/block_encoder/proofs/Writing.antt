-- What is written of moved blocks so far, and the steps by an item and by the end of a block.
use Rattle.std.proofs.Common.{◌≡◌, ℕ, zero, suc, ◌+◌, ◌^◌, ◌<◌, inl, inr, List, [], ◌∷◌, ◌++◌, length, map, arith, add-zero, add-one, refl, sym, subst, ap, ◌∙◌}
use Rattle.std.proofs.lemmas.Bool.{cases_lt}
use Rattle.std.proofs.lemmas.List.{append-nil, append_assoc}
use Rattle.std.proofs.lemmas.List.FromFn.{map-range_with_len_more}
use Rattle.std.proofs.lemmas.Grind.{flat_map-append}
use Rattle.std.specs.List.{flat_map, range_with_len}
use Rattle.x86_values.specs.declared.Bits.{Bits}
use Rattle.branch_sizes.specs.declared.plan.Form.{Form}
use Rattle.branch_sizes.specs.Plan.{BlockPlan}
use Rattle.branch_sizes.specs.Layout.{first_of_block, span_at, item_choice, place}
use Rattle.move_goals.specs.declared.items.Placed.{Placed}
use Rattle.move_goals.specs.Items.{item_at}
use Rattle.branch_sizes.specs.declared.move_layout.layout.Fragment.{Fragment}
use Rattle.branch_sizes.specs.declared.move_layout.layout.BlockEnd.{BlockEnd}
use Rattle.branch_sizes.specs.MoveLayout.Laid.{goal_address, fragment_at, end_at, slots_of, all_slots}
use Rattle.block_encoder.specs.Bytes.{bytes_at, block_images, gap_bytes, slot_bytes, block_bytes, bytes_of_blocks}
use Rattle.block_encoder.specs.Moved.{MovedLists, IsReached, IsFirstUnreached, AreListsOf}
use Rattle.block_encoder.specs.Written.{IsFragmentWritten, gap_behind}

-- the first b blocks are written, and i items of the next one
pub record AreWritten (bits : Bits) (items : List Placed) (p : BlockPlan) (layout : List ℕ) (b i : ℕ)
    (bytes starts : List ℕ) (forms : List Form) (slots ends : List ℕ) : Type 0 where
  pub bytes_are : bytes ≡ bytes_of_blocks bits items p layout b
      ++ flat_map (bytes_at bits items p layout) (range_with_len (first_of_block p.spans b) i)
  pub starts_are : starts ≡ map (place p layout) (range_with_len 0 (first_of_block p.spans b + i))
  pub forms_are : forms ≡ map (λ k. (item_choice p layout k).form) (range_with_len 0 (first_of_block p.spans b + i))
  pub slots_are : slots ≡ all_slots p layout b
  pub ends_are : ends ≡ map (λ n. length (bytes_of_blocks bits items p layout (n + 1))) (range_with_len 0 b)
  pub reached : (k : ℕ) → k < first_of_block p.spans b + i → IsReached bits items p layout k
  pub goals_fit : (k : ℕ) → k < first_of_block p.spans b + i → goal_address p layout k < 2 ^ 64

range_more : (a n : ℕ) → range_with_len a (suc n) ≡ range_with_len a n ++ (a + n) ∷ []
range_more a zero = rw add-zero refl
range_more a (suc n) =
    let e : a + 1 + n ≡ a + suc n = omega arith in
    ap (λ xs. a ∷ xs) (range_more (a + 1) n ∙ ap (λ x. range_with_len (a + 1) n ++ x ∷ []) e)

-- the lists of one number more
pub flat_more : (f : ℕ → List ℕ) (a n j : ℕ) → a + n ≡ j
    → flat_map f (range_with_len a (n + 1)) ≡ flat_map f (range_with_len a n) ++ f j
flat_more f a n j e =
    let one : n + 1 ≡ suc n = omega arith in
    ap (λ m. flat_map f (range_with_len a m)) one
    ∙ (ap (flat_map f) (range_more a n ∙ ap (λ x. range_with_len a n ++ x ∷ []) e)
    ∙ (flat_map-append f (range_with_len a n) (j ∷ []) ∙ ap (λ xs. flat_map f (range_with_len a n) ++ xs) (append-nil (f j))))

-- what holds below a number and at it
one_more : (P : ℕ → Type 0) (n k m : ℕ) → n ≡ k → m ≡ n + 1 → ((j : ℕ) → j < n → P j) → P k → (j : ℕ) → j < m → P j
one_more P n k m e f below here j lt =
    elim (cases_lt j n) [ inl less ↦ below j less | inr ge ↦ let at : k ≡ j = omega arith in subst P at here ]

module _ (bits : Bits) (items : List Placed) (p : BlockPlan) (layout : List ℕ) (b i : ℕ) (bytes starts : List ℕ) (forms : List Form) (slots ends : List ℕ)
    (w : AreWritten bits items p layout b i bytes starts forms slots ends) where
  -- item k, which is item i of block b, in its fragment
  module _ (k : ℕ) (e : k ≡ first_of_block p.spans b + i) (fragment : Fragment) (is : fragment ≡ fragment_at p layout k) where
    fragment_place : fragment.place ≡ place p layout k
    unfolding fragment_at
    fragment_place = ap (λ s. s.place) is

    fragment_form : fragment.form ≡ (item_choice p layout k).form
    unfolding fragment_at
    fragment_form = ap (λ s. s.form) is

    fragment_goal : fragment.goal ≡ goal_address p layout k
    unfolding fragment_at
    fragment_goal = ap (λ s. s.goal) is

    -- the item is written
    pub item_step : (bytes2 starts2 : List ℕ) (forms2 : List Form) → fragment.goal < 2 ^ 64
        → IsFragmentWritten bits (item_at items k).instr fragment bytes bytes2 → starts2 ≡ starts ++ fragment.place ∷ [] → forms2 ≡ forms ++ fragment.form ∷ []
        → AreWritten bits items p layout b (i + 1) bytes2 starts2 forms2 slots ends
    item_step bytes2 starts2 forms2 goal written placed formed =
        let here : IsFragmentWritten bits (item_at items k).instr (fragment_at p layout k) bytes bytes2 =
        subst (λ s. IsFragmentWritten bits (item_at items k).instr s bytes bytes2) is written in
        let n = first_of_block p.spans b + i in
        let one : n + 1 ≡ first_of_block p.spans b + (i + 1) = omega arith in
        let at : 0 + n ≡ k = omega arith in
        let f = bytes_at bits items p layout in
        let all = bytes_of_blocks bits items p layout b in
        let some = flat_map f (range_with_len (first_of_block p.spans b) i) in
        let form_of : ℕ → Form = λ j. (item_choice p layout j).form in
        record {
          bytes_are = (here.1 ∙ ap (λ xs. xs ++ f k) w.bytes_are)
              ∙ (append_assoc all some (f k) ∙ ap (λ xs. all ++ xs) (sym (flat_more f (first_of_block p.spans b) i k (sym e))));
          starts_are = (placed ∙ (ap (λ xs. xs ++ fragment.place ∷ []) w.starts_are
              ∙ ap (λ x. map (place p layout) (range_with_len 0 n) ++ x ∷ []) fragment_place))
              ∙ (sym (map-range_with_len_more (place p layout) 0 n k at) ∙ ap (λ m. map (place p layout) (range_with_len 0 m)) one);
          forms_are = (formed ∙ (ap (λ xs. xs ++ fragment.form ∷ []) w.forms_are
              ∙ ap (λ x. map form_of (range_with_len 0 n) ++ x ∷ []) fragment_form))
              ∙ (sym (map-range_with_len_more form_of 0 n k at) ∙ ap (λ m. map form_of (range_with_len 0 m)) one);
          slots_are = w.slots_are;
          ends_are = w.ends_are;
          reached = one_more (IsReached bits items p layout) n k (first_of_block p.spans b + (i + 1)) (sym e) (sym one) w.reached here.0;
          goals_fit = one_more (λ j. goal_address p layout j < 2 ^ 64) n k (first_of_block p.spans b + (i + 1)) (sym e) (sym one) w.goals_fit
              (omega (arith, fragment_goal, goal));
        }

    -- the item is the first that does not reach its goal
    pub item_stops : k < length items → (IsReached bits items p layout k → ⊥) → IsFirstUnreached bits items p layout k
    item_stops lt stuck = record {
      within = lt;
      unreached = stuck;
      before = λ j less. w.reached j (omega arith);
    }

  -- the end of block b
  module _ (whole : i ≡ (span_at p.spans b).count) (end : BlockEnd) (is : end ≡ end_at p layout b) (goals : List ℕ) (are : goals ≡ slots_of p layout b) where
    end_images : block_images bits items p layout b ≡ flat_map (bytes_at bits items p layout) (range_with_len (first_of_block p.spans b) i)
    unfolding block_images
    end_images = ap (λ n. flat_map (bytes_at bits items p layout) (range_with_len (first_of_block p.spans b) n)) (sym whole)

    end_gap : gap_behind end.images end.slots ≡ gap_bytes p layout b
    unfolding gap_behind gap_bytes end_at
    end_gap = ap (λ (x : BlockEnd). gap_behind x.images x.slots) is

    end_bytes : flat_map (bytes_at bits items p layout) (range_with_len (first_of_block p.spans b) i)
        ++ (gap_behind end.images end.slots ++ slot_bytes goals) ≡ block_bytes bits items p layout b
    unfolding block_bytes
    end_bytes =
        ap (λ xs. xs ++ (gap_behind end.images end.slots ++ slot_bytes goals)) (sym end_images)
        ∙ (ap (λ xs. block_images bits items p layout b ++ (xs ++ slot_bytes goals)) end_gap
        ∙ ap (λ xs. block_images bits items p layout b ++ (gap_bytes p layout b ++ slot_bytes xs)) are)

    next_first : first_of_block p.spans b + i ≡ first_of_block p.spans (b + 1) + 0
    next_first =
        let step : first_of_block p.spans (b + 1) ≡ first_of_block p.spans b + (span_at p.spans b).count = rw add-one refl in
        omega (arith, step, whole)

    -- the block is written
    pub block_step : (bytes2 slots2 ends2 : List ℕ) → bytes2 ≡ bytes ++ (gap_behind end.images end.slots ++ slot_bytes goals)
        → slots2 ≡ slots ++ goals → ends2 ≡ ends ++ length bytes2 ∷ [] → AreWritten bits items p layout (b + 1) 0 bytes2 starts forms slots2 ends2
    block_step bytes2 slots2 ends2 written slotted ended =
        let all = bytes_of_blocks bits items p layout b in
        let some = flat_map (bytes_at bits items p layout) (range_with_len (first_of_block p.spans b) i) in
        let rest = gap_behind end.images end.slots ++ slot_bytes goals in
        let none : 0 + b ≡ b = omega arith in
        let now : bytes2 ≡ bytes_of_blocks bits items p layout (b + 1) =
        (written ∙ ap (λ xs. xs ++ rest) w.bytes_are)
        ∙ (append_assoc all some rest ∙ (ap (λ xs. all ++ xs) end_bytes ∙ sym (flat_more (block_bytes bits items p layout) 0 b b none))) in
        let end_of : ℕ → ℕ = λ n. length (bytes_of_blocks bits items p layout (n + 1)) in
        record {
          bytes_are = now ∙ sym (append-nil (bytes_of_blocks bits items p layout (b + 1)));
          starts_are = w.starts_are ∙ ap (λ n. map (place p layout) (range_with_len 0 n)) next_first;
          forms_are = w.forms_are ∙ ap (λ n. map (λ k. (item_choice p layout k).form) (range_with_len 0 n)) next_first;
          slots_are = (slotted ∙ (ap (λ xs. xs ++ goals) w.slots_are ∙ ap (λ xs. all_slots p layout b ++ xs) are))
              ∙ sym (flat_more (slots_of p layout) 0 b b none);
          ends_are = (ended ∙ (ap (λ xs. xs ++ length bytes2 ∷ []) w.ends_are
              ∙ ap (λ xs. map end_of (range_with_len 0 b) ++ length xs ∷ []) now))
              ∙ sym (map-range_with_len_more end_of 0 b b none);
          reached = λ k lt. w.reached k (omega (arith, lt, next_first));
          goals_fit = λ k lt. w.goals_fit k (omega (arith, lt, next_first));
        }

-- before the first block nothing is written
pub none_written : (bits : Bits) (items : List Placed) (p : BlockPlan) (layout : List ℕ) → AreWritten bits items p layout 0 0 [] [] [] [] []
none_written bits items p layout = record {
  bytes_are = refl;
  starts_are = refl;
  forms_are = refl;
  slots_are = refl;
  ends_are = refl;
  reached = λ k lt. absurd (omega arith);
  goals_fit = λ k lt. absurd (omega arith);
}

-- behind the last block all lists are whole
pub all_written : (bits : Bits) (items : List Placed) (p : BlockPlan) (layout : List ℕ) (b : ℕ) (m : MovedLists) → b ≡ length p.spans
    → first_of_block p.spans b ≡ length items
    → AreWritten bits items p layout b 0 m.bytes m.starts m.forms m.slots m.ends
    → ((k : ℕ) → k < length items → IsReached bits items p layout k) × AreListsOf bits items p layout m
all_written bits items p layout b m last all w =
    let n : first_of_block p.spans b + 0 ≡ length items = omega (arith, all) in (
      λ k lt. w.reached k (omega (arith, n, lt)),
      record {
        bytes = (w.bytes_are ∙ append-nil (bytes_of_blocks bits items p layout b)) ∙ ap (bytes_of_blocks bits items p layout) last;
        starts = w.starts_are ∙ ap (λ x. map (place p layout) (range_with_len 0 x)) n;
        forms = w.forms_are ∙ ap (λ x. map (λ k. (item_choice p layout k).form) (range_with_len 0 x)) n;
        slots = w.slots_are ∙ ap (all_slots p layout) last;
        ends = w.ends_are ∙ ap (λ x. map (λ j. length (bytes_of_blocks bits items p layout (j + 1))) (range_with_len 0 x)) last;
      },
    )
