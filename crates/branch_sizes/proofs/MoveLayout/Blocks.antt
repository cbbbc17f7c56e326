-- The items of a block with their slots, laid out one by one.
use Rattle.std.proofs.Common.{◌≡◌, ℕ, zero, suc, ◌+◌, ◌-◌, ◌*◌, ◌<◌, ◌≤◌, inl, inr, List, [], ◌∷◌, ◌++◌, length, get_or, Bool, true, false, cond, arith, add-zero, add-suc, add-one, refl, sym, subst, ap, ◌∙◌, length-append}
use Rattle.std.proofs.lemmas.Bool.{cases_lt}
use Rattle.std.proofs.lemmas.List.{get_or_append_left, get_or_push}
use Rattle.std.proofs.lemmas.List.{append-nil}
use Rattle.std.proofs.lemmas.Grind.{flat_map-append}
use Rattle.std.specs.List.{flat_map, range_with_len}
use Rattle.std.specs.Prelude.{◌==◌}
use Rattle.branch_sizes.specs.Plan.{BlockPlan}
use Rattle.branch_sizes.specs.Facts.{BlockFacts}
use Rattle.branch_sizes.specs.Layout.{block_number, first_of_block, span_at, item_choice, place}
use Rattle.branch_sizes.specs.declared.move_layout.layout.Fragment.{Fragment}
use Rattle.branch_sizes.specs.declared.move_layout.layout.BlockEnd.{BlockEnd}
use Rattle.branch_sizes.specs.MoveLayout.Laid.{is_far_at, goal_address, far_goals, with_goal, slots_of, all_slots, images_end, new_end, slots_start, slot_address, fragment_at, end_at, no_fragment, no_end}
use Rattle.branch_sizes.specs.MoveLayout.Slots.{place_among, fragment_over}
use Rattle.branch_sizes.specs.MoveLayout.Tables.{AreFragments, AreEnds}
use Rattle.branch_sizes.proofs.MoveLayout.Slotting.{stays_with, is_there, length-with_goal}

-- a further fragment extends the fragments of a block
pub push_fragment : (p : BlockPlan) (layout : List ℕ) (n : ℕ) (fragments more : List Fragment) (s : Fragment) → AreFragments p layout n fragments
    → more ≡ fragments ++ s ∷ [] → s ≡ fragment_at p layout n → AreFragments p layout (n + 1) more
push_fragment p layout n fragments more s a e is = record {
  len = omega (arith, ap length e, length-append fragments (s ∷ []), a.len);
  each = λ k lt. ap (λ xs. get_or xs k no_fragment) e ∙ elim (cases_lt k n) [
    | inl below ↦ get_or_append_left fragments (s ∷ []) no_fragment k (omega (arith, a.len)) ∙ a.each k below
    | inr ge ↦
        let at : n ≡ k = omega arith in
        get_or_push fragments s no_fragment k (omega (arith, a.len)) ∙ (is ∙ ap (fragment_at p layout) at)
  ];
}

-- a further end extends the ends of blocks
pub push_end : (p : BlockPlan) (layout : List ℕ) (n : ℕ) (ends more : List BlockEnd) (x : BlockEnd) → AreEnds p layout n ends
    → more ≡ ends ++ x ∷ [] → x ≡ end_at p layout n → AreEnds p layout (n + 1) more
push_end p layout n ends more x a e is = record {
  len = omega (arith, ap length e, length-append ends (x ∷ []), a.len);
  each = λ k lt. ap (λ xs. get_or xs k no_end) e ∙ elim (cases_lt k n) [
    | inl below ↦ get_or_append_left ends (x ∷ []) no_end k (omega (arith, a.len)) ∙ a.each k below
    | inr ge ↦
        let at : n ≡ k = omega arith in
        get_or_push ends x no_end k (omega (arith, a.len)) ∙ (is ∙ ap (end_at p layout) at)
  ];
}

-- the goals of one item more
pub far_more : (p : BlockPlan) (layout : List ℕ) (first n k : ℕ) → k ≡ first + n
    → far_goals p layout first (n + 1) ≡ with_goal (far_goals p layout first n) (is_far_at p layout k) (goal_address p layout k)
far_more p layout first n k e =
    subst (λ j. far_goals p layout first (n + 1) ≡ with_goal (far_goals p layout first n) (is_far_at p layout j) (goal_address p layout j))
    (sym e) (rw add-one refl)

-- a far goal keeps its number
far_stays : (p : BlockPlan) (layout : List ℕ) (first i d : ℕ) → is_far_at p layout (first + i) ≡ true
    → (place_among (far_goals p layout first (suc i + d)) (goal_address p layout (first + i))
    ≡ place_among (far_goals p layout first (suc i)) (goal_address p layout (first + i)))
    × (place_among (far_goals p layout first (suc i + d)) (goal_address p layout (first + i)) < length (far_goals p layout first (suc i + d)))
far_stays p layout first i zero far =
    rw add-zero (
      refl,
      subst (λ f. place_among (with_goal (far_goals p layout first i) f (goal_address p layout (first + i))) (goal_address p layout (first + i))
          < length (with_goal (far_goals p layout first i) f (goal_address p layout (first + i))))
          (sym far) (is_there (far_goals p layout first i) (goal_address p layout (first + i))),
    )
far_stays p layout first i (suc d) far =
    let ih = far_stays p layout first i d far in
    let more = stays_with (far_goals p layout first (suc i + d)) (is_far_at p layout (first + (suc i + d))) (goal_address p layout (first + (suc i + d)))
    (goal_address p layout (first + i)) ih.1 in
    rw add-suc (more.0 ∙ ih.0, more.1)

-- an item of a far form has the number of its goal among the goals of its block
pub far_number : (p : BlockPlan) (layout : List ℕ) (first i n k : ℕ) → k ≡ first + i → i < n → is_far_at p layout k ≡ true
    → place_among (far_goals p layout first (i + 1)) (goal_address p layout k) ≡ place_among (far_goals p layout first n) (goal_address p layout k)
far_number p layout first i n k e lt far =
    let far_i : is_far_at p layout (first + i) ≡ true = subst (λ j. is_far_at p layout j ≡ true) e far in
    let all : suc i + (n - suc i) ≡ n = omega arith in
    let one : suc i ≡ i + 1 = omega arith in
    let stays = sym (far_stays p layout first i (n - suc i) far_i).0 in
    let named : place_among (far_goals p layout first (i + 1)) (goal_address p layout (first + i)) ≡ place_among (far_goals p layout first n) (goal_address p layout (first + i)) =
    subst (λ m. place_among (far_goals p layout first (i + 1)) (goal_address p layout (first + i)) ≡ place_among (far_goals p layout first m) (goal_address p layout (first + i))) all
    (subst (λ m. place_among (far_goals p layout first m) (goal_address p layout (first + i)) ≡ place_among (far_goals p layout first (suc i + (n - suc i))) (goal_address p layout (first + i))) one stays) in
    subst (λ j. place_among (far_goals p layout first (i + 1)) (goal_address p layout j) ≡ place_among (far_goals p layout first n) (goal_address p layout j)) (sym e) named

-- its goal is among them
pub far_listed : (p : BlockPlan) (layout : List ℕ) (first i n k : ℕ) → k ≡ first + i → i < n → is_far_at p layout k ≡ true
    → place_among (far_goals p layout first n) (goal_address p layout k) < length (far_goals p layout first n)
far_listed p layout first i n k e lt far =
    let far_i : is_far_at p layout (first + i) ≡ true = subst (λ j. is_far_at p layout j ≡ true) e far in
    let all : suc i + (n - suc i) ≡ n = omega arith in
    let named : place_among (far_goals p layout first n) (goal_address p layout (first + i)) < length (far_goals p layout first n) =
    subst (λ m. place_among (far_goals p layout first m) (goal_address p layout (first + i)) < length (far_goals p layout first m)) all
    (far_stays p layout first i (n - suc i) far_i).1 in
    subst (λ j. place_among (far_goals p layout first n) (goal_address p layout j) < length (far_goals p layout first n)) (sym e) named

-- a block has no more far goals than items
pub length-far_goals : (p : BlockPlan) (layout : List ℕ) (first n : ℕ) → length (far_goals p layout first n) ≤ n
length-far_goals p layout first zero = omega arith
length-far_goals p layout first (suc n) =
    omega (
      arith,
      length-far_goals p layout first n,
      length-with_goal (far_goals p layout first n) (is_far_at p layout (first + n)) (goal_address p layout (first + n)),
    )

cond_same : {A : Type 0} (b : Bool) (x y z : A) → (b ≡ true → x ≡ y) → cond b x z ≡ cond b y z
cond_same true x y z h = h refl
cond_same false x y z h = refl

-- item k, which is item i of block b, with the slots of the items up to it
pub fragment_is : (blocks : BlockFacts) (p : BlockPlan) (layout : List ℕ) (b i k start : ℕ) (goals : List ℕ) → b < length p.spans
    → i < (span_at p.spans b).count → k ≡ first_of_block p.spans b + i → start ≡ slots_start p layout b
    → goals ≡ far_goals p layout (first_of_block p.spans b) (i + 1) → fragment_over p layout k start goals ≡ fragment_at p layout k
unfolding fragment_at slot_address slots_of
fragment_is blocks p layout b i k start goals bl il e s g =
    ap (λ x. record {
      form = (item_choice p layout k).form;
      len = (item_choice p layout k).len;
      reach = (item_choice p layout k).reach;
      place = place p layout k;
      goal = goal_address p layout k;
      slot = x;
    })
    (cond_same (is_far_at p layout k) (start + 8 * place_among goals (goal_address p layout k))
    (slot_address p layout (block_number p.spans k) (goal_address p layout k)) 0
    (λ far.
    let number = far_number p layout (first_of_block p.spans b) i (span_at p.spans b).count k e il far in
    let here : slot_address p layout b (goal_address p layout k) ≡ slot_address p layout (block_number p.spans k) (goal_address p layout k) =
    ap (λ n. slot_address p layout n (goal_address p layout k)) (sym (blocks.block_at p.spans b k bl (omega (arith, e)) (omega (arith, e)))) in
    let listed = ap (λ xs. place_among xs (goal_address p layout k)) g in
    (omega (arith, s, number, listed) ∙ here)))

range_more : (a n : ℕ) → range_with_len a (suc n) ≡ range_with_len a n ++ (a + n) ∷ []
range_more a zero = rw add-zero refl
range_more a (suc n) =
    let e : a + 1 + n ≡ a + suc n = omega arith in
    ap (λ xs. a ∷ xs) (range_more (a + 1) n ∙ ap (λ x. range_with_len (a + 1) n ++ x ∷ []) e)

-- the slots of one block more
pub slots_more : (p : BlockPlan) (layout : List ℕ) (n : ℕ) → all_slots p layout (n + 1) ≡ all_slots p layout n ++ slots_of p layout n
slots_more p layout n =
    let one : n + 1 ≡ suc n = omega arith in
    let none : 0 + n ≡ n = omega arith in
    (ap (all_slots p layout) one
    ∙ ap (flat_map (slots_of p layout)) (range_more 0 n ∙ ap (λ x. range_with_len 0 n ++ x ∷ []) none))
    ∙ (flat_map-append (slots_of p layout) (range_with_len 0 n) (n ∷ [])
    ∙ ap (λ xs. all_slots p layout n ++ xs) (append-nil (slots_of p layout n)))

-- the end of a block, from where its images end and its slots begin
pub end_is : (p : BlockPlan) (layout : List ℕ) (b images start count last : ℕ) → images ≡ images_end p layout b
    → start ≡ slots_start p layout b → count ≡ length (slots_of p layout b) → last ≡ cond (count == 0) images (start + 8 * count)
    → record { images = images; slots = count; end = last } ≡ end_at p layout b
unfolding end_at new_end
end_is p layout b images start count last i s n e =
    let ends : last ≡ cond (length (slots_of p layout b) == 0) (images_end p layout b) (slots_start p layout b + 8 * length (slots_of p layout b)) =
    ((e ∙ ap (λ x. cond (x == 0) images (start + 8 * x)) n)
    ∙ ap (λ x. cond (length (slots_of p layout b) == 0) x (start + 8 * length (slots_of p layout b))) i)
    ∙ ap (λ x. cond (length (slots_of p layout b) == 0) (images_end p layout b) (x + 8 * length (slots_of p layout b))) s in
    (ap (λ x. record { images = x; slots = count; end = last }) i
    ∙ ap (λ x. record { images = images_end p layout b; slots = x; end = last }) n)
    ∙ ap (λ x. record { images = images_end p layout b; slots = length (slots_of p layout b); end = x }) ends
