-- What is known at each item and at the end of each block while moved blocks are written.
use Rattle.std.proofs.Common.{◌≡◌, ℕ, zero, suc, ◌+◌, ◌^◌, ◌<◌, ◌≤◌, List, [], ◌∷◌, ◌++◌, length, get_or, take, drop, map, None, Err, arith, sym, subst, ap, ◌∙◌}
use Rattle.std.proofs.lemmas.List.{get_or_read}
use Rattle.std.proofs.lemmas.List.FromFn.{length-map-range_with_len}
use Rattle.std.specs.List.{range_with_len}
use Rattle.x86_values.specs.declared.Bits.{Bits}
use Rattle.branch_sizes.specs.declared.plan.Branch.{Branch}
use Rattle.branch_sizes.specs.declared.plan.Form.{Form}
use Rattle.branch_sizes.specs.Plan.{BlockPlan, item_at, no_branch, IsWellFormed}
use Rattle.branch_sizes.specs.Layout.{first_of_block, span_at, place}
use Rattle.move_goals.specs.declared.items.Placed.{Placed}
use Rattle.move_goals.specs.Items.{item_at as instr_at}
use Rattle.branch_sizes.specs.declared.move_layout.layout.Fragment.{Fragment}
use Rattle.branch_sizes.specs.declared.move_layout.layout.BlockEnd.{BlockEnd}
use Rattle.branch_sizes.specs.declared.move_layout.layout.Layout.{Layout}
use Rattle.branch_sizes.specs.MoveLayout.Laid.{IsLaid, IsLaidLeast, goal_address, fragment_at, slots_of, all_slots, images_end, no_fragment, no_end}
use Rattle.block_encoder.specs.declared.error.PlanError.{PlanError}
use Rattle.block_encoder.specs.declared.error.PlanError.TheVariants.{Memory, Wraps, TooFar}
use Rattle.block_encoder.specs.Moved.{MovedLists, IsFragmentReached, IsReached, IsFirstUnreached}
use Rattle.block_encoder.specs.ByPlan.{IsMovedBy, IsPlanAnswer}
use Rattle.block_encoder.specs.Planned.{move_error_of}
use Rattle.block_encoder.specs.Written.{IsItemWritten, IsFragmentOf, gap_behind, first_end_past}
use Rattle.block_encoder.specs.Bytes.{slot_bytes}
use Rattle.block_encoder.specs.LawsBelow.{MovedLawsBelow}
use Rattle.block_encoder.proofs.Fragments.{end_fits, fragment_of, slots_below, slots_within, slots_part, same_pass}
use Rattle.block_encoder.proofs.Writing.{AreWritten, item_stops, block_step, all_written}

-- the items that are written are as many as their places
placed_count : (f : ℕ → ℕ) (starts : List ℕ) (n k : ℕ) → starts ≡ map f (range_with_len 0 n) → k ≡ length starts → k ≡ n
placed_count f starts n k e h = h ∙ (ap length e ∙ length-map-range_with_len f 0 n)

-- item k is item i of block b
pub record ItemFacts (items : List Placed) (p : BlockPlan) (laid : Layout) (b i k : ℕ) : Type 0 where
  pub at : k ≡ first_of_block p.spans b + i
  pub in_items : k < length items
  pub in_plan : k < length p.items
  pub in_fragments : k < length laid.fragments.items
  pub small : k < 65536
  pub fragment_is : (fragment : Fragment) → fragment ≡ get_or laid.fragments.items k fragment → fragment ≡ get_or laid.fragments.items k no_fragment
  pub fragment_for : (fragment : Fragment) (branch : Branch) → fragment ≡ get_or laid.fragments.items k fragment → branch ≡ get_or p.items k branch → IsFragmentOf branch fragment

-- the end of block b, whose slots come behind the first ones
pub record EndFacts (p : BlockPlan) (laid : Layout) (b first : ℕ) (end : BlockEnd) : Type 0 where
  pub end_is : end ≡ get_or laid.ends.items b no_end
  pub fits : first + end.slots ≤ length laid.slots.items
  pub few : first + end.slots ≤ 65536
  pub images : end.images < 2 ^ 66
  pub goals : (all : List ℕ) (n : ℕ) → all ≡ laid.slots.items → n ≡ end.slots → (j : ℕ) → j < length (take n (drop first all))
      → get_or (take n (drop first all)) j 0 < 2 ^ 64

fragment_goal_is : (p : BlockPlan) (layout : List ℕ) (k : ℕ) (fragment : Fragment) → fragment ≡ fragment_at p layout k → fragment.goal ≡ goal_address p layout k
unfolding fragment_at
fragment_goal_is p layout k fragment is = ap (λ (s : Fragment). s.goal) is

module _ (laws : MovedLawsBelow) where
  -- there are no more slots than items
  all_few : (p : BlockPlan) (layout : List ℕ) (b : ℕ) → length (all_slots p layout b) ≤ first_of_block p.spans b
  all_few p layout zero = omega arith
  all_few p layout (suc b) =
      let e : b + 1 ≡ suc b = omega arith in
      let more : length (all_slots p layout (suc b)) ≡ length (all_slots p layout b) + length (slots_of p layout b) =
      subst (λ n. length (all_slots p layout n) ≡ length (all_slots p layout b) + length (slots_of p layout b)) e (laws.slots.length-all_slots p layout b) in
      omega (arith, more, laws.slots.few-slots p layout b, all_few p layout b)

  module _ (bits : Bits) (items : List Placed) (p : BlockPlan) (laid : Layout) (w : IsWellFormed p) (count : length p.items ≡ length items)
      (ll : IsLaidLeast p laid) (none : first_end_past bits laid.ends.items ≡ None) (b i : ℕ)
      (bytes starts : List ℕ) (forms : List Form) (slots ends : List ℕ)
      (written : AreWritten bits items p ll.0 b i bytes starts forms slots ends) (bl : b < length p.spans) where
    -- what is known of item k when its turn comes
    pub item_facts : i < (span_at p.spans b).count → (k : ℕ) → k ≡ length starts → ItemFacts items p laid b i k
    item_facts il k e =
        let at : k ≡ first_of_block p.spans b + i = placed_count (place p ll.0) starts (first_of_block p.spans b + i) k written.starts_are e in
        let in_plan : k < length p.items = omega (arith, at, laws.blocks.item_below p.spans b i bl il, w.counts) in
        let in_fragments : k < length laid.fragments.items = omega (arith, in_plan, ll.2.fragment_count) in
        record {
          at = at;
          in_items = omega (arith, in_plan, count);
          in_plan = in_plan;
          in_fragments = in_fragments;
          small = omega (arith, in_plan, w.few_items);
          fragment_is = λ fragment h. get_or_read laid.fragments.items k fragment in_fragments h no_fragment;
          fragment_for = λ fragment branch h g.
              let s : fragment_at p ll.0 k ≡ fragment = sym (get_or_read laid.fragments.items k fragment in_fragments h no_fragment ∙ ll.2.fragments k in_plan) in
              let x : item_at p k ≡ branch = sym (get_or_read p.items k branch in_plan g no_branch) in
              subst (λ a. IsFragmentOf branch a) s
              (subst (λ a. IsFragmentOf a (fragment_at p ll.0 k)) x
              (fragment_of laws p w ll.0 ll.1.closed.is_layout (end_fits laws bits p ll.0 laid ll.2 none) k in_plan));
        }

    -- an item that is not written refuses the blocks
    pub item_refuses : (k : ℕ) → ItemFacts items p laid b i k
        → (fragment : Fragment) → fragment ≡ get_or laid.fragments.items k fragment → (old new : List ℕ) (why : PlanError)
        → IsItemWritten bits (instr_at items k).instr fragment k old new (Err why) → IsPlanAnswer bits items p (Err (move_error_of why))
    item_refuses k f fragment is old new Memory h = tt
    item_refuses k f fragment is old new (Wraps n) h = absurd h
    item_refuses k f fragment is old new (TooFar j t) h =
        let s : fragment ≡ fragment_at p ll.0 k = f.fragment_is fragment is ∙ ll.2.fragments k f.in_plan in
        let goal : fragment.goal ≡ goal_address p ll.0 k = fragment_goal_is p ll.0 k fragment s in
        let stuck : IsReached bits items p ll.0 k → ⊥ = subst (λ a. IsFragmentReached bits (instr_at items k).instr a → ⊥) s h.1.1 in
        record {
          layout = ll.0;
          least = ll.1;
          ends = sym (same_pass laws bits p ll.0 laid ll.2) ∙ none;
          first = subst (IsFirstUnreached bits items p ll.0) (sym h.0)
              (item_stops bits items p ll.0 b i bytes starts forms slots ends written k f.at fragment s f.in_items stuck);
          target_is = (h.1.0 ∙ goal) ∙ ap (goal_address p ll.0) (sym h.0);
        }

    -- what is known of the end of a block when its turn comes
    pub end_facts : (span_at p.spans b).count ≡ i → (first : ℕ) → first ≡ length slots → (end : BlockEnd)
        → end ≡ get_or laid.ends.items b end → EndFacts p laid b first end
    end_facts whole first e end is =
        let end_is : end ≡ get_or laid.ends.items b no_end =
        get_or_read laid.ends.items b end (omega (arith, bl, ll.2.end_count)) is no_end in
        let count : end.slots ≡ length (slots_of p ll.0 b) = ap (λ (x : BlockEnd). x.slots) end_is ∙ laws.ends.end-slots p ll.0 laid ll.2 b bl in
        let images : end.images ≡ images_end p ll.0 b = ap (λ (x : BlockEnd). x.images) end_is ∙ laws.ends.end-images p ll.0 laid ll.2 b bl in
        let at : first ≡ length (all_slots p ll.0 b) = e ∙ ap length written.slots_are in
        let small : (j : ℕ) → j < length (slots_of p ll.0 b) → get_or (slots_of p ll.0 b) j 0 < 2 ^ 64 =
        slots_below p ll.0 b (2 ^ 64) (λ n lt. written.goals_fit (first_of_block p.spans b + n) (omega arith)) in
        record {
          end_is = end_is;
          fits = omega (arith, at, count, slots_within p ll.0 b bl, ap length ll.2.slots);
          few = omega (arith, at, count, all_few p ll.0 b, laws.slots.few-slots p ll.0 b, laws.blocks.first_below p.spans b bl, w.counts, w.few_items);
          images = omega (arith, images, laws.ends.images-le-end p ll.0 b, end_fits laws bits p ll.0 laid ll.2 none b bl);
          goals = λ all n all_is n_is.
              subst (λ (xs : List ℕ). (j : ℕ) → j < length xs → get_or xs j 0 < 2 ^ 64)
              (sym (slots_part p ll.0 b bl all first n (all_is ∙ ll.2.slots) at (n_is ∙ count))) small;
        }

  -- the step by the end of block b, whose slots are a part of all of them
  pub end_step : (bits : Bits) (items : List Placed) (p : BlockPlan) (laid : Layout) (layout : List ℕ) → (is : IsLaid p layout laid) → (b i : ℕ)
      (bytes starts : List ℕ) (forms : List Form) (slots ends : List ℕ) → AreWritten bits items p layout b i bytes starts forms slots ends
      → b < length p.spans → (span_at p.spans b).count ≡ i → (first : ℕ) → first ≡ length slots → (end : BlockEnd) → end ≡ get_or laid.ends.items b no_end
      → (all : List ℕ) (n : ℕ) → all ≡ laid.slots.items → n ≡ end.slots → (bytes2 slots2 ends2 : List ℕ)
      → bytes2 ≡ bytes ++ (gap_behind end.images end.slots ++ slot_bytes (take n (drop first all))) → slots2 ≡ slots ++ take n (drop first all)
      → ends2 ≡ ends ++ length bytes2 ∷ [] → AreWritten bits items p layout (b + 1) 0 bytes2 starts forms slots2 ends2
  end_step bits items p laid layout is b i bytes starts forms slots ends written bl whole first e end end_is all n all_is n_is bytes2 slots2 ends2 hb hs he =
      let count : end.slots ≡ length (slots_of p layout b) = ap (λ (x : BlockEnd). x.slots) end_is ∙ laws.ends.end-slots p layout laid is b bl in
      let goals : take n (drop first all) ≡ slots_of p layout b =
      slots_part p layout b bl all first n (all_is ∙ is.slots) (e ∙ ap length written.slots_are) (n_is ∙ count) in
      block_step bits items p layout b i bytes starts forms slots ends written (sym whole) end (end_is ∙ is.ends b bl) (take n (drop first all)) goals
      bytes2 slots2 ends2 hb hs he

  -- behind the last block the blocks are moved
  pub blocks_moved : (bits : Bits) (items : List Placed) (p : BlockPlan) (laid : Layout) → IsWellFormed p → length p.items ≡ length items
      → (ll : IsLaidLeast p laid) → first_end_past bits laid.ends.items ≡ None → (b : ℕ) → b ≡ length p.spans
      → (m : MovedLists) → AreWritten bits items p ll.0 b 0 m.bytes m.starts m.forms m.slots m.ends → IsMovedBy bits items p m
  blocks_moved bits items p laid w count ll none b last m written =
      let whole : first_of_block p.spans b ≡ length items =
      omega (arith, ap (first_of_block p.spans) last, laws.blocks.first_of_end p.spans, w.counts, count) in
      let all = all_written bits items p ll.0 b m last whole written in
      record {
        layout = ll.0;
        least = ll.1;
        ends = sym (same_pass laws bits p ll.0 laid ll.2) ∙ none;
        reached = all.0;
        lists = all.1;
      }
