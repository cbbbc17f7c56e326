-- What moving the instructions of some code answers.
use Rattle.std.proofs.Common.{◌≡◌, ℕ, zero, suc, ◌+◌, ◌^◌, ◌<◌, ◌≤◌, true, false, List, [], ◌∷◌, length, Option, None, Some, refl, sym, ap, ◌∙◌, subst, arith, inl, inr}
use Rattle.std.specs.Prelude.{map, ◌==◌, Result, Err}
use Rattle.std.proofs.lemmas.List.{length-map}
use Rattle.std.proofs.lemmas.List.FromFn.{length-map-range_with_len}
use Rattle.std.proofs.lemmas.Bool.{cases_Bool, eqb-true, ltb-false}
use Rattle.x86_values.specs.declared.Bits.{Bits}
use Rattle.x86_values.specs.Wrapping.{width}
use Rattle.branch_sizes.specs.declared.plan.BlockSpan.{BlockSpan}
use Rattle.branch_sizes.specs.Facts.{BlockFacts}
use Rattle.move_goals.specs.declared.items.Placed.{Placed}
use Rattle.move_goals.specs.Items.{one_span, passes, first_disorder}
use Rattle.move_goals.specs.Facts.{FirstFacts}
use Rattle.block_encoder.specs.declared.error.MoveError.{MoveError}
use Rattle.block_encoder.specs.declared.error.MoveError.TheVariants as error
use Rattle.block_encoder.specs.declared.error.PlanError.{PlanError}
use Rattle.block_encoder.specs.Moved.{MovedLists, IsMoved, IsRefused, IsAnswer}
use Rattle.block_encoder.specs.Planned.{as_moving, move_error_of}
use Rattle.code_items.specs.Sound.{ItemList}
use Rattle.code_items.specs.Items.{ReadsUpTo, AreItemsOf, HasItems, wrapped_item, old_pass}
use Rattle.code_items.specs.Moving.{AreBeside, IsMovedCode, RefusesCode}
use Rattle.code_items.proofs.InOrder.{no_disorder, old_end_passes}
use Rattle.code_items.proofs.Wrapping.{wrapped-same}

-- ---- the old end

-- code that does not pass has no bytes, or ends inside the address space
pub not_past : (bits : Bits) (ip : ℕ) (bytes : List ℕ) → old_pass bits ip bytes ≡ None → 0 < length bytes → ip + length bytes ≤ 2 ^ width bits
unfolding old_pass
not_past bits ip bytes e some =
    elim (cases_Bool (length bytes == 0)) [
      | inl none ↦ absurd (let zero_len = eqb-true (length bytes) 0 none in omega (arith, zero_len))
      | inr more ↦
          let f = rw more at e in
          elim (cases_Bool (passes bits (ip + length bytes))) [
            | inl past ↦ (let g = rw past at f in absurd (let no : ⊥ = cc in no))
            | inr inside ↦ ltb-false (2 ^ width bits) (ip + length bytes) inside
          ]
    ]

positive : (n : ℕ) → (n == 0) ≡ false → 0 < n
positive zero e = absurd (cc)
positive (suc n) e = omega arith

-- what is told passes, and there are bytes
past : (bits : Bits) (ip : ℕ) (bytes : List ℕ) (end : ℕ) → old_pass bits ip bytes ≡ Some end →
    (0 < length bytes) × (passes bits (ip + length bytes) ≡ true) × (end ≡ ip + length bytes)
unfolding old_pass
past bits ip bytes end e =
    elim (cases_Bool (length bytes == 0)) [
      | inl none ↦ (let f = rw none at e in absurd (let no : ⊥ = cc in no))
      | inr more ↦
          let f = rw more at e in
          elim (cases_Bool (passes bits (ip + length bytes))) [
            | inl passing ↦ (let g = rw passing at f in (positive (length bytes) more, passing, cc))
            | inr inside ↦ (let g = rw inside at f in absurd (let no : ⊥ = cc in no))
          ]
    ]

-- code with bytes has items
some_items : (bits : Bits) (ip : ℕ) (bytes : List ℕ) (items : List Placed) (end : ℕ) → ReadsUpTo bits ip bytes items end [] → 0 < length bytes → 0 < length items
some_items bits ip bytes [] end h some = absurd (omega (arith, ap length h.1))
some_items bits ip bytes (p ∷ ps) end h some = omega arith

-- the items of code that does not pass have the addresses that they were kept with
kept_same : (bits : Bits) (ip : ℕ) (bytes : List ℕ) (items : List Placed) (end : ℕ) → ReadsUpTo bits ip bytes items end [] → old_pass bits ip bytes ≡ None →
    map (wrapped_item bits) items ≡ items
kept_same bits ip bytes [] end h inside = refl
kept_same bits ip bytes (p ∷ ps) end h inside =
    let some = h.0.some in
    let within = h.0.within in
    wrapped-same bits ip bytes (p ∷ ps) end [] h (not_past bits ip bytes inside (omega arith))

-- ---- the answers

module _ (bits : Bits) (ip : ℕ) (bytes : List ℕ) (new : ℕ) (list : ItemList) (h : HasItems bits ip bytes list) where
  count_is : length list.items ≡ length h.items
  count_is = ap length h.items_are ∙ length-map h.items (wrapped_item bits)

  -- more than 65,536 instructions are refused
  pub too_many : (count : ℕ) → count ≡ length list.items → 65536 < count → RefusesCode bits ip bytes new (error.TooMany count)
  too_many count is more = record {
    items = h.items;
    are = h.are;
    refused = (omega (arith, is, count_is, more), is ∙ count_is);
  }

  module _ (blocks : BlockFacts) (firsts : FirstFacts) where
    -- code that ended past the address space is refused
    pub old_end-refused : (count : ℕ) → count ≡ length list.items → count ≤ 65536 → (end : ℕ) → old_pass bits ip bytes ≡ Some end →
        RefusesCode bits ip bytes new (error.Wraps end)
    old_end-refused count is few end e =
        let told = past bits ip bytes end e in
        record {
          items = h.items;
          are = h.are;
          refused = inl (record {
            few = omega (arith, is, count_is, few);
            order = no_disorder blocks firsts bits ip bytes h.items h.are.end [] h.are.reads new;
            passes =
                old_end_passes firsts bits ip bytes h.items h.are.end h.are.reads (some_items bits ip bytes h.items h.are.end h.are.reads told.0) told.1 new
                ∙ ap Some (sym told.2);
          });
        }

    module _ (inside : old_pass bits ip bytes ≡ None) where
      same : list.items ≡ h.items
      same = h.items_are ∙ kept_same bits ip bytes h.items h.are.end h.are.reads inside

      -- the items are in order
      pub in_order : first_disorder (one_span list.items new) list.items ≡ None
      in_order =
          let D : List Placed → Type 0 = λ xs. first_disorder (one_span xs new) xs ≡ None in
          subst D (sym same) (no_disorder blocks firsts bits ip bytes h.items h.are.end [] h.are.reads new)

      -- a refusal to move the items refuses the code
      pub is_refused : (why : MoveError) → IsRefused list.bits list.items (one_span list.items new) why → RefusesCode bits ip bytes new why
      is_refused why refused =
          let B : Bits → Type 0 = λ b. IsRefused b list.items (one_span list.items new) why in
          let R : List Placed → Type 0 = λ xs. IsRefused bits xs (one_span xs new) why in
          record {
            items = h.items;
            are = h.are;
            refused = subst R same (subst B h.bits_are refused);
          }

      -- moved items are the moved code
      pub is_moved : (m : MovedLists) → IsMoved list.bits list.items (one_span list.items new) m →
          IsMovedCode bits ip bytes new (record { code = list; moved = m })
      is_moved m moved =
          let B : Bits → Type 0 = λ b. IsMoved b list.items (one_span list.items new) m in
          let A : List Placed → Type 0 = λ xs. AreItemsOf bits ip bytes xs in
          record {
            bits_are = h.bits_are;
            are = subst A (sym same) h.are;
            moved = subst B h.bits_are moved;
          }

-- each item has a new address and a form
pub are_beside : (bits : Bits) (items : List Placed) (spans : List BlockSpan) (m : MovedLists) → IsMoved bits items spans m → AreBeside items m
are_beside bits items spans m h = record {
  starts = ap length h.lists.starts ∙ length-map-range_with_len _ 0 (length items);
  forms = ap length h.lists.forms ∙ length-map-range_with_len _ 0 (length items);
}

-- ---- by what moving answered

-- an option that has no value is None
pub none_told : (o : Option ℕ) → ((x : ℕ) → o ≡ Some x → ⊥) → o ≡ None
none_told None h = refl
none_told (Some x) h = absurd (h x refl)

-- the refusal of a move is the one that is returned
pub refusal_is : (bits : Bits) (items : List Placed) (spans : List BlockSpan) (answer : Result MovedLists PlanError) (why told : PlanError) →
    IsAnswer bits items spans (as_moving answer) → answer ≡ Err why → why ≡ told → IsRefused bits items spans (move_error_of told)
refusal_is bits items spans answer why told h e is =
    let A : Result MovedLists PlanError → Type 0 = λ r. IsAnswer bits items spans (as_moving r) in
    let R : PlanError → Type 0 = λ w. IsRefused bits items spans (move_error_of w) in
    subst R is (subst A e h)
