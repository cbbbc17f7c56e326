-- Bytes that are ready, item by item, and the plan of what they are ready of.
use Rattle.std.proofs.Common.{◌≡◌, ℕ, zero, suc, List, [], ◌∷◌, ◌++◌, length, slice_index_or, None, arith, refl, sym, subst, ◌∙◌}
use Rattle.arrayvec.specs.ArrayVec.{ArrayVec}
use Rattle.x86_values.specs.declared.Bits.{Bits}
use Rattle.x86_values.specs.declared.Instr.{Instr}
use Rattle.branch_sizes.specs.declared.plan.Goal.TheVariants.{None as Nowhere}
use Rattle.move_goals.specs.MovedTargets.Targets.{target_of}
use Rattle.move_goals.specs.BranchForms.Choices.{choices_of}
use Rattle.move_goals.specs.declared.items.Placed.{Placed}
use Rattle.move_goals.specs.Items.{item_at}
use Rattle.move_goals.specs.Plan.{branch_between}
use Rattle.move_goals.specs.Ready.{MayBeReady, ready_at, AreReady}

-- what holds of each element, of one behind them and of what stands for none holds of each of the longer list
at_push : {X : Type 0} (P : X → Type 0) (xs : List X) (x d : X) (k : ℕ) → P (slice_index_or xs k d) → (k ≡ length xs → P x) → P d
    → P (slice_index_or (xs ++ x ∷ []) k d)
at_push P [] x d zero old new last = new refl
at_push P [] x d (suc k) old new last = last
at_push P (y ∷ ys) x d zero old new last = old
at_push P (y ∷ ys) x d (suc k) old new last = at_push P ys x d k old (λ e. new (omega (arith, e))) last

-- no bytes are ready of anything
pub none_ready : (bits : Bits) (i : Instr) → MayBeReady bits i []
none_ready bits i some = absurd (omega (arith, some))

-- those of one item more
pub push_ready : (bits : Bits) (items : List Placed) (n : ℕ) (ready more : List (ArrayVec ℕ)) (x : ArrayVec ℕ) → length ready ≡ n
    → AreReady bits items ready → more ≡ ready ++ x ∷ [] → MayBeReady bits (item_at items n).instr x.items → AreReady bits items more
push_ready bits items n ready more x len old e is k =
    subst (λ xs. MayBeReady bits (item_at items k).instr (ready_at xs k)) (sym e)
    (at_push (λ y. MayBeReady bits (item_at items k).instr y.items) ready x (record { items = [] }) k (old k)
    (λ at. subst (λ j. MayBeReady bits (item_at items j).instr x.items) (sym (at ∙ len)) is) (none_ready bits (item_at items k).instr))

-- what has no target goes nowhere
pub planned-ready : (bits : Bits) (items : List Placed) (from to k : ℕ) → target_of (item_at items k).instr ≡ None
    → record { choices = record { items = choices_of bits (item_at items k).instr }; goal = Nowhere } ≡ branch_between bits items from to k
planned-ready bits items from to k none = rw none refl
