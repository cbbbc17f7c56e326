-- The entries of moved instructions, one by one, and how many lists' elements there are.
use Rattle.std.proofs.Common.{◌≡◌, ℕ, ◌+◌, ◌<◌, List, [], ◌∷◌, ◌++◌, length, refl, ap, ◌∙◌, arith}
use Rattle.std.specs.Prelude.{Ok, Err}
use Rattle.std.proofs.lemmas.List.FromFn.{length-map-range_with_len, map-range_with_len_more}
use Rattle.x86_values.specs.declared.Bits.{Bits}
use Rattle.branch_sizes.specs.Plan.{BlockPlan}
use Rattle.branch_sizes.specs.declared.plan.Form.{Form}
use Rattle.move_goals.specs.declared.items.Placed.{Placed}
use Rattle.move_goals.specs.Items.{one_span}
use Rattle.move_goals.specs.Plan.{plan_for, plan_outside}
use Rattle.block_encoder.specs.declared.error.MoveError.TheVariants.{TooMany}
use Rattle.block_encoder.specs.Moved.{MovedLists, AreListsOf}
use Rattle.c_calls.specs.declared.moved.Targets.{Targets}
use Rattle.c_calls.specs.declared.moved.Targets.TheVariants.{Follow, Stay}
use Rattle.c_calls.specs.Moving.{entry_at, entries, IsRelocated}

-- no entries are those of no instructions
pub entries-none : (items : List Placed) (starts : List ℕ) (forms : List Form) → entries items starts forms 0 ≡ []
unfolding entries
entries-none items starts forms = refl

-- a further instruction adds its entry
pub entries-more : (items : List Placed) (starts : List ℕ) (forms : List Form) (k : ℕ) →
    entries items starts forms (k + 1) ≡ entries items starts forms k ++ entry_at items starts forms k ∷ []
unfolding entries
entries-more items starts forms k = map-range_with_len_more (entry_at items starts forms) 0 k k (omega arith)

-- ---- whatever becomes of the targets

-- the lists of moved instructions are those of a layout
lists_of : (targets : Targets) (bits : Bits) (items : List Placed) (new : ℕ) (m : MovedLists) → IsRelocated targets bits items new (Ok m) →
    (p : BlockPlan) × (layout : List ℕ) × AreListsOf bits items p layout m
lists_of Follow bits items new m h = (plan_for bits (one_span items new) items, h.layout, h.lists)
lists_of Stay bits items new m h = (plan_outside bits items new, h.1.layout, h.1.lists)

-- there is a new place for each instruction
pub starts_length : (targets : Targets) (bits : Bits) (items : List Placed) (new : ℕ) (m : MovedLists) → IsRelocated targets bits items new (Ok m) →
    length m.starts ≡ length items
starts_length targets bits items new m h = ap length (lists_of targets bits items new m h).2.starts ∙ length-map-range_with_len _ 0 (length items)

-- and a form
pub forms_length : (targets : Targets) (bits : Bits) (items : List Placed) (new : ℕ) (m : MovedLists) → IsRelocated targets bits items new (Ok m) →
    length m.forms ≡ length items
forms_length targets bits items new m h = ap length (lists_of targets bits items new m h).2.forms ∙ length-map-range_with_len _ 0 (length items)

-- more than 65,536 instructions are too many
pub too_many : (targets : Targets) (bits : Bits) (items : List Placed) (new count : ℕ) → 65536 < length items → count ≡ length items →
    IsRelocated targets bits items new (Err (TooMany count))
too_many Follow bits items new count more is = (more, is)
too_many Stay bits items new count more is = (more, is)
