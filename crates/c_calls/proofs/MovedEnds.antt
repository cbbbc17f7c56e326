-- Where the code of a moving ends, by each of its calls.
use Rattle.std.proofs.Common.{◌≡◌, ℕ, ◌-◌, ◌%◌, ◌^◌, ◌<◌, List, length, get_or, ap, ◌∙◌, arith}
use Rattle.std.proofs.lemmas.List.FromFn.{get_or-map-range_with_len}
use Rattle.x86_values.specs.declared.Bits.{Bits}
use Rattle.branch_sizes.specs.declared.plan.BlockSpan.{BlockSpan}
use Rattle.branch_sizes.specs.Layout.{span_at}
use Rattle.move_goals.specs.declared.items.Placed.{Placed}
use Rattle.move_goals.specs.Items.{AreSpansOf, one_span}
use Rattle.move_goals.specs.Goals.{goal_at}
use Rattle.move_goals.specs.Plan.{kept_goals, plan_for, plan_outside}
use Rattle.branch_sizes.specs.MoveLayout.Laid.{images_end}
use Rattle.block_encoder.specs.Facts.{FragmentFacts}
use Rattle.c_calls.specs.declared.flat.FlatPlace.{FlatPlace}
use Rattle.c_calls.specs.declared.moved.MovedCode.{MovedCode}
use Rattle.c_calls.specs.declared.moved_blocks.CodeBlocks.{CodeBlocks}
use Rattle.c_calls.specs.declared.moved.Targets.TheVariants.{Follow, Stay}
use Rattle.c_calls.specs.Moving.{AreMoved}
use Rattle.c_calls.specs.Blocks.{AreBlocksMoved, place_at, places, no_place}
use Rattle.c_calls.proofs.CodeLengths.{code-ends}

one_of : (items : List Placed) (new : ℕ) → AreSpansOf items (one_span items new)
one_of items new = record { few = omega arith; counts = omega arith }

-- moved code whose targets follow ends where its images and slots do
pub follow-ends : FragmentFacts → (bits : Bits) (items : List Placed) (new : ℕ) (m : MovedCode) → (moved : AreMoved Follow bits items new m) →
    m.code_len ≡ (images_end (plan_for bits (one_span items new) items) moved.moved.layout 0 - new) % 2 ^ 64
follow-ends fragments bits items new m moved =
    moved.end ∙ code-ends fragments bits items (one_span items new) (goal_at (one_span items new) items) (one_of items new) moved.moved.layout moved.moved.least.closed.is_layout m.moved moved.moved.lists 0 (omega arith)

-- so does moved code whose targets stay
pub stay-ends : FragmentFacts → (bits : Bits) (items : List Placed) (new : ℕ) (m : MovedCode) → (moved : AreMoved Stay bits items new m) →
    m.code_len ≡ (images_end (plan_outside bits items new) moved.moved.1.layout 0 - new) % 2 ^ 64
stay-ends fragments bits items new m moved =
    moved.end ∙ code-ends fragments bits items (one_span items new) (kept_goals items) (one_of items new) moved.moved.1.layout moved.moved.1.least.closed.is_layout m.moved moved.moved.1.lists 0 (omega arith)

-- so does each moved block
pub blocks-end : FragmentFacts → (bits : Bits) (spans : List BlockSpan) (items : List Placed) (m : CodeBlocks) → AreSpansOf items spans → (moved : AreBlocksMoved bits spans items m) →
    (b : ℕ) → b < length spans → (get_or m.places.items b no_place).code_bytes ≡ (images_end (plan_for bits spans items) moved.moved.layout b - (span_at spans b).new_base) % 2 ^ 64
unfolding places place_at
blocks-end fragments bits spans items m of moved b lt =
    ap (λ (xs : List FlatPlace). (get_or xs b no_place).code_bytes) moved.places_are
    ∙ (ap (λ (x : FlatPlace). x.code_bytes) (get_or-map-range_with_len (place_at bits spans items m.moved) 0 (length spans) b b no_place lt (omega arith))
    ∙ code-ends fragments bits items spans (goal_at spans items) of moved.moved.layout moved.moved.least.closed.is_layout m.moved moved.moved.lists b lt)
