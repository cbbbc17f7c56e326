-- Where moved instructions stand of which some have no row, and what their numbers refer to.
use Rattle.std.specs.Prelude.{◌≡◌, ◌⊎◌, ℕ, ◌+◌, ◌-◌, ◌^◌, ◌<◌, ◌≤◌, true, List, length, take, drop, Some}
use Rattle.x86_values.specs.declared.Bits.{Bits}
use Rattle.x86_values.specs.Wrapping.{width}
use Rattle.row_meaning.specs.Meaning.{sign_extended}
use Rattle.plain_spelling.specs.Values.{low_bytes}
use Rattle.unlisted.specs.declared.Relative.{Relative}
use Rattle.unlisted.specs.Measured.{reference_size, relative_target}
use Rattle.branch_sizes.specs.declared.plan.Goal.{Goal}
use Rattle.branch_sizes.specs.Plan.{BlockPlan}
use Rattle.branch_sizes.specs.Layout.{Reaches, image_length, place}
use Rattle.branch_sizes.specs.MoveLayout.Laid.{fragment_at}
use Rattle.block_encoder.specs.Moved.{MovedLists}
use Rattle.code_items.specs.declared.any_items.AnyItem.{AnyItem}
use Rattle.code_items.specs.AnyItems.{any_at, AnyFirst, is_movable, AreAnySound}
use Rattle.code_items.specs.AnyPlan.{any_plan_with, any_plan, reference_reach}
use Rattle.code_items.specs.AnyMoved.{MovedAny, any_bytes, number_to, IsMovedAnyBy, IsMovedAnyCode}

-- at the front of some bytes stands at most one instruction
abbrev pub OneStands : Type 0
OneStands = (bits : Bits) (ip : ℕ) (bytes : List ℕ) (x y : AnyItem) → AnyFirst bits ip bytes x → AnyFirst bits ip bytes y → x ≡ y

-- instruction k of a block at an address stands at its place: there the block has its bytes, as many as its form says
pub record AnyStandsIn (bits : Bits) (items : List AnyItem) (p : BlockPlan) (new : ℕ) (block layout : List ℕ) (k : ℕ) : Type 0 where
  pub from : new ≤ place p layout k
  pub len : length (any_bytes bits (any_at items k) (fragment_at p layout k)) ≡ image_length p layout k
  pub bytes : take (image_length p layout k) (drop (place p layout k - new) block) ≡ any_bytes bits (any_at items k) (fragment_at p layout k)

-- of sound instructions that are moved with some goals each does
abbrev pub AllStandIn : Type 0
AllStandIn = (bits : Bits) (items : List AnyItem) (goals : ℕ → Goal) (new : ℕ) (m : MovedLists) → AreAnySound bits items
    → (moved : IsMovedAnyBy bits items (any_plan_with bits items goals new) m) (k : ℕ) → k < length items
    → AnyStandsIn bits items (any_plan_with bits items goals new) new m.bytes moved.layout k

-- instruction k of moved code does
abbrev pub AnyStandsAt : Bits → ℕ → MovedAny → List ℕ → ℕ → Type 0
AnyStandsAt bits new m layout k = AnyStandsIn bits m.items (any_plan bits m.items new) new m.bytes layout k

-- of moved code each instruction does
abbrev pub AllStandAt : Type 0
AllStandAt = (bits : Bits) (old : ℕ) (bytes : List ℕ) (new : ℕ) (m : MovedAny) (moved : IsMovedAnyCode bits old bytes new m) (k : ℕ) → k < length m.items
    → AnyStandsAt bits new m moved.moved.layout k

-- the number that an instruction of `len` bytes has at a place, as its bytes have it
abbrev pub written_relative : Bits → ℕ → ℕ → ℕ → Relative → Relative
written_relative bits place len goal r = record r { distance = sign_extended 64 (low_bytes r.len (number_to bits place len goal r)) }

-- a number of 2 or 4 bytes that reaches its goal refers to the goal from its place
abbrev pub NumbersReferToGoals : Type 0
NumbersReferToGoals = (bits : Bits) (place len goal : ℕ) (r : Relative) → is_movable bits (Some r) ≡ true → (r.len ≡ 2) ⊎ (r.len ≡ 4)
    → place + len ≤ 2 ^ 64 → goal < 2 ^ width (reference_size bits r.to) → Reaches (reference_reach bits r.to) len place goal
    → relative_target bits place len (Some (written_relative bits place len goal r)) ≡ Some goal
