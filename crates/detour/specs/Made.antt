-- What the parts of the making of a detour give.
use Rattle.std.specs.Prelude.{◌≡◌, ◌⊎◌, ℕ, ◌≤◌, Bool, List, ◌++◌, Option, Some, None, IfSome, Result, Ok, Err}
use Rattle.x86_values.specs.declared.Bits.{Bits}
use Rattle.move_goals.specs.Items.{ArePlaced}
use Rattle.block_encoder.specs.declared.error.PlanError.{PlanError}
use Rattle.block_encoder.specs.declared.error.PlanError.TheVariants as plan_error
use Rattle.detour.specs.declared.error.DetourError.{DetourError}
use Rattle.detour.specs.declared.error.DetourError.TheVariants.{Memory, Wraps, TooFar}
use Rattle.detour.specs.declared.taken.Taken.{Taken}
use Rattle.block_encoder.specs.Moved.{MovedLists}
use Rattle.block_encoder.specs.ByPlan.{IsPlanAnswer}
use Rattle.block_encoder.specs.Planned.{move_error_of}
use Rattle.detour.specs.declared.making.Jump.{Jump}
use Rattle.detour.specs.declared.parts.JumpForm.{JumpForm}
use Rattle.detour.specs.declared.parts.JumpForm.TheVariants.{Near, Relay, Absolute}
use Rattle.detour.specs.declared.start.MoveRule.{MoveRule}
use Rattle.detour.specs.Reading.{IsTakenFit}
use Rattle.detour.specs.Jumps.{IsNearJump, IsOutOfReach, absolute_jump}
use Rattle.detour.specs.Starts.{starts_of, places_of}
use Rattle.detour.specs.Calls.{call_in}
use Rattle.detour.specs.Trampoline.{IsTrampoline, goes_back, block_items, trampoline_plan}
use Rattle.detour.specs.Detours.{IsTakenAnswer, DetourState, patch_of, relay_bytes, parts_of}

-- what is taken, of at least the bytes of the jump, or why nothing is
abbrev pub IsWholeTaken : Bits → ℕ → List ℕ → ℕ → Result Taken DetourError → Type 0
IsWholeTaken bits ip code need (Ok t) = (IsTakenFit bits t × (need ≤ t.len)) × IsTakenAnswer bits ip code need (Ok t.items.items)
IsWholeTaken bits ip code need (Err why) = IsTakenAnswer bits ip code need (Err why)

-- the refusal of a moving
abbrev pub detour_error_of : PlanError → DetourError
detour_error_of plan_error.Memory = Memory
detour_error_of (plan_error.Wraps end) = Wraps end
detour_error_of (plan_error.TooFar at target) = TooFar at target

-- the jump to a relay that is reached, else the one that is followed by its address
abbrev pub IsFarJumpOf : Bits → ℕ → ℕ → Option ℕ → JumpForm → List ℕ → Option ℕ → Type 0
IsFarJumpOf bits ip to relay Near bytes by = ⊥
IsFarJumpOf bits ip to relay Relay bytes by = (address : ℕ) × ((relay ≡ Some address) × ((by ≡ Some address) × IsNearJump bits ip address bytes))
IsFarJumpOf bits ip to relay Absolute bytes by = IfSome relay (IsOutOfReach bits ip) × ((bytes ≡ absolute_jump to) × (by ≡ None))

-- the jump is one that crosses any distance, in the form it says
abbrev pub IsFarJump : Bits → ℕ → ℕ → Option ℕ → Jump → Type 0
IsFarJump bits ip to relay jump = IsFarJumpOf bits ip to relay jump.form jump.bytes.items jump.relay

-- a detour is put together of what is taken and moved
pub record IsPutTogether (to place : ℕ) (back : Bool) (calling : Option ℕ) (jump : Jump) (t : Taken) (m : MovedLists) (d : DetourState) : Type 0 where
  pub form : d.form ≡ jump.form
  pub taken : d.taken ≡ t.len
  pub patch : d.patch ≡ patch_of jump.bytes.items t.len
  pub trampoline : d.trampoline ≡ m.bytes ++ relay_bytes jump.relay to
  pub parts : d.parts ≡ parts_of back place m jump.relay
  pub starts : d.starts ≡ starts_of t.items.items
  pub places : d.places ≡ places_of t.items.items place m
  pub call : d.call ≡ calling

-- what is taken is moved and put together, or not moved for this cause
abbrev pub IsLaidBy : Bits → ℕ → ℕ → ℕ → MoveRule → Jump → Taken → DetourState → Type 0
IsLaidBy bits ip to place rule jump t d =
    (m : MovedLists) × ((IsTrampoline bits ip t.items.items place rule m × ArePlaced bits (block_items rule bits ip t.items.items))
    × IsPutTogether to place (goes_back rule bits t.items.items) (call_in rule bits t.items.items) jump t m d)

-- what is taken gives the detour, or the moving of it is refused for the cause that the error names
abbrev pub IsDetourLaid : Bits → ℕ → ℕ → ℕ → MoveRule → Jump → Taken → Result DetourState DetourError → Type 0
IsDetourLaid bits ip to place rule jump t (Ok d) = IsLaidBy bits ip to place rule jump t d
IsDetourLaid bits ip to place rule jump t (Err why) =
    (why ≡ Memory) ⊎ ((cause : PlanError) × ((why ≡ detour_error_of cause)
    × IsPlanAnswer bits (block_items rule bits ip t.items.items) (trampoline_plan bits ip t.items.items place rule)
    (Err (move_error_of cause))))
