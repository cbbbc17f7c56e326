-- What the parts of the making of a detour give where some instructions have no row.
use Rattle.std.specs.Prelude.{◌≡◌, ◌⊎◌, ℕ, ◌≤◌, List, Result, Ok, Err}
use Rattle.x86_values.specs.declared.Bits.{Bits}
use Rattle.block_encoder.specs.declared.error.PlanError.{PlanError}
use Rattle.block_encoder.specs.Moved.{MovedLists}
use Rattle.code_items.specs.AnyItems.{AreAnySound}
use Rattle.code_items.specs.AnyMoved.{IsAnyPlanAnswer}
use Rattle.detour.specs.declared.error.DetourError.{DetourError}
use Rattle.detour.specs.declared.error.DetourError.TheVariants.{Memory}
use Rattle.detour.specs.declared.any_taken.AnyTaken.{AnyTaken}
use Rattle.detour.specs.declared.any_trampoline.AnyLaid.{AnyLaid}
use Rattle.detour.specs.declared.making.Jump.{Jump}
use Rattle.detour.specs.declared.start.MoveRule.{MoveRule}
use Rattle.detour.specs.Calls.{call_in}
use Rattle.detour.specs.Trampoline.{goes_back}
use Rattle.detour.specs.Detours.{DetourState}
use Rattle.detour.specs.Made.{detour_error_of, IsPutTogether}
use Rattle.detour.specs.AnyReading.{IsAnyTakenFit}
use Rattle.detour.specs.AnyTrampoline.{any_block_items, any_trampoline_plan, IsAnyTrampoline}
use Rattle.detour.specs.AnyDetours.{IsAnyTakenAnswer}

-- what is taken, of at least the bytes of the jump, or why nothing is
abbrev pub IsAnyWholeTaken : Bits → ℕ → List ℕ → ℕ → Result AnyTaken DetourError → Type 0
IsAnyWholeTaken bits ip code need (Ok t) = (IsAnyTakenFit bits t × (need ≤ t.outline.len)) × IsAnyTakenAnswer bits ip code need (Ok t.items.items)
IsAnyWholeTaken bits ip code need (Err why) = IsAnyTakenAnswer bits ip code need (Err why)

-- what is taken is moved, or not for this cause; its outline stays as it is
abbrev pub IsAnyLaidAnswer : Bits → ℕ → AnyTaken → ℕ → MoveRule → Result AnyLaid PlanError → Type 0
IsAnyLaidAnswer bits ip t place rule (Ok laid) =
    (laid.outline ≡ t.outline)
    × (AreAnySound bits (any_block_items rule bits ip t.items.items) × IsAnyTrampoline bits ip t.items.items place rule laid.moved)
IsAnyLaidAnswer bits ip t place rule (Err why) =
    IsAnyPlanAnswer bits (any_block_items rule bits ip t.items.items) (any_trampoline_plan bits ip t.items.items place rule) (Err why)

-- what is taken is moved and put together
abbrev pub IsAnyLaidBy : Bits → ℕ → ℕ → ℕ → MoveRule → Jump → AnyTaken → DetourState → Type 0
IsAnyLaidBy bits ip to place rule jump t d =
    (m : MovedLists)
    × ((IsAnyTrampoline bits ip t.items.items place rule m × AreAnySound bits (any_block_items rule bits ip t.items.items))
    × IsPutTogether to place (goes_back rule bits t.outline.items.items) (call_in rule bits t.outline.items.items) jump t.outline m d)

-- what is taken gives the detour, or the moving of it is refused for the cause that the error names
abbrev pub IsAnyDetourLaid : Bits → ℕ → ℕ → ℕ → MoveRule → Jump → AnyTaken → Result DetourState DetourError → Type 0
IsAnyDetourLaid bits ip to place rule jump t (Ok d) = IsAnyLaidBy bits ip to place rule jump t d
IsAnyDetourLaid bits ip to place rule jump t (Err why) =
    (why ≡ Memory)
    ⊎ ((cause : PlanError) × ((why ≡ detour_error_of cause)
    × IsAnyPlanAnswer bits (any_block_items rule bits ip t.items.items) (any_trampoline_plan bits ip t.items.items place rule) (Err cause)))
