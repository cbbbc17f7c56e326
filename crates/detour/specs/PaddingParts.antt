-- What the parts of the making of a detour through padding give.
use Rattle.std.specs.Prelude.{◌≡◌, ◌⊎◌, ℕ, ◌<◌, ◌≤◌, true, List, length, Option, Some, None, Result, Ok, Err}
use Rattle.x86_values.specs.declared.Bits.{Bits}
use Rattle.move_goals.specs.declared.items.Placed.{Placed}
use Rattle.detour.specs.declared.error.DetourError.{DetourError}
use Rattle.detour.specs.declared.error.DetourError.TheVariants as detour_error
use Rattle.detour.specs.declared.making.Jump.{Jump}
use Rattle.detour.specs.declared.padding.PaddingError.{PaddingError}
use Rattle.detour.specs.declared.padding.PaddingError.TheVariants.{TooShort, NotPadding, Entered, Function, OutOfReach}
use Rattle.detour.specs.declared.padding.Through.{Through}
use Rattle.detour.specs.declared.parts.JumpForm.TheVariants.{Relay}
use Rattle.detour.specs.declared.rules.RuleError.TheVariants as rule_error
use Rattle.detour.specs.declared.start.MoveRule.{MoveRule}
use Rattle.detour.specs.declared.taken.Taken.{Taken}
use Rattle.detour.specs.Reading.{IsItemOf, IsTakenFit}
use Rattle.detour.specs.Taken.{is_padding}
use Rattle.detour.specs.Jumps.{IsNearJump, IsOutOfReach}
use Rattle.detour.specs.Padding.{near_len, address_before, IsPaddingTo, IsNoPadding, IsPaddingPassage, IsFreePadding, IsNoItem, IsOtherItem, IsTakenShort, IsShortAnswer, IsPaddingJump, IsNoJump, IsPaddedMade, IsPaddedUnmade, IsPaddedOut}

-- a padding instruction at an offset, or that none begins there
abbrev pub IsPaddingAt : Bits → ℕ → List ℕ → ℕ → Option Placed → Type 0
IsPaddingAt bits base padding at (Some p) = IsItemOf bits base padding at p × (is_padding p ≡ true)
IsPaddingAt bits base padding at None = IsNoItem bits base padding at ⊎ IsOtherItem bits base padding at

-- what the short jump takes, or why nothing is
abbrev pub IsShortTaken : Bits → ℕ → List ℕ → Result Taken DetourError → Type 0
IsShortTaken bits ip code (Ok t) = (IsTakenFit bits t × (2 ≤ t.len)) × IsTakenShort bits ip code t.items.items
IsShortTaken bits ip code (Err why) = IsShortAnswer bits ip code (Err why)

-- a near jump to an address that is the relay's, or that it does not reach
abbrev pub IsRelayJump : Bits → ℕ → ℕ → Option Jump → Type 0
IsRelayJump bits at address (Some jump) = ((jump.form ≡ Relay) × (jump.relay ≡ Some address)) × IsNearJump bits at address jump.bytes.items
IsRelayJump bits at address None = IsOutOfReach bits at address

-- a near jump to the replacement or to the relay, or that neither is reached
abbrev pub IsPaddingJumpAnswer : Bits → ℕ → ℕ → Option ℕ → Option Jump → Type 0
IsPaddingJumpAnswer bits at to behind (Some jump) = IsPaddingJump bits at to behind jump.form jump.bytes.items jump.relay
IsPaddingJumpAnswer bits at to behind None = IsNoJump bits at to behind

-- what is made, or why nothing is
abbrev pub IsPaddedAnswer : Bits → ℕ → List ℕ → ℕ → ℕ → MoveRule → Result Through PaddingError → Type 0
IsPaddedAnswer bits ip code to place rule (Ok made) = IsPaddedMade bits ip code to place rule made.near.items made.made
IsPaddedAnswer bits ip code to place rule (Err (Function (rule_error.Detour why))) = IsPaddedUnmade bits ip code to place rule why
IsPaddedAnswer bits ip code to place rule (Err OutOfReach) = IsPaddedOut bits ip code to place rule
IsPaddedAnswer bits ip code to place rule (Err why) = ⊥

-- the padding is free, or the first cause that it is not
abbrev pub IsPaddingRefusal : Bits → ℕ → List ℕ → List ℕ → List ℕ → Option PaddingError → Type 0
IsPaddingRefusal bits ip padding code entries None = IsFreePadding bits ip padding code entries
IsPaddingRefusal bits ip padding code entries (Some (TooShort len need)) = ((len ≡ length padding) × (need ≡ near_len bits)) × (len < need)
IsPaddingRefusal bits ip padding code entries (Some (NotPadding at)) =
    (near_len bits ≤ length padding) × IsNoPadding bits (address_before bits ip (length padding)) padding at
IsPaddingRefusal bits ip padding code entries (Some (Entered from target)) =
    ((near_len bits ≤ length padding) × IsPaddingTo bits (address_before bits ip (length padding)) padding (length padding))
    × IsPaddingPassage bits ip padding code entries (Some (record { from = from; target = target }))
IsPaddingRefusal bits ip padding code entries (Some (Function why)) = why ≡ rule_error.Detour detour_error.Memory
IsPaddingRefusal bits ip padding code entries (Some why) = ⊥
