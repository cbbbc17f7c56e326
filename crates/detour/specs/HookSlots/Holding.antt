-- Where live trampolines stand, and what the image has there.
use Rattle.std.specs.Prelude.{◌≡◌, ℕ, ◌-◌, ◌≤◌, List, ◌++◌, All, length, replicate, take, drop}
use Rattle.x86_values.specs.declared.Bits.{Bits}
use Rattle.code_region.specs.State.{int3}
use Rattle.code_region.specs.LiveEntries.Keeping.{EntriesAreApart, IsQuietElsewhere}
use Rattle.detour.specs.declared.hook_slots.making.Hook.{Hook}
use Rattle.detour.specs.HookSlots.State.{HooksState, hook_place}
use Rattle.detour.specs.HookSlots.Installing.{IsHook}

-- the slots of the hooks stand inside the region by address, none over another, and no trampoline has more bytes than its slot
pub record HooksAreApart (state : HooksState) : Type 0 where
  pub slots : EntriesAreApart hook_place (λ hook. state.slot) state.region state.hooks
  pub short : All (λ hook. length hook.detour.trampoline ≤ state.slot) state.hooks

-- each has the detour of some function's code with its trampoline at its place
abbrev pub HasDetour : Bits → Hook → Type 0
HasDetour bits hook = (code : List ℕ) × IsHook bits code hook

-- each hook has such a detour
abbrev pub AreDetours : HooksState → Type 0
AreDetours state = All (HasDetour state.bits) state.hooks

-- the slot of a hook has its trampoline, filled up with INT3
abbrev pub HasTrampoline : ℕ → ℕ → List ℕ → Hook → Type 0
HasTrampoline slot base image hook =
    take slot (drop (hook.place - base) image) ≡ hook.detour.trampoline ++ replicate (slot - length hook.detour.trampoline) int3

-- each live hook has its trampoline in its slot, and each byte that stands in no slot of one is INT3
pub record HoldsHooks (state : HooksState) (image : List ℕ) : Type 0 where
  pub trampolines : All (HasTrampoline state.slot state.region.base image) state.hooks
  pub elsewhere : IsQuietElsewhere hook_place (λ hook. state.slot) state.region state.hooks image
