-- What a removal answers, and the hooks after it.
use Rattle.std.specs.Prelude.{ℕ, List, Option, Some, None, Result, Ok, Err}
use Rattle.code_region.specs.Releasing.{after_release}
use Rattle.code_region.specs.LiveEntries.Order.{without_entry}
use Rattle.detour.specs.declared.hook_slots.making.Hook.{Hook}
use Rattle.detour.specs.declared.hook_slots.refusals.RemoveError.{RemoveError}
use Rattle.detour.specs.declared.hook_slots.refusals.RemoveError.TheVariants.{NotTaken, Covered}
use Rattle.detour.specs.HookSlots.State.{HooksState, hook_place, hook_at}
use Rattle.detour.specs.HookSlots.Layers.{covered_by}

-- the hook that was found at an address, unless a later one lies over it; or that there is none
abbrev pub remove_of : Option Hook → Option ℕ → ℕ → Result Hook RemoveError
remove_of None by place = Err (NotTaken place)
remove_of (Some hook) None place = Ok hook
remove_of (Some hook) (Some by) place = Err (Covered place by)

-- a removal answers the live hook whose trampoline starts at the address, if it is the last of its function
abbrev pub remove_answer : HooksState → ℕ → Result Hook RemoveError
remove_answer state place = remove_of (hook_at place state.hooks) (covered_by place state.hooks) place

-- the hooks without the one whose trampoline starts at an address
abbrev pub without_hook : ℕ → List Hook → List Hook
without_hook place hooks = without_entry hook_place place hooks

-- the slot of a hook that was removed is released
abbrev pub removed_as : Result Hook RemoveError → HooksState → ℕ → HooksState
removed_as (Ok hook) state place = record state { region = after_release state.region place; hooks = without_hook place state.hooks }
removed_as (Err why) state place = state

-- the hooks after a removal, or as they were if it was refused
abbrev pub after_removal : HooksState → ℕ → HooksState
after_removal state place = removed_as (remove_answer state place) state place
