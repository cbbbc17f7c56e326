-- What hooks are to their user: a region of slots, and the live hooks in it.
use Rattle.std.specs.Prelude.{ℕ, ◌/◌, List, [], Option}
use Rattle.x86_values.specs.declared.Bits.{Bits}
use Rattle.code_region.specs.State.{RegionState}
use Rattle.code_region.specs.Opening.{empty_region}
use Rattle.code_region.specs.LiveEntries.Order.{with_entry, live_entry}
use Rattle.detour.specs.declared.hook_slots.making.Hook.{Hook}
use Rattle.detour.specs.declared.hook_slots.patches.SlotRange.{SlotRange}

-- the mode, the size of a slot, the region, and the live hooks by address
pub record HooksState : Type 0 where
  pub bits : Bits
  pub slot : ℕ
  pub region : RegionState
  pub hooks : List Hook

-- no live hook, and as many slots as the range has room for
abbrev pub no_hooks : Bits → ℕ → ℕ → ℕ → HooksState
no_hooks bits base size slot = record { bits = bits; slot = slot; region = empty_region base size (size / slot); hooks = [] }

-- the range of the trampolines
abbrev pub range_of : HooksState → SlotRange
range_of state = record { bits = state.bits; base = state.region.base; size = state.region.size; slot = state.slot }

-- where the trampoline of a hook starts
abbrev pub hook_place : Hook → ℕ
hook_place hook = hook.place

-- the hooks with one more, by address
abbrev pub with_hook : Hook → List Hook → List Hook
with_hook hook hooks = with_entry hook_place hook hooks

-- the hook whose trampoline starts at an address, if there is one
abbrev pub hook_at : ℕ → List Hook → Option Hook
hook_at place hooks = live_entry hook_place place hooks
