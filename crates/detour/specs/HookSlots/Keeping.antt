-- What holds of hooks at any time.
use Rattle.std.specs.Prelude.{◌≡◌, ℕ, ◌+◌, ◌-◌, ◌*◌, ◌%◌, ◌<◌, ◌≤◌, List, [], ◌∷◌, ◌++◌, length, replicate}
use Rattle.x86_values.specs.declared.Bits.{Bits}
use Rattle.code_region.specs.State.{LiveBlock, RegionState, int3}
use Rattle.code_region.specs.LiveEntries.Keeping.{AreLive}
use Rattle.detour.specs.declared.hook_slots.making.Hook.{Hook}
use Rattle.detour.specs.declared.hook_slots.patches.SlotRange.{SlotRange}
use Rattle.detour.specs.HookSlots.State.{HooksState}
use Rattle.detour.specs.HookSlots.Patches.{PatchesAreApart}
use Rattle.detour.specs.HookSlots.Layers.{AreLayered}
use Rattle.detour.specs.HookSlots.Holding.{HasDetour}

-- a slot has some bytes, in units of 16
pub record IsSlot (slot : ℕ) : Type 0 where
  pub some : 0 < slot
  pub units : slot % 16 ≡ 0
  pub small : slot ≤ 1048576

-- each block is a slot, of which the first one begins at the base
abbrev pub AreSlots : ℕ → ℕ → List LiveBlock → Type 0
AreSlots base slot [] = Unit {0}
AreSlots base slot (block ∷ blocks) = ((block.len ≡ slot) × ((index : ℕ) × (block.place ≡ base + index * slot))) × AreSlots base slot blocks

-- a region has no more blocks than slots, and each block is one
pub record AreSpaced (slot : ℕ) (region : RegionState) : Type 0 where
  pub is_slot : IsSlot slot
  pub slots : AreSlots region.base slot region.live
  pub few : length region.live ≤ region.max_blocks
  pub room : region.max_blocks * slot ≤ region.size

-- a live block is that of a hook: it stands there, is as long as a slot, and has the bytes of the trampoline, filled up with INT3
pub record IsHookBlock (bits : Bits) (slot : ℕ) (hook : Hook) (block : LiveBlock) : Type 0 where
  pub place : block.place ≡ hook.place
  pub len : block.len ≡ slot
  pub is_detour : HasDetour bits hook
  pub short : length hook.detour.trampoline ≤ slot
  pub content : block.content ≡ hook.detour.trampoline ++ replicate (slot - length hook.detour.trampoline) int3

-- hooks in a region, with room for so many
pub record AreHooksKept (bits : Bits) (slot : ℕ) (region : RegionState) (hooks : List Hook) (room : ℕ) : Type 0 where
  pub spaced : AreSpaced slot region
  pub live : AreLive (IsHookBlock bits slot) region hooks room
  pub patches : PatchesAreApart bits region hooks
  pub layers : AreLayered hooks

-- hooks in a region whose range is known, with room for so many
pub record AreHooksHeld (range : SlotRange) (region : RegionState) (hooks : List Hook) (room : ℕ) : Type 0 where
  pub base : region.base ≡ range.base
  pub size : region.size ≡ range.size
  pub kept : AreHooksKept range.bits range.slot region hooks room

-- what is seen of live hooks is kept in their region
abbrev pub AreKeptIn : HooksState → Type 0
AreKeptIn state = AreHooksKept state.bits state.slot state.region state.hooks state.region.max_blocks
