-- What holds of all hooks.
use Rattle.std.specs.Prelude.{◌≡◌, ℕ, List, All, AllPairs, None, Some, Result}
use Rattle.x86_values.specs.declared.Bits.{Bits}
use Rattle.code_region.specs.State.{region_image}
use Rattle.detour.specs.declared.start.StartTarget.{StartTarget}
use Rattle.detour.specs.declared.hook_slots.making.Hook.{Hook}
use Rattle.detour.specs.declared.hook_slots.refusals.InstallError.{InstallError}
use Rattle.detour.specs.declared.hook_slots.commands.HookCommand.{HookCommand}
use Rattle.detour.specs.declared.hook_slots.commands.HookReply.{HookReply}
use Rattle.detour.specs.HookSlots.State.{HooksState, no_hooks, hook_at}
use Rattle.detour.specs.HookSlots.Opening.{make_refusal}
use Rattle.detour.specs.HookSlots.Patches.{AreDisjoint, PatchesAreApart}
use Rattle.detour.specs.HookSlots.Layers.{covered_by, LiesOver, IsCoveredBy, AreLayered}
use Rattle.detour.specs.HookSlots.Installing.{IsInstalled, IsInstalledOver}
use Rattle.detour.specs.HookSlots.Undoing.{AreStacked, patched, undone}
use Rattle.detour.specs.HookSlots.Removing.{after_removal}
use Rattle.detour.specs.HookSlots.Running.{IsHookRun}
use Rattle.detour.specs.HookSlots.Holding.{HooksAreApart, AreDetours, HoldsHooks}
use Rattle.detour.specs.HookSlots.Keeping.{AreKeptIn}

-- hooks in a region, from none on, with each that is made or removed; and what holds of them then
pub record LiveHookFacts : Type 0 where
  pub kept-made : (bits : Bits) (base size slot : ℕ) → make_refusal bits base size slot ≡ None → AreKeptIn (no_hooks bits base size slot)
  pub kept-installed : (old : HooksState) (ip : ℕ) (code : List ℕ) (to : ℕ) (start : StartTarget) (answer : Result ℕ InstallError) (new : HooksState)
      → AreKeptIn old → IsInstalled old ip code to start answer new → AreKeptIn new
  pub kept-installed_over : (old : HooksState) (ip : ℕ) (code : List ℕ) (to : ℕ) (start : StartTarget) (answer : Result ℕ InstallError) (new : HooksState)
      → AreKeptIn old → IsInstalledOver old ip code to start answer new → AreKeptIn new
  pub kept-removed : (old : HooksState) (place : ℕ) → AreKeptIn old → AreKeptIn (after_removal old place)
  pub apart : (state : HooksState) → AreKeptIn state → HooksAreApart state
  pub patches : (state : HooksState) → AreKeptIn state → PatchesAreApart state.bits state.region state.hooks
  pub layers : (state : HooksState) → AreKeptIn state → AreLayered state.hooks
  -- if no hook lies over another, no two patches have an address in common
  pub flat : (state : HooksState) → AreKeptIn state → All (λ (hook : Hook). hook.layer ≡ 0) state.hooks → AllPairs (AreDisjoint state.bits) state.hooks
  -- what `Covered` names lies over the hook and can be removed; over a hook that can be removed none lies
  pub covered : (state : HooksState) (place by : ℕ) → AreKeptIn state → covered_by place state.hooks ≡ Some by → IsCoveredBy state.hooks place by
  pub free : (state : HooksState) (place : ℕ) (hook : Hook) → hook_at place state.hooks ≡ Some hook → covered_by place state.hooks ≡ None
      → All (λ (other : Hook). LiesOver other hook → ⊥) state.hooks
  pub detours : (state : HooksState) → AreKeptIn state → AreDetours state
  pub holds : (state : HooksState) → AreKeptIn state → HoldsHooks state (region_image state.region)
  -- hooks of one function are undone by their own bytes, the last first
  pub stacked : (bits : Bits) (code : List ℕ) (hooks : List Hook) → AreStacked bits code hooks → undone hooks (patched code hooks) ≡ code

-- after any list of commands, from none on: trampolines are disjoint, patches too, each place holds its detour's bytes, and everything else is INT3
pub record RunFacts : Type 0 where
  pub run-apart : (bits : Bits) (base size slot : ℕ) → make_refusal bits base size slot ≡ None → (commands : List HookCommand) (replies : List HookReply)
      (state : HooksState) → IsHookRun (no_hooks bits base size slot) commands replies state → HooksAreApart state
  pub run-patches : (bits : Bits) (base size slot : ℕ) → make_refusal bits base size slot ≡ None → (commands : List HookCommand) (replies : List HookReply)
      (state : HooksState) → IsHookRun (no_hooks bits base size slot) commands replies state → PatchesAreApart state.bits state.region state.hooks
  pub run-layers : (bits : Bits) (base size slot : ℕ) → make_refusal bits base size slot ≡ None → (commands : List HookCommand) (replies : List HookReply)
      (state : HooksState) → IsHookRun (no_hooks bits base size slot) commands replies state → AreLayered state.hooks
  pub run-detours : (bits : Bits) (base size slot : ℕ) → make_refusal bits base size slot ≡ None → (commands : List HookCommand) (replies : List HookReply)
      (state : HooksState) → IsHookRun (no_hooks bits base size slot) commands replies state → AreDetours state
  pub run-holds : (bits : Bits) (base size slot : ℕ) → make_refusal bits base size slot ≡ None → (commands : List HookCommand) (replies : List HookReply)
      (state : HooksState) → IsHookRun (no_hooks bits base size slot) commands replies state → HoldsHooks state (region_image state.region)
