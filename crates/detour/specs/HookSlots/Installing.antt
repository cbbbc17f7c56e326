-- What an install answers, and the hooks after it.
use Rattle.std.specs.Prelude.{◌≡◌, ℕ, ◌<◌, ◌≤◌, Bool, true, false, List, length, take, Some, None, Result, Ok, Err}
use Rattle.x86_values.specs.declared.Bits.{Bits}
use Rattle.code_region.specs.declared.refusals.PlaceError.{PlaceError}
use Rattle.code_region.specs.declared.refusals.PlaceError.TheVariants as place_error
use Rattle.code_region.specs.State.{RegionState}
use Rattle.code_region.specs.Placing.{place_answer, after_place}
use Rattle.code_region.specs.Filling.{after_fill}
use Rattle.detour.specs.declared.error.DetourError.{DetourError}
use Rattle.detour.specs.declared.error.DetourError.TheVariants as detour_error
use Rattle.detour.specs.declared.start.StartTarget.{StartTarget}
use Rattle.detour.specs.Detours.{DetourState, IsDetourAnswer}
use Rattle.detour.specs.declared.hook_slots.making.Hook.{Hook}
use Rattle.detour.specs.declared.hook_slots.patches.PatchRule.{PatchRule}
use Rattle.detour.specs.declared.hook_slots.refusals.InstallError.{InstallError}
use Rattle.detour.specs.declared.hook_slots.refusals.InstallError.TheVariants.{Memory, Full, NoDetour, TooLong, InRange, Patched}
use Rattle.detour.specs.HookSlots.State.{HooksState, range_of, with_hook}
use Rattle.detour.specs.HookSlots.Patches.{patch_refusal}
use Rattle.detour.specs.HookSlots.Layers.{hooks_of}

-- a hook is the detour of a function with this code, and has the bytes of the code that the patch replaces
pub record IsHook (bits : Bits) (code : List ℕ) (hook : Hook) : Type 0 where
  pub detour : IsDetourAnswer bits hook.ip code hook.to hook.place hook.start (Ok hook.detour)
  pub original : hook.original.items ≡ take hook.detour.taken code

-- the hook that was asked for, with its trampoline at a place, over so many hooks
pub record IsHookOf (bits : Bits) (ip : ℕ) (code : List ℕ) (to : ℕ) (start : StartTarget) (place layer : ℕ) (hook : Hook) : Type 0 where
  pub place_is : hook.place ≡ place
  pub ip_is : hook.ip ≡ ip
  pub to_is : hook.to ≡ to
  pub start_is : hook.start ≡ start
  pub layer_is : hook.layer ≡ layer
  pub is : IsHook bits code hook

-- why a function is not hooked, by why it has no detour
abbrev pub install_refusal : DetourError → InstallError
install_refusal detour_error.Memory = Memory
install_refusal why = NoDetour why

-- a detour has more bytes in its trampoline than a slot
abbrev pub IsTooLong : PatchRule → ℕ → List ℕ → ℕ → StartTarget → ℕ → ℕ → Type 0
IsTooLong rule ip code to start place len =
    (d : DetourState) × (IsDetourAnswer rule.range.bits ip code to place start (Ok d) × ((len ≡ length d.trampoline) × (rule.range.slot < len)))

-- a detour whose trampoline fits a slot has a patch that is refused for this cause
abbrev pub IsPatchRefused : PatchRule → List Hook → ℕ → List ℕ → ℕ → StartTarget → ℕ → InstallError → Type 0
IsPatchRefused rule hooks ip code to start place why =
    (d : DetourState)
    × (IsDetourAnswer rule.range.bits ip code to place start (Ok d)
    × ((length d.trampoline ≤ rule.range.slot) × (patch_refusal rule hooks ip (length d.patch) ≡ Some why)))

-- the hook of a function with its trampoline at a place, beside the live hooks, or why there is none
abbrev pub IsHookAnswer : PatchRule → List Hook → ℕ → List ℕ → ℕ → StartTarget → ℕ → Result Hook InstallError → Type 0
IsHookAnswer rule hooks ip code to start place (Ok hook) =
    (IsHookOf rule.range.bits ip code to start place (hooks_of ip hooks) hook × (length hook.detour.trampoline ≤ rule.range.slot))
    × (patch_refusal rule hooks ip (length hook.detour.patch) ≡ None)
IsHookAnswer rule hooks ip code to start place (Err (NoDetour why)) =
    IsDetourAnswer rule.range.bits ip code to place start (Err why) × (why ≡ detour_error.Memory → ⊥)
IsHookAnswer rule hooks ip code to start place (Err (TooLong len size)) = IsTooLong rule ip code to start place len × (size ≡ rule.range.slot)
IsHookAnswer rule hooks ip code to start place (Err InRange) = IsPatchRefused rule hooks ip code to start place InRange
IsHookAnswer rule hooks ip code to start place (Err (Patched at)) = IsPatchRefused rule hooks ip code to start place (Patched at)
IsHookAnswer rule hooks ip code to start place (Err (Full max)) = ⊥
IsHookAnswer rule hooks ip code to start place (Err Memory) = Unit {0}

-- no slot is free where each has a hook
abbrev pub IsForSlots : PlaceError → Type 0
IsForSlots place_error.Empty = ⊥
IsForSlots (place_error.TooManyBlocks max) = Unit {0}
IsForSlots (place_error.Full len largest) = ⊥

-- why a function is not hooked then
abbrev pub place_refusal : PlaceError → InstallError
place_refusal (place_error.TooManyBlocks max) = Full max
place_refusal why = Memory

-- there is a slot, and no hook with its trampoline there, for this cause
abbrev pub IsRefusedAt : PatchRule → List Hook → RegionState → ℕ → List ℕ → ℕ → StartTarget → InstallError → Type 0
IsRefusedAt rule hooks old ip code to start why =
    (place : ℕ) × ((place_answer old rule.range.slot ≡ Ok place) × IsHookAnswer rule hooks ip code to start place (Err why))

-- The region after an install: the first slot that is free has the trampoline, or nothing changed. Full comes where as many blocks are live as there are
-- slots, the other causes where there is a place.
abbrev pub IsHookPlaced : PatchRule → List Hook → RegionState → ℕ → List ℕ → ℕ → StartTarget → Result Hook InstallError → RegionState → Type 0
IsHookPlaced rule hooks old ip code to start (Ok hook) new =
    ((place_answer old rule.range.slot ≡ Ok hook.place) × IsHookAnswer rule hooks ip code to start hook.place (Ok hook))
    × (new ≡ after_fill (after_place old rule.range.slot) hook.place hook.detour.trampoline)
IsHookPlaced rule hooks old ip code to start (Err (Full max)) new = ((length old.live ≡ max) × (old.max_blocks ≡ max)) × (new ≡ old)
IsHookPlaced rule hooks old ip code to start (Err (NoDetour why)) new = IsRefusedAt rule hooks old ip code to start (NoDetour why) × (new ≡ old)
IsHookPlaced rule hooks old ip code to start (Err (TooLong len size)) new = IsRefusedAt rule hooks old ip code to start (TooLong len size) × (new ≡ old)
IsHookPlaced rule hooks old ip code to start (Err InRange) new = IsRefusedAt rule hooks old ip code to start InRange × (new ≡ old)
IsHookPlaced rule hooks old ip code to start (Err (Patched at)) new = IsRefusedAt rule hooks old ip code to start (Patched at) × (new ≡ old)
IsHookPlaced rule hooks old ip code to start (Err Memory) new = new ≡ old

-- the place of a hook that was made
abbrev pub install_place : Result Hook InstallError → Result ℕ InstallError
install_place (Ok hook) = Ok hook.place
install_place (Err why) = Err why

-- the hooks after that
abbrev pub hooks_after : Result Hook InstallError → List Hook → List Hook
hooks_after (Ok hook) hooks = with_hook hook hooks
hooks_after (Err why) hooks = hooks

-- an install: the hook that was made, or why none was, and what is left; live hooks of the same function may lie under the patch, or may not
pub record IsInstalledBy (over : Bool) (old : HooksState) (ip : ℕ) (code : List ℕ) (to : ℕ) (start : StartTarget) (said : Result ℕ InstallError)
    (new : HooksState) : Type 0 where
  pub bits : new.bits ≡ old.bits
  pub slot : new.slot ≡ old.slot
  pub made : Result Hook InstallError
  pub answer : said ≡ install_place made
  pub region : IsHookPlaced (record { range = range_of old; over = over }) old.hooks old.region ip code to start made new.region
  pub hooks : new.hooks ≡ hooks_after made old.hooks

-- an install of a function that no live patch meets
abbrev pub IsInstalled : HooksState → ℕ → List ℕ → ℕ → StartTarget → Result ℕ InstallError → HooksState → Type 0
IsInstalled old ip code to start said new = IsInstalledBy false old ip code to start said new

-- an install over the live hooks of the same function
abbrev pub IsInstalledOver : HooksState → ℕ → List ℕ → ℕ → StartTarget → Result ℕ InstallError → HooksState → Type 0
IsInstalledOver old ip code to start said new = IsInstalledBy true old ip code to start said new
