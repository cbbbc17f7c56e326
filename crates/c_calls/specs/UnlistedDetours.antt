-- What making a detour answers where instructions without a row are moved and followed too.
use Rattle.std.specs.Prelude.{◌≡◌, ℕ, ◌<◌, ◌≤◌, ℤ, List, length, Option, Some, None, Result, Ok, Err}
use Rattle.x86_values.specs.declared.Bits.{Bits}
use Rattle.detour.specs.declared.start.StartTarget.{StartTarget}
use Rattle.detour.specs.Detours.{DetourState}
use Rattle.detour.specs.AnyDetours.{IsAnyDetourAnswer}
use Rattle.c_calls.specs.declared.flat.FlatDetour.{FlatDetour}
use Rattle.c_calls.specs.declared.hooks.HookRefusal.{HookRefusal}
use Rattle.c_calls.specs.declared.hooks.HookRefusal.TheVariants.{Mode, Start, TooLarge, Room, NoDetour}
use Rattle.c_calls.specs.Numbers.{bits_numbered}
use Rattle.c_calls.specs.Hooks.{start_numbered, hook_within, hook_said, patch_left, trampoline_left, hook_report}

-- the detour, or why there is none: more than 1,048,576 bytes, or a cause of the detour's own
abbrev pub IsUnlistedHookIn : Bits → ℕ → List ℕ → ℕ → ℕ → StartTarget → Result DetourState HookRefusal → Type 0
IsUnlistedHookIn bits ip code to place start (Ok d) = (length code ≤ 1048576) × IsAnyDetourAnswer bits ip code to place start (Ok d)
IsUnlistedHookIn bits ip code to place start (Err TooLarge) = 1048576 < length code
IsUnlistedHookIn bits ip code to place start (Err (NoDetour cause)) = (length code ≤ 1048576) × IsAnyDetourAnswer bits ip code to place start (Err cause)
IsUnlistedHookIn bits ip code to place start (Err Mode) = ⊥
IsUnlistedHookIn bits ip code to place start (Err Start) = ⊥
IsUnlistedHookIn bits ip code to place start (Err Room) = ⊥

-- what a detour answers, where the numbers of the mode and of what becomes of the start name one each
abbrev pub IsUnlistedAnswerBy : Option Bits → Option StartTarget → ℕ → List ℕ → ℕ → ℕ → Result DetourState HookRefusal → Type 0
IsUnlistedAnswerBy None start ip code to place answer = answer ≡ Err Mode
IsUnlistedAnswerBy (Some bits) None ip code to place answer = answer ≡ Err Start
IsUnlistedAnswerBy (Some bits) (Some start) ip code to place answer = IsUnlistedHookIn bits ip code to place start answer

-- what the call says and leaves
pub record IsUnlistedDetourCall (bits ip : ℕ) (code : List ℕ) (to place start : ℕ) (patch patch' trampoline trampoline' : List ℕ) (report : FlatDetour) (said : ℤ) : Type 0 where
  pub answer : Result DetourState HookRefusal
  pub is : IsUnlistedAnswerBy (bits_numbered bits) (start_numbered start) ip code to place answer
  pub said_is : said ≡ hook_said (hook_within (length patch) (length trampoline) answer)
  pub patch_is : patch' ≡ patch_left patch (hook_within (length patch) (length trampoline) answer)
  pub trampoline_is : trampoline' ≡ trampoline_left trampoline (hook_within (length patch) (length trampoline) answer)
  pub report_is : report ≡ hook_report answer
