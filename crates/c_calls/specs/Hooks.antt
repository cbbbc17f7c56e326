-- What making a detour answers, and what it leaves in the rooms.
use Rattle.std.specs.Prelude.{◌≡◌, ℕ, ◌==◌, ◌%◌, ◌^◌, ◌<◌, ◌≤◌, nat_le, ◌&&◌, ℤ, pos, List, ◌++◌, length, drop, Option, Some, None, Result, Ok, Err, if◌then◌else◌}
use Rattle.x86_values.specs.declared.Bits.{Bits}
use Rattle.decoder.specs.declared.DecodeError.TheVariants.{Invalid as InvalidError, TooShort as TooShortError}
use Rattle.detour.specs.declared.error.DetourError.{DetourError}
use Rattle.detour.specs.declared.error.DetourError.TheVariants as error
use Rattle.detour.specs.declared.parts.JumpForm.{JumpForm}
use Rattle.detour.specs.declared.parts.JumpForm.TheVariants.{Near, Relay, Absolute}
use Rattle.detour.specs.declared.start.StartTarget.{StartTarget}
use Rattle.detour.specs.declared.start.StartTarget.TheVariants.{Moved, Hooked}
use Rattle.detour.specs.Detours.{DetourState, IsDetourAnswer}
use Rattle.c_calls.specs.declared.refusal.Refusal.{Refusal}
use Rattle.c_calls.specs.declared.refusal.Refusal.TheVariants as why
use Rattle.c_calls.specs.declared.flat.FlatDetour.{FlatDetour}
use Rattle.c_calls.specs.declared.hooks.HookRefusal.{HookRefusal}
use Rattle.c_calls.specs.declared.hooks.HookRefusal.TheVariants.{Mode, Start, TooLarge, Room, NoDetour}
use Rattle.c_calls.specs.Refusals.{refusal_status}
use Rattle.c_calls.specs.Numbers.{bits_numbered}

-- ---- the answer

-- where a target goes that is the function's own start, by its number
unfoldable pub start_numbered : ℕ → Option StartTarget
start_numbered n = if n == 0 then Some Moved else (if n == 1 then Some Hooked else None)

-- the detour, or why there is none: more than 1,048,576 bytes, or a cause of the detour's own
abbrev pub IsHookIn : Bits → ℕ → List ℕ → ℕ → ℕ → StartTarget → Result DetourState HookRefusal → Type 0
IsHookIn bits ip code to place start (Ok d) = (length code ≤ 1048576) × IsDetourAnswer bits ip code to place start (Ok d)
IsHookIn bits ip code to place start (Err TooLarge) = 1048576 < length code
IsHookIn bits ip code to place start (Err (NoDetour cause)) = (length code ≤ 1048576) × IsDetourAnswer bits ip code to place start (Err cause)
IsHookIn bits ip code to place start (Err Mode) = ⊥
IsHookIn bits ip code to place start (Err Start) = ⊥
IsHookIn bits ip code to place start (Err Room) = ⊥

-- what a detour answers, where the numbers of the mode and of what becomes of the start name one each
abbrev pub IsDetourAnswerBy : Option Bits → Option StartTarget → ℕ → List ℕ → ℕ → ℕ → Result DetourState HookRefusal → Type 0
IsDetourAnswerBy None start ip code to place answer = answer ≡ Err Mode
IsDetourAnswerBy (Some bits) None ip code to place answer = answer ≡ Err Start
IsDetourAnswerBy (Some bits) (Some start) ip code to place answer = IsHookIn bits ip code to place start answer

-- ---- what is said and left

-- both rooms hold what they are for
unfoldable pub hook_within : ℕ → ℕ → Result DetourState HookRefusal → Result DetourState HookRefusal
hook_within room other (Ok d) = if nat_le (length d.patch) room && nat_le (length d.trampoline) other then Ok d else Err Room
hook_within room other (Err e) = Err e

-- why there is no detour, by the refusals of all calls
abbrev pub detour_refusal : DetourError → Refusal
detour_refusal error.Memory = why.Memory
detour_refusal (error.BadCode at InvalidError) = why.Invalid
detour_refusal (error.BadCode at TooShortError) = why.TooShort
detour_refusal (error.TooSmall len need) = why.Small
detour_refusal (error.Ends at) = why.Ends
detour_refusal (error.Entered from target) = why.Entered
detour_refusal (error.Wraps end) = why.Wraps
detour_refusal (error.TooFar at target) = why.TooFar

-- why nothing is made, by the refusals of all calls
abbrev pub hook_refusal : HookRefusal → Refusal
hook_refusal Mode = why.Mode
hook_refusal Start = why.Start
hook_refusal TooLarge = why.TooLarge
hook_refusal Room = why.Room
hook_refusal (NoDetour cause) = detour_refusal cause

-- what the call says
abbrev pub hook_said : Result DetourState HookRefusal → ℤ
hook_said (Ok d) = pos 0
hook_said (Err e) = refusal_status (hook_refusal e)

-- the room of the patch begins with it, and is unchanged behind it and after a refusal
abbrev pub patch_left : List ℕ → Result DetourState HookRefusal → List ℕ
patch_left old (Ok d) = d.patch ++ drop (length d.patch) old
patch_left old (Err e) = old

-- the room of the trampoline, likewise
abbrev pub trampoline_left : List ℕ → Result DetourState HookRefusal → List ℕ
trampoline_left old (Ok d) = d.trampoline ++ drop (length d.trampoline) old
trampoline_left old (Err e) = old

-- ---- the report

-- no numbers
abbrev pub no_detour : FlatDetour
no_detour = record { taken = 0; bytes = 0; jump_back = 0; slots_at = 0; relay_at = 0; at = 0; target = 0; form = 0 }

-- the form of the jump, by its number
abbrev pub jump_number : JumpForm → ℕ
jump_number Near = 1
jump_number Relay = 2
jump_number Absolute = 3

-- where a part of the trampoline stands, and its end where there is no such part
abbrev pub offset_or : Option ℕ → ℕ → ℕ
offset_or None end = end
offset_or (Some offset) end = offset

-- how many bytes are taken, the form of the jump, and the trampoline with its parts
abbrev pub detour_report : DetourState → FlatDetour
detour_report d = record no_detour {
  taken = d.taken;
  bytes = length d.trampoline;
  jump_back = offset_or d.parts.jump_back (length d.trampoline);
  slots_at = offset_or d.parts.slots (length d.trampoline);
  relay_at = offset_or d.parts.relay (length d.trampoline);
  form = jump_number d.form;
}

-- the numbers of a cause: its offset or instruction, and what it is about; an address modulo 2 ^ 64
abbrev pub cause_report : DetourError → FlatDetour
cause_report error.Memory = no_detour
cause_report (error.BadCode at e) = record no_detour { at = at }
cause_report (error.TooSmall len need) = record no_detour { at = len; target = need }
cause_report (error.Ends at) = record no_detour { at = at }
cause_report (error.Entered from target) = record no_detour { at = from; target = target }
cause_report (error.Wraps end) = record no_detour { target = end % 2 ^ 64 }
cause_report (error.TooFar at target) = record no_detour { at = at; target = target }

-- the numbers of a refusal
abbrev pub refusal_report : HookRefusal → FlatDetour
refusal_report (NoDetour cause) = cause_report cause
refusal_report _ = no_detour

-- those of the detour, also where a room does not hold it; or of the refusal
abbrev pub hook_report : Result DetourState HookRefusal → FlatDetour
hook_report (Ok d) = detour_report d
hook_report (Err e) = refusal_report e

-- what the call says and leaves
pub record IsDetourCall (bits ip : ℕ) (code : List ℕ) (to place start : ℕ) (patch patch' trampoline trampoline' : List ℕ) (report : FlatDetour) (said : ℤ) : Type 0 where
  pub answer : Result DetourState HookRefusal
  pub is : IsDetourAnswerBy (bits_numbered bits) (start_numbered start) ip code to place answer
  pub said_is : said ≡ hook_said (hook_within (length patch) (length trampoline) answer)
  pub patch_is : patch' ≡ patch_left patch (hook_within (length patch) (length trampoline) answer)
  pub trampoline_is : trampoline' ≡ trampoline_left trampoline (hook_within (length patch) (length trampoline) answer)
  pub report_is : report ≡ hook_report answer
