-- What a list of commands leaves.
use Rattle.std.specs.Prelude.{◌≡◌, ℕ, ◌≤◌, List, length, Result, Ok, Err}
use Rattle.code_region.specs.LiveEntries.Running.{IsRun}
use Rattle.detour.specs.declared.hook_slots.making.Hook.{Hook}
use Rattle.detour.specs.declared.hook_slots.refusals.InstallError.{InstallError}
use Rattle.detour.specs.declared.hook_slots.refusals.RemoveError.{RemoveError}
use Rattle.detour.specs.declared.hook_slots.refusals.RemoveError.TheVariants.{NotTaken, Covered}
use Rattle.detour.specs.declared.hook_slots.commands.HookCommand.{HookCommand}
use Rattle.detour.specs.declared.hook_slots.commands.HookCommand.TheVariants.{Install, InstallOver, Remove}
use Rattle.detour.specs.declared.hook_slots.commands.HookReply.{HookReply}
use Rattle.detour.specs.declared.hook_slots.commands.HookReply.TheVariants.{Installed, Refused, Removed, NotTaken as NotTakenReply, Covered as CoveredReply}
use Rattle.detour.specs.HookSlots.State.{HooksState}
use Rattle.detour.specs.HookSlots.Installing.{IsInstalled, IsInstalledOver}
use Rattle.detour.specs.HookSlots.Removing.{remove_answer, after_removal}

-- a function to be hooked has at most 1,048,576 bytes
abbrev pub HookCommandFits : HookCommand → Type 0
HookCommandFits (Install ip code to start) = length code.now ≤ 1048576
HookCommandFits (InstallOver ip code to start) = length code.now ≤ 1048576
HookCommandFits (Remove place) = Unit {0}

-- the reply that says what an install answered
abbrev pub install_reply : Result ℕ InstallError → HookReply
install_reply (Ok place) = Installed place
install_reply (Err why) = Refused why

-- the reply that says what a removal answered
abbrev pub remove_reply : Result Hook RemoveError → HookReply
remove_reply (Ok hook) = Removed
remove_reply (Err (NotTaken place)) = NotTakenReply place
remove_reply (Err (Covered place by)) = CoveredReply place by

-- one command
abbrev pub IsHookDone : HooksState → HookCommand → HookReply → HooksState → Type 0
IsHookDone old (Install ip code to start) reply new =
    (answer : Result ℕ InstallError) × ((reply ≡ install_reply answer) × IsInstalled old ip code.now to start answer new)
IsHookDone old (InstallOver ip code to start) reply new =
    (answer : Result ℕ InstallError) × ((reply ≡ install_reply answer) × IsInstalledOver old ip code.now to start answer new)
IsHookDone old (Remove place) reply new = (reply ≡ remove_reply (remove_answer old place)) × (new ≡ after_removal old place)

-- the commands in order
abbrev pub IsHookRun : HooksState → List HookCommand → List HookReply → HooksState → Type 0
IsHookRun old commands replies new = IsRun IsHookDone old commands replies new
