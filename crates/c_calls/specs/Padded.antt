-- What making a detour through padding answers, and what it leaves in the rooms.
use Rattle.std.specs.Prelude.{◌≡◌, ℕ, ◌+◌, ◌<◌, ◌≤◌, nat_le, ◌&&◌, ℤ, pos, List, ◌++◌, length, drop, Option, Some, None, Result, Ok, Err, if◌then◌else◌}
use Rattle.x86_values.specs.declared.Bits.{Bits}
use Rattle.detour.specs.declared.padding.PaddingError.{PaddingError}
use Rattle.detour.specs.declared.padding.PaddingError.TheVariants as cause
use Rattle.detour.specs.declared.rules.HookRules.{HookRules}
use Rattle.detour.specs.Padding.{PaddedState, IsPaddingDetour}
use Rattle.c_calls.specs.declared.refusal.Refusal.{Refusal}
use Rattle.c_calls.specs.declared.refusal.Refusal.TheVariants as why
use Rattle.c_calls.specs.declared.flat.FlatDetour.{FlatDetour}
use Rattle.c_calls.specs.declared.flat.FlatMovedStart.{FlatMovedStart}
use Rattle.c_calls.specs.declared.flat.FlatPadded.{FlatPadded}
use Rattle.c_calls.specs.declared.padded.PaddedRefusal.{PaddedRefusal}
use Rattle.c_calls.specs.declared.padded.PaddedRefusal.TheVariants.{Mode, Start, TooLarge, Room, NoDetour}
use Rattle.c_calls.specs.Refusals.{refusal_status}
use Rattle.c_calls.specs.Numbers.{bits_numbered}
use Rattle.c_calls.specs.Hooks.{start_numbered, no_detour}
use Rattle.c_calls.specs.Ruled.{rules_numbered, rule_refusal, rule_report, seen_report, no_view, moved_starts}

-- ---- the answer

-- the detour with what is seen, or why there is none: more than 1,048,576 bytes together, or a cause of its own
abbrev pub IsPaddedIn : Bits → ℕ → List ℕ → List ℕ → ℕ → ℕ → List ℕ → HookRules → Result PaddedState PaddedRefusal → Type 0
IsPaddedIn bits ip padding code to place entries rules (Ok made) =
    (length padding + length code ≤ 1048576) × IsPaddingDetour bits ip padding code to place entries rules (Ok made)
IsPaddedIn bits ip padding code to place entries rules (Err TooLarge) = 1048576 < length padding + length code
IsPaddedIn bits ip padding code to place entries rules (Err (NoDetour e)) =
    (length padding + length code ≤ 1048576) × IsPaddingDetour bits ip padding code to place entries rules (Err e)
IsPaddedIn bits ip padding code to place entries rules (Err Mode) = ⊥
IsPaddedIn bits ip padding code to place entries rules (Err Start) = ⊥
IsPaddedIn bits ip padding code to place entries rules (Err Room) = ⊥

-- the same, where the numbers of the mode and of the rules name some
abbrev pub IsPaddedAnswerBy : Option Bits → Option HookRules → ℕ → List ℕ → List ℕ → ℕ → ℕ → List ℕ → Result PaddedState PaddedRefusal → Type 0
IsPaddedAnswerBy None rules ip padding code to place entries answer = answer ≡ Err Mode
IsPaddedAnswerBy (Some bits) None ip padding code to place entries answer = answer ≡ Err Start
IsPaddedAnswerBy (Some bits) (Some rules) ip padding code to place entries answer = IsPaddedIn bits ip padding code to place entries rules answer

-- ---- what is said and left

-- the four rooms hold what they are for
unfoldable pub padded_within : ℕ → ℕ → ℕ → ℕ → Result PaddedState PaddedRefusal → Result PaddedState PaddedRefusal
padded_within first room other third (Ok made) =
    if nat_le (length made.near) first && nat_le (length made.seen.detour.patch) room && nat_le (length made.seen.detour.trampoline) other
    && nat_le (length made.seen.detour.starts) third then Ok made else Err Room
padded_within first room other third (Err e) = Err e

-- why there is no detour, by the refusals of all calls
abbrev pub padding_refusal : PaddingError → Refusal
padding_refusal (cause.TooShort len need) = why.Padding
padding_refusal (cause.NotPadding at) = why.Padding
padding_refusal (cause.Entered from target) = why.Entered
padding_refusal cause.OutOfReach = why.TooFar
padding_refusal (cause.Function e) = rule_refusal e
padding_refusal cause.Overlaps = why.Overlaps

-- why nothing is made, by the refusals of all calls
abbrev pub padded_refusal : PaddedRefusal → Refusal
padded_refusal Mode = why.Mode
padded_refusal Start = why.Start
padded_refusal TooLarge = why.TooLarge
padded_refusal Room = why.Room
padded_refusal (NoDetour e) = padding_refusal e

-- what the call says
abbrev pub padded_said : Result PaddedState PaddedRefusal → ℤ
padded_said (Ok made) = pos 0
padded_said (Err e) = refusal_status (padded_refusal e)

-- the room of the near jump begins with it, and is unchanged behind it and after a refusal
abbrev pub jump_left : List ℕ → Result PaddedState PaddedRefusal → List ℕ
jump_left old (Ok made) = made.near ++ drop (length made.near) old
jump_left old (Err e) = old

-- the room of the patch, likewise
abbrev pub patch_left : List ℕ → Result PaddedState PaddedRefusal → List ℕ
patch_left old (Ok made) = made.seen.detour.patch ++ drop (length made.seen.detour.patch) old
patch_left old (Err e) = old

-- the room of the trampoline, likewise
abbrev pub trampoline_left : List ℕ → Result PaddedState PaddedRefusal → List ℕ
trampoline_left old (Ok made) = made.seen.detour.trampoline ++ drop (length made.seen.detour.trampoline) old
trampoline_left old (Err e) = old

-- the room of the moved instructions, likewise
abbrev pub moved_left : List FlatMovedStart → Result PaddedState PaddedRefusal → List FlatMovedStart
moved_left old (Ok made) =
    moved_starts made.seen.detour.starts made.seen.detour.places (length made.seen.detour.starts)
    ++ drop (length made.seen.detour.starts) old
moved_left old (Err e) = old

-- ---- the report

-- the numbers of a cause
abbrev pub padding_report : PaddingError → FlatDetour
padding_report (cause.TooShort len need) = record no_detour { at = len; target = need }
padding_report (cause.NotPadding at) = record no_detour { at = at }
padding_report (cause.Entered from target) = record no_detour { at = from; target = target }
padding_report cause.OutOfReach = no_detour
padding_report (cause.Function e) = rule_report e
padding_report cause.Overlaps = no_detour

-- a cause is about the padding or the jump in it
abbrev pub about_padding : PaddingError → ℕ
about_padding (cause.Function e) = 0
about_padding e = 1

-- the numbers of a refusal, and whether it is about the padding
abbrev pub refusal_numbers : PaddedRefusal → FlatDetour × ℕ
refusal_numbers (NoDetour e) = (padding_report e, about_padding e)
refusal_numbers _ = (no_detour, 0)

-- the report: what is told of a detour by rules, and how many bytes the near jump has; or the numbers of the refusal
abbrev pub padded_report : Result PaddedState PaddedRefusal → FlatPadded
padded_report (Ok made) = record { hook = seen_report made.seen; jump = length made.near; padding = 0 }
padded_report (Err e) = record {
  hook = record { detour = (refusal_numbers e).0; view = no_view; moved = 0; call = 0 };
  jump = 0;
  padding = (refusal_numbers e).1;
}

-- what the call says and leaves
pub record IsPaddedCall (bits ip : ℕ) (padding code : List ℕ) (to place start rules : ℕ)
    (entries jump jump' patch patch' trampoline trampoline' : List ℕ) (moved moved' : List FlatMovedStart) (report : FlatPadded) (said : ℤ) : Type 0 where
  pub answer : Result PaddedState PaddedRefusal
  pub is : IsPaddedAnswerBy (bits_numbered bits) (rules_numbered (start_numbered start) rules) ip padding code to place entries answer
  pub said_is : said ≡ padded_said (padded_within (length jump) (length patch) (length trampoline) (length moved) answer)
  pub jump_is : jump' ≡ jump_left jump (padded_within (length jump) (length patch) (length trampoline) (length moved) answer)
  pub patch_is : patch' ≡ patch_left patch (padded_within (length jump) (length patch) (length trampoline) (length moved) answer)
  pub trampoline_is : trampoline' ≡ trampoline_left trampoline (padded_within (length jump) (length patch) (length trampoline) (length moved) answer)
  pub moved_is : moved' ≡ moved_left moved (padded_within (length jump) (length patch) (length trampoline) (length moved) answer)
  pub report_is : report ≡ padded_report answer
