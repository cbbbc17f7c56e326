-- What making a detour that keeps an ENDBR answers, and what it leaves in the rooms.
use Rattle.std.specs.Prelude.{◌≡◌, ℕ, ◌<◌, ◌≤◌, nat_le, ◌&&◌, ℤ, pos, List, ◌++◌, length, drop, Option, Some, None, Result, Ok, Err, if◌then◌else◌}
use Rattle.x86_values.specs.declared.Bits.{Bits}
use Rattle.detour.specs.declared.kept.KeepError.{KeepError}
use Rattle.detour.specs.declared.kept.KeepError.TheVariants as keep
use Rattle.detour.specs.declared.rules.HookRules.{HookRules}
use Rattle.detour.specs.Kept.{KeptState, kept_len, IsKeptAnswer}
use Rattle.c_calls.specs.declared.refusal.Refusal.{Refusal}
use Rattle.c_calls.specs.declared.refusal.Refusal.TheVariants as why
use Rattle.c_calls.specs.declared.flat.FlatDetour.{FlatDetour}
use Rattle.c_calls.specs.declared.flat.FlatMovedStart.{FlatMovedStart}
use Rattle.c_calls.specs.declared.flat.FlatKept.{FlatKept}
use Rattle.c_calls.specs.declared.kept.KeptRefusal.{KeptRefusal}
use Rattle.c_calls.specs.declared.kept.KeptRefusal.TheVariants.{Mode, Start, TooLarge, Room, NoDetour}
use Rattle.c_calls.specs.Refusals.{refusal_status}
use Rattle.c_calls.specs.Numbers.{bits_numbered}
use Rattle.c_calls.specs.Hooks.{start_numbered, no_detour}
use Rattle.c_calls.specs.Ruled.{rules_numbered, rule_refusal, rule_report, seen_report, no_view, moved_starts}

-- ---- the answer

-- the detour with what is seen, or why there is none: more than 1,048,576 bytes, or a cause of its own
abbrev pub IsKeptIn : Bits → ℕ → List ℕ → ℕ → ℕ → List ℕ → HookRules → Result KeptState KeptRefusal → Type 0
IsKeptIn bits ip code to place entries rules (Ok made) = (length code ≤ 1048576) × IsKeptAnswer bits ip code to place entries rules (Ok made)
IsKeptIn bits ip code to place entries rules (Err TooLarge) = 1048576 < length code
IsKeptIn bits ip code to place entries rules (Err (NoDetour cause)) =
    (length code ≤ 1048576) × IsKeptAnswer bits ip code to place entries rules (Err cause)
IsKeptIn bits ip code to place entries rules (Err Mode) = ⊥
IsKeptIn bits ip code to place entries rules (Err Start) = ⊥
IsKeptIn bits ip code to place entries rules (Err Room) = ⊥

-- the same, where the numbers of the mode and of the rules name some
abbrev pub IsKeptAnswerBy : Option Bits → Option HookRules → ℕ → List ℕ → ℕ → ℕ → List ℕ → Result KeptState KeptRefusal → Type 0
IsKeptAnswerBy None rules ip code to place entries answer = answer ≡ Err Mode
IsKeptAnswerBy (Some bits) None ip code to place entries answer = answer ≡ Err Start
IsKeptAnswerBy (Some bits) (Some rules) ip code to place entries answer = IsKeptIn bits ip code to place entries rules answer

-- how many first bytes would be kept, where the number of the mode names one
abbrev pub kept_by : Option Bits → List ℕ → ℕ
kept_by None code = 0
kept_by (Some bits) code = kept_len bits code

-- ---- what is said and left

-- the three rooms hold what they are for
unfoldable pub kept_within : ℕ → ℕ → ℕ → Result KeptState KeptRefusal → Result KeptState KeptRefusal
kept_within room other third (Ok made) =
    if nat_le (length made.seen.detour.patch) room && nat_le (length made.trampoline) other
    && nat_le (length made.seen.detour.starts) third then Ok made else Err Room
kept_within room other third (Err e) = Err e

-- why there is no detour, by the refusals of all calls
abbrev pub keep_refusal : KeepError → Refusal
keep_refusal (keep.Head from target) = why.Entered
keep_refusal (keep.Tail cause) = rule_refusal cause
keep_refusal keep.Overlaps = why.Overlaps

-- why nothing is made, by the refusals of all calls
abbrev pub kept_refusal : KeptRefusal → Refusal
kept_refusal Mode = why.Mode
kept_refusal Start = why.Start
kept_refusal TooLarge = why.TooLarge
kept_refusal Room = why.Room
kept_refusal (NoDetour cause) = keep_refusal cause

-- what the call says
abbrev pub kept_said : Result KeptState KeptRefusal → ℤ
kept_said (Ok made) = pos 0
kept_said (Err e) = refusal_status (kept_refusal e)

-- the room of the patch begins with it, and is unchanged behind it and after a refusal
abbrev pub patch_left : List ℕ → Result KeptState KeptRefusal → List ℕ
patch_left old (Ok made) = made.seen.detour.patch ++ drop (length made.seen.detour.patch) old
patch_left old (Err e) = old

-- the room of the trampoline, likewise
abbrev pub trampoline_left : List ℕ → Result KeptState KeptRefusal → List ℕ
trampoline_left old (Ok made) = made.trampoline ++ drop (length made.trampoline) old
trampoline_left old (Err e) = old

-- the room of the moved instructions, likewise
abbrev pub moved_left : List FlatMovedStart → Result KeptState KeptRefusal → List FlatMovedStart
moved_left old (Ok made) =
    moved_starts made.seen.detour.starts made.seen.detour.places (length made.seen.detour.starts)
    ++ drop (length made.seen.detour.starts) old
moved_left old (Err e) = old

-- ---- the report

-- the numbers of a cause
abbrev pub keep_report : KeepError → FlatDetour
keep_report (keep.Head from target) = record no_detour { at = from; target = target }
keep_report (keep.Tail cause) = rule_report cause
keep_report keep.Overlaps = no_detour

-- the numbers of a refusal, and the offset in the function from which they count
abbrev pub refused_with : FlatDetour → ℕ → FlatKept
refused_with numbers kept = record { hook = record { detour = numbers; view = no_view; moved = 0; call = 0 }; kept = kept }

-- the report of a refusal: what is about the tail counts from behind the kept bytes
abbrev pub refusal_report : KeptRefusal → ℕ → FlatKept
refusal_report (NoDetour (keep.Tail cause)) kept = refused_with (rule_report cause) kept
refusal_report (NoDetour cause) kept = refused_with (keep_report cause) 0
refusal_report _ kept = refused_with no_detour 0

-- the report: what is told of a detour by rules, counted from behind the kept bytes, and how many these are
abbrev pub kept_report : Result KeptState KeptRefusal → ℕ → FlatKept
kept_report (Ok made) kept = record { hook = seen_report made.seen; kept = made.kept }
kept_report (Err e) kept = refusal_report e kept

-- what the call says and leaves
pub record IsKeptCall (bits ip : ℕ) (code : List ℕ) (to place start rules : ℕ) (entries patch patch' trampoline trampoline' : List ℕ)
    (moved moved' : List FlatMovedStart) (report : FlatKept) (said : ℤ) : Type 0 where
  pub answer : Result KeptState KeptRefusal
  pub is : IsKeptAnswerBy (bits_numbered bits) (rules_numbered (start_numbered start) rules) ip code to place entries answer
  pub said_is : said ≡ kept_said (kept_within (length patch) (length trampoline) (length moved) answer)
  pub patch_is : patch' ≡ patch_left patch (kept_within (length patch) (length trampoline) (length moved) answer)
  pub trampoline_is : trampoline' ≡ trampoline_left trampoline (kept_within (length patch) (length trampoline) (length moved) answer)
  pub moved_is : moved' ≡ moved_left moved (kept_within (length patch) (length trampoline) (length moved) answer)
  pub report_is : report ≡ kept_report answer (kept_by (bits_numbered bits) code)
