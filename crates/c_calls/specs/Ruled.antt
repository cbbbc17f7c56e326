-- What making a detour by rules answers, and what it leaves in the rooms.
use Rattle.std.specs.Prelude.{◌≡◌, ℕ, ◌/◌, ◌%◌, ◌==◌, ◌<◌, ◌≤◌, nat_le, nat_lt, ◌&&◌, ℤ, pos, List, ◌++◌, length, drop, map, slice_index_or, Option, Some, None, Result, Ok, Err, if◌then◌else◌}
use Rattle.std.specs.List.{range_with_len}
use Rattle.x86_values.specs.declared.Bits.{Bits}
use Rattle.detour.specs.declared.start.StartTarget.{StartTarget}
use Rattle.detour.specs.declared.rules.RuleError.{RuleError}
use Rattle.detour.specs.declared.rules.RuleError.TheVariants as rule
use Rattle.detour.specs.declared.rules.HookRules.{HookRules}
use Rattle.detour.specs.declared.rules.SeenDetour.{SeenDetour}
use Rattle.detour.specs.Rules.{IsRuledAnswer}
use Rattle.c_calls.specs.declared.refusal.Refusal.{Refusal}
use Rattle.c_calls.specs.declared.refusal.Refusal.TheVariants as why
use Rattle.c_calls.specs.declared.flat.FlatDetour.{FlatDetour}
use Rattle.c_calls.specs.declared.flat.FlatView.{FlatView}
use Rattle.c_calls.specs.declared.flat.FlatMovedStart.{FlatMovedStart}
use Rattle.c_calls.specs.declared.flat.FlatHook.{FlatHook}
use Rattle.c_calls.specs.declared.ruled.RuledRefusal.{RuledRefusal}
use Rattle.c_calls.specs.declared.ruled.RuledRefusal.TheVariants.{Mode, Start, TooLarge, Room, NoDetour}
use Rattle.c_calls.specs.Refusals.{refusal_status}
use Rattle.c_calls.specs.Numbers.{bits_numbered}
use Rattle.c_calls.specs.Hooks.{start_numbered, detour_refusal, no_detour, offset_or, cause_report, detour_report}
use Rattle.c_calls.specs.Looking.{end_number, flat_view}

-- ---- the answer

-- the rules, by what becomes of the function's own start and the bits of a number: 1 asks for whole sight, 2 for own return addresses, 4 for no call
unfoldable pub rules_numbered : Option StartTarget → ℕ → Option HookRules
rules_numbered None n = None
rules_numbered (Some start) n =
    if nat_lt n 8 then Some (record { start = start; whole = (n % 2) == 1; returns = ((n / 2) % 2) == 1; calls = (n / 4) == 0 }) else None

-- the detour with what is seen, or why there is none: more than 1,048,576 bytes, or a cause of the rules
abbrev pub IsRuledIn : Bits → ℕ → List ℕ → ℕ → ℕ → List ℕ → HookRules → Result SeenDetour RuledRefusal → Type 0
IsRuledIn bits ip code to place entries rules (Ok seen) = (length code ≤ 1048576) × IsRuledAnswer bits ip code to place entries rules (Ok seen)
IsRuledIn bits ip code to place entries rules (Err TooLarge) = 1048576 < length code
IsRuledIn bits ip code to place entries rules (Err (NoDetour cause)) =
    (length code ≤ 1048576) × IsRuledAnswer bits ip code to place entries rules (Err cause)
IsRuledIn bits ip code to place entries rules (Err Mode) = ⊥
IsRuledIn bits ip code to place entries rules (Err Start) = ⊥
IsRuledIn bits ip code to place entries rules (Err Room) = ⊥

-- what a detour by rules answers, where the numbers of the mode and of the rules name some
abbrev pub IsRuledAnswerBy : Option Bits → Option HookRules → ℕ → List ℕ → ℕ → ℕ → List ℕ → Result SeenDetour RuledRefusal → Type 0
IsRuledAnswerBy None rules ip code to place entries answer = answer ≡ Err Mode
IsRuledAnswerBy (Some bits) None ip code to place entries answer = answer ≡ Err Start
IsRuledAnswerBy (Some bits) (Some rules) ip code to place entries answer = IsRuledIn bits ip code to place entries rules answer

-- ---- the moved instructions

-- moved instruction k: its offset in the function, and in the trampoline
unfoldable pub moved_start : List ℕ → List ℕ → ℕ → FlatMovedStart
moved_start starts places k = record { start = slice_index_or starts k 0; place = slice_index_or places k 0 }

-- the first n of them
unfoldable pub moved_starts : List ℕ → List ℕ → ℕ → List FlatMovedStart
moved_starts starts places n = map (moved_start starts places) (range_with_len 0 n)

-- ---- what is said and left

-- the three rooms hold what they are for
unfoldable pub ruled_within : ℕ → ℕ → ℕ → Result SeenDetour RuledRefusal → Result SeenDetour RuledRefusal
ruled_within room other third (Ok seen) =
    if nat_le (length seen.detour.patch) room && nat_le (length seen.detour.trampoline) other
    && nat_le (length seen.detour.starts) third then Ok seen else Err Room
ruled_within room other third (Err e) = Err e

-- why the rules give no detour, by the refusals of all calls
abbrev pub rule_refusal : RuleError → Refusal
rule_refusal (rule.Detour cause) = detour_refusal cause
rule_refusal rule.Overlaps = why.Overlaps
rule_refusal (rule.Calls at) = why.Calls
rule_refusal (rule.Entered from target) = why.Entered
rule_refusal (rule.Unseen at end) = why.Unseen

-- why nothing is made, by the refusals of all calls
abbrev pub ruled_refusal : RuledRefusal → Refusal
ruled_refusal Mode = why.Mode
ruled_refusal Start = why.Start
ruled_refusal TooLarge = why.TooLarge
ruled_refusal Room = why.Room
ruled_refusal (NoDetour cause) = rule_refusal cause

-- what the call says
abbrev pub ruled_said : Result SeenDetour RuledRefusal → ℤ
ruled_said (Ok seen) = pos 0
ruled_said (Err e) = refusal_status (ruled_refusal e)

-- the room of the patch begins with it, and is unchanged behind it and after a refusal
abbrev pub patch_left : List ℕ → Result SeenDetour RuledRefusal → List ℕ
patch_left old (Ok seen) = seen.detour.patch ++ drop (length seen.detour.patch) old
patch_left old (Err e) = old

-- the room of the trampoline, likewise
abbrev pub trampoline_left : List ℕ → Result SeenDetour RuledRefusal → List ℕ
trampoline_left old (Ok seen) = seen.detour.trampoline ++ drop (length seen.detour.trampoline) old
trampoline_left old (Err e) = old

-- the room of the moved instructions, likewise
abbrev pub moved_left : List FlatMovedStart → Result SeenDetour RuledRefusal → List FlatMovedStart
moved_left old (Ok seen) =
    moved_starts seen.detour.starts seen.detour.places (length seen.detour.starts)
    ++ drop (length seen.detour.starts) old
moved_left old (Err e) = old

-- ---- the report

-- nothing seen
abbrev pub no_view : FlatView
no_view = record {
  sight_at = 0;
  entered_from = 0;
  entered_target = 0;
  inside = 0;
  suspect_from = 0;
  suspect_target = 0;
  sight = 0;
  is_entered = 0;
  has_inside = 0;
  has_suspect = 0;
}

-- the numbers of a cause of the rules: an offset, and the one that control goes to or why sight ends
abbrev pub rule_report : RuleError → FlatDetour
rule_report (rule.Detour cause) = cause_report cause
rule_report rule.Overlaps = no_detour
rule_report (rule.Calls at) = record no_detour { at = at }
rule_report (rule.Entered from target) = record no_detour { at = from; target = target }
rule_report (rule.Unseen at end) = record no_detour { at = at; target = end_number end }

-- the numbers of a refusal
abbrev pub refusal_report : RuledRefusal → FlatDetour
refusal_report (NoDetour cause) = rule_report cause
refusal_report _ = no_detour

-- those of the detour, what is seen, how many instructions are moved, and the first call among them or the end of what is overwritten
abbrev pub seen_report : SeenDetour → FlatHook
seen_report seen = record {
  detour = detour_report seen.detour;
  view = flat_view seen.view;
  moved = length seen.detour.starts;
  call = offset_or seen.detour.call seen.detour.taken;
}

-- these, also where a room does not hold what they are about; or those of the refusal
abbrev pub ruled_report : Result SeenDetour RuledRefusal → FlatHook
ruled_report (Ok seen) = seen_report seen
ruled_report (Err e) = record { detour = refusal_report e; view = no_view; moved = 0; call = 0 }

-- what the call says and leaves
pub record IsRuledCall (bits ip : ℕ) (code : List ℕ) (to place start rules : ℕ) (entries patch patch' trampoline trampoline' : List ℕ)
    (moved moved' : List FlatMovedStart) (report : FlatHook) (said : ℤ) : Type 0 where
  pub answer : Result SeenDetour RuledRefusal
  pub is : IsRuledAnswerBy (bits_numbered bits) (rules_numbered (start_numbered start) rules) ip code to place entries answer
  pub said_is : said ≡ ruled_said (ruled_within (length patch) (length trampoline) (length moved) answer)
  pub patch_is : patch' ≡ patch_left patch (ruled_within (length patch) (length trampoline) (length moved) answer)
  pub trampoline_is : trampoline'
      ≡ trampoline_left trampoline (ruled_within (length patch) (length trampoline) (length moved) answer)
  pub moved_is : moved' ≡ moved_left moved (ruled_within (length patch) (length trampoline) (length moved) answer)
  pub report_is : report ≡ ruled_report answer
