-- A detour by rules: nothing that is seen of the function speaks against it, and its trampoline stands apart from the code.
use Rattle.std.specs.Prelude.{◌≡◌, ℕ, Bool, true, false, if◌then◌else◌, List, length, Option, Some, None, Result, Ok, Err, IsTrue}
use Rattle.std.specs.Option.{option_or}
use Rattle.x86_values.specs.declared.Bits.{Bits}
use Rattle.x86_values.specs.Wrapping.{modulo_width}
use Rattle.flow_graph.specs.Control.{code_bytes}
use Rattle.flow_graph.specs.declared.hook_sight.answers.Passage.{Passage}
use Rattle.flow_graph.specs.declared.hook_sight.answers.Sight.{Sight}
use Rattle.flow_graph.specs.declared.hook_sight.answers.Sight.TheVariants.{Whole, Ends}
use Rattle.flow_graph.specs.declared.hook_sight.answers.StartRule.{StartRule}
use Rattle.flow_graph.specs.declared.hook_sight.answers.StartRule.TheVariants.{Open, Closed}
use Rattle.flow_graph.specs.declared.hook_sight.answers.View.{View}
use Rattle.flow_graph.specs.HookSight.Entries.{part_of}
use Rattle.flow_graph.specs.HookSight.Views.{IsView}
use Rattle.detour.specs.declared.error.DetourError.{DetourError}
use Rattle.detour.specs.declared.error.DetourError.TheVariants as detour_error
use Rattle.detour.specs.declared.rules.RuleError.{RuleError}
use Rattle.detour.specs.declared.rules.RuleError.TheVariants.{Detour, Overlaps, Calls, Entered, Unseen}
use Rattle.detour.specs.declared.rules.HookRules.{HookRules}
use Rattle.detour.specs.declared.rules.SeenDetour.{SeenDetour}
use Rattle.detour.specs.declared.start.StartTarget.{StartTarget}
use Rattle.detour.specs.declared.start.StartTarget.TheVariants.{Moved, Hooked}
use Rattle.detour.specs.declared.start.MoveRule.{MoveRule}
use Rattle.detour.specs.Detours.{DetourState, IsAnswerTo}
use Rattle.detour.specs.Ranges.{overlaps}

-- ---- how the instructions are moved

-- addresses at RIP and EIP stay; the rest is as it is asked
abbrev pub move_rule : HookRules → MoveRule
move_rule rules = record { start = rules.start; rip_stays = true; returns = rules.returns }

-- the detour by that, or why there is none; the address of the replacement is taken modulo 2 to the number of bits of the mode
abbrev pub IsMade : Bits → ℕ → List ℕ → ℕ → ℕ → HookRules → Result DetourState DetourError → Type 0
IsMade bits ip code to place rules answer = IsAnswerTo bits ip code (modulo_width bits to) place (move_rule rules) answer

-- ---- where the trampoline stands

-- the trampoline would stand in the given bytes of the function
abbrev pub lies_in : Bits → ℕ → List ℕ → ℕ → DetourState → Bool
lies_in bits ip code place d = overlaps bits ip (length code) place (length d.trampoline)

-- ---- what is seen

-- If a target at the start is the moved first instruction, a loop from behind the overwritten bytes would miss it and
-- meet the patch: the start is closed. If it is the replacement, the start is open.
abbrev pub rule_of : StartTarget → StartRule
rule_of Moved = Closed
rule_of Hooked = Open

-- what is seen of the function where a detour overwrites its first bytes
abbrev pub IsViewOver : Bits → ℕ → List ℕ → List ℕ → StartTarget → DetourState → View → Type 0
IsViewOver bits ip code entries start d view =
    IsView (code_bytes bits ip code) entries (part_of d.taken d.starts (rule_of start)) view

-- a moved call that hands on an address in the trampoline is a cause, unless that is allowed
abbrev pub call_refusal : Bool → Option ℕ → Option RuleError
call_refusal true call = None
call_refusal false None = None
call_refusal false (Some at) = Some (Calls at)

-- an entry within the overwritten bytes is entered: it has its own offset twice
abbrev pub inside_refusal : Option ℕ → Option RuleError
inside_refusal None = None
inside_refusal (Some entry) = Some (Entered entry entry)

-- control goes there
abbrev pub entered_refusal : Option Passage → Option RuleError
entered_refusal None = None
entered_refusal (Some passage) = Some (Entered passage.from passage.target)

-- sight ends although whole sight was asked for
abbrev pub sight_refusal : Bool → Sight → Option RuleError
sight_refusal whole Whole = None
sight_refusal whole (Ends at why) = if whole then Some (Unseen at why) else None

-- the first cause against a detour: a call in it, an entry, a passage, the end of sight
abbrev pub refusal_of : HookRules → DetourState → View → Option RuleError
refusal_of rules d view =
    option_or (call_refusal rules.calls d.call)
    (option_or (inside_refusal view.inside) (option_or (entered_refusal view.entered) (sight_refusal rules.whole view.sight)))

-- the detour with what was seen, unless there is a cause against it
abbrev pub judged_by : Option RuleError → DetourState → View → Result SeenDetour RuleError
judged_by None d view = Ok (record { detour = d; view = view })
judged_by (Some why) d view = Err why

-- ---- the answer

-- a detour is allowed: its trampoline stands apart from the code, no entry and no passage into the overwritten bytes is seen, all is seen if that was
-- asked for, and no call in it hands on an address of the trampoline unless it may
pub record IsAllowed (bits : Bits) (ip : ℕ) (code : List ℕ) (place : ℕ) (entries : List ℕ) (rules : HookRules) (d : DetourState) (view : View) : Type 0 where
  pub apart : lies_in bits ip code place d ≡ false
  pub is_view : IsViewOver bits ip code entries rules.start d view
  pub call : rules.calls ≡ false → d.call ≡ None
  pub inside : view.inside ≡ None
  pub entered : view.entered ≡ None
  pub sight : IsTrue rules.whole → view.sight ≡ Whole

-- a detour whose trampoline stands apart from the code is refused for a call in it, or for what is seen
pub record IsRefused (bits : Bits) (ip : ℕ) (code : List ℕ) (place : ℕ) (entries : List ℕ) (rules : HookRules) (d : DetourState) (why : RuleError) : Type 0 where
  pub apart : lies_in bits ip code place d ≡ false
  pub view : View
  pub is_view : IsViewOver bits ip code entries rules.start d view
  pub cause : refusal_of rules d view ≡ Some why

-- what the rules say of a detour
abbrev pub IsRuled : Bits → ℕ → List ℕ → ℕ → List ℕ → HookRules → DetourState → Result SeenDetour RuleError → Type 0
IsRuled bits ip code place entries rules d (Ok seen) =
    (seen.detour ≡ d) × IsAllowed bits ip code place entries rules d seen.view
IsRuled bits ip code place entries rules d (Err (Detour why)) = why ≡ detour_error.Memory
IsRuled bits ip code place entries rules d (Err Overlaps) = lies_in bits ip code place d ≡ true
IsRuled bits ip code place entries rules d (Err (Calls at)) = IsRefused bits ip code place entries rules d (Calls at)
IsRuled bits ip code place entries rules d (Err (Entered from target)) = IsRefused bits ip code place entries rules d (Entered from target)
IsRuled bits ip code place entries rules d (Err (Unseen at why)) = IsRefused bits ip code place entries rules d (Unseen at why)

-- the answer: the detour that is allowed; or that there is none; or that there is one, which has its trampoline in the code, or is refused
abbrev pub IsRuledAnswer : Bits → ℕ → List ℕ → ℕ → ℕ → List ℕ → HookRules → Result SeenDetour RuleError → Type 0
IsRuledAnswer bits ip code to place entries rules (Ok seen) =
    IsMade bits ip code to place rules (Ok seen.detour) × IsAllowed bits ip code place entries rules seen.detour seen.view
IsRuledAnswer bits ip code to place entries rules (Err (Detour why)) = IsMade bits ip code to place rules (Err why)
IsRuledAnswer bits ip code to place entries rules (Err Overlaps) =
    (d : DetourState) × (IsMade bits ip code to place rules (Ok d) × (lies_in bits ip code place d ≡ true))
IsRuledAnswer bits ip code to place entries rules (Err (Calls at)) =
    (d : DetourState) × (IsMade bits ip code to place rules (Ok d) × IsRefused bits ip code place entries rules d (Calls at))
IsRuledAnswer bits ip code to place entries rules (Err (Entered from target)) =
    (d : DetourState) × (IsMade bits ip code to place rules (Ok d) × IsRefused bits ip code place entries rules d (Entered from target))
IsRuledAnswer bits ip code to place entries rules (Err (Unseen at why)) =
    (d : DetourState) × (IsMade bits ip code to place rules (Ok d) × IsRefused bits ip code place entries rules d (Unseen at why))
