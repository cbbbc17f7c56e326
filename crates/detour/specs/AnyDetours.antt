-- Detours of functions of which some instructions have no row: what is taken, the jump, the trampoline, and when there is no detour.
use Rattle.std.specs.Prelude.{◌≡◌, ℕ, ◌<◌, List, ◌++◌, length, Option, Some, None, IfSome, Result, Ok, Err}
use Rattle.x86_values.specs.declared.Bits.{Bits}
use Rattle.x86_values.specs.declared.Bits.TheVariants.{B64}
use Rattle.x86_values.specs.Wrapping.{modulo_width}
use Rattle.flow_graph.specs.declared.exits.Follow.TheVariants as follow
use Rattle.flow_graph.specs.Control.{CodeBytes, code_bytes_with}
use Rattle.block_encoder.specs.declared.error.PlanError.{PlanError}
use Rattle.block_encoder.specs.declared.error.PlanError.TheVariants as plan_error
use Rattle.block_encoder.specs.Moved.{MovedLists}
use Rattle.code_items.specs.declared.any_items.AnyItem.{AnyItem}
use Rattle.code_items.specs.AnyMoved.{IsAnyPlanAnswer}
use Rattle.code_items.specs.AnyStanding.{AnyStandsIn}
use Rattle.detour.specs.declared.error.DetourError.{DetourError}
use Rattle.detour.specs.declared.error.DetourError.TheVariants.{Memory, BadCode, TooSmall, Ends, Entered, Wraps, TooFar}
use Rattle.detour.specs.declared.parts.JumpForm.{JumpForm}
use Rattle.detour.specs.declared.parts.JumpForm.TheVariants.{Near, Relay, Absolute}
use Rattle.detour.specs.declared.start.StartTarget.{StartTarget}
use Rattle.detour.specs.declared.start.MoveRule.{MoveRule}
use Rattle.detour.specs.Taken.{taken_bytes, first_code_behind, IsCodeBehind}
use Rattle.detour.specs.Starts.{starts_of, places_of}
use Rattle.detour.specs.Calls.{call_in}
use Rattle.detour.specs.Jumps.{IsNearJump, IsOutOfReach, absolute_jump}
use Rattle.detour.specs.Entries.{IsFirstEntry, IsNotEntered}
use Rattle.detour.specs.Trampoline.{goes_back}
use Rattle.detour.specs.ReadBack.{IsPatchRead, IsRelayRead}
use Rattle.detour.specs.Detours.{relay_behind, JumpParts, DetourState, patch_of, relay_bytes, parts_of, all_follow}
use Rattle.detour.specs.AnyTaken.{outline, AreAnyTaken, IsAnyBadCode, IsAnyTooSmall}
use Rattle.detour.specs.AnyTrampoline.{any_block_items, any_trampoline_plan, IsAnyTrampoline}

-- ---- what is taken

-- what is taken for a jump of so many bytes: instructions behind whose end nothing but padding stands; else the first cause that there are none
abbrev pub IsAnyTakenAnswer : Bits → ℕ → List ℕ → ℕ → Result (List AnyItem) DetourError → Type 0
IsAnyTakenAnswer bits ip code need (Ok items) = AreAnyTaken bits ip code need items × (first_code_behind (outline bits items) ≡ None)
IsAnyTakenAnswer bits ip code need (Err (BadCode at error)) = IsAnyBadCode bits ip code need at error
IsAnyTakenAnswer bits ip code need (Err (TooSmall len wanted)) = IsAnyTooSmall bits ip code len need × (wanted ≡ need)
IsAnyTakenAnswer bits ip code need (Err (Ends at)) = (items : List AnyItem) × (AreAnyTaken bits ip code need items × IsCodeBehind (outline bits items) at)
IsAnyTakenAnswer bits ip code need (Err Memory) = Unit {0}
IsAnyTakenAnswer bits ip code need (Err why) = ⊥

-- ---- the relay

-- the relay of a trampoline, if there is one
abbrev pub IsAnyRelayOf : ℕ → Result MovedLists PlanError → Option ℕ → Type 0
IsAnyRelayOf place (Ok m) relay = relay ≡ relay_behind place (length m.bytes)
IsAnyRelayOf place (Err plan_error.Memory) relay = ⊥
IsAnyRelayOf place (Err why) relay = relay ≡ None

-- the relay of what is taken, if there is one
abbrev pub IsAnyRelayBehind : Bits → ℕ → ℕ → MoveRule → Result (List AnyItem) DetourError → Option ℕ → Type 0
IsAnyRelayBehind bits ip place rule (Ok items) relay =
    (moved : Result MovedLists PlanError)
    × (IsAnyPlanAnswer bits (any_block_items rule bits ip items) (any_trampoline_plan bits ip items place rule) moved × IsAnyRelayOf place moved relay)
IsAnyRelayBehind bits ip place rule (Err Memory) relay = ⊥
IsAnyRelayBehind bits ip place rule (Err why) relay = relay ≡ None

-- the address of the relay behind the trampoline of what a near jump of 5 bytes takes, if there is one
abbrev pub IsAnyRelay : Bits → ℕ → List ℕ → ℕ → MoveRule → Option ℕ → Type 0
IsAnyRelay bits ip code place rule relay =
    (taken : Result (List AnyItem) DetourError) × (IsAnyTakenAnswer bits ip code 5 taken × IsAnyRelayBehind bits ip place rule taken relay)

-- ---- the jump

-- a jump of a form from the function to the replacement
abbrev pub IsAnyJumpOf : Bits → ℕ → List ℕ → ℕ → ℕ → MoveRule → JumpForm → List ℕ → Option ℕ → Type 0
IsAnyJumpOf bits ip code to place rule Near bytes relay = IsNearJump bits ip to bytes × (relay ≡ None)
IsAnyJumpOf bits ip code to place rule Relay bytes relay =
    ((bits ≡ B64) × IsOutOfReach bits ip to)
    × ((address : ℕ) × ((relay ≡ Some address) × (IsAnyRelay bits ip code place rule (Some address) × IsNearJump bits ip address bytes)))
IsAnyJumpOf bits ip code to place rule Absolute bytes relay =
    ((bits ≡ B64) × IsOutOfReach bits ip to)
    × (((tried : Option ℕ) × (IsAnyRelay bits ip code place rule tried × IfSome tried (IsOutOfReach bits ip)))
    × ((bytes ≡ absolute_jump to) × (relay ≡ None)))

-- the first of the three forms that reaches
abbrev pub IsFirstAnyJump : Bits → ℕ → List ℕ → ℕ → ℕ → MoveRule → JumpParts → Type 0
IsFirstAnyJump bits ip code to place rule jump = IsAnyJumpOf bits ip code to place rule jump.form jump.bytes jump.relay

-- ---- the detour

-- the code of a function, of which instructions without a row are followed
abbrev pub any_code : Bits → ℕ → List ℕ → CodeBytes
any_code bits ip code = code_bytes_with follow.Unlisted bits ip code

-- each instruction of the trampoline stands at its place: there it has its bytes, as many as its form says
abbrev pub StandAllAt : Bits → ℕ → List AnyItem → ℕ → MoveRule → List ℕ → List ℕ → Type 0
StandAllAt bits ip items place rule bytes layout =
    (k : ℕ) → k < length (any_block_items rule bits ip items)
    → AnyStandsIn bits (any_block_items rule bits ip items) (any_trampoline_plan bits ip items place rule) place bytes layout k

-- the detour of a function: the first jump that reaches over what it takes, where nothing else enters, and the trampoline
pub record IsAnyDetour (bits : Bits) (ip : ℕ) (code : List ℕ) (to place : ℕ) (rule : MoveRule) (d : DetourState) : Type 0 where
  pub jump : JumpParts
  pub first : IsFirstAnyJump bits ip code to place rule jump
  pub items : List AnyItem
  pub are_taken : AreAnyTaken bits ip code (length jump.bytes) items
  pub whole : first_code_behind (outline bits items) ≡ None
  pub closed : IsNotEntered (any_code bits ip code) (outline bits items)
  pub moved : MovedLists
  pub block : IsAnyTrampoline bits ip items place rule moved
  pub form : d.form ≡ jump.form
  pub taken : d.taken ≡ taken_bytes (outline bits items)
  pub patch : d.patch ≡ patch_of jump.bytes (taken_bytes (outline bits items))
  pub trampoline : d.trampoline ≡ moved.bytes ++ relay_bytes jump.relay to
  pub parts : d.parts ≡ parts_of (goes_back rule bits (outline bits items)) place moved jump.relay
  pub starts : d.starts ≡ starts_of (outline bits items)
  pub places : d.places ≡ places_of (outline bits items) place moved
  pub call : d.call ≡ call_in rule bits (outline bits items)
  pub patch_read : IsPatchRead bits ip to jump.form jump.bytes jump.relay d.patch
  pub stand : StandAllAt bits ip items place rule moved.bytes block.layout
  pub relay_read : IsRelayRead to place (length moved.bytes) jump.relay d.trampoline

-- nothing is taken for the first jump that reaches, for this cause
abbrev pub IsAnyNotTaken : Bits → ℕ → List ℕ → ℕ → ℕ → MoveRule → DetourError → Type 0
IsAnyNotTaken bits ip code to place rule why =
    (jump : JumpParts) × (IsFirstAnyJump bits ip code to place rule jump × IsAnyTakenAnswer bits ip code (length jump.bytes) (Err why))

-- what is taken for it is entered, at first from an offset, to another
pub record IsAnyEntered (bits : Bits) (ip : ℕ) (code : List ℕ) (to place : ℕ) (rule : MoveRule) (from target : ℕ) : Type 0 where
  pub jump : JumpParts
  pub first : IsFirstAnyJump bits ip code to place rule jump
  pub items : List AnyItem
  pub are_taken : AreAnyTaken bits ip code (length jump.bytes) items
  pub whole : first_code_behind (outline bits items) ≡ None
  pub entry : IsFirstEntry (any_code bits ip code) (outline bits items) from target

-- what is taken for it is not entered, and not moved for this cause
pub record IsAnyNotMoved (bits : Bits) (ip : ℕ) (code : List ℕ) (to place : ℕ) (rule : MoveRule) (why : PlanError) : Type 0 where
  pub jump : JumpParts
  pub first : IsFirstAnyJump bits ip code to place rule jump
  pub items : List AnyItem
  pub are_taken : AreAnyTaken bits ip code (length jump.bytes) items
  pub whole : first_code_behind (outline bits items) ≡ None
  pub closed : IsNotEntered (any_code bits ip code) (outline bits items)
  pub refused : IsAnyPlanAnswer bits (any_block_items rule bits ip items) (any_trampoline_plan bits ip items place rule) (Err why)

-- the answer, by the addresses in the mode
abbrev pub IsAnyAnswerTo : Bits → ℕ → List ℕ → ℕ → ℕ → MoveRule → Result DetourState DetourError → Type 0
IsAnyAnswerTo bits ip code to place rule (Ok d) = IsAnyDetour bits ip code to place rule d
IsAnyAnswerTo bits ip code to place rule (Err (Entered from target)) = IsAnyEntered bits ip code to place rule from target
IsAnyAnswerTo bits ip code to place rule (Err (Wraps end)) = IsAnyNotMoved bits ip code to place rule (plan_error.Wraps end)
IsAnyAnswerTo bits ip code to place rule (Err (TooFar at target)) = IsAnyNotMoved bits ip code to place rule (plan_error.TooFar at target)
IsAnyAnswerTo bits ip code to place rule (Err Memory) = Unit {0}
IsAnyAnswerTo bits ip code to place rule (Err why) = IsAnyNotTaken bits ip code to place rule why

-- the answer: the address of the replacement is taken modulo 2 to the number of bits of the mode
abbrev pub IsAnyDetourAnswer : Bits → ℕ → List ℕ → ℕ → ℕ → StartTarget → Result DetourState DetourError → Type 0
IsAnyDetourAnswer bits ip code to place start answer = IsAnyAnswerTo bits ip code (modulo_width bits to) place (all_follow start) answer
