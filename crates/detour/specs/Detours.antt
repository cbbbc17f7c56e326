-- Detours: the jump that is chosen, what is written over the function, the trampoline, and when there is no detour.
use Rattle.std.specs.Prelude.{◌≡◌, ℕ, ◌+◌, ◌-◌, ◌*◌, ◌^◌, nat_le, nat_lt, Bool, false, is_some, if◌then◌else◌, List, [], ◌++◌, length, replicate, slice_index_or, Option, Some, None, IfSome, Result, Ok, Err}
use Rattle.x86_values.specs.declared.Bits.{Bits}
use Rattle.x86_values.specs.declared.Bits.TheVariants.{B64}
use Rattle.x86_values.specs.Wrapping.{modulo_width}
use Rattle.flow_graph.specs.Control.{code_bytes}
use Rattle.move_goals.specs.declared.items.Placed.{Placed}
use Rattle.block_encoder.specs.declared.error.MoveError.{MoveError}
use Rattle.block_encoder.specs.declared.error.MoveError.TheVariants as move_error
use Rattle.block_encoder.specs.Moved.{MovedLists}
use Rattle.block_encoder.specs.ByPlan.{IsPlanAnswer}
use Rattle.detour.specs.declared.error.DetourError.{DetourError}
use Rattle.detour.specs.declared.error.DetourError.TheVariants.{Memory, BadCode, TooSmall, Ends, Entered, Wraps, TooFar}
use Rattle.detour.specs.declared.parts.JumpForm.{JumpForm}
use Rattle.detour.specs.declared.parts.JumpForm.TheVariants.{Near, Relay, Absolute}
use Rattle.detour.specs.declared.parts.Parts.{Parts}
use Rattle.detour.specs.declared.start.StartTarget.{StartTarget}
use Rattle.detour.specs.declared.start.MoveRule.{MoveRule}
use Rattle.detour.specs.Taken.{AreTaken, IsBadCode, IsTooSmall, IsCodeBehind, taken_bytes, first_code_behind}
use Rattle.detour.specs.Starts.{starts_of, places_of}
use Rattle.detour.specs.Calls.{call_in}
use Rattle.detour.specs.Jumps.{IsNearJump, IsOutOfReach, absolute_jump}
use Rattle.detour.specs.Entries.{IsFirstEntry, IsNotEntered}
use Rattle.detour.specs.Trampoline.{IsTrampoline, goes_back, block_items, trampoline_plan}
use Rattle.detour.specs.ReadBack.{IsPatchRead, IsRelayRead, IsTrampolineRead}

-- ---- what is taken

-- what is taken for a jump of so many bytes: instructions behind whose end nothing but padding stands; else the first cause that there are none
abbrev pub IsTakenAnswer : Bits → ℕ → List ℕ → ℕ → Result (List Placed) DetourError → Type 0
IsTakenAnswer bits ip code need (Ok items) = AreTaken bits ip code need items × (first_code_behind items ≡ None)
IsTakenAnswer bits ip code need (Err (BadCode at error)) = IsBadCode bits ip code need at error
IsTakenAnswer bits ip code need (Err (TooSmall len wanted)) = IsTooSmall bits ip code len need × (wanted ≡ need)
IsTakenAnswer bits ip code need (Err (Ends at)) = (items : List Placed) × (AreTaken bits ip code need items × IsCodeBehind items at)
IsTakenAnswer bits ip code need (Err Memory) = Unit {0}
IsTakenAnswer bits ip code need (Err why) = ⊥

-- ---- the relay

-- the address behind so many bytes at a place, where a relay ends in the address space of 64-bit mode
unfoldable pub relay_behind : ℕ → ℕ → Option ℕ
relay_behind place len = if nat_le (place + len + 14) (2 ^ 64) then Some (place + len) else None

-- the relay of a trampoline, if there is one
abbrev pub IsRelayOf : ℕ → Result MovedLists MoveError → Option ℕ → Type 0
IsRelayOf place (Ok m) relay = relay ≡ relay_behind place (length m.bytes)
IsRelayOf place (Err move_error.Memory) relay = ⊥
IsRelayOf place (Err why) relay = relay ≡ None

-- the relay of what is taken, if there is one
abbrev pub IsRelayBehind : Bits → ℕ → ℕ → MoveRule → Result (List Placed) DetourError → Option ℕ → Type 0
IsRelayBehind bits ip place rule (Ok items) relay =
    (moved : Result MovedLists MoveError)
    × (IsPlanAnswer bits (block_items rule bits ip items) (trampoline_plan bits ip items place rule) moved × IsRelayOf place moved relay)
IsRelayBehind bits ip place rule (Err Memory) relay = ⊥
IsRelayBehind bits ip place rule (Err why) relay = relay ≡ None

-- the address of the relay behind the trampoline of what a near jump of 5 bytes takes, if there is one
abbrev pub IsRelay : Bits → ℕ → List ℕ → ℕ → MoveRule → Option ℕ → Type 0
IsRelay bits ip code place rule relay =
    (taken : Result (List Placed) DetourError) × (IsTakenAnswer bits ip code 5 taken × IsRelayBehind bits ip place rule taken relay)

-- ---- the jump

-- a jump: its form, its bytes, and the address of its relay
pub record JumpParts : Type 0 where
  pub form : JumpForm
  pub bytes : List ℕ
  pub relay : Option ℕ

-- a jump of a form from the function to the replacement
abbrev pub IsJumpOf : Bits → ℕ → List ℕ → ℕ → ℕ → MoveRule → JumpForm → List ℕ → Option ℕ → Type 0
IsJumpOf bits ip code to place rule Near bytes relay = IsNearJump bits ip to bytes × (relay ≡ None)
IsJumpOf bits ip code to place rule Relay bytes relay =
    ((bits ≡ B64) × IsOutOfReach bits ip to)
    × ((address : ℕ) × ((relay ≡ Some address) × (IsRelay bits ip code place rule (Some address) × IsNearJump bits ip address bytes)))
IsJumpOf bits ip code to place rule Absolute bytes relay =
    ((bits ≡ B64) × IsOutOfReach bits ip to)
    × (((tried : Option ℕ) × (IsRelay bits ip code place rule tried × IfSome tried (IsOutOfReach bits ip)))
    × ((bytes ≡ absolute_jump to) × (relay ≡ None)))

-- the first of the three forms that reaches
abbrev pub IsFirstJump : Bits → ℕ → List ℕ → ℕ → ℕ → MoveRule → JumpParts → Type 0
IsFirstJump bits ip code to place rule jump = IsJumpOf bits ip code to place rule jump.form jump.bytes jump.relay

-- ---- the detour

-- what contracts see of a `Detour`
pub record DetourState : Type 0 where
  pub form : JumpForm
  pub taken : ℕ
  pub parts : Parts
  pub patch : List ℕ
  pub trampoline : List ℕ
  pub starts : List ℕ
  pub places : List ℕ
  pub call : Option ℕ

-- the jump, and INT3 up to the end of what is taken
unfoldable pub patch_of : List ℕ → ℕ → List ℕ
patch_of jump taken = jump ++ replicate (taken - length jump) 0xCC

-- the relay is the jump through the address behind it
abbrev pub relay_bytes : Option ℕ → ℕ → List ℕ
relay_bytes None to = []
relay_bytes (Some address) to = absolute_jump to

-- where the parts of the trampoline stand: the jump back, if there is one, is the last instruction of the block, the slots are its last bytes, and the
-- relay is behind it
unfoldable pub parts_of : Bool → ℕ → MovedLists → Option ℕ → Parts
parts_of back place m relay = record {
  jump_back = if back then Some (slice_index_or m.starts (length m.starts - 1) 0 - place) else None;
  slots = if nat_lt 0 (length m.slots) then Some (length m.bytes - 8 * length m.slots) else None;
  relay = if is_some relay then Some (length m.bytes) else None;
}

-- the detour of a function: the first jump that reaches over what it takes, where nothing else enters, and the trampoline
pub record IsDetour (bits : Bits) (ip : ℕ) (code : List ℕ) (to place : ℕ) (rule : MoveRule) (d : DetourState) : Type 0 where
  pub jump : JumpParts
  pub first : IsFirstJump bits ip code to place rule jump
  pub items : List Placed
  pub are_taken : AreTaken bits ip code (length jump.bytes) items
  pub whole : first_code_behind items ≡ None
  pub closed : IsNotEntered (code_bytes bits ip code) items
  pub moved : MovedLists
  pub block : IsTrampoline bits ip items place rule moved
  pub form : d.form ≡ jump.form
  pub taken : d.taken ≡ taken_bytes items
  pub patch : d.patch ≡ patch_of jump.bytes (taken_bytes items)
  pub trampoline : d.trampoline ≡ moved.bytes ++ relay_bytes jump.relay to
  pub parts : d.parts ≡ parts_of (goes_back rule bits items) place moved jump.relay
  pub starts : d.starts ≡ starts_of items
  pub places : d.places ≡ places_of items place moved
  pub call : d.call ≡ call_in rule bits items
  pub patch_read : IsPatchRead bits ip to jump.form jump.bytes jump.relay d.patch
  pub trampoline_read : IsTrampolineRead bits ip items place rule block.layout
  pub relay_read : IsRelayRead to place (length moved.bytes) jump.relay d.trampoline

-- nothing is taken for the first jump that reaches, for this cause
abbrev pub IsNotTaken : Bits → ℕ → List ℕ → ℕ → ℕ → MoveRule → DetourError → Type 0
IsNotTaken bits ip code to place rule why =
    (jump : JumpParts) × (IsFirstJump bits ip code to place rule jump × IsTakenAnswer bits ip code (length jump.bytes) (Err why))

-- what is taken for it is entered, at first from an offset, to another
pub record IsEntered (bits : Bits) (ip : ℕ) (code : List ℕ) (to place : ℕ) (rule : MoveRule) (from target : ℕ) : Type 0 where
  pub jump : JumpParts
  pub first : IsFirstJump bits ip code to place rule jump
  pub items : List Placed
  pub are_taken : AreTaken bits ip code (length jump.bytes) items
  pub whole : first_code_behind items ≡ None
  pub entry : IsFirstEntry (code_bytes bits ip code) items from target

-- what is taken for it is not entered, and not moved for this cause
pub record IsNotMoved (bits : Bits) (ip : ℕ) (code : List ℕ) (to place : ℕ) (rule : MoveRule) (why : MoveError) : Type 0 where
  pub jump : JumpParts
  pub first : IsFirstJump bits ip code to place rule jump
  pub items : List Placed
  pub are_taken : AreTaken bits ip code (length jump.bytes) items
  pub whole : first_code_behind items ≡ None
  pub closed : IsNotEntered (code_bytes bits ip code) items
  pub refused : IsPlanAnswer bits (block_items rule bits ip items) (trampoline_plan bits ip items place rule) (Err why)

-- the answer, by the addresses in the mode
abbrev pub IsAnswerTo : Bits → ℕ → List ℕ → ℕ → ℕ → MoveRule → Result DetourState DetourError → Type 0
IsAnswerTo bits ip code to place rule (Ok d) = IsDetour bits ip code to place rule d
IsAnswerTo bits ip code to place rule (Err (Entered from target)) = IsEntered bits ip code to place rule from target
IsAnswerTo bits ip code to place rule (Err (Wraps end)) = IsNotMoved bits ip code to place rule (move_error.Wraps end)
IsAnswerTo bits ip code to place rule (Err (TooFar at target)) = IsNotMoved bits ip code to place rule (move_error.TooFar at target)
IsAnswerTo bits ip code to place rule (Err Memory) = Unit {0}
IsAnswerTo bits ip code to place rule (Err why) = IsNotTaken bits ip code to place rule why

-- the rule: what is asked for the start of the function; every other target follows a moved instruction; a call pushes what it pushes
abbrev pub all_follow : StartTarget → MoveRule
all_follow start = record { start = start; rip_stays = false; returns = false }

-- the answer: the address of the replacement is taken modulo 2 to the number of bits of the mode
abbrev pub IsDetourAnswer : Bits → ℕ → List ℕ → ℕ → ℕ → StartTarget → Result DetourState DetourError → Type 0
IsDetourAnswer bits ip code to place start answer = IsAnswerTo bits ip code (modulo_width bits to) place (all_follow start) answer
