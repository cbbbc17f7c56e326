-- A detour through padding: a short jump over the function's first bytes goes to a near jump in the padding in front of it, which goes to the replacement.
use Rattle.std.specs.Prelude.{◌≡◌, ◌⊎◌, ℕ, ◌+◌, ◌-◌, ◌^◌, ◌<◌, ◌≤◌, Bool, true, false, List, [], ◌∷◌, ◌++◌, length, map, drop, min, Option, Some, None, IfSome, Result, Ok, Err}
use Rattle.std.specs.List.{list_all}
use Rattle.x86_values.specs.declared.Bits.{Bits}
use Rattle.x86_values.specs.declared.Bits.TheVariants.{B16, B64}
use Rattle.x86_values.specs.Wrapping.{modulo_width}
use Rattle.plain_spelling.specs.Values.{distance}
use Rattle.row_relation.specs.Spells.{Reading, Read}
use Rattle.opcode_rows.specs.Reading.{IsRead}
use Rattle.opcode_rows.specs.Sweep.{IsReadAt}
use Rattle.decoder.specs.declared.DecodeError.{DecodeError}
use Rattle.decoder.specs.Answer.{reading_of}
use Rattle.flow_graph.specs.Control.{code_bytes}
use Rattle.flow_graph.specs.declared.hook_sight.answers.Passage.{Passage}
use Rattle.flow_graph.specs.declared.hook_sight.answers.StartRule.TheVariants.{Closed}
use Rattle.flow_graph.specs.declared.hook_sight.answers.View.{View}
use Rattle.flow_graph.specs.HookSight.Entries.{part_of}
use Rattle.flow_graph.specs.HookSight.Views.{IsView}
use Rattle.move_goals.specs.BranchForms.Images.{skip}
use Rattle.move_goals.specs.declared.items.Placed.{Placed}
use Rattle.block_encoder.specs.declared.error.MoveError.{MoveError}
use Rattle.block_encoder.specs.declared.error.MoveError.TheVariants as move_error
use Rattle.block_encoder.specs.Moved.{MovedLists}
use Rattle.block_encoder.specs.ByPlan.{IsPlanAnswer}
use Rattle.detour.specs.declared.error.DetourError.{DetourError}
use Rattle.detour.specs.declared.error.DetourError.TheVariants as detour_error
use Rattle.detour.specs.declared.padding.PaddingError.{PaddingError}
use Rattle.detour.specs.declared.padding.PaddingError.TheVariants.{TooShort, NotPadding, Entered, Function, OutOfReach, Overlaps}
use Rattle.detour.specs.declared.parts.JumpForm.{JumpForm}
use Rattle.detour.specs.declared.parts.JumpForm.TheVariants.{Near, Relay, Absolute}
use Rattle.detour.specs.declared.rules.HookRules.{HookRules}
use Rattle.detour.specs.declared.rules.RuleError.{RuleError}
use Rattle.detour.specs.declared.rules.RuleError.TheVariants as rule_error
use Rattle.detour.specs.declared.rules.SeenDetour.{SeenDetour}
use Rattle.detour.specs.declared.start.MoveRule.{MoveRule}
use Rattle.detour.specs.Taken.{AreReadFrom, AreTaken, reading_of_item, is_padding, taken_bytes, first_code_behind}
use Rattle.detour.specs.Entries.{IsFirstEntry, IsNotEntered}
use Rattle.detour.specs.Starts.{starts_of, places_of}
use Rattle.detour.specs.Calls.{call_in}
use Rattle.detour.specs.Jumps.{IsNearJump, IsOutOfReach}
use Rattle.detour.specs.Trampoline.{IsTrampoline, goes_back, block_items, trampoline_plan}
use Rattle.detour.specs.ReadBack.{IsPatchRead, IsRelayRead, IsTrampolineRead}
use Rattle.detour.specs.Detours.{DetourState, IsTakenAnswer, patch_of, relay_bytes, relay_behind, parts_of}
use Rattle.detour.specs.Ranges.{overlaps}
use Rattle.detour.specs.Rules.{move_rule, IsAllowed, IsRuled}

-- ---- the two jumps

-- how many bytes the near jump of the mode has
abbrev pub near_len : Bits → ℕ
near_len B16 = 3
near_len _ = 5

-- the address so many bytes in front of the function
abbrev pub address_before : Bits → ℕ → ℕ → ℕ
address_before bits ip n = distance bits n ip

-- where the near jump stands: it ends at the function
abbrev pub jump_address : Bits → ℕ → ℕ
jump_address bits ip = address_before bits ip (near_len bits)

-- EB and how far it is from behind these two bytes to the near jump: that far below 256
abbrev pub short_jump : Bits → List ℕ
short_jump bits = 0xEB ∷ (0xFE - near_len bits) ∷ []

-- two bytes that are the short jump to an address
abbrev pub short_reading : Bits → ℕ → Reading
short_reading bits target = Read (record { instr = skip bits target; len = 2 })

-- what contracts see of a `PaddedDetour`
pub record PaddedState : Type 0 where
  pub near : List ℕ
  pub seen : SeenDetour

-- ---- the padding

-- its first `at` bytes are padding instructions, one behind another
abbrev pub IsPaddingTo : Bits → ℕ → List ℕ → ℕ → Type 0
IsPaddingTo bits base padding at =
    (items : List Placed)
    × ((AreReadFrom bits base padding 0 items × (taken_bytes items ≡ at)) × (list_all is_padding items ≡ true))

-- no instruction is read at an offset
abbrev pub IsNoItem : Bits → ℕ → List ℕ → ℕ → Type 0
IsNoItem bits base padding at = (error : DecodeError) × IsReadAt bits base at (drop at padding) (reading_of (Err error))

-- an instruction is, and it is no padding
abbrev pub IsOtherItem : Bits → ℕ → List ℕ → ℕ → Type 0
IsOtherItem bits base padding at =
    (p : Placed) × (IsReadAt bits base at (drop at padding) (reading_of_item p) × (is_padding p ≡ false))

-- at this offset no padding instruction begins, behind others
pub record IsNoPadding (bits : Bits) (base : ℕ) (padding : List ℕ) (at : ℕ) : Type 0 where
  pub before : IsPaddingTo bits base padding at
  pub within : at < length padding
  pub none : IsNoItem bits base padding at ⊎ IsOtherItem bits base padding at

-- the first such offset, or that all is padding
abbrev pub IsPaddingAnswer : Bits → ℕ → List ℕ → Option ℕ → Type 0
IsPaddingAnswer bits base padding None = IsPaddingTo bits base padding (length padding)
IsPaddingAnswer bits base padding (Some at) = IsNoPadding bits base padding at

-- ---- what is seen to go into the padding

-- the first byte of the function and its entries, counted from the first byte of the padding; one past every offset stays the last number of 32 bits
abbrev pub whole_entries : ℕ → List ℕ → List ℕ
whole_entries len entries = len ∷ map (λ entry. min (entry + len) (2 ^ 32 - 1)) entries

-- how control is first seen to go from the function into the padding, if it does; offsets count from the first byte of the padding
abbrev pub IsPaddingPassage : Bits → ℕ → List ℕ → List ℕ → List ℕ → Option Passage → Type 0
IsPaddingPassage bits ip padding code entries passage =
    (view : View)
    × (IsView (code_bytes bits (address_before bits ip (length padding)) (padding ++ code)) (whole_entries (length padding) entries)
    (part_of (length padding) [] Closed) view × (view.entered ≡ passage))

-- the padding has room for the near jump, is padding, and nothing that is seen goes into it
pub record IsFreePadding (bits : Bits) (ip : ℕ) (padding code entries : List ℕ) : Type 0 where
  pub room : near_len bits ≤ length padding
  pub all : IsPaddingTo bits (address_before bits ip (length padding)) padding (length padding)
  pub unseen : IsPaddingPassage bits ip padding code entries None

-- ---- what is taken and moved

-- the instructions that the short jump takes: nothing but padding stands behind their end, and nothing else enters them
pub record IsTakenShort (bits : Bits) (ip : ℕ) (code : List ℕ) (items : List Placed) : Type 0 where
  pub are_taken : AreTaken bits ip code 2 items
  pub whole : first_code_behind items ≡ None
  pub closed : IsNotEntered (code_bytes bits ip code) items

-- they are entered, at first from an offset, to another
pub record IsShortEntered (bits : Bits) (ip : ℕ) (code : List ℕ) (from target : ℕ) : Type 0 where
  pub items : List Placed
  pub are_taken : AreTaken bits ip code 2 items
  pub whole : first_code_behind items ≡ None
  pub entry : IsFirstEntry (code_bytes bits ip code) items from target

-- they are taken, or not for this cause
abbrev pub IsShortAnswer : Bits → ℕ → List ℕ → Result (List Placed) DetourError → Type 0
IsShortAnswer bits ip code (Ok items) = IsTakenShort bits ip code items
IsShortAnswer bits ip code (Err (detour_error.Entered from target)) = IsShortEntered bits ip code from target
IsShortAnswer bits ip code (Err why) = IsTakenAnswer bits ip code 2 (Err why)

-- they are not moved, for this cause
abbrev pub IsShortUnmoved : Bits → ℕ → List ℕ → ℕ → MoveRule → MoveError → Type 0
IsShortUnmoved bits ip code place rule why =
    (items : List Placed)
    × (IsTakenShort bits ip code items
    × IsPlanAnswer bits (block_items rule bits ip items) (trampoline_plan bits ip items place rule) (Err why))

-- ---- the near jump

-- a jump from the padding by this form: to the replacement, else to the relay
abbrev pub IsPaddingJump : Bits → ℕ → ℕ → Option ℕ → JumpForm → List ℕ → Option ℕ → Type 0
IsPaddingJump bits at to behind Near near relay = IsNearJump bits at to near × (relay ≡ None)
IsPaddingJump bits at to behind Relay near relay =
    ((bits ≡ B64) × IsOutOfReach bits at to)
    × ((address : ℕ) × (((behind ≡ Some address) × (relay ≡ Some address)) × IsNearJump bits at address near))
IsPaddingJump bits at to behind Absolute near relay = ⊥

-- neither is reached
abbrev pub IsNoJump : Bits → ℕ → ℕ → Option ℕ → Type 0
IsNoJump bits at to behind = ((bits ≡ B64) × IsOutOfReach bits at to) × IfSome behind (IsOutOfReach bits at)

-- ---- what is made

-- The near jump for the padding, and the detour: its patch is the short jump to that, and its trampoline that of the instructions that the short jump
-- takes. Both jumps are read where they stand, and so is the trampoline.
pub record IsPaddedMade (bits : Bits) (ip : ℕ) (code : List ℕ) (to place : ℕ) (rule : MoveRule) (near : List ℕ) (d : DetourState) : Type 0 where
  pub items : List Placed
  pub short : IsTakenShort bits ip code items
  pub moved : MovedLists
  pub block : IsTrampoline bits ip items place rule moved
  pub relay : Option ℕ
  pub jump : IsPaddingJump bits (jump_address bits ip) to (relay_behind place (length moved.bytes)) d.form near relay
  pub long : length near ≡ near_len bits
  pub taken : d.taken ≡ taken_bytes items
  pub patch : d.patch ≡ patch_of (short_jump bits) (taken_bytes items)
  pub trampoline : d.trampoline ≡ moved.bytes ++ relay_bytes relay to
  pub parts : d.parts ≡ parts_of (goes_back rule bits items) place moved relay
  pub starts : d.starts ≡ starts_of items
  pub places : d.places ≡ places_of items place moved
  pub call : d.call ≡ call_in rule bits items
  pub patch_read : IsRead bits ip d.patch (short_reading bits (jump_address bits ip))
  pub near_read : IsPatchRead bits (jump_address bits ip) to d.form near relay near
  pub trampoline_read : IsTrampolineRead bits ip items place rule block.layout
  pub relay_read : IsRelayRead to place (length moved.bytes) relay d.trampoline

-- what is taken is moved, and no near jump from the padding reaches the replacement or a relay behind it
abbrev pub IsPaddedOut : Bits → ℕ → List ℕ → ℕ → ℕ → MoveRule → Type 0
IsPaddedOut bits ip code to place rule =
    (items : List Placed)
    × (IsTakenShort bits ip code items
    × ((moved : MovedLists)
    × (IsTrampoline bits ip items place rule moved × IsNoJump bits (jump_address bits ip) to (relay_behind place (length moved.bytes)))))

-- nothing is made, for this cause
abbrev pub IsPaddedUnmade : Bits → ℕ → List ℕ → ℕ → ℕ → MoveRule → DetourError → Type 0
IsPaddedUnmade bits ip code to place rule (detour_error.Wraps end) = IsShortUnmoved bits ip code place rule (move_error.Wraps end)
IsPaddedUnmade bits ip code to place rule (detour_error.TooFar at target) = IsShortUnmoved bits ip code place rule (move_error.TooFar at target)
IsPaddedUnmade bits ip code to place rule why = IsShortAnswer bits ip code (Err why)

-- the trampoline would stand in the padding
abbrev pub lies_in_padding : Bits → ℕ → List ℕ → ℕ → DetourState → Bool
lies_in_padding bits ip padding place d =
    overlaps bits (address_before bits ip (length padding)) (length padding) place (length d.trampoline)

-- what is made, by the rules; the address of the replacement is taken modulo 2 to the number of bits of the mode
abbrev pub IsPaddedBy : Bits → ℕ → List ℕ → ℕ → ℕ → HookRules → List ℕ → DetourState → Type 0
IsPaddedBy bits ip code to place rules near d = IsPaddedMade bits ip code (modulo_width bits to) place (move_rule rules) near d

-- what is made is allowed, or not
abbrev pub IsPaddedRuled : Bits → ℕ → List ℕ → ℕ → ℕ → List ℕ → HookRules → Result SeenDetour RuleError → Type 0
IsPaddedRuled bits ip code to place entries rules ruled =
    (near : List ℕ) × ((d : DetourState) × (IsPaddedBy bits ip code to place rules near d × IsRuled bits ip code place entries rules d ruled))

-- ---- the answer

-- what is made is allowed, and its trampoline stands in the padding or apart from it
pub record IsPaddedAllowed (bits : Bits) (ip : ℕ) (padding code : List ℕ) (to place : ℕ) (entries : List ℕ) (rules : HookRules) (inside : Bool) (p : PaddedState) : Type 0 where
  pub made : IsPaddedBy bits ip code to place rules p.near p.seen.detour
  pub allowed : IsAllowed bits ip code place entries rules p.seen.detour p.seen.view
  pub stands : lies_in_padding bits ip padding place p.seen.detour ≡ inside

-- what the function gives, behind padding that is free
abbrev pub IsThrough : Bits → ℕ → List ℕ → List ℕ → ℕ → ℕ → List ℕ → HookRules → Result PaddedState PaddingError → Type 0
IsThrough bits ip padding code to place entries rules (Ok p) = IsPaddedAllowed bits ip padding code to place entries rules false p
IsThrough bits ip padding code to place entries rules (Err (Function (rule_error.Detour why))) =
    IsPaddedUnmade bits ip code (modulo_width bits to) place (move_rule rules) why
IsThrough bits ip padding code to place entries rules (Err (Function why)) = IsPaddedRuled bits ip code to place entries rules (Err why)
IsThrough bits ip padding code to place entries rules (Err OutOfReach) = IsPaddedOut bits ip code (modulo_width bits to) place (move_rule rules)
IsThrough bits ip padding code to place entries rules (Err Overlaps) =
    (p : PaddedState) × IsPaddedAllowed bits ip padding code to place entries rules true p
IsThrough bits ip padding code to place entries rules (Err why) = ⊥

-- The answer: the first cause that is there, of these: the padding is too short, is no padding, or is entered; the instructions under the short jump
-- cannot be taken or moved; no near jump reaches; the rules refuse; the trampoline would stand in the padding. That there is no detour for want of
-- memory can replace any of them.
abbrev pub IsPaddingDetour : Bits → ℕ → List ℕ → List ℕ → ℕ → ℕ → List ℕ → HookRules → Result PaddedState PaddingError → Type 0
IsPaddingDetour bits ip padding code to place entries rules (Ok p) =
    IsFreePadding bits ip padding code entries × IsThrough bits ip padding code to place entries rules (Ok p)
IsPaddingDetour bits ip padding code to place entries rules (Err (TooShort len need)) =
    ((len ≡ length padding) × (need ≡ near_len bits)) × (len < need)
IsPaddingDetour bits ip padding code to place entries rules (Err (NotPadding at)) =
    (near_len bits ≤ length padding) × IsNoPadding bits (address_before bits ip (length padding)) padding at
IsPaddingDetour bits ip padding code to place entries rules (Err (Entered from target)) =
    ((near_len bits ≤ length padding) × IsPaddingTo bits (address_before bits ip (length padding)) padding (length padding))
    × IsPaddingPassage bits ip padding code entries (Some (record { from = from; target = target }))
IsPaddingDetour bits ip padding code to place entries rules (Err (Function why)) =
    (why ≡ rule_error.Detour detour_error.Memory)
    ⊎ (IsFreePadding bits ip padding code entries × IsThrough bits ip padding code to place entries rules (Err (Function why)))
IsPaddingDetour bits ip padding code to place entries rules (Err OutOfReach) =
    IsFreePadding bits ip padding code entries × IsThrough bits ip padding code to place entries rules (Err OutOfReach)
IsPaddingDetour bits ip padding code to place entries rules (Err Overlaps) =
    IsFreePadding bits ip padding code entries × IsThrough bits ip padding code to place entries rules (Err Overlaps)
