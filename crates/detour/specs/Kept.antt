-- A detour that keeps an ENDBR at the function's start: the patch is written behind it, and the trampoline begins with it too.
use Rattle.std.specs.Prelude.{◌≡◌, ◌⊎◌, ℕ, ◌+◌, ◌-◌, ◌^◌, ◌<◌, ◌≤◌, Bool, true, false, if◌then◌else◌, List, [], ◌∷◌, ◌++◌, length, take, drop, map, bytes_eq, Option, Some, None, Result, Ok, Err}
use Rattle.x86_values.specs.declared.Bits.{Bits}
use Rattle.x86_values.specs.declared.Bits.TheVariants.{B16, B32, B64}
use Rattle.x86_values.specs.Wrapping.{modulo_width}
use Rattle.flow_graph.specs.Control.{code_bytes}
use Rattle.flow_graph.specs.declared.hook_sight.answers.Passage.{Passage}
use Rattle.flow_graph.specs.declared.hook_sight.answers.View.{View}
use Rattle.flow_graph.specs.HookSight.Entries.{part_of}
use Rattle.flow_graph.specs.HookSight.Views.{IsView}
use Rattle.detour.specs.declared.error.DetourError.TheVariants as detour_error
use Rattle.detour.specs.declared.kept.KeepError.{KeepError}
use Rattle.detour.specs.declared.kept.KeepError.TheVariants.{Head, Tail, Overlaps}
use Rattle.detour.specs.declared.rules.RuleError.{RuleError}
use Rattle.detour.specs.declared.rules.RuleError.TheVariants as rule_error
use Rattle.detour.specs.declared.rules.HookRules.{HookRules}
use Rattle.detour.specs.declared.rules.SeenDetour.{SeenDetour}
use Rattle.detour.specs.declared.start.StartTarget.{StartTarget}
use Rattle.detour.specs.Ranges.{overlaps}
use Rattle.detour.specs.Rules.{rule_of, IsRuledAnswer}

-- ---- the kept bytes

-- the code begins with the ENDBR of the mode: ENDBR64, ENDBR32; 16-bit mode has none
unfoldable pub has_endbr : Bits → List ℕ → Bool
has_endbr B16 code = false
has_endbr B32 code = bytes_eq (0xF3 ∷ 0x0F ∷ 0x1E ∷ 0xFB ∷ []) (take 4 code)
has_endbr B64 code = bytes_eq (0xF3 ∷ 0x0F ∷ 0x1E ∷ 0xFA ∷ []) (take 4 code)

-- how many first bytes of the function stay as they are
abbrev pub kept_len : Bits → List ℕ → ℕ
kept_len bits code = if has_endbr bits code then 4 else 0

-- what contracts see of a `KeptDetour`
pub record KeptState : Type 0 where
  pub kept : ℕ
  pub seen : SeenDetour
  pub trampoline : List ℕ

-- ---- the head: what is seen goes into the kept bytes

-- an entry there, as control from it to itself; else the first passage into them
abbrev pub head_passage : Option ℕ → Option Passage → Option Passage
head_passage None entered = entered
head_passage (Some entry) entered = Some (record { from = entry; target = entry })

-- how control is first seen to go into the four kept bytes of the whole function, if it does: behind the first of them, or to the first from behind
-- where the start is closed
abbrev pub IsHeadPassage : Bits → ℕ → List ℕ → List ℕ → StartTarget → Option Passage → Type 0
IsHeadPassage bits ip code entries start passage =
    (view : View)
    × (IsView (code_bytes bits ip code) entries (part_of 4 (0 ∷ []) (rule_of start)) view × (head_passage view.inside view.entered ≡ passage))

-- ---- the tail: the function without the kept bytes

-- entries, counted from the byte behind the kept ones; one of those counts as that byte
abbrev pub tail_entries : List ℕ → List ℕ
tail_entries entries = map (λ entry. entry - 4) entries

-- The detour of the tail, or why there is none. Its trampoline stands four bytes behind the place; where that is no address, the trampoline passes the
-- address space.
pub record IsTailAnswer (bits : Bits) (ip : ℕ) (code : List ℕ) (to place : ℕ) (entries : List ℕ) (rules : HookRules) (answer : Result SeenDetour RuleError) : Type 0 where
  pub fits : place + 4 < 2 ^ 64
      → IsRuledAnswer bits (modulo_width bits (ip + 4)) (drop 4 code) to (place + 4) (tail_entries entries) rules answer
  pub passes : 2 ^ 64 ≤ place + 4 → answer ≡ Err (rule_error.Detour (detour_error.Wraps (place + 4)))

-- ---- the answer

-- the trampoline: the kept bytes, and behind them that of the tail
abbrev pub kept_trampoline : List ℕ → SeenDetour → List ℕ
kept_trampoline code seen = take 4 code ++ seen.detour.trampoline

-- four bytes are kept, and the tail has this detour, whose trampoline with the kept bytes stands apart from the whole function
pub record IsKeptTail (bits : Bits) (ip : ℕ) (code : List ℕ) (to place : ℕ) (entries : List ℕ) (rules : HookRules) (k : KeptState) : Type 0 where
  pub kept : k.kept ≡ kept_len bits code
  pub tail : IsTailAnswer bits ip code to place entries rules (Ok k.seen)
  pub trampoline : k.trampoline ≡ kept_trampoline code k.seen
  pub apart : overlaps bits ip (length code) place (length k.trampoline) ≡ false

-- the tail has a detour, whose trampoline with the kept bytes would stand in the function
abbrev pub IsTailOverlapping : Bits → ℕ → List ℕ → ℕ → ℕ → List ℕ → HookRules → Type 0
IsTailOverlapping bits ip code to place entries rules =
    (seen : SeenDetour)
    × (IsTailAnswer bits ip code to place entries rules (Ok seen)
    × (overlaps bits ip (length code) place (length (kept_trampoline code seen)) ≡ true))

-- what the tail gives
abbrev pub IsBehind : Bits → ℕ → List ℕ → ℕ → ℕ → List ℕ → HookRules → Result KeptState KeepError → Type 0
IsBehind bits ip code to place entries rules (Ok k) = IsKeptTail bits ip code to place entries rules k
IsBehind bits ip code to place entries rules (Err (Tail why)) =
    (why ≡ rule_error.Detour detour_error.Memory) ⊎ IsTailAnswer bits ip code to place entries rules (Err why)
IsBehind bits ip code to place entries rules (Err Overlaps) = IsTailOverlapping bits ip code to place entries rules
IsBehind bits ip code to place entries rules (Err (Head from target)) = ⊥

-- The answer, where the code begins with an ENDBR or not. If it does, the first cause that is there, of these: the head is entered; the tail has no
-- detour; the trampoline would stand in the function. No detour for want of memory can replace any of them.
abbrev pub IsKeptBy : Bool → Bits → ℕ → List ℕ → ℕ → ℕ → List ℕ → HookRules → Result KeptState KeepError → Type 0
IsKeptBy true bits ip code to place entries rules (Ok k) =
    IsHeadPassage bits ip code entries rules.start None × IsBehind bits ip code to place entries rules (Ok k)
IsKeptBy true bits ip code to place entries rules (Err (Head from target)) =
    IsHeadPassage bits ip code entries rules.start (Some (record { from = from; target = target }))
IsKeptBy true bits ip code to place entries rules (Err (Tail why)) =
    (why ≡ rule_error.Detour detour_error.Memory)
    ⊎ (IsHeadPassage bits ip code entries rules.start None × IsTailAnswer bits ip code to place entries rules (Err why))
IsKeptBy true bits ip code to place entries rules (Err Overlaps) =
    IsHeadPassage bits ip code entries rules.start None × IsTailOverlapping bits ip code to place entries rules
IsKeptBy false bits ip code to place entries rules (Ok k) =
    ((k.kept ≡ kept_len bits code) × (k.trampoline ≡ k.seen.detour.trampoline)) × IsRuledAnswer bits ip code to place entries rules (Ok k.seen)
IsKeptBy false bits ip code to place entries rules (Err (Tail why)) = IsRuledAnswer bits ip code to place entries rules (Err why)
IsKeptBy false bits ip code to place entries rules (Err (Head from target)) = ⊥
IsKeptBy false bits ip code to place entries rules (Err Overlaps) = ⊥

-- the answer
abbrev pub IsKeptAnswer : Bits → ℕ → List ℕ → ℕ → ℕ → List ℕ → HookRules → Result KeptState KeepError → Type 0
IsKeptAnswer bits ip code to place entries rules answer = IsKeptBy (has_endbr bits code) bits ip code to place entries rules answer
