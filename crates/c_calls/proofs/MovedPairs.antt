-- A detour by rules has a place in the trampoline for each moved instruction.
use Rattle.std.proofs.Common.{◌≡◌, ◌∙◌, ℕ, List, length, Option, Some, None, sym, ap}
use Rattle.std.specs.Prelude.{IfOk, Result, Ok, Err}
use Rattle.std.proofs.lemmas.List.FromFn.{length-map-range_with_len}
use Rattle.x86_values.specs.declared.Bits.{Bits}
use Rattle.x86_values.specs.Wrapping.{modulo_width}
use Rattle.move_goals.specs.declared.items.Placed.{Placed}
use Rattle.block_encoder.specs.Moved.{MovedLists}
use Rattle.detour.specs.declared.rules.HookRules.{HookRules}
use Rattle.detour.specs.declared.rules.SeenDetour.{SeenDetour}
use Rattle.detour.specs.Detours.{IsDetour, DetourState}
use Rattle.detour.specs.Rules.{move_rule}
use Rattle.detour.specs.Taken.{offset_at, moved_count}
use Rattle.detour.specs.Starts.{starts_to, places_to, starts_of, places_of, place_at}
use Rattle.c_calls.specs.declared.ruled.RuledRefusal.{RuledRefusal}
use Rattle.c_calls.specs.Ruled.{IsRuledAnswerBy}

-- the two lists have one element for each moved instruction
pub same-length : (items : List Placed) (place : ℕ) (m : MovedLists)
    → length (places_of items place m) ≡ length (starts_of items)
unfolding starts_to places_to
same-length items place m =
    length-map-range_with_len (place_at m.starts place) 0 (moved_count items)
    ∙ sym (length-map-range_with_len (offset_at items) 0 (moved_count items))

-- so they do in a detour
pub detour-pairs : (bits : Bits) (ip : ℕ) (code : List ℕ) (to place : ℕ) (rules : HookRules) (d : DetourState)
    → IsDetour bits ip code to place (move_rule rules) d
    → length d.places ≡ length d.starts
detour-pairs bits ip code to place rules d is =
    ap length is.places ∙ (same-length is.items place is.moved ∙ sym (ap length is.starts))

-- **there are as many places as starts**
pub moved-pairs : (bits : Option Bits) (rules : Option HookRules) (ip : ℕ) (code : List ℕ) (to place : ℕ) (entries : List ℕ)
    (answer : Result SeenDetour RuledRefusal) → IsRuledAnswerBy bits rules ip code to place entries answer
    → IfOk answer (λ seen. length seen.detour.places ≡ length seen.detour.starts)
moved-pairs bits rules ip code to place entries (Err e) h = tt
moved-pairs None rules ip code to place entries (Ok seen) h = absurd cc
moved-pairs (Some bits) None ip code to place entries (Ok seen) h = absurd cc
moved-pairs (Some bits) (Some rules) ip code to place entries (Ok seen) (few, is) =
    detour-pairs bits ip code (modulo_width bits to) place rules seen.detour is.0
