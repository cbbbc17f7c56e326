-- A detour that keeps an ENDBR, or goes through padding, has a place in the trampoline for each moved instruction.
use Rattle.std.proofs.Common.{◌≡◌, ℕ, ◌+◌, ◌^◌, inl, inr, Bool, true, false, List, length, Option, Some, None, drop, ap, sym, ◌∙◌}
use Rattle.std.specs.Prelude.{IfOk, Result, Ok, Err, nat_lt}
use Rattle.std.proofs.lemmas.Bool.{cases_Bool, ltb-true, ltb-false}
use Rattle.x86_values.specs.declared.Bits.{Bits}
use Rattle.x86_values.specs.Wrapping.{modulo_width}
use Rattle.detour.specs.declared.rules.HookRules.{HookRules}
use Rattle.detour.specs.declared.rules.RuleError.{RuleError}
use Rattle.detour.specs.declared.rules.SeenDetour.{SeenDetour}
use Rattle.detour.specs.Rules.{IsRuledAnswer}
use Rattle.detour.specs.Kept.{KeptState, has_endbr, tail_entries, IsTailAnswer, IsKeptBy}
use Rattle.detour.specs.Padding.{PaddedState}
use Rattle.c_calls.specs.declared.kept.KeptRefusal.{KeptRefusal}
use Rattle.c_calls.specs.Kept.{IsKeptAnswerBy}
use Rattle.c_calls.specs.declared.padded.PaddedRefusal.{PaddedRefusal}
use Rattle.c_calls.specs.Padded.{IsPaddedAnswerBy}
use Rattle.c_calls.proofs.MovedPairs.{same-length, detour-pairs}

-- a detour by rules has
seen-pairs : (bits : Bits) (ip : ℕ) (code : List ℕ) (to place : ℕ) (entries : List ℕ) (rules : HookRules) (seen : SeenDetour)
    → IsRuledAnswer bits ip code to place entries rules (Ok seen) → length seen.detour.places ≡ length seen.detour.starts
seen-pairs bits ip code to place entries rules seen is = detour-pairs bits ip code (modulo_width bits to) place rules seen.detour is.0

never : (seen : SeenDetour) (e : RuleError) → Ok seen ≡ Err e → ⊥
never seen e h = cc

-- so has that of the tail, which there is only where its place is an address
tail-pairs : (bits : Bits) (ip : ℕ) (code : List ℕ) (to place : ℕ) (entries : List ℕ) (rules : HookRules) (seen : SeenDetour)
    → IsTailAnswer bits ip code to place entries rules (Ok seen) → length seen.detour.places ≡ length seen.detour.starts
tail-pairs bits ip code to place entries rules seen tail =
    elim (cases_Bool (nat_lt (place + 4) (2 ^ 64))) [
      | inl fits ↦ seen-pairs bits (modulo_width bits (ip + 4)) (drop 4 code) to (place + 4) (tail_entries entries) rules seen
          (tail.fits (ltb-true (place + 4) (2 ^ 64) fits))
      | inr passes ↦ absurd (never seen _ (tail.passes (ltb-false (place + 4) (2 ^ 64) passes)))
    ]

by-pairs : (kept : Bool) (bits : Bits) (ip : ℕ) (code : List ℕ) (to place : ℕ) (entries : List ℕ) (rules : HookRules) (made : KeptState)
    → IsKeptBy kept bits ip code to place entries rules (Ok made) → length made.seen.detour.places ≡ length made.seen.detour.starts
by-pairs true bits ip code to place entries rules made is = tail-pairs bits ip code to place entries rules made.seen is.1.tail
by-pairs false bits ip code to place entries rules made is = seen-pairs bits ip code to place entries rules made.seen is.1

-- **there are as many places as starts**
pub kept-pairs : (bits : Option Bits) (rules : Option HookRules) (ip : ℕ) (code : List ℕ) (to place : ℕ) (entries : List ℕ)
    (answer : Result KeptState KeptRefusal) → IsKeptAnswerBy bits rules ip code to place entries answer
    → IfOk answer (λ made. length made.seen.detour.places ≡ length made.seen.detour.starts)
kept-pairs bits rules ip code to place entries (Err e) h = tt
kept-pairs None rules ip code to place entries (Ok made) h = absurd cc
kept-pairs (Some bits) None ip code to place entries (Ok made) h = absurd cc
kept-pairs (Some bits) (Some rules) ip code to place entries (Ok made) (few, is) =
    by-pairs (has_endbr bits code) bits ip code to place entries rules made is

-- ---- through padding

-- a detour through padding has as many places as starts
pub padded-pairs : (bits : Option Bits) (rules : Option HookRules) (ip : ℕ) (padding code : List ℕ) (to place : ℕ) (entries : List ℕ)
    (answer : Result PaddedState PaddedRefusal) → IsPaddedAnswerBy bits rules ip padding code to place entries answer
    → IfOk answer (λ made. length made.seen.detour.places ≡ length made.seen.detour.starts)
padded-pairs bits rules ip padding code to place entries (Err e) h = tt
padded-pairs None rules ip padding code to place entries (Ok made) h = absurd cc
padded-pairs (Some bits) None ip padding code to place entries (Ok made) h = absurd cc
padded-pairs (Some bits) (Some rules) ip padding code to place entries (Ok made) h =
    let is = h.1.1.made in ap length is.places ∙ (same-length is.items place is.moved ∙ sym (ap length is.starts))
