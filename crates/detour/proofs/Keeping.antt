-- What the parts of a detour that keeps an ENDBR give together.
use Rattle.std.proofs.Common.{◌≡◌, ℕ, ◌+◌, ◌^◌, ◌<◌, ◌≤◌, true, inl, inr, List, [], ◌∷◌, length, take, drop, None, Result, Ok, Err, refl, ap, arith}
use Rattle.std.specs.Prelude.{bytes_eq}
use Rattle.std.proofs.lemmas.List.{length-take}
use Rattle.std.proofs.lemmas.Slice.Eq.{bytes_eq-Decides}
use Rattle.x86_values.specs.declared.Bits.{Bits}
use Rattle.x86_values.specs.declared.Bits.TheVariants.{B16, B32, B64}
use Rattle.x86_values.specs.Wrapping.{modulo_width}
use Rattle.detour.specs.declared.error.DetourError.TheVariants as detour_error
use Rattle.detour.specs.declared.kept.KeepError.{KeepError}
use Rattle.detour.specs.declared.kept.KeepError.TheVariants.{Head, Tail, Overlaps}
use Rattle.detour.specs.declared.rules.RuleError.{RuleError}
use Rattle.detour.specs.declared.rules.RuleError.TheVariants as rule_error
use Rattle.detour.specs.declared.rules.HookRules.{HookRules}
use Rattle.detour.specs.declared.rules.SeenDetour.{SeenDetour}
use Rattle.detour.specs.Rules.{IsRuledAnswer}
use Rattle.detour.specs.Kept.{has_endbr, KeptState, tail_entries, IsHeadPassage, IsTailAnswer, IsBehind, IsKeptBy}

four_long : (word code : List ℕ) → length word ≡ 4 → bytes_eq word (take 4 code) ≡ true → 4 ≤ length code
four_long word code four same =
    let e = ap length ((bytes_eq-Decides word (take 4 code)).0 same) in
    let t = length-take 4 code in
    omega (arith, e, t, four)

-- code that begins with an ENDBR has four bytes
pub endbr_long : (bits : Bits) (code : List ℕ) → has_endbr bits code ≡ true → 4 ≤ length code
unfolding has_endbr
endbr_long B16 code e = absurd (cc)
endbr_long B32 code e = four_long (0xF3 ∷ 0x0F ∷ 0x1E ∷ 0xFB ∷ []) code refl e
endbr_long B64 code e = four_long (0xF3 ∷ 0x0F ∷ 0x1E ∷ 0xFA ∷ []) code refl e

module _ (bits : Bits) (ip : ℕ) (code : List ℕ) (to place : ℕ) (entries : List ℕ) (rules : HookRules) where
  -- the tail has its answer where its trampoline has an address
  pub tail_fits : (answer : Result SeenDetour RuleError) → place + 4 < 2 ^ 64
      → IsRuledAnswer bits (modulo_width bits (ip + 4)) (drop 4 code) to (place + 4) (tail_entries entries) rules answer
      → IsTailAnswer bits ip code to place entries rules answer
  tail_fits answer below h = record { fits = λ _. h; passes = λ over. absurd (omega (arith, below, over)) }

  -- else it is refused
  pub tail_passes : (end : ℕ) → end ≡ place + 4 → 2 ^ 64 ≤ place + 4
      → IsTailAnswer bits ip code to place entries rules (Err (rule_error.Detour (detour_error.Wraps end)))
  tail_passes end is over = record {
    fits = λ below. absurd (omega (arith, below, over));
    passes = λ _. ap (λ (n : ℕ). Err (rule_error.Detour (detour_error.Wraps n))) is;
  }

  -- **what the tail gives is the answer where nothing goes into the head**
  pub kept_answer : IsHeadPassage bits ip code entries rules.start None → (r : Result KeptState KeepError)
      → IsBehind bits ip code to place entries rules r → IsKeptBy true bits ip code to place entries rules r
  kept_answer clear (Ok k) h = (clear, h)
  kept_answer clear (Err (Head from target)) h = absurd h
  kept_answer clear (Err (Tail why)) h = elim h [ inl lost ↦ inl lost | inr tail ↦ inr (clear, tail) ]
  kept_answer clear (Err Overlaps) h = (clear, h)
