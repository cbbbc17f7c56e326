-- How many bytes are enough for a trampoline at any place, for C.
use Rattle.std.specs.Prelude.{◌≡◌, ◌⊎◌, ℕ, ◌<◌, ◌≤◌, ℤ, pos, List, length, Option, Some, None, Result, Ok, Err}
use Rattle.x86_values.specs.declared.Bits.{Bits}
use Rattle.detour.specs.declared.lengths.TheConstants.{MAX_TRAMPOLINE}
use Rattle.detour.specs.declared.rules.HookRules.{HookRules}
use Rattle.detour.specs.Lengths.{IsLengthFor, IsEnough}
use Rattle.c_calls.specs.declared.refusal.Refusal.{Refusal}
use Rattle.c_calls.specs.declared.refusal.Refusal.TheVariants.{Mode, Start, TooLarge, Memory}
use Rattle.c_calls.specs.Refusals.{refusal_status}
use Rattle.c_calls.specs.Numbers.{bits_numbered}
use Rattle.c_calls.specs.Hooks.{start_numbered}
use Rattle.c_calls.specs.Ruled.{rules_numbered}

-- the length: it is enough for the trampoline of each detour by these rules, at every place, and at most the constant
pub record IsTrampolineLength (bits : Bits) (ip : ℕ) (code : List ℕ) (to : ℕ) (rules : HookRules) (n : ℕ) : Type 0 where
  pub few : length code ≤ 1048576
  pub exact : IsLengthFor bits ip code to rules n
  pub enough : IsEnough bits ip code to rules n
  pub short : n ≤ MAX_TRAMPOLINE

-- the length, or why there is none: more than 1,048,576 bytes, or no memory
abbrev pub IsLengthIn : Bits → ℕ → List ℕ → ℕ → HookRules → Result ℕ Refusal → Type 0
IsLengthIn bits ip code to rules (Ok n) = IsTrampolineLength bits ip code to rules n
IsLengthIn bits ip code to rules (Err why) = ((why ≡ TooLarge) × (1048576 < length code)) ⊎ ((why ≡ Memory) × (length code ≤ 1048576))

-- the same, where the numbers of the mode and of the rules name some
abbrev pub IsLengthBy : Option Bits → Option HookRules → ℕ → List ℕ → ℕ → Result ℕ Refusal → Type 0
IsLengthBy None rules ip code to answer = answer ≡ Err Mode
IsLengthBy (Some bits) None ip code to answer = answer ≡ Err Start
IsLengthBy (Some bits) (Some rules) ip code to answer = IsLengthIn bits ip code to rules answer

-- the length, or the number of the refusal
abbrev pub length_said : Result ℕ Refusal → ℤ
length_said (Ok n) = pos n
length_said (Err why) = refusal_status why

-- what the call says
pub record IsLengthCall (bits ip : ℕ) (code : List ℕ) (to start rules : ℕ) (said : ℤ) : Type 0 where
  pub answer : Result ℕ Refusal
  pub is : IsLengthBy (bits_numbered bits) (rules_numbered (start_numbered start) rules) ip code to answer
  pub said_is : said ≡ length_said answer
