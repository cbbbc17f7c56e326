-- How long a trampoline may become, before its place is known.
use Rattle.std.specs.Prelude.{◌≡◌, ◌⊎◌, ℕ, ◌+◌, ◌*◌, ◌≤◌, ◌==◌, max, Bool, if◌then◌else◌, List, [], ◌∷◌, length, sum_by, count_by, Option, Some, None, unwrap_or, Result, Ok, Err}
use Rattle.std.specs.List.{list_any}
use Rattle.x86_values.specs.declared.Bits.{Bits}
use Rattle.x86_values.specs.Wrapping.{modulo_width}
use Rattle.branch_sizes.specs.declared.plan.Choice.{Choice}
use Rattle.branch_sizes.specs.MoveLayout.Laid.{has_far_form}
use Rattle.move_goals.specs.BranchForms.Choices.{choices_of}
use Rattle.move_goals.specs.declared.items.Placed.{Placed}
use Rattle.detour.specs.declared.error.DetourError.{DetourError}
use Rattle.detour.specs.declared.error.DetourError.TheVariants.{Memory}
use Rattle.detour.specs.declared.rules.HookRules.{HookRules}
use Rattle.detour.specs.declared.start.StartTarget.{StartTarget}
use Rattle.detour.specs.declared.start.MoveRule.{MoveRule}
use Rattle.detour.specs.Jumps.{IsNearJump, IsOutOfReach}
use Rattle.detour.specs.Trampoline.{block_items}
use Rattle.detour.specs.Detours.{DetourState, IsTakenAnswer, IsAnswerTo, IsDetourAnswer}
use Rattle.detour.specs.Rules.{move_rule, IsMade}

-- ---- a block at any place

-- the most bytes of an image that takes one of some forms
abbrev pub greatest_length : List Choice → ℕ
greatest_length [] = 0
greatest_length (c ∷ cs) = max c.len (greatest_length cs)

-- one of the forms goes through a slot
abbrev pub may_be_far : List Choice → Bool
may_be_far cs = list_any (λ c. has_far_form c.form) cs

-- the most bytes of the images of some instructions
abbrev pub images_length : Bits → List Placed → ℕ
images_length bits items = sum_by (λ p. greatest_length (choices_of bits p.instr)) items

-- how many of them may need a slot
abbrev pub slots_count : Bits → List Placed → ℕ
slots_count bits items = count_by (λ p. may_be_far (choices_of bits p.instr)) items

-- the most bytes of a gap and so many slots of 8 bytes: the gap goes up to a multiple of 8, and there is none without a slot
abbrev pub slots_length : ℕ → ℕ
slots_length n = if n == 0 then 0 else 7 + 8 * n

-- the most bytes of the block of some instructions: each image in its longest form, a gap, and a slot for each that may need one
unfoldable pub block_length : Bits → List Placed → ℕ
block_length bits items = images_length bits items + slots_length (slots_count bits items)

-- ---- the block of what is taken

-- the most bytes of the block of what is taken; none where nothing is
abbrev pub IsLengthOf : MoveRule → Bits → ℕ → Result (List Placed) DetourError → Option ℕ → Type 0
IsLengthOf rule bits ip (Ok items) len = len ≡ Some (block_length bits (block_items rule bits ip items))
IsLengthOf rule bits ip (Err Memory) len = ⊥
IsLengthOf rule bits ip (Err why) len = len ≡ None

-- the same for what a jump of so many bytes takes
abbrev pub IsTakenLength : Bits → ℕ → List ℕ → ℕ → MoveRule → Option ℕ → Type 0
IsTakenLength bits ip code need rule len =
    (taken : Result (List Placed) DetourError) × (IsTakenAnswer bits ip code need taken × IsLengthOf rule bits ip taken len)

-- with a relay behind the block, if there is one
abbrev pub with_relay : Option ℕ → ℕ
with_relay None = 0
with_relay (Some n) = n + 14

-- ---- the trampoline

-- the near jump reaches: the length for what it takes, 0 where it takes nothing
pub record IsNearLength (bits : Bits) (ip : ℕ) (code : List ℕ) (to : ℕ) (rule : MoveRule) (n : ℕ) : Type 0 where
  pub bytes : List ℕ
  pub jump : IsNearJump bits ip to bytes
  pub len : Option ℕ
  pub is_len : IsTakenLength bits ip code (length bytes) rule len
  pub value : n ≡ unwrap_or len 0

-- it does not: the larger one of the length for what a near jump takes, with the relay that it goes to, and of that for what the jump of 14 bytes takes
pub record IsFarLength (bits : Bits) (ip : ℕ) (code : List ℕ) (to : ℕ) (rule : MoveRule) (n : ℕ) : Type 0 where
  pub unreached : IsOutOfReach bits ip to
  pub near : Option ℕ
  pub is_near : IsTakenLength bits ip code 5 rule near
  pub far : Option ℕ
  pub is_far : IsTakenLength bits ip code 14 rule far
  pub value : n ≡ max (with_relay near) (unwrap_or far 0)

-- the length of a trampoline at any place
abbrev pub IsDetourLength : Bits → ℕ → List ℕ → ℕ → MoveRule → ℕ → Type 0
IsDetourLength bits ip code to rule n = IsNearLength bits ip code to rule n ⊎ IsFarLength bits ip code to rule n

-- the same by the rules of a detour; the address of the replacement is taken modulo 2 to the number of bits of the mode
abbrev pub IsLengthFor : Bits → ℕ → List ℕ → ℕ → HookRules → ℕ → Type 0
IsLengthFor bits ip code to rules n = IsDetourLength bits ip code (modulo_width bits to) (move_rule rules) n

-- ---- what the length is for

-- no detour by the rules has a longer trampoline, at any place
abbrev pub IsEnough : Bits → ℕ → List ℕ → ℕ → HookRules → ℕ → Type 0
IsEnough bits ip code to rules n = (place : ℕ) (d : DetourState) → IsMade bits ip code to place rules (Ok d) → length d.trampoline ≤ n

-- nor has one without rules
abbrev pub IsEnoughPlain : Bits → ℕ → List ℕ → ℕ → ℕ → Type 0
IsEnoughPlain bits ip code to n =
    (place : ℕ) (start : StartTarget) (d : DetourState) → IsDetourAnswer bits ip code to place start (Ok d) → length d.trampoline ≤ n

-- no trampoline of any detour is longer than this
abbrev pub AreWithin : ℕ → Type 0
AreWithin most = (bits : Bits) (ip : ℕ) (code : List ℕ) (to place : ℕ) (rule : MoveRule) (d : DetourState) → IsAnswerTo bits ip code to place rule (Ok d)
    → length d.trampoline ≤ most
