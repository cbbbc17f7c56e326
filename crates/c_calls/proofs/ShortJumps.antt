-- The bytes of a jump or a call are few.
use Rattle.std.proofs.Common.{◌≡◌, ℕ, ◌+◌, ◌≤◌, false, List, [], ◌∷◌, ◌++◌, length, Option, Some, None, slice_get, refl, sym, ◌∙◌, length-append, arith}
use Rattle.std.specs.Prelude.{Result, Ok, Err}
use Rattle.x86_values.specs.declared.Bits.{Bits}
use Rattle.x86_values.specs.declared.Bits.TheVariants.{B16, B32, B64}
use Rattle.x86_values.specs.declared.Instr.{Instr}
use Rattle.instruction_parts.specs.Sizes.{exists_in}
use Rattle.plain_spelling.specs.declared.NoSpelling.{NoSpelling}
use Rattle.plain_spelling.specs.Values.{low_bytes}
use Rattle.opcode_rows.specs.Table.{table}
use Rattle.encoder.specs.Encoding.{encoding}
use Rattle.encoder.specs.Facts.{SpelledFacts}
use Rattle.encoder.proofs.Causes.{without_mode}
use Rattle.move_goals.specs.declared.branch_forms.branch.Action.{Action}
use Rattle.move_goals.specs.declared.branch_forms.branch.Action.TheVariants.{Jump as ToJump, Call as ToCall}
use Rattle.move_goals.specs.BranchForms.Branches.{short_code, near_code, far_code}
use Rattle.move_goals.specs.BranchForms.Facts.{CodeFacts, PieceFacts}
use Rattle.move_goals.specs.BranchForms.Images.{branch_to, through_slot}
use Rattle.move_goals.specs.BranchForms.Lengths.{size_byte, offset_bytes}
use Rattle.move_goals.specs.BranchForms.Rows.{memory_row}
use Rattle.move_goals.proofs.MovedTargets.Lengths.{encoding-length}
use Rattle.c_calls.specs.declared.jump.JumpForm.{JumpForm}
use Rattle.c_calls.specs.declared.jump.JumpForm.TheVariants.{ShortJump, NearJump, FarJump, NearCall, FarCall}
use Rattle.c_calls.specs.Answers.{encoding_told}
use Rattle.c_calls.specs.Jumps.{jump_numbered, jump_instr, behind_jump, with_behind, jump_bytes, jump_of, jump_answer}
use Rattle.c_calls.specs.Numbers.{bits_numbered}
use Rattle.c_calls.specs.Sizes.{HasAtMost}

-- what the laws of the crates below say
pub record JumpFacts : Type 0 where
  pub codes : CodeFacts
  pub pieces : PieceFacts
  pub spelled : SpelledFacts

-- an address has eight bytes
pub address-length : (x : ℕ) → length (low_bytes 8 x) ≡ 8
unfolding low_bytes
address-length x = refl

-- an encoding that is short, with bytes behind it
behind-short : (more : List ℕ) (i : Instr) (e : Result (List ℕ) NoSpelling) → ((bytes : List ℕ) → e ≡ Ok bytes → length bytes + length more ≤ 16)
    → HasAtMost 16 (with_behind more (encoding_told i e))
behind-short more i (Ok bytes) h = omega (arith, length-append bytes more, h bytes refl)
behind-short more i (Err why) h = tt

-- a branch in its own mode
short-sum : (bits : Bits) → 2 + size_byte bits bits ≤ 2
short-sum B16 = omega arith
short-sum B32 = omega arith
short-sum B64 = omega arith

-- a near jump has at most 5 bytes
pub near-sum : (bits : Bits) → 1 + size_byte bits bits + offset_bytes bits bits ≤ 5
near-sum B16 = omega arith
near-sum B32 = omega arith
near-sum B64 = omega arith

module _ (facts : JumpFacts) where
  short-bytes : (bits : Bits) (at target : ℕ) (bytes : List ℕ) → encoding bits at (branch_to (short_code ToJump bits) None target) ≡ Ok bytes → length bytes ≤ 2
  short-bytes bits at target bytes h =
      omega (arith, encoding-length facts.spelled bits at (branch_to (short_code ToJump bits) None target) bytes h, facts.pieces.short_jump-length bits bits target, short-sum bits)

  -- a near jump has at most 5 bytes
  pub near_jump-bytes : (bits : Bits) (at target : ℕ) (bytes : List ℕ) → encoding bits at (branch_to (near_code ToJump bits) None target) ≡ Ok bytes → length bytes ≤ 5
  near_jump-bytes bits at target bytes h =
      omega (arith, encoding-length facts.spelled bits at (branch_to (near_code ToJump bits) None target) bytes h, facts.pieces.near_jump-length bits bits target, near-sum bits)

  near_call-bytes : (bits : Bits) (at target : ℕ) (bytes : List ℕ) → encoding bits at (branch_to (near_code ToCall bits) None target) ≡ Ok bytes → length bytes ≤ 5
  near_call-bytes bits at target bytes h =
      omega (arith, encoding-length facts.spelled bits at (branch_to (near_code ToCall bits) None target) bytes h, facts.pieces.near_call-length bits bits target, near-sum bits)

  -- a branch through memory is of 64-bit mode
  far_jump-bytes : (bits : Bits) (at slot : ℕ) (bytes : List ℕ) → encoding bits at (through_slot (far_code ToJump) slot) ≡ Ok bytes → length bytes ≤ 6
  unfolding exists_in through_slot far_code
  far_jump-bytes B16 at slot bytes h = let none = without_mode B16 at (memory_row 4) (through_slot (far_code ToJump) slot) facts.codes.far-jump refl in absurd cc
  far_jump-bytes B32 at slot bytes h = let none = without_mode B32 at (memory_row 4) (through_slot (far_code ToJump) slot) facts.codes.far-jump refl in absurd cc
  far_jump-bytes B64 at slot bytes h =
      omega (arith, encoding-length facts.spelled B64 at (through_slot (far_code ToJump) slot) bytes h, facts.pieces.slot_jump-length B64 slot)

  far_call-bytes : (bits : Bits) (at slot : ℕ) (bytes : List ℕ) → encoding bits at (through_slot (far_code ToCall) slot) ≡ Ok bytes → length bytes ≤ 6
  unfolding exists_in through_slot far_code
  far_call-bytes B16 at slot bytes h = let none = without_mode B16 at (memory_row 2) (through_slot (far_code ToCall) slot) facts.codes.far-call refl in absurd cc
  far_call-bytes B32 at slot bytes h = let none = without_mode B32 at (memory_row 2) (through_slot (far_code ToCall) slot) facts.codes.far-call refl in absurd cc
  far_call-bytes B64 at slot bytes h =
      omega (arith, encoding-length facts.spelled B64 at (through_slot (far_code ToCall) slot) bytes h, facts.pieces.slot_call-length B64 slot)

  form-short : (bits : Bits) (at target : ℕ) (form : JumpForm) → HasAtMost 16 (jump_bytes bits at target form)
  unfolding jump_instr behind_jump
  form-short bits at target ShortJump = behind-short [] (jump_instr bits at target ShortJump) (encoding bits at (jump_instr bits at target ShortJump)) (λ bytes e. omega (arith, short-bytes bits at target bytes e))
  form-short bits at target NearJump = behind-short [] (jump_instr bits at target NearJump) (encoding bits at (jump_instr bits at target NearJump)) (λ bytes e. omega (arith, near_jump-bytes bits at target bytes e))
  form-short bits at target FarJump =
      behind-short (low_bytes 8 target) (jump_instr bits at target FarJump) (encoding bits at (jump_instr bits at target FarJump)) (λ bytes e. omega (arith, far_jump-bytes bits at _ bytes e, address-length target))
  form-short bits at target NearCall = behind-short [] (jump_instr bits at target NearCall) (encoding bits at (jump_instr bits at target NearCall)) (λ bytes e. omega (arith, near_call-bytes bits at target bytes e))
  form-short bits at target FarCall =
      behind-short (0xEB ∷ 0x08 ∷ low_bytes 8 target) (jump_instr bits at target FarCall) (encoding bits at (jump_instr bits at target FarCall)) (λ bytes e. omega (arith, far_call-bytes bits at _ bytes e, address-length target))

  of-short : (bits : Option Bits) (form : Option JumpForm) (at target : ℕ) → HasAtMost 16 (jump_of bits form at target)
  of-short None form at target = tt
  of-short (Some bits) None at target = tt
  of-short (Some bits) (Some form) at target = form-short bits at target form

  -- **a jump or a call has at most 16 bytes**
  pub jumps-short : (bits at target form : ℕ) → HasAtMost 16 (jump_answer bits at target form)
  jumps-short bits at target form = of-short (bits_numbered bits) (jump_numbered form) at target
