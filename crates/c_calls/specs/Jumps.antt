-- Jumps and calls of a wanted form, as bytes.
use Rattle.std.specs.Prelude.{ℕ, ◌+◌, ◌==◌, if◌then◌else◌, List, [], ◌∷◌, ◌++◌, Option, Some, None, Result, Ok, Err}
use Rattle.x86_values.specs.declared.Bits.{Bits}
use Rattle.x86_values.specs.declared.Bits.TheVariants.{B64}
use Rattle.x86_values.specs.declared.Instr.{Instr}
use Rattle.x86_values.specs.Wrapping.{modulo_width}
use Rattle.plain_spelling.specs.Values.{low_bytes}
use Rattle.encoder.specs.Encoding.{encoding}
use Rattle.move_goals.specs.declared.branch_forms.branch.Action.TheVariants.{Jump as ToJump, Call as ToCall}
use Rattle.move_goals.specs.BranchForms.Branches.{short_code, near_code, far_code}
use Rattle.move_goals.specs.BranchForms.Images.{branch_to, through_slot}
use Rattle.c_calls.specs.declared.refusal.Refusal.{Refusal}
use Rattle.c_calls.specs.declared.refusal.Refusal.TheVariants.{Mode, Jump as NoJump}
use Rattle.c_calls.specs.declared.jump.JumpForm.{JumpForm}
use Rattle.c_calls.specs.declared.jump.JumpForm.TheVariants.{ShortJump, NearJump, FarJump, NearCall, FarCall}
use Rattle.c_calls.specs.Numbers.{bits_numbered}
use Rattle.c_calls.specs.Answers.{encoding_told}

-- the form of a number
unfoldable pub jump_numbered : ℕ → Option JumpForm
jump_numbered n =
    if n == 1 then Some ShortJump
    else (if n == 2 then Some NearJump
    else (if n == 3 then Some FarJump
    else (if n == 4 then Some NearCall
    else (if n == 5 then Some FarCall else None))))

-- The instruction of a form at an address. JMP or CALL with an offset of 8 bits, or of 16 or 32; or through memory: JMP is 6 bytes long and the target
-- stands behind it; CALL is too, and between it and the target is the jump over that (JMP, CALL).
unfoldable pub jump_instr : Bits → ℕ → ℕ → JumpForm → Instr
jump_instr bits at target ShortJump = branch_to (short_code ToJump bits) None target
jump_instr bits at target NearJump = branch_to (near_code ToJump bits) None target
jump_instr bits at target FarJump = through_slot (far_code ToJump) (modulo_width B64 (at + 6))
jump_instr bits at target NearCall = branch_to (near_code ToCall bits) None target
jump_instr bits at target FarCall = through_slot (far_code ToCall) (modulo_width B64 (at + 8))

-- what stands behind it: of a far form the target in 8 bytes, the lowest first; a call that comes back goes over these by a short jump
unfoldable pub behind_jump : ℕ → JumpForm → List ℕ
behind_jump target FarJump = low_bytes 8 target
behind_jump target FarCall = 0xEB ∷ 0x08 ∷ low_bytes 8 target
behind_jump target _ = []

-- bytes with others behind them
abbrev pub with_behind : List ℕ → Result (List ℕ) Refusal → Result (List ℕ) Refusal
with_behind more (Ok bytes) = Ok (bytes ++ more)
with_behind more (Err why) = Err why

-- the bytes of a form, or why it has none there: far forms are of 64-bit mode alone
abbrev pub jump_bytes : Bits → ℕ → ℕ → JumpForm → Result (List ℕ) Refusal
jump_bytes bits at target form =
    let i = jump_instr bits at target form in
    with_behind (behind_jump target form) (encoding_told i (encoding bits at i))

-- the bytes of a jump, where there are a mode and a form
abbrev pub jump_of : Option Bits → Option JumpForm → ℕ → ℕ → Result (List ℕ) Refusal
jump_of None form at target = Err Mode
jump_of (Some bits) None at target = Err NoJump
jump_of (Some bits) (Some form) at target = jump_bytes bits at target form

-- by their numbers
abbrev pub jump_answer : ℕ → ℕ → ℕ → ℕ → Result (List ℕ) Refusal
jump_answer bits at target form = jump_of (bits_numbered bits) (jump_numbered form) at target
