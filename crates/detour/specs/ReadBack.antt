-- What is read of a detour: the patch is one jump, and the trampoline the images of its instructions, which go to their goals.
use Rattle.std.specs.Prelude.{◌≡◌, ℕ, ◌+◌, ◌<◌, List, take, drop, length, Option, IfSome}
use Rattle.x86_values.specs.declared.Bits.{Bits}
use Rattle.x86_values.specs.declared.Bits.TheVariants.{B64}
use Rattle.x86_values.specs.Wrapping.{modulo_width}
use Rattle.plain_spelling.specs.Values.{low_bytes}
use Rattle.row_relation.specs.Spells.{Reading, Read}
use Rattle.opcode_rows.specs.Reading.{IsRead}
use Rattle.move_goals.specs.declared.branch_forms.branch.Action.TheVariants.{Jump}
use Rattle.move_goals.specs.BranchForms.Branches.{far_code}
use Rattle.move_goals.specs.BranchForms.Images.{through_slot}
use Rattle.move_goals.specs.declared.items.Placed.{Placed}
use Rattle.block_encoder.specs.Aims.{StandsAtPlace, GoesToGoal}
use Rattle.block_encoder.specs.Read.{IsReadAsImages}
use Rattle.detour.specs.declared.parts.JumpForm.{JumpForm}
use Rattle.detour.specs.declared.parts.JumpForm.TheVariants.{Near, Relay, Absolute}
use Rattle.detour.specs.declared.start.MoveRule.{MoveRule}
use Rattle.detour.specs.Jumps.{near_jump_to}
use Rattle.detour.specs.Trampoline.{block_items, trampoline_plan}

-- a near jump to an address, as long as some bytes
abbrev pub jump_reading : Bits → ℕ → List ℕ → Reading
jump_reading bits target bytes = Read (record { instr = near_jump_to bits target; len = length bytes })

-- six bytes at an address of 64-bit mode that are a jump through the memory behind them
abbrev pub through_reading : ℕ → Reading
through_reading at = Read (record { instr = through_slot (far_code Jump) (modulo_width B64 (at + 6)); len = 6 })

-- some bytes at an address are read as the jump through the eight bytes behind its six, which have the address where it ends, the lowest byte first
pub record IsAbsoluteRead (at to : ℕ) (bytes : List ℕ) : Type 0 where
  pub read : IsRead B64 at bytes (through_reading at)
  pub target : take 8 (drop 6 bytes) ≡ low_bytes 8 to

-- The relay, where there is one, has the address behind the trampoline's block of so many bytes at a place, and the trampoline's bytes there are read as
-- the jump to the replacement.
abbrev pub IsRelayRead : ℕ → ℕ → ℕ → Option ℕ → List ℕ → Type 0
IsRelayRead to place len relay trampoline = IfSome relay (λ address. (address ≡ place + len) × IsAbsoluteRead address to (drop len trampoline))

-- The patch is read at the function as one jump: the near one to the replacement or to the relay, or the one that is followed by the replacement's address.
abbrev pub IsPatchRead : Bits → ℕ → ℕ → JumpForm → List ℕ → Option ℕ → List ℕ → Type 0
IsPatchRead bits ip to Near bytes relay patch = IsRead bits ip patch (jump_reading bits to bytes)
IsPatchRead bits ip to Relay bytes relay patch = IfSome relay (λ address. IsRead bits ip patch (jump_reading bits address bytes))
IsPatchRead bits ip to Absolute bytes relay patch = (bits ≡ B64) × IsAbsoluteRead ip to patch

-- The sweep of the trampoline up to its gap gives the instructions of the images of the moved instructions and of the jump back, in order; each image
-- stands at its place and goes to its goal.
pub record IsTrampolineRead (bits : Bits) (ip : ℕ) (items : List Placed) (place : ℕ) (rule : MoveRule) (layout : List ℕ) : Type 0 where
  pub images : IsReadAsImages bits (block_items rule bits ip items) (trampoline_plan bits ip items place rule) layout 0
  pub places : (k : ℕ) → k < length (block_items rule bits ip items)
      → StandsAtPlace bits (block_items rule bits ip items) (trampoline_plan bits ip items place rule) layout 0 k
  pub goals : (k : ℕ) → k < length (block_items rule bits ip items)
      → GoesToGoal bits (block_items rule bits ip items) (trampoline_plan bits ip items place rule) layout 0 k
