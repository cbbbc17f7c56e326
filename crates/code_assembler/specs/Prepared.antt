-- Instructions that are prepared: what is known of them before they are added to a routine.
use Rattle.std.specs.Prelude.{◌≡◌, ℕ, List, None}
use Rattle.x86_values.specs.declared.Bits.{Bits}
use Rattle.x86_values.specs.declared.Instr.{Instr}
use Rattle.encoder.specs.Encoding.{encoding}
use Rattle.move_goals.specs.declared.items.Placed.{Placed}
use Rattle.move_goals.specs.Items.{IsPlaced}
use Rattle.move_goals.specs.Ready.{MayBeReady}
use Rattle.code_assembler.specs.Built.{own_address, item_of, encoding_refusal}

-- what contracts see of a `Prepared`: the mode and the instruction
pub record PreparedState : Type 0 where
  pub bits : Bits
  pub instr : Instr

-- It has an encoding at its own target, where it is well placed. Its bytes are ready where they do not depend on the place, or none are.
pub record IsPrepared (p : PreparedState) (item : Placed) (ready : List ℕ) : Type 0 where
  pub at_target : item ≡ item_of p.bits p.instr
  pub placed : IsPlaced p.bits item
  pub encoded : encoding_refusal (encoding p.bits (own_address p.instr) p.instr) ≡ None
  pub bytes : MayBeReady p.bits p.instr ready
