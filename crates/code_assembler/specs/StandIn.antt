-- What stands for a byte of data while the layout is chosen: NOP, which is one byte long and goes nowhere (Intel SDM volume 2, NOP).
use Rattle.std.specs.Prelude.{◌≡◌, ℕ, false, [], ◌∷◌, Option, Some, None}
use Rattle.x86_values.specs.declared.Bits.{Bits}
use Rattle.x86_values.specs.declared.Operand.TheVariants.{Absent as NoOperand}
use Rattle.x86_values.specs.declared.Rep.TheVariants.{None as NoRep}
use Rattle.x86_values.specs.declared.Instr.{Instr}
use Rattle.instruction_parts.specs.declared.row_types.Row.{Row}
use Rattle.instruction_parts.specs.declared.row_types.RowKind.TheVariants.{Legacy}
use Rattle.instruction_parts.specs.declared.row_types.Map.TheVariants.{One}
use Rattle.instruction_parts.specs.declared.row_types.Class.TheVariants.{Nf3}
use Rattle.instruction_parts.specs.declared.row_types.Plus.TheVariants.{No as NoPlus}
use Rattle.instruction_parts.specs.declared.row_types.ModRmRule.TheVariants.{No as NoModRm}
use Rattle.instruction_parts.specs.declared.row_types.Place.TheVariants.{Any as AnyPlace}
use Rattle.instruction_parts.specs.declared.row_types.Size.TheVariants.{None as NoSize}
use Rattle.instruction_parts.specs.declared.row_types.WBit.TheVariants.{None as NoW}
use Rattle.instruction_parts.specs.declared.row_types.LBit.TheVariants.{None as NoL}
use Rattle.instruction_parts.specs.declared.row_types.OpKind.TheVariants.{Absent}
use Rattle.move_goals.specs.MovedTargets.Targets.{plain_length}
use Rattle.move_goals.specs.declared.items.Placed.{Placed}
use Rattle.code_assembler.specs.declared.generated_codes.TheConstants.{NOP}

-- the row of NOP: 90 in every mode, not behind F3, which makes it PAUSE
abbrev pub nop_row : Row
nop_row = record {
  kind = Legacy;
  map = One;
  class = Nf3;
  opcode = 0x90;
  plus = NoPlus;
  modrm = NoModRm;
  place = AnyPlace;
  size = NoSize;
  w = NoW;
  l = NoL;
  modes = record { 0 = 7 };
  ops = Absent ∷ Absent ∷ Absent ∷ Absent ∷ [];
  marks = record { 0 = 0 };
}

-- NOP
unfoldable pub nop : Instr
nop = record {
  code = record { 0 = NOP };
  lock = false;
  rep = NoRep;
  seg = None;
  asize = None;
  ops = NoOperand ∷ NoOperand ∷ NoOperand ∷ NoOperand ∷ [];
}

-- NOP as an item
abbrev pub stand_in : Bits → Placed
stand_in bits = record { ip = 0; len = plain_length bits nop; instr = nop }

-- an item that is a byte of data is NOP until the layout is chosen
abbrev pub IsFilled : Bits → Option ℕ → Placed → Type 0
IsFilled bits None item = Unit {0}
IsFilled bits (Some byte) item = item ≡ stand_in bits
