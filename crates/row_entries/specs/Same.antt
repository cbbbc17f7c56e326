-- Rows that agree in some of their fields.
use Rattle.std.specs.Prelude.{◌≡◌}
use Rattle.instruction_parts.specs.declared.row_types.Row.{Row}

-- in kind, map, class and opcode byte, in what is added to that, and in the operand size, W and L
pub record AgreeInFront (a b : Row) : Type 0 where
  pub kind : a.kind ≡ b.kind
  pub map : a.map ≡ b.map
  pub class : a.class ≡ b.class
  pub opcode : a.opcode ≡ b.opcode
  pub plus : a.plus ≡ b.plus
  pub size : a.size ≡ b.size
  pub w : a.w ≡ b.w
  pub l : a.l ≡ b.l

-- in ModRM, the modes, the kinds of the operands and the marks
pub record AgreeInTail (a b : Row) : Type 0 where
  pub modrm : a.modrm ≡ b.modrm
  pub place : a.place ≡ b.place
  pub modes : a.modes.0 ≡ b.modes.0
  pub ops : a.ops ≡ b.ops
  pub marks : a.marks.0 ≡ b.marks.0
