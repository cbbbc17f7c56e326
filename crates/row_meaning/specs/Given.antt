-- Rows of which one operand at most has bytes of the immediates.
use Rattle.std.specs.Prelude.{Bool, true, false, not, ◌&&◌, ◌≤◌, IsTrue, length}
use Rattle.instruction_parts.specs.declared.row_types.Row.{Row}
use Rattle.instruction_parts.specs.declared.row_types.OpKind.{OpKind}
use Rattle.instruction_parts.specs.declared.kinds.Width.TheVariants.{Zero as ZeroWidth}
use Rattle.instruction_parts.specs.Kinds.{immediate_width}
use Rattle.row_fit.specs.Fits.{kind_at, modrm_in_range, sib_in_range}
use Rattle.row_meaning.specs.declared.operands.Behind.{Behind}

-- an operand of the kind has bytes of the immediates (A.2.2)
abbrev pub has_immediate : OpKind → Bool
has_immediate kind = elim (immediate_width kind) [ ZeroWidth ↦ false | _ ↦ true ]

-- at most one of four holds
abbrev pub at_most_one : Bool → Bool → Bool → Bool → Bool
at_most_one true b c d = not b && (not c && not d)
at_most_one false true c d = not c && not d
at_most_one false false c d = not (c && d)

-- at most one operand has bytes of the immediates
unfoldable pub has_one_immediate : Row → Bool
has_one_immediate row =
    at_most_one (has_immediate (kind_at row 0)) (has_immediate (kind_at row 1)) (has_immediate (kind_at row 2)) (has_immediate (kind_at row 3))

-- what stands behind the opcode byte has fields in range, and no more than eight bytes of displacement or of immediates
pub record IsInRange (b : Behind) : Type 0 where
  pub modrm : IsTrue (modrm_in_range b.modrm)
  pub sib : IsTrue (sib_in_range b.sib)
  pub disp : length b.disp.now ≤ 8
  pub imm : length b.imm.now ≤ 8
