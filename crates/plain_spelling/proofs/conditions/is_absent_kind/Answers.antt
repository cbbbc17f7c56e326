use Rattle.std.proofs.Common.{◌≡◌, false, refl}
use Rattle.x86_values.specs.declared.Operand.TheVariants.{Absent}
use Rattle.instruction_parts.specs.declared.row_types.OpKind.{OpKind}
use Rattle.instruction_parts.specs.declared.row_types.OpKind.TheVariants.{Absent as AbsentKind}
use Rattle.instruction_parts.specs.declared.row_types.Place.{Place}
use Rattle.instruction_parts.specs.declared.row_types.Place.TheVariants.{Any as AnyPlace, Memory as OnlyMemory, Register as OnlyRegister}
use Rattle.instruction_parts.specs.Kinds.{method_of}
use Rattle.plain_spelling.specs.Forms.{is_variant_of, is_allowed_in}
use Rattle.plain_spelling.proofs.conditions.is_absent_kind.Goals as goal

other-kind : (place : Place) (kind : OpKind) → (kind ≡ AbsentKind → ⊥) → false ≡ is_variant_of place (method_of kind) Absent
unfolding method_of is_variant_of is_allowed_in
other-kind AnyPlace AbsentKind h = absurd (h refl)
other-kind OnlyMemory AbsentKind h = absurd (h refl)
other-kind OnlyRegister AbsentKind h = absurd (h refl)
other-kind AnyPlace _ h = refl
other-kind OnlyMemory _ h = refl
other-kind OnlyRegister _ h = refl

pub returns-in_default : goal.returns-in_default
returns-in_default c = λ place. other-kind place c.args.kind c.in_default.not-Absent
