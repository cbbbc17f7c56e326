-- What the table gives of its legacy rows.
use Rattle.std.proofs.Common.{◌≡◌, Bool, true, false, not, ◌&&◌, ◌||◌, refl, sym}
use Rattle.x86_values.specs.declared.Bits.{Bits}
use Rattle.instruction_parts.specs.declared.row_types.Row.{Row}
use Rattle.instruction_parts.specs.declared.row_types.ModRmRule.TheVariants.{Any as AnyModRm}
use Rattle.instruction_parts.specs.Sizes.{exists_in, is_vex_row}
use Rattle.row_fit.specs.Fits.{reads_by, is_gather, is_vvvv}
use Rattle.row_fit.specs.Sound.{reads_reg}
use Rattle.std.specs.List.{list_all}
use Rattle.plain_spelling.specs.Writable.{writable, Writable, gather_is_whole, names_vectors}
use Rattle.row_relation.proofs.PlainLaws.Exact.{writable_row}

first-false : (a b c : Bool) → (not a || (b && c)) ≡ true → b ≡ false → false ≡ a
first-false false b c h e = refl
first-false true true c h e = cc
first-false true false c h e = cc

whole-legacy : (row : Row) → gather_is_whole row ≡ true → is_vex_row row ≡ false → false ≡ reads_by is_gather row
unfolding gather_is_whole
whole-legacy row h legacy =
    first-false (reads_by is_gather row) (is_vex_row row)
    (elim row.modrm [ AnyModRm ↦ reads_by reads_reg row && (reads_by is_vvvv row && list_all names_vectors row.ops) | _ ↦ false ]) h legacy

-- no legacy row that has plain spellings is a gather (2.3.12)
pub legacy-no-gather : (bits : Bits) (row : Row) → writable row ≡ true → exists_in bits row ≡ true → is_vex_row row ≡ false → false ≡ reads_by is_gather row
legacy-no-gather bits row h e legacy = whole-legacy row (writable_row bits row h e).gather legacy
