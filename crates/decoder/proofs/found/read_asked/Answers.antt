use Rattle.std.proofs.Common.{◌≡◌, ℕ, List, Result, Err, sym, ◌∙◌, subst}
use Rattle.x86_values.specs.declared.Bits.{Bits}
use Rattle.instruction_parts.specs.declared.row_types.Row.{Row}
use Rattle.row_relation.specs.RowReading.{RowReads, RowReadsNothing, RowCanGoOn}
use Rattle.modrm_sib.specs.declared.TailError.{TailError}
use Rattle.modrm_sib.specs.declared.TailError.TheVariants.{Ended, Forbidden}
use Rattle.opcode_rows.proofs.Sound.{sound-row}
use Rattle.decoder.specs.Cells.{RowIsLate}
use Rattle.decoder.proofs.Finding.{same_some}
use Rattle.decoder.proofs.Scanning.{late_by_nothing, late_by_length}
use Rattle.decoder.proofs.found.read_asked.Goals as goal

-- whatever the error, the row reads nothing
reads_nothing : (bits : Bits) (row : Row) (bytes : List ℕ) (r : Result (Unit {0}) TailError) (e : TailError) → r ≡ Err e
    → (r ≡ Err Ended → RowReadsNothing bits row bytes × RowCanGoOn bits row bytes)
    → (r ≡ Err Forbidden → RowReadsNothing bits row bytes × (RowCanGoOn bits row bytes → ⊥)) → RowReadsNothing bits row bytes
reads_nothing bits row bytes r Ended is ended forbidden = (ended is).0
reads_nothing bits row bytes r Forbidden is ended forbidden = (forbidden is).0

pub read_row_into-requires-clause-sound : goal.read_row_into-requires-clause-sound
read_row_into-requires-clause-sound g c = sound-row _ _ c.row-row.ensures.row

pub returns-then-out-le-LONGEST-clause-some : goal.returns-then-out-le-LONGEST-clause-some
returns-then-out-le-LONGEST-clause-some g c = λ row there.
    subst (λ (r : Row). RowReads c.args.bits c.args.ip c.args.code r c.args.bytes.now c.read_row_into.new.out)
    (same_some c.row-row.result row (sym c.row-row.ensures.row ∙ there)) c.in-Ok.ensures.ok

pub returns-else-out-le-LONGEST-clause-none : goal.returns-else-out-le-LONGEST-clause-none
returns-else-out-le-LONGEST-clause-none g c = λ none row there.
    subst (λ (r : Row). RowIsLate c.args.bits r c.args.bytes.now) (same_some c.row-row.result row (sym c.row-row.ensures.row ∙ there))
    (late_by_length c.args.bits c.args.ip c.args.code c.row-row.result c.args.bytes.now c.read_row_into.new.out c.in-Ok.ensures.ok
    c.if-out-le-LONGEST.false)

pub returns-in-Err-clause-none : goal.returns-in-Err-clause-none
returns-in-Err-clause-none g c = λ none row there.
    subst (λ (r : Row). RowIsLate c.args.bits r c.args.bytes.now) (same_some c.row-row.result row (sym c.row-row.ensures.row ∙ there))
    (late_by_nothing c.args.bits c.row-row.result c.args.bytes.now
    (reads_nothing c.args.bits c.row-row.result c.args.bytes.now _ c.in-Err.field-0 c.in-Err.is c.read_row_into.ensures.ended c.read_row_into.ensures.forbidden))
