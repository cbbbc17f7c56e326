use Rattle.std.proofs.Common.{◌≡◌, ◌+◌, ℕ, true, refl, ap, sym, ◌∙◌, subst, drop}
use Rattle.std.specs.Prelude.{Option, None, Some, IfSome}
use Rattle.instruction_parts.specs.declared.row_types.Row.{Row}
use Rattle.row_fit.specs.Fits.{immediates_bytes}
use Rattle.instruction_parts.specs.RowFields.Holds.{holds}
use Rattle.row_relation.specs.RowReading.{RowReads}
use Rattle.opcode_rows.proofs.Sound.{sound-row}
use Rattle.opcode_rows.specs.UniqueSpelling.FieldsOf.{fields_of, first_byte}
use Rattle.decoder.specs.Bare.{row_is_bare}
use Rattle.decoder.specs.Cells.{RowIsLate}
use Rattle.decoder.proofs.BareFits.{known-of_row, known-bare, known-immediates, bare-fits, bare-one, bare-mode, bare-offset, front-of_drop, first-is_byte}
use Rattle.decoder.proofs.Finding.{same_some}
use Rattle.decoder.proofs.Scanning.{late_by_either}
use Rattle.decoder.proofs.found.read_bare.Goals as goal

pub read_fitting_into-requires : goal.read_fitting_into-requires
read_fitting_into-requires g c =
    let bits = c.args.bits in
    let bytes = c.args.bytes.now in
    let state = c.args.state.now in
    let row = c.row-row.result in
    let is = known-of_row c.args.code.0 row c.args.known c.row-row.ensures.row c.requires.known in
    let bare : row_is_bare row ≡ true = sym (known-bare row c.args.known is) ∙ c.requires.bare in
    let met : holds bits row (fields_of state (first_byte (drop (state.used + 1) bytes))) ≡ true =
    subst (λ (x : Option ℕ). holds bits row (fields_of state x) ≡ true) (front-of_drop bytes (state.used + 1))
    (c.requires.holding row c.row-row.ensures.row) in
    record {
      sound = sound-row _ _ c.row-row.ensures.row;
      one = bare-one row bare;
      size = c.state_size-size.ensures;
      known = record {
        mode = bare-mode row bare;
        offset = bare-offset row bare;
        immediates = c.immediates_at-immediates.ensures ∙ known-immediates c.state_size-size.result row c.args.known is
            ∙ ap (λ size. immediates_bytes size row) c.state_size-size.ensures;
      };
      fitting = λ sib.
          bare-fits bits row state (drop (state.used + 1) bytes) sib bare c.requires.start (first-is_byte bytes (state.used + 1) c.type_inv.bytes) met;
      front = c.requires.front;
    }

-- what holds of a value, held for another row
of_value : (A B : Type 0) (o : Option (Unit {0})) → IfSome o (λ _. A) → (A → B) → IfSome o (λ _. B)
of_value A B None a f = tt
of_value A B (Some u) a f = f a

pub returns-clause-some : goal.returns-clause-some
returns-clause-some g c = of_value _ _ c.read_fitting_into.result c.read_fitting_into.ensures.some (λ some row there.
    subst (λ (r : Row). RowReads c.args.bits c.args.ip c.args.code r c.args.bytes.now c.read_fitting_into.new.out)
    (same_some c.row-row.result row (sym c.row-row.ensures.row ∙ there)) some)

pub returns-clause-none : goal.returns-clause-none
returns-clause-none g c = λ none row there.
    subst (λ (r : Row). RowIsLate c.args.bits r c.args.bytes.now) (same_some c.row-row.result row (sym c.row-row.ensures.row ∙ there))
    (late_by_either c.args.bits c.args.ip c.args.code c.row-row.result c.args.bytes.now (c.read_fitting_into.ensures.none none))
