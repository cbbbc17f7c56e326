use Rattle.std.proofs.Common.{◌≡◌, ◌+◌, true, refl, ap, sym, ◌∙◌, subst, arith, slice_get}
use Rattle.std.specs.Prelude.{Option, None, Some, IsNone, IfSome, MatchOption}
use Rattle.std.proofs.lemmas.Option.{slice_get_within}
use Rattle.x86_values.specs.declared.Bits.{Bits}
use Rattle.prefixes.specs.Answer.{mode_of}
use Rattle.row_relation.specs.RowReading.{RowReads}
use Rattle.instruction_parts.specs.declared.row_types.Row.{Row}
use Rattle.instruction_parts.specs.declared.row_fields.Fields.{Fields}
use Rattle.instruction_parts.specs.RowFields.Holds.{holds, HoldsNowhere, IsOnlyRow}
use Rattle.opcode_rows.specs.Table.{table}
use Rattle.opcode_rows.proofs.JoinFacts.{length-table}
use Rattle.opcode_rows.proofs.Sound.{sound-row}
use Rattle.opcode_rows.specs.UniqueSpelling.FieldsOf.{fields_of}
use Rattle.decoder.specs.Cells.{RowIsLate}
use Rattle.decoder.proofs.Formed.{read_is_well_formed}
use Rattle.decoder.proofs.ReadingLaws.{reads}
use Rattle.decoder.proofs.Finding.{same_some, no_row_spells, one_row_spells}
use Rattle.decoder.proofs.found.read_found.Goals as goal

pub read_by_code-requires-clause-code : goal.read_by_code-requires-clause-code
read_by_code-requires-clause-code g c =
    let only = c.in-Some.ensures.row in
    omega (arith, slice_get_within table c.in-Some.code.0 only.row only.there, length-table)

pub read_by_code-requires-clause-holding : goal.read_by_code-requires-clause-holding
read_by_code-requires-clause-holding g c = λ row there.
    let only = c.in-Some.ensures.row in
    let f = fields_of c.args.state.now (slice_get c.args.bytes.now (c.args.state.now.used + 1)) in
    let same : only.row ≡ row = same_some only.row row (sym only.there ∙ there) in
    let are : fields_of c.args.state.now c.byte_behind.result ≡ f = ap (fields_of c.args.state.now) c.byte_behind.ensures in
    let met : holds (mode_of g.row.BITS) row f ≡ true =
    subst (λ (x : Fields). holds (mode_of g.row.BITS) row x ≡ true) are
    (subst (λ (x : Row). holds (mode_of g.row.BITS) x (fields_of c.args.state.now c.byte_behind.result) ≡ true) same only.met) in
    subst (λ (b : Bits). holds b row f ≡ true) (sym c.mode_of-bits.ensures) met

pub returns-in-None-clause-reading : goal.returns-in-None-clause-reading
returns-in-None-clause-reading g c =
    let bits = mode_of g.row.BITS in
    let bytes = c.args.bytes.now in
    let state = c.args.state.now in
    let are : (fields_of state c.byte_behind.result) ≡ fields_of state (slice_get bytes (state.used + 1)) =
    ap (fields_of state) c.byte_behind.ensures in
    no_row_spells bits c.args.ip bytes state c.requires.front (subst (λ (x : Fields). HoldsNowhere bits table x) are c.in-None.ensures.row)

-- what a value says, and what none says
by_option : (A B : Type 0) (o : Option (Unit {0})) → (IsNone o → A) → IfSome o (λ _. B) → MatchOption o A (λ _. B)
by_option A B None none some = none refl
by_option A B (Some u) none some = some

-- two facts of a value give a third
both : (A B C : Type 0) (o : Option (Unit {0})) → IfSome o (λ _. A) → IfSome o (λ _. B) → (A → B → C) → IfSome o (λ _. C)
both A B C None a b f = tt
both A B C (Some u) a b f = f a b

pub returns-in-Some-clause-reading : goal.returns-in-Some-clause-reading
returns-in-Some-clause-reading g c =
    let bits = mode_of g.row.BITS in
    let bytes = c.args.bytes.now in
    let state = c.args.state.now in
    let code = c.in-Some.code in
    let only = c.in-Some.ensures.row in
    let are : (fields_of state c.byte_behind.result) ≡ fields_of state (slice_get bytes (state.used + 1)) =
    ap (fields_of state) c.byte_behind.ensures in
    by_option _ _ c.read_by_code.result
    (λ none. one_row_spells bits c.args.ip bytes state code.0 only.row c.requires.front
    (subst (λ (x : Fields). IsOnlyRow bits table x code.0) are c.in-Some.ensures.row) only.there
    (subst (λ (b : Bits). RowIsLate b only.row bytes) c.mode_of-bits.ensures (c.read_by_code.ensures.none none only.row only.there)))
    (both _ _ _ c.read_by_code.result c.read_by_code.ensures.some c.read_by_code.ensures.len (λ some len.
    reads table bits c.args.ip code only.row bytes c.read_by_code.new.out only.there
    (subst (λ (b : Bits). RowReads b c.args.ip code only.row bytes c.read_by_code.new.out) c.mode_of-bits.ensures (some only.row only.there))
    len.1))

pub returns-in-Some-clause-form : goal.returns-in-Some-clause-form
returns-in-Some-clause-form g c =
    let only = c.in-Some.ensures.row in
    both _ _ _ c.read_by_code.result c.read_by_code.ensures.some c.read_by_code.ensures.len (λ some len.
    read_is_well_formed c.mode_of-bits.result c.args.ip _ only.row c.args.bytes.now c.read_by_code.new.out only.there
    (sound-row _ _ only.there) (some only.row only.there))
