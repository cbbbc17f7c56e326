use Rattle.std.proofs.Common.{◌≡◌, ◌<◌, sym, ◌∙◌}
use Rattle.std.proofs.lemmas.Slice.Eq.{bytes_eq-Decides}
use Rattle.opcode_rows.specs.declared.generated_spots.TheConstants.{ROWS}
use Rattle.intel_reader.proofs.RowNames.{named_below}
use Rattle.intel_reader.proofs.mnemonics.is_named_at.Goals as goal

pub returns-clause-named : goal.returns-clause-named
returns-clause-named c = λ yes.
    let below : c.code_at-code.result.0 < ROWS = c.code_at-code.ensures.below in
    let same : c.as_bytes.result.now ≡ c.args.name.now = (bytes_eq-Decides c.as_bytes.result.now c.args.name.now).0 (sym c.eq.ensures ∙ yes) in
    named_below ROWS c.code_at-code.result.0 c.args.name.now below (sym c.name.ensures.name ∙ sym c.as_bytes.ensures.value ∙ same)
