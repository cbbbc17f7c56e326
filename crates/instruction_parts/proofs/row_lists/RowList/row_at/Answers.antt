use Rattle.std.proofs.Common.{◌<◌, length, ap, ◌∙◌, sym, Some, option_map}
use Rattle.std.proofs.lemmas.Option.{slice_get-map, slice_get-get_or}
use Rattle.std.proofs.lemmas.List.{length-map}
use Rattle.instruction_parts.specs.Flat.{row_of}
use Rattle.instruction_parts.proofs.row_lists.RowList.row_at.Goals as goal

pub returns : goal.returns
returns c =
    let lt : c.args.at < length c.args.self.now.rows.now = rw length-map at c.requires in
    slice_get-map row_of c.args.self.now.rows.now c.args.at
    ∙ ap (option_map row_of) (slice_get-get_or c.args.self.now.rows.now c.args.at _ lt) ∙ ap Some (sym c.row.ensures)
