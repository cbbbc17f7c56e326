use Rattle.std.proofs.Common.{◌≡◌, true, Some}
use Rattle.row_fit.specs.Fits.{kind_at}
use Rattle.text_parts.specs.Frequent.{has_pair_in_memory, paired_bytes}
use Rattle.text_parts.proofs.Frequent.{pair-size}
use Rattle.text_parts.proofs.layout.memory_bytes.Goals as goal

pub returns-in-Some : goal.returns-in-Some
returns-in-Some c =
    let row = c.args.row.now in
    let h : has_pair_in_memory row ≡ true = cc in
    let e : Some c.in-Some.n ≡ paired_bytes row.size (kind_at row 0) (kind_at row 1) = cc in
    pair-size row c.in-Some.n h e
