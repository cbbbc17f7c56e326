use Rattle.std.proofs.Common.{◌++◌, ap, ◌∙◌, arith, length-append}
use Rattle.byte_ports.specs.Ports.{with_front}
use Rattle.sweep.proofs.RunParts.Appending.{with_front-append}
use Rattle.sweep.proofs.run_parts.input.read_chunks.Goals as goal

pub returns-in_err-count-clause-taken : goal.returns-in_err-count-clause-taken
returns-in_err-count-clause-taken g c =
    let before = c.loop-input.input.items in
    let here = c.loop-input.invariant in
    let piece = c.read_piece.ensures.taken in
    let short = piece.1.1 in
    record {
      bytes = before ++ piece.0;
      read = here.read ∙ (ap (with_front before) piece.1.0 ∙ with_front-append (g.S.Source.left c.read_piece.new.source) before piece.0);
      within = omega (arith, length-append before piece.0);
    }
