use Rattle.decoder.proofs.reading.read_known.Goals as goal

-- no instruction was found in the mode
pub copied_error-requires-clause-nothing : goal.copied_error-requires-clause-nothing
copied_error-requires-clause-nothing g c = rw c.mode_of.ensures c.in-None.ensures.reading
