use Rattle.decoder.proofs.by_mode.decode_onto.Given as goal

abbrev pub ghosts-decode_on_into : goal.ghosts-decode_on_into
ghosts-decode_on_into a = record { name = a.blank.name; parts = a.blank.parts }
