use Rattle.decoder.proofs.ByteOffsets.FrontRead.{offsets_unique}
use Rattle.decoder.proofs.byte_offsets.laws.offsets_are_unique.Goals as goal

pub returns : goal.returns
returns c = offsets_unique c.spellings_are_unique.ensures
