use Rattle.decoder.proofs.OneReading.{reading_same}
use Rattle.decoder.proofs.reading_laws.bytes_have_one_reading.Goals as goal

pub returns : goal.returns
returns c = record { reading_same = reading_same }
