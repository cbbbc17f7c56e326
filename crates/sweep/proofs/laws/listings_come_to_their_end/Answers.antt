use Rattle.byte_ports.specs.Ports.{Rose}
use Rattle.sweep.proofs.Completing.{completes_listing}
use Rattle.sweep.proofs.laws.listings_come_to_their_end.Goals as goal

pub returns : goal.returns
returns c = record {
  completes_listing = λ bits base syntax left left' held held' read read' put put' result.
      completes_listing c.told_bytes_are_read.ensures bits base syntax left left' held held' (Rose read read') (Rose put put') result;
}
