use Rattle.std.proofs.Common.{◌+◌, refl}
use Rattle.opcode_rows.specs.Table.{table}
use Rattle.opcode_rows.specs.Sweep.{IsReadAt}
use Rattle.decoder.proofs.Moving.{reading_at}
use Rattle.decoder.proofs.reading_laws.wrapped_addresses_read_alike.Goals as goal

pub returns : goal.returns
unfolding IsReadAt
returns c = record {
  read_at_wrapped = λ bits base offset ip bytes reading at reads. reading_at table bits ip (base + offset) bytes bytes reading at refl reads;
}
