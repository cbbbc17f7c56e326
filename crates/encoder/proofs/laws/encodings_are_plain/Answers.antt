use Rattle.std.proofs.Common.{sym}
use Rattle.row_relation.proofs.PlainLaws.ReadBack.{plain_spells, plain_reads}
use Rattle.opcode_rows.specs.Table.{table}
use Rattle.encoder.proofs.Causes.{plain_bytes_are}
use Rattle.encoder.proofs.Suited.{suits-encoded}
use Rattle.encoder.proofs.laws.encodings_are_plain.Goals as goal

pub returns : goal.returns
returns c = record {
  suits-encoded = suits-encoded;
  encoded-plain = λ bits ip i bytes four h. plain_bytes_are bits ip i bytes four (sym h);
  plain-spells = plain_spells table;
  plain-reads = plain_reads table;
}
