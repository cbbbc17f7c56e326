use Rattle.block_encoder.proofs.pushed_calls.laws_below.laws_below.Goals as goal

pub returns : goal.returns
returns c = record {
  encodings = c.encodings_are_plain.ensures;
  distances = c.near_addresses_are_reached.ensures;
  targets = c.spellings_are_moved.ensures;
}
