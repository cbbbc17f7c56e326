use Rattle.std.proofs.Common.{add-one}
use Rattle.intel_words.specs.declared.words.SizeName.TheVariants.{None as NoSize}
use Rattle.assembly_text.proofs.Reading.{one_more}
use Rattle.assembly_text.proofs.readings.read_sizes.Goals as goal

pub sizes-preserved : goal.sizes-preserved
sizes-preserved c = record {
  read = rw add-one (one_more c.args.bits c.args.ip c.args.low.now c.args.s.now c.sizes_of-sizes.result.now c.sizes.k NoSize _ _ _
      c.sizes-test.true c.sizes.invariant.read c.in_ok-read_size.ensures.found);
  head = c.in_ok-read_size.ensures.head;
}
