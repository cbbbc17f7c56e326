use Rattle.std.proofs.Common.{◌+◌, ◌*◌, ◌∙◌, sym, slice_index_or}
use Rattle.intel_reader.proofs.Complete.{bucket-step, bucket-below, bucket-end}
use Rattle.intel_reader.proofs.buckets.bucket.Goals as goal

pub loop-byte-preserved : goal.loop-byte-preserved
loop-byte-preserved c = (
  bucket-below (c.loop-byte.bucket * 31 + slice_index_or c.args.name.now c.loop-byte.byte-index 0),
  sym (bucket-step c.loop-byte.bucket c.args.name.now c.loop-byte.byte-index c.loop-byte-test.true) ∙ c.loop-byte.invariant.1,
)

pub returns-clause-bucket : goal.returns-clause-bucket
returns-clause-bucket c =
    bucket-end c.loop-byte.bucket c.args.name.now c.loop-byte.byte-index c.loop-byte-test.false ∙ c.loop-byte.invariant.1
