use Rattle.std.proofs.Common.{◌≡◌, ◌<◌, drop}
use Rattle.intel_reader.specs.Buckets.{bucket_from}
use Rattle.intel_reader.proofs.buckets.bucket.Given as goal

abbrev pub invariant-loop-byte : goal.invariant-loop-byte
invariant-loop-byte l = (l.bucket < 1024) × (bucket_from l.bucket (drop l.byte-index l.name) ≡ bucket_from 0 l.name)
