use Rattle.std.proofs.Common.{◌≡◌, ◌+◌, Some, ap, sym, ◌∙◌, slice_get}
use Rattle.intel_reader.specs.Buckets.{bucket_of, starts}
use Rattle.intel_reader.proofs.Complete.{complete}
use Rattle.intel_reader.proofs.buckets.indices_of.Goals as goal

pub returns-clause-found : goal.returns-clause-found
returns-clause-found c = λ code lt e.
    let first : slice_get starts (bucket_of c.args.name.now) ≡ Some _ = ap (slice_get starts) (sym c.bucket-bucket.ensures.bucket) ∙ c.start_at.ensures.start in
    let end : slice_get starts (bucket_of c.args.name.now + 1) ≡ Some _ = ap (λ n. slice_get starts (n + 1)) (sym c.bucket-bucket.ensures.bucket) ∙ c.start_at-2.ensures.start in
    complete c.args.name.now _ _ code first end lt e
