use Rattle.std.proofs.Common.{◌≡◌, ◌<◌, ◌≤◌, ℕ, true, Some, slice_get}
use Rattle.intel_words.specs.declared.words.SizeName.{SizeName}
use Rattle.intel_reader.specs.Buckets.{order}
use Rattle.intel_reader.specs.Sizes.{has_size, IsRowSize}
use Rattle.intel_reader.proofs.sizes.sizes_of_rows.Given as goal

abbrev pub invariant-loop-index : goal.invariant-loop-index
invariant-loop-index l = record {
  all : (size : SizeName) (s : IsRowSize l.fn.bits l.words l.name l.n size) (k : ℕ) → l.initial.index ≤ k → k < l.index → slice_get order k ≡ Some s.code
      → has_size l.set size ≡ true;
  only : (size : SizeName) → has_size l.set size ≡ true → IsRowSize l.fn.bits l.words l.name l.n size;
}
