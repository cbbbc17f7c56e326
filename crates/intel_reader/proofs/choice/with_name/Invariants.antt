use Rattle.std.proofs.Common.{◌≡◌, ◌<◌, ◌≤◌, ℕ, Some, slice_get}
use Rattle.intel_reader.specs.Buckets.{order}
use Rattle.intel_reader.specs.Assembled.{Assembly, IsCandidate}
use Rattle.intel_reader.specs.Choice.{LeadsChoice, IsProgress}
use Rattle.intel_reader.proofs.choice.with_name.Given as goal

abbrev pub invariant-loop-index : goal.invariant-loop-index
invariant-loop-index l = record {
  progress : IsProgress l.bits l.ip l.text l.fn.best l.best;
  led : (b : Assembly) → IsCandidate l.bits l.ip l.text b → (k : ℕ) → l.initial.index ≤ k → k < l.index → slice_get order k ≡ Some b.instr.code.0 → LeadsChoice l.best b;
}
