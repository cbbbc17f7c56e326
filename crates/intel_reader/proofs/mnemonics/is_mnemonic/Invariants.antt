use Rattle.std.proofs.Common.{◌≡◌, ℕ, ◌<◌, ◌≤◌, Some, slice_get}
use Rattle.opcode_rows.specs.declared.generated_spots.TheConstants.{ROWS}
use Rattle.opcode_rows.specs.Table.{name_of}
use Rattle.intel_reader.specs.Buckets.{order}
use Rattle.intel_reader.proofs.mnemonics.is_mnemonic.Given as goal

abbrev pub invariant-loop-index : goal.invariant-loop-index
invariant-loop-index l =
    (code : ℕ) → code < ROWS → name_of code ≡ l.name → (k : ℕ) → l.initial.index ≤ k → k < l.index → slice_get order k ≡ Some code → ⊥
