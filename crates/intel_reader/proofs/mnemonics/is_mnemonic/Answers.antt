use Rattle.std.proofs.Common.{arith}
use Rattle.intel_reader.proofs.RowNames.{named_is_mnemonic, other_mnemonic}
use Rattle.intel_reader.proofs.mnemonics.is_mnemonic.Goals as goal

pub returns-then-is_named_at : goal.returns-then-is_named_at
returns-then-is_named_at c = named_is_mnemonic c.args.name.now (c.is_named_at.ensures.named c.if-is_named_at.true)

pub returns : goal.returns
returns c = other_mnemonic c.args.name.now c.is_counter_word.result
    (λ code lt e.
    let at = c.indices_of-indices.ensures.found code lt e in
    c.loop-index.invariant code lt e at.0 at.1 (omega (arith, at.2, c.loop-index-test.false)) at.3)
    c.is_counter_word.ensures
