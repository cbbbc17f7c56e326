use Rattle.std.proofs.Common.{◌<◌, arith}
use Rattle.opcode_rows.specs.declared.generated_spots.TheConstants.{ROWS}
use Rattle.intel_reader.proofs.Choosing.{code_below, index_led}
use Rattle.intel_reader.proofs.Leading.{goes_on, stays}
use Rattle.intel_reader.proofs.TakenRows.{left_out}
use Rattle.intel_reader.proofs.choice.with_name.Goals as goal

pub returns-clause-covers : goal.returns-clause-covers
returns-clause-covers c = λ b k e.
    let below : b.instr.code.0 < ROWS = code_below c.args.bits c.args.ip c.args.text.now b k in
    let at = c.indices_of-indices.ensures.found b.instr.code.0 below e in
    c.loop-index.invariant.led b k at.0 at.1 (omega (arith, at.2, c.loop-index-test.false)) at.3

pub loop-index-preserved : goal.loop-index-preserved
loop-index-preserved c = record {
  progress = goes_on c.args.bits c.args.ip c.args.text.now c.args.best.now c.loop-index.best c.with_index.new.best c.loop-index.invariant.progress c.with_index.ensures.progress;
  led = λ b held k from lt at.
      index_led c.args.bits c.args.ip c.args.text.now c.loop-index.best c.with_index.new.best b c.loop-index.index k c.with_index.ensures.progress
      (λ below. c.loop-index.invariant.led b held k from below) (c.with_index.ensures.covers b held) (omega (arith, lt)) at;
}

pub loop-index-preserved-then-not-takes_at : goal.loop-index-preserved-then-not-takes_at
loop-index-preserved-then-not-takes_at c = record {
  progress = c.loop-index.invariant.progress;
  led = λ b held k from lt at.
      index_led c.args.bits c.args.ip c.args.text.now c.loop-index.best c.loop-index.best b c.loop-index.index k (stays c.args.bits c.args.ip c.args.text.now c.loop-index.best)
      (λ below. c.loop-index.invariant.led b held k from below)
      (λ here. absurd (left_out c.args.bits c.args.ip c.args.text.now b c.args.words.now c.loop-index.index c.args.asked c.takes_at.result held c.requires.asked c.requires.read here c.takes_at.ensures c.if-not-takes_at.true))
      (omega (arith, lt)) at;
}
