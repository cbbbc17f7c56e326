use Rattle.listing_run.proofs.SampleRun.Drawing.{drawn-start, drawn-step, drawn-end}
use Rattle.listing_run.proofs.sample_run.generator.sample_code.Goals as goal

pub loop-init : goal.loop-init
loop-init c = drawn-start _ _ _ c.from-state.ensures c.new-code.ensures.items

pub loop-preserved : goal.loop-preserved
loop-preserved c = drawn-step _ c.loop.state _ c.loop.counter _ _ c.loop-test.true c.loop.invariant c.next_state-state.ensures c.in_ok-append_instruction.ensures

pub returns : goal.returns
returns c = drawn-end _ c.loop.state c.loop.counter _ c.loop-test.false c.loop.invariant
