-- Without a relative branch the plain spelling elsewhere is what the instruction has.
use Rattle.block_encoder.proofs.Reached.{other-reached}
use Rattle.block_encoder.proofs.laws.only_targets_are_too_far.Goals as goal

pub returns : goal.returns
returns c = λ bits items spans s placed few layout least inside k lt own reaches.
    other-reached c.laws_below.ensures bits items spans s placed layout least.closed.is_layout inside k lt own reaches
