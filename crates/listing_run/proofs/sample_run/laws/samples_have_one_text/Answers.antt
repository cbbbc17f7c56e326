use Rattle.listing_run.proofs.SampleRun.Unique.{one-text}
use Rattle.listing_run.proofs.sample_run.laws.samples_have_one_text.Goals as goal

pub returns : goal.returns
returns c = one-text c.least_is_unique.ensures c.sweeps_agree.ensures
