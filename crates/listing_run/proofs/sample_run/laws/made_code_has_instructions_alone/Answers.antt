use Rattle.listing_run.proofs.SampleRun.Sweeping.{has-instructions}
use Rattle.listing_run.proofs.sample_run.laws.made_code_has_instructions_alone.Goals as goal

pub returns : goal.returns
returns c = has-instructions
