use Rattle.instruction_info.proofs.LawTests.{version1-needs}
use Rattle.instruction_info.proofs.laws.features_have_their_versions.Goals as goal

pub returns : goal.returns
returns c = version1-needs
