use Rattle.std.proofs.Common.{refl}
use Rattle.row_fit.specs.Fits.{modrm_in_range, sib_in_range}
use Rattle.modrm_sib.proofs.read.head_of.Goals as goal

pub returns-then-not-has_modrm-clause-modrm : goal.returns-then-not-has_modrm-clause-modrm
unfolding modrm_in_range
returns-then-not-has_modrm-clause-modrm c = refl

pub returns-then-not-has_modrm-clause-sib : goal.returns-then-not-has_modrm-clause-sib
unfolding sib_in_range
returns-then-not-has_modrm-clause-sib c = refl

pub returns-then-not-takes_sib-clause-sib : goal.returns-then-not-takes_sib-clause-sib
unfolding sib_in_range
returns-then-not-takes_sib-clause-sib c = refl
