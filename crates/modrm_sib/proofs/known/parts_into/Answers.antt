use Rattle.row_fit.specs.Fits.{modrm_in_range, sib_in_range}
use Rattle.std.proofs.Common.{refl}
use Rattle.modrm_sib.proofs.known.parts_into.Goals as goal

pub returns-then-not-has_modrm-clause-modrm : goal.returns-then-not-has_modrm-clause-modrm
unfolding modrm_in_range
returns-then-not-has_modrm-clause-modrm c = rw c.requires.modrm refl

pub returns-then-not-has_modrm-clause-sib : goal.returns-then-not-has_modrm-clause-sib
unfolding sib_in_range
returns-then-not-has_modrm-clause-sib c = rw c.requires.sib refl

pub returns-then-not-needs_sib-clause-sib : goal.returns-then-not-needs_sib-clause-sib
unfolding sib_in_range
returns-then-not-needs_sib-clause-sib c = rw c.requires.sib refl
