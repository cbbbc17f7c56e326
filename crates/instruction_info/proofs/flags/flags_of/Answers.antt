use Rattle.std.proofs.Common.{ap}
use Rattle.instruction_info.specs.Effects.{flags_read, flags_written, flags_cleared, flags_set, flags_undefined, flags_kept}
use Rattle.instruction_info.proofs.flags.flags_of.Goals as goal

pub returns-clause-read : goal.returns-clause-read
unfolding flags_read
returns-clause-read c = ap (λ e. e.read) c.effect_at-effect.ensures.effect

pub returns-clause-written : goal.returns-clause-written
unfolding flags_written
returns-clause-written c = ap (λ e. e.written) c.effect_at-effect.ensures.effect

pub returns-clause-cleared : goal.returns-clause-cleared
unfolding flags_cleared
returns-clause-cleared c = ap (λ e. e.cleared) c.effect_at-effect.ensures.effect

pub returns-clause-set_ : goal.returns-clause-set_
unfolding flags_set
returns-clause-set_ c = ap (λ e. e.set) c.effect_at-effect.ensures.effect

pub returns-clause-undefined : goal.returns-clause-undefined
unfolding flags_undefined
returns-clause-undefined c = ap (λ e. e.undefined) c.effect_at-effect.ensures.effect

pub returns-clause-kept : goal.returns-clause-kept
unfolding flags_kept
returns-clause-kept c = ap (λ e. e.kept) c.effect_at-effect.ensures.effect
