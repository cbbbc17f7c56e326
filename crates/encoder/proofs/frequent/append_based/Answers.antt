use Rattle.std.proofs.Common.{◌∙◌, ap, ℕ, ◌+◌, ◌*◌, ◌%◌}
use Rattle.encoder.specs.Frequent.{based_bytes}
use Rattle.encoder.proofs.FrequentMemory.{written-based}
use Rattle.encoder.proofs.frequent.append_based.Goals as goal

pub returns-clause-items : goal.returns-clause-items
unfolding based_bytes
returns-clause-items c =
    let byte = c.modrm_of.ensures ∙ ap (λ (mode : ℕ). mode * 64 + c.args.reg % 8 * 8 + c.args.base % 8) c.mode_of.ensures.value in
    written-based _ _ _ _ _ _ _ _ c.push.ensures.items byte c.append_sib.ensures.items c.append_number.ensures.items
