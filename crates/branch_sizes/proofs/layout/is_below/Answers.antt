use Rattle.std.proofs.Common.{◌^◌, ◌≤◌, arith}
use Rattle.std.proofs.lemmas.Bool.{le-leb}
use Rattle.std.proofs.Math.Pow.{pow_mono}
use Rattle.branch_sizes.proofs.layout.is_below.Goals as goal

pub returns-then-bits-ge96 : goal.returns-then-bits-ge96
returns-then-bits-ge96 c =
    let up : 2 ^ 96 ≤ 2 ^ c.args.bits = pow_mono c.if-bits-ge96.true in
    (λ t. omega (arith, up, c.requires), λ h. le-leb 96 c.args.bits c.if-bits-ge96.true)
