use Rattle.std.proofs.Common.{◌≡◌, arith, rules}
use Rattle.arrayvec.specs.ArrayVec.{array_vec_len}
use Rattle.plain_spelling.proofs.Asked.{displacement-short}
use Rattle.plain_spelling.proofs.tail.displacement.Goals as goal

pub append_displacement-requires : goal.append_displacement-requires
append_displacement-requires c =
    let most = displacement-short c.args.operand in
    let none : array_vec_len c.new-bytes.result ≡ 0 = search rules in
    (search rules, omega (arith, most, none))
