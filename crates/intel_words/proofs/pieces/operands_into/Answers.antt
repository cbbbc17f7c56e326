use Rattle.std.proofs.Common.{◌≡◌, length, rules}
use Rattle.intel_words.proofs.FourPlaces.{pieces_read}
use Rattle.intel_words.proofs.pieces.operands_into.Goals as goal

pub returns : goal.returns
returns c =
    let places : length c.args.ops.now ≡ 4 = search rules in
    pieces_read c.args.pieces.now.first.now c.args.pieces.now.second.now c.args.pieces.now.third.now c.args.pieces.now.fourth.now c.args.ops.now _ _ _ _ places
    c.in_ok-operand_into.ensures c.in_ok-operand_into-2.ensures c.in_ok-operand_into-3.ensures c.in_ok-operand_into-4.ensures
