use Rattle.std.proofs.Common.{◌≡◌, length, rules}
use Rattle.intel_words.proofs.FourPlaces.{operands_read}
use Rattle.intel_words.proofs.reading.operands_into.Goals as goal

pub returns : goal.returns
returns c =
    let places : length c.args.ops.now ≡ 4 = search rules in
    operands_read c.args.text.now _ _ _ _ _ _ _ c.args.ops.now _ _ _ _ places
    c.split_operand.ensures.token c.split_operand.ensures.next c.split_operand-2.ensures.token c.split_operand-2.ensures.next
    c.split_operand-3.ensures.token c.split_operand-3.ensures.next c.split_operand-4.ensures.token
    c.in_ok-operand_into.ensures c.in_ok-operand_into-2.ensures c.in_ok-operand_into-3.ensures c.in_ok-operand_into-4.ensures
