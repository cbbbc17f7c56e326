use Rattle.std.proofs.Common.{◌≡◌, length, rules}
use Rattle.intel_reader.proofs.FourPlaces.{operands_made}
use Rattle.intel_reader.proofs.candidate.operands_into.Goals as goal

pub returns : goal.returns
returns c =
    let places : length c.args.ops.now ≡ 4 = search rules in
    operands_made c.args.row.now c.args.words.now c.args.asize c.args.disp_size c.args.ops.now _ _ _ _ _ _ _ _ places
    c.is_near_at.ensures c.is_near_at-2.ensures c.is_near_at-3.ensures c.is_near_at-4.ensures
    c.operand_into.ensures c.operand_into-2.ensures c.operand_into-3.ensures c.operand_into-4.ensures
