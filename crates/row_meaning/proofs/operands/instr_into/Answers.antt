use Rattle.std.proofs.Common.{◌≡◌, length, rules}
use Rattle.row_meaning.proofs.InstrLaws.{four_set, address_size_kept, instr_made}
use Rattle.row_meaning.proofs.operands.instr_into.Goals as goal

pub returns : goal.returns
returns c =
    let four : length c.args.out.now.ops ≡ 4 = search rules in
    let kinds : length c.args.row.now.ops ≡ 4 = search rules in
    instr_made c.args.bits c.args.code c.args.row.now c.args.state.now _ c.args.behind.now.imm.now _ _ _
    (four_set c.args.out.now.ops _ _ _ _ _ _ _ _ four c.operand_at_into-first.ensures.operand c.operand_at_into-second.ensures.operand c.operand_at_into-third.ensures.operand c.operand_at_into-fourth.ensures.operand)
    c.kept_repeat-out.ensures
    (address_size_kept c.args.bits c.args.row.now c.args.state.now c.args.behind.now.modrm _ _ _ _ _ _ kinds
    c.operand_at_into-first.ensures.memory c.operand_at_into-second.ensures.memory c.operand_at_into-third.ensures.memory c.operand_at_into-fourth.ensures.memory
    c.any_of.ensures c.kept_address_size-out.ensures)
