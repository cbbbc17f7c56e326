use Rattle.std.proofs.Common.{◌≡◌, length, rules}
use Rattle.row_meaning.proofs.InstrLaws.{four_set, address_size_kept, instr_made}
use Rattle.row_meaning.proofs.given.given_instr_into.Goals as goal

pub returns-then-matches-2 : goal.returns-then-matches-2
returns-then-matches-2 c =
    let four : length c.args.out.now.ops ≡ 4 = search rules in
    let kinds : length c.args.row.now.ops ≡ 4 = search rules in
    instr_made c.args.given.now.bits c.args.code c.args.row.now c.args.state.now _ c.args.given.now.behind.now.imm.now _ _ _
    (four_set c.args.out.now.ops _ _ _ _ _ _ _ _ four c.first_operand_into-first.ensures.operand c.second_operand_into-second.ensures.operand c.absent_into-third.ensures.operand c.absent_into-fourth.ensures.operand)
    c.kept_repeat-out.ensures
    (address_size_kept c.args.given.now.bits c.args.row.now c.args.state.now c.args.given.now.behind.now.modrm _ _ _ _ _ _ kinds
    c.first_operand_into-first.ensures.memory c.second_operand_into-second.ensures.memory c.absent_into-third.ensures.memory c.absent_into-fourth.ensures.memory
    c.any_of-memory.ensures c.kept_address_size-out.ensures)

pub returns-else-matches : goal.returns-else-matches
returns-else-matches c =
    let four : length c.args.out.now.ops ≡ 4 = search rules in
    let kinds : length c.args.row.now.ops ≡ 4 = search rules in
    instr_made c.args.given.now.bits c.args.code c.args.row.now c.args.state.now _ c.args.given.now.behind.now.imm.now _ _ _
    (four_set c.args.out.now.ops _ _ _ _ _ _ _ _ four c.first_operand_into-first.ensures.operand c.second_operand_into-second.ensures.operand c.given_operand_into-third.ensures.operand c.given_operand_into-fourth.ensures.operand)
    c.kept_repeat-out.ensures
    (address_size_kept c.args.given.now.bits c.args.row.now c.args.state.now c.args.given.now.behind.now.modrm _ _ _ _ _ _ kinds
    c.first_operand_into-first.ensures.memory c.second_operand_into-second.ensures.memory c.given_operand_into-third.ensures.memory c.given_operand_into-fourth.ensures.memory
    c.any_of-memory-else-matches.ensures c.kept_address_size-out-else-matches.ensures)
