use Rattle.operand_info.specs.Operands.{address_use, uses_of}
use Rattle.instruction_info.proofs.Pushed.{two_named}
use Rattle.instruction_info.proofs.registers.push_operand.Goals as goal

pub returns-in-Mem-clause-items : goal.returns-in-Mem-clause-items
unfolding uses_of
returns-in-Mem-clause-items c =
    let m = c.in-Mem.m in
    rw c.in-Mem.is
    (two_named c.args.replaced (address_use m.base) (address_use m.index) c.args.uses.now.items _ _
    (c.push_address.ensures.items c.args.replaced) (c.push_address-in-Mem.ensures.items c.args.replaced))
