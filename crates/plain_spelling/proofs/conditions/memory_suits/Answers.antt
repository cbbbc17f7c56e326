use Rattle.std.proofs.Common.{◌≡◌, true, sym}
use Rattle.instruction_parts.specs.Kinds.{method_of, file_of}
use Rattle.plain_spelling.specs.Addresses.{is_by_modrm, is_based}
use Rattle.plain_spelling.proofs.BasedAddresses.{based-suits}
use Rattle.plain_spelling.proofs.conditions.memory_suits.Goals as goal

pub returns-then-is_based : goal.returns-then-is_based
returns-then-is_based c =
    let h : is_by_modrm (method_of c.args.kind) ≡ true = cc in
    let t : is_based c.args.bits c.args.memory ≡ true = cc in
    sym (based-suits c.args.bits c.args.row.now c.args.asize c.args.next (method_of c.args.kind) (file_of c.args.kind) c.args.memory h t)
