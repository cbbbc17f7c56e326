use Rattle.instruction_parts.specs.Kinds.{method_of, file_of}
use Rattle.plain_spelling.specs.Expressible.{naming_number, is_of_kind}
use Rattle.plain_spelling.proofs.PlainFrontLaws.{byte_front-names, byte_state_size}
use Rattle.plain_spelling.proofs.conditions.is_of_kind.Goals as goal

pub returns : goal.returns
unfolding is_of_kind
returns c =
    let names =
    byte_front-names c.args.bits c.args.row.now c.args.instr.now (file_of c.args.kind)
    (naming_number (method_of c.args.kind) c.args.kind c.args.register) in
    cc

pub register_at_size-requires : goal.register_at_size-requires
register_at_size-requires c =
    let size = byte_state_size c.args.bits c.args.row.now c.args.instr.now in
    cc
