use Rattle.block_encoder.proofs.Appending.{last_piece}
use Rattle.block_encoder.proofs.image.append_single.Goals as goal

pub returns : goal.returns
returns c =
    last_piece c.args.bits c.args.fragment.now.place c.args.image.now c.args.bytes.now.items c.append_piece.new.bytes.items
    c.in_ok-append_piece.field-0 c.is_some.result c.in_ok-append_piece.ensures.piece c.is_some.ensures
