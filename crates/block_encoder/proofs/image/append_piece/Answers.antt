use Rattle.std.proofs.Common.{rules}
use Rattle.encoder.specs.Encoding.{encoding}
use Rattle.block_encoder.proofs.Appending.{written_at, piece_ok, piece_err}
use Rattle.block_encoder.proofs.image.append_piece.Goals as goal

pub returns-in_ok-extend_from_slice-in-Ok-clause-piece :
    goal.returns-in_ok-extend_from_slice-in-Ok-clause-piece
returns-in_ok-extend_from_slice-in-Ok-clause-piece c =
    let w = written_at c.wrapped_twice.ensures c.args.bits c.args.at c.wrap.result c.args.instr.now c.encode.result c.wrap.ensures c.encode.ensures.encoding in
    let here = rw c.in-Ok.is at w in
    piece_ok (encoding c.args.bits c.args.at c.args.instr.now) c.in-Ok.piece.items c.args.bytes.now.items c.extend_from_slice.new.self.items
    c.args.at c.len.result here (search rules) (search rules)

pub returns-in-Err-clause-piece : goal.returns-in-Err-clause-piece
returns-in-Err-clause-piece c =
    let w = written_at c.wrapped_twice.ensures c.args.bits c.args.at c.wrap.result c.args.instr.now c.encode.result c.wrap.ensures c.encode.ensures.encoding in
    let here = rw c.in-Err.is at w in
    piece_err (encoding c.args.bits c.args.at c.args.instr.now) _ c.args.bytes.now.items c.args.bytes.now.items c.args.at here
