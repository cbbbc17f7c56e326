use Rattle.std.proofs.Common.{arith}
use Rattle.c_calls.specs.Pieces.{flat_piece}
use Rattle.c_calls.proofs.PutKinds.{puts_at}
use Rattle.c_calls.proofs.pieces.write_pieces.Goals as goal

pub pieces-preserved : goal.pieces-preserved
pieces-preserved c =
    puts_at flat_piece c.args.pieces.now c.args.out.now c.pieces.k _ _ c.pieces.out c.flat_piece.ensures c.pieces.invariant (omega arith) c.requires
