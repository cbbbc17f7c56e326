use Rattle.std.proofs.Common.{◌≡◌, ◌++◌, map, take, drop}
use Rattle.c_calls.specs.Pieces.{flat_piece}
use Rattle.c_calls.proofs.pieces.write_pieces.Given as goal

abbrev pub invariant-pieces : goal.invariant-pieces
invariant-pieces l = l.out ≡ map flat_piece (take l.k l.pieces) ++ drop l.k l.initial.out
