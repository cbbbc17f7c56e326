use Rattle.std.proofs.Common.{[], ◌∷◌, false}
use Rattle.block_encoder.proofs.Appending.{more_pieces, no_piece, last_piece}
use Rattle.block_encoder.proofs.image.append_image.Goals as goal

pub returns-in_default : goal.returns-in_default
returns-in_default c =
    rw c.in-Two.is
    (no_piece c.args.bits c.args.at c.in-Two.a (c.in-Two.b ∷ []) c.args.bytes.now.items
    c.append_piece-in-Two.new.bytes.items c.append_piece-in-Two.new.bytes.items
    c.in_ok-at-in-Two.field-0 c.in_default.is c.in_ok-at-in-Two.ensures.piece)

pub returns-in_default-2 : goal.returns-in_default-2
returns-in_default-2 c =
    rw c.in-Three.is
    (no_piece c.args.bits c.args.at c.in-Three.a (c.in-Three.b ∷ c.in-Three.c ∷ []) c.args.bytes.now.items
    c.append_piece-in-Three.new.bytes.items c.append_piece-in-Three.new.bytes.items
    c.in_ok-at-in-Three.field-0 c.in_default-2.is c.in_ok-at-in-Three.ensures.piece)

pub returns-in_default-3 : goal.returns-in_default-3
returns-in_default-3 c =
    rw c.in-Three.is
    (more_pieces c.args.bits c.args.at c.in-Some-2.at c.in-Three.a (c.in-Three.b ∷ c.in-Three.c ∷ []) c.args.bytes.now.items
    c.append_piece-in-Three.new.bytes.items c.append_piece-in-Three-2.new.bytes.items
    c.in_ok-at-in-Three.field-0 false c.in-Some-2.is c.in_ok-at-in-Three.ensures.piece
    (no_piece c.args.bits c.in-Some-2.at c.in-Three.b (c.in-Three.c ∷ []) c.append_piece-in-Three.new.bytes.items
    c.append_piece-in-Three-2.new.bytes.items c.append_piece-in-Three-2.new.bytes.items
    c.in_ok-at-in-Three-2.field-0 c.in_default-3.is c.in_ok-at-in-Three-2.ensures.piece))

pub returns-in_ok-append_piece-in-One : goal.returns-in_ok-append_piece-in-One
returns-in_ok-append_piece-in-One c =
    rw c.in-One.is
    (last_piece c.args.bits c.args.at c.in-One.a c.args.bytes.now.items c.append_piece.new.bytes.items
    c.in_ok-append_piece-in-One.field-0 c.is_some.result c.in_ok-append_piece-in-One.ensures.piece c.is_some.ensures)

pub returns-in_ok-append_piece-in-Two : goal.returns-in_ok-append_piece-in-Two
returns-in_ok-append_piece-in-Two c =
    rw c.in-Two.is
    (more_pieces c.args.bits c.args.at c.in-Some.at c.in-Two.a (c.in-Two.b ∷ []) c.args.bytes.now.items
    c.append_piece-in-Two.new.bytes.items c.append_piece-in-Two-2.new.bytes.items
    c.in_ok-at-in-Two.field-0 c.is_some-in-Two.result c.in-Some.is c.in_ok-at-in-Two.ensures.piece
    (last_piece c.args.bits c.in-Some.at c.in-Two.b c.append_piece-in-Two.new.bytes.items c.append_piece-in-Two-2.new.bytes.items
    c.in_ok-append_piece-in-Two.field-0 c.is_some-in-Two.result c.in_ok-append_piece-in-Two.ensures.piece c.is_some-in-Two.ensures))

pub returns-in_ok-append_piece-in-Three : goal.returns-in_ok-append_piece-in-Three
returns-in_ok-append_piece-in-Three c =
    rw c.in-Three.is
    (more_pieces c.args.bits c.args.at c.in-Some-2.at c.in-Three.a (c.in-Three.b ∷ c.in-Three.c ∷ []) c.args.bytes.now.items
    c.append_piece-in-Three.new.bytes.items c.append_piece-in-Three-3.new.bytes.items
    c.in_ok-at-in-Three.field-0 c.is_some-in-Three.result c.in-Some-2.is c.in_ok-at-in-Three.ensures.piece
    (more_pieces c.args.bits c.in-Some-2.at c.in-Some-3.at c.in-Three.b (c.in-Three.c ∷ []) c.append_piece-in-Three.new.bytes.items
    c.append_piece-in-Three-2.new.bytes.items c.append_piece-in-Three-3.new.bytes.items
    c.in_ok-at-in-Three-2.field-0 c.is_some-in-Three.result c.in-Some-3.is c.in_ok-at-in-Three-2.ensures.piece
    (last_piece c.args.bits c.in-Some-3.at c.in-Three.c c.append_piece-in-Three-2.new.bytes.items c.append_piece-in-Three-3.new.bytes.items
    c.in_ok-append_piece-in-Three.field-0 c.is_some-in-Three.result c.in_ok-append_piece-in-Three.ensures.piece c.is_some-in-Three.ensures)))
