use Rattle.std.proofs.Common.{◌≡◌, map, refl}
use Rattle.std.proofs.lemmas.Result.{on_ok_weaker}
use Rattle.text_pieces.specs.Tokens.{placed, characters_at}
use Rattle.text_pieces.specs.Pieces.{pieces_of, text_of}
use Rattle.text_options.proofs.Placed.{whole-text}
use Rattle.text_options.proofs.append_shown.Goals as goal

pub returns-clause-done : goal.returns-clause-done
returns-clause-done g c =
    let text : c.deref.result.now ≡ text_of c.args.style c.args.bits c.args.instr.now = cc in
    let items : c.as_slice-made.result.now ≡ placed 0 (pieces_of c.args.style c.args.bits c.args.instr.now) = cc in
    let own : map (characters_at (text_of c.args.style c.args.bits c.args.instr.now)) c.as_slice-made.result.now ≡ map (λ t. t.characters) (pieces_of c.args.style c.args.bits c.args.instr.now) = cc in
    on_ok_weaker c.append_comments.result
    (whole-text c.args.style c.args.options.now c.args.bits c.args.instr.now c.args.end (g.S.Symbols.names c.args.symbols.now) c.view_of-view.result
    c.args.out.now.items c.append_pieces.new.out.items c.append_comments.new.out.items c.deref.result.now c.as_slice-made.result.now c.as_slice-made.result.now
    c.view_of-view.ensures text items own refl c.in_ok-append_pieces.ensures.done)
    c.append_comments.ensures.done
