use Rattle.std.proofs.Common.{sym, ◌∙◌}
use Rattle.assembly_text.proofs.Sized.{left_out_by, none_out, are_pieces, are_within}
use Rattle.assembly_text.proofs.sizing.sizes_by_pieces.Goals as goal

pub cut_pieces-pieces-requires : goal.cut_pieces-pieces-requires
cut_pieces-pieces-requires c = are_within c.args.bits c.args.s.now c.args.text.now c.args.lens c.requires.text c.requires.lens

pub returns-then-are_shown : goal.returns-then-are_shown
returns-then-are_shown c =
    let p = are_pieces c.args.bits c.args.s.now c.args.text.now c.args.lens c.requires.text c.requires.lens in
    let cut = c.cut_pieces-pieces.ensures in
    λ ip low e. left_out_by c.args.bits ip low c.args.s.now c.sizes_of_address.result c.args.n _ _ _ _ _ c.requires.number (cut.head ∙ e)
    (cut.first ∙ p.0) (cut.second ∙ p.1) (cut.third ∙ p.2) (cut.fourth ∙ p.3) (sym c.are_shown.ensures ∙ c.if-are_shown.true)
    (c.sizes_of_address.ensures.refused ip)

pub returns-else-are_shown : goal.returns-else-are_shown
returns-else-are_shown c = λ ip low e. none_out c.args.bits ip low c.args.s.now
