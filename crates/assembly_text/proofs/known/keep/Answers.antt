use Rattle.std.proofs.Common.{◌≡◌, ◌∙◌, sym, ap, ℕ, List, ◌++◌, refl}
use Rattle.assembly_text.proofs.Keeping.{read_as}
use Rattle.assembly_text.proofs.known.keep.Goals as goal

pub put-requires-clause-line : goal.put-requires-clause-line
put-requires-clause-line c =
    let words : c.args.text.now ≡ c.try_extend_from_slice.new.self.items =
    sym (c.in-Ok.ensures.ok ∙ ap (λ (x : List ℕ). x ++ c.args.text.now) c.new-copy.ensures) in
    read_as c.args.bits c.args.known.now.bits c.args.base c.args.known.now.base c.args.text.now c.try_extend_from_slice.new.self.items c.args.read
    (sym (c.if-not-are_of.ensures.mode refl)) (sym (c.if-not-are_of.ensures.address refl)) words c.requires.read
