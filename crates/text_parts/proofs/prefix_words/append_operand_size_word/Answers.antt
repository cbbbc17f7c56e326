use Rattle.std.proofs.Common.{◌≡◌, ◌∙◌, ap, sym, ℕ, true, List, ◌++◌, append-nil}
use Rattle.text_parts.specs.Frequent.{is_usually_quad}
use Rattle.text_parts.proofs.Frequent.{quad-word}
use Rattle.text_parts.proofs.prefix_words.append_operand_size_word.Goals as goal

pub returns-then-is_usually_quad : goal.returns-then-is_usually_quad
returns-then-is_usually_quad g c =
    let old = c.args.out.now.items in
    let h : is_usually_quad c.args.bits c.args.row.now ≡ true = cc in
    sym (ap (λ (xs : List ℕ). old ++ xs) (quad-word c.args.bits c.args.row.now h) ∙ append-nil old)
