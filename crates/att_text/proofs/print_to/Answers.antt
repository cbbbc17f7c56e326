use Rattle.std.proofs.Common.{List, ℕ, ap, ◌++◌, ◌∙◌}
use Rattle.text_rows.proofs.AtRow.{text-known}
use Rattle.att_text.specs.Text.{text_of, text}
use Rattle.att_text.proofs.Ascii.{text-ascii}
use Rattle.att_text.proofs.print_to.Goals as goal

pub returns-clause-items : goal.returns-clause-items
unfolding text
returns-clause-items g c =
    c.append_row.ensures.items
    ∙ ap (λ (text : List ℕ). c.args.out.now.items ++ text)
    (text-known (λ row name. text_of c.args.bits row name c.args.instr.now) c.args.instr.now.code.0 _ _
    c.printed_row.ensures.row c.printed_name.ensures.name)

pub returns-clause-ascii : goal.returns-clause-ascii
returns-clause-ascii g c = text-ascii c.args.bits c.args.instr.now c.requires.well
