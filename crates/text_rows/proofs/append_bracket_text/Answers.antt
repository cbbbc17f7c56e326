use Rattle.std.proofs.Common.{List, ℕ, ap, ◌++◌, ◌∙◌}
use Rattle.text_parts.specs.Layout.{bracket_layout}
use Rattle.text_rows.specs.BracketText.{bracket_text}
use Rattle.text_rows.proofs.AtRow.{text-known}
use Rattle.text_rows.proofs.TextAscii.{bracket_text-ascii}
use Rattle.text_rows.proofs.append_bracket_text.Goals as goal

pub returns-clause-items : goal.returns-clause-items
unfolding bracket_text
returns-clause-items g c =
    c.append_bracket_layout.ensures.items
    ∙ ap (λ (text : List ℕ). c.args.out.now.items ++ text)
    (text-known (λ row name. bracket_layout c.args.style c.args.bits row name c.args.instr.now) c.args.instr.now.code.0 _ _
    c.printed_row.ensures.row c.printed_name.ensures.name)

pub returns-clause-ascii : goal.returns-clause-ascii
returns-clause-ascii g c = bracket_text-ascii c.args.style c.args.bits c.args.instr.now c.requires.well
