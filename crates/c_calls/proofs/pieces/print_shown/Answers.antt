use Rattle.std.proofs.Common.{◌≡◌, refl, ◌∙◌}
use Rattle.x86_values.specs.declared.Bits.{Bits}
use Rattle.x86_values.specs.declared.Instr.{Instr}
use Rattle.text_parts.specs.declared.style.Style.{Style}
use Rattle.text_parts.specs.declared.style.Style.TheVariants.{Intel, Masm, Att}
use Rattle.text_pieces.specs.Pieces.{text_of}
use Rattle.c_calls.specs.Answers.{style_text}
use Rattle.c_calls.proofs.pieces.print_shown.Goals as goal

-- the text of the pieces is that of the style's printer
same-text : (style : Style) (bits : Bits) (i : Instr) → text_of style bits i ≡ style_text style bits i
unfolding text_of
same-text Intel bits i = refl
same-text Masm bits i = refl
same-text Att bits i = refl

pub returns-clause-text : goal.returns-clause-text
returns-clause-text c = c.print_pieces.ensures.text ∙ same-text c.args.style c.args.bits c.args.instr.now
