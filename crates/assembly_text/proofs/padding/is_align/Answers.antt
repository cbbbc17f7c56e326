use Rattle.std.proofs.Common.{sym}
use Rattle.assembly_text.proofs.Aligned.{other_length}
use Rattle.assembly_text.proofs.padding.is_align.Goals as goal

pub returns-then-word-ne5 : goal.returns-then-word-ne5
returns-then-word-ne5 c = sym (other_length c.args.word.now c.if-word-ne5.true)
