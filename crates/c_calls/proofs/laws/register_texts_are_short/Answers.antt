use Rattle.c_calls.specs.Names.{segment_shown}
use Rattle.c_calls.specs.Numbers.{style_numbered, register_numbered, prefix_numbered}
use Rattle.c_calls.proofs.ShortTexts.{registers-short}
use Rattle.c_calls.proofs.laws.register_texts_are_short.Goals as goal

pub returns-clause-registers : goal.returns-clause-registers
returns-clause-registers c = λ syntax class n. registers-short (style_numbered syntax) (register_numbered class n)

pub returns-clause-segments : goal.returns-clause-segments
returns-clause-segments c = λ syntax prefix. registers-short (style_numbered syntax) (segment_shown (prefix_numbered prefix))
