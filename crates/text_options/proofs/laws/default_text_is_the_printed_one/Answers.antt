use Rattle.text_options.proofs.Plain.{default-text}
use Rattle.text_options.proofs.laws.default_text_is_the_printed_one.Goals as goal

pub returns : goal.returns
returns c = λ names h. default-text c.args.style c.args.bits c.args.instr.now c.args.end names h
