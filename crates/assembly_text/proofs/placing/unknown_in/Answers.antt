use Rattle.std.proofs.Common.{◌∙◌}
use Rattle.assembly_text.specs.Placing.{freed_text}
use Rattle.assembly_text.proofs.Spelling.{placed_by}
use Rattle.assembly_text.proofs.placing.unknown_in.Goals as goal

pub returns : goal.returns
returns c = (
  c.in_ok-code.code,
  (
    placed_by c.args.bits c.args.base c.args.text.now c.deref.result.now (freed_text c.args.text.now) c.in_ok-code.code
        (c.deref.ensures.value ∙ c.in_ok-other.ensures) c.in_ok-code.ensures,
    c.refusal_of.ensures,
  ),
)
