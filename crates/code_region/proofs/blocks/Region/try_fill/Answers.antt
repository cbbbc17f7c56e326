use Rattle.std.proofs.Common.{◌∙◌, sym}
use Rattle.code_region.proofs.Commanded.{answer-not_live, answer-too_long, answer-filled, fill-fits}
use Rattle.code_region.proofs.blocks.Region.try_fill.Goals as goal

pub fill-requires : goal.fill-requires
fill-requires c = fill-fits _ _ _ c.in-Some.limit (sym c.block_len.ensures ∙ c.in-Some.is) c.if-limit-bytes.false

pub returns-in-None-clause-answer : goal.returns-in-None-clause-answer
returns-in-None-clause-answer c = answer-not_live _ _ _ (sym c.block_len.ensures ∙ c.in-None.is)

pub returns-in-Some-clause-answer : goal.returns-in-Some-clause-answer
returns-in-Some-clause-answer c = answer-too_long _ _ _ c.in-Some.limit (sym c.block_len.ensures ∙ c.in-Some.is) c.if-limit-bytes.true

pub returns-in-Some-2-clause-answer : goal.returns-in-Some-2-clause-answer
returns-in-Some-2-clause-answer c = answer-filled _ _ _ c.in-Some.limit (sym c.block_len.ensures ∙ c.in-Some.is) c.if-limit-bytes.false
