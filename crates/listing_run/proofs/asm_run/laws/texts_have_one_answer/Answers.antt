use Rattle.listing_run.proofs.AsmRun.Unique as texts
use Rattle.listing_run.proofs.asm_run.laws.texts_have_one_answer.Goals as goal

pub returns : goal.returns
returns c = record { answer_unique = texts.answer_unique c.rows_are_counted.ensures }
