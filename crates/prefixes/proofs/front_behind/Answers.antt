use Rattle.std.proofs.Common.{ap, sym, refl, ◌∙◌, arith, length}
use Rattle.instruction_parts.specs.Front.{front_of, long_front}
use Rattle.prefixes.specs.Answer.{answer_within_15}
use Rattle.prefixes.proofs.Runs.{answer_of-within_15, run_length}
use Rattle.prefixes.proofs.front_behind.Goals as goal

pub returns : goal.returns
unfolding front_of
returns c =
    c.within_15_bytes.ensures c.long_front-answer.new.out refl ∙ ap (answer_within_15 (length c.args.bytes.now)) c.long_front-answer.ensures
    ∙ sym (answer_of-within_15 (length c.args.bytes.now) (long_front c.args.bits c.args.bytes.now))

pub long_front-answer-requires-clause-within : goal.long_front-answer-requires-clause-within
long_front-answer-requires-clause-within c =
    let whole = run_length c.args.bits c.args.bytes.now in
    omega (arith, whole, c.requires.run)
