use Rattle.std.proofs.Common.{◌≡◌, true, false, ◌∙◌}
use Rattle.x86_values.specs.declared.DispSize.{DispSize}
use Rattle.intel_reader.specs.Candidate as spec
use Rattle.intel_reader.specs.Possible.{has_address, size_allowed}
use Rattle.intel_reader.proofs.AllowedWords.{made_given, size_there, same_without_address}
use Rattle.intel_reader.proofs.Leading.{five}
use Rattle.intel_reader.proofs.choice.with_sizes.Goals as goal

pub returns-clause-covers : goal.returns-clause-covers
returns-clause-covers c = λ b size k e.
    five c.args.bits c.args.ip c.args.text.now c.with_candidate.new.best c.with_candidate-2.new.best c.with_candidate-3.new.best
    c.with_candidate-4.new.best c.with_candidate-5.new.best b
    (λ (z : DispSize). spec.candidate c.args.bits c.args.row.now c.args.code c.args.words.now c.args.asize z ≡ b.instr)
    c.with_candidate-2.ensures.progress c.with_candidate-3.ensures.progress c.with_candidate-4.ensures.progress c.with_candidate-5.ensures.progress
    (λ p. c.with_candidate.ensures.covers b k p) (λ p. c.with_candidate-2.ensures.covers b k p) (λ p. c.with_candidate-3.ensures.covers b k p)
    (λ p. c.with_candidate-4.ensures.covers b k p) (λ p. c.with_candidate-5.ensures.covers b k p) size e

pub returns-then-not-size_allowed-clause-covers : goal.returns-then-not-size_allowed-clause-covers
returns-then-not-size_allowed-clause-covers c = λ b size k e.
    let g = made_given c.args.bits c.args.ip c.args.text.now b c.args.row.now c.args.code c.args.words.now c.args.asize size k c.requires.row e in
    let allowed : size_allowed c.args.bits c.args.row.now c.args.words.now c.args.asize ≡ true =
    size_there c.args.bits _ c.args.row.now c.args.code c.args.words.now c.args.asize size g in
    cc (allowed, c.size_allowed.ensures, c.if-not-size_allowed.true)

pub returns-then-not-has_address-clause-covers : goal.returns-then-not-has_address-clause-covers
returns-then-not-has_address-clause-covers c = λ b size k e.
    let none : has_address c.args.words.now ≡ false = cc (c.has_address.ensures, c.if-not-has_address.true) in
    c.with_candidate.ensures.covers b k
    (same_without_address c.args.bits c.args.row.now c.args.code c.args.words.now c.args.asize size none ∙ e)
