use Rattle.std.proofs.Common.{◌≡◌, Option, None, true, false, ap, sym, ◌∙◌}
use Rattle.x86_values.specs.declared.Bits.{Bits}
use Rattle.intel_reader.specs.Candidate as spec
use Rattle.intel_reader.specs.Possible.{has_size, size_allowed}
use Rattle.intel_reader.proofs.AllowedWords.{made_given, only_none, size_there}
use Rattle.intel_reader.proofs.Leading.{four}
use Rattle.intel_reader.proofs.choice.with_row.Goals as goal

pub returns-clause-covers : goal.returns-clause-covers
returns-clause-covers c = λ b asize size k e.
    four c.args.bits c.args.ip c.args.text.now c.with_sizes.new.best c.with_sizes-2.new.best c.with_sizes-3.new.best c.with_sizes-4.new.best b
    (λ (z : Option Bits). spec.candidate c.args.bits c.args.row.now c.args.code c.args.words.now z size ≡ b.instr)
    c.with_sizes-2.ensures.progress c.with_sizes-3.ensures.progress c.with_sizes-4.ensures.progress
    (λ p. c.with_sizes.ensures.covers b size k p) (λ p. c.with_sizes-2.ensures.covers b size k p)
    (λ p. c.with_sizes-3.ensures.covers b size k p) (λ p. c.with_sizes-4.ensures.covers b size k p) asize e

pub returns-then-not-has_size-clause-covers : goal.returns-then-not-has_size-clause-covers
returns-then-not-has_size-clause-covers c = λ b asize size k e.
    let g = made_given c.args.bits c.args.ip c.args.text.now b c.args.row.now c.args.code c.args.words.now asize size k c.requires.row e in
    let allowed : size_allowed c.args.bits c.args.row.now c.args.words.now asize ≡ true = size_there c.args.bits _ c.args.row.now c.args.code c.args.words.now asize size g in
    let without : has_size c.args.row.now c.args.words.now ≡ false = cc (c.has_size.ensures, c.if-not-has_size.true) in
    let none : asize ≡ None = only_none c.args.bits c.args.row.now c.args.words.now asize without allowed in
    c.with_sizes.ensures.covers b size k
    (ap (λ (z : Option Bits). spec.candidate c.args.bits c.args.row.now c.args.code c.args.words.now z size) (sym none) ∙ e)
