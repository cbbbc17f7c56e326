use Rattle.std.proofs.Common.{◌≡◌, true, sym, ◌∙◌}
use Rattle.intel_reader.specs.Lengths.{least_len, is_behind}
use Rattle.intel_reader.specs.Possible.{displacement_allowed}
use Rattle.intel_reader.proofs.AllowedWords.{made_given, displacement_there}
use Rattle.intel_reader.proofs.LeastLengths.{left_behind}
use Rattle.intel_reader.proofs.choice.with_candidate.Goals as goal

pub returns-then-not-displacement_allowed-clause-covers : goal.returns-then-not-displacement_allowed-clause-covers
returns-then-not-displacement_allowed-clause-covers c = λ b k e.
    let g = made_given c.args.bits c.args.ip c.args.text.now b c.args.row.now c.args.code c.args.words.now c.args.asize c.args.size k c.requires.row e in
    let allowed : displacement_allowed c.args.bits c.args.row.now c.args.words.now c.args.asize c.args.size ≡ true =
    displacement_there c.args.bits _ c.args.row.now c.args.code c.args.words.now c.args.asize c.args.size g in
    cc (allowed, c.displacement_allowed.ensures, c.if-not-displacement_allowed.true)

pub returns-then-is_behind-clause-covers : goal.returns-then-is_behind-clause-covers
returns-then-is_behind-clause-covers c = λ b k e.
    let h : is_behind c.args.best.now c.args.code.0 (least_len c.args.bits c.args.row.now c.args.words.now c.args.size) ≡ true =
    sym c.is_behind.ensures ∙ c.if-is_behind.true in
    left_behind c.args.bits c.args.ip c.args.text.now b c.args.row.now c.args.code c.args.words.now c.args.asize c.args.size c.args.best.now k c.requires.row e h
