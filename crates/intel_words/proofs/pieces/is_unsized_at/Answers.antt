use Rattle.std.proofs.Common.{◌≡◌, length, arith, rules}
use Rattle.std.proofs.lemmas.List.{get_or_past}
use Rattle.intel_words.specs.declared.words.OperandText.TheVariants.{Absent}
use Rattle.intel_words.specs.Pieces.{is_unsized}
use Rattle.intel_words.proofs.pieces.is_unsized_at.Goals as goal

pub returns-else-n-lt4 : goal.returns-else-n-lt4
unfolding is_unsized
returns-else-n-lt4 c =
    let places : length c.args.words.now.ops ≡ 4 = search rules in
    let past = get_or_past c.args.words.now.ops c.args.n Absent (omega (arith, places, c.if-n-lt4.false)) in
    rw past (search rules)
