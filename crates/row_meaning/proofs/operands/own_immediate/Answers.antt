use Rattle.std.proofs.Common.{ap, ◌∙◌, arith, length}
use Rattle.std.proofs.lemmas.List.{length-drop}
use Rattle.row_fit.specs.Fits.{immediate_bytes, kind_at}
use Rattle.row_meaning.specs.Meaning.{immediates_before, own_immediate}
use Rattle.row_meaning.proofs.ImmediateLaws.{before_within, whole_list}
use Rattle.row_meaning.proofs.operands.own_immediate.Goals as goal

-- an operand whose immediate is as long as all of them has them all
pub returns-then-len-imm : goal.returns-then-len-imm
unfolding own_immediate
returns-then-len-imm c =
    let within = before_within c.args.size c.args.row.now c.args.n c.requires.number in
    let before = immediates_before c.args.size c.args.row.now c.args.n in
    let own = immediate_bytes c.args.size (kind_at c.args.row.now c.args.n) in
    whole_list c.args.imm.now before own (omega (arith, c.if-len-imm.true, c.requires.len)) (omega (arith, within, c.requires.whole))

-- the bytes before operand n are there
pub split_at-requires : goal.split_at-requires
split_at-requires c =
    let within = before_within c.args.size c.args.row.now c.args.n c.requires.number in
    omega (arith, within, c.requires.whole, c.immediates_before.ensures)

-- and so are its own
pub split_at-requires-else-len-imm : goal.split_at-requires-else-len-imm
split_at-requires-else-len-imm c =
    let within = before_within c.args.size c.args.row.now c.args.n c.requires.number in
    let len = ap length c.split_at.ensures.back ∙ length-drop c.immediates_before.result c.args.imm.now in
    omega (arith, within, c.requires.whole, c.immediates_before.ensures, c.requires.len, len)
