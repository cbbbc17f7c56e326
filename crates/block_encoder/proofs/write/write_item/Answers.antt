use Rattle.std.proofs.Common.{◌≡◌, ◌<◌, length, arith, rules}
use Rattle.branch_sizes.specs.declared.plan.Form.TheVariants.{Itself}
use Rattle.block_encoder.proofs.Ready.{written_ready}
use Rattle.block_encoder.proofs.write.write_item.Goals.{in-Itself, in_default}
use Rattle.block_encoder.proofs.write.write_item.Goals as goal

pub returns-then-matches : goal.returns-then-matches
returns-then-matches c =
    let i = c.args.instr.now in
    let fragment = c.args.fragment.now in
    let four : length c.args.instr.now.ops ≡ 4 = search rules in
    let some : 0 < length c.args.ready.now = search (rules, arith) in
    let small : c.args.fragment.now.goal < 18446744073709551616 = search rules in
    let yes = c.if-matches.true in
    let own : c.args.fragment.now.form ≡ Itself = elim c.match-matches.branch [ in-Itself w ↦ w.in-Itself.is | in_default w ↦ (let no = w.matches-is in absurd (cc)) ] in
    let is = c.requires.ready some in (
      small,
      written_ready c.args.bits i fragment c.args.bytes.now.items c.extend_from_slice.new.self.items c.args.ready.now
          (c.without_target_nothing_changes.ensures fragment.goal i four is.untargeted) (c.without_target_all_is_reached.ensures i is.untargeted) is own
          c.in_ok-extend_from_slice.ensures.items,
    )
