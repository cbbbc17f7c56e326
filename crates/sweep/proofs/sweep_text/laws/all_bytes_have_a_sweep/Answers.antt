use Rattle.std.proofs.Common.{ℕ, ◌+◌, ◌<◌, List, [], ◌∷◌, ◌++◌, length, drop, sym, subst, arith}
use Rattle.decoder.specs.Answer.{reading_of}
use Rattle.opcode_rows.specs.Sweep.{IsReadAt}
use Rattle.sweep.specs.SweepText.Sweeping.{TakesSome, SweptTo, item_read}
use Rattle.sweep.proofs.SweepText.Covering.{swept-start, swept-step, swept-end}
use Rattle.sweep.proofs.sweep_text.laws.all_bytes_have_a_sweep.Goals as goal

pub loop-at-init : goal.loop-at-init
loop-at-init c = ([], swept-start c.args.bits c.args.base c.args.bytes.now)

pub loop-at-preserved : goal.loop-at-preserved
loop-at-preserved c =
    let bytes = c.args.bytes.now in
    let at = c.loop-at.at in
    let items = c.loop-at.invariant.0 in
    let rest = c.split_at.result.1.now in
    let reading = reading_of c.read_at.result in
    let some : 0 < length rest = omega (arith, c.split_at.ensures.back_len, c.loop-at-test.true) in
    let R : List ℕ → Type 0 = λ xs. IsReadAt c.args.bits c.args.base at xs reading in
    let T : List ℕ → Type 0 = λ xs. TakesSome reading (length xs) in
    let more = items ++ item_read at (drop at bytes) reading ∷ [] in
    let S : ℕ → Type 0 = λ n. SweptTo c.args.bits c.args.base bytes (at + n) more in
    let step = swept-step c.args.bits c.args.base at bytes items reading c.loop-at.invariant.1
    (subst R c.split_at.ensures.back c.read_at.ensures.reading)
    (subst T c.split_at.ensures.back (c.read_at.ensures.takes some)) in
    (more, subst S (sym c.item_len-at.ensures) step)

pub returns : goal.returns
returns c =
    let items = c.loop-at.invariant.0 in
    (items, swept-end c.args.bits c.args.base c.loop-at.at c.args.bytes.now items c.loop-at.invariant.1 c.loop-at-test.false)
