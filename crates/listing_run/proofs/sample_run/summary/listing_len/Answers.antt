use Rattle.std.proofs.Common.{ℕ, ◌<◌, length, arith, ◌∙◌, ap, refl}
use Rattle.decoder.specs.Answer.{reading_of}
use Rattle.listing_run.proofs.SampleRun.Listed.{listed-more, listed-end}
use Rattle.std.specs.Prelude.{◌≡◌, take}
use Rattle.opcode_rows.specs.Sweep.{item_len}
use Rattle.listing_run.proofs.sample_run.summary.listing_len.Goals as goal

pub loop-at-preserved : goal.loop-at-preserved
loop-at-preserved c =
    let rest = c.split_at.result.1.now in
    let some : 0 < length rest = omega (arith, c.split_at.ensures.back_len, c.loop-at-test.true) in
    let takes = c.read_at-reading.ensures.takes some in
    let front : c.split_at-in-loop-at.result.0.now ≡ take (item_len (reading_of c.read_at-reading.result)) rest
    = c.split_at-in-loop-at.ensures.front ∙ ap (λ (n : ℕ). take n rest) c.item_len.ensures
    in
    record {
      listed = listed-more c.items_stand_in_turn.ensures c.args.code.now c.loop-at.at c.loop-at.text (reading_of c.read_at-reading.result) rest c.split_at-in-loop-at.result.0.now c.loop-at.line.items
          c.append_line.new.out.items (length c.split_at-in-loop-at.result.0.now) c.len.result c.loop-at.invariant.listed c.split_at.ensures.back c.read_at-reading.ensures.reading
          takes front c.loop-at.invariant.empty c.append_line.ensures.items (omega (arith, c.len.ensures.value, c.len.ensures.fits)) refl c.len.ensures.value;
      empty = c.clear.ensures;
    }

pub returns : goal.returns
returns c = listed-end c.items_stand_in_turn.ensures c.args.code.now c.loop-at.at c.loop-at.text c.loop-at.invariant.listed c.loop-at-test.false
