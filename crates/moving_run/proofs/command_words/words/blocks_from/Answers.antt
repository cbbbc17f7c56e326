use Rattle.std.proofs.Common.{rules, ◌≡◌, ◌<◌, ◌+◌, ◌-◌, ◌*◌, ◌^◌, List, ◌∷◌, ◌++◌, [], length, drop, arith, sym, ap, ◌∙◌}
use Rattle.moving_run.specs.declared.command_words.commands.BlockWords.{BlockWords}
use Rattle.moving_run.specs.CommandWords.Words.{texts, blocks_from}
use Rattle.moving_run.proofs.CommandWords.Blocks.{three_more, two_before, blocks-full, blocks-wrong, blocks-last, blocks-more, block_read, drop_three}
use Rattle.moving_run.proofs.command_words.words.blocks_from.Goals as goal

pub overflow_add-result-in-Err : goal.overflow_add-result-in-Err
overflow_add-result-in-Err c =
    let before = two_before c.args.bits _ c.in-Err.before (sym c.in-Err.ensures) in
    let less : 3 + 3 * c.len-at.result + c.in-Err.before < 2 ^ 64 = omega arith in
    search (rules, less)

pub returns-in-Err : goal.returns-in-Err
returns-in-Err c =
    let xs = c.loop-bits.blocks.items in
    let words = texts c.args.words.now in
    let read = block_read c.args.bits c.args.words.now _ (length xs) c.len-at.result _ c.len-at.ensures.value c.split_at.ensures.back c.in-Err.ensures in
    let e = blocks-wrong (16 - length xs) (16 - (length xs + 1)) c.args.bits xs (drop (3 * length xs) words) c.in-Err.before (omega arith) read in
    let same = c.loop-bits.invariant.same in
    let len = c.len-at.ensures.value in
    cc

pub returns-then-is_none : goal.returns-then-is_none
returns-then-is_none c =
    let xs = c.loop-bits.blocks.items in
    let words = texts c.args.words.now in
    let read = block_read c.args.bits c.args.words.now _ (length xs) c.len-at.result _ c.len-at.ensures.value c.split_at.ensures.back c.in-Ok.ensures in
    let e = blocks-last (16 - length xs) (16 - (length xs + 1)) c.args.bits xs (drop (3 * length xs) words) c.in-Ok.block (omega arith) read c.if-is_none.ensures in
    let same = c.loop-bits.invariant.same in
    let pushed : c.push.new.self ≡ record { items = xs ++ c.in-Ok.block ∷ [] } = ap (λ (ys : List BlockWords). record { items = ys }) c.push.ensures.items in
    cc

pub loop-bits-preserved : goal.loop-bits-preserved
loop-bits-preserved c =
    let xs = c.loop-bits.blocks.items in
    let words = texts c.args.words.now in
    let read = block_read c.args.bits c.args.words.now _ (length xs) c.len-at.result _ c.len-at.ensures.value c.split_at.ensures.back c.in-Ok.ensures in
    let e = blocks-more (16 - length xs) (16 - (length xs + 1)) c.args.bits xs (drop (3 * length xs) words) c.in-Ok.block (omega arith) read c.if-is_none.ensures in
    let three = three_more c.args.bits c.args.words.now (length xs) c.in-Ok.block c.loop-bits.invariant.within read c.if-is_none.ensures in
    let same = c.loop-bits.invariant.same in
    let behind = drop_three words (length xs) in
    let len : length c.push.new.self.items ≡ length xs + 1 = c.push.ensures.len in
    record {
      few = omega arith;
      within = omega arith;
      same = rw (len, c.push.ensures.items) (ap (blocks_from (16 - (length xs + 1)) c.args.bits (xs ++ c.in-Ok.block ∷ [])) (sym behind) ∙ (sym e ∙ same));
    }

pub returns : goal.returns
returns c =
    let xs = c.loop-bits.blocks.items in
    let words = texts c.args.words.now in
    let full : length xs ≡ 16 = omega arith in
    let e = blocks-full (16 - length xs) c.args.bits xs (drop (3 * length xs) words) (omega arith) full in
    let same = c.loop-bits.invariant.same in
    cc
