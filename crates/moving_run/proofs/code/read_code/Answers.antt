use Rattle.std.proofs.Common.{◌≡◌, ℕ, suc, ◌-◌, ◌≤◌, [], ◌∷◌, List, None, length, get_or, drop, refl, subst, arith, drop-cons, drop_of_length-le, add-one}
use Rattle.std.proofs.lemmas.Result.{err_from_is_err_and}
use Rattle.moving_run.specs.declared.command_words.commands.BlockWords.{BlockWords}
use Rattle.moving_run.specs.Code.{next_block_bytes}
use Rattle.moving_run.specs.Read.{ReadsBlock, IsBlockError}
use Rattle.moving_run.proofs.Cutting.{cut_length}
use Rattle.moving_run.proofs.Blocks.{blocks-start, blocks-step, blocks-end, blocks-stop}
use Rattle.moving_run.proofs.code.read_code.Goals as goal

abbrev word_at : List BlockWords → ℕ → BlockWords
word_at words k = get_or words k (record { old = 0; new = 0; len = None })

pub loop-word-init : goal.loop-word-init
loop-word-init c = blocks-start _ _ _ _ _ c.new-items.ensures.items c.new-spans.ensures.items

pub read_block-requires-clause-short : goal.read_block-requires-clause-short
read_block-requires-clause-short c =
    let word = word_at c.args.words.now c.loop-word.word-index in
    rw c.cut.ensures.block (omega (arith, cut_length word.len c.loop-word.rest.now, c.loop-word.invariant.within, c.requires.short))

pub read_block-requires-clause-few : goal.read_block-requires-clause-few
read_block-requires-clause-few c = omega (arith, c.loop-word.invariant.room, c.loop-word.items.ok)

pub returns-in_err-found : goal.returns-in_err-found
returns-in_err-found c =
    let p = err_from_is_err_and c.from_residual.result c.from_residual.ensures.1 in
    let words = c.args.words.now in
    let k = c.loop-word.word-index in
    let word = word_at words k in
    let rest = c.loop-word.rest.now in
    let front : drop k words ≡ word ∷ drop (suc k) words = drop-cons words k _ c.loop-word-test.true in
    let begun = rw front at c.loop-word.invariant in
    let start = length c.args.input.now - length rest in
    let B : List ℕ → Type 0 = λ xs. IsBlockError c.args.bits word.old start xs c.in_err-found.field-0.0 in
    let stopped : IsBlockError c.args.bits word.old start (next_block_bytes word.len rest) c.in_err-found.field-0.0 = subst B c.cut.ensures.block c.in_err-found.ensures.read in
    rw (p.1, p.2) (blocks-stop _ _ _ word _ rest _ _ c.loop-word.count start _ begun refl stopped)

pub loop-word-preserved : goal.loop-word-preserved
loop-word-preserved c =
    let words = c.args.words.now in
    let k = c.loop-word.word-index in
    let word = word_at words k in
    let rest = c.loop-word.rest.now in
    let front : drop k words ≡ word ∷ drop (suc k) words = drop-cons words k _ c.loop-word-test.true in
    let begun = rw front at c.loop-word.invariant in
    let R : List ℕ → Type 0 = λ xs. ReadsBlock c.args.bits word.old xs c.loop-word.items.items c.read_block.new.items.items c.in_ok-found.found in
    let read : R (next_block_bytes word.len rest) = subst R c.cut.ensures.block c.in_ok-found.ensures.read in
    let room : length c.read_block.new.items.items ≤ 65536 = omega (arith, c.in_ok-found.ensures.few, c.read_block.new.items.ok) in
    let more = blocks-step _ _ _ word _ rest _ _ _ c.loop-word.count c.in_ok-found.found begun read room in
    rw (add-one, c.cut.ensures.rest, c.from-count.ensures, c.in_ok-add_span.ensures) more

pub returns : goal.returns
returns c =
    let b = c.loop-word.invariant in
    let done : drop c.loop-word.word-index c.args.words.now ≡ [] = drop_of_length-le c.args.words.now (omega (arith, c.loop-word-test.false)) in
    blocks-end _ _ _ _ _ (rw done at b)
