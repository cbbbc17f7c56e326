use Rattle.std.proofs.Common.{◌≤◌, ◌<◌, ◌≡◌, ◌+◌, length, arith, sym, ◌∙◌}
use Rattle.std.proofs.lemmas.Bool.Decides.{nat_tests}
use Rattle.assembly_text.specs.Drafts.{with_words}
use Rattle.assembly_text.proofs.Passing.{one_word, no_word}
use Rattle.assembly_text.proofs.drafts.with_words.Goals as goal

pub words-preserved : goal.words-preserved
words-preserved c =
    let rest = c.words.rest.now in
    let n = c.word_len-len.result in
    let long : 0 < length rest = omega (arith, c.word_len-len.ensures.some, c.word_len-len.ensures.within) in
    let step = one_word c.words.d c.words.at n rest c.word_len-len.ensures.some c.word_len-len.ensures.value long in
    let is : with_words c.words.d c.words.at 0 rest ≡ with_words c.with_word.new.d (c.words.at + n) 0 c.split_at.result.1.now =
    rw (c.with_word.ensures, c.class_of.ensures, c.split_at.ensures.front, c.split_at.ensures.back) step in
    record {
      same = c.words.invariant.same ∙ is;
      near = omega (arith, c.words.invariant.near, c.split_at.ensures.back_len, c.word_len-len.ensures.within);
    }

pub returns : goal.returns
returns c =
    let none : length c.words.rest.now ≤ 0 = grind (arith, nat_tests, c.is_empty.ensures, c.words-test.false) in
    sym (c.words.invariant.same ∙ no_word c.words.d c.words.at c.words.rest.now none)
