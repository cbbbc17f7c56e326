use Rattle.std.proofs.Common.{◌≡◌, ◌≤◌, ◌<◌, ◌++◌, ℕ, List, length, drop, take, get_or, arith, sym, ap, ◌∙◌, append-nil, append_assoc}
use Rattle.std.proofs.lemmas.Bool.Decides.{nat_tests}
use Rattle.assembly_text.specs.Lines.{quote_behind}
use Rattle.assembly_text.specs.Constants.{resolved_from, part_for}
use Rattle.assembly_text.specs.Placing.{number_in}
use Rattle.assembly_text.proofs.Resolving.{one_part, no_part}
use Rattle.assembly_text.proofs.numbers.put_numbers.Goals as goal

pub words-preserved : goal.words-preserved
words-preserved c =
    let numbers = number_in c.args.numbers.now in
    let rest = c.words.rest.now in
    let out = c.words.out.items in
    let quote = c.words.quote in
    let n = c.part_len-len.result in
    let long : 0 < length rest = omega (arith, c.part_len-len.ensures.some, c.part_len-len.ensures.within) in
    let step = one_part numbers quote n rest c.part_len-len.ensures.some c.part_len-len.ensures.value long in
    let part = part_for numbers quote (take n rest) in
    let more = resolved_from numbers (quote_behind quote (get_or rest 0 0)) 0 (drop n rest) in
    let put : c.put_part.new.out.items ≡ out ++ part = rw (← c.split_at.ensures.front) c.in_ok-put_part.ensures in
    let next : c.quote_behind-quote.result ≡ quote_behind quote (get_or rest 0 0) =
    c.quote_behind-quote.ensures ∙ ap (quote_behind quote) c.byte_at-first.ensures in
    let all : (out ++ part) ++ more ≡ c.args.out.now.items ++ resolved_from numbers 0 0 c.args.text.now =
    append_assoc out part more ∙ (ap (λ (x : List ℕ). out ++ x) (sym step) ∙ c.words.invariant) in
    rw (put, next, c.split_at.ensures.back) all

pub returns : goal.returns
returns c =
    let none : length c.words.rest.now ≤ 0 = grind (arith, nat_tests, c.is_empty.ensures, c.words-test.false) in
    let end = no_part (number_in c.args.numbers.now) c.words.quote c.words.rest.now none in
    sym (append-nil c.words.out.items) ∙ (ap (λ (x : List ℕ). c.words.out.items ++ x) (sym end) ∙ c.words.invariant)
