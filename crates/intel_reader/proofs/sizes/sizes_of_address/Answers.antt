use Rattle.std.proofs.Common.{◌≡◌, ℕ, true, false, List, ap, sym, ◌∙◌, arith}
use Rattle.intel_words.specs.declared.words.SizeName.{SizeName}
use Rattle.intel_words.specs.Pieces.{sized_pieces_text}
use Rattle.intel_reader.specs.Possible.{is_counter_word}
use Rattle.intel_reader.specs.Sizes.{has_size}
use Rattle.intel_reader.proofs.SizeSets.{all_sizes, has-all}
use Rattle.intel_reader.proofs.PossibleSizes.{refused_size, told_below, row_size_of}
use Rattle.intel_reader.proofs.sizes.sizes_of_address.Goals as goal

clash : true ≡ false → ⊥
clash h = cc

-- no size word is left out of all
not-all : {A : Type 0} → (size : SizeName) → has_size all_sizes size ≡ false → A
not-all size h = absurd (clash (sym (has-all size) ∙ h))

pub returns-then-n-ge4-clause-refused : goal.returns-then-n-ge4-clause-refused
returns-then-n-ge4-clause-refused c = λ ip size h b k. not-all size h

pub returns-then-n-ge4-clause-exact : goal.returns-then-n-ge4-clause-exact
returns-then-n-ge4-clause-exact c = λ size.
    (λ h told other. absurd (omega (told_below c.args.n _ _ _ _ _ told, c.if-n-ge4.true, arith)), λ possible. has-all size)

pub returns-in-None-clause-refused : goal.returns-in-None-clause-refused
returns-in-None-clause-refused c = λ ip size h b k. not-all size h

pub returns-in-None-clause-exact : goal.returns-in-None-clause-exact
returns-in-None-clause-exact c = λ size. (λ h told other. absurd (clash (sym told ∙ sym c.in-None.ensures.told)), λ possible. has-all size)

pub returns-then-is_counter_word-clause-refused : goal.returns-then-is_counter_word-clause-refused
returns-then-is_counter_word-clause-refused c = λ ip size h b k. not-all size h

pub returns-then-is_counter_word-clause-exact : goal.returns-then-is_counter_word-clause-exact
returns-then-is_counter_word-clause-exact c = λ size. (
  λ h told other. absurd (clash (c.if-is_counter_word.ensures ∙ (ap is_counter_word c.in-Some.ensures.words.0 ∙ other))),
  λ possible. has-all size,
)

pub returns-else-is_counter_word-clause-refused : goal.returns-else-is_counter_word-clause-refused
returns-else-is_counter_word-clause-refused c = λ ip size h b k.
    let p = c.args.pieces.now in
    let text : List ℕ = sized_pieces_text size c.args.n p.head.now p.first.now p.second.now p.third.now p.fourth.now in
    refused_size c.args.bits ip text c.in-Some.name.now c.read_unsized.new.words c.args.n size c.sizes_of_rows.result c.if-n-ge4.false
    c.in-Some.ensures.address (sym c.is_counter_word.ensures ∙ c.if-is_counter_word.false)
    (λ row own i is at. c.in-Some.ensures.printed size c.args.bits row own i is at) (c.sizes_of_rows.ensures size).1 h b k

pub returns-else-is_counter_word-clause-exact : goal.returns-else-is_counter_word-clause-exact
returns-else-is_counter_word-clause-exact c = λ size.
    let words = c.in-Some.ensures.words in
    let told = c.in-Some.ensures.told in
    let other = sym c.is_counter_word.ensures ∙ c.if-is_counter_word.false in (
      λ h t o. row_size_of c.args.bits _ _ _ _ c.args.n size words.1 words.0 ((c.sizes_of_rows.ensures size).0 h),
      λ possible. (c.sizes_of_rows.ensures size).1 (row_size_of c.args.bits _ _ _ _ c.args.n size (sym words.1) (sym words.0)
          (possible (sym told) (ap is_counter_word (sym words.0) ∙ other))),
    )
