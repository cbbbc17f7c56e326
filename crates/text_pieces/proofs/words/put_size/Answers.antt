use Rattle.std.proofs.Common.{◌≡◌, arith, ap, ◌∙◌, ◌++◌, List, ℕ, length, append_assoc, length-append}
use Rattle.text_parts.specs.PrefixWords.{size_digits}
use Rattle.text_pieces.proofs.Short.{size_digits-length}
use Rattle.text_pieces.proofs.Laying.{put-closed}
use Rattle.text_pieces.proofs.words.put_size.Goals as goal

-- the digits follow the letter
appended : (c : goal.After-close)
    → c.append_few-2.new.out.items ≡ c.args.line.now.text.items ++ (c.args.letter.now ++ size_digits c.args.size)
appended c =
    c.append_few-2.ensures
    ∙ ap (λ (xs : List ℕ). xs ++ c.size_digits.result.now) c.append_few.ensures
    ∙ append_assoc c.args.line.now.text.items c.args.letter.now c.size_digits.result.now
    ∙ ap (λ (xs : List ℕ). c.args.line.now.text.items ++ (c.args.letter.now ++ xs)) c.size_digits.ensures

pub append_few-requires-2 : goal.append_few-requires-2
append_few-requires-2 c = (
  omega arith,
  omega (
    arith,
    ap length c.append_few.ensures,
    length-append c.args.line.now.text.items c.args.letter.now,
    ap length c.size_digits.ensures,
    size_digits-length c.args.size,
    c.requires.short,
    c.requires.text,
  ),
)

pub returns-clause-laid : goal.returns-clause-laid
returns-clause-laid c =
    put-closed _ _ (c.args.letter.now ++ size_digits c.args.size) c.append_few-2.new.out.items c.len-start.result _ _
    c.len-start.ensures.value (appended c) c.close.ensures.text c.close.ensures.items

pub returns-clause-size : goal.returns-clause-size
returns-clause-size c =
    omega (
      arith,
      ap length (c.close.ensures.text ∙ appended c),
      length-append c.args.line.now.text.items (c.args.letter.now ++ size_digits c.args.size),
      length-append c.args.letter.now (size_digits c.args.size),
      size_digits-length c.args.size,
      c.requires.short,
    )
