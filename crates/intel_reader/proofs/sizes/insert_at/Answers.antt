use Rattle.std.proofs.Common.{◌≡◌, inl, inr, ℕ, true, false, Option, Some, ap, sym, ◌∙◌, subst, slice_get}
use Rattle.std.specs.Prelude.{bytes_eq}
use Rattle.std.proofs.lemmas.Slice.Eq.{bytes_eq-Decides}
use Rattle.instruction_parts.specs.declared.row_types.Row.{Row}
use Rattle.opcode_rows.specs.Table.{table, name_of}
use Rattle.intel_words.specs.declared.words.SizeName.{SizeName}
use Rattle.intel_words.specs.Words.{size_word_of}
use Rattle.intel_reader.specs.declared.sizes.SizeSet.{SizeSet}
use Rattle.intel_reader.specs.Sizes.{has_size}
use Rattle.intel_reader.proofs.Choosing.{code_at_index}
use Rattle.intel_reader.proofs.SizeSets.{has-added, has-kept, has-before}
use Rattle.intel_reader.proofs.sizes.insert_at.Goals as goal

same_row : (o : Option Row) (x y : Row) → o ≡ Some x → o ≡ Some y → x ≡ y
same_row o x y e f = cc

clash : true ≡ false → ⊥
clash h = cc

pub returns-then-not-is_named-clause-added : goal.returns-then-not-is_named-clause-added
returns-then-not-is_named-clause-added c = λ size s.
    let same : s.code ≡ c.code_at-code.result.0 = code_at_index c.args.index s.code c.code_at-code.result.0 s.at c.code_at-code.ensures.at in
    let named : bytes_eq (name_of c.code_at-code.result.0) c.args.name.now ≡ true =
    (bytes_eq-Decides (name_of c.code_at-code.result.0) c.args.name.now).1 (ap name_of (sym same) ∙ s.named) in
    absurd (clash (sym named ∙ (sym c.is_named.ensures ∙ c.if-not-is_named.true)))

pub returns-then-not-is_named-clause-only : goal.returns-then-not-is_named-clause-only
returns-then-not-is_named-clause-only c = λ size h. inl h

pub returns-clause-kept : goal.returns-clause-kept
returns-clause-kept c = λ size h.
    subst (λ (set : SizeSet). has_size set size ≡ true) (sym c.insert.ensures) (has-kept c.args.set.now c.size_word_of.result size h)

pub returns-clause-added : goal.returns-clause-added
returns-clause-added c = λ size s.
    let same : s.code ≡ c.code_at-code.result.0 = code_at_index c.args.index s.code c.code_at-code.result.0 s.at c.code_at-code.ensures.at in
    let rows : s.row ≡ c.row_of-row.result =
    same_row (slice_get table s.code) s.row c.row_of-row.result s.row_is (ap (λ (k : ℕ). slice_get table k) same ∙ c.row_of-row.ensures) in
    let word : size ≡ c.size_word_of.result = sym s.sized ∙ (ap (λ (r : Row). size_word_of r c.args.n) rows ∙ sym c.size_word_of.ensures) in
    subst (λ (z : SizeName). has_size c.insert.new.self z ≡ true) (sym word)
    (subst (λ (set : SizeSet). has_size set c.size_word_of.result ≡ true) (sym c.insert.ensures) (has-added c.args.set.now c.size_word_of.result))

pub returns-clause-only : goal.returns-clause-only
returns-clause-only c = λ size h.
    elim (has-before c.args.set.now c.size_word_of.result size (subst (λ (set : SizeSet). has_size set size ≡ true) c.insert.ensures h)) [
      | inl k ↦ inl k
      | inr e ↦ inr (record {
        code = c.code_at-code.result.0;
        row = c.row_of-row.result;
        below = c.code_at-code.ensures.below;
        at = c.code_at-code.ensures.at;
        row_is = c.row_of-row.ensures;
        named = (bytes_eq-Decides (name_of c.code_at-code.result.0) c.args.name.now).0 (sym c.if-not-is_named.ensures);
        sized = sym c.size_word_of.ensures ∙ e;
      })
    ]
