-- The labels of a routine one by one.
use Rattle.std.proofs.Common.{◌≡◌, ℕ, Option, ◌+◌, List, [], ◌∷◌, ◌++◌, refl, sym, ap, ◌∙◌, arith}
use Rattle.std.specs.Prelude.{slice_index_or}
use Rattle.std.proofs.lemmas.List.FromFn.{map-range_with_len_more}
use Rattle.code_assembler.specs.Finished.{AssembledState, label_address}
use Rattle.assembly_text.specs.declared.text_labels.LabelLine.{LabelLine}
use Rattle.c_calls.specs.declared.flat.FlatLabel.{FlatLabel}
use Rattle.c_calls.specs.Routines.{no_label, flat_label, label_numbered, first_labels}

-- no labels are the first none
pub labels-none : (a : AssembledState) (lines : List LabelLine) → first_labels a lines 0 ≡ []
unfolding first_labels
labels-none a lines = refl

-- a further label is the one of the next number
pub labels-more : (a : AssembledState) (lines : List LabelLine) (k : ℕ) (label : FlatLabel) (address : Option ℕ) (line : LabelLine) → label ≡ flat_label address line →
    address ≡ label_address a k → line ≡ slice_index_or lines k no_label → first_labels a lines (k + 1) ≡ first_labels a lines k ++ label ∷ []
unfolding first_labels label_numbered
labels-more a lines k label address line is address_is line_is =
    let same : label ≡ label_numbered a lines k = is ∙ (ap (λ (x : Option ℕ). flat_label x line) address_is ∙ ap (λ (l : LabelLine). flat_label (label_address a k) l) line_is) in
    map-range_with_len_more (label_numbered a lines) 0 k k (omega arith) ∙ ap (λ (l : FlatLabel). first_labels a lines k ++ l ∷ []) (sym same)
