-- What the frequent cases of a text come to.
use Rattle.std.proofs.Common.{◌≡◌, ℕ, ◌+◌, Bool, true, false, ◌&&◌, ◌||◌, not, [], Some, inl, inr, refl, sym, ◌∙◌, arith}
use Rattle.std.proofs.lemmas.Bool.{and_parts, cases_Bool}
use Rattle.x86_values.specs.declared.Bits.{Bits}
use Rattle.instruction_parts.specs.declared.row_types.Row.{Row}
use Rattle.instruction_parts.specs.declared.row_types.Place.{Place}
use Rattle.instruction_parts.specs.declared.row_types.Place.TheVariants.{Any as AnyPlace, Memory as OnlyMemory, Register as OnlyRegister}
use Rattle.instruction_parts.specs.declared.row_types.Size.{Size}
use Rattle.instruction_parts.specs.declared.row_types.Size.TheVariants.{O64}
use Rattle.instruction_parts.specs.declared.row_types.OpKind.{OpKind}
use Rattle.instruction_parts.specs.declared.row_types.OpKind.TheVariants.{Absent as NoKind, Ev, Gv, M}
use Rattle.instruction_parts.specs.Kinds.{memory_width}
use Rattle.instruction_parts.specs.Counting.{is_64}
use Rattle.instruction_parts.specs.Sizes.{has_caret, has_bang, operand_size}
use Rattle.row_fit.specs.Fits.{kind_at}
use Rattle.row_meaning.specs.MemorySize.{row_size_bytes, width_in_row, size_at, memory_size}
use Rattle.text_parts.specs.Frequent.{is_absent_kind, is_register_place, has_pair_in_memory, paired_bytes, is_quad, is_usually_quad}
use Rattle.text_parts.specs.PrefixWords.{differs, is_sized, named_size, is_w_size, usual_size, operand_size_word}

-- ---- the operand size

quad : (x : Size) → is_quad x ≡ true → x ≡ O64
quad O64 h = refl
quad _ h = cc

-- an operand size that is usually 64 has no word
pub quad-word : (bits : Bits) (row : Row) → is_usually_quad bits row ≡ true → operand_size_word bits row ≡ []
unfolding is_usually_quad operand_size_word named_size usual_size is_w_size differs operand_size
quad-word bits row h =
    let a = and_parts (is_64 bits) (is_quad row.size && (has_bang row || has_caret row)) h in
    let b = and_parts (is_quad row.size) (has_bang row || has_caret row) a.1 in
    let e = quad row.size b.0 in
    elim (cases_Bool (is_sized row)) [
      | inr s ↦ rw s refl
      | inl s ↦ elim (cases_Bool (has_bang row)) [
        | inl x ↦ rw (s, e, a.0, x, e) refl
        | inr x ↦ (let c : has_caret row ≡ true = rw x at b.1 in rw (s, e, a.0, x, c, e) refl)
      ]
    ]

-- ---- the memory operand

no-kind : (x : OpKind) → is_absent_kind x ≡ true → x ≡ NoKind
no-kind NoKind h = refl
no-kind _ h = cc

by-place : (row : Row) (place : Place) → row.place ≡ place → is_register_place place ≡ false → memory_size row ≡ size_at row 0 + (size_at row 1 + (size_at row 2 + size_at row 3))
unfolding memory_size
by-place row AnyPlace e h = rw e refl
by-place row OnlyMemory e h = rw e refl
by-place row OnlyRegister e h = cc

some-same : (m n : ℕ) → Some m ≡ Some n → m ≡ n
some-same m n e = cc

by-kinds : (row : Row) (n : ℕ) (k0 k1 : OpKind) → kind_at row 0 ≡ k0 → kind_at row 1 ≡ k1 → kind_at row 2 ≡ NoKind → kind_at row 3 ≡ NoKind → Some n ≡ paired_bytes row.size k0 k1
    → n ≡ size_at row 0 + (size_at row 1 + (size_at row 2 + size_at row 3))
unfolding size_at width_in_row memory_width
by-kinds row n Ev Gv e0 e1 e2 e3 h = let x = some-same n (row_size_bytes row.size) h in rw (e0, e1, e2, e3) (omega (arith, x))
by-kinds row n Gv Ev e0 e1 e2 e3 h = let x = some-same n (row_size_bytes row.size) h in rw (e0, e1, e2, e3) (omega (arith, x))
by-kinds row n Gv M e0 e1 e2 e3 h = let x = some-same n 0 h in rw (e0, e1, e2, e3) (omega (arith, x))
by-kinds row n _ _ e0 e1 e2 e3 h = cc

off : (b : Bool) → not b ≡ true → b ≡ false
off false h = refl
off true h = cc

-- the memory operand of a frequent pair has as many bytes as are found
pub pair-size : (row : Row) (n : ℕ) → has_pair_in_memory row ≡ true → Some n ≡ paired_bytes row.size (kind_at row 0) (kind_at row 1) → n ≡ memory_size row
unfolding has_pair_in_memory
pair-size row n h e =
    let a = and_parts (is_absent_kind (kind_at row 2)) (is_absent_kind (kind_at row 3) && not (is_register_place row.place)) h in
    let b = and_parts (is_absent_kind (kind_at row 3)) (not (is_register_place row.place)) a.1 in
    by-kinds row n (kind_at row 0) (kind_at row 1) refl refl (no-kind (kind_at row 2) a.0) (no-kind (kind_at row 3) b.0) e ∙ sym (by-place row row.place refl (off (is_register_place row.place) b.1))
