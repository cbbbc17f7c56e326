-- The bytes at each part that is told are those of the spelling.
use Rattle.std.proofs.Common.{◌≡◌, ℕ, zero, suc, ◌+◌, ◌<◌, ◌≤◌, List, [], ◌∷◌, ◌++◌, length, take, drop, length-append, length-drop, append_assoc, refl, ap, ◌∙◌, arith}
use Rattle.std.proofs.lemmas.Bool.{and_parts, eqb-true}
use Rattle.std.specs.Prelude.{slice_index_or}
use Rattle.std.proofs.lemmas.List.{take-append-le, drop-append-le}
use Rattle.std.proofs.Math.Seq.{drop-append_seam, take-append_seam, drop-append-add}
use Rattle.x86_values.specs.declared.Bits.{Bits}
use Rattle.instruction_parts.specs.declared.row_types.Row.{Row}
use Rattle.instruction_parts.specs.declared.spelling.Spelling.{Spelling}
use Rattle.instruction_parts.specs.Bytes.{bytes_of, front_bytes, tail_bytes, lead_bytes, modrm_bytes, sib_bytes, state_of}
use Rattle.instruction_parts.specs.Sizes.{state_size}
use Rattle.row_fit.specs.Fits.{Fits, kind_at, immediate_bytes, immediates_bytes, lengths_fit}
use Rattle.row_meaning.specs.Meaning.{immediates_before, own_immediate}
use Rattle.decoder.specs.declared.byte_offsets.layout.Lengths.{Lengths}
use Rattle.decoder.specs.ByteOffsets.Offsets.{own_part, offsets_by, lengths_of, offsets_of}
use Rattle.decoder.specs.ByteOffsets.PartBytes.{no_part, part_bytes, HoldParts}

-- the bytes between others
between : (bytes before own behind : List ℕ) (at len : ℕ) → bytes ≡ before ++ (own ++ behind) → at ≡ length before → len ≡ length own
    → take len (drop at bytes) ≡ own
between bytes before own behind at len is at_is len_is =
    rw (is, at_is, len_is) (ap (take (length own)) (drop-append_seam before (own ++ behind)) ∙ take-append_seam own behind)

-- some of the bytes between others
within : (bytes before own behind : List ℕ) (at skip len : ℕ) → bytes ≡ before ++ (own ++ behind) → at ≡ length before → skip + len ≤ length own
    → take len (drop (at + skip) bytes) ≡ take len (drop skip own)
within bytes before own behind at skip len is at_is fits =
    let skipped : drop (at + skip) bytes ≡ drop skip own ++ behind =
    rw (is, at_is) (drop-append-add before (own ++ behind) skip ∙ drop-append-le skip own behind (omega (arith, fits))) in
    ap (take len) skipped ∙ take-append-le len (drop skip own) behind (omega (arith, fits, length-drop skip own))

-- the bytes of a spelling, part behind part
in_order : (row : Row) (s : Spelling) (rest : List ℕ) → bytes_of row s ++ rest ≡ s.prefixes.items ++ (lead_bytes row.map s.vex
    ++ ((s.opcode ∷ []) ++ (modrm_bytes s.modrm ++ (sib_bytes s.sib ++ (s.disp.items ++ (s.imm.items ++ rest))))))
unfolding bytes_of front_bytes tail_bytes
in_order row s rest = simp append_assoc

-- the immediates of the operands up to one are no more than all
immediates-inside : (size : Bits) (row : Row) (n : ℕ) → n < 4
    → immediates_before size row n + immediate_bytes size (kind_at row n) ≤ immediates_bytes size row
unfolding immediates_before immediates_bytes
immediates-inside size row zero lt = omega arith
immediates-inside size row (suc zero) lt = omega arith
immediates-inside size row (suc (suc zero)) lt = omega arith
immediates-inside size row (suc (suc (suc zero))) lt = omega arith
immediates-inside size row (suc (suc (suc (suc n)))) lt = absurd (omega (arith, lt))

immediates-all : (bits : Bits) (row : Row) (s : Spelling) → Fits bits row s
    → length s.imm.items ≡ immediates_bytes (state_size bits row (state_of bits row s)) row
unfolding lengths_fit
immediates-all bits row s f =
    eqb-true (length s.imm.items) (immediates_bytes (state_size bits row (state_of bits row s)) row) (and_parts _ _ f.lengths).1

-- the part of each operand, among those that are told
told-own : (l : Lengths) (size : Bits) (row : Row) (n : ℕ) → n < 4 → slice_index_or (offsets_by l size row).immediates n no_part
    ≡ own_part (l.prefixes + l.lead + 1 + l.modrm + l.sib + l.displacement) size row n
unfolding offsets_by
told-own l size row zero lt = refl
told-own l size row (suc zero) lt = refl
told-own l size row (suc (suc zero)) lt = refl
told-own l size row (suc (suc (suc zero))) lt = refl
told-own l size row (suc (suc (suc (suc n)))) lt = absurd (omega (arith, lt))

module _ (bits : Bits) (row : Row) (s : Spelling) (bytes rest : List ℕ) (f : Fits bits row s) (are : bytes ≡ bytes_of row s ++ rest) where
  abbrev P : List ℕ
  P = s.prefixes.items

  abbrev L : List ℕ
  L = lead_bytes row.map s.vex

  abbrev O : List ℕ
  O = s.opcode ∷ []

  abbrev M : List ℕ
  M = modrm_bytes s.modrm

  abbrev S : List ℕ
  S = sib_bytes s.sib

  abbrev D : List ℕ
  D = s.disp.items

  abbrev I : List ℕ
  I = s.imm.items

  whole : bytes ≡ P ++ (L ++ (O ++ (M ++ (S ++ (D ++ (I ++ rest))))))
  whole = are ∙ in_order row s rest

  abbrev size : Bits
  size = state_size bits row (state_of bits row s)

  own-bytes : (n : ℕ) → n < 4 → part_bytes bytes (slice_index_or (offsets_of bits row s).immediates n no_part) ≡ own_immediate size row n s.imm.items
  unfolding own_immediate
  own-bytes n lt =
      let all = immediates-all bits row s f in
      let before = P ++ L ++ O ++ M ++ S ++ D in
      let at : length P + length L + 1 + length M + length S + length D ≡ length before = simp length-append refl in
      ap (part_bytes bytes) (told-own (lengths_of row s) size row n lt)
      ∙ within bytes before I rest _ (immediates_before size row n) (immediate_bytes size (kind_at row n)) (whole ∙ simp append_assoc) at
      (omega (arith, all, immediates-inside size row n lt))

  -- each part holds the bytes of the spelling that belong to it
  pub parts-hold : HoldParts bits row s bytes (offsets_of bits row s)
  unfolding offsets_by
  parts-hold = record {
    prefixes = between bytes [] P (L ++ (O ++ (M ++ (S ++ (D ++ (I ++ rest)))))) 0 (length P) whole refl refl;
    lead = between bytes P L (O ++ (M ++ (S ++ (D ++ (I ++ rest))))) (length P) (length L) whole refl refl;
    opcode = between bytes (P ++ L) O (M ++ (S ++ (D ++ (I ++ rest)))) (length P + length L) 1 (whole ∙ simp append_assoc) (simp length-append refl) refl;
    modrm =
        between bytes (P ++ L ++ O) M (S ++ (D ++ (I ++ rest))) (length P + length L + 1) (length M) (whole ∙ simp append_assoc) (simp length-append refl) refl;
    sib =
        between bytes (P ++ L ++ O ++ M) S (D ++ (I ++ rest)) (length P + length L + 1 + length M) (length S) (whole ∙ simp append_assoc)
        (simp length-append refl) refl;
    displacement =
        between bytes (P ++ L ++ O ++ M ++ S) D (I ++ rest) (length P + length L + 1 + length M + length S) (length D) (whole ∙ simp append_assoc)
        (simp length-append refl) refl;
    immediates = own-bytes;
  }
