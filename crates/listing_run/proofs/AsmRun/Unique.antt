-- A text has one answer.
use Rattle.std.proofs.Common.{◌≡◌, ◌≢◌, ◌⊎◌, inl, inr, ℕ, ◌+◌, ◌<◌, Bool, true, false, List, [], ◌∷◌, ◌++◌, length, refl, sym, ap, ◌∙◌, subst, arith, append_assoc, length-append}
use Rattle.std.specs.Prelude.{codes}
use Rattle.std.specs.declared.cmp.Ordering.{Ordering}
use Rattle.std.specs.declared.cmp.Ordering.TheVariants.{Less, Equal, Greater}
use Rattle.std.specs.Ordering.{nat_cmp, is_gt, on, then_cmp, ordering_then, ordering_reverse}
use Rattle.std.specs.Cmp.Lexicographic.{slice_cmp, on_texts}
use Rattle.std.proofs.lemmas.Cmp.{then_total, on_total, nat_cmp_total}
use Rattle.std.proofs.lemmas.Map.Lookups.{exact_bytes}
use Rattle.std.specs.Cmp.{IsTotalOrder}
use Rattle.x86_values.specs.declared.Bits.{Bits}
use Rattle.x86_values.specs.declared.Instr.{Instr}
use Rattle.x86_values.specs.Wrapping.{modulo_width}
use Rattle.opcode_rows.specs.declared.generated_spots.TheConstants.{ROWS}
use Rattle.opcode_rows.specs.Table.{table}
use Rattle.intel_text.specs.Text.{text as text_of}
use Rattle.intel_reader.specs.Assembled.{Assembly, compare_assemblies, IsCandidate, IsFirst, AssemblesTo, IsNoText}
use Rattle.sweep.specs.declared.run_parts.status.Status.{Status}
use Rattle.sweep.specs.declared.run_parts.status.Status.TheVariants.{Done, BadText}
use Rattle.listing_run.specs.AsmRun.Lines.{IsByteLine, IsCodeOfLine, IsCodeOfLines, IsBadLine, lines_in}
use Rattle.listing_run.specs.AsmRun.Assembling.{IsTextAnswer}
use Rattle.listing_run.proofs.AsmRun.ByteLines.{front, line_text, byte_unique}
use Rattle.listing_run.proofs.AsmRun.NoByteText.{starts_db, text_other}

-- ---- one line

rank_total : IsTotalOrder compare_assemblies
rank_total =
    then_total (on_total (λ (a : Assembly). length a.bytes) nat_cmp_total)
    (then_total (on_total (λ (a : Assembly). a.instr.code.0) nat_cmp_total) (on_texts (λ (a : Assembly). a.bytes)))

neither_greater : (o p : Ordering) → o ≡ ordering_reverse p → is_gt o ≡ false → is_gt p ≡ false → o ≡ Equal
neither_greater Less Less e h k = cc
neither_greater Less Equal e h k = cc
neither_greater Less Greater e h k = cc
neither_greater Equal p e h k = refl
neither_greater Greater p e h k = cc

last_equal : (o p : Ordering) → ordering_then o p ≡ Equal → p ≡ Equal
last_equal Less p e = cc
last_equal Equal p e = e
last_equal Greater p e = cc

-- what ranks alike has the same bytes
rank_bytes : (a b : Assembly) → compare_assemblies a b ≡ Equal → a.bytes ≡ b.bytes
rank_bytes a b e =
    exact_bytes a.bytes b.bytes
    (last_equal (nat_cmp a.instr.code.0 b.instr.code.0) _ (last_equal (nat_cmp (length a.bytes) (length b.bytes)) _ e))

module _ (bits : Bits) where
  -- a line that is neither stands for nothing
  pub not_code : (ip : ℕ) (line bytes : List ℕ) → IsNoText bits ip line → ((xs : List ℕ) → IsByteLine line xs → ⊥) → IsCodeOfLine bits ip line bytes → ⊥
  not_code ip line bytes none no_byte (inl h) = none (record { instr = h.0; bytes = bytes }) h.1.candidate
  not_code ip line bytes none no_byte (inr h) = no_byte bytes h

module _ (counted : length table ≡ ROWS) (bits : Bits) where
  -- a text stands for one list of bytes
  text_unique : (ip : ℕ) (text xs ys : List ℕ) → AssemblesTo bits ip text xs → AssemblesTo bits ip text ys → xs ≡ ys
  text_unique ip text xs ys h k =
      let a : Assembly = record { instr = h.0; bytes = xs } in
      let b : Assembly = record { instr = k.0; bytes = ys } in
      rank_bytes a b (neither_greater (compare_assemblies a b) (compare_assemblies b a) (rank_total.antisymm a b) (h.1.first b k.1.candidate) (k.1.first a h.1.candidate))

  -- the text of an instruction is not the line of a byte
  text_or_byte : (ip : ℕ) (line xs ys : List ℕ) → AssemblesTo bits ip line xs → IsByteLine line ys → ⊥
  unfolding starts_db
  text_or_byte ip line xs ys h k =
      let c = h.1.candidate in
      let other : starts_db (text_of bits h.0) ≡ false = text_other counted bits c.spelled.row h.0 c.spelled.row_is in
      let same : text_of bits h.0 ≡ front ++ _ = c.printed ∙ (k.line_is ∙ line_text k.byte) in
      let both : true ≡ false = sym (ap starts_db same) ∙ other in
      cc

  -- a line stands for one list of bytes
  line_unique : (ip : ℕ) (line xs ys : List ℕ) → IsCodeOfLine bits ip line xs → IsCodeOfLine bits ip line ys → xs ≡ ys
  line_unique ip line xs ys (inl h) (inl k) = text_unique ip line xs ys h k
  line_unique ip line xs ys (inl h) (inr k) = absurd (text_or_byte ip line xs ys h k)
  line_unique ip line xs ys (inr h) (inl k) = absurd (text_or_byte ip line ys xs k h)
  line_unique ip line xs ys (inr h) (inr k) = byte_unique line xs ys h k

  -- ---- lines

  -- lines have one code
  pub lines_unique : (ip : ℕ) (lines : List (List ℕ)) (xs ys : List ℕ) → IsCodeOfLines bits ip lines xs → IsCodeOfLines bits ip lines ys → xs ≡ ys
  lines_unique ip [] xs ys h k = h ∙ sym k
  lines_unique ip (line ∷ lines) xs ys h k =
      let first : h.0 ≡ k.0 = line_unique (modulo_width bits ip) line h.0 k.0 h.1.1.0 k.1.1.0 in
      let there = subst (λ (f : List ℕ). IsCodeOfLines bits (ip + length f) lines h.1.0) first h.1.1.1.0 in
      let rest : h.1.0 ≡ k.1.0 = lines_unique (ip + length k.0) lines h.1.0 k.1.0 there k.1.1.1.0 in
      h.1.1.1.1 ∙ (ap (λ (f : List ℕ). f ++ h.1.0) first ∙ (ap (λ (b : List ℕ). k.0 ++ b) rest ∙ sym k.1.1.1.1))

  -- the code of some lines begins with that of the first of them
  pub lines_front : (ip : ℕ) (before after : List (List ℕ)) (xs : List ℕ) → IsCodeOfLines bits ip (before ++ after) xs →
      (a : List ℕ) × ((b : List ℕ) × (IsCodeOfLines bits ip before a × (IsCodeOfLines bits (ip + length a) after b × (xs ≡ a ++ b))))
  lines_front ip [] after xs h = ([], (xs, (refl, (subst (λ (n : ℕ). IsCodeOfLines bits n after xs) (omega arith) h, refl))))
  lines_front ip (line ∷ before) after xs h =
      let more = lines_front (ip + length h.0) before after h.1.0 h.1.1.1.0 in
      let a = h.0 ++ more.0 in
      let far : ip + length h.0 + length more.0 ≡ ip + length a = omega (arith, length-append h.0 more.0) in (
        a,
        (
          more.1.0,
          (
            (h.0, (more.0, (h.1.1.0, (more.1.1.0, refl)))),
            (
              subst (λ (n : ℕ). IsCodeOfLines bits n after more.1.0) far more.1.1.1.0,
              h.1.1.1.1 ∙ (ap (λ (b : List ℕ). h.0 ++ b) more.1.1.1.1 ∙ sym (append_assoc h.0 more.0 more.1.0)),
            ),
          ),
        ),
      )

  -- code has no bad line
  no_bad_line : (base : ℕ) (lines : List (List ℕ)) (code : List ℕ) (number : ℕ) → IsCodeOfLines bits base lines code → IsBadLine bits base lines number → ⊥
  no_bad_line base lines code number h bad =
      let there = subst (λ (l : List (List ℕ)). IsCodeOfLines bits base l code) bad.are h in
      let cut = lines_front base bad.before (bad.bad ∷ bad.behind) code there in
      let same : cut.0 ≡ bad.code = lines_unique base bad.before cut.0 bad.code cut.1.1.0 bad.is_code in
      let line = subst (λ (a : List ℕ). IsCodeOfLines bits (base + length a) (bad.bad ∷ bad.behind) cut.1.0) same cut.1.1.1.0 in
      bad.neither line.0 line.1.1.0

  -- lines that are cut at two places: one of the fronts is longer, or both are the same
  abbrev Cuts : List (List ℕ) → List ℕ → List (List ℕ) → List (List ℕ) → List ℕ → List (List ℕ) → Type 0
  Cuts before bad behind before' bad' behind' =
      (before ≡ before')
      ⊎ (((more : List (List ℕ)) × (before' ≡ before ++ bad ∷ more)) ⊎ ((more : List (List ℕ)) × (before ≡ before' ++ bad' ∷ more)))

  cuts : (before : List (List ℕ)) (bad : List ℕ) (behind before' : List (List ℕ)) (bad' : List ℕ) (behind' : List (List ℕ)) →
      before ++ bad ∷ behind ≡ before' ++ bad' ∷ behind' → Cuts before bad behind before' bad' behind'
  cuts [] bad behind [] bad' behind' e = inl refl
  cuts [] bad behind (x ∷ before') bad' behind' e =
      let head : bad ≡ x = cc in inr (inl (before', ap (λ (y : List ℕ). y ∷ before') (sym head)))
  cuts (x ∷ before) bad behind [] bad' behind' e =
      let head : x ≡ bad' = cc in inr (inr (before, ap (λ (y : List ℕ). y ∷ before) head))
  cuts (x ∷ before) bad behind (y ∷ before') bad' behind' e =
      let head : x ≡ y = cc in
      let rest : before ++ bad ∷ behind ≡ before' ++ bad' ∷ behind' = cc in
      elim (cuts before bad behind before' bad' behind' rest) [
        | inl same ↦ inl (ap (λ (l : List (List ℕ)). x ∷ l) same ∙ ap (λ (z : List ℕ). z ∷ before') head)
        | inr other ↦ elim other [
          | inl more ↦ inr (inl (more.0, ap (λ (l : List (List ℕ)). y ∷ l) more.1 ∙ ap (λ (z : List ℕ). z ∷ (before ++ bad ∷ more.0)) (sym head)))
          | inr more ↦ inr (inr (more.0, ap (λ (l : List (List ℕ)). x ∷ l) more.1 ∙ ap (λ (z : List ℕ). z ∷ (before' ++ bad' ∷ more.0)) head))
        ]
      ]

  -- a bad line is not among the lines before another
  bad_before : (base : ℕ) (lines : List (List ℕ)) (n : ℕ) (b : IsBadLine bits base lines n) (before more : List (List ℕ)) (code : List ℕ) →
      IsCodeOfLines bits base before code → before ≡ b.before ++ b.bad ∷ more → ⊥
  bad_before base lines n b before more code is e =
      no_bad_line base before code n is (record {
        before = b.before;
        bad = b.bad;
        behind = more;
        are = e;
        code = b.code;
        is_code = b.is_code;
        neither = b.neither;
        number_is = b.number_is;
      })

  bad_unique : (base : ℕ) (lines : List (List ℕ)) (n m : ℕ) → IsBadLine bits base lines n → IsBadLine bits base lines m → n ≡ m
  bad_unique base lines n m h k =
      elim (cuts h.before h.bad h.behind k.before k.bad k.behind (sym h.are ∙ k.are)) [
        | inl same ↦ h.number_is ∙ (ap (λ (l : List (List ℕ)). length l + 1) same ∙ sym k.number_is)
        | inr other ↦ elim other [
          | inl more ↦ absurd (bad_before base lines n h k.before more.0 k.code k.is_code more.1)
          | inr more ↦ absurd (bad_before base lines m k h.before more.0 h.code h.is_code more.1)
        ]
      ]

  -- **a text has one answer**
  pub answer_unique : (base : ℕ) (text : List ℕ) (a b : Status) → IsTextAnswer bits base text a → IsTextAnswer bits base text b → a ≡ b
  answer_unique base text Done Done h k = refl
  answer_unique base text Done (BadText m) h k = absurd (no_bad_line base (lines_in text) h.0 m h.1 k)
  answer_unique base text (BadText n) Done h k = absurd (no_bad_line base (lines_in text) k.0 n k.1 h)
  answer_unique base text (BadText n) (BadText m) h k = ap BadText (bad_unique base (lines_in text) n m h k)
  answer_unique base text Done _ h k = absurd k
  answer_unique base text (BadText n) _ h k = absurd k
  answer_unique base text _ _ h k = absurd h
