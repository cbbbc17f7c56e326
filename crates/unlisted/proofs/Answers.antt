-- The answers for some bytes, and what holds of all of them.
use Rattle.std.proofs.Common.{◌≡◌, ℕ, ◌<◌, ◌≤◌, List, ◌++◌, length, take, Result, Ok, Err, refl, sym, ◌∙◌, subst, arith}
use Rattle.std.proofs.lemmas.List.{take-append-le, take-take}
use Rattle.x86_values.specs.declared.Bits.{Bits}
use Rattle.x86_values.specs.declared.Decoded.{Decoded}
use Rattle.row_relation.specs.Spells.{Read}
use Rattle.opcode_rows.specs.Reading.{IsRead}
use Rattle.unlisted.specs.declared.Shape.{Shape}
use Rattle.unlisted.specs.declared.MeasureError.{MeasureError}
use Rattle.unlisted.specs.declared.MeasureError.TheVariants.{Ended, Unknown}
use Rattle.unlisted.specs.Encodings.{format_of}
use Rattle.unlisted.specs.Measured.{IsNeverRead, IsMeasuredAs, IsCut, IsUnknown, IsMeasured}
use Rattle.unlisted.proofs.Growing.{format-facts, format-stays, format-alone, format-cut}
use Rattle.unlisted.proofs.Unread.{reads-more, nothing-behind}

-- bytes have at most one answer
pub one-answer : (bits : Bits) (bytes : List ℕ) (answer other : Result Shape MeasureError) → IsMeasured bits bytes answer → IsMeasured bits bytes other → answer ≡ other
one-answer bits bytes (Ok s) (Ok t) h k = sym h.format ∙ k.format
one-answer bits bytes (Ok s) (Err Ended) h k = sym h.format ∙ k.format
one-answer bits bytes (Ok s) (Err Unknown) h k = absurd (k.not_measured s h)
one-answer bits bytes (Err Ended) (Ok t) h k = sym h.format ∙ k.format
one-answer bits bytes (Err Ended) (Err Ended) h k = refl
one-answer bits bytes (Err Ended) (Err Unknown) h k = absurd (k.not_cut h)
one-answer bits bytes (Err Unknown) (Ok t) h k = absurd (h.not_measured t k)
one-answer bits bytes (Err Unknown) (Err Ended) h k = absurd (h.not_cut k)
one-answer bits bytes (Err Unknown) (Err Unknown) h k = refl

-- what is measured is not read
pub not-read : (bits : Bits) (bytes : List ℕ) (s : Shape) (ip : ℕ) (d : Decoded) → IsMeasuredAs bits bytes s → IsRead bits ip bytes (Read d) → ⊥
not-read bits bytes s ip d h r = nothing-behind bits ip bytes s.len d h.unread r

-- more bytes keep a shape
pub stays : (bits : Bits) (bytes more : List ℕ) (s : Shape) → IsMeasuredAs bits bytes s → IsMeasuredAs bits (bytes ++ more) s
stays bits bytes more s h =
    let facts = format-facts bits bytes s h.format in
    record {
      format = format-stays bits bytes more s h.format;
      unread = subst (λ (xs : List ℕ). IsNeverRead bits xs) (sym (take-append-le s.len bytes more facts.given)) h.unread;
    }

-- the bytes of an instruction give its shape
pub alone : (bits : Bits) (bytes : List ℕ) (s : Shape) → IsMeasuredAs bits bytes s → (s.len ≤ 15) × (s.len ≤ length bytes) × IsMeasuredAs bits (take s.len bytes) s
alone bits bytes s h =
    let facts = format-facts bits bytes s h.format in
    let own : IsMeasuredAs bits (take s.len bytes) s = record {
      format = format-alone bits bytes s h.format;
      unread = subst (λ (xs : List ℕ). IsNeverRead bits xs) (sym (take-take s.len s.len bytes (omega arith))) h.unread;
    } in
    (facts.short, facts.given, own)

-- bytes that end inside an instruction are cut
pub cut-inside : (bits : Bits) (bytes more : List ℕ) (s : Shape) → IsMeasuredAs bits (bytes ++ more) s → length bytes < s.len → IsCut bits bytes
cut-inside bits bytes more s h few = record {
  format = format-cut bits bytes more s h.format few;
  unread = λ ip d r. not-read bits (bytes ++ more) s ip d h (reads-more bits ip bytes more d r);
}

-- ---- what is not measured

-- a shape whose bytes the table has something for is unknown
pub listed-format : (bits : Bits) (bytes : List ℕ) (s : Shape) → format_of bits bytes ≡ Ok s → (IsNeverRead bits (take s.len bytes) → ⊥) → IsUnknown bits bytes
listed-format bits bytes s e listed = record {
  not_measured = λ t h. (let same : t ≡ s = same-shape t s _ h.format e in listed (subst (λ (x : Shape). IsNeverRead bits (take x.len bytes)) same h.unread));
  not_cut = λ h. (let k = h.format in cc);
}
  where
    same-shape : (t u : Shape) (answer : Result Shape MeasureError) → answer ≡ Ok t → answer ≡ Ok u → t ≡ u
    same-shape t u answer h k = cc
