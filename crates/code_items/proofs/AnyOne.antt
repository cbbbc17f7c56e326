-- At the front of some bytes stands at most one instruction.
use Rattle.std.proofs.Common.{◌≡◌, ℕ, List, [], ◌++◌, take, Result, Ok, sym, ap, ◌∙◌}
use Rattle.arrayvec.specs.ArrayVec.{ArrayVec}
use Rattle.x86_values.specs.declared.Bits.{Bits}
use Rattle.x86_values.specs.declared.Decoded.{Decoded}
use Rattle.x86_values.specs.declared.Instr.{Instr}
use Rattle.row_relation.specs.Spells.{Read}
use Rattle.opcode_rows.specs.Reading.{IsRead}
use Rattle.decoder.specs.OneReading.{OneReadingFacts}
use Rattle.unlisted.specs.declared.Shape.{Shape}
use Rattle.unlisted.specs.declared.MeasureError.{MeasureError}
use Rattle.unlisted.specs.Measured.{IsMeasured}
use Rattle.move_goals.specs.declared.items.Placed.{Placed}
use Rattle.code_items.specs.declared.any_items.AnyItem.TheVariants.{Listed, Unlisted}
use Rattle.code_items.specs.declared.any_items.UnlistedItem.{UnlistedItem}
use Rattle.code_items.specs.Items.{decoded_of}
use Rattle.code_items.specs.AnyStanding.{OneStands}

decoded-same : (d e : Decoded) → Read d ≡ Read e → d ≡ e
decoded-same d e h = cc

abbrev measured_as : Shape → Result Shape MeasureError
measured_as s = Ok s

shape-same : (a b : Shape) → measured_as a ≡ measured_as b → a ≡ b
shape-same a b e = cc

abbrev placed_made : ℕ → ℕ → Instr → Placed
placed_made at len i = record { ip = at; len = len; instr = i }

abbrev unlisted_made : ℕ → Shape → ArrayVec ℕ → UnlistedItem
unlisted_made ip shape bytes = record { ip = ip; shape = shape; bytes = bytes }

abbrev bytes_made : List ℕ → ArrayVec ℕ
bytes_made items = record { items = items }

-- items with one address and one reading are one
listed-same : (p q : Placed) → p.ip ≡ q.ip → Read (decoded_of p) ≡ Read (decoded_of q) → p ≡ q
listed-same p q at reading =
    let d = decoded-same (decoded_of p) (decoded_of q) reading in
    ap (λ (n : ℕ). placed_made n p.len p.instr) at ∙ ap (λ (x : Decoded). placed_made q.ip x.len x.instr) d

unlisted-same : (u v : UnlistedItem) → u.ip ≡ v.ip → u.shape ≡ v.shape → u.bytes.items ≡ v.bytes.items → u ≡ v
unlisted-same u v at shape bytes =
    ap (λ (n : ℕ). unlisted_made n u.shape u.bytes) at
    ∙ (ap (λ (s : Shape). unlisted_made v.ip s u.bytes) shape ∙ ap (λ (bs : List ℕ). unlisted_made v.ip v.shape (bytes_made bs)) bytes)

module _ (readings : OneReadingFacts)
    (one_answer : (bits : Bits) (bytes : List ℕ) (answer other : Result Shape MeasureError) → IsMeasured bits bytes answer → IsMeasured bits bytes other → answer ≡ other)
    (not_read : (bits : Bits) (bytes more : List ℕ) (shape : Shape) (ip : ℕ) (d : Decoded) → IsMeasured bits bytes (Ok shape)
    → (IsRead bits ip bytes (Read d) → ⊥) × (IsRead bits ip (bytes ++ more) (Read d) → ⊥)) where
  -- **at some bytes stands one instruction**
  pub one-first : OneStands
  one-first bits n bytes (Listed p) (Listed q) h k =
      ap (λ (r : Placed). Listed r)
      (listed-same p q (h.address ∙ sym k.address) (readings.reading_same bits n bytes (Read (decoded_of p)) (Read (decoded_of q)) h.reads k.reads))
  one-first bits n bytes (Listed p) (Unlisted v) h k = absurd ((not_read bits bytes [] v.shape n (decoded_of p) k.measured).0 h.reads)
  one-first bits n bytes (Unlisted u) (Listed q) h k = absurd ((not_read bits bytes [] u.shape n (decoded_of q) h.measured).0 k.reads)
  one-first bits n bytes (Unlisted u) (Unlisted v) h k =
      let shape : u.shape ≡ v.shape = shape-same u.shape v.shape (one_answer bits bytes (measured_as u.shape) (measured_as v.shape) h.measured k.measured) in
      ap (λ (w : UnlistedItem). Unlisted w)
      (unlisted-same u v (h.address ∙ sym k.address) shape (h.own ∙ (ap (λ (s : Shape). take s.len bytes) shape ∙ sym k.own)))
