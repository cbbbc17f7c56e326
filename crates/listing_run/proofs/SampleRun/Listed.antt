-- How far a sweep has come, and the text of its listing.
use Rattle.std.proofs.Common.{◌≡◌, ℕ, ◌+◌, ◌*◌, ◌≤◌, List, [], ◌∷◌, ◌++◌, length, take, drop, refl, sym, ap, ◌∙◌, subst, arith, length-append, length-take}
use Rattle.x86_values.specs.declared.Bits.TheVariants.{B64}
use Rattle.row_relation.specs.Spells.{Reading}
use Rattle.opcode_rows.specs.Sweep.{Item, IsReadAt, IsSweep, item_len}
use Rattle.text_parts.specs.declared.style.Style.TheVariants.{Intel}
use Rattle.sweep.specs.SweepText.Listing.{item_line, listing}
use Rattle.sweep.specs.SweepText.Sweeping.{TakesSome, SweptTo, item_read}
use Rattle.sweep.specs.SweepText.Facts.{SweptFacts}
use Rattle.listing_run.specs.SampleRun.Generator.{sample_base}

-- the first items of some code are listed, and what stands behind them is the rest of its sweep
pub record Listed (bytes : List ℕ) (at text : ℕ) : Type 0 where
  pub items : List Item
  pub swept : SweptTo B64 sample_base bytes at items
  pub text_is : text ≡ length (listing B64 sample_base Intel items)
  pub small : text ≤ 16384 * at

listing-more : (items : List Item) (item : Item) → length (listing B64 sample_base Intel (items ++ item ∷ [])) ≡ length (listing B64 sample_base Intel items) + length (item_line B64 sample_base Intel item)
listing-more [] item = omega (arith, length-append (item_line B64 sample_base Intel item) [])
listing-more (x ∷ items) item =
    omega (
      arith,
      length-append (item_line B64 sample_base Intel x) (listing B64 sample_base Intel (items ++ item ∷ [])),
      length-append (item_line B64 sample_base Intel x) (listing B64 sample_base Intel items),
      listing-more items item,
    )

module _ (turn : SweptFacts) where
  -- before the first byte the listing has begun
  pub listed-start : (bytes : List ℕ) → Listed bytes 0 0
  listed-start bytes = record { items = []; swept = turn.swept-start B64 sample_base bytes; text_is = refl; small = omega arith }

  -- one more item
  listed-step : (bytes : List ℕ) (at text : ℕ) (reading : Reading) (line : List ℕ) → Listed bytes at text → IsReadAt B64 sample_base at (drop at bytes) reading →
      TakesSome reading (length (drop at bytes)) → line ≡ item_line B64 sample_base Intel (item_read at (drop at bytes) reading) → length line ≤ 16384 →
      Listed bytes (at + item_len reading) (text + length line)
  listed-step bytes at text reading line l reads takes is short =
      let item = item_read at (drop at bytes) reading in
      let some = takes.some in
      let small = l.small in
      record {
        items = l.items ++ item ∷ [];
        swept = turn.swept-step B64 sample_base at bytes l.items reading l.swept reads takes;
        text_is = omega (arith, l.text_is, listing-more l.items item, ap length is);
        small = omega arith;
      }

  -- all items
  pub listed-end : (bytes : List ℕ) (at text : ℕ) → Listed bytes at text → length bytes ≤ at →
      (items : List Item) × (IsSweep B64 sample_base bytes items × (text ≡ length (listing B64 sample_base Intel items)))
  listed-end bytes at text l le = (l.items, (turn.swept-end B64 sample_base at bytes l.items l.swept le, l.text_is))

  -- one more item, as the parts of the loop are known
  pub listed-more : (bytes : List ℕ) (at text : ℕ) (reading : Reading) (rest item line line' : List ℕ) (len n : ℕ) → Listed bytes at text → rest ≡ drop at bytes →
      IsReadAt B64 sample_base at rest reading → TakesSome reading (length rest) → item ≡ take (item_len reading) rest → line ≡ [] →
      line' ≡ line ++ item_line B64 sample_base Intel (record { offset = at; bytes = item; reading = reading }) → length line' ≤ 16384 → len ≡ length item → n ≡ length line' →
      Listed bytes (at + len) (text + n)
  listed-more bytes at text reading rest item line line' len n l back reads takes front empty is short len_is n_is =
      let R : List ℕ → Type 0 = λ xs. IsReadAt B64 sample_base at xs reading in
      let T : List ℕ → Type 0 = λ xs. TakesSome reading (length xs) in
      let taken = subst T back takes in
      let fits = taken.within in
      let item_is : item ≡ take (item_len reading) (drop at bytes) = front ∙ ap (take (item_len reading)) back in
      let I : List ℕ → List ℕ = λ xs. item_line B64 sample_base Intel (record { offset = at; bytes = xs; reading = reading }) in
      let line_is : line' ≡ I (take (item_len reading) (drop at bytes)) = is ∙ (ap (λ (xs : List ℕ). xs ++ I item) empty ∙ ap I item_is) in
      let as_long : item_len reading ≡ len = omega (arith, ap length item_is, length-take (item_len reading) (drop at bytes)) in
      let step = listed-step bytes at text reading line' l (subst R back reads) taken line_is short in
      let L : ℕ → Type 0 = λ k. Listed bytes (at + k) (text + length line') in
      subst (λ (k : ℕ). Listed bytes (at + len) (text + k)) (sym n_is) (subst L as_long step)
