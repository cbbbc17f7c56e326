-- Some bytes have one sweep.
use Rattle.std.proofs.Common.{◌≡◌, ℕ, ◌+◌, List, [], ◌∷◌, ◌++◌, length, take, drop, refl, sym, ap, ◌∙◌, subst, arith, append-nil, length-append}
use Rattle.x86_values.specs.declared.Bits.{Bits}
use Rattle.row_relation.specs.Spells.{Reading}
use Rattle.decoder.specs.OneReading.{OneReadingFacts}
use Rattle.opcode_rows.specs.Sweep.{Item, IsReadAt, IsItemAt, Sweeps, IsSweep, item_len}

-- lists that begin each other are equal
pub begin_each_other : (a b m n : List Item) → b ≡ a ++ m → a ≡ b ++ n → a ≡ b
begin_each_other a b [] n e f = sym (e ∙ append-nil a)
begin_each_other a b (x ∷ m) n e f = absurd (omega (arith, ap length e, ap length f, length-append a (x ∷ m), length-append b n))

module _ (one : OneReadingFacts) where
  -- some bytes at an offset have one reading
  pub reading_unique : (bits : Bits) (base offset : ℕ) (bytes : List ℕ) (reading other : Reading) → IsReadAt bits base offset bytes reading →
      IsReadAt bits base offset bytes other → reading ≡ other
  unfolding IsReadAt
  reading_unique bits base offset bytes reading other h k = one.reading_same bits (base + offset) bytes reading other h k

  -- one item stands at an offset
  pub item_unique : (bits : Bits) (base offset : ℕ) (bytes : List ℕ) (x y : Item) → IsItemAt bits base offset bytes x → IsItemAt bits base offset bytes y →
      x ≡ y
  item_unique bits base offset bytes x y h k =
      let reading = reading_unique bits base offset bytes x.reading y.reading h.reads k.reads in
      ap (λ (n : ℕ). make n x.bytes x.reading) (h.offset_is ∙ sym k.offset_is)
      ∙ (ap (λ (bs : List ℕ). make y.offset bs x.reading) (h.bytes_are ∙ (ap (λ (r : Reading). take (item_len r) bytes) reading ∙ sym k.bytes_are))
      ∙ ap (make y.offset y.bytes) reading)
    where
      make : ℕ → List ℕ → Reading → Item
      make n bs r = record { offset = n; bytes = bs; reading = r }

  -- first items of a sweep are the first of every whole sweep
  pub sweep_begins : (bits : Bits) (base offset : ℕ) (bytes : List ℕ) (items others : List Item) (rest : List ℕ) →
      Sweeps bits base offset bytes items rest → Sweeps bits base offset bytes others [] → (more : List Item) × (others ≡ items ++ more)
  sweep_begins bits base offset bytes [] others rest h k = (others, refl)
  sweep_begins bits base offset bytes (x ∷ items) [] rest h k =
      let within = h.0.within in
      let some = h.0.some in absurd (omega (arith, ap length k))
  sweep_begins bits base offset bytes (x ∷ items) (y ∷ others) rest h k =
      let same = item_unique bits base offset bytes x y h.0 k.0 in
      let S : Item → Type 0 = λ i. Sweeps bits base (offset + item_len i.reading) (drop (item_len i.reading) bytes) others [] in
      let tail = sweep_begins bits base (offset + item_len x.reading) (drop (item_len x.reading) bytes) items others rest h.1 (subst S (sym same) k.1) in
      (tail.0, ap (λ (i : Item). i ∷ others) (sym same) ∙ ap (λ (l : List Item). x ∷ l) tail.1)

  -- **some bytes have one sweep**
  pub sweep_unique : (bits : Bits) (base : ℕ) (bytes : List ℕ) (items others : List Item) → IsSweep bits base bytes items →
      IsSweep bits base bytes others → items ≡ others
  sweep_unique bits base bytes items others h k =
      let there = sweep_begins bits base 0 bytes items others [] h k in
      let back = sweep_begins bits base 0 bytes others items [] k h in begin_each_other items others there.0 back.0 there.1 back.1
