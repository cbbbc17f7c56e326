-- Where images and slots stand in the bytes of a block.
use Rattle.std.proofs.Common.{◌≡◌, ℕ, zero, suc, ◌+◌, ◌-◌, ◌*◌, ◌<◌, ◌≤◌, ◌⊎◌, inl, inr, Bool, true, false, List, [], ◌∷◌, ◌++◌, length, get_or, take, drop, replicate, refl, ap, sym, ◌∙◌, subst, append_assoc, arith, length-append}
use Rattle.std.specs.Prelude.{IsSome, if◌then◌else◌, ◌==◌}
use Rattle.std.specs.List.{flat_map, range_with_len}
use Rattle.std.proofs.Math.Seq.{take-append_seam, drop-append-add}
use Rattle.std.proofs.lemmas.Bool.{cases_lt, ne_eqb}
use Rattle.std.proofs.lemmas.List.{length-replicate}
use Rattle.x86_values.specs.declared.Bits.{Bits}
use Rattle.plain_spelling.specs.Values.{low_bytes}
use Rattle.branch_sizes.specs.declared.plan.BlockSpan.{BlockSpan}
use Rattle.branch_sizes.specs.declared.plan.Goal.{Goal}
use Rattle.branch_sizes.specs.Layout.{IsLayout, first_of_block, span_at, place}
use Rattle.move_goals.specs.declared.items.Placed.{Placed}
use Rattle.move_goals.specs.Items.{AreSpansOf}
use Rattle.move_goals.specs.Plan.{plan_with}
use Rattle.branch_sizes.specs.MoveLayout.Laid.{slots_of, images_end, slots_start, new_end, slot_address, goal_address, is_far_at}
use Rattle.branch_sizes.specs.MoveLayout.Slots.{place_among}
use Rattle.block_encoder.specs.Bytes.{image_bytes, bytes_at, block_images, gap_bytes, slot_bytes, block_bytes}
use Rattle.block_encoder.specs.Aims.{StandsAtPlace, HasSlot}
use Rattle.block_encoder.specs.LawsBelow.{MovedLawsBelow}
use Rattle.block_encoder.proofs.Places.{place_in, place-first, place-last, place-next, place-rises, place-is, in_block-below}
use Rattle.block_encoder.proofs.Joined.{bytes-length}

-- ---- pieces one behind another

-- the pieces from one number on, as long as places say
record AreFrom (bytes : ℕ → List ℕ) (at : ℕ → ℕ) (first n : ℕ) : Type 0 where
  next : (k : ℕ) → first ≤ k → k < first + n → at (k + 1) ≡ at k + length (bytes k)
  rises : (j k : ℕ) → j ≤ k → at j ≤ at k

fewer : (bytes : ℕ → List ℕ) (at : ℕ → ℕ) (first n : ℕ) → AreFrom bytes at first (suc n) → AreFrom bytes at (first + 1) n
fewer bytes at first n h = record { next = λ k from below. h.next k (omega arith) (omega arith); rises = h.rises }

-- they are as long together as the places are apart
pieces-length : (bytes : ℕ → List ℕ) (at : ℕ → ℕ) (first n : ℕ) → AreFrom bytes at first n → at first + length (flat_map bytes (range_with_len first n)) ≡ at (first + n)
pieces-length bytes at first zero h = let e : first + 0 ≡ first = omega arith in omega (arith, ap at e)
pieces-length bytes at first (suc n) h =
    let rest = pieces-length bytes at (first + 1) n (fewer bytes at first n h) in
    let e : first + 1 + n ≡ first + suc n = omega arith in
    omega (arith, rest, ap at e, h.next first (omega arith) (omega arith), length-append (bytes first) (flat_map bytes (range_with_len (first + 1) n)))

-- the first of some pieces, and a later one
foremost : (a more rest piece : List ℕ) (n : ℕ) → n ≡ 0 → a ≡ piece → take (length piece) (drop n ((a ++ more) ++ rest)) ≡ piece
foremost a more rest piece n e same =
    subst (λ (x : List ℕ). take (length x) (drop n ((a ++ more) ++ rest)) ≡ x) same
    (ap (λ (m : ℕ). take (length a) (drop m ((a ++ more) ++ rest))) e
    ∙ (ap (take (length a)) (append_assoc a more rest) ∙ take-append_seam a (more ++ rest)))

later : (a more rest piece : List ℕ) (n m : ℕ) → n ≡ length a + m → take (length piece) (drop m (more ++ rest)) ≡ piece → take (length piece) (drop n ((a ++ more) ++ rest)) ≡ piece
later a more rest piece n m e h =
    ap (take (length piece)) (ap (λ (k : ℕ). drop k ((a ++ more) ++ rest)) e
    ∙ (ap (drop (length a + m)) (append_assoc a more rest) ∙ drop-append-add a (more ++ rest) m))
    ∙ h

-- each stands at its place, whatever stands behind them
piece-at : (bytes : ℕ → List ℕ) (at : ℕ → ℕ) (first n k : ℕ) (rest : List ℕ) → AreFrom bytes at first n → first ≤ k → k < first + n
    → take (length (bytes k)) (drop (at k - at first) (flat_map bytes (range_with_len first n) ++ rest)) ≡ bytes k
piece-at bytes at first zero k rest h from below = absurd (omega arith)
piece-at bytes at first (suc n) k rest h from below =
    elim (cases_lt first k) [
      | inl behind ↦
          let up = h.rises (first + 1) k (omega arith) in
          let e : at k - at first ≡ length (bytes first) + (at k - at (first + 1)) = omega (arith, up, h.next first (omega arith) (omega arith)) in
          later (bytes first) (flat_map bytes (range_with_len (first + 1) n)) rest (bytes k) (at k - at first) (at k - at (first + 1)) e
          (piece-at bytes at (first + 1) n k rest (fewer bytes at first n h) (omega arith) (omega arith))
      | inr here ↦
          let same : first ≡ k = omega arith in
          let e : at k - at first ≡ 0 = omega (arith, ap at same) in
          foremost (bytes first) (flat_map bytes (range_with_len (first + 1) n)) rest (bytes k) (at k - at first) e (ap bytes same)
    ]

-- ---- slots

eight : (x : ℕ) → length (low_bytes 8 x) ≡ 8
unfolding low_bytes
eight x = refl

-- the bytes of slots
slots-length : (slots : List ℕ) → length (slot_bytes slots) ≡ 8 * length slots
slots-length [] = refl
slots-length (x ∷ xs) = omega (arith, length-append (low_bytes 8 x) (slot_bytes xs), eight x, slots-length xs)

-- a slot stands behind those before it
slot-at : (slots : List ℕ) (n : ℕ) → n < length slots → take 8 (drop (8 * n) (slot_bytes slots)) ≡ low_bytes 8 (get_or slots n 0)
slot-at [] n lt = absurd (omega arith)
slot-at (x ∷ xs) zero lt =
    subst (λ (m : ℕ). take m (low_bytes 8 x ++ slot_bytes xs) ≡ low_bytes 8 x) (eight x) (take-append_seam (low_bytes 8 x) (slot_bytes xs))
slot-at (x ∷ xs) (suc n) lt =
    let e : 8 * suc n ≡ length (low_bytes 8 x) + 8 * n = omega (arith, eight x) in
    ap (take 8) (ap (λ (m : ℕ). drop m (low_bytes 8 x ++ slot_bytes xs)) e ∙ drop-append-add (low_bytes 8 x) (slot_bytes xs) (8 * n))
    ∙ slot-at xs n (omega arith)

-- the gap
gap_by : (empty : Bool) (n : ℕ) → empty ≡ false → length {A = ℕ} (if empty then [] else replicate n 0xCC) ≡ n
gap_by true n h = cc
gap_by false n h = let byte : ℕ = 0xCC in length-replicate n byte

no_gap : (empty : Bool) (n : ℕ) → empty ≡ true → length {A = ℕ} (if empty then [] else replicate n 0xCC) ≡ 0
no_gap true n h = refl
no_gap false n h = cc

-- what stands behind two parts
drop_both : (a b c : List ℕ) (n : ℕ) → drop (length a + length b + n) (a ++ (b ++ c)) ≡ drop n c
drop_both a b c n =
    let e : length a + length b + n ≡ length a + (length b + n) = omega arith in
    ap (λ (m : ℕ). drop m (a ++ (b ++ c))) e ∙ (drop-append-add a (b ++ c) (length b + n) ∙ drop-append-add b c n)

module _ (laws : MovedLawsBelow) where
  -- ---- a block

  module _ (bits : Bits) (items : List Placed) (spans : List BlockSpan) (goals : ℕ → Goal) (layout : List ℕ) (l : IsLayout (plan_with bits spans items goals) layout)
      (s : AreSpansOf items spans) (b : ℕ) (bl : b < length spans)
      (some : (k : ℕ) → k < length items → IsSome (image_bytes bits items (plan_with bits spans items goals) layout k)) where
    are-from : AreFrom (bytes_at bits items (plan_with bits spans items goals) layout) (place_in (plan_with bits spans items goals) layout b) (first_of_block spans b) (span_at spans b).count
    unfolding plan_with
    are-from = record {
      next = λ k from below.
          let lt : k < length items = omega (arith, in_block-below laws spans b k bl from below, s.counts) in
          place-next laws (plan_with bits spans items goals) layout b k from
          ∙ ap (λ (n : ℕ). place_in (plan_with bits spans items goals) layout b k + n) (sym (bytes-length laws bits items spans goals layout l k lt (some k lt)));
      rises = λ j k le. place-rises laws (plan_with bits spans items goals) layout b j k le;
    }

    images-length : (span_at spans b).new_base + length (block_images bits items (plan_with bits spans items goals) layout b) ≡ images_end (plan_with bits spans items goals) layout b
    unfolding plan_with block_images
    images-length =
        omega (
          arith,
          pieces-length (bytes_at bits items (plan_with bits spans items goals) layout) (place_in (plan_with bits spans items goals) layout b) (first_of_block spans b) (span_at spans b).count are-from,
          place-first (plan_with bits spans items goals) layout b,
          place-last (plan_with bits spans items goals) layout b,
        )

    gap-length : 0 < length (slots_of (plan_with bits spans items goals) layout b)
        → length (gap_bytes (plan_with bits spans items goals) layout b) ≡ slots_start (plan_with bits spans items goals) layout b - images_end (plan_with bits spans items goals) layout b
    unfolding gap_bytes
    gap-length more =
        gap_by (length (slots_of (plan_with bits spans items goals) layout b) == 0) (slots_start (plan_with bits spans items goals) layout b - images_end (plan_with bits spans items goals) layout b)
        (ne_eqb (length (slots_of (plan_with bits spans items goals) layout b)) 0 (λ e. omega arith))

    -- **a block ends at its new end**
    pub block-length : (span_at spans b).new_base + length (block_bytes bits items (plan_with bits spans items goals) layout b) ≡ new_end (plan_with bits spans items goals) layout b
    unfolding block_bytes gap_bytes
    block-length = by_slots (cases_lt 0 (length (slots_of (plan_with bits spans items goals) layout b)))
      where
        images : List ℕ
        images = block_images bits items (plan_with bits spans items goals) layout b

        gap : List ℕ
        gap = gap_bytes (plan_with bits spans items goals) layout b

        slots : List ℕ
        slots = slots_of (plan_with bits spans items goals) layout b

        together : length (images ++ (gap ++ slot_bytes slots)) ≡ length images + (length gap + 8 * length slots)
        together = omega (arith, length-append images (gap ++ slot_bytes slots), length-append gap (slot_bytes slots), slots-length slots)

        by_slots : (0 < length slots) ⊎ (length slots ≤ 0) → (span_at spans b).new_base + length (images ++ (gap ++ slot_bytes slots)) ≡ new_end (plan_with bits spans items goals) layout b
        by_slots (inl more) =
            let g = gap-length more in
            omega (arith, together, g, images-length, laws.ends.end-with-slots (plan_with bits spans items goals) layout b more, laws.ends.images-le-slots (plan_with bits spans items goals) layout b)
        by_slots (inr none) =
            let empty : length slots ≡ 0 = omega arith in
            let g = no_gap (length slots == 0) (slots_start (plan_with bits spans items goals) layout b - images_end (plan_with bits spans items goals) layout b) (rw empty refl) in
            omega (arith, together, g, images-length, laws.ends.end-without-slots (plan_with bits spans items goals) layout b empty)

    -- **an item of the block stands at its place**
    pub item-stands : (k : ℕ) → first_of_block spans b ≤ k → k < first_of_block spans b + (span_at spans b).count → StandsAtPlace bits items (plan_with bits spans items goals) layout b k
    unfolding plan_with block_bytes block_images
    item-stands k from below =
        let p = plan_with bits spans items goals in
        let lt : k < length items = omega (arith, in_block-below laws spans b k bl from below, s.counts) in
        let here = place-is laws p layout b k bl from below in
        let begin = place-first p layout b in
        let len = bytes-length laws bits items spans goals layout l k lt (some k lt) in
        let at : place p layout k - (span_at spans b).new_base ≡ place_in p layout b k - place_in p layout b (first_of_block spans b) = omega (arith, here, begin) in
        let rest = gap_bytes p layout b ++ slot_bytes (slots_of p layout b) in
        record {
          from = omega (arith, here, begin, place-rises laws p layout b (first_of_block spans b) k from);
          within = omega (arith, here, place-next laws p layout b k from, place-last p layout b, place-rises laws p layout b (k + 1) (first_of_block spans b + (span_at spans b).count) (omega arith));
          bytes =
              ap (λ (n : ℕ). take n (drop (place p layout k - (span_at spans b).new_base) (block_bytes bits items p layout b))) (sym len)
              ∙ (ap (λ (n : ℕ). take (length (bytes_at bits items p layout k)) (drop n (block_bytes bits items p layout b))) at
              ∙ piece-at (bytes_at bits items p layout) (place_in p layout b) (first_of_block spans b) (span_at spans b).count k rest are-from from below);
        }

    -- **the slot of a far form has its goal**
    pub slot-stands : (k : ℕ) → first_of_block spans b ≤ k → k < first_of_block spans b + (span_at spans b).count → is_far_at (plan_with bits spans items goals) layout k ≡ true
        → HasSlot bits items (plan_with bits spans items goals) layout b (goal_address (plan_with bits spans items goals) layout k)
    unfolding plan_with block_bytes slot_address
    slot-stands k from below far =
        let p = plan_with bits spans items goals in
        let goal = goal_address p layout k in
        let i : ℕ = k - first_of_block spans b in
        let il : i < (span_at spans b).count = omega arith in
        let e : k ≡ first_of_block spans b + i = omega arith in
        let slots = slots_of p layout b in
        let n = place_among slots goal in
        let lt = laws.slots.slot-number-below p layout b i k il e far in
        let some_slot : 0 < length slots = omega arith in
        let g = gap-length some_slot in
        let at : slots_start p layout b + 8 * n - (span_at spans b).new_base ≡ length (block_images bits items p layout b) + length (gap_bytes p layout b) + 8 * n =
        omega (arith, g, images-length, laws.ends.images-le-slots p layout b) in
        record {
          behind = omega (arith, laws.ends.images-le-slots p layout b);
          within = laws.slots.slot-within p layout b i k il e far;
          aligned = omega (arith, laws.ends.slots-aligned p layout b);
          bytes =
              ap (λ (m : ℕ). take 8 (drop m (block_bytes bits items p layout b))) at
              ∙ (ap (take 8) (drop_both (block_images bits items p layout b) (gap_bytes p layout b) (slot_bytes slots) (8 * n))
              ∙ (slot-at slots n lt ∙ ap (low_bytes 8) (laws.slots.slot-has-goal p layout b i k il e far)));
        }
