-- What stands where in the image of a sound region.
use Rattle.std.proofs.Common.{◌≡◌, ℕ, zero, suc, ◌+◌, ◌-◌, ◌≤◌, ◌<◌, ◌⊎◌, inl, inr, List, [], ◌∷◌, ◌++◌, length, get_or, take, drop, replicate, arith, sym, subst, ap, ◌∙◌, refl}
use Rattle.std.specs.Prelude.{All}
use Rattle.std.proofs.lemmas.Bool.{cases_lt}
use Rattle.std.proofs.lemmas.List.{length-replicate, get_or-replicate, get_or_append_left, get_or-append_right}
use Rattle.std.proofs.Math.Seq.{take-append_seam, drop-append-add}
use Rattle.code_region.specs.State.{LiveBlock, RegionState, int3, image_between, region_image}
use Rattle.code_region.specs.Keeping.{AreLaid, IsSound}
use Rattle.code_region.specs.Laws.{HoldsContents}
use Rattle.code_region.proofs.Sound.{AreLaid-le}
use Rattle.code_region.proofs.Lawful.{laid-inside}

-- what stands behind two parts
drop_two : (a b c : List ℕ) (m n k : ℕ) → length a ≡ m → length b ≡ n → drop (m + (n + k)) (a ++ (b ++ c)) ≡ drop k c
drop_two a b c m n k p q =
    subst (λ (x : ℕ). drop (x + (n + k)) (a ++ (b ++ c)) ≡ drop k c) p
    (subst (λ (y : ℕ). drop (length a + (y + k)) (a ++ (b ++ c)) ≡ drop k c) q
    (drop-append-add a (b ++ c) (length b + k) ∙ drop-append-add b c k))

-- the second of three parts
take_second : (a b c : List ℕ) (m n : ℕ) → length a ≡ m → length b ≡ n → take n (drop m (a ++ (b ++ c))) ≡ b
take_second a b c m n p q =
    let e : m ≡ length a + 0 = omega (arith, p) in
    ap (λ (x : ℕ). take n (drop x (a ++ (b ++ c)))) e
    ∙ (ap (take n) (drop-append-add a (b ++ c) 0)
    ∙ subst (λ (x : ℕ). take x (b ++ c) ≡ b) q (take-append_seam b c))

content-at : (from limit : ℕ) (live : List LiveBlock) (k : ℕ) (d : LiveBlock) → AreLaid from limit live → k < length live
    → take (get_or live k d).len (drop ((get_or live k d).place - from) (image_between from limit live)) ≡ (get_or live k d).content
content-at from limit [] k d laid h = absurd (omega arith)
content-at from limit (block ∷ live) zero d laid h =
    take_second (replicate (block.place - from) int3) block.content (image_between (block.place + block.len) limit live) (block.place - from) block.len
    (length-replicate (block.place - from) int3) laid.2
content-at from limit (block ∷ live) (suc k) d laid h =
    let b = get_or live k d in
    let inside = laid-inside (block.place + block.len) limit live k d laid.3 (omega arith) in
    let p = laid.0 in
    let e : b.place - from ≡ (block.place - from) + (block.len + (b.place - (block.place + block.len))) = omega (arith, inside.0, p) in
    ap (λ (n : ℕ). take b.len (drop n (image_between from limit (block ∷ live)))) e
    ∙ (ap (take b.len)
    (drop_two (replicate (block.place - from) int3) block.content (image_between (block.place + block.len) limit live) (block.place - from) block.len
    (b.place - (block.place + block.len)) (length-replicate (block.place - from) int3) laid.2)
    ∙ content-at (block.place + block.len) limit live k d laid.3 (omega arith))

-- a live block does not take an address
abbrev Leaves : ℕ → LiveBlock → Type 0
Leaves at block = (at < block.place) ⊎ (block.place + block.len ≤ at)

quiet-at : (from limit : ℕ) (live : List LiveBlock) (k : ℕ) → AreLaid from limit live → from + k < limit → All (Leaves (from + k)) live
    → get_or (image_between from limit live) k 0 ≡ int3
quiet-at from limit [] k laid h free = get_or-replicate (limit - from) k int3 0 (omega arith)
quiet-at from limit (block ∷ live) k laid h free =
    let p = laid.0 in
    let gap = length-replicate (block.place - from) int3 in
    let rest = block.content ++ image_between (block.place + block.len) limit live in
    elim (cases_lt k (block.place - from)) [
      | inl before ↦
          get_or_append_left (replicate (block.place - from) int3) rest 0 k (omega (arith, gap, before))
          ∙ get_or-replicate (block.place - from) k int3 0 before
      | inr behind ↦ elim (free 0 block (omega arith)) [
        | inl less ↦ absurd (omega (arith, less, behind, p))
        | inr past ↦
            let n : ℕ = k - (block.place - from) - block.len in
            let at : block.place + block.len + n ≡ from + k = omega (arith, past, p) in
            get_or-append_right (replicate (block.place - from) int3) rest (block.place - from) k 0 gap behind
            ∙ (get_or-append_right block.content (image_between (block.place + block.len) limit live) block.len (k - (block.place - from)) 0 laid.2
            (omega (arith, past, p, behind))
            ∙ quiet-at (block.place + block.len) limit live n laid.3 (omega (arith, at, h))
            (λ j d jl. subst (λ (x : ℕ). Leaves x (get_or live j d)) (sym at) (free (suc j) d (omega arith))))
      ]
    ]

-- **each live block has its content at its place, and every other byte is INT3**
pub sound-holds : (state : RegionState) → IsSound state → HoldsContents state (region_image state)
unfolding region_image
sound-holds state sound = record {
  contents = λ k d h. content-at state.base (state.base + state.size) state.live k d sound h;
  elsewhere = λ k h free. quiet-at state.base (state.base + state.size) state.live k sound (omega arith) free;
}
