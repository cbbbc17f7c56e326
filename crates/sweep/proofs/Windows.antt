-- The bytes at the front of a window.
use Rattle.std.proofs.Common.{◌≡◌, ℕ, ◌+◌, ◌-◌, ◌≤◌, List, [], ◌++◌, length, take, drop, Option, Some, None, arith, refl, sym, ap, ◌∙◌, take-take}
use Rattle.std.specs.Prelude.{IfSome}
use Rattle.std.proofs.lemmas.List.{length-take-le, length-take, length-drop}
use Rattle.byte_ports.specs.Ports.{with_front}
use Rattle.sweep.specs.RunParts.Reads.{IsAtEnd}
use Rattle.std.proofs.lemmas.Slice.{take-put_mid}
use borrow.Rule.Slice.PartMut.{put_mid}
use Rattle.std.proofs.Math.Seq.{take-append-add}

-- a piece behind the first bytes of a window
pub piece_behind : (a k n : ℕ) (xs ys : List ℕ) → a ≤ length xs → n ≤ length ys → take (a + n) (put_mid a k xs ys) ≡ take a xs ++ take n ys
piece_behind a k n xs ys inside few =
    let whole : take (a + length ys) (put_mid a k xs ys) ≡ take a xs ++ ys = take-put_mid a k xs ys (a + length ys) refl inside in
    let front : take (a + n) (take (a + length ys) (put_mid a k xs ys)) ≡ take (a + n) (put_mid a k xs ys)
    = take-take (a + n) (a + length ys) (put_mid a k xs ys) (omega arith) in
    let len : a + n ≡ length (take a xs) + n = omega (arith, length-take-le a xs inside) in
    sym front ∙ (ap (take (a + n)) whole ∙ (ap (λ m. take m (take a xs ++ ys)) len ∙ take-append-add (take a xs) ys n))

-- a part of a window has no more bytes
pub part_few : (len room : ℕ) (window : List ℕ) → length window ≤ 16384 → length (take (len + room - len) (drop len window)) ≤ 16384
part_few len room window few = omega (arith, length-take (len + room - len) (drop len window), length-drop len window, few)

-- no byte is left where none was taken and none was left
pub at_end : (left left' : Option (List ℕ)) (piece : List ℕ) (n : ℕ) → left ≡ with_front (take n piece) left' → n ≡ 0 → IfSome left (λ bytes. bytes ≡ []) →
    IsAtEnd left'
at_end left None piece n taken none end = tt
at_end left (Some rest) piece n taken none end =
    let whole : take n piece ++ rest ≡ [] = told left (take n piece ++ rest) taken end in
    ap (λ k. take k piece ++ rest) (sym none) ∙ whole
  where
    told : (left : Option (List ℕ)) (bytes : List ℕ) → left ≡ Some bytes → IfSome left (λ xs. xs ≡ []) → bytes ≡ []
    told (Some xs) bytes e end = let same : xs ≡ bytes = cc in sym same ∙ end
    told None bytes e end = absurd cc
