-- Bytes written over others: at a part, and what stands below, at and above it.
use Rattle.std.proofs.Common.{◌≡◌, ℕ, ◌+◌, ◌-◌, ◌≤◌, ◌<◌, List, ◌++◌, length, take, drop, get_or, arith, sym, ◌∙◌, ap, refl, append_assoc, length-append, length-drop, length-take-le, drop-drop, get_or-take, get_or-drop}
use Rattle.std.proofs.lemmas.List.{drop-take, take_at, drop_at, get_or_append_left, get_or-append_right}
use Rattle.std.proofs.lemmas.Slice.{take-put_mid, drop-put_mid, take-put_mid_below}
use borrow.Rule.Slice.PartMut.{put_mid}
use Rattle.code_region.specs.Keeping.{with_bytes_at}

-- what is written to a part and then right behind it is written there together
pub overwritten-put_mid : (bytes : List ℕ) (start at : ℕ) (xs ys : List ℕ) → at ≡ start + length xs → start + (length xs + length ys) ≤ length bytes →
    with_bytes_at (put_mid start (at - start) bytes xs) at ys ≡ with_bytes_at bytes start (xs ++ ys)
overwritten-put_mid bytes start at xs ys e h =
    let front = take-put_mid start (at - start) bytes xs at e (omega arith) in
    let back = drop-put_mid start (at - start) bytes xs (at + length ys) (omega arith) (omega arith) (omega arith) in
    let n : at + length ys ≡ start + length (xs ++ ys) = omega (arith, length-append xs ys) in
    rw (front, back, n) (simp append_assoc)

-- overwriting bytes is std's replacement of the middle part of a list
pub overwritten_is : (bytes : List ℕ) (start : ℕ) (xs : List ℕ) → with_bytes_at bytes start xs ≡ put_mid start (length xs) bytes xs
overwritten_is bytes start xs = ap (λ rest. take start bytes ++ (xs ++ rest)) (sym (drop-drop (length xs) start bytes))

-- overwriting keeps the number of bytes
pub length-overwritten : (bytes : List ℕ) (start : ℕ) (xs : List ℕ) → start + length xs ≤ length bytes → length (with_bytes_at bytes start xs) ≡ length bytes
length-overwritten bytes start xs h =
    let l = length-append (take start bytes) (xs ++ drop (start + length xs) bytes) in
    let m = length-append xs (drop (start + length xs) bytes) in
    let n = length-take-le start bytes (omega arith) in
    omega (arith, length-drop (start + length xs) bytes)

-- a part below, above and at what is written
pub part-below : (bytes : List ℕ) (start : ℕ) (xs : List ℕ) (at len : ℕ) → start ≤ length bytes → at + len ≤ start →
    take len (drop at (with_bytes_at bytes start xs)) ≡ take len (drop at bytes)
part-below bytes start xs at len h below =
    ap (λ ys. take len (drop at ys)) (overwritten_is bytes start xs) ∙ sym (drop-take at len (put_mid start (length xs) bytes xs)) ∙
    ap (λ ys. drop at ys) (take-put_mid_below start (length xs) bytes xs (at + len) below h) ∙ drop-take at len bytes

-- it keeps each part that starts behind the overwritten bytes
pub part-above : (bytes : List ℕ) (start : ℕ) (xs : List ℕ) (at len : ℕ) → start ≤ length bytes → start + length xs ≤ at →
    take len (drop at (with_bytes_at bytes start xs)) ≡ take len (drop at bytes)
part-above bytes start xs at len h above =
    ap (λ ys. take len (drop at ys)) (overwritten_is bytes start xs) ∙
    ap (λ ys. take len ys) (drop-put_mid start (length xs) bytes xs at above h refl)

-- the part at the start is what was written
pub part-at : (bytes : List ℕ) (start : ℕ) (xs : List ℕ) (len : ℕ) → start ≤ length bytes → length xs ≡ len →
    take len (drop start (with_bytes_at bytes start xs)) ≡ xs
part-at bytes start xs len h l =
    ap (λ ys. take len ys) (drop_at (take start bytes) (xs ++ drop (start + length xs) bytes) start (length-take-le start bytes h)) ∙
    take_at xs (drop (start + length xs) bytes) len l

-- a byte below, above and at what is written
pub byte-below : (bytes : List ℕ) (start : ℕ) (xs : List ℕ) (k : ℕ) → start ≤ length bytes → k < start →
    get_or (with_bytes_at bytes start xs) k 0 ≡ get_or bytes k 0
byte-below bytes start xs k h below =
    let l = length-take-le start bytes h in
    get_or_append_left (take start bytes) (xs ++ drop (start + length xs) bytes) 0 k (omega arith) ∙ get_or-take start bytes k 0 below

-- it keeps each byte behind the overwritten ones
pub byte-above : (bytes : List ℕ) (start : ℕ) (xs : List ℕ) (k : ℕ) → start ≤ length bytes → start + length xs ≤ k →
    get_or (with_bytes_at bytes start xs) k 0 ≡ get_or bytes k 0
byte-above bytes start xs k h above =
    let l = length-take-le start bytes h in
    let e : start + length xs + (k - start - length xs) ≡ k = omega arith in
    get_or-append_right (take start bytes) (xs ++ drop (start + length xs) bytes) start k 0 l (omega arith) ∙
    get_or-append_right xs (drop (start + length xs) bytes) (length xs) (k - start) 0 refl (omega arith) ∙
    get_or-drop (start + length xs) bytes (k - start - length xs) 0 ∙ ap (λ n. get_or bytes n 0) e

-- each byte among them is the one that was written
pub byte-at : (bytes : List ℕ) (start : ℕ) (xs : List ℕ) (k : ℕ) → start ≤ length bytes → start ≤ k → k < start + length xs →
    get_or (with_bytes_at bytes start xs) k 0 ≡ get_or xs (k - start) 0
byte-at bytes start xs k h at below =
    let l = length-take-le start bytes h in
    get_or-append_right (take start bytes) (xs ++ drop (start + length xs) bytes) start k 0 l (omega arith) ∙
    get_or_append_left xs (drop (start + length xs) bytes) 0 (k - start) (omega arith)
