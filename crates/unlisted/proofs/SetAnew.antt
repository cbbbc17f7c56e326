-- The bytes of an instruction whose number is set anew: they have its shape.
use Rattle.std.proofs.Common.{◌≡◌, ◌⊎◌, inl, inr, ℕ, zero, suc, ◌+◌, ◌-◌, ◌/◌, ◌<◌, ◌≤◌, Bool, true, false, nat_le, if◌then◌else◌, List, [], ◌∷◌, ◌++◌, length, take, drop, Option, Some, None, Result, Ok, Err, refl, ap, sym, ◌∙◌, subst, arith, length-append, length-drop, take-append-drop}
use Rattle.std.proofs.Math.Seq.{drop-append_seam}
use Rattle.std.proofs.lemmas.Bool.{leb-true, le-leb}
use Rattle.std.proofs.lemmas.List.{take-append-le, take_all, take-take, length-take-le, length-take}
use Rattle.x86_values.specs.declared.Bits.{Bits}
use Rattle.instruction_parts.specs.Counting.{is_prefix}
use Rattle.instruction_parts.specs.Front.{prefix_run}
use Rattle.row_meaning.specs.Meaning.{sign_extended}
use Rattle.unlisted.specs.declared.Kind.{Kind}
use Rattle.unlisted.specs.declared.ShapeFlow.{ShapeFlow}
use Rattle.unlisted.specs.declared.Reference.{Reference}
use Rattle.unlisted.specs.declared.Relative.{Relative}
use Rattle.unlisted.specs.declared.Shape.{Shape}
use Rattle.unlisted.specs.declared.MeasureError.{MeasureError}
use Rattle.unlisted.specs.declared.MeasureError.TheVariants.{Ended, Unknown}
use Rattle.unlisted.specs.Encodings.{Rest, Nothing, Byte, End, relative_of, ended, found, front_step, found_behind, found_in, within_15, format_of}
use Rattle.plain_spelling.specs.Values.{low_bytes}
use Rattle.unlisted.specs.declared.Reference.TheVariants.{Branch}
use Rattle.unlisted.specs.Moved.{with_bytes, with_number, shape_with, distance_to, number_fits, number_by, number_bytes, bytes_by, IsReferring, NumbersReferToTheirGoal}
use Rattle.unlisted.proofs.Growing.{format-facts, run-parts}
use Rattle.unlisted.proofs.Numbers.{number-comes}
use Rattle.unlisted.proofs.NumberLengths.{lengths}

-- ---- behind the prefixes

-- the number of a shape stands behind the bytes before, in the given ones; with other bytes the same is found, but for the number
record IsSet (rest : Rest) (used : ℕ) (bytes : List ℕ) (s : Shape) (r : Relative) : Type 0 where
  k : ℕ
  at : r.at ≡ used + k
  inside : k + r.len ≤ length bytes
  same : (new : List ℕ) → length new ≡ r.len → found rest used (with_bytes k new bytes) ≡ Ok (shape_with new s r)

-- so for each shape that is found
abbrev SetsAnew : Rest → ℕ → List ℕ → Result Shape MeasureError → Type 0
SetsAnew rest used bytes (Ok s) = (r : Relative) → s.relative ≡ Some r → IsSet rest used bytes s r
SetsAnew rest used bytes (Err e) = Unit {0}

with-suc : (k : ℕ) (new : List ℕ) (b : ℕ) (bytes : List ℕ) → with_bytes (suc k) new (b ∷ bytes) ≡ b ∷ with_bytes k new bytes
unfolding with_bytes
with-suc k new b bytes =
    let e : suc k + length new ≡ suc (k + length new) = omega arith in ap (λ (n : ℕ). b ∷ (take k bytes ++ (new ++ drop n (b ∷ bytes)))) e

with-zero : (new bytes : List ℕ) → with_bytes 0 new bytes ≡ new ++ drop (length new) bytes
unfolding with_bytes
with-zero new bytes = let e : 0 + length new ≡ length new = omega arith in ap (λ (n : ℕ). new ++ drop n bytes) e

length-with : (k : ℕ) (new bytes : List ℕ) → k + length new ≤ length bytes → length (with_bytes k new bytes) ≡ length bytes
unfolding with_bytes
length-with k new bytes h =
    omega (
      arith,
      h,
      length-append (take k bytes) (new ++ drop (k + length new) bytes),
      length-append new (drop (k + length new) bytes),
      length-take-le k bytes (omega (arith, h)),
      length-drop (k + length new) bytes,
    )

-- the end of an encoding by bytes that are enough
ended-by : (kind : Kind) (flow : ShapeFlow) (to : Reference) (d i used : ℕ) (bytes disp : List ℕ) → d + i ≤ length bytes → take d bytes ≡ disp →
    ended kind flow (Some to) d i used bytes
    ≡ Ok (record { len = used + (d + i); kind = kind; flow = flow; relative = Some (record { to = to; at = used; len = length disp; distance = sign_extended 64 disp }) })
unfolding ended relative_of
ended-by kind flow to d i used bytes disp room e = rw (le-leb (d + i) (length bytes) room, e) refl

take-new : (new behind : List ℕ) (d : ℕ) → length new ≡ d → take d (new ++ behind) ≡ new
take-new new behind d e = take-append-le d new behind (omega (arith, e)) ∙ take_all d new (omega (arith, e))

-- the number that ends an encoding, set anew
end-set : (kind : Kind) (flow : ShapeFlow) (to : Reference) (d i used : ℕ) (bytes : List ℕ) → d + i ≤ length bytes → (distance : ℕ) →
    IsSet (End kind flow (Some to) d i) used bytes
    (record { len = used + (d + i); kind = kind; flow = flow; relative = Some (record { to = to; at = used; len = length (take d bytes); distance = distance }) })
    (record { to = to; at = used; len = length (take d bytes); distance = distance })
unfolding found
end-set kind flow to d i used bytes room distance =
    let has : length (take d bytes) ≡ d = length-take-le d bytes (omega (arith, room)) in
    record {
      k = 0;
      at = omega arith;
      inside = omega (arith, has, room);
      same = λ new n.
          rw (sym n, with-zero new bytes)
          (ended-by kind flow to d i used (new ++ drop (length new) bytes) new
          (omega (arith, n, has, room, length-append new (drop (length new) bytes), length-drop (length new) bytes))
          (take-new new (drop (length new) bytes) d (n ∙ has)));
    }

ended-set : (kind : Kind) (flow : ShapeFlow) (reference : Option Reference) (d i used : ℕ) (bytes : List ℕ) (test : Bool) → nat_le (d + i) (length bytes) ≡ test →
    SetsAnew (End kind flow reference d i) used bytes (ended kind flow reference d i used bytes)
unfolding ended relative_of
ended-set kind flow None d i used bytes true h = rw h (λ r e. absurd (none r e))
  where
    none : (r : Relative) → None ≡ Some r → ⊥
    none r e = cc
ended-set kind flow (Some to) d i used bytes true h = rw h (λ r e. by_number r (some _ r e))
  where
    s : Shape
    s = record { len = used + (d + i); kind = kind; flow = flow; relative = relative_of (Some to) used (take d bytes) }

    some : (q r : Relative) → Some q ≡ Some r → q ≡ r
    some q r e = cc

    by_number : (r : Relative) → record { to = to; at = used; len = length (take d bytes); distance = sign_extended 64 (take d bytes) } ≡ r →
        IsSet (End kind flow (Some to) d i) used bytes s r
    by_number r e =
        subst (IsSet (End kind flow (Some to) d i) used bytes s) e
        (end-set kind flow to d i used bytes (leb-true (d + i) (length bytes) h) (sign_extended 64 (take d bytes)))
ended-set kind flow reference d i used bytes false h = rw h tt

set-more : (step : ℕ → Rest) (used b : ℕ) (bytes : List ℕ) (s : Shape) (r : Relative) → IsSet (step b) (used + 1) bytes s r →
    (i : IsSet (Byte step) used (b ∷ bytes) s r) × (0 < i.k)
unfolding found
set-more step used b bytes s r h = (
  record {
    k = suc h.k;
    at = omega (arith, h.at);
    inside = omega (arith, h.inside);
    same = λ new n. ap (found (Byte step) used) (with-suc h.k new b bytes) ∙ h.same new n;
  },
  omega arith,
)

sets-more : (step : ℕ → Rest) (used b : ℕ) (bytes : List ℕ) (answer : Result Shape MeasureError) → SetsAnew (step b) (used + 1) bytes answer →
    SetsAnew (Byte step) used (b ∷ bytes) answer
sets-more step used b bytes (Ok s) h = λ r e. (set-more step used b bytes s r (h r e)).0
sets-more step used b bytes (Err x) h = tt

-- what is found may have its number set anew
found-set : (rest : Rest) (used : ℕ) (bytes : List ℕ) → SetsAnew rest used bytes (found rest used bytes)
unfolding found
found-set Nothing used bytes = tt
found-set (End kind flow reference d i) used bytes = ended-set kind flow reference d i used bytes (nat_le (d + i) (length bytes)) refl
found-set (Byte step) used [] = tt
found-set (Byte step) used (b ∷ bytes) = sets-more step used b bytes (found (step b) (used + 1) bytes) (found-set (step b) (used + 1) bytes)

-- behind a byte that is to come
byte-set : (step : ℕ → Rest) (used : ℕ) (bytes : List ℕ) (s : Shape) (r : Relative) → found (Byte step) used bytes ≡ Ok s → s.relative ≡ Some r →
    (i : IsSet (Byte step) used bytes s r) × (0 < i.k)
unfolding found
byte-set step used [] s r h e = absurd (clash h)
  where
    clash : Err Ended ≡ Ok s → ⊥
    clash h = cc
byte-set step used (b ∷ bytes) s r h e =
    set-more step used b bytes s r
    ((subst (SetsAnew (step b) (used + 1) bytes) h (found-set (step b) (used + 1) bytes)) r e)

-- ---- the prefixes

run-set-step : (bits : Bits) (b k : ℕ) (new bytes : List ℕ) (test : Bool) → is_prefix bits b ≡ test →
    (test ≡ true → prefix_run bits (with_bytes k new bytes) ≡ prefix_run bits bytes) → prefix_run bits (b ∷ with_bytes k new bytes) ≡ prefix_run bits (b ∷ bytes)
unfolding prefix_run
run-set-step bits b k new bytes true h go = rw h (ap (λ xs. b ∷ xs) (go refl))
run-set-step bits b k new bytes false h go = rw h refl

run-longer : (bits : Bits) (b : ℕ) (bytes : List ℕ) → is_prefix bits b ≡ true → length (prefix_run bits (b ∷ bytes)) ≡ suc (length (prefix_run bits bytes))
unfolding prefix_run
run-longer bits b bytes h = rw h refl

-- the prefixes end before the number
run-set : (bits : Bits) (k : ℕ) (new bytes : List ℕ) → length (prefix_run bits bytes) < k → k + length new ≤ length bytes →
    prefix_run bits (with_bytes k new bytes) ≡ prefix_run bits bytes
run-set bits zero new bytes h room = absurd (omega (arith, h))
run-set bits (suc k) new [] h room = absurd (omega (arith, room))
run-set bits (suc k) new (b ∷ bytes) h room =
    ap (prefix_run bits) (with-suc k new b bytes)
    ∙ run-set-step bits b k new bytes (is_prefix bits b) refl
    (λ is. run-set bits k new bytes (omega (arith, h, run-longer bits b bytes is)) (omega (arith, room)))

drop-set : (n k : ℕ) (new bytes : List ℕ) → n + k + length new ≤ length bytes → drop n (with_bytes (n + k) new bytes) ≡ with_bytes k new (drop n bytes)
drop-set zero k new bytes room = let e : 0 + k ≡ k = omega arith in ap (λ (n : ℕ). with_bytes n new bytes) e
drop-set (suc n) k new [] room = absurd (omega (arith, room))
drop-set (suc n) k new (b ∷ bytes) room =
    let e : suc n + k ≡ suc (n + k) = omega arith in
    ap (λ (m : ℕ). drop (suc n) (with_bytes m new (b ∷ bytes))) e
    ∙ ap (drop (suc n)) (with-suc (n + k) new b bytes)
    ∙ drop-set n k new bytes (omega (arith, room))

-- ---- whole instructions

in-set : (bits : Bits) (bytes : List ℕ) (s : Shape) (r : Relative) (new : List ℕ) → found_in bits bytes ≡ Ok s → s.relative ≡ Some r → length new ≡ r.len →
    (found_in bits (with_bytes r.at new bytes) ≡ Ok (shape_with new s r)) × (r.at + r.len ≤ length bytes)
unfolding found_in found_behind front_step
in-set bits bytes s r new h e n =
    let run = prefix_run bits bytes in
    let set = byte-set _ (length run) (drop (length run) bytes) s r h e in
    let parts = run-parts bits bytes in
    let room : length run + set.0.k + length new ≤ length bytes = omega (arith, set.0.inside, parts.count, n) in
    let same_run : prefix_run bits (with_bytes (length run + set.0.k) new bytes) ≡ run =
    run-set bits (length run + set.0.k) new bytes (omega (arith, set.1)) room in
    let there : found_in bits (with_bytes (length run + set.0.k) new bytes) ≡ Ok (shape_with new s r) =
    rw (same_run, drop-set (length run) set.0.k new bytes room) (set.0.same new n) in (
      ap (λ (a : ℕ). found_in bits (with_bytes a new bytes)) set.0.at ∙ there,
      omega (arith, set.0.at, room, n),
    )

-- **the bytes of an instruction with another number have its shape but for the number**
pub format-set : (bits : Bits) (bytes : List ℕ) (s : Shape) (r : Relative) (new : List ℕ) → format_of bits bytes ≡ Ok s → length bytes ≡ s.len →
    s.relative ≡ Some r → length new ≡ r.len →
    (format_of bits (with_bytes r.at new bytes) ≡ Ok (shape_with new s r)) × (r.at + r.len ≤ length bytes)
unfolding format_of within_15
format-set bits bytes s r new h own e n =
    let facts = format-facts bits bytes s h in
    let all : take 15 bytes ≡ bytes = take_all 15 bytes (omega (arith, facts.short, own)) in
    let set = in-set bits bytes s r new (ap (found_in bits) (sym all) ∙ facts.found_whole) e n in
    let count = length-with r.at new bytes (omega (arith, set.1, n)) in
    let still : take 15 (with_bytes r.at new bytes) ≡ with_bytes r.at new bytes =
    take_all 15 (with_bytes r.at new bytes) (omega (arith, count, facts.short, own)) in (
      ap (λ xs. within_15 (length (with_bytes r.at new bytes)) (found_in bits xs)) still ∙ ap (within_15 (length (with_bytes r.at new bytes))) set.0,
      set.1,
    )

take-before : (k : ℕ) (new bytes : List ℕ) → k ≤ length bytes → take k (with_bytes k new bytes) ≡ take k bytes
unfolding with_bytes
take-before k new bytes h = take-new (take k bytes) (new ++ drop (k + length new) bytes) k (length-take-le k bytes h)

drop-behind : (k : ℕ) (new bytes : List ℕ) → k + length new ≤ length bytes → drop (k + length new) (with_bytes k new bytes) ≡ drop (k + length new) bytes
drop-behind zero new bytes h =
    let e : 0 + length new ≡ length new = omega arith in
    ap (λ xs. drop (0 + length new) xs) (with-zero new bytes)
    ∙ ap (λ (n : ℕ). drop n (new ++ drop (length new) bytes)) e
    ∙ drop-append_seam new (drop (length new) bytes)
    ∙ ap (λ (n : ℕ). drop n bytes) (sym e)
drop-behind (suc k) new [] h = absurd (omega (arith, h))
drop-behind (suc k) new (b ∷ bytes) h =
    let e : suc k + length new ≡ suc (k + length new) = omega arith in
    ap (λ xs. drop (suc k + length new) xs) (with-suc k new b bytes)
    ∙ ap (λ (n : ℕ). drop n (b ∷ with_bytes k new bytes)) e
    ∙ drop-behind k new bytes (omega (arith, h))
    ∙ ap (λ (n : ℕ). drop n (b ∷ bytes)) (sym e)

length-low : (n x : ℕ) → length (low_bytes n x) ≡ n
unfolding low_bytes
length-low zero x = refl
length-low (suc n) x = ap suc (length-low n (x / 256))

fits-some : (test : Bool) (n m : ℕ) → (if test then Some m else None) ≡ Some n → test ≡ true
fits-some true n m h = refl
fits-some false n m h = cc

-- **an instruction whose number fits refers to its goal**
pub refers : NumbersReferToTheirGoal
refers bits bytes shape r at goal n measured own e fits =
    let new = number_bytes bits shape.len at goal r in
    let count : length new ≡ r.len = length-low r.len (distance_to bits shape.len at goal r) in
    let set = format-set bits bytes shape r new measured.format own e count in
    let lens = lengths bits bytes shape r measured e in
    let by : number_by bits shape.len at goal (Some r) ≡ Some n = subst (λ (o : Option Relative). number_by bits shape.len at goal o ≡ Some n) e fits in
    let held : number_fits bits shape.len at goal r ≡ true = fits-some (number_fits bits shape.len at goal r) n (distance_to bits shape.len at goal r) by in
    subst (λ (o : Option Relative). IsReferring bits shape r at goal bytes (bytes_by bits shape.len at goal o bytes)) (sym e) (record {
      shape_is = set.0;
      refers = ap Some (number-comes bits shape.len at goal r (by-bytes r lens) held);
      count = length-with r.at new bytes (omega (arith, set.1, count));
      before = take-before r.at new bytes (omega (arith, set.1));
      behind = subst (λ (k : ℕ). drop (r.at + k) (with_bytes r.at new bytes) ≡ drop (r.at + k) bytes) count (drop-behind r.at new bytes (omega (arith, set.1, count)));
    })
  where
    by-bytes : (r : Relative) → (r.len ≡ 4) ⊎ (((r.len ≡ 2) ⊎ (r.len ≡ 1)) × (r.to ≡ Branch)) → (r.len ≡ 1) ⊎ ((r.len ≡ 2) ⊎ (r.len ≡ 4))
    by-bytes r (inl h) = inr (inr h)
    by-bytes r (inr (inl h, b)) = inr (inl h)
    by-bytes r (inr (inr h, b)) = inl h
