-- How many classes of prefixes a list of bytes has: each byte is of at most one class, so there are no more than bytes.
use Rattle.std.proofs.Common.{◌≡◌, inl, inr, ℕ, ◌+◌, ◌-◌, ◌<◌, ◌≤◌, Bool, true, false, ◌&&◌, ◌||◌, ◌==◌, nat_lt, List, [], ◌∷◌, length, reverse, Option, None, is_some, refl, ap, sym, ◌∙◌, subst, arith, slice_index}
use Rattle.std.proofs.lemmas.Bool.{or_parts, and_parts, cases_Bool, eqb-true}
use Rattle.std.specs.List.{list_any, list_all, find}
use Rattle.std.proofs.lemmas.List.Folds.{list_any_at}
use Rattle.std.proofs.lemmas.List.Sorted.{list_any-IsPermutation, IsPermutation-reverse}
use borrow.Author.Tests.{ltb-true}
use Rattle.x86_values.specs.declared.Bits.{Bits}
use Rattle.x86_values.specs.declared.Bits.TheVariants.{B16, B32, B64}
use Rattle.x86_values.specs.declared.Rep.{Rep}
use Rattle.x86_values.specs.declared.Rep.TheVariants.{None as NoRep, F2 as RepF2, F3 as RepF3}
use Rattle.instruction_parts.specs.Counting.{is_repeat, is_segment, is_fs_or_gs, is_rex, has_lock, has_66, has_67, last_where, last_if, repeat_named, counting_repeat, segment_of_byte, counting_segment_byte, counting_segment, counting_rex}
use Rattle.instruction_parts.specs.Bytes.{bit}
use Rattle.plain_spelling.specs.PlainFront.{count_repeat}
use Rattle.row_relation.proofs.FitFrontCounts.{bit-small}

-- ---- one byte

-- in how many classes a byte is: LOCK, a repeat prefix, a segment prefix, 66, 67, a REX
abbrev classes : ℕ → ℕ
classes x =
    bit (x == 0xF0) + (bit (is_repeat x) + (bit (is_segment x) + (bit (x == 0x66) + (bit (x == 0x67) + bit (is_rex x)))))

of_one_class : (x k : ℕ) → (x == k) ≡ true → classes k ≤ 1 → classes x ≤ 1
of_one_class x k e h = subst (λ (n : ℕ). classes n ≤ 1) (sym (eqb-true x k e)) h

-- a byte that is no legacy prefix
no_legacy_class : (x : ℕ) → (x == 0xF0) ≡ false → (x == 0xF2) ≡ false → (x == 0xF3) ≡ false → (x == 0x66) ≡ false → (x == 0x67) ≡ false → is_segment x ≡ false → classes x ≤ 1
no_legacy_class x a b c d e s = rw (a, b, c, d, e, s) (let h = bit-small (is_rex x) in omega arith)

no_segment : (x : ℕ) → (x == 0x26) ≡ false → (x == 0x2E) ≡ false → (x == 0x36) ≡ false → (x == 0x3E) ≡ false → (x == 0x64) ≡ false → (x == 0x65) ≡ false → is_segment x ≡ false
unfolding is_segment
no_segment x a b c d e f = rw (a, b, c, d, e, f)

-- the bytes of the legacy prefixes
abbrev legacy_bytes : List ℕ
legacy_bytes = 0xF0 ∷ 0xF2 ∷ 0xF3 ∷ 0x66 ∷ 0x67 ∷ 0x26 ∷ 0x2E ∷ 0x36 ∷ 0x3E ∷ 0x64 ∷ 0x65 ∷ []

-- a byte among some that are each of one class at most
among_bytes : (x : ℕ) (ks : List ℕ) → list_any (λ k. x == k) ks ≡ true → list_all (λ k. nat_lt (classes k) 2) ks ≡ true → classes x ≤ 1
among_bytes x [] e h = cc
among_bytes x (k ∷ ks) e h =
    let both = and_parts (nat_lt (classes k) 2) (list_all (λ k. nat_lt (classes k) 2) ks) h in
    elim (cases_Bool (x == k)) [
      | inl same ↦ of_one_class x k same (let small = ltb-true (classes k) 2 both.0 in omega arith)
      | inr other ↦ among_bytes x ks (rw other at e) both.1
    ]

at_most_one_class : (x : ℕ) → classes x ≤ 1
unfolding is_segment
at_most_one_class x = elim (cases_Bool (list_any (λ k. x == k) legacy_bytes)) [
  | inl e ↦ among_bytes x legacy_bytes e refl
  | inr e ↦
      let f0 = or_parts (x == 0xF0) _ e in let f2 = or_parts (x == 0xF2) _ f0.1 in let f3 = or_parts (x == 0xF3) _ f2.1 in
      let size = or_parts (x == 0x66) _ f3.1 in let address = or_parts (x == 0x67) _ size.1 in
      let es = or_parts (x == 0x26) _ address.1 in let cs = or_parts (x == 0x2E) _ es.1 in let ss = or_parts (x == 0x36) _ cs.1 in
      let ds = or_parts (x == 0x3E) _ ss.1 in let fs = or_parts (x == 0x64) _ ds.1 in let gs = or_parts (x == 0x65) _ fs.1 in
      no_legacy_class x f0.0 f2.0 f3.0 size.0 address.0 (no_segment x es.0 cs.0 ss.0 ds.0 fs.0 gs.0)
]

-- ---- a list of bytes

bit_or : (a b : Bool) → bit (a || b) ≤ bit a + bit b
bit_or true b = omega arith
bit_or false b = omega arith

-- how many classes occur in a list
abbrev pub classes_in : List ℕ → ℕ
classes_in xs =
    bit (list_any (λ x. x == 0xF0) xs) + (bit (list_any is_repeat xs) + (bit (list_any is_segment xs)
    + (bit (list_any (λ x. x == 0x66) xs) + (bit (list_any (λ x. x == 0x67) xs) + bit (list_any is_rex xs)))))

six_more : (a b c d e f a1 b1 c1 d1 e1 f1 : Bool) (n : ℕ) → bit a + (bit b + (bit c + (bit d + (bit e + bit f)))) ≤ 1 → bit a1 + (bit b1 + (bit c1 + (bit d1 + (bit e1 + bit f1)))) ≤ n → bit (a || a1) + (bit (b || b1) + (bit (c || c1) + (bit (d || d1) + (bit (e || e1) + bit (f || f1))))) ≤ n + 1
six_more a b c d e f a1 b1 c1 d1 e1 f1 n h k =
    let ha = bit_or a a1 in let hb = bit_or b b1 in let hc = bit_or c c1 in
    let hd = bit_or d d1 in let he = bit_or e e1 in let hf = bit_or f f1 in
    omega arith

-- **a list of bytes has no more classes than bytes**
pub classes_fit : (xs : List ℕ) → classes_in xs ≤ length xs
classes_fit [] = omega arith
classes_fit (x ∷ xs) =
    let h = six_more (x == 0xF0) (is_repeat x) (is_segment x) (x == 0x66) (x == 0x67) (is_rex x) _ _ _ _ _ _ (length xs) (at_most_one_class x) (classes_fit xs) in
    omega arith

-- ---- what counts stands in the list

find_none : (p : ℕ → Bool) (xs : List ℕ) → list_any p xs ≡ false → find p xs ≡ None
find_none p [] h = refl
find_none p (x ∷ xs) h =
    let both = or_parts (p x) (list_any p xs) h in rw both.0 (find_none p xs both.1)

-- a byte that passes last is there
last_where_none : (p : ℕ → Bool) (xs : List ℕ) → list_any p xs ≡ false → last_where p xs ≡ None
last_where_none p xs h = find_none p (reverse xs) (sym (list_any-IsPermutation p xs (reverse xs) (IsPermutation-reverse xs)) ∙ h)

no_bits : (n : ℕ) (b : Bool) → (b ≡ false → n ≡ 0) → n ≤ 1 → n ≤ bit b
no_bits n true h k = k
no_bits n false h k = let e = h refl in omega arith

count_repeat_small : (r : Rep) → count_repeat r ≤ 1
count_repeat_small NoRep = omega arith
count_repeat_small RepF2 = omega arith
count_repeat_small RepF3 = omega arith

-- the repeat prefix that counts is one of the prefixes
pub repeat_counted : (xs : List ℕ) → count_repeat (counting_repeat xs) ≤ bit (list_any is_repeat xs)
unfolding counting_repeat
repeat_counted xs =
    no_bits (count_repeat (repeat_named (last_where is_repeat xs))) (list_any is_repeat xs) (λ h. ap (λ (o : Option ℕ). count_repeat (repeat_named o)) (last_where_none is_repeat xs h))
    (count_repeat_small (repeat_named (last_where is_repeat xs)))

any_weaker : (p q : ℕ → Bool) → ((x : ℕ) → q x ≡ false → p x ≡ false) → (xs : List ℕ) → list_any q xs ≡ false → list_any p xs ≡ false
any_weaker p q w [] h = refl
any_weaker p q w (x ∷ xs) h =
    let both = or_parts (q x) (list_any q xs) h in
    rw (w x both.0, any_weaker p q w xs both.1)

fs_or_gs_weaker : (x : ℕ) → is_segment x ≡ false → is_fs_or_gs x ≡ false
unfolding is_segment
fs_or_gs_weaker x h =
    let a = or_parts _ (x == 0x65) h in
    let b = or_parts _ (x == 0x64) a.0 in
    rw (b.1, a.1)

no_segment_byte : (bits : Bits) (xs : List ℕ) → list_any is_segment xs ≡ false → counting_segment_byte bits xs ≡ None
no_segment_byte B16 xs h = last_where_none is_segment xs h
no_segment_byte B32 xs h = last_where_none is_segment xs h
no_segment_byte B64 xs h = rw (last_where_none is_fs_or_gs xs (any_weaker is_fs_or_gs is_segment fs_or_gs_weaker xs h), last_where_none is_segment xs h)

-- so is the segment prefix
pub segment_counted : (bits : Bits) (xs : List ℕ) → bit (is_some (counting_segment bits xs)) ≤ bit (list_any is_segment xs)
unfolding counting_segment
segment_counted bits xs =
    no_bits (bit (is_some (segment_of_byte (counting_segment_byte bits xs)))) (list_any is_segment xs)
    (λ h. ap (λ (o : Option ℕ). bit (is_some (segment_of_byte o))) (no_segment_byte bits xs h)) (bit-small _)

last_if_none : (p : ℕ → Bool) (xs : List ℕ) → list_any p xs ≡ false → last_if p xs ≡ None
last_if_none p xs h = elim (cases_Bool (nat_lt 0 (length xs) && p (slice_index xs (length xs - 1)))) [
  | inr e ↦ rw e
  | inl e ↦ (
      let some : 0 < length xs = ltb-true 0 (length xs) (and_parts (nat_lt 0 (length xs)) _ e).0 in
      let there = list_any_at p xs (length xs - 1) 0 (omega arith) (and_parts (nat_lt 0 (length xs)) _ e).1 in
      cc)
]

rex_none : (bits : Bits) (xs : List ℕ) → list_any is_rex xs ≡ false → counting_rex bits xs ≡ None
unfolding counting_rex
rex_none B16 xs h = refl
rex_none B32 xs h = refl
rex_none B64 xs h = last_if_none is_rex xs h

-- so is the REX
pub rex_counted : (bits : Bits) (xs : List ℕ) → bit (is_some (counting_rex bits xs)) ≤ bit (list_any is_rex xs)
rex_counted bits xs =
    no_bits (bit (is_some (counting_rex bits xs))) (list_any is_rex xs)
    (λ h. ap (λ (o : Option ℕ). bit (is_some o)) (rex_none bits xs h)) (bit-small _)

-- **what some prefixes count for takes no more bytes than they are**
pub counted_fit : (bits : Bits) (xs : List ℕ) → bit (has_lock xs) + (count_repeat (counting_repeat xs) + (bit (is_some (counting_segment bits xs)) + (bit (has_66 xs) + (bit (has_67 xs) + bit (is_some (counting_rex bits xs)))))) ≤ length xs
unfolding has_lock has_66 has_67
counted_fit bits xs =
    let r = repeat_counted xs in let s = segment_counted bits xs in let x = rex_counted bits xs in let all = classes_fit xs in
    omega arith
