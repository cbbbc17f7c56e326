-- What the prefix bytes of a plain front count for: exactly what the front says.
use Rattle.std.proofs.Common.{◌≡◌, ℕ, zero, suc, ◌+◌, ◌-◌, ◌/◌, ◌<◌, ◌≤◌, Bool, true, false, ◌&&◌, ◌||◌, ◌==◌, nat_lt, List, [], ◌∷◌, ◌++◌, length, Option, Some, None, is_some, reverse, refl, ap, ◌∙◌, arith, cond, append_assoc, length-append}
use Rattle.std.proofs.Math.Bool.{or-true}
use Rattle.std.specs.Prelude.{find, slice_index}
use Rattle.std.specs.List.{list_any, list_all}
use Rattle.std.specs.Option.{option_or}
use Rattle.std.proofs.lemmas.List.{reverse-append}
use Rattle.std.proofs.lemmas.List.Folds.{find-append, list_any-append, list_all-append}
use Rattle.std.proofs.lemmas.Bool.{lt-ltb, or_parts}
use Rattle.std.proofs.Math.Seq.{get_or-append_seam}
use Rattle.x86_values.specs.declared.Bits.{Bits}
use Rattle.x86_values.specs.declared.Bits.TheVariants.{B16, B32, B64}
use Rattle.x86_values.specs.declared.Segment.{Segment}
use Rattle.x86_values.specs.declared.Segment.TheVariants.{Es, Cs, Ss, Ds, Fs, Gs}
use Rattle.x86_values.specs.declared.Rep.{Rep}
use Rattle.x86_values.specs.declared.Rep.TheVariants.{None as NoRep, F2 as RepF2, F3 as RepF3}
use Rattle.instruction_parts.specs.declared.spelling.PrefixState.{PrefixState}
use Rattle.instruction_parts.specs.Counting.{is_64, is_repeat, is_segment, is_fs_or_gs, is_legacy_prefix, is_rex, is_prefix, or_else, kept_if, last_where, last_if, has_lock, has_66, has_67, repeat_named, counting_repeat, segment_named, segment_of_byte, counting_segment, counting_rex}
use Rattle.instruction_parts.specs.Bytes.{bit}
use Rattle.row_fit.specs.Fits.{are_bytes}
use Rattle.plain_spelling.specs.PlainFront.{count_repeat}
use Rattle.plain_spelling.specs.PlainTail.{byte_if, segment_prefix, repeat_prefix, rex_prefix, prefixes_of}

-- ---- lists of two parts

any-front : (p : ℕ → Bool) (xs ys : List ℕ) → list_any p xs ≡ false → list_any p (xs ++ ys) ≡ list_any p ys
any-front p xs ys h = rw (list_any-append p xs ys) (rw h refl)

or_false : (b : Bool) → (b || false) ≡ b
or_false true = refl
or_false false = refl

any-back : (p : ℕ → Bool) (xs ys : List ℕ) → list_any p ys ≡ false → list_any p (xs ++ ys) ≡ list_any p xs
any-back p xs ys h = rw (list_any-append p xs ys) (rw h (or_false (list_any p xs)))

none-both : (p : ℕ → Bool) (xs ys : List ℕ) → list_any p xs ≡ false → list_any p ys ≡ false → list_any p (xs ++ ys) ≡ false
none-both p xs ys h k = any-front p xs ys h ∙ k

all-both : (p : ℕ → Bool) (xs ys : List ℕ) → list_all p xs ≡ true → list_all p ys ≡ true → list_all p (xs ++ ys) ≡ true
all-both p xs ys h k = rw (list_all-append p xs ys) (rw h k)

or_same : (a b : Option ℕ) → option_or a b ≡ or_else a b
or_same None b = refl
or_same (Some x) b = refl

last-append : (p : ℕ → Bool) (xs ys : List ℕ) → last_where p (xs ++ ys) ≡ or_else (last_where p ys) (last_where p xs)
last-append p xs ys = ap (find p) (reverse-append xs ys) ∙ find-append p (reverse ys) (reverse xs) ∙ or_same (find p (reverse ys)) (find p (reverse xs))

or_none : (a : Option ℕ) → or_else a None ≡ a
or_none None = refl
or_none (Some x) = refl

kept-by : (b : Bool) (x : ℕ) → cond b (Some x) None ≡ kept_if b x
kept-by true x = refl
kept-by false x = refl

last-one : (p : ℕ → Bool) (x : ℕ) → last_where p (x ∷ []) ≡ kept_if (p x) x
last-one p x = kept-by (p x) x

last-none : (p : ℕ → Bool) (xs : List ℕ) → list_any p xs ≡ false → last_where p xs ≡ None
last-none p [] h = refl
last-none p (x ∷ xs) h =
    let n = or_parts (p x) (list_any p xs) h in
    last-append p (x ∷ []) xs ∙ ap (λ o. or_else o (last_where p (x ∷ []))) (last-none p xs n.1) ∙ last-one p x ∙ ap (λ b. kept_if b x) n.0

last-front : (p : ℕ → Bool) (xs ys : List ℕ) → list_any p xs ≡ false → last_where p (xs ++ ys) ≡ last_where p ys
last-front p xs ys h = last-append p xs ys ∙ ap (or_else (last_where p ys)) (last-none p xs h) ∙ or_none (last_where p ys)

last-back : (p : ℕ → Bool) (xs ys : List ℕ) → list_any p ys ≡ false → last_where p (xs ++ ys) ≡ last_where p xs
last-back p xs ys h = last-append p xs ys ∙ ap (λ o. or_else o (last_where p xs)) (last-none p ys h)

-- ---- the last byte

kept_none : (b : Bool) (x : ℕ) → b ≡ false → kept_if b x ≡ None
kept_none b x h = rw h refl

last_if-seam : (p : ℕ → Bool) (xs : List ℕ) (b : ℕ) → p b ≡ true → last_if p (xs ++ (b ∷ [])) ≡ Some b
last_if-seam p xs b h =
    let n : length (xs ++ (b ∷ [])) - 1 ≡ length xs = simp length-append (omega arith) in
    let at : slice_index (xs ++ (b ∷ [])) (length (xs ++ (b ∷ [])) - 1) ≡ b = rw n (get_or-append_seam xs b [] 0) in
    let long : nat_lt 0 (length (xs ++ (b ∷ []))) ≡ true = lt-ltb 0 (length (xs ++ (b ∷ []))) (simp length-append (omega arith)) in
    rw at (rw long (rw h refl))

any_at : (p : ℕ → Bool) (xs : List ℕ) (n : ℕ) → n < length xs → list_any p xs ≡ false → p (slice_index xs n) ≡ false
any_at p [] n h none = absurd (omega arith)
any_at p (x ∷ xs) zero h none = (or_parts (p x) (list_any p xs) none).0
any_at p (x ∷ xs) (suc n) h none = any_at p xs n (omega arith) (or_parts (p x) (list_any p xs) none).1

last_if-none : (p : ℕ → Bool) (xs : List ℕ) → list_any p xs ≡ false → last_if p xs ≡ None
last_if-none p [] h = refl
last_if-none p (x ∷ xs) h =
    kept_none _ _ (ap (λ b. nat_lt 0 (length (x ∷ xs)) && b) (any_at p (x ∷ xs) (length (x ∷ xs) - 1) (omega arith) h) ∙ and_false (nat_lt 0 (length (x ∷ xs))))
  where
    and_false : (b : Bool) → (b && false) ≡ false
    and_false true = refl
    and_false false = refl

-- ---- the parts

-- the prefix bytes of the fields of a front
abbrev parts : Option Segment → Bool → Bool → Bool → Rep → Option ℕ → List ℕ
parts seg size66 addr67 lock rep rex =
    segment_prefix seg ++ (byte_if size66 0x66 ++ (byte_if addr67 0x67 ++ (byte_if lock 0xF0 ++ (repeat_prefix rep ++ rex_prefix rex))))

-- a REX that may be absent is one of the mode
abbrev pub IsRexIf : Bits → Option ℕ → Type 0
IsRexIf bits None = Unit {0}
IsRexIf bits (Some b) = (is_64 bits ≡ true) × (b / 16 ≡ 4)

-- what holds of no byte and of each segment prefix alone holds of the prefix that names a segment
of_segment : (P : List ℕ → Type 0) → P [] → P (0x26 ∷ []) → P (0x2E ∷ []) → P (0x36 ∷ []) → P (0x3E ∷ []) → P (0x64 ∷ []) → P (0x65 ∷ []) → (seg : Option Segment) → P (segment_prefix seg)
of_segment P none e c s d f g None = none
of_segment P none e c s d f g (Some Es) = e
of_segment P none e c s d f g (Some Cs) = c
of_segment P none e c s d f g (Some Ss) = s
of_segment P none e c s d f g (Some Ds) = d
of_segment P none e c s d f g (Some Fs) = f
of_segment P none e c s d f g (Some Gs) = g

no_segment : (p : ℕ → Bool) → p 0x26 ≡ false → p 0x2E ≡ false → p 0x36 ≡ false → p 0x3E ≡ false → p 0x64 ≡ false → p 0x65 ≡ false → (seg : Option Segment) → list_any p (segment_prefix seg) ≡ false
no_segment p e c s d f g seg =
    of_segment (λ l. list_any p l ≡ false) refl (rw e refl) (rw c refl) (rw s refl) (rw d refl) (rw f refl) (rw g refl) seg

no_byte : (p : ℕ → Bool) (b : Bool) (x : ℕ) → p x ≡ false → list_any p (byte_if b x) ≡ false
no_byte p true x h = rw h refl
no_byte p false x h = refl

one_byte : (p : ℕ → Bool) (b : Bool) (x : ℕ) → p x ≡ true → list_any p (byte_if b x) ≡ b
one_byte p true x h = rw h refl
one_byte p false x h = refl

no_repeat : (p : ℕ → Bool) (rep : Rep) → p 0xF2 ≡ false → p 0xF3 ≡ false → list_any p (repeat_prefix rep) ≡ false
no_repeat p NoRep h2 h3 = refl
no_repeat p RepF2 h2 h3 = rw h2 refl
no_repeat p RepF3 h2 h3 = rw h3 refl

no_rex : (p : ℕ → Bool) (bits : Bits) (rex : Option ℕ) → ((b : ℕ) → b / 16 ≡ 4 → p b ≡ false) → IsRexIf bits rex → list_any p (rex_prefix rex) ≡ false
no_rex p bits None h r = refl
no_rex p bits (Some b) h r = rw (h b r.1) refl

-- ---- tests of a REX byte

other_byte : (b c : ℕ) → b / 16 ≡ 4 → c / 16 < 4 → (b == c) ≡ false
other_byte b c h k = grind (arith)

higher_byte : (b c : ℕ) → b / 16 ≡ 4 → 4 < c / 16 → (b == c) ≡ false
higher_byte b c h k = grind (arith)

rex_is_no_repeat : (b : ℕ) → b / 16 ≡ 4 → is_repeat b ≡ false
rex_is_no_repeat b h = rw (higher_byte b 0xF2 h (omega arith)) (rw (higher_byte b 0xF3 h (omega arith)) refl)

rex_is_no_segment : (b : ℕ) → b / 16 ≡ 4 → is_segment b ≡ false
unfolding is_segment
rex_is_no_segment b h =
    rw (other_byte b 0x26 h (omega arith)) (rw (other_byte b 0x2E h (omega arith)) (rw (other_byte b 0x36 h (omega arith))
    (rw (other_byte b 0x3E h (omega arith)) (rw (higher_byte b 0x64 h (omega arith)) (rw (higher_byte b 0x65 h (omega arith)) refl)))))

rex_is_no_fs_or_gs : (b : ℕ) → b / 16 ≡ 4 → is_fs_or_gs b ≡ false
rex_is_no_fs_or_gs b h = rw (higher_byte b 0x64 h (omega arith)) (rw (higher_byte b 0x65 h (omega arith)) refl)

-- ---- what they count for

parts-lock : (bits : Bits) (seg : Option Segment) (s a l : Bool) (rep : Rep) (rex : Option ℕ) → IsRexIf bits rex → has_lock (parts seg s a l rep rex) ≡ l
unfolding has_lock
parts-lock bits seg s a l rep rex r =
    let p : ℕ → Bool = λ x. x == 0xF0 in
    any-front p (segment_prefix seg) _ (no_segment p refl refl refl refl refl refl seg)
    ∙ any-front p (byte_if s 0x66) _ (no_byte p s 0x66 refl)
    ∙ any-front p (byte_if a 0x67) _ (no_byte p a 0x67 refl)
    ∙ any-back p (byte_if l 0xF0) (repeat_prefix rep ++ rex_prefix rex)
    (none-both p (repeat_prefix rep) (rex_prefix rex) (no_repeat p rep refl refl) (no_rex p bits rex (λ b h. higher_byte b 0xF0 h (omega arith)) r))
    ∙ one_byte p l 0xF0 refl

parts-66 : (bits : Bits) (seg : Option Segment) (s a l : Bool) (rep : Rep) (rex : Option ℕ) → IsRexIf bits rex → has_66 (parts seg s a l rep rex) ≡ s
unfolding has_66
parts-66 bits seg s a l rep rex r =
    let p : ℕ → Bool = λ x. x == 0x66 in
    any-front p (segment_prefix seg) _ (no_segment p refl refl refl refl refl refl seg)
    ∙ any-back p (byte_if s 0x66) (byte_if a 0x67 ++ (byte_if l 0xF0 ++ (repeat_prefix rep ++ rex_prefix rex)))
    (none-both p (byte_if a 0x67) _ (no_byte p a 0x67 refl) (none-both p (byte_if l 0xF0) _ (no_byte p l 0xF0 refl)
    (none-both p (repeat_prefix rep) (rex_prefix rex) (no_repeat p rep refl refl) (no_rex p bits rex (λ b h. higher_byte b 0x66 h (omega arith)) r))))
    ∙ one_byte p s 0x66 refl

parts-67 : (bits : Bits) (seg : Option Segment) (s a l : Bool) (rep : Rep) (rex : Option ℕ) → IsRexIf bits rex → has_67 (parts seg s a l rep rex) ≡ a
unfolding has_67
parts-67 bits seg s a l rep rex r =
    let p : ℕ → Bool = λ x. x == 0x67 in
    any-front p (segment_prefix seg) _ (no_segment p refl refl refl refl refl refl seg)
    ∙ any-front p (byte_if s 0x66) _ (no_byte p s 0x66 refl)
    ∙ any-back p (byte_if a 0x67) (byte_if l 0xF0 ++ (repeat_prefix rep ++ rex_prefix rex))
    (none-both p (byte_if l 0xF0) _ (no_byte p l 0xF0 refl)
    (none-both p (repeat_prefix rep) (rex_prefix rex) (no_repeat p rep refl refl) (no_rex p bits rex (λ b h. higher_byte b 0x67 h (omega arith)) r)))
    ∙ one_byte p a 0x67 refl

repeat-back : (rep : Rep) → repeat_named (last_where is_repeat (repeat_prefix rep)) ≡ rep
repeat-back NoRep = refl
repeat-back RepF2 = refl
repeat-back RepF3 = refl

parts-repeat : (bits : Bits) (seg : Option Segment) (s a l : Bool) (rep : Rep) (rex : Option ℕ) → IsRexIf bits rex → counting_repeat (parts seg s a l rep rex) ≡ rep
unfolding counting_repeat
parts-repeat bits seg s a l rep rex r =
    let last : last_where is_repeat (parts seg s a l rep rex) ≡ last_where is_repeat (repeat_prefix rep) =
    last-front is_repeat (segment_prefix seg) _ (no_segment is_repeat refl refl refl refl refl refl seg)
    ∙ last-front is_repeat (byte_if s 0x66) _ (no_byte is_repeat s 0x66 refl)
    ∙ last-front is_repeat (byte_if a 0x67) _ (no_byte is_repeat a 0x67 refl)
    ∙ last-front is_repeat (byte_if l 0xF0) _ (no_byte is_repeat l 0xF0 refl)
    ∙ last-back is_repeat (repeat_prefix rep) (rex_prefix rex) (no_rex is_repeat bits rex rex_is_no_repeat r) in
    ap repeat_named last ∙ repeat-back rep

-- behind the segment prefix there is none
behind_segment : (p : ℕ → Bool) (bits : Bits) (s a l : Bool) (rep : Rep) (rex : Option ℕ) → p 0x66 ≡ false → p 0x67 ≡ false → p 0xF0 ≡ false → p 0xF2 ≡ false → p 0xF3 ≡ false → ((b : ℕ) → b / 16 ≡ 4 → p b ≡ false) → IsRexIf bits rex → list_any p (byte_if s 0x66 ++ (byte_if a 0x67 ++ (byte_if l 0xF0 ++ (repeat_prefix rep ++ rex_prefix rex)))) ≡ false
behind_segment p bits s a l rep rex h66 h67 hf0 hf2 hf3 h r =
    none-both p (byte_if s 0x66) _ (no_byte p s 0x66 h66) (none-both p (byte_if a 0x67) _ (no_byte p a 0x67 h67) (none-both p (byte_if l 0xF0) _ (no_byte p l 0xF0 hf0)
    (none-both p (repeat_prefix rep) (rex_prefix rex) (no_repeat p rep hf2 hf3) (no_rex p bits rex h r))))

last_segment : (p : ℕ → Bool) (bits : Bits) (seg : Option Segment) (s a l : Bool) (rep : Rep) (rex : Option ℕ) → p 0x66 ≡ false → p 0x67 ≡ false → p 0xF0 ≡ false → p 0xF2 ≡ false → p 0xF3 ≡ false → ((b : ℕ) → b / 16 ≡ 4 → p b ≡ false) → IsRexIf bits rex → last_where p (parts seg s a l rep rex) ≡ last_where p (segment_prefix seg)
last_segment p bits seg s a l rep rex h66 h67 hf0 hf2 hf3 h r =
    last-back p (segment_prefix seg) (byte_if s 0x66 ++ (byte_if a 0x67 ++ (byte_if l 0xF0 ++ (repeat_prefix rep ++ rex_prefix rex)))) (behind_segment p bits s a l rep rex h66 h67 hf0 hf2 hf3 h r)

segment-back : (seg : Option Segment) → segment_of_byte (last_where is_segment (segment_prefix seg)) ≡ seg
unfolding is_segment segment_named
segment-back None = refl
segment-back (Some Es) = refl
segment-back (Some Cs) = refl
segment-back (Some Ss) = refl
segment-back (Some Ds) = refl
segment-back (Some Fs) = refl
segment-back (Some Gs) = refl

segment-back_64 : (seg : Option Segment) → segment_of_byte (or_else (last_where is_fs_or_gs (segment_prefix seg)) (last_where is_segment (segment_prefix seg))) ≡ seg
unfolding is_segment segment_named
segment-back_64 None = refl
segment-back_64 (Some Es) = refl
segment-back_64 (Some Cs) = refl
segment-back_64 (Some Ss) = refl
segment-back_64 (Some Ds) = refl
segment-back_64 (Some Fs) = refl
segment-back_64 (Some Gs) = refl

parts-segment : (bits : Bits) (seg : Option Segment) (s a l : Bool) (rep : Rep) (rex : Option ℕ) → IsRexIf bits rex → counting_segment bits (parts seg s a l rep rex) ≡ seg
unfolding counting_segment is_segment
parts-segment B16 seg s a l rep rex r = ap segment_of_byte (last_segment is_segment B16 seg s a l rep rex refl refl refl refl refl rex_is_no_segment r) ∙ segment-back seg
parts-segment B32 seg s a l rep rex r = ap segment_of_byte (last_segment is_segment B32 seg s a l rep rex refl refl refl refl refl rex_is_no_segment r) ∙ segment-back seg
parts-segment B64 seg s a l rep rex r =
    rw (last_segment is_fs_or_gs B64 seg s a l rep rex refl refl refl refl refl rex_is_no_fs_or_gs r)
    (rw (last_segment is_segment B64 seg s a l rep rex refl refl refl refl refl rex_is_no_segment r) (segment-back_64 seg))

-- all that stands before a REX
abbrev legacy : Option Segment → Bool → Bool → Bool → Rep → List ℕ
legacy seg s a l rep = segment_prefix seg ++ (byte_if s 0x66 ++ (byte_if a 0x67 ++ (byte_if l 0xF0 ++ repeat_prefix rep)))

regroup : (u v w x y z : List ℕ) → u ++ (v ++ (w ++ (x ++ (y ++ z)))) ≡ (u ++ (v ++ (w ++ (x ++ y)))) ++ z
regroup u v w x y z = simp append_assoc

is_rex-from : (b : ℕ) → b / 16 ≡ 4 → is_rex b ≡ true
is_rex-from b h = rw h refl

parts-rex : (bits : Bits) (seg : Option Segment) (s a l : Bool) (rep : Rep) (rex : Option ℕ) → IsRexIf bits rex → counting_rex bits (parts seg s a l rep rex) ≡ rex
unfolding counting_rex
parts-rex B16 seg s a l rep None r = refl
parts-rex B32 seg s a l rep None r = refl
parts-rex B16 seg s a l rep (Some b) r = cc
parts-rex B32 seg s a l rep (Some b) r = cc
parts-rex B64 seg s a l rep None r =
    last_if-none is_rex (parts seg s a l rep None)
    (none-both is_rex (segment_prefix seg) _ (no_segment is_rex refl refl refl refl refl refl seg)
    (none-both is_rex (byte_if s 0x66) _ (no_byte is_rex s 0x66 refl) (none-both is_rex (byte_if a 0x67) _ (no_byte is_rex a 0x67 refl) (none-both is_rex (byte_if l 0xF0) _ (no_byte is_rex l 0xF0 refl)
    (none-both is_rex (repeat_prefix rep) [] (no_repeat is_rex rep refl refl) refl)))))
parts-rex B64 seg s a l rep (Some b) r =
    ap (last_if is_rex) (regroup (segment_prefix seg) (byte_if s 0x66) (byte_if a 0x67) (byte_if l 0xF0) (repeat_prefix rep) (b ∷ []))
    ∙ last_if-seam is_rex (legacy seg s a l rep) b (is_rex-from b r.1)

-- ---- each is a prefix of the mode, and a byte

all_segment : (p : ℕ → Bool) → p 0x26 ≡ true → p 0x2E ≡ true → p 0x36 ≡ true → p 0x3E ≡ true → p 0x64 ≡ true → p 0x65 ≡ true → (seg : Option Segment) → list_all p (segment_prefix seg) ≡ true
all_segment p e c s d f g seg =
    of_segment (λ l. list_all p l ≡ true) refl (rw e refl) (rw c refl) (rw s refl) (rw d refl) (rw f refl) (rw g refl) seg

all_byte : (p : ℕ → Bool) (b : Bool) (x : ℕ) → p x ≡ true → list_all p (byte_if b x) ≡ true
all_byte p true x h = rw h refl
all_byte p false x h = refl

all_repeat : (p : ℕ → Bool) (rep : Rep) → p 0xF2 ≡ true → p 0xF3 ≡ true → list_all p (repeat_prefix rep) ≡ true
all_repeat p NoRep h2 h3 = refl
all_repeat p RepF2 h2 h3 = rw h2 refl
all_repeat p RepF3 h2 h3 = rw h3 refl

-- a test that the legacy prefixes pass
record PassesLegacy (p : ℕ → Bool) : Type 0 where
  es : p 0x26 ≡ true
  cs : p 0x2E ≡ true
  ss : p 0x36 ≡ true
  ds : p 0x3E ≡ true
  fs : p 0x64 ≡ true
  gs : p 0x65 ≡ true
  size : p 0x66 ≡ true
  address : p 0x67 ≡ true
  lock : p 0xF0 ≡ true
  f2 : p 0xF2 ≡ true
  f3 : p 0xF3 ≡ true

all_parts : (p : ℕ → Bool) (seg : Option Segment) (s a l : Bool) (rep : Rep) (rex : Option ℕ) → PassesLegacy p → list_all p (rex_prefix rex) ≡ true → list_all p (parts seg s a l rep rex) ≡ true
all_parts p seg s a l rep rex h r =
    all-both p (segment_prefix seg) _ (all_segment p h.es h.cs h.ss h.ds h.fs h.gs seg) (all-both p (byte_if s 0x66) _ (all_byte p s 0x66 h.size)
    (all-both p (byte_if a 0x67) _ (all_byte p a 0x67 h.address) (all-both p (byte_if l 0xF0) _ (all_byte p l 0xF0 h.lock)
    (all-both p (repeat_prefix rep) (rex_prefix rex) (all_repeat p rep h.f2 h.f3) r))))

passes_prefix : (bits : Bits) → PassesLegacy (is_prefix bits)
unfolding is_prefix is_legacy_prefix is_segment
passes_prefix bits = record { es = refl; cs = refl; ss = refl; ds = refl; fs = refl; gs = refl; size = refl; address = refl; lock = refl; f2 = refl; f3 = refl }

passes_byte : PassesLegacy (λ b. nat_lt b 256)
passes_byte = record { es = refl; cs = refl; ss = refl; ds = refl; fs = refl; gs = refl; size = refl; address = refl; lock = refl; f2 = refl; f3 = refl }

rex_is_prefix : (bits : Bits) (rex : Option ℕ) → IsRexIf bits rex → list_all (is_prefix bits) (rex_prefix rex) ≡ true
unfolding is_prefix
rex_is_prefix bits None r = refl
rex_is_prefix bits (Some b) r =
    let e : (is_64 bits && is_rex b) ≡ true = rw r.0 (is_rex-from b r.1) in
    let p : is_prefix bits b ≡ true = ap (λ x. is_legacy_prefix b || x) e ∙ or-true (is_legacy_prefix b) in
    rw p refl

rex_is_byte : (bits : Bits) (rex : Option ℕ) → IsRexIf bits rex → are_bytes (rex_prefix rex) ≡ true
rex_is_byte bits None r = refl
rex_is_byte bits (Some b) r = (let h = r.1 in rw (lt-ltb b 256 (omega arith)) refl)

-- ---- how many there are

-- a segment prefix is one byte, if there is one
pub segment_count : (seg : Option Segment) → length (segment_prefix seg) ≡ bit (is_some seg)
segment_count None = refl
segment_count (Some s) = refl

-- so is an optional prefix
pub byte_count : (b : Bool) (x : ℕ) → length (byte_if b x) ≡ bit b
byte_count true x = refl
byte_count false x = refl

-- so is a repeat prefix
pub repeat_count : (rep : Rep) → length (repeat_prefix rep) ≡ count_repeat rep
repeat_count NoRep = refl
repeat_count RepF2 = refl
repeat_count RepF3 = refl

-- so is a REX
pub rex_count : (rex : Option ℕ) → length (rex_prefix rex) ≡ bit (is_some rex)
rex_count None = refl
rex_count (Some b) = refl

parts_count : (seg : Option Segment) (s a l : Bool) (rep : Rep) (rex : Option ℕ) → length (parts seg s a l rep rex) ≡ bit l + (count_repeat rep + (bit (is_some seg) + (bit s + (bit a + bit (is_some rex)))))
parts_count seg s a l rep rex =
    let e1 = segment_count seg in
    let e2 = byte_count s 0x66 in
    let e3 = byte_count a 0x67 in
    let e4 = byte_count l 0xF0 in
    let e5 = repeat_count rep in
    let e6 = rex_count rex in
    simp length-append (omega arith)

-- a flag is one bit
pub bit-small : (b : Bool) → bit b ≤ 1
bit-small true = omega arith
bit-small false = omega arith

repeat-small : (rep : Rep) → count_repeat rep ≤ 1
repeat-small NoRep = omega arith
repeat-small RepF2 = omega arith
repeat-small RepF3 = omega arith

-- ---- all of it

-- what the prefix bytes of a front count for is what the front says
pub record Counts (bits : Bits) (f : PrefixState) : Type 0 where
  pub lock : has_lock (prefixes_of f) ≡ f.lock
  pub size66 : has_66 (prefixes_of f) ≡ f.size66
  pub addr67 : has_67 (prefixes_of f) ≡ f.addr67
  pub rep : counting_repeat (prefixes_of f) ≡ f.rep
  pub seg : counting_segment bits (prefixes_of f) ≡ f.seg
  pub rex : counting_rex bits (prefixes_of f) ≡ f.rex
  pub all : list_all (is_prefix bits) (prefixes_of f) ≡ true
  pub bytes : are_bytes (prefixes_of f) ≡ true
  pub count : length (prefixes_of f) ≡ bit f.lock + (count_repeat f.rep + (bit (is_some f.seg) + (bit f.size66 + (bit f.addr67 + bit (is_some f.rex)))))
  pub few : length (prefixes_of f) ≤ 6
  pub any_repeat : f.rep ≡ NoRep → list_any is_repeat (prefixes_of f) ≡ false

no_repeat_parts : (bits : Bits) (seg : Option Segment) (s a l : Bool) (rep : Rep) (rex : Option ℕ) → IsRexIf bits rex → rep ≡ NoRep → list_any is_repeat (parts seg s a l rep rex) ≡ false
no_repeat_parts bits seg s a l rep rex r e =
    rw e
    (none-both is_repeat (segment_prefix seg) _ (no_segment is_repeat refl refl refl refl refl refl seg)
    (none-both is_repeat (byte_if s 0x66) _ (no_byte is_repeat s 0x66 refl) (none-both is_repeat (byte_if a 0x67) _ (no_byte is_repeat a 0x67 refl)
    (none-both is_repeat (byte_if l 0xF0) _ (no_byte is_repeat l 0xF0 refl) (no_rex is_repeat bits rex rex_is_no_repeat r)))))

-- the prefixes of a front count for that front
pub counts_of : (bits : Bits) (f : PrefixState) → IsRexIf bits f.rex → Counts bits f
unfolding prefixes_of
counts_of bits f r = record {
  lock = parts-lock bits f.seg f.size66 f.addr67 f.lock f.rep f.rex r;
  size66 = parts-66 bits f.seg f.size66 f.addr67 f.lock f.rep f.rex r;
  addr67 = parts-67 bits f.seg f.size66 f.addr67 f.lock f.rep f.rex r;
  rep = parts-repeat bits f.seg f.size66 f.addr67 f.lock f.rep f.rex r;
  seg = parts-segment bits f.seg f.size66 f.addr67 f.lock f.rep f.rex r;
  rex = parts-rex bits f.seg f.size66 f.addr67 f.lock f.rep f.rex r;
  all = all_parts (is_prefix bits) f.seg f.size66 f.addr67 f.lock f.rep f.rex (passes_prefix bits) (rex_is_prefix bits f.rex r);
  bytes = all_parts (λ b. nat_lt b 256) f.seg f.size66 f.addr67 f.lock f.rep f.rex passes_byte (rex_is_byte bits f.rex r);
  count = parts_count f.seg f.size66 f.addr67 f.lock f.rep f.rex;
  few = (
      let e = parts_count f.seg f.size66 f.addr67 f.lock f.rep f.rex in
      let b1 = bit-small f.lock in
      let b2 = repeat-small f.rep in
      let b3 = bit-small (is_some f.seg) in
      let b4 = bit-small f.size66 in
      let b5 = bit-small f.addr67 in
      let b6 = bit-small (is_some f.rex) in
      omega arith
      );
  any_repeat = λ e. no_repeat_parts bits f.seg f.size66 f.addr67 f.lock f.rep f.rex r e;
}
