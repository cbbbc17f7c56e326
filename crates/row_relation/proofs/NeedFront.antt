-- Each prefix that the plain front of an instruction needs stands in the spelling that was read, and its VEX is no shorter.
use Rattle.std.proofs.Common.{◌≡◌, ◌⊎◌, inl, inr, ℕ, ◌≤◌, Bool, true, false, ◌&&◌, ◌||◌, not, nat_lt, [], ◌∷◌, length, Option, Some, None, is_some, refl, ap, sym, subst, arith, if◌then◌else◌}
use Rattle.instruction_parts.proofs.Tests.{or_right}
use Rattle.std.proofs.lemmas.Bool.{or_cases, and_parts, cases_Bool, not-true}
use Rattle.x86_values.specs.declared.Bits.{Bits}
use Rattle.x86_values.specs.declared.Bits.TheVariants.{B16, B32, B64}
use Rattle.x86_values.specs.declared.Rep.{Rep}
use Rattle.x86_values.specs.declared.Rep.TheVariants.{None as NoRep, F2 as RepF2, F3 as RepF3}
use Rattle.x86_values.specs.declared.Instr.{Instr}
use Rattle.instruction_parts.specs.declared.row_types.Row.{Row}
use Rattle.instruction_parts.specs.declared.row_types.Map.{Map}
use Rattle.instruction_parts.specs.declared.row_types.Map.TheVariants.{One, M0f, M0f38, M0f3a}
use Rattle.instruction_parts.specs.declared.row_types.Class.{Class}
use Rattle.instruction_parts.specs.declared.row_types.Class.TheVariants.{Any as AnyClass, Np, Nfx, Nf3, P66, F3 as ClassF3, F2 as ClassF2}
use Rattle.instruction_parts.specs.declared.row_types.Size.{Size}
use Rattle.instruction_parts.specs.declared.row_types.Size.TheVariants.{None as NoSize, O16, O32, O32or64, O64, W0 as SizeW0, W1 as SizeW1}
use Rattle.instruction_parts.specs.declared.row_types.WBit.{WBit}
use Rattle.instruction_parts.specs.declared.row_types.WBit.TheVariants.{None as NoW, W0, W1, Wig}
use Rattle.instruction_parts.specs.declared.spelling.Vex.{Vex}
use Rattle.instruction_parts.specs.declared.spelling.ModRm.{ModRm}
use Rattle.instruction_parts.specs.declared.spelling.PrefixState.{PrefixState}
use Rattle.instruction_parts.specs.Counting.{is_16, is_32, is_64, rex_bit}
use Rattle.instruction_parts.specs.Sizes.{is_vex_row, has_caret, has_bang, default_size, other_size, operand_size, address_size, state_size, shared_bit, bit_r, bit_x, bit_b, bit_w, rex_w}
use Rattle.instruction_parts.specs.Bytes.{lead_bytes, vex_bytes}
use Rattle.row_fit.specs.Fits.{size_fits, legacy_class_fits, is_repeat_f2, is_repeat_f3, is_no_repeat, same_map, vex_in_range, w_fits, takes_w_as_size, is_map_one}
use Rattle.row_fit.specs.Sound.{Sound, kind_is_proper, vex_is_proper, legacy_is_proper, size_says_w, is_no_w, is_no_l, is_class_of_vex, is_size_of_vex}
use Rattle.row_meaning.specs.Meaning.{kept_repeat, kept_address_size}
use Rattle.x86_values.specs.Comparing.{same_bits}
use Rattle.plain_spelling.specs.PlainFront.{asks_r, asks_x, asks_b, asks_rex_w, asks_vex_w, asks_66, asks_67, asked_repeat, asked_rex, asked_vex, count_repeat}
use Rattle.row_relation.proofs.NeedAsks.{AskedBits, differ}
use Rattle.row_relation.proofs.NeedStates.{VexIs, StateIs}

-- ---- 66

-- the operand size, by what it depends on
abbrev pub size_by : Bits → Bool → Bool → Bool → Bool → Bits
size_by bits bang w size66 caret =
    if is_64 bits && bang then B64
    else (if w then B64
    else (if size66 then other_size bits
    else (if is_64 bits && caret then B64 else default_size bits)))

size_is_by : (bits : Bits) (row : Row) (w size66 : Bool) → operand_size bits row w size66 ≡ size_by bits (has_bang row) w size66 (has_caret row)
unfolding operand_size
size_is_by bits row w size66 = refl

-- a size of 16 that is not the mode's comes from 66
word_by_66 : (bits : Bits) (bang w size66 caret : Bool) → is_16 bits ≡ false → is_16 (size_by bits bang w size66 caret) ≡ true → size66 ≡ true
word_by_66 bits bang w true caret m h = refl
word_by_66 B16 bang w false caret m h = cc
word_by_66 B32 bang true false caret m h = cc
word_by_66 B32 bang false false caret m h = cc
word_by_66 B64 true w false caret m h = cc
word_by_66 B64 false true false caret m h = cc
word_by_66 B64 false false false true m h = cc
word_by_66 B64 false false false false m h = cc

-- in 16-bit mode any other size does
other_by_66 : (bang w size66 caret : Bool) → w ≡ false → is_16 (size_by B16 bang w size66 caret) ≡ false → size66 ≡ true
other_by_66 bang w true caret m h = refl
other_by_66 bang true false caret m h = cc
other_by_66 bang false false caret m h = cc

dword_is_no_word : (size : Bits) → is_32 size ≡ true → is_16 size ≡ false
dword_is_no_word B16 h = cc
dword_is_no_word B32 h = refl
dword_is_no_word B64 h = refl

mode_16 : (bits : Bits) → is_16 bits ≡ true → bits ≡ B16
mode_16 B16 h = refl
mode_16 B32 h = cc
mode_16 B64 h = cc

-- 66 that the row's size asks for
abbrev size_asks_66 : Bits → Size → Bool
size_asks_66 bits size = elim size [ O16 ↦ not (is_16 bits) | O32 ↦ is_16 bits | O32or64 ↦ is_16 bits | _ ↦ false ]

size_needs_66 : (bits : Bits) (bang w size66 caret b : Bool) (size : Size) → (is_16 bits ≡ true → w ≡ false) → size_asks_66 bits size ≡ true → size_fits bits size (size_by bits bang w size66 caret) b ≡ true → size66 ≡ true
unfolding size_fits
size_needs_66 bits bang w size66 caret b O16 m a h = word_by_66 bits bang w size66 caret (not-true (is_16 bits) a) h
size_needs_66 B16 bang w size66 caret b O32 m a h = other_by_66 bang w size66 caret (m refl) (dword_is_no_word _ h)
size_needs_66 B32 bang w size66 caret b O32 m a h = cc
size_needs_66 B64 bang w size66 caret b O32 m a h = cc
size_needs_66 B16 bang w size66 caret b O32or64 m a h = other_by_66 bang w size66 caret (m refl) (not-true _ h)
size_needs_66 B32 bang w size66 caret b O32or64 m a h = cc
size_needs_66 B64 bang w size66 caret b O32or64 m a h = cc
size_needs_66 bits bang w size66 caret b _ m a h = cc

class_needs_66 : (bits : Bits) (class : Class) (size : Size) (st : PrefixState) → (size_asks_66 bits size ≡ true → st.size66 ≡ true) → (elim class [ P66 ↦ true | _ ↦ size_asks_66 bits size ]) ≡ true → legacy_class_fits class st ≡ true → st.size66 ≡ true
unfolding legacy_class_fits
class_needs_66 bits P66 size st k a h = (and_parts st.size66 (is_no_repeat st.rep) h).0
class_needs_66 bits _ size st k a h = k a

rex_w_none : (st : PrefixState) → st.rex ≡ None → rex_w st ≡ false
rex_w_none st h = rw h

-- **66 stands where the plain front asks for it**
pub needs_66 : (bits : Bits) (row : Row) (st : PrefixState) → StateIs bits row st → asks_66 bits row ≡ true → st.size66 ≡ true
unfolding asks_66 state_size
needs_66 bits row st f a =
    let legacy = not-true (is_vex_row row) (and_parts (not (is_vex_row row)) _ a).0 in
    let size = subst (λ (x : Bits). size_fits bits row.size x (bit_w bits st) ≡ true) (size_is_by bits row (rex_w st) st.size66) f.size in
    class_needs_66 bits row.class row.size st
    (λ b. size_needs_66 bits (has_bang row) (rex_w st) st.size66 (has_caret row) (bit_w bits st) row.size (λ m. rex_w_none st (f.rex_mode (ap is_64 (mode_16 bits m)))) b size)
    (and_parts (not (is_vex_row row)) _ a).1 (f.class legacy)

-- ---- 67

other_needs_67 : (bits : Bits) (addr67 : Bool) → not (same_bits (address_size bits addr67) bits) ≡ true → addr67 ≡ true
unfolding address_size
other_needs_67 bits true h = refl
other_needs_67 B16 false h = cc
other_needs_67 B32 false h = cc
other_needs_67 B64 false h = cc

kept_needs_67 : (bits : Bits) (test addr67 : Bool) → asks_67 bits (if test then Some (address_size bits addr67) else None) ≡ true → addr67 ≡ true
unfolding asks_67
kept_needs_67 bits true addr67 h = other_needs_67 bits addr67 h
kept_needs_67 bits false addr67 h = cc

-- **67 stands where the plain front asks for it**
pub needs_67 : (bits : Bits) (row : Row) (st : PrefixState) (m : Option ModRm) → asks_67 bits (kept_address_size bits row st m) ≡ true → st.addr67 ≡ true
unfolding kept_address_size
needs_67 bits row st m h = kept_needs_67 bits _ st.addr67 h

-- ---- REX

rex_of_bit : (n : ℕ) (rex : Option ℕ) → rex_bit n rex ≡ true → is_some rex ≡ true
rex_of_bit n None h = cc
rex_of_bit n (Some b) h = refl

shared_rex : (field : Vex → Bool) (n : ℕ) (st : PrefixState) → st.vex ≡ None → shared_bit field n st ≡ true → is_some st.rex ≡ true
shared_rex field n st e h = rex_of_bit n st.rex (rw e at h)

qword_by_w : (bits : Bits) (w size66 : Bool) → is_64 (size_by bits false w size66 false) ≡ true → w ≡ true
qword_by_w bits true size66 h = refl
qword_by_w B16 false true h = cc
qword_by_w B16 false false h = cc
qword_by_w B32 false true h = cc
qword_by_w B32 false false h = cc
qword_by_w B64 false true h = cc
qword_by_w B64 false false h = cc

abbrev size_asks_w : Bool → Bool → Size → Bool
size_asks_w caret bang size = elim size [ O64 ↦ not (caret || bang) | SizeW1 ↦ true | _ ↦ false ]

w_needs : (bits : Bits) (caret bang w size66 b : Bool) (size : Size) → size_asks_w caret bang size ≡ true → size_fits bits size (size_by bits bang w size66 caret) b ≡ true → (w ≡ true) ⊎ (b ≡ true)
unfolding size_fits
w_needs bits false false w size66 b O64 a h = inl (qword_by_w bits w size66 h)
w_needs bits true bang w size66 b O64 a h = cc
w_needs bits false true w size66 b O64 a h = cc
w_needs bits caret bang w size66 b SizeW1 a h = inr h
w_needs bits caret bang w size66 b _ a h = cc

if_some : {T : Type 0} → (test : Bool) (x : T) → is_some (if test then Some x else None) ≡ true → test ≡ true
if_some true x h = refl
if_some false x h = cc

bit_w_rex : (bits : Bits) (st : PrefixState) → st.vex ≡ None → bit_w bits st ≡ true → is_some st.rex ≡ true
unfolding bit_w
bit_w_rex bits st e h = shared_rex (λ v. v.w) 3 st e (and_parts (is_64 bits) _ h).1

bit_b_rex : (bits : Bits) (st : PrefixState) → st.vex ≡ None → bit_b bits st ≡ true → is_some st.rex ≡ true
unfolding bit_b
bit_b_rex bits st e h = shared_rex (λ v. v.b) 0 st e (and_parts (is_64 bits) _ h).1

bit_r_rex : (st : PrefixState) → st.vex ≡ None → bit_r st ≡ true → is_some st.rex ≡ true
unfolding bit_r
bit_r_rex st e h = shared_rex (λ v. v.r) 2 st e h

bit_x_rex : (st : PrefixState) → st.vex ≡ None → bit_x st ≡ true → is_some st.rex ≡ true
unfolding bit_x
bit_x_rex st e h = shared_rex (λ v. v.x) 1 st e h

-- W of a legacy row
pub needs_rex_w : (bits : Bits) (row : Row) (st : PrefixState) → StateIs bits row st → asks_rex_w row ≡ true → (rex_w st ≡ true) ⊎ (bit_w bits st ≡ true)
unfolding asks_rex_w state_size
needs_rex_w bits row st f a =
    let size = subst (λ (x : Bits). size_fits bits row.size x (bit_w bits st) ≡ true) (size_is_by bits row (rex_w st) st.size66) f.size in
    w_needs bits (has_caret row) (has_bang row) (rex_w st) st.size66 (bit_w bits st) row.size a size

w_rex : (bits : Bits) (row : Row) (st : PrefixState) → StateIs bits row st → st.vex ≡ None → asks_rex_w row ≡ true → is_some st.rex ≡ true
w_rex bits row st f e a = elim (needs_rex_w bits row st f a) [ inl w ↦ rex_of_bit 3 st.rex w | inr w ↦ bit_w_rex bits st e w ]

-- **a REX stands where the plain front asks for one**
pub needs_rex : (bits : Bits) (row : Row) (st : PrefixState) (i : Instr) → StateIs bits row st → AskedBits bits row st i → is_some (asked_rex row i) ≡ true → is_some st.rex ≡ true
unfolding asked_rex
needs_rex bits row st i f k h =
    let all = if_some _ _ h in
    let e = f.legacy (not-true (is_vex_row row) (and_parts (not (is_vex_row row)) _ all).0) in
    elim (or_cases (asks_rex_w row) _ (and_parts (not (is_vex_row row)) _ all).1) [
      | inl w ↦ w_rex bits row st f e w
      | inr h1 ↦ elim (or_cases (asks_r row i) _ h1) [
        | inl r ↦ bit_r_rex st e (k.r r)
        | inr h2 ↦ elim (or_cases (asks_x row i) _ h2) [
          | inl x ↦ bit_x_rex st e (k.x x)
          | inr h3 ↦ elim (or_cases (asks_b row i) _ h3) [
            | inl b ↦ bit_b_rex bits st e (k.b b)
            | inr l ↦ k.low l
          ]
        ]
      ]
    ]

-- ---- the repeat prefix

f3_counts : (r : Rep) → is_repeat_f3 r ≡ true → 1 ≤ count_repeat r
f3_counts NoRep h = absurd (differ false h refl)
f3_counts RepF2 h = absurd (differ false h refl)
f3_counts RepF3 h = omega arith

f2_counts : (r : Rep) → is_repeat_f2 r ≡ true → 1 ≤ count_repeat r
f2_counts NoRep h = absurd (differ false h refl)
f2_counts RepF2 h = omega arith
f2_counts RepF3 h = absurd (differ false h refl)

kept_counts : (class : Class) (r : Rep) → count_repeat (kept_repeat class r) ≤ count_repeat r
unfolding kept_repeat
kept_counts AnyClass r = omega arith
kept_counts Nf3 r = omega arith
kept_counts _ r = omega arith

-- the repeat prefix that a class of a legacy row asks for
abbrev repeat_of : Class → Rep → Rep
repeat_of class rep = elim class [ ClassF2 ↦ RepF2 | ClassF3 ↦ RepF3 | _ ↦ rep ]

class_repeat : (class : Class) (st : PrefixState) → legacy_class_fits class st ≡ true → count_repeat (repeat_of class (kept_repeat class st.rep)) ≤ count_repeat st.rep
unfolding legacy_class_fits
class_repeat ClassF2 st h = f2_counts st.rep h
class_repeat ClassF3 st h = f3_counts st.rep h
class_repeat AnyClass st h = kept_counts AnyClass st.rep
class_repeat Np st h = kept_counts Np st.rep
class_repeat Nfx st h = kept_counts Nfx st.rep
class_repeat Nf3 st h = kept_counts Nf3 st.rep
class_repeat P66 st h = kept_counts P66 st.rep

repeat_by : (vex : Bool) (class : Class) (st : PrefixState) → (vex ≡ false → legacy_class_fits class st ≡ true) → count_repeat (if vex then kept_repeat class st.rep else repeat_of class (kept_repeat class st.rep)) ≤ count_repeat st.rep
repeat_by true class st h = kept_counts class st.rep
repeat_by false class st h = class_repeat class st (h refl)

-- **the repeat prefix of the plain front stands**
pub needs_repeat : (bits : Bits) (row : Row) (st : PrefixState) (i : Instr) → StateIs bits row st → i.rep ≡ kept_repeat row.class st.rep → count_repeat (asked_repeat row i) ≤ count_repeat st.rep
unfolding asked_repeat
needs_repeat bits row st i f e =
    subst (λ (x : Rep). count_repeat (if is_vex_row row then x else repeat_of row.class x) ≤ count_repeat st.rep) (sym e) (repeat_by (is_vex_row row) row.class st f.class)

-- ---- VEX

-- a VEX of two bytes has x, b and w 0 and the map 0F
pub record ShortVex (v : Vex) : Type 0 where
  pub x : v.x ≡ false
  pub b : v.b ≡ false
  pub w : v.w ≡ false
  pub map : same_map v.map M0f ≡ true

-- a two-byte VEX has the fields that it cannot state
pub short_vex_is : (v : Vex) → vex_in_range (Some v) ≡ true → v.three ≡ false → ShortVex v
unfolding vex_in_range
short_vex_is v h e =
    let r1 = (and_parts (nat_lt v.vvvv 16) _ h).1 in
    let r2 = (and_parts (nat_lt v.pp 4) _ r1).1 in
    let r3 = or_right v.three _ e (and_parts (not (is_map_one v.map)) _ r2).1 in
    let r4 = (and_parts (not v.x) _ r3).1 in
    let r5 = (and_parts (not v.b) _ r4).1 in
    record {
      x = not-true v.x (and_parts (not v.x) _ r3).0;
      b = not-true v.b (and_parts (not v.b) _ r4).0;
      w = not-true v.w (and_parts (not v.w) _ r5).0;
      map = (and_parts (not v.w) _ r5).1;
    }

vex_length : (v : Vex) → length (vex_bytes v) ≡ (if v.three then 3 else 2)
unfolding vex_bytes
vex_length v = by_three v.three _ _ _ _ _
  where
    by_three : (three : Bool) (a b c d e : ℕ) → length {A = ℕ} (elim three [ true ↦ a ∷ b ∷ c ∷ [] | false ↦ d ∷ e ∷ [] ]) ≡ (if three then 3 else 2)
    by_three true a b c d e = refl
    by_three false a b c d e = refl

longer : (a b : Vex) → (b.three ≡ false → a.three ≡ false) → length (vex_bytes a) ≤ length (vex_bytes b)
longer a b h = let ea = vex_length a in let eb = vex_length b in step a.three b.three _ _ ea eb h
  where
    step : (s t : Bool) (n m : ℕ) → n ≡ (if s then 3 else 2) → m ≡ (if t then 3 else 2) → (t ≡ false → s ≡ false) → n ≤ m
    step true true n m a b h = omega arith
    step true false n m a b h = absurd (differ true refl (h refl))
    step false true n m a b h = omega arith
    step false false n m a b h = omega arith

-- W of a VEX row: where the row asks for 1, the VEX has it
says_w : (bits : Bits) (size : Size) (w : WBit) (st_size : Bits) (b vw : Bool) → size_says_w size w ≡ true → (elim w [ W1 ↦ true | _ ↦ false ]) ≡ true → size_fits bits size st_size b ≡ true → (takes_w_as_size size || elim w [ W0 ↦ not vw | W1 ↦ vw | _ ↦ true ]) ≡ true → (vw ≡ true) ⊎ (b ≡ true)
unfolding size_says_w size_fits
says_w bits SizeW0 W1 st_size b vw says asks fit h = cc
says_w bits SizeW1 W1 st_size b vw says asks fit h = inr fit
says_w bits NoSize W1 st_size b vw says asks fit h = inl h
says_w bits O16 W1 st_size b vw says asks fit h = inl h
says_w bits O32 W1 st_size b vw says asks fit h = inl h
says_w bits O32or64 W1 st_size b vw says asks fit h = inl h
says_w bits O64 W1 st_size b vw says asks fit h = inl h
says_w bits size NoW st_size b vw says asks fit h = cc
says_w bits size W0 st_size b vw says asks fit h = cc
says_w bits size Wig st_size b vw says asks fit h = cc

if_true : (t a b : Bool) → t ≡ true → (if t then a else b) ≡ true → a ≡ true
if_true true a b n h = h
if_true false a b n h = cc

-- a proper VEX row states its VEX
pub vex_proper : (row : Row) → kind_is_proper row ≡ true → is_vex_row row ≡ true → vex_is_proper row ≡ true
unfolding kind_is_proper
vex_proper row h v = if_true (is_vex_row row) (vex_is_proper row) (legacy_is_proper row) v h

-- and its W
pub vex_says_w : (row : Row) → vex_is_proper row ≡ true → size_says_w row.size row.w ≡ true
unfolding vex_is_proper
vex_says_w row h =
    let h1 = (and_parts (not (is_no_w row.w)) _ h).1 in
    let h2 = (and_parts (not (is_no_l row.l)) _ h1).1 in
    let h3 = (and_parts (is_class_of_vex row.class) _ h2).1 in
    let h4 = (and_parts (is_size_of_vex row.size) _ h3).1 in
    (and_parts (size_says_w row.size row.w) _ h4).0

shared_vex : (field : Vex → Bool) (n : ℕ) (st : PrefixState) (v : Vex) → st.vex ≡ Some v → shared_bit field n st ≡ true → field v ≡ true
shared_vex field n st v e h = rw e at h

needs_vex_w : (bits : Bits) (row : Row) (st : PrefixState) → Sound row → (f : StateIs bits row st) (x : VexIs bits row st) → is_vex_row row ≡ true → asks_vex_w row ≡ true → x.v.w ≡ true
unfolding asks_vex_w w_fits bit_w
needs_vex_w bits row st sound f x e a =
    elim (says_w bits row.size row.w (state_size bits row st) (bit_w bits st) x.v.w (vex_says_w row (vex_proper row sound.kind e)) a f.size x.w) [
      | inl h ↦ h
      | inr h ↦ shared_vex (λ v. v.w) 3 st x.v x.stands (and_parts (is_64 bits) _ h).1
    ]

vex_x : (st : PrefixState) (v : Vex) → st.vex ≡ Some v → bit_x st ≡ true → v.x ≡ true
unfolding bit_x
vex_x st v e h = shared_vex (λ v. v.x) 1 st v e h

vex_b : (bits : Bits) (st : PrefixState) (v : Vex) → st.vex ≡ Some v → bit_b bits st ≡ true → v.b ≡ true
unfolding bit_b
vex_b bits st v e h = shared_vex (λ v. v.b) 0 st v e (and_parts (is_64 bits) _ h).1

-- nothing asks for the third byte of a VEX that has two
not_three : (m : Map) (x b w : Bool) → same_map m M0f ≡ true → (x ≡ true → ⊥) → (b ≡ true → ⊥) → (w ≡ true → ⊥) → (not (same_map m M0f) || (x || (b || w))) ≡ false
not_three M0f true b w h hx hb hw = absurd (hx refl)
not_three M0f false true w h hx hb hw = absurd (hb refl)
not_three M0f false false true h hx hb hw = absurd (hw refl)
not_three M0f false false false h hx hb hw = refl
not_three One x b w h hx hb hw = cc
not_three M0f38 x b w h hx hb hw = cc
not_three M0f3a x b w h hx hb hw = cc

-- **the plain VEX is no longer than the one that was read**
pub needs_lead : (bits : Bits) (row : Row) (st : PrefixState) (i : Instr) → Sound row → StateIs bits row st → AskedBits bits row st i → length (lead_bytes row.map (asked_vex row i)) ≤ length (lead_bytes row.map st.vex)
unfolding asked_vex lead_bytes
needs_lead bits row st i sound f k = elim (cases_Bool (is_vex_row row)) [
  | inr l ↦ rw (l, f.legacy l) (omega arith)
  | inl v ↦ (
      let x = f.vex v in
      rw (v, x.stands) (longer _ x.v (λ two.
      let short = short_vex_is x.v x.range two in
      not_three row.map (asks_x row i) (asks_b row i) (asks_vex_w row) (subst (λ (m : Map). same_map m M0f ≡ true) x.map_is short.map)
      (λ a. differ x.v.x (vex_x st x.v x.stands (k.x a)) short.x) (λ a. differ x.v.b (vex_b bits st x.v x.stands (k.b a)) short.b)
      (λ a. differ x.v.w (needs_vex_w bits row st sound f x v a) short.w))))
]
