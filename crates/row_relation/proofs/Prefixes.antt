-- The prefixes that a fitting spelling needs are those of the plain front of what it means.
use Rattle.std.proofs.Common.{◌≡◌, ℕ, Bool, true, false, ◌&&◌, not, List, [], ◌∷◌, ◌++◌, Option, Some, None, refl, ap, sym, ◌∙◌, subst}
use Rattle.x86_values.specs.declared.Bits.{Bits}
use Rattle.x86_values.specs.declared.Bits.TheVariants.{B16, B32, B64}
use Rattle.x86_values.specs.declared.Segment.{Segment}
use Rattle.x86_values.specs.declared.Segment.TheVariants.{Es, Cs, Ss, Ds, Fs, Gs}
use Rattle.x86_values.specs.declared.Rep.{Rep}
use Rattle.x86_values.specs.declared.Rep.TheVariants.{None as NoRep, F2 as RepF2, F3 as RepF3}
use Rattle.x86_values.specs.declared.Instr.{Instr}
use Rattle.instruction_parts.specs.declared.row_types.Row.{Row}
use Rattle.instruction_parts.specs.declared.row_types.Class.TheVariants.{P66}
use Rattle.instruction_parts.specs.declared.row_types.Size.{Size}
use Rattle.instruction_parts.specs.declared.row_types.Size.TheVariants.{None as NoSize, O16, O32, O32or64, O64, W0 as SizeW0, W1 as SizeW1}
use Rattle.instruction_parts.specs.declared.spelling.ModRm.{ModRm}
use Rattle.instruction_parts.specs.declared.spelling.PrefixState.{PrefixState}
use Rattle.instruction_parts.specs.Counting.{is_16, is_32, is_64}
use Rattle.instruction_parts.specs.Sizes.{is_vex_row, has_caret, has_bang, operand_size, state_size, bit_w, rex_w}
use Rattle.row_fit.specs.Fits.{size_fits}
use Rattle.row_meaning.specs.Meaning.{kept_repeat, kept_address_size}
use Rattle.plain_spelling.specs.PlainFront.{asks_66, asks_67, asked_repeat, asked_rex, plain_front_of}
use Rattle.plain_spelling.specs.PlainTail.{byte_if, segment_prefix, repeat_prefix, rex_prefix, prefixes_of}
use Rattle.row_relation.proofs.NeedStates.{StateIs}
use Rattle.row_relation.proofs.NeedFront.{size_by}
use Rattle.row_relation.specs.IsPlain.{asks_for_word_or_dword, is_other_size, needs_66, needs_67, needed_repeat, needs_prefix, legacy_prefixes, those_of, rex_alone, needed_by}

-- ---- the list of those that are needed

tail_are : (seg : Option Segment) (a b l : Bool) (r : Rep) (rx : List ℕ) → those_of (needs_prefix seg a b l r) (0x66 ∷ 0x67 ∷ 0xF0 ∷ 0xF2 ∷ 0xF3 ∷ []) ++ rx ≡ byte_if a 0x66 ++ (byte_if b 0x67 ++ (byte_if l 0xF0 ++ (repeat_prefix r ++ rx)))
tail_are seg true true true NoRep rx = refl
tail_are seg true true true RepF2 rx = refl
tail_are seg true true true RepF3 rx = refl
tail_are seg true true false NoRep rx = refl
tail_are seg true true false RepF2 rx = refl
tail_are seg true true false RepF3 rx = refl
tail_are seg true false true NoRep rx = refl
tail_are seg true false true RepF2 rx = refl
tail_are seg true false true RepF3 rx = refl
tail_are seg true false false NoRep rx = refl
tail_are seg true false false RepF2 rx = refl
tail_are seg true false false RepF3 rx = refl
tail_are seg false true true NoRep rx = refl
tail_are seg false true true RepF2 rx = refl
tail_are seg false true true RepF3 rx = refl
tail_are seg false true false NoRep rx = refl
tail_are seg false true false RepF2 rx = refl
tail_are seg false true false RepF3 rx = refl
tail_are seg false false true NoRep rx = refl
tail_are seg false false true RepF2 rx = refl
tail_are seg false false true RepF3 rx = refl
tail_are seg false false false NoRep rx = refl
tail_are seg false false false RepF2 rx = refl
tail_are seg false false false RepF3 rx = refl

those_are : (seg : Option Segment) (a b l : Bool) (r : Rep) (rx : List ℕ) → those_of (needs_prefix seg a b l r) legacy_prefixes ++ rx ≡ segment_prefix seg ++ (byte_if a 0x66 ++ (byte_if b 0x67 ++ (byte_if l 0xF0 ++ (repeat_prefix r ++ rx))))
those_are None a b l r rx = tail_are None a b l r rx
those_are (Some Es) a b l r rx = ap (λ (t : List ℕ). 0x26 ∷ t) (tail_are (Some Es) a b l r rx)
those_are (Some Cs) a b l r rx = ap (λ (t : List ℕ). 0x2E ∷ t) (tail_are (Some Cs) a b l r rx)
those_are (Some Ss) a b l r rx = ap (λ (t : List ℕ). 0x36 ∷ t) (tail_are (Some Ss) a b l r rx)
those_are (Some Ds) a b l r rx = ap (λ (t : List ℕ). 0x3E ∷ t) (tail_are (Some Ds) a b l r rx)
those_are (Some Fs) a b l r rx = ap (λ (t : List ℕ). 0x64 ∷ t) (tail_are (Some Fs) a b l r rx)
those_are (Some Gs) a b l r rx = ap (λ (t : List ℕ). 0x65 ∷ t) (tail_are (Some Gs) a b l r rx)

-- ---- 66

-- the row's own size, without W and 66
abbrev own : Bits → Bool → Bool → Bits
own bits bang caret = size_by bits bang false false caret

word_other : (bits : Bits) (bang caret : Bool) (z : Bits) → is_16 z ≡ true → is_other_size z (own bits bang caret) ≡ not (is_16 bits)
word_other bits bang caret B32 h = cc
word_other bits bang caret B64 h = cc
word_other B16 bang caret B16 h = refl
word_other B32 bang caret B16 h = refl
word_other B64 true caret B16 h = refl
word_other B64 false true B16 h = refl
word_other B64 false false B16 h = refl

dword_other : (bits : Bits) (bang w size66 caret : Bool) → is_32 (size_by bits bang w size66 caret) ≡ true → is_other_size (size_by bits bang w size66 caret) (own bits bang caret) ≡ is_16 bits
dword_other B16 bang true size66 caret h = cc
dword_other B16 bang false true caret h = refl
dword_other B16 bang false false caret h = cc
dword_other B32 bang true size66 caret h = cc
dword_other B32 bang false true caret h = cc
dword_other B32 bang false false caret h = refl
dword_other B64 true w size66 caret h = cc
dword_other B64 false true size66 caret h = cc
dword_other B64 false false true caret h = cc
dword_other B64 false false false true h = cc
dword_other B64 false false false false h = refl

wide_other : (bits : Bits) (bang w size66 caret : Bool) → (is_16 bits ≡ true → w ≡ false) → not (is_16 (size_by bits bang w size66 caret)) ≡ true → is_other_size (size_by bits bang w size66 caret) (own bits bang caret) ≡ is_16 bits
wide_other B16 bang true size66 caret m h = (let k = m refl in cc)
wide_other B16 bang false true caret m h = refl
wide_other B16 bang false false caret m h = cc
wide_other B32 bang true size66 caret m h = refl
wide_other B32 bang false true caret m h = cc
wide_other B32 bang false false caret m h = refl
wide_other B64 true w size66 caret m h = refl
wide_other B64 false true size66 caret m h = refl
wide_other B64 false false true caret m h = cc
wide_other B64 false false false true m h = refl
wide_other B64 false false false false m h = refl

size_same : (bits : Bits) (bang w size66 caret b : Bool) (size : Size) → (is_16 bits ≡ true → w ≡ false) → size_fits bits size (size_by bits bang w size66 caret) b ≡ true
    → (asks_for_word_or_dword size && is_other_size (size_by bits bang w size66 caret) (own bits bang caret)) ≡ (elim size [ O16 ↦ not (is_16 bits) | O32 ↦ is_16 bits | O32or64 ↦ is_16 bits | _ ↦ false ])
unfolding size_fits
size_same bits bang w size66 caret b O16 m h = word_other bits bang caret (size_by bits bang w size66 caret) h
size_same bits bang w size66 caret b O32 m h = dword_other bits bang w size66 caret h
size_same bits bang w size66 caret b O32or64 m h = wide_other bits bang w size66 caret m h
size_same bits bang w size66 caret b O64 m h = refl
size_same bits bang w size66 caret b NoSize m h = refl
size_same bits bang w size66 caret b SizeW0 m h = refl
size_same bits bang w size66 caret b SizeW1 m h = refl

mode_16 : (bits : Bits) → is_16 bits ≡ true → is_64 bits ≡ false
mode_16 B16 h = refl
mode_16 B32 h = cc
mode_16 B64 h = cc

no_rex_w : (st : PrefixState) → st.rex ≡ None → rex_w st ≡ false
no_rex_w st h = rw h

-- **a fitting spelling needs 66 exactly where the plain front has it**
pub same_66 : (bits : Bits) (row : Row) (st : PrefixState) → StateIs bits row st → needs_66 bits row st ≡ asks_66 bits row
unfolding needs_66 asks_66 state_size operand_size
same_66 bits row st f =
    ap (λ (x : Bool). not (is_vex_row row) && (elim row.class [ P66 ↦ true | _ ↦ x ]))
    (size_same bits (has_bang row) (rex_w st) st.size66 (has_caret row) (bit_w bits st) row.size (λ m. no_rex_w st (f.rex_mode (mode_16 bits m))) f.size)

-- ---- the others

same_67 : (bits : Bits) (o : Option Bits) → needs_67 bits o ≡ asks_67 bits o
unfolding asks_67
same_67 bits None = refl
same_67 bits (Some a) = refl

same_repeat : (row : Row) (i : Instr) → needed_repeat row i.rep ≡ asked_repeat row i
unfolding needed_repeat asked_repeat
same_repeat row i = refl

same_rex : (o : Option ℕ) → rex_alone o ≡ rex_prefix o
same_rex None = refl
same_rex (Some x) = refl

-- what a state and its ModRM keep of an instruction
pub record Keeps (bits : Bits) (row : Row) (st : PrefixState) (m : Option ModRm) (i : Instr) : Type 0 where
  pub lock : st.lock ≡ i.lock
  pub rep : kept_repeat row.class st.rep ≡ i.rep
  pub seg : st.seg ≡ i.seg
  pub asize : kept_address_size bits row st m ≡ i.asize

-- the list by its six parts
unfoldable listed_by : Option Segment → Bool → Bool → Bool → Rep → Option ℕ → List ℕ
listed_by seg a b l r rex = those_of (needs_prefix seg a b l r) legacy_prefixes ++ rex_alone rex

listed_same : (seg seg1 : Option Segment) (a a1 b b1 l l1 : Bool) (r r1 : Rep) (rex rex1 : Option ℕ) → seg ≡ seg1 → a ≡ a1 → b ≡ b1 → l ≡ l1 → r ≡ r1 → rex ≡ rex1 → listed_by seg a b l r rex ≡ listed_by seg1 a1 b1 l1 r1 rex1
listed_same seg seg1 a a1 b b1 l l1 r r1 rex rex1 hs ha hb hl hr hx =
    ap (λ (x : Option Segment). listed_by x a b l r rex) hs ∙ ap (λ (x : Bool). listed_by seg1 x b l r rex) ha ∙ ap (λ (x : Bool). listed_by seg1 a1 x l r rex) hb
    ∙ ap (λ (x : Bool). listed_by seg1 a1 b1 x r rex) hl ∙ ap (λ (x : Rep). listed_by seg1 a1 b1 l1 x rex) hr ∙ ap (λ (x : Option ℕ). listed_by seg1 a1 b1 l1 r1 x) hx

needed_listed : (bits : Bits) (row : Row) (st : PrefixState) (m : Option ModRm) → needed_by bits row st m ≡ listed_by st.seg (needs_66 bits row st) (needs_67 bits (kept_address_size bits row st m)) st.lock (needed_repeat row (kept_repeat row.class st.rep)) st.rex
unfolding needed_by listed_by
needed_listed bits row st m = refl

plain_listed : (bits : Bits) (row : Row) (i : Instr) → listed_by i.seg (asks_66 bits row) (asks_67 bits i.asize) i.lock (asked_repeat row i) (asked_rex row i) ≡ prefixes_of (plain_front_of bits row i)
unfolding listed_by prefixes_of plain_front_of
plain_listed bits row i =
    subst (λ (x : List ℕ). those_of (needs_prefix i.seg (asks_66 bits row) (asks_67 bits i.asize) i.lock (asked_repeat row i)) legacy_prefixes ++ x
    ≡ segment_prefix i.seg ++ (byte_if (asks_66 bits row) 0x66 ++ (byte_if (asks_67 bits i.asize) 0x67 ++ (byte_if i.lock 0xF0 ++ (repeat_prefix (asked_repeat row i) ++ rex_prefix (asked_rex row i))))))
    (sym (same_rex (asked_rex row i)))
    (those_are i.seg (asks_66 bits row) (asks_67 bits i.asize) i.lock (asked_repeat row i) (rex_prefix (asked_rex row i)))

-- **the prefixes that a fitting spelling needs are those of the plain front, where it has that one's REX**
pub needed_are : (bits : Bits) (row : Row) (st : PrefixState) (m : Option ModRm) (i : Instr) → StateIs bits row st → Keeps bits row st m i → st.rex ≡ asked_rex row i → needed_by bits row st m ≡ prefixes_of (plain_front_of bits row i)
needed_are bits row st m i f k rex =
    needed_listed bits row st m
    ∙ listed_same _ _ _ _ _ _ _ _ _ _ _ _ k.seg (same_66 bits row st f) (ap (needs_67 bits) k.asize ∙ same_67 bits i.asize) k.lock (ap (needed_repeat row) k.rep ∙ same_repeat row i) rex
    ∙ plain_listed bits row i
