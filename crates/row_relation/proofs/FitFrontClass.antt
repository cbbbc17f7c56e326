-- A plain front meets the row's prefix class and its sizes, and keeps LOCK, the repeat prefix and the segment.
use Rattle.std.proofs.Common.{◌≡◌, ◌⊎◌, inl, inr, ℕ, Bool, true, false, ◌&&◌, ◌||◌, not, ◌==◌, Some, None, refl, ap, sym, ◌∙◌}
use Rattle.std.proofs.lemmas.Bool.{and_from, and_parts, cases_Bool, not-true}
use Rattle.x86_values.specs.declared.Bits.{Bits}
use Rattle.x86_values.specs.declared.Rep.{Rep}
use Rattle.x86_values.specs.declared.Rep.TheVariants.{None as NoRep, F2 as RepF2, F3 as RepF3}
use Rattle.x86_values.specs.declared.Instr.{Instr}
use Rattle.instruction_parts.specs.declared.row_types.Row.{Row}
use Rattle.instruction_parts.specs.declared.row_types.Class.{Class}
use Rattle.instruction_parts.specs.declared.row_types.Class.TheVariants.{Any as AnyClass, Np, Nfx, Nf3, P66, F3 as ClassF3, F2 as ClassF2}
use Rattle.instruction_parts.specs.declared.row_types.Size.TheVariants.{O16, O32, O32or64}
use Rattle.instruction_parts.specs.declared.row_types.WBit.{WBit}
use Rattle.instruction_parts.specs.declared.row_types.WBit.TheVariants.{None as NoW, W0, W1, Wig}
use Rattle.instruction_parts.specs.declared.row_types.LBit.{LBit}
use Rattle.instruction_parts.specs.declared.row_types.LBit.TheVariants.{None as NoL, L128, L256, Lz, Lig}
use Rattle.instruction_parts.specs.declared.spelling.Vex.{Vex}
use Rattle.instruction_parts.specs.declared.spelling.PrefixState.{PrefixState}
use Rattle.instruction_parts.specs.Counting.{is_16}
use Rattle.instruction_parts.specs.Sizes.{is_vex_row, is_lockable, bit_w, state_size}
use Rattle.row_fit.specs.Fits.{is_no_repeat, is_repeat_f3, reads_by, is_vvvv, legacy_class_fits, vex_class_fits, class_fits, size_fits, takes_w_as_size, w_fits, l_fits, sizes_fit, vvvv_fits}
use Rattle.row_fit.specs.Sound.{is_class_of_vex}
use Rattle.row_meaning.specs.Meaning.{kept_repeat}
use Rattle.x86_values.specs.Operands.{is_memory}
use Rattle.plain_spelling.specs.Forms.{operand_at}
use Rattle.plain_spelling.specs.PlainFront.{number_in_vvvv, number_asked_of, asks_vex_w, asks_66, asked_repeat, asked_vex, class_pp, plain_front_of}
use Rattle.plain_spelling.specs.PlainTail.{plain_size}
use Rattle.plain_spelling.specs.Expressible.{is_exchange_of_90, lock_suits, repeat_suits, prefixes_suit}
use Rattle.plain_spelling.specs.Writable.{plain_w, has_plain_size, class_allows_size, lock_is_legacy}
use Rattle.row_relation.specs.Given.{Given, NumbersSuit}
use Rattle.plain_spelling.proofs.FrontRange.{vex_for, vex_of_vex, vex_of_legacy, vex_row}
use Rattle.row_relation.proofs.FitFrontBits.{FrontBits}

-- ---- what the conditions on an instruction say of its prefixes

-- the LOCK of suitable prefixes suits
pub lock_of : (row : Row) (i : Instr) → prefixes_suit row i ≡ true → lock_suits row i ≡ true
unfolding prefixes_suit
lock_of row i h = (and_parts (lock_suits row i) (repeat_suits row i) h).0

repeat_of : (row : Row) (i : Instr) → prefixes_suit row i ≡ true → repeat_suits row i ≡ true
unfolding prefixes_suit
repeat_of row i h = (and_parts (lock_suits row i) (repeat_suits row i) h).1

-- the repeat prefix that a class allows
abbrev suits : Class → Rep → Bool → Bool
suits class rep x = elim class [ AnyClass ↦ not (is_repeat_f3 rep && x) | Nf3 ↦ not (is_repeat_f3 rep) | _ ↦ is_no_repeat rep ]

repeat_of_class : (row : Row) (i : Instr) → prefixes_suit row i ≡ true → suits row.class i.rep (is_exchange_of_90 row i) ≡ true
unfolding repeat_suits
repeat_of_class row i h = repeat_of row i h

-- the repeat prefix of a front, by class
abbrev repeated : Class → Rep → Rep
repeated class rep = elim class [ ClassF2 ↦ RepF2 | ClassF3 ↦ RepF3 | _ ↦ rep ]

-- 66 of a front, by class
abbrev sized : Class → Bool → Bool
sized class other = elim class [ P66 ↦ true | _ ↦ other ]

abbrev allows : Class → Bool → Bool
allows class size66 = elim class [ Np ↦ not size66 | _ ↦ true ]

-- ---- the class

legacy_by_class : (class : Class) (f : PrefixState) (other : Bool) (rep : Rep) (x : Bool) → f.size66 ≡ sized class other → f.rep ≡ repeated class rep → suits class rep x ≡ true → allows class f.size66 ≡ true → legacy_class_fits class f ≡ true
unfolding legacy_class_fits
legacy_by_class AnyClass f other rep x s r h a = refl
legacy_by_class Np f other rep x s r h a = and_from (not f.size66) (is_no_repeat f.rep) a (ap is_no_repeat r ∙ h)
legacy_by_class Nfx f other rep x s r h a = ap is_no_repeat r ∙ h
legacy_by_class Nf3 f other rep x s r h a = ap (λ q. not (is_repeat_f3 q)) r ∙ h
legacy_by_class P66 f other rep x s r h a = and_from f.size66 (is_no_repeat f.rep) s (ap is_no_repeat r ∙ h)
legacy_by_class ClassF3 f other rep x s r h a = rw r refl
legacy_by_class ClassF2 f other rep x s r h a = rw r refl

vex_by_class : (class : Class) (v : Vex) → v.pp ≡ class_pp class → is_class_of_vex class ≡ true → vex_class_fits class v ≡ true
unfolding vex_class_fits class_pp
vex_by_class AnyClass v p h = cc
vex_by_class Np v p h = rw p refl
vex_by_class Nfx v p h = cc
vex_by_class Nf3 v p h = cc
vex_by_class P66 v p h = rw p refl
vex_by_class ClassF3 v p h = rw p refl
vex_by_class ClassF2 v p h = rw p refl

asked_repeat_of_vex : (row : Row) (i : Instr) → is_vex_row row ≡ true → asked_repeat row i ≡ i.rep
unfolding asked_repeat
asked_repeat_of_vex row i vex = rw vex refl

asked_repeat_of_legacy : (row : Row) (i : Instr) → is_vex_row row ≡ false → asked_repeat row i ≡ repeated row.class i.rep
unfolding asked_repeat
asked_repeat_of_legacy row i legacy = rw legacy refl

-- 66 of a legacy row
asked_66_of_legacy : (bits : Bits) (row : Row) → is_vex_row row ≡ false
    → asks_66 bits row ≡ sized row.class (elim row.size [ O16 ↦ not (is_16 bits) | O32 ↦ is_16 bits | O32or64 ↦ is_16 bits | _ ↦ false ])
unfolding asks_66
asked_66_of_legacy bits row legacy = rw legacy refl

size_allowed : (bits : Bits) (row : Row) → class_allows_size bits row ≡ true → allows row.class (asks_66 bits row) ≡ true
unfolding class_allows_size
size_allowed bits row h = h

-- the plain front has the prefixes of the row's class
pub front_class : (bits : Bits) (ip : ℕ) (row : Row) (i : Instr) → Given bits ip row i → class_fits row (plain_front_of bits row i) ≡ true
unfolding class_fits plain_front_of
front_class bits ip row i g = elim (cases_Bool (is_vex_row row)) [
  | inl vex ↦ rw (vex_of_vex row i vex) (vex_by_class row.class (vex_for row i) refl (vex_row row g.is_sound vex).class)
  | inr legacy ↦
      rw (vex_of_legacy row i legacy)
      (legacy_by_class row.class _ (elim row.size [ O16 ↦ not (is_16 bits) | O32 ↦ is_16 bits | O32or64 ↦ is_16 bits | _ ↦ false ]) i.rep (is_exchange_of_90 row i)
      (asked_66_of_legacy bits row legacy) (asked_repeat_of_legacy row i legacy) (repeat_of_class row i g.suits.prefixes) (size_allowed bits row g.is_writable.class))
]

-- ---- LOCK and the repeat prefix

no_repeat_of_vex : (class : Class) (rep : Rep) (x : Bool) → is_class_of_vex class ≡ true → suits class rep x ≡ true → is_no_repeat rep ≡ true
no_repeat_of_vex AnyClass rep x v h = cc
no_repeat_of_vex Np rep x v h = h
no_repeat_of_vex Nfx rep x v h = cc
no_repeat_of_vex Nf3 rep x v h = cc
no_repeat_of_vex P66 rep x v h = h
no_repeat_of_vex ClassF3 rep x v h = h
no_repeat_of_vex ClassF2 rep x v h = h

none_of : (rep : Rep) → is_no_repeat rep ≡ true → rep ≡ NoRep
none_of NoRep h = refl
none_of RepF2 h = cc
none_of RepF3 h = cc

-- a VEX row has no repeat prefix
pub vex_repeat : (bits : Bits) (ip : ℕ) (row : Row) (i : Instr) → Given bits ip row i → is_vex_row row ≡ true → asked_repeat row i ≡ NoRep
vex_repeat bits ip row i g vex =
    asked_repeat_of_vex row i vex
    ∙ none_of i.rep (no_repeat_of_vex row.class i.rep (is_exchange_of_90 row i) (vex_row row g.is_sound vex).class (repeat_of_class row i g.suits.prefixes))

-- nor LOCK
pub vex_lock : (bits : Bits) (ip : ℕ) (row : Row) (i : Instr) → Given bits ip row i → is_vex_row row ≡ true → i.lock ≡ false
unfolding lock_suits lock_is_legacy
vex_lock bits ip row i g vex =
    let plain : is_lockable row ≡ false = rw vex at (not-true (is_vex_row row && is_lockable row) g.is_writable.lock) in
    let h : (not i.lock || (is_lockable row && is_memory (operand_at i 0))) ≡ true = lock_of row i g.suits.prefixes in
    lock_by i.lock (is_lockable row) (is_memory (operand_at i 0)) plain h
  where
    lock_by : (l a b : Bool) → a ≡ false → (not l || (a && b)) ≡ true → l ≡ false
    lock_by true a b p h = (let e : (a && b) ≡ false = rw p refl in cc)
    lock_by false a b p h = refl

kept_by_class : (class : Class) (f rep : Rep) (x : Bool) → suits class rep x ≡ true → (f ≡ rep) ⊎ (f ≡ repeated class rep) → kept_repeat class f ≡ rep
unfolding kept_repeat
kept_by_class AnyClass f rep x h (inl e) = e
kept_by_class AnyClass f rep x h (inr e) = e
kept_by_class Nf3 f rep x h (inl e) = e
kept_by_class Nf3 f rep x h (inr e) = e
kept_by_class Np f rep x h e = sym (none_of rep h)
kept_by_class Nfx f rep x h e = sym (none_of rep h)
kept_by_class P66 f rep x h e = sym (none_of rep h)
kept_by_class ClassF3 f rep x h e = sym (none_of rep h)
kept_by_class ClassF2 f rep x h e = sym (none_of rep h)

-- the instruction's repeat prefix is kept
pub front_repeat : (bits : Bits) (ip : ℕ) (row : Row) (i : Instr) → Given bits ip row i → kept_repeat row.class (asked_repeat row i) ≡ i.rep
front_repeat bits ip row i g = elim (cases_Bool (is_vex_row row)) [
  | inl vex ↦ kept_by_class row.class (asked_repeat row i) i.rep (is_exchange_of_90 row i) (repeat_of_class row i g.suits.prefixes) (inl (asked_repeat_of_vex row i vex))
  | inr legacy ↦ kept_by_class row.class (asked_repeat row i) i.rep (is_exchange_of_90 row i) (repeat_of_class row i g.suits.prefixes) (inr (asked_repeat_of_legacy row i legacy))
]

-- ---- sizes

abbrev says_one : WBit → Bool
says_one w = elim w [ W1 ↦ true | _ ↦ false ]

abbrev w_kept : WBit → Bool → Bool
w_kept w bit = elim w [ W0 ↦ not bit | W1 ↦ bit | _ ↦ true ]

w_by : (w : WBit) (takes : Bool) → (takes || w_kept w (says_one w)) ≡ true
w_by NoW true = refl
w_by NoW false = refl
w_by W0 true = refl
w_by W0 false = refl
w_by W1 true = refl
w_by W1 false = refl
w_by Wig true = refl
w_by Wig false = refl

vex_w : (row : Row) (i : Instr) → w_fits row (vex_for row i) ≡ true
unfolding w_fits asks_vex_w
vex_w row i = w_by row.w (takes_w_as_size row.size)

l_by : (l : LBit) (v : Vex) → v.l ≡ elim l [ L256 ↦ true | _ ↦ false ] → l_fits l v ≡ true
unfolding l_fits
l_by NoL v h = refl
l_by L128 v h = ap not h
l_by L256 v h = h
l_by Lz v h = ap not h
l_by Lig v h = refl

front_size_fits : (bits : Bits) (row : Row) (i : Instr) → has_plain_size bits row ≡ true → FrontBits bits row i → size_fits bits row.size (state_size bits row (plain_front_of bits row i)) (bit_w bits (plain_front_of bits row i)) ≡ true
unfolding has_plain_size
front_size_fits bits row i h b =
    rw b.size (rw b.w (and_parts (size_fits bits row.size (plain_size bits row) (plain_w bits row)) _ h).0)

vex_sizes : (bits : Bits) (row : Row) (i : Instr) → (elim (asked_vex row i) [ None ↦ true | Some v ↦ w_fits row v && l_fits row.l v ]) ≡ true
vex_sizes bits row i = elim (cases_Bool (is_vex_row row)) [
  | inl vex ↦ rw (vex_of_vex row i vex) (and_from (w_fits row (vex_for row i)) (l_fits row.l (vex_for row i)) (vex_w row i) (l_by row.l (vex_for row i) refl))
  | inr legacy ↦ rw (vex_of_legacy row i legacy) refl
]

-- and its sizes
pub front_sizes : (bits : Bits) (row : Row) (i : Instr) → has_plain_size bits row ≡ true → FrontBits bits row i → sizes_fit bits row (plain_front_of bits row i) ≡ true
unfolding sizes_fit plain_front_of
front_sizes bits row i h b =
    and_from (size_fits bits row.size (state_size bits row (plain_front_of bits row i)) (bit_w bits (plain_front_of bits row i))) _
    (front_size_fits bits row i h b) (vex_sizes bits row i)

-- ---- vvvv

vvvv_by : (n : ℕ) (reads : Bool) → (reads ≡ false → n ≡ 0) → (n == 0 || reads) ≡ true
vvvv_by n true h = or_true (n == 0)
  where
    or_true : (b : Bool) → (b || true) ≡ true
    or_true true = refl
    or_true false = refl
vvvv_by n false h = rw (h refl) refl

-- and its vvvv fits
pub front_vvvv_fits : (bits : Bits) (row : Row) (i : Instr) → NumbersSuit bits row i → vvvv_fits row (plain_front_of bits row i) ≡ true
unfolding vvvv_fits plain_front_of
front_vvvv_fits bits row i n = elim (cases_Bool (is_vex_row row)) [
  | inl vex ↦ rw (vex_of_vex row i vex) (vvvv_by (number_asked_of number_in_vvvv row i) (reads_by is_vvvv row) n.vvvv_unused)
  | inr legacy ↦ rw (vex_of_legacy row i legacy) refl
]
