-- The constructed front is plain: its prefixes, REX and VEX.
use Rattle.std.proofs.Common.{◌≡◌, inl, inr, ℕ, ◌+◌, ◌*◌, ◌<◌, Bool, true, false, ◌&&◌, ◌||◌, not, nat_lt, List, Option, Some, None, refl, ap, sym, ◌∙◌, subst, if◌then◌else◌}
use Rattle.row_relation.proofs.AddressCases.{if_yes, if_no}
use Rattle.std.proofs.lemmas.Bool.{lt-ltb, cases_Bool}
use Rattle.x86_values.specs.declared.Bits.{Bits}
use Rattle.x86_values.specs.declared.Operand.{Operand}
use Rattle.x86_values.specs.declared.Instr.{Instr}
use Rattle.x86_values.specs.declared.Code.{Code}
use Rattle.instruction_parts.specs.declared.row_types.Row.{Row}
use Rattle.instruction_parts.specs.declared.row_types.Map.TheVariants.{M0f}
use Rattle.instruction_parts.specs.declared.row_types.LBit.TheVariants.{L256}
use Rattle.instruction_parts.specs.declared.spelling.Spelling.{Spelling}
use Rattle.instruction_parts.specs.declared.spelling.PrefixState.{PrefixState}
use Rattle.instruction_parts.specs.Counting.{is_64, rex_bit}
use Rattle.instruction_parts.specs.Sizes.{is_vex_row, shared_bit, bit_r, bit_x, bit_b}
use Rattle.instruction_parts.specs.Bytes.{bit, state_of}
use Rattle.row_fit.specs.Fits.{same_bool, same_map}
use Rattle.row_fit.proofs.FitLaws.{all_conditions}
use Rattle.row_meaning.specs.Meaning.{instr_of}
use Rattle.plain_spelling.specs.PlainFront.{number_in_vvvv, number_asked_of, asks_r, asks_x, asks_b, asks_low_byte, asks_rex_w, asks_vex_w, asked_rex, asked_vex, plain_front_of}
use Rattle.plain_spelling.specs.PlainTail.{prefixes_of, plain_spelling}
use Rattle.plain_spelling.proofs.FrontRange.{vex_for, vex_of_vex, vex_of_legacy}
use Rattle.row_relation.specs.Given as fit
use Rattle.row_relation.proofs.FitNumbers.{numbers_suit}
use Rattle.row_relation.proofs.FitFrontBits.{FrontBits, asked-small}
use Rattle.row_relation.proofs.FitFront.{PlainFrontFits, plain_front_fits}
use Rattle.row_relation.proofs.FitPlaces.{places_fit, rule_fits}
use Rattle.row_relation.proofs.FitWhole.{plain_fits, plain_means}
use Rattle.row_relation.specs.GivenSpelling as need
use Rattle.row_relation.proofs.NeedStates.{StateIs, state_is}
use Rattle.plain_spelling.proofs.PlainFrontLaws.{plain_rex_w}
use Rattle.row_relation.proofs.NeedUsed.{read, read_is}
use Rattle.row_relation.specs.IsPlain.{needed_prefixes, only_if, needs_r, needs_x, needs_b, needs_w, names_low_byte, rex_is_needed, vex_is_short, l_is_needed, vvvv_is_read}
use Rattle.row_relation.proofs.Prefixes.{Keeps, needed_are}
use Rattle.row_relation.proofs.Bits.{NeedsAre}

-- ---- the plain spelling as one that fits and means the instruction

-- the plain front of a suitable instruction fits
pub front_fits : (bits : Bits) (ip : ℕ) (row : Row) (i : Instr) → fit.Given bits ip row i → PlainFrontFits bits row i
front_fits bits ip row i g =
    plain_front_fits bits ip row i g (numbers_suit bits ip row i g) (places_fit bits ip row i g) (rule_fits bits row i g.is_sound)

-- the state of the plain spelling is the plain front
pub own_state : (bits : Bits) (ip : ℕ) (row : Row) (i : Instr) → PlainFrontFits bits row i → state_of bits row (plain_spelling bits ip row i) ≡ plain_front_of bits row i
unfolding plain_spelling
own_state bits ip row i f = f.state (plain_spelling bits ip row i) refl refl refl

-- a suitable instruction is what its plain spelling means
pub given_of : (bits : Bits) (ip : ℕ) (row : Row) (i : Instr) → fit.Given bits ip row i → need.Given bits ip i.code row (plain_spelling bits ip row i) i
given_of bits ip row i g = record {
  is_sound = g.is_sound;
  is_writable = g.is_writable;
  fitting = all_conditions bits row (plain_spelling bits ip row i) (plain_fits bits ip row i g);
  means = plain_means bits ip row i g;
}

-- what a fitting spelling keeps of its instruction
read_keeps : (bits : Bits) (ip : ℕ) (code : Code) (row : Row) (s : Spelling) → Keeps bits row (state_of bits row s) s.modrm (read bits ip code row s)
unfolding instr_of
read_keeps bits ip code row s = record { lock = refl; rep = refl; seg = refl; asize = refl }

-- what a spelling keeps of the prefixes that count
pub keeps_of : (bits : Bits) (ip : ℕ) (code : Code) (row : Row) (s : Spelling) (i : Instr) → need.Given bits ip code row s i → Keeps bits row (state_of bits row s) s.modrm i
keeps_of bits ip code row s i g = subst (Keeps bits row (state_of bits row s) s.modrm) (read_is bits ip code row s i g) (read_keeps bits ip code row s)

-- ---- the prefixes

own_prefixes : (bits : Bits) (ip : ℕ) (row : Row) (i : Instr) → (plain_spelling bits ip row i).prefixes.items ≡ prefixes_of (plain_front_of bits row i)
unfolding plain_spelling
own_prefixes bits ip row i = refl

front_rex : (bits : Bits) (row : Row) (i : Instr) → (plain_front_of bits row i).rex ≡ asked_rex row i
unfolding plain_front_of
front_rex bits row i = refl

-- the prefixes of a plain spelling are the needed ones
pub prefixes_plain : (bits : Bits) (ip : ℕ) (row : Row) (i : Instr) → fit.Given bits ip row i → (plain_spelling bits ip row i).prefixes.items ≡ needed_prefixes bits row (plain_spelling bits ip row i)
prefixes_plain bits ip row i g =
    let s = plain_spelling bits ip row i in
    let n = given_of bits ip row i g in
    let e = own_state bits ip row i (front_fits bits ip row i g) in
    own_prefixes bits ip row i
    ∙ sym (needed_are bits row (state_of bits row s) s.modrm i (state_is bits row s n.fitting) (keeps_of bits ip i.code row s i n) (ap (λ (x : PrefixState). x.rex) e ∙ front_rex bits row i))

-- ---- the bits

-- a bit is set only if it is needed, as it is the needed one
pub only_same : (a b : Bool) → a ≡ b → only_if b a ≡ true
only_same true b h = sym h
only_same false b h = refl

-- R of the plain front is set only if it is needed
pub r_plain : (bits : Bits) (row : Row) (i : Instr) → FrontBits bits row i → NeedsAre row i → only_if (needs_r row i.ops) (bit_r (plain_front_of bits row i)) ≡ true
r_plain bits row i f n = only_same (bit_r (plain_front_of bits row i)) (needs_r row i.ops) (f.r ∙ sym n.r)

-- so is X
pub x_plain : (bits : Bits) (row : Row) (i : Instr) → FrontBits bits row i → NeedsAre row i → only_if (needs_x row i.ops) (bit_x (plain_front_of bits row i)) ≡ true
x_plain bits row i f n = only_same (bit_x (plain_front_of bits row i)) (needs_x row i.ops) (f.x ∙ sym n.x)

and_true : (a b c : Bool) → (a && b) ≡ c → a ≡ true → b ≡ c
and_true true b c h e = h
and_true false b c h e = cc

bit_b_is : (bits : Bits) (st : PrefixState) → bit_b bits st ≡ (is_64 bits && shared_bit (λ v. v.b) 0 st)
unfolding bit_b
bit_b_is bits st = refl

no_bit : (st : PrefixState) → st.vex ≡ None → st.rex ≡ None → shared_bit (λ v. v.b) 0 st ≡ false
no_bit st e k = rw (e, k) refl

vex_bit : (st : PrefixState) (row : Row) (i : Instr) → st.vex ≡ Some (vex_for row i) → shared_bit (λ v. v.b) 0 st ≡ asks_b row i
vex_bit st row i e = rw e refl

front_vex : (bits : Bits) (row : Row) (i : Instr) → (plain_front_of bits row i).vex ≡ asked_vex row i
unfolding plain_front_of
front_vex bits row i = refl

only_false : (a b : Bool) → a ≡ false → only_if b a ≡ true
only_false a b h = rw h refl

-- so is B
pub b_plain : (bits : Bits) (row : Row) (i : Instr) → FrontBits bits row i → NeedsAre row i → StateIs bits row (plain_front_of bits row i) → only_if (needs_b row i.ops) (shared_bit (λ v. v.b) 0 (plain_front_of bits row i)) ≡ true
b_plain bits row i f n st =
    let p = plain_front_of bits row i in
    elim (cases_Bool (is_vex_row row)) [
      | inl vex ↦ only_same (shared_bit (λ v. v.b) 0 p) (needs_b row i.ops) (vex_bit p row i (front_vex bits row i ∙ vex_of_vex row i vex) ∙ sym n.b)
      | inr legacy ↦ elim (cases_Bool (is_64 bits)) [
        | inl long ↦ only_same (shared_bit (λ v. v.b) 0 p) (needs_b row i.ops) (and_true (is_64 bits) (shared_bit (λ v. v.b) 0 p) (asks_b row i) (sym (bit_b_is bits p) ∙ f.b) long ∙ sym n.b)
        | inr short ↦ only_false (shared_bit (λ v. v.b) 0 p) (needs_b row i.ops) (no_bit p (front_vex bits row i ∙ vex_of_legacy row i legacy) (st.rex_mode short))
      ]
    ]

needs_w_is : (row : Row) → needs_w row ≡ (if is_vex_row row then asks_vex_w row else asks_rex_w row)
unfolding needs_w asks_vex_w asks_rex_w
needs_w_is row = refl

vex_w : (st : PrefixState) (row : Row) (i : Instr) → st.vex ≡ Some (vex_for row i) → shared_bit (λ v. v.w) 3 st ≡ asks_vex_w row
vex_w st row i e = rw e refl

legacy_w : (st : PrefixState) → st.vex ≡ None → shared_bit (λ v. v.w) 3 st ≡ rex_bit 3 st.rex
legacy_w st e = rw e refl

-- so is W
pub w_plain : (bits : Bits) (row : Row) (i : Instr) → only_if (needs_w row) (shared_bit (λ v. v.w) 3 (plain_front_of bits row i)) ≡ true
w_plain bits row i =
    let p = plain_front_of bits row i in
    let n = needs_w_is row in
    elim (cases_Bool (is_vex_row row)) [
      | inl vex ↦ only_same (shared_bit (λ v. v.w) 3 p) (needs_w row) (vex_w p row i (front_vex bits row i ∙ vex_of_vex row i vex) ∙ sym (n ∙ if_yes (is_vex_row row) (asks_vex_w row) (asks_rex_w row) vex))
      | inr legacy ↦
          only_same (shared_bit (λ v. v.w) 3 p) (needs_w row)
          (legacy_w p (front_vex bits row i ∙ vex_of_legacy row i legacy) ∙ ap (rex_bit 3) (front_rex bits row i) ∙ plain_rex_w row i ∙ if_no (is_vex_row row) false (asks_rex_w row) legacy
          ∙ sym (n ∙ if_no (is_vex_row row) (asks_vex_w row) (asks_rex_w row) legacy))
    ]

-- ---- the REX

rex_by : (vex w r x b low : Bool) (ops : List Operand) → names_low_byte ops ≡ low → rex_is_needed (if not vex && (w || (r || (x || (b || low)))) then Some (0x40 + (bit w * 8 + (bit r * 4 + (bit x * 2 + bit b)))) else None) ops ≡ true
unfolding rex_is_needed
rex_by true w r x b low ops h = refl
rex_by false true true true true low ops h = refl
rex_by false true true true false low ops h = refl
rex_by false true true false true low ops h = refl
rex_by false true true false false low ops h = refl
rex_by false true false true true low ops h = refl
rex_by false true false true false low ops h = refl
rex_by false true false false true low ops h = refl
rex_by false true false false false low ops h = refl
rex_by false false true true true low ops h = refl
rex_by false false true true false low ops h = refl
rex_by false false true false true low ops h = refl
rex_by false false true false false low ops h = refl
rex_by false false false true true low ops h = refl
rex_by false false false true false low ops h = refl
rex_by false false false false true low ops h = refl
rex_by false false false false false true ops h = h
rex_by false false false false false false ops h = refl

-- a plain REX is needed
pub rex_plain : (row : Row) (i : Instr) → NeedsAre row i → rex_is_needed (asked_rex row i) i.ops ≡ true
unfolding asked_rex
rex_plain row i n = rex_by (is_vex_row row) (asks_rex_w row) (asks_r row i) (asks_x row i) (asks_b row i) (asks_low_byte i.ops) i.ops n.low

-- ---- VEX

short_by : (m x b w : Bool) → same_bool (not m || (x || (b || w))) (not (m && (not x && (not b && not w)))) ≡ true
short_by true true b w = refl
short_by true false true w = refl
short_by true false false true = refl
short_by true false false false = refl
short_by false x b w = refl

by_vex : {T : Type 0} → (P : Option T → Type 0) (o : Option T) (vex : Bool) (v : T) → (vex ≡ true → o ≡ Some v) → (vex ≡ false → o ≡ None) → P (Some v) → P None → P o
by_vex P o true v h k some none = subst P (sym (h refl)) some
by_vex P o false v h k some none = subst P (sym (k refl)) none

-- a plain VEX has two bytes if these are enough
pub vex_plain : (row : Row) (i : Instr) → vex_is_short (asked_vex row i) ≡ true
unfolding vex_is_short
vex_plain row i =
    by_vex (λ o. vex_is_short o ≡ true) (asked_vex row i) (is_vex_row row) (vex_for row i) (vex_of_vex row i) (vex_of_legacy row i)
    (short_by (same_map row.map M0f) (asks_x row i) (asks_b row i) (asks_vex_w row)) refl

-- its L is needed
pub l_plain : (row : Row) (i : Instr) → l_is_needed row (asked_vex row i) ≡ true
unfolding l_is_needed
l_plain row i =
    by_vex (λ o. l_is_needed row o ≡ true) (asked_vex row i) (is_vex_row row) (vex_for row i) (vex_of_vex row i) (vex_of_legacy row i)
    (only_same (elim row.l [ L256 ↦ true | _ ↦ false ]) (elim row.l [ L256 ↦ true | _ ↦ false ]) refl) refl

long_or : (long : Bool) (n : ℕ) → (long ≡ false → n < 8) → (long || nat_lt n 8) ≡ true
long_or true n h = refl
long_or false n h = lt-ltb n 8 (h refl)

-- its vvvv is read, or has all bits set
pub vvvv_plain : (bits : Bits) (row : Row) (i : Instr) → fit.NumbersSuit bits row i → vvvv_is_read bits (asked_vex row i) ≡ true
unfolding vvvv_is_read
vvvv_plain bits row i n =
    by_vex (λ o. vvvv_is_read bits o ≡ true) (asked_vex row i) (is_vex_row row) (vex_for row i) (vex_of_vex row i) (vex_of_legacy row i)
    (long_or (is_64 bits) (number_asked_of number_in_vvvv row i) (λ short. asked-small bits (number_asked_of number_in_vvvv row i) short n.vvvv)) refl
