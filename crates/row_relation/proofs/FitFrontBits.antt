-- The bits and sizes that a plain front says are those that the instruction asks for.
use Rattle.std.proofs.Common.{◌≡◌, inl, inr, ℕ, ◌+◌, ◌*◌, ◌/◌, ◌%◌, ◌<◌, ◌≤◌, Bool, true, false, ◌&&◌, ◌||◌, not, nat_le, Option, Some, None, refl, ap, sym, subst, arith, if◌then◌else◌}
use Rattle.instruction_parts.proofs.Tests.{or_right}
use Rattle.std.proofs.lemmas.Bool.{lt-leb, and_parts, cases_Bool, not-true}
use Rattle.x86_values.specs.declared.Bits.{Bits}
use Rattle.x86_values.specs.declared.Bits.TheVariants.{B16, B32, B64}
use Rattle.x86_values.specs.declared.Instr.{Instr}
use Rattle.instruction_parts.specs.declared.row_types.Row.{Row}
use Rattle.instruction_parts.specs.Counting.{is_64, rex_bit}
use Rattle.instruction_parts.specs.Sizes.{is_vex_row, operand_size, address_size, bit_r, bit_x, bit_b, bit_w, state_size, state_address_size}
use Rattle.instruction_parts.specs.Bytes.{bit}
use Rattle.row_fit.specs.Fits.{size_fits, vvvv_number}
use Rattle.x86_values.specs.Comparing.{same_bits}
use Rattle.plain_spelling.specs.PlainFront.{number_in_reg, number_in_rm, number_in_index, number_in_vvvv, number_asked_of, asks_r, asks_x, asks_b, asks_low_byte, asks_rex_w, asks_66, asks_67, asked_rex, plain_front_of}
use Rattle.plain_spelling.specs.Addresses.{register_count, has_address_size}
use Rattle.plain_spelling.specs.PlainTail.{plain_size}
use Rattle.plain_spelling.specs.Writable.{plain_w, has_plain_size}
use Rattle.plain_spelling.proofs.FrontRange.{vex_of_vex, vex_of_legacy}
use Rattle.row_relation.specs.Given.{NumbersSuit}
use Rattle.row_relation.proofs.FitFrontCounts.{IsRexIf, bit-small}

-- ---- the REX

abbrev rex_byte : Bool → Bool → Bool → Bool → ℕ
rex_byte w r x b = 0x40 + (bit w * 8 + (bit r * 4 + (bit x * 2 + bit b)))

abbrev rex_if : Bool → Bool → Bool → Bool → Bool → Option ℕ
rex_if t w r x b = if t then Some (rex_byte w r x b) else None

-- the REX of these bits, where one of them or a low byte needs one
abbrev rex_for : Bool → Bool → Bool → Bool → Bool → Option ℕ
rex_for w r x b low = rex_if (w || (r || (x || (b || low)))) w r x b

rex_byte-is : (w r x b : Bool) → rex_byte w r x b / 16 ≡ 4
rex_byte-is w r x b =
    let hw = bit-small w in let hr = bit-small r in let hx = bit-small x in let hb = bit-small b in omega arith

-- the bits of a REX that may be absent
record Rex (o : Option ℕ) (wide reg index base : Bool) : Type 0 where
  w : rex_bit 3 o ≡ wide
  r : rex_bit 2 o ≡ reg
  x : rex_bit 1 o ≡ index
  b : rex_bit 0 o ≡ base

rex-bits : (w r x b low : Bool) → Rex (rex_for w r x b low) w r x b
rex-bits true true true true low = record { w = refl; r = refl; x = refl; b = refl }
rex-bits true true true false low = record { w = refl; r = refl; x = refl; b = refl }
rex-bits true true false true low = record { w = refl; r = refl; x = refl; b = refl }
rex-bits true true false false low = record { w = refl; r = refl; x = refl; b = refl }
rex-bits true false true true low = record { w = refl; r = refl; x = refl; b = refl }
rex-bits true false true false low = record { w = refl; r = refl; x = refl; b = refl }
rex-bits true false false true low = record { w = refl; r = refl; x = refl; b = refl }
rex-bits true false false false low = record { w = refl; r = refl; x = refl; b = refl }
rex-bits false true true true low = record { w = refl; r = refl; x = refl; b = refl }
rex-bits false true true false low = record { w = refl; r = refl; x = refl; b = refl }
rex-bits false true false true low = record { w = refl; r = refl; x = refl; b = refl }
rex-bits false true false false low = record { w = refl; r = refl; x = refl; b = refl }
rex-bits false false true true low = record { w = refl; r = refl; x = refl; b = refl }
rex-bits false false true false low = record { w = refl; r = refl; x = refl; b = refl }
rex-bits false false false true low = record { w = refl; r = refl; x = refl; b = refl }
rex-bits false false false false true = record { w = refl; r = refl; x = refl; b = refl }
rex-bits false false false false false = record { w = refl; r = refl; x = refl; b = refl }

rex-for : (row : Row) (i : Instr) → is_vex_row row ≡ false → asked_rex row i ≡ rex_for (asks_rex_w row) (asks_r row i) (asks_x row i) (asks_b row i) (asks_low_byte i.ops)
unfolding asked_rex
rex-for row i h = rw h refl

-- a VEX row asks for no REX
pub rex_of_vex : (row : Row) (i : Instr) → is_vex_row row ≡ true → asked_rex row i ≡ None
unfolding asked_rex
rex_of_vex row i h = rw h refl

rex_of_legacy : (row : Row) (i : Instr) → is_vex_row row ≡ false → Rex (asked_rex row i) (asks_rex_w row) (asks_r row i) (asks_x row i) (asks_b row i)
rex_of_legacy row i h =
    subst (λ (o : Option ℕ). Rex o (asks_rex_w row) (asks_r row i) (asks_x row i) (asks_b row i)) (sym (rex-for row i h))
    (rex-bits (asks_rex_w row) (asks_r row i) (asks_x row i) (asks_b row i) (asks_low_byte i.ops))

-- ---- outside 64-bit mode nothing asks for an eight

count-small : (bits : Bits) → is_64 bits ≡ false → register_count bits ≡ 8
unfolding register_count
count-small B16 h = refl
count-small B32 h = refl
count-small B64 h = cc

-- a mode has at most 16 registers of a class
pub count-most : (bits : Bits) → register_count bits ≤ 16
unfolding register_count
count-most B16 = omega arith
count-most B32 = omega arith
count-most B64 = omega arith

-- outside 64-bit mode a register number is below 8
pub asked-small : (bits : Bits) (n : ℕ) → is_64 bits ≡ false → n < register_count bits → n < 8
asked-small bits n h k = (let e = count-small bits h in omega arith)

-- so R is not asked for
pub no_r : (bits : Bits) (row : Row) (i : Instr) → is_64 bits ≡ false → NumbersSuit bits row i → asks_r row i ≡ false
unfolding asks_r
no_r bits row i h n = lt-leb 8 (number_asked_of number_in_reg row i) (asked-small bits (number_asked_of number_in_reg row i) h n.reg)

-- nor is X
pub no_x : (bits : Bits) (row : Row) (i : Instr) → is_64 bits ≡ false → NumbersSuit bits row i → asks_x row i ≡ false
unfolding asks_x
no_x bits row i h n = lt-leb 8 (number_asked_of number_in_index row i) (asked-small bits (number_asked_of number_in_index row i) h n.index)

-- nor is B
pub no_b : (bits : Bits) (row : Row) (i : Instr) → is_64 bits ≡ false → NumbersSuit bits row i → asks_b row i ≡ false
unfolding asks_b
no_b bits row i h n = lt-leb 8 (number_asked_of number_in_rm row i) (asked-small bits (number_asked_of number_in_rm row i) h n.rm)

no_rex_w : (bits : Bits) (row : Row) → is_64 bits ≡ false → is_vex_row row ≡ false → has_plain_size bits row ≡ true → asks_rex_w row ≡ false
unfolding has_plain_size
no_rex_w bits row h legacy size =
    let both = (and_parts (size_fits bits row.size (plain_size bits row) (plain_w bits row)) (is_64 bits || (is_vex_row row || not (asks_rex_w row))) size).1 in
    not-true (asks_rex_w row) (or_right (is_vex_row row) (not (asks_rex_w row)) legacy (or_right (is_64 bits) (is_vex_row row || not (asks_rex_w row)) h both))

-- ---- a REX is one of the mode

rex_if-is : (bits : Bits) (t w r x b : Bool) → is_64 bits ≡ true → IsRexIf bits (rex_if t w r x b)
rex_if-is bits true w r x b h = (h, rex_byte-is w r x b)
rex_if-is bits false w r x b h = tt

no_rex : (w r x b low : Bool) → w ≡ false → r ≡ false → x ≡ false → b ≡ false → low ≡ false → rex_for w r x b low ≡ None
no_rex w r x b low hw hr hx hb hl = rw hw (rw hr (rw hx (rw hb (rw hl refl))))

-- the REX that is asked for is one that the mode has
pub rex-is : (bits : Bits) (row : Row) (i : Instr) → has_plain_size bits row ≡ true → NumbersSuit bits row i → IsRexIf bits (asked_rex row i)
rex-is bits row i size n = elim (cases_Bool (is_vex_row row)) [
  | inl vex ↦ subst (λ (o : Option ℕ). IsRexIf bits o) (sym (rex_of_vex row i vex)) tt
  | inr legacy ↦
      subst (λ (o : Option ℕ). IsRexIf bits o) (sym (rex-for row i legacy))
      (elim (cases_Bool (is_64 bits)) [
        | inl long ↦ rex_if-is bits (asks_rex_w row || (asks_r row i || (asks_x row i || (asks_b row i || asks_low_byte i.ops)))) (asks_rex_w row) (asks_r row i) (asks_x row i) (asks_b row i) long
        | inr short ↦
            subst (λ (o : Option ℕ). IsRexIf bits o)
            (sym (no_rex (asks_rex_w row) (asks_r row i) (asks_x row i) (asks_b row i) (asks_low_byte i.ops)
            (no_rex_w bits row short legacy size) (no_r bits row i short n) (no_x bits row i short n) (no_b bits row i short n) (n.low short))) tt
      ])
]

-- ---- the bits and sizes of the front

-- what a plain front says
pub record FrontBits (bits : Bits) (row : Row) (i : Instr) : Type 0 where
  pub r : bit_r (plain_front_of bits row i) ≡ asks_r row i
  pub x : bit_x (plain_front_of bits row i) ≡ asks_x row i
  pub b : bit_b bits (plain_front_of bits row i) ≡ asks_b row i
  pub w : bit_w bits (plain_front_of bits row i) ≡ plain_w bits row
  pub vvvv : is_vex_row row ≡ true → vvvv_number bits (plain_front_of bits row i) ≡ number_asked_of number_in_vvvv row i
  pub size : state_size bits row (plain_front_of bits row i) ≡ plain_size bits row
  pub address : (a : Bits) → i.asize ≡ Some a → has_address_size bits a ≡ true → state_address_size bits (plain_front_of bits row i) ≡ a

front_r : (bits : Bits) (row : Row) (i : Instr) → bit_r (plain_front_of bits row i) ≡ asks_r row i
unfolding bit_r plain_front_of
front_r bits row i = elim (cases_Bool (is_vex_row row)) [
  | inl vex ↦ rw (vex_of_vex row i vex) refl
  | inr legacy ↦ rw (vex_of_legacy row i legacy) (rex_of_legacy row i legacy).r
]

front_x : (bits : Bits) (row : Row) (i : Instr) → bit_x (plain_front_of bits row i) ≡ asks_x row i
unfolding bit_x plain_front_of
front_x bits row i = elim (cases_Bool (is_vex_row row)) [
  | inl vex ↦ rw (vex_of_vex row i vex) refl
  | inr legacy ↦ rw (vex_of_legacy row i legacy) (rex_of_legacy row i legacy).x
]

and_same : (long b c : Bool) → b ≡ c → (long ≡ false → c ≡ false) → (long && b) ≡ c
and_same true b c e h = e
and_same false b c e h = sym (h refl)

front_b : (bits : Bits) (row : Row) (i : Instr) → NumbersSuit bits row i → bit_b bits (plain_front_of bits row i) ≡ asks_b row i
unfolding bit_b plain_front_of
front_b bits row i n = elim (cases_Bool (is_vex_row row)) [
  | inl vex ↦ rw (vex_of_vex row i vex) (and_same (is_64 bits) (asks_b row i) (asks_b row i) refl (λ short. no_b bits row i short n))
  | inr legacy ↦ rw (vex_of_legacy row i legacy) (and_same (is_64 bits) (rex_bit 0 (asked_rex row i)) (asks_b row i) (rex_of_legacy row i legacy).b (λ short. no_b bits row i short n))
]

front_w : (bits : Bits) (row : Row) (i : Instr) → bit_w bits (plain_front_of bits row i) ≡ plain_w bits row
unfolding bit_w plain_front_of plain_w
front_w bits row i = elim (cases_Bool (is_vex_row row)) [
  | inl vex ↦ rw (vex_of_vex row i vex) (rw vex refl)
  | inr legacy ↦ rw (vex_of_legacy row i legacy) (rw legacy (ap (λ b. is_64 bits && b) (rex_of_legacy row i legacy).w))
]

-- the row's own W in a REX
front_rex_w : (row : Row) (i : Instr) → rex_bit 3 (asked_rex row i) ≡ (if is_vex_row row then false else asks_rex_w row)
front_rex_w row i = elim (cases_Bool (is_vex_row row)) [
  | inl vex ↦ rw (rex_of_vex row i vex) (rw vex refl)
  | inr legacy ↦ rw legacy (rex_of_legacy row i legacy).w
]

front_size : (bits : Bits) (row : Row) (i : Instr) → state_size bits row (plain_front_of bits row i) ≡ plain_size bits row
unfolding state_size plain_front_of plain_size
front_size bits row i = ap (λ w. operand_size bits row w (asks_66 bits row)) (front_rex_w row i)

vvvv_back : (long : Bool) (n : ℕ) → (long ≡ false → n < 8) → (if long then n else n % 8) ≡ n
vvvv_back true n h = refl
vvvv_back false n h = (let k = h refl in omega arith)

front_vvvv : (bits : Bits) (row : Row) (i : Instr) → NumbersSuit bits row i → is_vex_row row ≡ true → vvvv_number bits (plain_front_of bits row i) ≡ number_asked_of number_in_vvvv row i
unfolding vvvv_number plain_front_of
front_vvvv bits row i n vex =
    rw (vex_of_vex row i vex) (vvvv_back (is_64 bits) (number_asked_of number_in_vvvv row i) (λ short. asked-small bits (number_asked_of number_in_vvvv row i) short n.vvvv))

asize_back : (bits a : Bits) → has_address_size bits a ≡ true → address_size bits (not (same_bits a bits)) ≡ a
unfolding address_size has_address_size
asize_back B16 B64 h = cc
asize_back B32 B64 h = cc
asize_back B64 B16 h = cc
asize_back _ _ h = refl

front_address : (bits : Bits) (row : Row) (i : Instr) (a : Bits) → i.asize ≡ Some a → has_address_size bits a ≡ true → state_address_size bits (plain_front_of bits row i) ≡ a
unfolding plain_front_of asks_67
front_address bits row i a e h = rw e (asize_back bits a h)

-- the bits of the plain front are those that the numbers ask for
pub front_bits : (bits : Bits) (row : Row) (i : Instr) → NumbersSuit bits row i → FrontBits bits row i
front_bits bits row i n = record {
  r = front_r bits row i;
  x = front_x bits row i;
  b = front_b bits row i n;
  w = front_w bits row i;
  vvvv = front_vvvv bits row i n;
  size = front_size bits row i;
  address = front_address bits row i;
}
