-- Bytes whose front is known are prefixes, a VEX or escape bytes, the opcode byte, and a rest.
use Rattle.std.proofs.Common.{◌≡◌, ◌⊎◌, inl, inr, ℕ, zero, suc, ◌+◌, ◌-◌, ◌*◌, ◌/◌, ◌%◌, ◌<◌, Bool, true, false, ◌&&◌, ◌||◌, not, ◌==◌, nat_lt, List, [], ◌∷◌, ◌++◌, length, drop, Option, Some, None, refl, ap, sym, ◌∙◌, subst, arith, if◌then◌else◌}
use Rattle.instruction_parts.proofs.Tests.{or_right}
use Rattle.std.specs.List.{list_all}
use Rattle.x86_values.specs.declared.Bits.{Bits}
use Rattle.x86_values.specs.declared.Bits.TheVariants.{B16, B32, B64}
use Rattle.instruction_parts.specs.declared.row_types.Map.{Map}
use Rattle.instruction_parts.specs.declared.row_types.Map.TheVariants.{One, M0f, M0f38, M0f3a}
use Rattle.instruction_parts.specs.declared.spelling.Vex.{Vex}
use Rattle.instruction_parts.specs.declared.spelling.PrefixState.{PrefixState}
use Rattle.instruction_parts.specs.Counting.{is_64, is_prefix, bit_of}
use Rattle.instruction_parts.specs.Bytes.{map_number, bit, inverted_bit, vex_last_byte, vex_map_byte, vex_bytes, lead_bytes, state_from}
use Rattle.instruction_parts.specs.Front.{Front, Forbidden, Known, prefix_run, forbids_vex, top_two_set, map_numbered, short_vex, long_vex, opcode_front, short_vex_front, third_byte_front, long_vex_front, vex_front, vex_or_opcode_front, escape_front, is_vex_lead, lead_front, long_front}
use Rattle.row_fit.specs.Fits.{are_bytes, is_map_one, is_opcode, is_vex_of_mode, vex_in_range}
use Rattle.row_fit.specs.FrontParts.{Parted, LeadIsProper, OpcodeAlone, VexAhead, is_far_load}
use borrow.Author.Tests.{ltb-true}
use Rattle.std.proofs.lemmas.Bool.{lt-ltb, and_parts, cases_Bool, eqb-true}
use Rattle.std.proofs.Math.Seq.{drop-append-add}
use Rattle.row_fit.proofs.FrontLaws.{c4_is_no_prefix, c5_is_no_prefix}

-- what stands behind the prefixes of a known front
pub record Led (bits : Bits) (ps bytes : List ℕ) (f : PrefixState) : Type 0 where
  pub rest : List ℕ
  pub bytes_are : bytes ≡ lead_bytes f.map f.vex ++ (f.opcode ∷ rest)
  pub state_is : f ≡ state_from bits ps (length ps + length (lead_bytes f.map f.vex)) f.vex f.map f.opcode
  pub proper : LeadIsProper bits ps f.vex f.map f.opcode rest

-- the same of bytes that begin with the opcode byte, where there are some
abbrev ProperIfAny : Bits → List ℕ → Option Vex → Map → List ℕ → Type 0
ProperIfAny bits ps vex map [] = Unit {0}
ProperIfAny bits ps vex map (o ∷ rest) = LeadIsProper bits ps vex map o rest

-- a known front has one state
pub same_state : (a b : PrefixState) → Known a ≡ Known b → a ≡ b
same_state a b h = cc

led_from : (bits : Bits) (ps bytes : List ℕ) (vex : Option Vex) (map : Map) (o : ℕ) (rest : List ℕ) (f : PrefixState) → bytes ≡ lead_bytes map vex ++ (o ∷ rest) → LeadIsProper bits ps vex map o rest → state_from bits ps (length ps + length (lead_bytes map vex)) vex map o ≡ f → Led bits ps bytes f
unfolding state_from
led_from bits ps bytes vex map o rest f h p e =
    let start : Led bits ps bytes (state_from bits ps (length ps + length (lead_bytes map vex)) vex map o) =
    record { rest = rest; bytes_are = h; state_is = refl; proper = p } in
    subst (λ (g : PrefixState). Led bits ps bytes g) e start

-- one of two, by a test
pub if_known : (test : Bool) (x y : Front) (f : PrefixState) → (if test then x else y) ≡ Known f → ((test ≡ true) × (x ≡ Known f)) ⊎ ((test ≡ false) × (y ≡ Known f))
if_known true x y f h = inl (refl, h)
if_known false x y f h = inr (refl, h)

-- the second, where the first is not known
pub else_known : (test : Bool) (y : Front) (f : PrefixState) → (if test then Forbidden else y) ≡ Known f → (test ≡ false) × (y ≡ Known f)
else_known true y f h = cc
else_known false y f h = (refl, h)

opcode_front-led : (bits : Bits) (ps : List ℕ) (lead : ℕ) (vex : Option Vex) (map : Map) (bytes whole : List ℕ) (f : PrefixState) → opcode_front bits ps lead vex map bytes ≡ Known f → lead ≡ length (lead_bytes map vex) → whole ≡ lead_bytes map vex ++ bytes → ProperIfAny bits ps vex map bytes → Led bits ps whole f
unfolding opcode_front
opcode_front-led bits ps lead vex map [] whole f h l w p = cc
opcode_front-led bits ps lead vex map (o ∷ rest) whole f h l w p =
    let e = same_state (state_from bits ps (length ps + lead) vex map o) f h in
    led_from bits ps whole vex map o rest f w p (ap (λ n. state_from bits ps (length ps + n) vex map o) (sym l) ∙ e)

-- ---- an opcode byte without a VEX

alone : (bits : Bits) (map : Map) (o : ℕ) (rest : List ℕ) → is_opcode bits map o ≡ true → is_far_load map o ≡ false → OpcodeAlone bits map o rest
alone bits map o rest h n = record {
  is_one = h;
  mode_of_far_load = λ e. (let f : false ≡ true = sym n ∙ e in cc);
  memory_of_far_load = λ e. (let f : false ≡ true = sym n ∙ e in cc);
}

proper_0f38 : (bits : Bits) (ps bytes : List ℕ) → ProperIfAny bits ps None M0f38 bytes
unfolding is_opcode
proper_0f38 bits ps [] = tt
proper_0f38 bits ps (o ∷ rest) = alone bits M0f38 o rest refl refl

proper_0f3a : (bits : Bits) (ps bytes : List ℕ) → ProperIfAny bits ps None M0f3a bytes
unfolding is_opcode
proper_0f3a bits ps [] = tt
proper_0f3a bits ps (o ∷ rest) = alone bits M0f3a o rest refl refl

proper_0f : (bits : Bits) (b : ℕ) (rest : List ℕ) → (b == 0x0F) ≡ false → (b == 0x38) ≡ false → (b == 0x3A) ≡ false → OpcodeAlone bits M0f b rest
unfolding is_opcode
proper_0f bits b rest h1 h2 h3 = alone bits M0f b rest (rw h1 (rw h2 (rw h3 refl))) refl

proper_one : (bits : Bits) (b : ℕ) (rest : List ℕ) → is_prefix bits b ≡ false → (b == 0x0F) ≡ false → (is_64 bits && b == 0x62) ≡ false → is_vex_lead b ≡ false → OpcodeAlone bits One b rest
unfolding is_opcode
proper_one bits b rest h1 h2 h3 h4 = alone bits One b rest (rw h1 (rw h2 (rw h3 refl))) h4

-- C4 or C5 outside 64-bit mode
far_load_is_opcode : (bits : Bits) (b : ℕ) → is_64 bits ≡ false → is_vex_lead b ≡ true → is_opcode bits One b ≡ true
unfolding is_opcode
far_load_is_opcode bits b mode lead = elim (cases_Bool (b == 0xC4)) [
  | inl yes1 ↦ subst (λ (x : ℕ). is_opcode bits One x ≡ true) (sym (eqb-true b 0xC4 yes1)) (rw (c4_is_no_prefix bits) (rw mode refl))
  | inr no1 ↦ subst (λ (x : ℕ). is_opcode bits One x ≡ true) (sym (eqb-true b 0xC5 (or_right (b == 0xC4) (b == 0xC5) no1 lead))) (rw (c5_is_no_prefix bits) (rw mode refl))
]

proper_far_load : (bits : Bits) (b m : ℕ) (rest : List ℕ) → is_64 bits ≡ false → is_vex_lead b ≡ true → top_two_set m ≡ false → OpcodeAlone bits One b (m ∷ rest)
proper_far_load bits b m rest mode lead top = record {
  is_one = far_load_is_opcode bits b mode lead;
  mode_of_far_load = λ e. mode;
  memory_of_far_load = λ e. ap not top;
}

escape_front-led : (bits : Bits) (ps bytes : List ℕ) (f : PrefixState) → escape_front bits ps bytes ≡ Known f → Led bits ps (0x0F ∷ bytes) f
unfolding escape_front lead_bytes
escape_front-led bits ps [] f h = cc
escape_front-led bits ps (b ∷ bytes) f h = elim (if_known (b == 0x38) _ _ f h) [
  | inl yes1 ↦ opcode_front-led bits ps 2 None M0f38 bytes (0x0F ∷ (b ∷ bytes)) f yes1.1 refl (ap (λ x. 0x0F ∷ (x ∷ bytes)) (eqb-true b 0x38 yes1.0)) (proper_0f38 bits ps bytes)
  | inr no1 ↦ elim (if_known (b == 0x3A) _ _ f no1.1) [
    | inl yes2 ↦ opcode_front-led bits ps 2 None M0f3a bytes (0x0F ∷ (b ∷ bytes)) f yes2.1 refl (ap (λ x. 0x0F ∷ (x ∷ bytes)) (eqb-true b 0x3A yes2.0)) (proper_0f3a bits ps bytes)
    | inr no2 ↦ (let no3 = else_known (b == 0x0F) _ f no2.1 in opcode_front-led bits ps 1 None M0f (b ∷ bytes) (0x0F ∷ (b ∷ bytes)) f no3.1 refl refl (proper_0f bits b bytes no3.0 no1.0 no2.0))
  ]
]

-- ---- a VEX that was read gives back its bytes

or_true : (b : Bool) → (b || true) ≡ true
or_true true = refl
or_true false = refl

bit_of_small : (m : ℕ) → m < 2 → bit (m == 1) ≡ m
bit_of_small zero h = refl
bit_of_small (suc zero) h = refl
bit_of_small (suc (suc m)) h = absurd (omega arith)

inverted_bit-not : (b : Bool) → inverted_bit (not b) ≡ bit b
inverted_bit-not true = refl
inverted_bit-not false = refl

-- a byte of its parts
last_parts : (c t l : ℕ) → c < 256 → t ≡ c / 128 % 2 → l ≡ c / 4 % 2 → t * 128 + (15 - (15 - c / 8 % 16)) * 8 + l * 4 + c % 4 ≡ c
last_parts c t l h ht hl = omega arith

map_parts : (b r x y m : ℕ) → b < 256 → r ≡ b / 128 % 2 → x ≡ b / 64 % 2 → y ≡ b / 32 % 2 → m ≡ b % 32 → r * 128 + x * 64 + y * 32 + m ≡ b
map_parts b r x y m h hr hx hy hm = omega arith

below_2 : (n : ℕ) → n % 2 < 2
below_2 n = omega arith

short_vex-bytes : (c : ℕ) → c < 256 → vex_bytes (short_vex c) ≡ 0xC5 ∷ c ∷ []
unfolding vex_bytes short_vex vex_last_byte
short_vex-bytes c h =
    let t : inverted_bit (not (bit_of 7 c)) ≡ c / 128 % 2 = inverted_bit-not (bit_of 7 c) ∙ bit_of_small (c / 128 % 2) (below_2 (c / 128)) in
    let l : bit (bit_of 2 c) ≡ c / 4 % 2 = bit_of_small (c / 4 % 2) (below_2 (c / 4)) in
    ap (λ x. 0xC5 ∷ x ∷ []) (last_parts c _ _ h t l)

if_some : (test : Bool) (x y : Option Map) (map : Map) → (if test then x else y) ≡ Some map → ((test ≡ true) × (x ≡ Some map)) ⊎ ((test ≡ false) × (y ≡ Some map))
if_some true x y map h = inl (refl, h)
if_some false x y map h = inr (refl, h)

some_map : (a b : Map) → Some a ≡ Some b → a ≡ b
some_map a b h = cc

map_number-back : (n : ℕ) (map : Map) → map_numbered n ≡ Some map → map_number map ≡ n
unfolding map_numbered
map_number-back n map h = elim (if_some (n == 1) _ _ map h) [
  | inl yes1 ↦ ap map_number (sym (some_map M0f map yes1.1)) ∙ sym (eqb-true n 1 yes1.0)
  | inr no1 ↦ elim (if_some (n == 2) _ _ map no1.1) [
    | inl yes2 ↦ ap map_number (sym (some_map M0f38 map yes2.1)) ∙ sym (eqb-true n 2 yes2.0)
    | inr no2 ↦ elim (if_some (n == 3) _ _ map no2.1) [
      | inl yes3 ↦ ap map_number (sym (some_map M0f3a map yes3.1)) ∙ sym (eqb-true n 3 yes3.0)
      | inr no3 ↦ (let e : None ≡ Some map = no3.1 in cc)
    ]
  ]
]

long_vex-bytes : (map : Map) (b c : ℕ) → b < 256 → c < 256 → map_number map ≡ b % 32 → vex_bytes (long_vex map b c) ≡ 0xC4 ∷ b ∷ c ∷ []
unfolding vex_bytes long_vex vex_last_byte vex_map_byte
long_vex-bytes map b c hb hc hm =
    let t : bit (bit_of 7 c) ≡ c / 128 % 2 = bit_of_small (c / 128 % 2) (below_2 (c / 128)) in
    let l : bit (bit_of 2 c) ≡ c / 4 % 2 = bit_of_small (c / 4 % 2) (below_2 (c / 4)) in
    let r : inverted_bit (not (bit_of 7 b)) ≡ b / 128 % 2 = inverted_bit-not (bit_of 7 b) ∙ bit_of_small (b / 128 % 2) (below_2 (b / 128)) in
    let x : inverted_bit (not (bit_of 6 b)) ≡ b / 64 % 2 = inverted_bit-not (bit_of 6 b) ∙ bit_of_small (b / 64 % 2) (below_2 (b / 64)) in
    let y : inverted_bit (not (bit_of 5 b)) ≡ b / 32 % 2 = inverted_bit-not (bit_of 5 b) ∙ bit_of_small (b / 32 % 2) (below_2 (b / 32)) in
    ap (λ n. 0xC4 ∷ n ∷ vex_last_byte (bit (bit_of 7 c)) (long_vex map b c) ∷ []) (map_parts b _ _ _ _ hb r x y hm)
    ∙ ap (λ n. 0xC4 ∷ b ∷ n ∷ []) (last_parts c _ _ hc t l)

byte_head : (b : ℕ) (bytes : List ℕ) → are_bytes (b ∷ bytes) ≡ true → b < 256
byte_head b bytes h = ltb-true b 256 (and_parts (nat_lt b 256) (are_bytes bytes) h).0

byte_tail : (b : ℕ) (bytes : List ℕ) → are_bytes (b ∷ bytes) ≡ true → are_bytes bytes ≡ true
byte_tail b bytes h = (and_parts (nat_lt b 256) (are_bytes bytes) h).1

-- ---- the ranges of a VEX that was read

-- outside 64-bit mode the first byte has its top two bits set
abbrev TopOf : Bits → ℕ → Type 0
TopOf bits b = (is_64 bits ≡ true) ⊎ (top_two_set b ≡ true)

abbrev TopIfAny : Bits → List ℕ → Type 0
TopIfAny bits [] = Unit {0}
TopIfAny bits (b ∷ bytes) = TopOf bits b

vvvv_below : (n : ℕ) → 15 - n < 16
vvvv_below n = omega arith

pp_below : (n : ℕ) → n % 4 < 4
pp_below n = omega arith

short_vex-in_range : (b : ℕ) → vex_in_range (Some (short_vex b)) ≡ true
unfolding vex_in_range short_vex
short_vex-in_range b = rw (lt-ltb (15 - b / 8 % 16) 16 (vvvv_below (b / 8 % 16))) (rw (lt-ltb (b % 4) 4 (pp_below b)) refl)

long_vex-in_range : (map : Map) (b c : ℕ) → is_map_one map ≡ false → vex_in_range (Some (long_vex map b c)) ≡ true
unfolding vex_in_range long_vex
long_vex-in_range map b c m = rw (lt-ltb (15 - c / 8 % 16) 16 (vvvv_below (c / 8 % 16))) (rw (lt-ltb (c % 4) 4 (pp_below c)) (rw m refl))

top_bit : (b : ℕ) → b < 256 → b / 64 ≡ 3 → b / 128 % 2 ≡ 1
top_bit b h e = omega arith

next_bit : (b : ℕ) → b < 256 → b / 64 ≡ 3 → b / 64 % 2 ≡ 1
next_bit b h e = omega arith

low_vvvv : (b : ℕ) → b < 256 → b / 64 ≡ 3 → 15 - b / 8 % 16 < 8
low_vvvv b h e = omega arith

short_vex-of_mode : (bits : Bits) (b : ℕ) → b < 256 → TopOf bits b → is_vex_of_mode bits (short_vex b) ≡ true
unfolding is_vex_of_mode short_vex
short_vex-of_mode bits b h (inl mode) = rw mode refl
short_vex-of_mode bits b h (inr top) =
    let e = eqb-true (b / 64) 3 top in
    rw (top_bit b h e) (rw (lt-ltb (15 - b / 8 % 16) 8 (low_vvvv b h e)) (or_true (is_64 bits)))

long_vex-of_mode : (bits : Bits) (map : Map) (b c : ℕ) → b < 256 → TopOf bits b → is_vex_of_mode bits (long_vex map b c) ≡ true
unfolding is_vex_of_mode long_vex
long_vex-of_mode bits map b c h (inl mode) = rw mode refl
long_vex-of_mode bits map b c h (inr top) =
    let e = eqb-true (b / 64) 3 top in
    rw (top_bit b h e) (rw (next_bit b h e) (or_true (is_64 bits)))

short_vex-ahead : (bits : Bits) (ps : List ℕ) (b : ℕ) → b < 256 → forbids_vex bits ps ≡ false → TopOf bits b → VexAhead bits ps (short_vex b) M0f
unfolding short_vex
short_vex-ahead bits ps b h allowed top = record {
  in_range = short_vex-in_range b;
  is_allowed = allowed;
  is_of_mode = short_vex-of_mode bits b h top;
  map_is = refl;
}

long_vex-ahead : (bits : Bits) (ps : List ℕ) (map : Map) (b c : ℕ) → b < 256 → is_map_one map ≡ false → forbids_vex bits ps ≡ false → TopOf bits b → VexAhead bits ps (long_vex map b c) map
unfolding long_vex
long_vex-ahead bits ps map b c h m allowed top = record {
  in_range = long_vex-in_range map b c m;
  is_allowed = allowed;
  is_of_mode = long_vex-of_mode bits map b c h top;
  map_is = refl;
}

proper_short : (bits : Bits) (ps : List ℕ) (b : ℕ) (bytes : List ℕ) → VexAhead bits ps (short_vex b) M0f → ProperIfAny bits ps (Some (short_vex b)) M0f bytes
proper_short bits ps b [] v = tt
proper_short bits ps b (o ∷ rest) v = v

proper_long : (bits : Bits) (ps : List ℕ) (map : Map) (b c : ℕ) (bytes : List ℕ) → VexAhead bits ps (long_vex map b c) map → ProperIfAny bits ps (Some (long_vex map b c)) map bytes
proper_long bits ps map b c [] v = tt
proper_long bits ps map b c (o ∷ rest) v = v

-- a VEX never names the one-byte map
numbered_is_not_one : (n : ℕ) (map : Map) → map_numbered n ≡ Some map → is_map_one map ≡ false
unfolding map_numbered
numbered_is_not_one n map h = elim (if_some (n == 1) _ _ map h) [
  | inl yes1 ↦ ap is_map_one (sym (some_map M0f map yes1.1))
  | inr no1 ↦ elim (if_some (n == 2) _ _ map no1.1) [
    | inl yes2 ↦ ap is_map_one (sym (some_map M0f38 map yes2.1))
    | inr no2 ↦ elim (if_some (n == 3) _ _ map no2.1) [
      | inl yes3 ↦ ap is_map_one (sym (some_map M0f3a map yes3.1))
      | inr no3 ↦ (let e : None ≡ Some map = no3.1 in cc)
    ]
  ]
]

-- ---- each lead

short_vex_front-led : (bits : Bits) (ps bytes : List ℕ) (f : PrefixState) → are_bytes bytes ≡ true → forbids_vex bits ps ≡ false → TopIfAny bits bytes → short_vex_front bits ps bytes ≡ Known f → Led bits ps (0xC5 ∷ bytes) f
unfolding short_vex_front lead_bytes
short_vex_front-led bits ps [] f r allowed top h = cc
short_vex_front-led bits ps (b ∷ bytes) f r allowed top h =
    let v = short_vex-bytes b (byte_head b bytes r) in
    opcode_front-led bits ps 2 (Some (short_vex b)) M0f bytes (0xC5 ∷ (b ∷ bytes)) f h (ap length (sym v)) (ap (λ xs. xs ++ bytes) (sym v))
    (proper_short bits ps b bytes (short_vex-ahead bits ps b (byte_head b bytes r) allowed top))

third_byte_front-led : (bits : Bits) (ps : List ℕ) (b : ℕ) (map : Option Map) (bytes : List ℕ) (f : PrefixState) → b < 256 → map_numbered (b % 32) ≡ map → are_bytes bytes ≡ true → forbids_vex bits ps ≡ false → TopOf bits b → third_byte_front bits ps b map bytes ≡ Known f → Led bits ps (0xC4 ∷ (b ∷ bytes)) f
unfolding third_byte_front lead_bytes
third_byte_front-led bits ps b None bytes f hb hm r allowed top h = cc
third_byte_front-led bits ps b (Some map) [] f hb hm r allowed top h = cc
third_byte_front-led bits ps b (Some map) (c ∷ bytes) f hb hm r allowed top h =
    let v = long_vex-bytes map b c hb (byte_head c bytes r) (map_number-back (b % 32) map hm) in
    opcode_front-led bits ps 3 (Some (long_vex map b c)) map bytes (0xC4 ∷ (b ∷ (c ∷ bytes))) f h (ap length (sym v)) (ap (λ xs. xs ++ bytes) (sym v))
    (proper_long bits ps map b c bytes (long_vex-ahead bits ps map b c hb (numbered_is_not_one (b % 32) map hm) allowed top))

long_vex_front-led : (bits : Bits) (ps bytes : List ℕ) (f : PrefixState) → are_bytes bytes ≡ true → forbids_vex bits ps ≡ false → TopIfAny bits bytes → long_vex_front bits ps bytes ≡ Known f → Led bits ps (0xC4 ∷ bytes) f
unfolding long_vex_front
long_vex_front-led bits ps [] f r allowed top h = cc
long_vex_front-led bits ps (b ∷ bytes) f r allowed top h =
    third_byte_front-led bits ps b (map_numbered (b % 32)) bytes f (byte_head b bytes r) refl (byte_tail b bytes r) allowed top h

vex_front-led : (bits : Bits) (ps : List ℕ) (lead : ℕ) (bytes : List ℕ) (f : PrefixState) → is_vex_lead lead ≡ true → are_bytes bytes ≡ true → TopIfAny bits bytes → vex_front bits ps lead bytes ≡ Known f → Led bits ps (lead ∷ bytes) f
unfolding vex_front
vex_front-led bits ps lead bytes f l r top h =
    let passed = else_known (forbids_vex bits ps) _ f h in
    elim (if_known (lead == 0xC5) _ _ f passed.1) [
      | inl yes1 ↦ (let e = eqb-true lead 0xC5 yes1.0 in subst (λ (x : ℕ). Led bits ps (x ∷ bytes) f) (sym e) (short_vex_front-led bits ps bytes f r passed.0 top yes1.1))
      | inr no1 ↦
          let e = eqb-true lead 0xC4 (or_left (lead == 0xC4) (lead == 0xC5) no1.0 l) in
          subst (λ (x : ℕ). Led bits ps (x ∷ bytes) f) (sym e) (long_vex_front-led bits ps bytes f r passed.0 top no1.1)
    ]
  where
    or_left : (a b : Bool) → b ≡ false → (a || b) ≡ true → a ≡ true
    or_left true b e h = refl
    or_left false b e h = cc

one_led : (bits : Bits) (ps bytes : List ℕ) (f : PrefixState) → opcode_front bits ps 0 None One bytes ≡ Known f → ProperIfAny bits ps None One bytes → Led bits ps bytes f
unfolding lead_bytes
one_led bits ps bytes f h p = opcode_front-led bits ps 0 None One bytes bytes f h refl refl p

any_top : (bits : Bits) (bytes : List ℕ) → is_64 bits ≡ true → TopIfAny bits bytes
any_top bits [] h = tt
any_top bits (b ∷ bytes) h = inl h

-- C4 or C5 outside 64-bit mode, by the byte behind it
far_or_vex-led : (bits : Bits) (ps : List ℕ) (lead b : ℕ) (bytes : List ℕ) (f : PrefixState) → is_64 bits ≡ false → is_vex_lead lead ≡ true → are_bytes (b ∷ bytes) ≡ true → (if top_two_set b then vex_front bits ps lead (b ∷ bytes) else opcode_front bits ps 0 None One (lead ∷ (b ∷ bytes))) ≡ Known f → Led bits ps (lead ∷ (b ∷ bytes)) f
far_or_vex-led bits ps lead b bytes f mode l r h = elim (if_known (top_two_set b) _ _ f h) [
  | inl yes1 ↦ vex_front-led bits ps lead (b ∷ bytes) f l r (inr yes1.0) yes1.1
  | inr no1 ↦ one_led bits ps (lead ∷ (b ∷ bytes)) f no1.1 (proper_far_load bits lead b bytes mode l no1.0)
]

vex_or_opcode_front-led : (bits : Bits) (ps : List ℕ) (lead : ℕ) (bytes : List ℕ) (f : PrefixState) → is_vex_lead lead ≡ true → are_bytes bytes ≡ true → vex_or_opcode_front bits ps lead bytes ≡ Known f → Led bits ps (lead ∷ bytes) f
unfolding vex_or_opcode_front
vex_or_opcode_front-led B64 ps lead bytes f l r h = vex_front-led B64 ps lead bytes f l r (any_top B64 bytes refl) h
vex_or_opcode_front-led B16 ps lead [] f l r h = cc
vex_or_opcode_front-led B32 ps lead [] f l r h = cc
vex_or_opcode_front-led B16 ps lead (b ∷ bytes) f l r h = far_or_vex-led B16 ps lead b bytes f refl l r h
vex_or_opcode_front-led B32 ps lead (b ∷ bytes) f l r h = far_or_vex-led B32 ps lead b bytes f refl l r h

-- the first of the bytes is no prefix
abbrev StopsIfAny : Bits → List ℕ → Type 0
StopsIfAny bits [] = Unit {0}
StopsIfAny bits (b ∷ bytes) = is_prefix bits b ≡ false

lead_front-led : (bits : Bits) (ps bytes : List ℕ) (f : PrefixState) → are_bytes bytes ≡ true → StopsIfAny bits bytes → lead_front bits ps bytes ≡ Known f → Led bits ps bytes f
unfolding lead_front
lead_front-led bits ps [] f r stops h = cc
lead_front-led bits ps (b ∷ bytes) f r stops h = elim (if_known (is_vex_lead b) _ _ f h) [
  | inl yes1 ↦ vex_or_opcode_front-led bits ps b bytes f yes1.0 (byte_tail b bytes r) yes1.1
  | inr no1 ↦ elim (if_known (b == 0x0F) _ _ f no1.1) [
    | inl yes2 ↦ (let e = eqb-true b 0x0F yes2.0 in subst (λ (x : ℕ). Led bits ps (x ∷ bytes) f) (sym e) (escape_front-led bits ps bytes f yes2.1))
    | inr no2 ↦ (let no3 = else_known (is_64 bits && b == 0x62) _ f no2.1 in one_led bits ps (b ∷ bytes) f no3.1 (proper_one bits b bytes stops no2.0 no3.0 no1.0))
  ]
]

-- ---- the run of prefixes

run_all-step : (bits : Bits) (b : ℕ) (bytes : List ℕ) (test : Bool) → is_prefix bits b ≡ test → list_all (is_prefix bits) (prefix_run bits bytes) ≡ true → list_all (is_prefix bits) (prefix_run bits (b ∷ bytes)) ≡ true
unfolding prefix_run
run_all-step bits b bytes true h rest = rw h (rw h rest)
run_all-step bits b bytes false h rest = rw h

-- a run of prefixes has prefixes alone
pub run_all : (bits : Bits) (bytes : List ℕ) → list_all (is_prefix bits) (prefix_run bits bytes) ≡ true
unfolding prefix_run
run_all bits [] = refl
run_all bits (b ∷ bytes) = run_all-step bits b bytes (is_prefix bits b) refl (run_all bits bytes)

run_front-step : (bits : Bits) (b : ℕ) (bytes : List ℕ) (test : Bool) → is_prefix bits b ≡ test → bytes ≡ prefix_run bits bytes ++ drop (length (prefix_run bits bytes)) bytes → (b ∷ bytes) ≡ prefix_run bits (b ∷ bytes) ++ drop (length (prefix_run bits (b ∷ bytes))) (b ∷ bytes)
unfolding prefix_run
run_front-step bits b bytes true h rest = rw h (ap (λ xs. b ∷ xs) rest)
run_front-step bits b bytes false h rest = rw h

-- and is the front of the bytes
pub run_front : (bits : Bits) (bytes : List ℕ) → bytes ≡ prefix_run bits bytes ++ drop (length (prefix_run bits bytes)) bytes
unfolding prefix_run
run_front bits [] = refl
run_front bits (b ∷ bytes) = run_front-step bits b bytes (is_prefix bits b) refl (run_front bits bytes)

drop_bytes : (n : ℕ) (bytes : List ℕ) → are_bytes bytes ≡ true → are_bytes (drop n bytes) ≡ true
drop_bytes zero bytes h = h
drop_bytes (suc n) [] h = refl
drop_bytes (suc n) (b ∷ bytes) h = drop_bytes n bytes (byte_tail b bytes h)

run_stops-step : (bits : Bits) (b : ℕ) (bytes : List ℕ) (test : Bool) → is_prefix bits b ≡ test → StopsIfAny bits (drop (length (prefix_run bits bytes)) bytes) → StopsIfAny bits (drop (length (prefix_run bits (b ∷ bytes))) (b ∷ bytes))
unfolding prefix_run
run_stops-step bits b bytes true h rest = rw h rest
run_stops-step bits b bytes false h rest = rw h h

run_stops : (bits : Bits) (bytes : List ℕ) → StopsIfAny bits (drop (length (prefix_run bits bytes)) bytes)
unfolding prefix_run
run_stops bits [] = tt
run_stops bits (b ∷ bytes) = run_stops-step bits b bytes (is_prefix bits b) refl (run_stops bits bytes)

-- what stands behind the opcode byte
rest_from : (ps lead : List ℕ) (o : ℕ) (rest bytes : List ℕ) (n : ℕ) → bytes ≡ ps ++ (lead ++ (o ∷ rest)) → n ≡ length ps + length lead → rest ≡ drop (n + 1) bytes
rest_from ps lead o rest bytes n h e =
    let moved : n + 1 ≡ length ps + (length lead + 1) = omega arith in
    sym (ap (λ k. drop k bytes) moved ∙ ap (drop (length ps + (length lead + 1))) h
    ∙ drop-append-add ps (lead ++ (o ∷ rest)) (length lead + 1) ∙ drop-append-add lead (o ∷ rest) 1)

used_of : (bits : Bits) (ps : List ℕ) (n : ℕ) (vex : Option Vex) (map : Map) (o : ℕ) (f : PrefixState) → f ≡ state_from bits ps n vex map o → f.used ≡ n
unfolding state_from
used_of bits ps n vex map o f h = ap (λ (x : PrefixState). x.used) h

-- **bytes whose front is known are prefixes, a VEX or escape bytes, the opcode byte, and a rest**
pub front_converse : (bits : Bits) (bytes : List ℕ) (f : PrefixState) → are_bytes bytes ≡ true → long_front bits bytes ≡ Known f → Parted bits bytes f
unfolding long_front
front_converse bits bytes f r h =
    let ps = prefix_run bits bytes in
    let behind = drop (length ps) bytes in
    let led = lead_front-led bits ps behind f (drop_bytes (length ps) bytes r) (run_stops bits bytes) h in
    let whole : bytes ≡ ps ++ (lead_bytes f.map f.vex ++ (f.opcode ∷ led.rest)) =
    run_front bits bytes ∙ ap (λ xs. prefix_run bits bytes ++ xs) led.bytes_are in
    record {
      prefixes = ps;
      rest = led.rest;
      all_prefixes = run_all bits bytes;
      bytes_are = whole;
      rest_is = rest_from ps (lead_bytes f.map f.vex) f.opcode led.rest bytes f.used whole (used_of bits ps _ f.vex f.map f.opcode f led.state_is);
      state_is = led.state_is;
      lead_is_proper = led.proper;
    }
