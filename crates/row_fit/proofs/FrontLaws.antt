-- The front of a spelling's bytes, whatever stands behind them, is the state of the spelling.
use Rattle.std.proofs.Common.{◌≡◌, ◌⊎◌, inl, inr, ℕ, ◌+◌, ◌-◌, ◌*◌, ◌/◌, ◌%◌, ◌<◌, Bool, true, false, ◌&&◌, ◌||◌, not, ◌==◌, nat_lt, List, [], ◌∷◌, ◌++◌, length, Option, Some, None, refl, ap, sym, ◌∙◌, arith, append_assoc, length-append, if◌then◌else◌}
use Rattle.std.proofs.lemmas.Bool.{and_parts, cases_Bool, not-true}
use Rattle.instruction_parts.proofs.Tests.{or_right}
use Rattle.std.proofs.Math.Seq.{drop-append_seam}
use Rattle.std.specs.List.{list_all}
use Rattle.x86_values.specs.declared.Bits.{Bits}
use Rattle.x86_values.specs.declared.Bits.TheVariants.{B16, B32, B64}
use Rattle.instruction_parts.specs.declared.row_types.Map.{Map}
use Rattle.instruction_parts.specs.declared.row_types.Map.TheVariants.{One, M0f, M0f38, M0f3a}
use Rattle.instruction_parts.specs.declared.row_types.Row.{Row}
use Rattle.instruction_parts.specs.declared.spelling.Vex.{Vex}
use Rattle.instruction_parts.specs.declared.spelling.ModRm.{ModRm}
use Rattle.instruction_parts.specs.declared.spelling.Spelling.{Spelling}
use Rattle.instruction_parts.specs.Counting.{is_64, is_prefix, is_legacy_prefix, is_segment}
use Rattle.instruction_parts.specs.Bytes.{escape_bytes, map_number, bit, inverted_bit, vex_last_byte, vex_map_byte, vex_bytes, lead_bytes, modrm_byte, modrm_bytes, sib_bytes, tail_bytes, front_bytes, bytes_of, spelled_map, state_from, state_of}
use Rattle.instruction_parts.specs.Front.{Known, prefix_run, forbids_vex, top_two_set, map_numbered, short_vex, long_vex, opcode_front, short_vex_front, third_byte_front, long_vex_front, vex_front, vex_or_opcode_front, escape_front, is_vex_lead, lead_front, long_front}
use Rattle.instruction_parts.specs.Sizes.{is_vex_row}
use Rattle.row_fit.specs.Fits.{prefixes_fit, tail_fits, state_fits, sib_in_range, are_bytes, fits, is_opcode, opcode_allows, opcode_is_kept, vex_fits, has_memory_mode, has_reg_zero, is_vex_of_mode, vex_in_range, modrm_in_range, fields_in_range, same_map, is_map_one}
use borrow.Author.Tests.{ltb-true}
use Rattle.row_fit.proofs.SameMap.{same_map-is}

-- prefixes in front of a byte that is none are the run
pub prefix_run-append : (bits : Bits) (ps : List ℕ) (b : ℕ) (more : List ℕ) → list_all (is_prefix bits) ps ≡ true → is_prefix bits b ≡ false → prefix_run bits (ps ++ (b ∷ more)) ≡ ps
unfolding prefix_run
prefix_run-append bits [] b more all stop = rw stop
prefix_run-append bits (x ∷ ps) b more all stop =
    let here : is_prefix bits x ≡ true = (and_parts (is_prefix bits x) (list_all (is_prefix bits) ps) all).0 in
    let rest = prefix_run-append bits ps b more (and_parts (is_prefix bits x) (list_all (is_prefix bits) ps) all).1 stop in
    rw here (ap (λ xs. x ∷ xs) rest)

-- the front of bytes behind a run of prefixes is decided by the byte that ends the run
pub long_front-run : (bits : Bits) (ps : List ℕ) (b : ℕ) (more : List ℕ) → list_all (is_prefix bits) ps ≡ true → is_prefix bits b ≡ false → long_front bits (ps ++ (b ∷ more)) ≡ lead_front bits ps (b ∷ more)
unfolding long_front
long_front-run bits ps b more all stop =
    rw (prefix_run-append bits ps b more all stop) (rw (drop-append_seam ps (b ∷ more)))

-- ---- the three ways to an opcode byte

-- an opcode byte of the one-byte map
pub lead_front-one : (bits : Bits) (ps : List ℕ) (b : ℕ) (more : List ℕ) → is_opcode bits One b ≡ true → is_vex_lead b ≡ false → lead_front bits ps (b ∷ more) ≡ Known (state_from bits ps (length ps + 0) None One b)
unfolding lead_front opcode_front is_opcode
lead_front-one bits ps b more ok lead =
    let rest = (and_parts (not (is_prefix bits b)) (not (b == 0x0F) && not (is_64 bits && b == 0x62)) ok).1 in
    let no_escape : (b == 0x0F) ≡ false = not-true (b == 0x0F) (and_parts (not (b == 0x0F)) (not (is_64 bits && b == 0x62)) rest).0 in
    let no_62 : (is_64 bits && b == 0x62) ≡ false = not-true (is_64 bits && b == 0x62) (and_parts (not (b == 0x0F)) (not (is_64 bits && b == 0x62)) rest).1 in
    rw lead (rw no_escape (rw no_62))

-- LES and LDS, whose ModRM says memory
pub lead_front-les : (bits : Bits) (ps : List ℕ) (b m : ℕ) (more : List ℕ) → is_64 bits ≡ false → is_vex_lead b ≡ true → top_two_set m ≡ false → lead_front bits ps (b ∷ (m ∷ more)) ≡ Known (state_from bits ps (length ps + 0) None One b)
unfolding lead_front opcode_front vex_or_opcode_front
lead_front-les B16 ps b m more mode lead top = rw lead (rw top)
lead_front-les B32 ps b m more mode lead top = rw lead (rw top)
lead_front-les B64 ps b m more mode lead top = cc

-- an opcode byte behind 0F
pub lead_front-0f : (bits : Bits) (ps : List ℕ) (b : ℕ) (more : List ℕ) → is_opcode bits M0f b ≡ true → lead_front bits ps (0x0F ∷ (b ∷ more)) ≡ Known (state_from bits ps (length ps + 1) None M0f b)
unfolding lead_front opcode_front escape_front is_opcode
lead_front-0f bits ps b more ok =
    let no_escape : (b == 0x0F) ≡ false = not-true (b == 0x0F) (and_parts (not (b == 0x0F)) (not (b == 0x38) && not (b == 0x3A)) ok).0 in
    let rest = (and_parts (not (b == 0x0F)) (not (b == 0x38) && not (b == 0x3A)) ok).1 in
    let no_38 : (b == 0x38) ≡ false = not-true (b == 0x38) (and_parts (not (b == 0x38)) (not (b == 0x3A)) rest).0 in
    let no_3a : (b == 0x3A) ≡ false = not-true (b == 0x3A) (and_parts (not (b == 0x38)) (not (b == 0x3A)) rest).1 in
    rw no_38 (rw no_3a (rw no_escape))

-- an opcode byte behind 0F 38 and 0F 3A
pub lead_front-0f38 : (bits : Bits) (ps : List ℕ) (b : ℕ) (more : List ℕ) → lead_front bits ps (0x0F ∷ (0x38 ∷ (b ∷ more))) ≡ Known (state_from bits ps (length ps + 2) None M0f38 b)
unfolding lead_front opcode_front escape_front
lead_front-0f38 bits ps b more = refl

-- behind 0F 3A the opcode byte is one of that map
pub lead_front-0f3a : (bits : Bits) (ps : List ℕ) (b : ℕ) (more : List ℕ) → lead_front bits ps (0x0F ∷ (0x3A ∷ (b ∷ more))) ≡ Known (state_from bits ps (length ps + 2) None M0f3a b)
unfolding lead_front opcode_front escape_front
lead_front-0f3a bits ps b more = refl

-- ---- VEX

-- the fields in the last byte of a VEX
pub last_byte-fields : (f : ℕ) (l : Bool) (vvvv pp : ℕ) → f < 2 → vvvv < 16 → pp < 4 → (let b = f * 128 + (15 - vvvv) * 8 + bit l * 4 + pp in (b / 128 ≡ f) × (b / 4 % 2 ≡ bit l) × (15 - b / 8 % 16 ≡ vvvv) × (b % 4 ≡ pp))
last_byte-fields f true vvvv pp hf hv hp = (omega arith, omega arith, omega arith, omega arith)
last_byte-fields f false vvvv pp hf hv hp = (omega arith, omega arith, omega arith, omega arith)

-- a flag that is read back from the top bit of a byte, where it is stored inverted
flag_back : (n : ℕ) (flag : Bool) → n % 2 ≡ inverted_bit flag → not (n % 2 == 1) ≡ flag
flag_back n true h = rw h
flag_back n false h = rw h

-- the same of a bit that is stored as it is
bit_back : (n : ℕ) (flag : Bool) → n % 2 ≡ bit flag → (n % 2 == 1) ≡ flag
bit_back n true h = rw h
bit_back n false h = rw h

bit-below : (flag : Bool) → bit flag < 2
bit-below true = omega arith
bit-below false = omega arith

inverted_bit-below : (flag : Bool) → inverted_bit flag < 2
inverted_bit-below true = omega arith
inverted_bit-below false = omega arith

mod-below : (n f : ℕ) → n ≡ f → f < 2 → n % 2 ≡ f
mod-below n f e h = omega arith

-- a VEX of its fields
abbrev fields : Bool → Bool → Bool → Bool → Bool → Bool → Map → ℕ → ℕ → Vex
fields three r x b w l map vvvv pp = record { three = three; r = r; x = x; b = b; w = w; l = l; map = map; vvvv = vvvv; pp = pp }

same_fields : (r r' x x' b b' w w' l l' : Bool) (m m' : Map) (n n' p p' : ℕ) (t t' : Bool) → t ≡ t' → r ≡ r' → x ≡ x' → b ≡ b' → w ≡ w' → l ≡ l' → m ≡ m' → n ≡ n' → p ≡ p' → fields t r x b w l m n p ≡ fields t' r' x' b' w' l' m' n' p'
same_fields r r' x x' b b' w w' l l' m m' n n' p p' t t' e1 e2 e3 e4 e5 e6 e7 e8 e9 = cc

-- the two-byte VEX is read back
pub short_vex-back : (v : Vex) → v.three ≡ false → v.x ≡ false → v.b ≡ false → v.w ≡ false → v.map ≡ M0f → v.vvvv < 16 → v.pp < 4 → short_vex (vex_last_byte (inverted_bit v.r) v) ≡ v
unfolding short_vex vex_last_byte
short_vex-back v three x b w map hv hp =
    let f = last_byte-fields (inverted_bit v.r) v.l v.vvvv v.pp (inverted_bit-below v.r) hv hp in
    same_fields _ v.r _ v.x _ v.b _ v.w _ v.l _ v.map _ v.vvvv _ v.pp _ v.three
    (sym three) (flag_back _ v.r (mod-below _ (inverted_bit v.r) f.0 (inverted_bit-below v.r)))
    (sym x) (sym b) (sym w) (bit_back _ v.l f.1) (sym map) f.2 f.3

-- the fields in the second byte of a three-byte VEX
pub map_byte-fields : (r x b : Bool) (m : ℕ) → m < 4 → (let n = inverted_bit r * 128 + inverted_bit x * 64 + inverted_bit b * 32 + m in (n / 128 % 2 ≡ inverted_bit r) × (n / 64 % 2 ≡ inverted_bit x) × (n / 32 % 2 ≡ inverted_bit b) × (n % 32 ≡ m))
map_byte-fields true true true m h = (omega arith, omega arith, omega arith, omega arith)
map_byte-fields true true false m h = (omega arith, omega arith, omega arith, omega arith)
map_byte-fields true false true m h = (omega arith, omega arith, omega arith, omega arith)
map_byte-fields true false false m h = (omega arith, omega arith, omega arith, omega arith)
map_byte-fields false true true m h = (omega arith, omega arith, omega arith, omega arith)
map_byte-fields false true false m h = (omega arith, omega arith, omega arith, omega arith)
map_byte-fields false false true m h = (omega arith, omega arith, omega arith, omega arith)
map_byte-fields false false false m h = (omega arith, omega arith, omega arith, omega arith)

map_number-below : (map : Map) → map_number map < 4
map_number-below One = omega arith
map_number-below M0f = omega arith
map_number-below M0f38 = omega arith
map_number-below M0f3a = omega arith

-- a map other than the first has its number in a VEX
pub map_numbered-back : (map : Map) → is_map_one map ≡ false → map_numbered (map_number map) ≡ Some map
unfolding map_numbered
map_numbered-back One h = cc
map_numbered-back M0f h = refl
map_numbered-back M0f38 h = refl
map_numbered-back M0f3a h = refl

-- the three-byte VEX is read back
pub long_vex-back : (v : Vex) → v.three ≡ true → v.vvvv < 16 → v.pp < 4 → long_vex v.map (vex_map_byte v) (vex_last_byte (bit v.w) v) ≡ v
unfolding long_vex vex_last_byte vex_map_byte
long_vex-back v three hv hp =
    let f = last_byte-fields (bit v.w) v.l v.vvvv v.pp (bit-below v.w) hv hp in
    let g = map_byte-fields v.r v.x v.b (map_number v.map) (map_number-below v.map) in
    same_fields _ v.r _ v.x _ v.b _ v.w _ v.l _ v.map _ v.vvvv _ v.pp _ v.three
    (sym three) (flag_back _ v.r g.0) (flag_back _ v.x g.1) (flag_back _ v.b g.2)
    (bit_back _ v.w (mod-below _ (bit v.w) f.0 (bit-below v.w))) (bit_back _ v.l f.1) refl f.2 f.3

-- ---- bytes that are no prefix

-- 0F is no prefix
pub escape_is_no_prefix : (bits : Bits) → is_prefix bits 0x0F ≡ false
unfolding is_prefix is_legacy_prefix is_segment
escape_is_no_prefix B16 = refl
escape_is_no_prefix B32 = refl
escape_is_no_prefix B64 = refl

-- C4 is no prefix
pub c4_is_no_prefix : (bits : Bits) → is_prefix bits 0xC4 ≡ false
unfolding is_prefix is_legacy_prefix is_segment
c4_is_no_prefix B16 = refl
c4_is_no_prefix B32 = refl
c4_is_no_prefix B64 = refl

-- C5 is no prefix
pub c5_is_no_prefix : (bits : Bits) → is_prefix bits 0xC5 ≡ false
unfolding is_prefix is_legacy_prefix is_segment
c5_is_no_prefix B16 = refl
c5_is_no_prefix B32 = refl
c5_is_no_prefix B64 = refl

-- ---- behind prefixes and a VEX

vex_front-short : (bits : Bits) (ps : List ℕ) (c : ℕ) (v : Vex) (o : ℕ) (more : List ℕ) → forbids_vex bits ps ≡ false → short_vex c ≡ v → vex_front bits ps 0xC5 (c ∷ (o ∷ more)) ≡ Known (state_from bits ps (length ps + 2) (Some v) M0f o)
unfolding vex_front short_vex_front opcode_front
vex_front-short bits ps c v o more forbids back = rw forbids (rw back)

vex_front-long : (bits : Bits) (ps : List ℕ) (b c : ℕ) (v : Vex) (o : ℕ) (more : List ℕ) → forbids_vex bits ps ≡ false → map_numbered (b % 32) ≡ Some v.map → long_vex v.map b c ≡ v → vex_front bits ps 0xC4 (b ∷ (c ∷ (o ∷ more))) ≡ Known (state_from bits ps (length ps + 3) (Some v) v.map o)
unfolding vex_front long_vex_front third_byte_front opcode_front
vex_front-long bits ps b c v o more forbids map back = rw forbids (rw map (rw back))

-- C4 and C5 are a VEX in 64-bit mode, and elsewhere before a byte whose top two bits are 11
lead_front-vex : (bits : Bits) (ps : List ℕ) (lead b : ℕ) (more : List ℕ) → is_vex_lead lead ≡ true → (is_64 bits ≡ true) ⊎ (top_two_set b ≡ true) → lead_front bits ps (lead ∷ (b ∷ more)) ≡ vex_front bits ps lead (b ∷ more)
unfolding lead_front vex_or_opcode_front
lead_front-vex B64 ps lead b more l h = rw l
lead_front-vex B16 ps lead b more l (inl h) = cc
lead_front-vex B16 ps lead b more l (inr h) = rw l (rw h)
lead_front-vex B32 ps lead b more l (inl h) = cc
lead_front-vex B32 ps lead b more l (inr h) = rw l (rw h)

-- the top two bits of the byte behind C5
top_of_short : (v : Vex) → v.r ≡ false → v.vvvv < 8 → v.pp < 4 → vex_last_byte (inverted_bit v.r) v / 64 ≡ 3
unfolding vex_last_byte
top_of_short v r hv hp = rw r (let l = bit-below v.l in omega arith)

top_of_long : (v : Vex) → v.r ≡ false → v.x ≡ false → vex_map_byte v / 64 ≡ 3
unfolding vex_map_byte
top_of_long v r x = rw r (rw x (let b = inverted_bit-below v.b in let m = map_number-below v.map in omega arith))

top_set : (b : ℕ) → b / 64 ≡ 3 → top_two_set b ≡ true
top_set b h = rw h

-- ---- all of a front

lt_from : (a b : ℕ) → nat_lt a b ≡ true → a < b
lt_from a b h = ltb-true a b h

vex_bytes-short : (v : Vex) → v.three ≡ false → vex_bytes v ≡ 0xC5 ∷ vex_last_byte (inverted_bit v.r) v ∷ []
unfolding vex_bytes
vex_bytes-short v three = rw three

vex_bytes-long : (v : Vex) → v.three ≡ true → vex_bytes v ≡ 0xC4 ∷ vex_map_byte v ∷ vex_last_byte (bit v.w) v ∷ []
unfolding vex_bytes
vex_bytes-long v three = rw three

-- what the range of a VEX says
record VexRange (v : Vex) : Type 0 where
  vvvv : v.vvvv < 16
  pp : v.pp < 4
  map : is_map_one v.map ≡ false
  two : v.three ≡ false → (v.x ≡ false) × (v.b ≡ false) × (v.w ≡ false) × (v.map ≡ M0f)

vex_range : (v : Vex) → vex_in_range (Some v) ≡ true → VexRange v
unfolding vex_in_range
vex_range v h =
    let two = not v.x && (not v.b && (not v.w && same_map v.map M0f)) in
    let h1 = (and_parts (nat_lt v.vvvv 16) (nat_lt v.pp 4 && (not (is_map_one v.map) && (v.three || two))) h).1 in
    let h2 = (and_parts (nat_lt v.pp 4) (not (is_map_one v.map) && (v.three || two)) h1).1 in
    let h3 = (and_parts (not (is_map_one v.map)) (v.three || two) h2).1 in
    record {
      vvvv = lt_from v.vvvv 16 (and_parts (nat_lt v.vvvv 16) (nat_lt v.pp 4 && (not (is_map_one v.map) && (v.three || two))) h).0;
      pp = lt_from v.pp 4 (and_parts (nat_lt v.pp 4) (not (is_map_one v.map) && (v.three || two)) h1).0;
      map = not-true (is_map_one v.map) (and_parts (not (is_map_one v.map)) (v.three || two) h2).0;
      two = λ three.
          let t = or_right v.three two three h3 in
          let t1 = (and_parts (not v.x) (not v.b && (not v.w && same_map v.map M0f)) t).1 in
          let t2 = (and_parts (not v.b) (not v.w && same_map v.map M0f) t1).1 in (
            not-true v.x (and_parts (not v.x) (not v.b && (not v.w && same_map v.map M0f)) t).0,
            not-true v.b (and_parts (not v.b) (not v.w && same_map v.map M0f) t1).0,
            not-true v.w (and_parts (not v.w) (same_map v.map M0f) t2).0,
            same_map-is v.map M0f (and_parts (not v.w) (same_map v.map M0f) t2).1,
          );
    }

-- outside 64-bit mode the byte behind C5 begins with 11
short_top : (bits : Bits) (v : Vex) → VexRange v → v.three ≡ false → is_vex_of_mode bits v ≡ true → (is_64 bits ≡ true) ⊎ (top_two_set (vex_last_byte (inverted_bit v.r) v) ≡ true)
unfolding is_vex_of_mode
short_top bits v range three h = elim (cases_Bool (is_64 bits)) [
  | inl is ↦ inl is
  | inr other ↦
      let rest = or_right (is_64 bits) (not v.r && (if v.three then not v.x else nat_lt v.vvvv 8)) other h in
      let low : nat_lt v.vvvv 8 ≡ true = rw three at (and_parts (not v.r) (if v.three then not v.x else nat_lt v.vvvv 8) rest).1 in
      inr (top_set (vex_last_byte (inverted_bit v.r) v) (top_of_short v (not-true v.r (and_parts (not v.r) (if v.three then not v.x else nat_lt v.vvvv 8) rest).0) (lt_from v.vvvv 8 low) range.pp))
]

-- the same of the byte behind C4
long_top : (bits : Bits) (v : Vex) → v.three ≡ true → is_vex_of_mode bits v ≡ true → (is_64 bits ≡ true) ⊎ (top_two_set (vex_map_byte v) ≡ true)
unfolding is_vex_of_mode
long_top bits v three h = elim (cases_Bool (is_64 bits)) [
  | inl is ↦ inl is
  | inr other ↦
      let rest = or_right (is_64 bits) (not v.r && (if v.three then not v.x else nat_lt v.vvvv 8)) other h in
      let x : not v.x ≡ true = rw three at (and_parts (not v.r) (if v.three then not v.x else nat_lt v.vvvv 8) rest).1 in
      inr (top_set (vex_map_byte v) (top_of_long v (not-true v.r (and_parts (not v.r) (if v.three then not v.x else nat_lt v.vvvv 8) rest).0) (not-true v.x x)))
]

map_of_byte : (v : Vex) → vex_map_byte v % 32 ≡ map_number v.map
unfolding vex_map_byte
map_of_byte v = (map_byte-fields v.r v.x v.b (map_number v.map) (map_number-below v.map)).3

map_back : (map : Map) (b : ℕ) → b % 32 ≡ map_number map → is_map_one map ≡ false → map_numbered (b % 32) ≡ Some map
map_back map b h one = rw h (map_numbered-back map one)

-- prefixes, a VEX and an opcode byte
pub vex_law : (bits : Bits) (ps : List ℕ) (v : Vex) (o : ℕ) (more : List ℕ) → list_all (is_prefix bits) ps ≡ true → forbids_vex bits ps ≡ false → is_vex_of_mode bits v ≡ true → vex_in_range (Some v) ≡ true → long_front bits (ps ++ (vex_bytes v ++ (o ∷ more))) ≡ Known (state_from bits ps (length ps + length (vex_bytes v)) (Some v) v.map o)
vex_law bits ps v o more all forbids mode in_range =
    let range = vex_range v in_range in
    elim (cases_Bool v.three) [
      | inl three ↦
          let last = vex_last_byte (bit v.w) v in
          rw (vex_bytes-long v three)
          (long_front-run bits ps 0xC4 (vex_map_byte v ∷ (last ∷ (o ∷ more))) all (c4_is_no_prefix bits)
          ∙ lead_front-vex bits ps 0xC4 (vex_map_byte v) (last ∷ (o ∷ more)) refl (long_top bits v three mode)
          ∙ vex_front-long bits ps (vex_map_byte v) last v o more forbids
          (map_back v.map (vex_map_byte v) (map_of_byte v) range.map)
          (long_vex-back v three range.vvvv range.pp))
      | inr three ↦
          let t = range.two three in
          let last = vex_last_byte (inverted_bit v.r) v in
          rw (vex_bytes-short v three)
          (long_front-run bits ps 0xC5 (last ∷ (o ∷ more)) all (c5_is_no_prefix bits)
          ∙ lead_front-vex bits ps 0xC5 last (o ∷ more) refl (short_top bits v range three mode)
          ∙ vex_front-short bits ps last v o more forbids
          (short_vex-back v three t.0 t.1 t.2 t.3 range.vvvv range.pp)
          ∙ ap (λ map. Known (state_from bits ps (length ps + 2) (Some v) map o)) (sym t.3))
    ]

-- ---- legacy rows

opcode_is_no_prefix : (bits : Bits) (o : ℕ) → is_opcode bits One o ≡ true → is_prefix bits o ≡ false
unfolding is_opcode
opcode_is_no_prefix bits o ok =
    not-true (is_prefix bits o) (and_parts (not (is_prefix bits o)) (not (o == 0x0F) && not (is_64 bits && o == 0x62)) ok).0

memory_top : (m : ModRm) → m.mode3 < 3 → m.reg < 8 → m.rm < 8 → top_two_set (modrm_byte m) ≡ false
memory_top m h1 h2 h3 = grind (arith)

les_law : (bits : Bits) (ps : List ℕ) (o : ℕ) (m : Option ModRm) (more : List ℕ) → is_vex_lead o ≡ true → is_64 bits ≡ false → has_memory_mode m ≡ true → modrm_in_range m ≡ true → lead_front bits ps (o ∷ (modrm_bytes m ++ more)) ≡ Known (state_from bits ps (length ps + 0) None One o)
unfolding modrm_in_range
les_law bits ps o None more lead mode memory range = cc
les_law bits ps o (Some m) more lead mode memory range =
    let r = (and_parts (nat_lt m.mode3 4) (nat_lt m.reg 8 && nat_lt m.rm 8) range).1 in
    lead_front-les bits ps o (modrm_byte m) more mode lead
    (memory_top m (lt_from m.mode3 3 memory) (lt_from m.reg 8 (and_parts (nat_lt m.reg 8) (nat_lt m.rm 8) r).0) (lt_from m.rm 8 (and_parts (nat_lt m.reg 8) (nat_lt m.rm 8) r).1))

-- C4 and C5 as an opcode byte stand outside 64-bit mode, with memory
les_allowed : (bits : Bits) (o : ℕ) (m : Option ModRm) → is_vex_lead o ≡ true → opcode_allows bits One o m ≡ true → (is_64 bits ≡ false) × (has_memory_mode m ≡ true)
unfolding opcode_allows
les_allowed bits o m lead allows =
    let rest = (not (o == 0x62) || has_memory_mode m) && (not (o == 0x8F) || has_reg_zero m) in
    let first = (and_parts (not (is_vex_lead o) || (not (is_64 bits) && has_memory_mode m)) rest allows).0 in
    let both : (not (is_64 bits) && has_memory_mode m) ≡ true = rw lead at first in
    (not-true (is_64 bits) (and_parts (not (is_64 bits)) (has_memory_mode m) both).0, (and_parts (not (is_64 bits)) (has_memory_mode m) both).1)

map_one_law : (bits : Bits) (ps : List ℕ) (o : ℕ) (m : Option ModRm) (more : List ℕ) → list_all (is_prefix bits) ps ≡ true → is_opcode bits One o ≡ true → opcode_allows bits One o m ≡ true → modrm_in_range m ≡ true → long_front bits (ps ++ (o ∷ (modrm_bytes m ++ more))) ≡ Known (state_from bits ps (length ps + 0) None One o)
map_one_law bits ps o m more all ok allows range =
    long_front-run bits ps o (modrm_bytes m ++ more) all (opcode_is_no_prefix bits o ok)
    ∙ elim (cases_Bool (is_vex_lead o)) [
      | inl lead ↦ (let a = les_allowed bits o m lead allows in les_law bits ps o m more lead a.0 a.1 range)
      | inr lead ↦ lead_front-one bits ps o (modrm_bytes m ++ more) ok lead
    ]

-- prefixes, the escape bytes of a map and an opcode byte
pub legacy_law : (bits : Bits) (ps : List ℕ) (map : Map) (o : ℕ) (m : Option ModRm) (more : List ℕ) → list_all (is_prefix bits) ps ≡ true → opcode_is_kept bits map o m ≡ true → modrm_in_range m ≡ true → long_front bits (ps ++ (escape_bytes map ++ (o ∷ (modrm_bytes m ++ more)))) ≡ Known (state_from bits ps (length ps + length (escape_bytes map)) None map o)
unfolding opcode_is_kept
legacy_law bits ps One o m more all kept range =
    map_one_law bits ps o m more all (and_parts (is_opcode bits One o) (opcode_allows bits One o m) kept).0 (and_parts (is_opcode bits One o) (opcode_allows bits One o m) kept).1 range
legacy_law bits ps M0f o m more all kept range =
    long_front-run bits ps 0x0F (o ∷ (modrm_bytes m ++ more)) all (escape_is_no_prefix bits)
    ∙ lead_front-0f bits ps o (modrm_bytes m ++ more) (and_parts (is_opcode bits M0f o) (opcode_allows bits M0f o m) kept).0
legacy_law bits ps M0f38 o m more all kept range =
    long_front-run bits ps 0x0F (0x38 ∷ (o ∷ (modrm_bytes m ++ more))) all (escape_is_no_prefix bits)
    ∙ lead_front-0f38 bits ps o (modrm_bytes m ++ more)
legacy_law bits ps M0f3a o m more all kept range =
    long_front-run bits ps 0x0F (0x3A ∷ (o ∷ (modrm_bytes m ++ more))) all (escape_is_no_prefix bits)
    ∙ lead_front-0f3a bits ps o (modrm_bytes m ++ more)

-- ---- both

-- prefixes, the lead and an opcode byte that fit are read
pub parts_law : (bits : Bits) (row : Row) (ps : List ℕ) (vex : Option Vex) (o : ℕ) (m : Option ModRm) (more : List ℕ) → list_all (is_prefix bits) ps ≡ true → vex_fits bits row ps vex o m ≡ true → vex_in_range vex ≡ true → modrm_in_range m ≡ true → long_front bits (ps ++ (lead_bytes row.map vex ++ (o ∷ (modrm_bytes m ++ more)))) ≡ Known (state_from bits ps (length ps + length (lead_bytes row.map vex)) vex (spelled_map row.map vex) o)
unfolding vex_fits lead_bytes
parts_law bits row ps None o m more all h vr mr =
    legacy_law bits ps row.map o m more all (and_parts (not (is_vex_row row)) (opcode_is_kept bits row.map o m) h).1 mr
parts_law bits row ps (Some v) o m more all h vr mr =
    let h1 = (and_parts (is_vex_row row) (same_map v.map row.map && (not (forbids_vex bits ps) && is_vex_of_mode bits v)) h).1 in
    let h2 = (and_parts (same_map v.map row.map) (not (forbids_vex bits ps) && is_vex_of_mode bits v) h1).1 in
    vex_law bits ps v o (modrm_bytes m ++ more) all
    (not-true (forbids_vex bits ps) (and_parts (not (forbids_vex bits ps)) (is_vex_of_mode bits v) h2).0)
    (and_parts (not (forbids_vex bits ps)) (is_vex_of_mode bits v) h2).1 vr

-- the parts of a fitting spelling that the front rests on
pub record FrontFits (bits : Bits) (row : Row) (s : Spelling) : Type 0 where
  pub prefixes : list_all (is_prefix bits) s.prefixes.items ≡ true
  pub vex : vex_fits bits row s.prefixes.items s.vex s.opcode s.modrm ≡ true
  pub vex_range : vex_in_range s.vex ≡ true
  pub modrm_range : modrm_in_range s.modrm ≡ true

-- the front of a fitting spelling fits
pub front_fits : (bits : Bits) (row : Row) (s : Spelling) → fits bits row s ≡ true → FrontFits bits row s
unfolding fits prefixes_fit fields_in_range
front_fits bits row s h =
    let state = state_of bits row s in
    let p = prefixes_fit bits s.prefixes.items in
    let v = vex_fits bits row s.prefixes.items s.vex s.opcode s.modrm in
    let t = tail_fits bits row state s.modrm s.sib (length s.disp.items) (length s.imm.items) in
    let r = fields_in_range s in
    let h1 = (and_parts (state_fits bits row state) (p && (v && (t && r))) h).1 in
    let h2 = (and_parts p (v && (t && r)) h1).1 in
    let hr = (and_parts t r (and_parts v (t && r) h2).1).1 in
    let r1 = modrm_in_range s.modrm && (sib_in_range s.sib && (are_bytes s.disp.items && are_bytes s.imm.items)) in
    let r2 = nat_lt s.opcode 256 && r1 in
    let r3 = (and_parts (are_bytes s.prefixes.items) (vex_in_range s.vex && r2) hr).1 in
    let r4 = (and_parts (nat_lt s.opcode 256) r1 (and_parts (vex_in_range s.vex) r2 r3).1).1 in
    record {
      prefixes = (and_parts p (v && (t && r)) h1).0;
      vex = (and_parts v (t && r) h2).0;
      vex_range = (and_parts (vex_in_range s.vex) r2 r3).0;
      modrm_range = (and_parts (modrm_in_range s.modrm) (sib_in_range s.sib && (are_bytes s.disp.items && are_bytes s.imm.items)) r4).0;
    }

-- the bytes of a spelling with others behind them, parted behind ModRM
bytes_parted : (row : Row) (s : Spelling) (rest : List ℕ) → bytes_of row s ++ rest ≡ s.prefixes.items ++ (lead_bytes row.map s.vex ++ (s.opcode ∷ (modrm_bytes s.modrm ++ ((sib_bytes s.sib ++ (s.disp.items ++ s.imm.items)) ++ rest))))
unfolding bytes_of front_bytes tail_bytes
bytes_parted row s rest = simp append_assoc

-- **the front of the bytes of a fitting spelling, whatever stands behind them, is the state of the spelling**
pub front_law : (bits : Bits) (row : Row) (s : Spelling) (rest : List ℕ) → fits bits row s ≡ true → long_front bits (bytes_of row s ++ rest) ≡ Known (state_of bits row s)
unfolding state_of front_bytes
front_law bits row s rest h =
    let f = front_fits bits row s h in
    rw (bytes_parted row s rest)
    (rw (length-append s.prefixes.items (lead_bytes row.map s.vex))
    (parts_law bits row s.prefixes.items s.vex s.opcode s.modrm ((sib_bytes s.sib ++ (s.disp.items ++ s.imm.items)) ++ rest) f.prefixes f.vex f.vex_range f.modrm_range))

legacy_run : (bits : Bits) (ps : List ℕ) (map : Map) (o : ℕ) (m : Option ModRm) (tail : List ℕ) → list_all (is_prefix bits) ps ≡ true → opcode_is_kept bits map o m ≡ true → prefix_run bits (ps ++ (escape_bytes map ++ (o ∷ tail))) ≡ ps
unfolding opcode_is_kept
legacy_run bits ps One o m tail all kept =
    prefix_run-append bits ps o tail all (opcode_is_no_prefix bits o (and_parts (is_opcode bits One o) (opcode_allows bits One o m) kept).0)
legacy_run bits ps M0f o m tail all kept = prefix_run-append bits ps 0x0F (o ∷ tail) all (escape_is_no_prefix bits)
legacy_run bits ps M0f38 o m tail all kept = prefix_run-append bits ps 0x0F (0x38 ∷ (o ∷ tail)) all (escape_is_no_prefix bits)
legacy_run bits ps M0f3a o m tail all kept = prefix_run-append bits ps 0x0F (0x3A ∷ (o ∷ tail)) all (escape_is_no_prefix bits)

-- the run of prefixes of a spelling's bytes is its own list of prefixes
pub run_law : (bits : Bits) (row : Row) (ps : List ℕ) (vex : Option Vex) (o : ℕ) (m : Option ModRm) (tail : List ℕ) → list_all (is_prefix bits) ps ≡ true → vex_fits bits row ps vex o m ≡ true → prefix_run bits (ps ++ (lead_bytes row.map vex ++ (o ∷ tail))) ≡ ps
unfolding vex_fits lead_bytes
run_law bits row ps None o m tail all h =
    legacy_run bits ps row.map o m tail all (and_parts (not (is_vex_row row)) (opcode_is_kept bits row.map o m) h).1
run_law bits row ps (Some v) o m tail all h = elim (cases_Bool v.three) [
  | inl three ↦ rw (vex_bytes-long v three) (prefix_run-append bits ps 0xC4 (vex_map_byte v ∷ (vex_last_byte (bit v.w) v ∷ (o ∷ tail))) all (c4_is_no_prefix bits))
  | inr three ↦ rw (vex_bytes-short v three) (prefix_run-append bits ps 0xC5 (vex_last_byte (inverted_bit v.r) v ∷ (o ∷ tail)) all (c5_is_no_prefix bits))
]
