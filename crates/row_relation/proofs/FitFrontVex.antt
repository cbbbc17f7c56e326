-- The opcode byte of a plain front is one of the row's, and its VEX, or the want of one, is what the row asks for.
use Rattle.std.proofs.Common.{◌≡◌, inl, inr, ℕ, ◌+◌, ◌%◌, ◌<◌, Bool, true, false, ◌&&◌, ◌||◌, not, ◌==◌, nat_le, nat_lt, List, [], ◌∷◌, Option, Some, None, eq-eqb, refl, ap, ◌∙◌, subst, arith, if◌then◌else◌}
use Rattle.instruction_parts.proofs.Tests.{or_right}
use Rattle.std.proofs.Math.Bool.{or-true}
use Rattle.std.specs.List.{list_any, list_all}
use Rattle.std.proofs.lemmas.Bool.{lt-ltb, le-leb, and_from, and_parts, cases_Bool, eqb-true}
use borrow.Author.Tests.{ltb-true}
use Rattle.x86_values.specs.declared.Bits.{Bits}
use Rattle.x86_values.specs.declared.Instr.{Instr}
use Rattle.instruction_parts.specs.declared.row_types.Row.{Row}
use Rattle.instruction_parts.specs.declared.row_types.Map.{Map}
use Rattle.instruction_parts.specs.declared.row_types.Map.TheVariants.{One, M0f, M0f38, M0f3a}
use Rattle.instruction_parts.specs.declared.row_types.Plus.{Plus}
use Rattle.instruction_parts.specs.declared.row_types.Plus.TheVariants.{No as NoPlus, Register as PlusRegister, Stack as PlusStack}
use Rattle.instruction_parts.specs.declared.row_types.ModRmRule.{ModRmRule}
use Rattle.instruction_parts.specs.declared.row_types.ModRmRule.TheVariants.{No as NoModRm, Any as AnyModRm, Digit, Fixed as FixedByte}
use Rattle.instruction_parts.specs.declared.row_types.OpKind.{OpKind}
use Rattle.instruction_parts.specs.declared.kinds.Method.{Method}
use Rattle.instruction_parts.specs.declared.kinds.Method.TheVariants as method
use Rattle.instruction_parts.specs.declared.spelling.Vex.{Vex}
use Rattle.instruction_parts.specs.declared.spelling.ModRm.{ModRm}
use Rattle.instruction_parts.specs.Kinds.{method_of}
use Rattle.instruction_parts.specs.Counting.{is_64, is_repeat, has_lock, has_66, counting_rex}
use Rattle.instruction_parts.specs.Sizes.{is_vex_row}
use Rattle.instruction_parts.specs.Front.{forbids_vex}
use Rattle.row_fit.specs.Fits.{is_map_one, same_map, reads_by, has_memory_mode, has_reg_zero, is_vex_of_mode, is_opcode, opcode_allows, opcode_is_kept, vex_fits, opcode_fits, modrm_rule_fits, place_allows, place_of, place_fits, vex_in_range}
use Rattle.row_fit.specs.Sound.{Sound, reads_reg, reads_rm, has_modrm_rule, opcodes_of, opcodes_are_bytes, operands_are_proper}
use Rattle.plain_spelling.specs.PlainFront.{number_in_vvvv, number_in_opcode, number_asked_of, asks_x, asks_b, asks_vex_w, asks_66, asked_vex, asked_opcode, plain_front_of}
use Rattle.plain_spelling.specs.PlainTail.{prefixes_of}
use Rattle.plain_spelling.specs.Writable.{is_memory_only, is_digit_zero, opcode_is_allowed, opcode_is_plain}
use Rattle.plain_spelling.proofs.FrontRange.{vex_for, vex_of_vex, vex_of_legacy, asked_vex-range}
use Rattle.row_fit.proofs.SameMap.{same_map-refl}
use Rattle.row_fit.proofs.SoundLaws.{all_at, eight, eight_at}
use Rattle.row_relation.specs.Given.{Given, NumbersSuit}
use Rattle.row_relation.proofs.FitFrontCounts.{Counts}
use Rattle.row_relation.proofs.FitFrontBits.{rex_of_vex, no_r, no_x, asked-small, count-most}
use Rattle.row_relation.proofs.FitFrontClass.{vex_repeat, vex_lock}

-- ---- the opcode byte

abbrev bytes_by : Plus → ℕ → List ℕ
bytes_by plus o = elim plus [ PlusRegister ↦ eight o | _ ↦ o ∷ [] ]

abbrev byte_by : Plus → ℕ → ℕ → ℕ
byte_by plus o k = elim plus [ PlusRegister ↦ o + k % 8 | _ ↦ o ]

among : (plus : Plus) (o k : ℕ) (p : ℕ → Bool) → list_all p (bytes_by plus o) ≡ true → p (byte_by plus o k) ≡ true
among NoPlus o k p h = (and_parts (p o) true h).0
among PlusStack o k p h = (and_parts (p o) true h).0
among PlusRegister o k p h =
    let small : k % 8 < 8 = omega arith in
    subst (λ (x : ℕ). p x ≡ true) (eight_at o (k % 8) small) (all_at p (eight o) (k % 8) (omega arith) h)

-- what all opcode bytes of the row pass, the plain front's passes
opcode_passes : (row : Row) (i : Instr) (p : ℕ → Bool) → list_all p (opcodes_of row) ≡ true → p (asked_opcode row i) ≡ true
unfolding asked_opcode
opcode_passes row i p h = among row.plus row.opcode (number_asked_of number_in_opcode row i) p h

abbrev among_by : Plus → ℕ → ℕ → Bool
among_by plus o b = elim plus [ PlusRegister ↦ nat_le o b && nat_lt b (o + 8) | _ ↦ b == o ]

same_number : (n : ℕ) → (n == n) ≡ true
same_number n = eq-eqb n n refl

fits_by : (plus : Plus) (o k : ℕ) → among_by plus o (byte_by plus o k) ≡ true
fits_by NoPlus o k = same_number o
fits_by PlusStack o k = same_number o
fits_by PlusRegister o k = and_from (nat_le o (o + k % 8)) (nat_lt (o + k % 8) (o + 8)) (le-leb o (o + k % 8) (omega arith)) (lt-ltb (o + k % 8) (o + 8) (omega arith))

-- the opcode byte that is asked for is one of the row
pub front_opcode : (row : Row) (i : Instr) → opcode_fits row (asked_opcode row i) ≡ true
unfolding opcode_fits asked_opcode
front_opcode row i = fits_by row.plus row.opcode (number_asked_of number_in_opcode row i)

below_by : (plus : Plus) (o k : ℕ) → nat_lt o 256 ≡ true → nat_lt (o + (elim plus [ PlusRegister ↦ 7 | _ ↦ 0 ])) 256 ≡ true → byte_by plus o k < 256
below_by NoPlus o k h1 h2 = ltb-true o 256 h1
below_by PlusStack o k h1 h2 = ltb-true o 256 h1
below_by PlusRegister o k h1 h2 = (let h = ltb-true (o + 7) 256 h2 in omega arith)

-- it is a byte
pub front_opcode_byte : (row : Row) (i : Instr) → Sound row → asked_opcode row i < 256
unfolding asked_opcode opcodes_are_bytes
front_opcode_byte row i s =
    let bytes : (nat_lt row.opcode 256 && nat_lt (row.opcode + (elim row.plus [ PlusRegister ↦ 7 | _ ↦ 0 ])) 256) ≡ true = s.opcodes in
    below_by row.plus row.opcode (number_asked_of number_in_opcode row i) (and_parts (nat_lt row.opcode 256) _ bytes).0 (and_parts (nat_lt row.opcode 256) _ bytes).1

-- ---- what a ModRM of the row says

memory_method : (how : Method) (m : ModRm) → is_memory_only how ≡ true → place_allows (place_of how) m ≡ true → nat_lt m.mode3 3 ≡ true
unfolding place_allows
memory_method method.MemoryOnly m h k = k
memory_method _ m h k = cc

-- an operand that is only memory limits mod
memory_among : (m : ModRm) (kinds : List OpKind) → list_any (λ kind. is_memory_only (method_of kind)) kinds ≡ true → list_all (λ kind. place_allows (place_of (method_of kind)) m) kinds ≡ true → nat_lt m.mode3 3 ≡ true
memory_among m [] h k = cc
memory_among m (kind ∷ kinds) h k =
    let test : OpKind → Bool = λ q. place_allows (place_of (method_of q)) m in
    let first = (and_parts (test kind) (list_all test kinds) k).0 in
    let rest = (and_parts (test kind) (list_all test kinds) k).1 in
    elim (cases_Bool (is_memory_only (method_of kind))) [
      | inl only ↦ memory_method (method_of kind) m only first
      | inr other ↦ memory_among m kinds (or_right (is_memory_only (method_of kind)) (list_any (λ q. is_memory_only (method_of q)) kinds) other h) rest
    ]

memory_reads_rm : (how : Method) → is_memory_only how ≡ true → reads_rm how ≡ true
memory_reads_rm method.MemoryOnly h = refl
memory_reads_rm _ h = cc

some_reads_rm : (kinds : List OpKind) → list_any (λ kind. is_memory_only (method_of kind)) kinds ≡ true → list_any (λ kind. reads_rm (method_of kind)) kinds ≡ true
some_reads_rm [] h = cc
some_reads_rm (kind ∷ kinds) h = elim (cases_Bool (is_memory_only (method_of kind))) [
  | inl only ↦ rw (memory_reads_rm (method_of kind) only) refl
  | inr other ↦ or_last (reads_rm (method_of kind)) (list_any (λ q. reads_rm (method_of q)) kinds)
      (some_reads_rm kinds (or_right (is_memory_only (method_of kind)) (list_any (λ q. is_memory_only (method_of q)) kinds) other h))
]
  where
    or_last : (a b : Bool) → b ≡ true → (a || b) ≡ true
    or_last true b h = refl
    or_last false b h = h

-- an operand that is only memory stands on a row with a ModRM
memory_has_rule : (row : Row) → operands_are_proper row ≡ true → reads_by is_memory_only row ≡ true → has_modrm_rule row.modrm ≡ true
unfolding operands_are_proper
memory_has_rule row h reads =
    let none = not (reads_by reads_reg row) && not (reads_by reads_rm row) in
    let first = (and_parts (none || has_modrm_rule row.modrm) _ h).0 in
    or_right none (has_modrm_rule row.modrm) (no_both (reads_by reads_reg row) (reads_by reads_rm row) (some_reads_rm row.ops reads)) first
  where
    no_both : (a b : Bool) → b ≡ true → (not a && not b) ≡ false
    no_both true b h = refl
    no_both false b h = rw h refl

rule_has_one : (plus : Plus) (rule : ModRmRule) → has_modrm_rule rule ≡ true → modrm_rule_fits plus rule None ≡ false
unfolding modrm_rule_fits
rule_has_one plus NoModRm h = cc
rule_has_one plus AnyModRm h = refl
rule_has_one plus (Digit d) h = refl
rule_has_one plus (FixedByte b) h = refl

memory_of_row : (row : Row) (m : Option ModRm) → Sound row → place_fits row m ≡ true → modrm_rule_fits row.plus row.modrm m ≡ true → reads_by is_memory_only row ≡ true → has_memory_mode m ≡ true
unfolding place_fits
memory_of_row row None s place rule reads = (let e = rule_has_one row.plus row.modrm (memory_has_rule row s.operands reads) in cc)
memory_of_row row (Some m) s place rule reads = memory_among m row.ops reads (and_parts (place_allows row.place m) _ place).1

zero_of_rule : (plus : Plus) (rule : ModRmRule) (m : Option ModRm) → is_digit_zero rule ≡ true → modrm_rule_fits plus rule m ≡ true → has_reg_zero m ≡ true
unfolding modrm_rule_fits
zero_of_rule plus NoModRm m z h = cc
zero_of_rule plus AnyModRm m z h = cc
zero_of_rule plus (Digit d) None z h = cc
zero_of_rule plus (Digit d) (Some m) z h = rw (eqb-true m.reg d h ∙ eqb-true d 0 z) refl
zero_of_rule plus (FixedByte b) m z h = cc

-- ---- the opcode byte with its ModRM

or_with : (a b c : Bool) → (b ≡ true → c ≡ true) → (a || b) ≡ true → (a || c) ≡ true
or_with true b c f h = refl
or_with false b c f h = f h

and_with : (a b c : Bool) → (b ≡ true → c ≡ true) → (a && b) ≡ true → (a && c) ≡ true
and_with true b c f h = f h
and_with false b c f h = h

-- what is allowed on a row is allowed with a ModRM that says what the row does
allowed_by : (bits : Bits) (map : Map) (b : ℕ) (m : Option ModRm) (memory nil : Bool) → (memory ≡ true → has_memory_mode m ≡ true) → (nil ≡ true → has_reg_zero m ≡ true)
    → (not (is_map_one map) || ((not (b == 0xC4 || b == 0xC5) || (not (is_64 bits) && memory)) && ((not (b == 0x62) || memory) && (not (b == 0x8F) || nil)))) ≡ true
    → opcode_allows bits map b m ≡ true
unfolding opcode_allows
allowed_by bits One b m memory nil f z h =
    let far = not (b == 0xC4 || b == 0xC5) || (not (is_64 bits) && memory) in
    let bound = not (b == 0x62) || memory in
    let pop = not (b == 0x8F) || nil in
    let rest = (and_parts far (bound && pop) h).1 in
    and_from (not (b == 0xC4 || b == 0xC5) || (not (is_64 bits) && has_memory_mode m)) ((not (b == 0x62) || has_memory_mode m) && (not (b == 0x8F) || has_reg_zero m))
    (or_with (not (b == 0xC4 || b == 0xC5)) (not (is_64 bits) && memory) (not (is_64 bits) && has_memory_mode m) (and_with (not (is_64 bits)) memory (has_memory_mode m) f) (and_parts far (bound && pop) h).0)
    (and_from (not (b == 0x62) || has_memory_mode m) (not (b == 0x8F) || has_reg_zero m)
    (or_with (not (b == 0x62)) memory (has_memory_mode m) f (and_parts bound pop rest).0)
    (or_with (not (b == 0x8F)) nil (has_reg_zero m) z (and_parts bound pop rest).1))
allowed_by bits M0f b m memory nil f z h = refl
allowed_by bits M0f38 b m memory nil f z h = refl
allowed_by bits M0f3a b m memory nil f z h = refl

-- the tests that the opcode bytes of a legacy row pass
record OpcodesPass (bits : Bits) (row : Row) : Type 0 where
  is_opcode : list_all (is_opcode bits row.map) (opcodes_of row) ≡ true
  is_allowed : list_all (opcode_is_allowed bits row) (opcodes_of row) ≡ true

opcodes_pass : (bits : Bits) (row : Row) → is_vex_row row ≡ false → opcode_is_plain bits row ≡ true → OpcodesPass bits row
unfolding opcode_is_plain
opcodes_pass bits row legacy h =
    let a = list_all (is_opcode bits row.map) (opcodes_of row) in
    let b = list_all (opcode_is_allowed bits row) (opcodes_of row) in
    let k = or_right (is_vex_row row) (a && b) legacy h in
    record { is_opcode = (and_parts a b k).0; is_allowed = (and_parts a b k).1 }

-- behind a legacy front it is an opcode byte
pub front_is_opcode : (bits : Bits) (row : Row) (i : Instr) → is_vex_row row ≡ false → opcode_is_plain bits row ≡ true → is_opcode bits row.map (asked_opcode row i) ≡ true
front_is_opcode bits row i legacy h = opcode_passes row i (is_opcode bits row.map) (opcodes_pass bits row legacy h).is_opcode

-- which allows the ModRM
pub front_is_allowed : (bits : Bits) (row : Row) (i : Instr) (m : Option ModRm) → Sound row → is_vex_row row ≡ false → opcode_is_plain bits row ≡ true → place_fits row m ≡ true → modrm_rule_fits row.plus row.modrm m ≡ true → opcode_allows bits row.map (asked_opcode row i) m ≡ true
unfolding opcode_is_allowed
front_is_allowed bits row i m s legacy h place rule =
    allowed_by bits row.map (asked_opcode row i) m (reads_by is_memory_only row) (is_digit_zero row.modrm)
    (memory_of_row row m s place rule) (λ z. zero_of_rule row.plus row.modrm m z rule)
    (opcode_passes row i (opcode_is_allowed bits row) (opcodes_pass bits row legacy h).is_allowed)

-- ---- the VEX

-- the VEX that is asked for has fields in range
pub front_vex_range : (bits : Bits) (row : Row) (i : Instr) → Sound row → NumbersSuit bits row i → vex_in_range (asked_vex row i) ≡ true
front_vex_range bits row i s n =
    let small = n.vvvv in
    let most = count-most bits in
    asked_vex-range row i s (omega arith)

of_mode_by : (three : Bool) (x y : Bool) → x ≡ true → y ≡ true → (if three then x else y) ≡ true
of_mode_by true x y hx hy = hx
of_mode_by false x y hx hy = hy

vex_of_mode : (bits : Bits) (row : Row) (i : Instr) → NumbersSuit bits row i → is_vex_of_mode bits (vex_for row i) ≡ true
unfolding is_vex_of_mode
vex_of_mode bits row i n = elim (cases_Bool (is_64 bits)) [
  | inl long ↦ rw long refl
  | inr short ↦
      rw (no_r bits row i short n)
      (ap (λ b. is_64 bits || b)
      (of_mode_by (not (same_map row.map M0f) || (asks_x row i || (asks_b row i || asks_vex_w row))) (not (asks_x row i)) (nat_lt (number_asked_of number_in_vvvv row i) 8)
      (ap not (no_x bits row i short n)) (lt-ltb (number_asked_of number_in_vvvv row i) 8 (asked-small bits (number_asked_of number_in_vvvv row i) short n.vvvv)))
      ∙ or-true (is_64 bits))
]

-- nothing before a VEX forbids it
not_forbidden : (bits : Bits) (ps : List ℕ) → has_lock ps ≡ false → has_66 ps ≡ false → list_any is_repeat ps ≡ false → counting_rex bits ps ≡ None → forbids_vex bits ps ≡ false
unfolding forbids_vex
not_forbidden bits ps l s r x = rw l (rw s (rw r (rw x refl)))

no_66_of_vex : (bits : Bits) (row : Row) → is_vex_row row ≡ true → asks_66 bits row ≡ false
unfolding asks_66
no_66_of_vex bits row vex = rw vex refl

-- no prefix of the plain front forbids it
pub front_allows_vex : (bits : Bits) (ip : ℕ) (row : Row) (i : Instr) → Given bits ip row i → Counts bits (plain_front_of bits row i) → is_vex_row row ≡ true → forbids_vex bits (prefixes_of (plain_front_of bits row i)) ≡ false
unfolding plain_front_of
front_allows_vex bits ip row i g c vex =
    not_forbidden bits (prefixes_of (plain_front_of bits row i)) (c.lock ∙ vex_lock bits ip row i g vex) (c.size66 ∙ no_66_of_vex bits row vex)
    (c.any_repeat (vex_repeat bits ip row i g vex)) (c.rex ∙ rex_of_vex row i vex)

vex_fits_for : (bits : Bits) (row : Row) (ps : List ℕ) (v : Vex) (o : ℕ) (m : Option ModRm) → is_vex_row row ≡ true → v.map ≡ row.map → forbids_vex bits ps ≡ false → is_vex_of_mode bits v ≡ true → vex_fits bits row ps (Some v) o m ≡ true
unfolding vex_fits
vex_fits_for bits row ps v o m vex map allowed mode =
    and_from (is_vex_row row) (same_map v.map row.map && (not (forbids_vex bits ps) && is_vex_of_mode bits v)) vex
    (and_from (same_map v.map row.map) (not (forbids_vex bits ps) && is_vex_of_mode bits v) (ap (λ map. same_map map row.map) map ∙ same_map-refl row.map)
    (and_from (not (forbids_vex bits ps)) (is_vex_of_mode bits v) (ap not allowed) mode))

vex_fits_none : (bits : Bits) (row : Row) (ps : List ℕ) (o : ℕ) (m : Option ModRm) → is_vex_row row ≡ false → is_opcode bits row.map o ≡ true → opcode_allows bits row.map o m ≡ true → vex_fits bits row ps None o m ≡ true
unfolding vex_fits opcode_is_kept
vex_fits_none bits row ps o m legacy h k = rw legacy (and_from (is_opcode bits row.map o) (opcode_allows bits row.map o m) h k)

-- the VEX fits with any opcode byte and ModRM, and the want of one with those that may stand there
pub front_vex : (bits : Bits) (ip : ℕ) (row : Row) (i : Instr) (o : ℕ) (m : Option ModRm) → Given bits ip row i → NumbersSuit bits row i → Counts bits (plain_front_of bits row i)
    → (is_vex_row row ≡ false → (is_opcode bits row.map o ≡ true) × (opcode_allows bits row.map o m ≡ true))
    → vex_fits bits row (prefixes_of (plain_front_of bits row i)) (asked_vex row i) o m ≡ true
front_vex bits ip row i o m g n c h = elim (cases_Bool (is_vex_row row)) [
  | inl vex ↦
      rw (vex_of_vex row i vex)
      (vex_fits_for bits row (prefixes_of (plain_front_of bits row i)) (vex_for row i) o m vex refl (front_allows_vex bits ip row i g c vex) (vex_of_mode bits row i n))
  | inr legacy ↦
      rw (vex_of_legacy row i legacy)
      (vex_fits_none bits row (prefixes_of (plain_front_of bits row i)) o m legacy (h legacy).0 (h legacy).1)
]
