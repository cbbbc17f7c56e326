-- What a sound row meets: each condition by its name, and an opcode byte that is no prefix and no escape byte.
use Rattle.std.proofs.Common.{◌≡◌, inl, inr, ℕ, zero, suc, ◌+◌, ◌-◌, ◌<◌, ◌≤◌, Bool, true, false, ◌&&◌, ◌||◌, not, ◌==◌, nat_le, nat_lt, List, [], ◌∷◌, length, get_or, refl, ap, sym, ◌∙◌, subst, arith, if◌then◌else◌}
use Rattle.instruction_parts.proofs.Tests.{or_right}
use Rattle.std.proofs.lemmas.Bool.{leb-true, and_parts, cases_Bool, eqb-true, not-true}
use Rattle.std.proofs.lemmas.List.Folds.{list_all_at}
use Rattle.std.specs.List.{list_any, list_all}
use Rattle.x86_values.specs.declared.Bits.{Bits}
use Rattle.x86_values.specs.declared.Bits.TheVariants.{B16, B32, B64}
use Rattle.instruction_parts.specs.declared.row_types.Row.{Row}
use Rattle.instruction_parts.specs.declared.row_types.Map.{Map}
use Rattle.instruction_parts.specs.declared.row_types.Map.TheVariants.{One, M0f, M0f38, M0f3a}
use Rattle.instruction_parts.specs.declared.row_types.Plus.{Plus}
use Rattle.instruction_parts.specs.declared.row_types.Plus.TheVariants.{No as NoPlus, Register as PlusRegister, Stack as PlusStack}
use Rattle.instruction_parts.specs.Counting.{is_prefix}
use Rattle.instruction_parts.specs.Sizes.{exists_in, is_vex_row}
use Rattle.row_fit.specs.Fits.{opcode_fits, reads_by, is_vvvv, is_map_one}
use Rattle.row_fit.specs.Sound.{sound, Sound, has_four_operands, opcodes_are_bytes, kind_is_proper, reads_last_byte, rule_in_range, plus_is_proper, vex_is_proper, legacy_is_proper, opcode_is_proper, opcodes_of, is_no_w, is_no_l, opcode_is_no_prefix, opcode_is_no_prefix_in, operands_are_proper, operands_are_apart, immediates_are_short, begins_nothing}
use borrow.Author.Tests.{ltb-true}

or_none : (a b : Bool) → (a || b) ≡ false → (a ≡ false) × (b ≡ false)
or_none true b h = cc
or_none false b h = (refl, h)

-- a test that holds of all numbers of a list holds at an index
pub all_at : (p : ℕ → Bool) (xs : List ℕ) (i : ℕ) → i < length xs → list_all p xs ≡ true → p (get_or xs i 0) ≡ true
all_at p xs i h all = elim (cases_Bool (p (get_or xs i 0))) [
  | inl yes1 ↦ yes1
  | inr no1 ↦ (let e = list_all_at p xs i 0 h no1 in cc)
]

none_at : (p : ℕ → Bool) (xs : List ℕ) (i : ℕ) → i < length xs → list_any p xs ≡ false → p (get_or xs i 0) ≡ false
none_at p [] i h none = absurd (omega arith)
none_at p (x ∷ xs) zero h none = (or_none (p x) (list_any p xs) none).0
none_at p (x ∷ xs) (suc i) h none = none_at p xs i (omega arith) (or_none (p x) (list_any p xs) none).1

-- eight numbers in a row
abbrev pub eight : ℕ → List ℕ
eight r = r ∷ (r + 1) ∷ (r + 2) ∷ (r + 3) ∷ (r + 4) ∷ (r + 5) ∷ (r + 6) ∷ (r + 7) ∷ []

-- the eight numbers from r on, by index
pub eight_at : (r k : ℕ) → k < 8 → get_or (eight r) k 0 ≡ r + k
eight_at r zero h = omega arith
eight_at r (suc zero) h = omega arith
eight_at r (suc (suc zero)) h = omega arith
eight_at r (suc (suc (suc zero))) h = omega arith
eight_at r (suc (suc (suc (suc zero)))) h = omega arith
eight_at r (suc (suc (suc (suc (suc zero))))) h = omega arith
eight_at r (suc (suc (suc (suc (suc (suc zero)))))) h = omega arith
eight_at r (suc (suc (suc (suc (suc (suc (suc zero))))))) h = omega arith
eight_at r (suc (suc (suc (suc (suc (suc (suc (suc k)))))))) h = absurd (omega arith)

among_eight : (r o : ℕ) → (nat_le r o && nat_lt o (r + 8)) ≡ true → (o - r < 8) × (r + (o - r) ≡ o)
among_eight r o h =
    let low : r ≤ o = leb-true r o (and_parts (nat_le r o) (nat_lt o (r + 8)) h).0 in
    let high : o < r + 8 = ltb-true o (r + 8) (and_parts (nat_le r o) (nat_lt o (r + 8)) h).1 in
    (omega arith, omega arith)

-- the opcode byte of a fitting spelling is one of the row's
opcode_among : (row : Row) (o : ℕ) → opcode_fits row o ≡ true → (i : ℕ) × (i < length (opcodes_of row)) × (get_or (opcodes_of row) i 0 ≡ o)
unfolding opcode_fits
opcode_among row o h = by_plus row.plus row.opcode o h
  where
    by_plus : (plus : Plus) (r o : ℕ)
        → (elim plus [ PlusRegister ↦ nat_le r o && nat_lt o (r + 8) | _ ↦ o == r ]) ≡ true
        → (let xs : List ℕ = elim plus [ PlusRegister ↦ eight r | _ ↦ r ∷ [] ] in (i : ℕ) × (i < length xs) × (get_or xs i 0 ≡ o))
    by_plus NoPlus r o h = (0, omega arith, sym (eqb-true o r h))
    by_plus PlusStack r o h = (0, omega arith, sym (eqb-true o r h))
    by_plus PlusRegister r o h =
        let e = among_eight r o h in
        (o - r, e.0, eight_at r (o - r) e.0 ∙ e.1)

-- a sound row meets each condition
pub sound_conditions : (row : Row) → sound row ≡ true → Sound row
unfolding sound
sound_conditions row h =
    let a = has_four_operands row in
    let b = opcodes_are_bytes row in
    let c = rule_in_range row.modrm in
    let d = plus_is_proper row in
    let e = kind_is_proper row in
    let f = opcode_is_no_prefix row in
    let g = operands_are_proper row in
    let i = operands_are_apart row in
    let k = immediates_are_short row in
    let h1 = (and_parts a (b && (c && (d && (e && (f && (g && (i && k))))))) h).1 in
    let h2 = (and_parts b (c && (d && (e && (f && (g && (i && k)))))) h1).1 in
    let h3 = (and_parts c (d && (e && (f && (g && (i && k))))) h2).1 in
    let h4 = (and_parts d (e && (f && (g && (i && k)))) h3).1 in
    let h5 = (and_parts e (f && (g && (i && k))) h4).1 in
    let h6 = (and_parts f (g && (i && k)) h5).1 in
    let h7 = (and_parts g (i && k) h6).1 in
    record {
      four_operands = (and_parts a (b && (c && (d && (e && (f && (g && (i && k))))))) h).0;
      opcodes = (and_parts b (c && (d && (e && (f && (g && (i && k)))))) h1).0;
      rule = (and_parts c (d && (e && (f && (g && (i && k))))) h2).0;
      plus = (and_parts d (e && (f && (g && (i && k)))) h3).0;
      kind = (and_parts e (f && (g && (i && k))) h4).0;
      no_prefix = (and_parts f (g && (i && k)) h5).0;
      operands = (and_parts g (i && k) h6).0;
      apart = (and_parts i k h7).0;
      immediates = (and_parts i k h7).1;
    }

if_false : (t a b : Bool) → t ≡ false → (if t then a else b) ≡ true → b ≡ true
if_false true a b n h = cc
if_false false a b n h = h

-- the opcode bytes of a legacy row are proper
legacy_opcodes : (row : Row) → is_vex_row row ≡ false → kind_is_proper row ≡ true → list_all (opcode_is_proper row.map) (opcodes_of row) ≡ true
unfolding kind_is_proper legacy_is_proper
legacy_opcodes row legacy h =
    let no_vvvv = not (reads_by is_vvvv row) && not (reads_by reads_last_byte row) in
    let opcodes = list_all (opcode_is_proper row.map) (opcodes_of row) in
    let l = if_false (is_vex_row row) (vex_is_proper row) (legacy_is_proper row) legacy h in
    (and_parts opcodes no_vvvv (and_parts (is_no_l row.l) (opcodes && no_vvvv) (and_parts (is_no_w row.w) (is_no_l row.l && (opcodes && no_vvvv)) l).1).1).0

-- what holds in each mode holds in a mode
each_mode : (p : Bits → Bool) (bits : Bits) → p B16 ≡ true → p B32 ≡ true → p B64 ≡ true → p bits ≡ true
each_mode p B16 h1 h2 h3 = h1
each_mode p B32 h1 h2 h3 = h2
each_mode p B64 h1 h2 h3 = h3

no_prefix_of_mode : (bits : Bits) (row : Row) → is_map_one row.map ≡ true → opcode_is_no_prefix row ≡ true → exists_in bits row ≡ true → list_any (is_prefix bits) (opcodes_of row) ≡ false
unfolding opcode_is_no_prefix opcode_is_no_prefix_in
no_prefix_of_mode bits row one h here =
    let a = opcode_is_no_prefix_in B16 row in
    let b = opcode_is_no_prefix_in B32 row in
    let c = opcode_is_no_prefix_in B64 row in
    let all = or_right (not (is_map_one row.map)) (a && (b && c)) (ap not one) h in
    not-true (list_any (is_prefix bits) (opcodes_of row))
    (or_right (not (exists_in bits row)) (not (list_any (is_prefix bits) (opcodes_of row))) (ap not here)
    (each_mode (λ m. opcode_is_no_prefix_in m row) bits (and_parts a (b && c) all).0 (and_parts b c (and_parts a (b && c) all).1).0 (and_parts b c (and_parts a (b && c) all).1).1))

begins_nothing_from : (bits : Bits) (map : Map) (o : ℕ) → opcode_is_proper map o ≡ true → (is_map_one map ≡ true → is_prefix bits o ≡ false) → begins_nothing bits map o ≡ true
unfolding begins_nothing opcode_is_proper
begins_nothing_from bits One o h p =
    let all = not-true ((((o == 0x0F) || (o == 0x66)) || (o == 0xF2)) || (o == 0xF3)) h in
    let first = or_none ((o == 0x0F) || (o == 0x66)) (o == 0xF2) (or_none (((o == 0x0F) || (o == 0x66)) || (o == 0xF2)) (o == 0xF3) all).0 in
    rw (p refl) (rw (or_none (o == 0x0F) (o == 0x66) first.0).0 refl)
begins_nothing_from bits M0f o h p =
    let all = or_none (o == 0x38) (o == 0x3A) (not-true ((o == 0x38) || (o == 0x3A)) h) in
    rw all.0 (rw all.1 refl)
begins_nothing_from bits M0f38 o h p = refl
begins_nothing_from bits M0f3a o h p = refl

-- **in a mode in which a sound legacy row exists, its opcode byte is no prefix and no escape byte**
pub sound_opcode : (bits : Bits) (row : Row) (o : ℕ) → sound row ≡ true → is_vex_row row ≡ false → exists_in bits row ≡ true → opcode_fits row o ≡ true → begins_nothing bits row.map o ≡ true
sound_opcode bits row o h legacy here fit =
    let parts = sound_conditions row h in
    let at = opcode_among row o fit in
    let proper = subst (λ (x : ℕ). opcode_is_proper row.map x ≡ true) at.2 (all_at (opcode_is_proper row.map) (opcodes_of row) at.0 at.1 (legacy_opcodes row legacy parts.kind)) in
    begins_nothing_from bits row.map o proper
    (λ one. subst (λ (x : ℕ). is_prefix bits x ≡ false) at.2 (none_at (is_prefix bits) (opcodes_of row) at.0 at.1 (no_prefix_of_mode bits row one parts.no_prefix here)))
