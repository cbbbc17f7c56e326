-- The lengths of the parts that are found in a front and a tail are those of the spelling.
use Rattle.std.proofs.Common.{◌≡◌, ℕ, ◌+◌, ◌-◌, ◌*◌, ◌/◌, ◌%◌, ◌<◌, ◌⊎◌, inl, inr, append_assoc, Bool, true, false, ◌&&◌, ◌==◌, nat_lt, List, [], ◌∷◌, ◌++◌, length, length-append, Option, Some, None, is_some, is_none, refl, ap, sym, ◌∙◌, arith, if◌then◌else◌}
use Rattle.std.proofs.lemmas.Bool.{and_parts, cases_Bool, eqb-true}
use Rattle.std.specs.Prelude.{slice_get}
use Rattle.std.specs.Option.{option_map}
use Rattle.x86_values.specs.declared.Bits.{Bits}
use Rattle.instruction_parts.specs.declared.row_types.Row.{Row}
use Rattle.instruction_parts.specs.declared.row_types.Map.{Map}
use Rattle.instruction_parts.specs.declared.row_types.Plus.{Plus}
use Rattle.instruction_parts.specs.declared.row_types.ModRmRule.{ModRmRule}
use Rattle.instruction_parts.specs.declared.row_types.ModRmRule.TheVariants.{No as NoModRm, Any as AnyModRm, Digit, Fixed as FixedByte}
use Rattle.instruction_parts.specs.declared.spelling.Vex.{Vex}
use Rattle.instruction_parts.specs.declared.spelling.ModRm.{ModRm}
use Rattle.instruction_parts.specs.declared.spelling.Sib.{Sib}
use Rattle.instruction_parts.specs.declared.spelling.Spelling.{Spelling}
use Rattle.instruction_parts.specs.declared.spelling.PrefixState.{PrefixState}
use Rattle.instruction_parts.specs.Bytes.{front_bytes, tail_bytes, lead_bytes, spelled_map, modrm_byte, sib_byte, modrm_bytes, sib_bytes, state_of, state_from}
use Rattle.instruction_parts.specs.Sizes.{state_address_size, state_size, size_bytes}
use Rattle.row_fit.specs.Fits.{Fits, opcode_and_modrm_fit, opcode_fits, modrm_rule_fits, place_fits, lengths_fit, address_fits, immediates_bytes, same_bool, reads_mode, reads_by, is_offset, needs_sib, displacement_bytes, fields_in_range, are_bytes, vex_in_range, modrm_in_range, sib_in_range}
use Rattle.row_fit.specs.Sound.{has_modrm_rule}
use Rattle.modrm_sib.specs.Parts.{modrm_of, sib_of, modrm_of_byte, sib_of_byte, modrm_in, takes_sib, displacement_len}
use Rattle.decoder.specs.declared.byte_offsets.layout.Lengths.{Lengths}
use Rattle.decoder.specs.ByteOffsets.Offsets.{lengths_of}
use Rattle.decoder.specs.ByteOffsets.Tails.{sib_in, lengths_in}
use borrow.Author.Tests.{ltb-true}

-- ---- the fields of a byte

three_fields : (a b c n : ℕ) → b < 8 → c < 8 → n ≡ a * 64 + b * 8 + c → (n / 64 ≡ a) × (n / 8 % 8 ≡ b) × (n % 8 ≡ c)
three_fields a b c n hb hc e = (omega arith, omega arith, omega arith)

modrm_back : (m : ModRm) → modrm_in_range (Some m) ≡ true → modrm_of_byte (modrm_byte m) ≡ m
unfolding modrm_of_byte modrm_in_range
modrm_back m h =
    let r = (and_parts (nat_lt m.mode3 4) (nat_lt m.reg 8 && nat_lt m.rm 8) h).1 in
    let reg = ltb-true m.reg 8 (and_parts (nat_lt m.reg 8) (nat_lt m.rm 8) r).0 in
    let rm = ltb-true m.rm 8 (and_parts (nat_lt m.reg 8) (nat_lt m.rm 8) r).1 in
    let b = modrm_byte m in
    let e = three_fields m.mode3 m.reg m.rm b reg rm refl in
    ap (λ x. modrm_of x (b / 8 % 8) (b % 8)) e.0 ∙ ap (λ x. modrm_of m.mode3 x (b % 8)) e.1 ∙ ap (λ x. modrm_of m.mode3 m.reg x) e.2

sib_back : (s : Sib) → sib_in_range (Some s) ≡ true → sib_of_byte (sib_byte s) ≡ s
unfolding sib_of_byte sib_in_range
sib_back s h =
    let r = (and_parts (nat_lt s.scale 4) (nat_lt s.index 8 && nat_lt s.base 8) h).1 in
    let index = ltb-true s.index 8 (and_parts (nat_lt s.index 8) (nat_lt s.base 8) r).0 in
    let base = ltb-true s.base 8 (and_parts (nat_lt s.index 8) (nat_lt s.base 8) r).1 in
    let b = sib_byte s in
    let e = three_fields s.scale s.index s.base b index base refl in
    ap (λ x. sib_of x (b / 8 % 8) (b % 8)) e.0 ∙ ap (λ x. sib_of s.scale x (b % 8)) e.1 ∙ ap (λ x. sib_of s.scale s.index x) e.2

-- ---- ModRM

rule_without : (plus : Plus) (rule : ModRmRule) → modrm_rule_fits plus rule None ≡ true → has_modrm_rule rule ≡ false
unfolding modrm_rule_fits
rule_without plus NoModRm h = refl
rule_without plus AnyModRm h = cc
rule_without plus (Digit d) h = cc
rule_without plus (FixedByte b) h = cc

rule_with : (plus : Plus) (rule : ModRmRule) (m : ModRm) → modrm_rule_fits plus rule (Some m) ≡ true → has_modrm_rule rule ≡ true
unfolding modrm_rule_fits
rule_with plus NoModRm m h = cc
rule_with plus AnyModRm m h = refl
rule_with plus (Digit d) m h = refl
rule_with plus (FixedByte b) m h = refl

modrm_none : (row : Row) (xs : List ℕ) → has_modrm_rule row.modrm ≡ false → modrm_in row xs ≡ None
modrm_none row [] h = refl
modrm_none row (x ∷ xs) h = ap (λ b. if b then Some (modrm_of_byte x) else None) h

modrm_found : (row : Row) (m : Option ModRm) (xs : List ℕ) → modrm_rule_fits row.plus row.modrm m ≡ true → modrm_in_range m ≡ true →
    modrm_in row (modrm_bytes m ++ xs) ≡ m
modrm_found row None xs rule range = modrm_none row xs (rule_without row.plus row.modrm rule)
modrm_found row (Some m) xs rule range =
    ap (λ b. if b then Some (modrm_of_byte (modrm_byte m)) else None) (rule_with row.plus row.modrm m rule) ∙ ap Some (modrm_back m range)

-- ---- SIB and displacement

no_sib : (sib : Option Sib) → is_none sib ≡ true → None ≡ sib
no_sib None h = refl
no_sib (Some s) h = cc

same_from : (a b : Bool) → same_bool a b ≡ true → a ≡ b
same_from true true h = refl
same_from true false h = cc
same_from false true h = cc
same_from false false h = refl

-- a SIB that is taken, or that is not
sib_taken : (bits : Bits) (row : Row) (state : PrefixState) (m : ModRm) (sib : Option Sib) (xs : List ℕ) → takes_sib bits row state m ≡ is_some sib →
    sib_in_range sib ≡ true → sib_in bits row state (Some m) (modrm_byte m ∷ (sib_bytes sib ++ xs)) ≡ sib
unfolding sib_in
sib_taken bits row state m None xs h range =
    ap (λ b. if b then option_map sib_of_byte (slice_get (modrm_byte m ∷ xs) 1) else None) h
sib_taken bits row state m (Some s) xs h range =
    ap (λ b. if b then Some (sib_of_byte (sib_byte s)) else None) h ∙ ap Some (sib_back s range)

takes-by : (bits : Bits) (row : Row) (state : PrefixState) (m : ModRm) (b : Bool) → reads_mode row ≡ b →
    takes_sib bits row state m ≡ (b && needs_sib (state_address_size bits state) m)
unfolding takes_sib
takes-by bits row state m b h = ap (λ x. x && needs_sib (state_address_size bits state) m) h

sib_found : (bits : Bits) (row : Row) (state : PrefixState) (m : Option ModRm) (sib : Option Sib) (given : ℕ) (xs : List ℕ) →
    address_fits (state_address_size bits state) row m sib given ≡ true → sib_in_range sib ≡ true →
    sib_in bits row state m (modrm_bytes m ++ (sib_bytes sib ++ xs)) ≡ sib
unfolding sib_in address_fits
sib_found bits row state None sib given xs h range =
    no_sib sib (and_parts (is_none sib) (given == (if reads_by is_offset row then size_bytes (state_address_size bits state) else 0)) h).0
sib_found bits row state (Some m) sib given xs h range = sib_taken bits row state m sib xs (taken (cases_Bool (reads_mode row))) range
  where
    asize : Bits
    asize = state_address_size bits state

    taken : (reads_mode row ≡ true) ⊎ (reads_mode row ≡ false) → takes_sib bits row state m ≡ is_some sib
    taken (inl e) =
        let f : (same_bool (is_some sib) (needs_sib asize m) && given == displacement_bytes asize m sib) ≡ true =
        ap (λ b. if b then same_bool (is_some sib) (needs_sib asize m) && given == displacement_bytes asize m sib else is_none sib && given == 0) (sym e) ∙ h in
        takes-by bits row state m true e
        ∙ sym (same_from (is_some sib) (needs_sib asize m) (and_parts (same_bool (is_some sib) (needs_sib asize m)) (given == displacement_bytes asize m sib) f).0)
    taken (inr e) =
        let f : (is_none sib && given == 0) ≡ true =
        ap (λ b. if b then same_bool (is_some sib) (needs_sib asize m) && given == displacement_bytes asize m sib else is_none sib && given == 0) (sym e) ∙ h in
        takes-by bits row state m false e ∙ ap is_some (no_sib sib (and_parts (is_none sib) (given == 0) f).0)

displacement_found : (bits : Bits) (row : Row) (state : PrefixState) (m : Option ModRm) (sib : Option Sib) (given : ℕ) →
    address_fits (state_address_size bits state) row m sib given ≡ true → displacement_len bits row state m sib ≡ given
unfolding address_fits displacement_len
displacement_found bits row state None sib given h =
    let asked : ℕ = if reads_by is_offset row then size_bytes (state_address_size bits state) else 0 in
    sym (eqb-true given asked (and_parts (is_none sib) (given == asked) h).1)
displacement_found bits row state (Some m) sib given h = found (cases_Bool (reads_mode row))
  where
    asize : Bits
    asize = state_address_size bits state

    found : (reads_mode row ≡ true) ⊎ (reads_mode row ≡ false) → (if reads_mode row then displacement_bytes asize m sib else 0) ≡ given
    found (inl e) =
        let f : (same_bool (is_some sib) (needs_sib asize m) && given == displacement_bytes asize m sib) ≡ true =
        ap (λ b. if b then same_bool (is_some sib) (needs_sib asize m) && given == displacement_bytes asize m sib else is_none sib && given == 0) (sym e) ∙ h in
        ap (λ b. if b then displacement_bytes asize m sib else 0) e
        ∙ sym (eqb-true given (displacement_bytes asize m sib) (and_parts (same_bool (is_some sib) (needs_sib asize m)) (given == displacement_bytes asize m sib) f).1)
    found (inr e) =
        let f : (is_none sib && given == 0) ≡ true =
        ap (λ b. if b then same_bool (is_some sib) (needs_sib asize m) && given == displacement_bytes asize m sib else is_none sib && given == 0) (sym e) ∙ h in
        ap (λ b. if b then displacement_bytes asize m sib else 0) e ∙ sym (eqb-true given 0 (and_parts (is_none sib) (given == 0) f).1)

-- ---- all of them

lead_same : (map : Map) (vex : Option Vex) → lead_bytes (spelled_map map vex) vex ≡ lead_bytes map vex
unfolding lead_bytes
lead_same map None = refl
lead_same map (Some v) = refl

-- the front of a spelling uses its prefixes, its VEX or escape bytes
pub used_is : (bits : Bits) (row : Row) (s : Spelling) → (state_of bits row s).used ≡ length s.prefixes.items + length (lead_bytes row.map s.vex)
unfolding state_of state_from front_bytes
used_is bits row s = length-append s.prefixes.items (lead_bytes row.map s.vex)

-- the lead bytes of a spelling are those of its row's map and its VEX
pub lead_is : (bits : Bits) (row : Row) (s : Spelling) → lead_bytes (state_of bits row s).map (state_of bits row s).vex ≡ lead_bytes row.map s.vex
unfolding state_of state_from
lead_is bits row s = lead_same row.map s.vex

abbrev made : ℕ → ℕ → ℕ → ℕ → ℕ → Lengths
made p l m s d = record { prefixes = p; lead = l; modrm = m; sib = s; displacement = d }

lengths-alike : (p p' l l' m m' s s' d d' : ℕ) → p ≡ p' → l ≡ l' → m ≡ m' → s ≡ s' → d ≡ d' → made p l m s d ≡ made p' l' m' s' d'
lengths-alike p p' l l' m m' s s' d d' a b c e f = cc

-- the tail, part by part
parted : (s : Spelling) (rest : List ℕ) →
    tail_bytes s ++ rest ≡ modrm_bytes s.modrm ++ (sib_bytes s.sib ++ (s.disp.items ++ (s.imm.items ++ rest)))
unfolding tail_bytes
parted s rest = simp append_assoc

rule_of : (row : Row) (o : ℕ) (m : Option ModRm) → opcode_and_modrm_fit row o m ≡ true → modrm_rule_fits row.plus row.modrm m ≡ true
unfolding opcode_and_modrm_fit
rule_of row o m h =
    (and_parts (modrm_rule_fits row.plus row.modrm m) (place_fits row m)
    (and_parts (opcode_fits row o) (modrm_rule_fits row.plus row.modrm m && place_fits row m) h).1).0

address_of : (bits : Bits) (row : Row) (state : PrefixState) (m : Option ModRm) (sib : Option Sib) (disp imm : ℕ) →
    lengths_fit bits row state m sib disp imm ≡ true → address_fits (state_address_size bits state) row m sib disp ≡ true
unfolding lengths_fit
address_of bits row state m sib disp imm h =
    (and_parts (address_fits (state_address_size bits state) row m sib disp) (imm == immediates_bytes (state_size bits row state) row) h).0

-- the immediates follow the displacement
pub immediates_of : (bits : Bits) (row : Row) (state : PrefixState) (m : Option ModRm) (sib : Option Sib) (disp imm : ℕ) →
    lengths_fit bits row state m sib disp imm ≡ true → imm ≡ immediates_bytes (state_size bits row state) row
unfolding lengths_fit
immediates_of bits row state m sib disp imm h =
    eqb-true imm (immediates_bytes (state_size bits row state) row)
    (and_parts (address_fits (state_address_size bits state) row m sib disp) (imm == immediates_bytes (state_size bits row state) row) h).1

-- what stands in the ranges of the fields
ranges_of : (s : Spelling) → fields_in_range s ≡ true → (modrm_in_range s.modrm ≡ true) × (sib_in_range s.sib ≡ true)
unfolding fields_in_range
ranges_of s h =
    let prefixes = are_bytes s.prefixes.items in
    let vex = vex_in_range s.vex in
    let opcode = nat_lt s.opcode 256 in
    let modrm = modrm_in_range s.modrm in
    let sib = sib_in_range s.sib in
    let behind = are_bytes s.disp.items && are_bytes s.imm.items in
    let a = (and_parts prefixes (vex && (opcode && (modrm && (sib && behind)))) h).1 in
    let b = (and_parts vex (opcode && (modrm && (sib && behind))) a).1 in
    let c = (and_parts opcode (modrm && (sib && behind)) b).1 in
    ((and_parts modrm (sib && behind) c).0, (and_parts sib behind (and_parts modrm (sib && behind) c).1).0)

-- **behind the state of a spelling its tail has the lengths of the spelling**
pub lengths_right : (bits : Bits) (row : Row) (s : Spelling) (rest tail : List ℕ) → Fits bits row s → tail ≡ tail_bytes s ++ rest →
    lengths_in bits row (state_of bits row s) tail ≡ lengths_of row s
unfolding lengths_in
lengths_right bits row s rest tail f t =
    let state = state_of bits row s in
    let behind : List ℕ = s.disp.items ++ (s.imm.items ++ rest) in
    let whole : tail ≡ modrm_bytes s.modrm ++ (sib_bytes s.sib ++ behind) = t ∙ parted s rest in
    let ranges = ranges_of s f.ranges in
    let address = address_of bits row state s.modrm s.sib (length s.disp.items) (length s.imm.items) f.lengths in
    let m : modrm_in row tail ≡ s.modrm =
    ap (modrm_in row) whole ∙ modrm_found row s.modrm (sib_bytes s.sib ++ behind) (rule_of row s.opcode s.modrm f.opcode) ranges.0 in
    let b : sib_in bits row state (modrm_in row tail) tail ≡ s.sib =
    ap (λ x. sib_in bits row state x tail) m
    ∙ (ap (sib_in bits row state s.modrm) whole ∙ sib_found bits row state s.modrm s.sib (length s.disp.items) behind address ranges.1) in
    let d : displacement_len bits row state (modrm_in row tail) (sib_in bits row state (modrm_in row tail) tail) ≡ length s.disp.items =
    ap (λ x. displacement_len bits row state x (sib_in bits row state (modrm_in row tail) tail)) m
    ∙ (ap (displacement_len bits row state s.modrm) b
    ∙ displacement_found bits row state s.modrm s.sib (length s.disp.items) address) in
    let lead = ap length (lead_is bits row s) in
    let used : state.used - length (lead_bytes state.map state.vex) ≡ length s.prefixes.items = omega (arith, used_is bits row s, lead) in
    lengths-alike _ _ _ _ _ _ _ _ _ _ used lead (ap (λ x. length (modrm_bytes x)) m) (ap (λ x. length (sib_bytes x)) b) d
