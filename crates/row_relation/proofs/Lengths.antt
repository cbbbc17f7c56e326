-- A plain spelling is as long as the constructed one of what it means.
use Rattle.std.proofs.Common.{◌≡◌, inl, inr, ℕ, ◌+◌, ◌<◌, Bool, true, false, ◌&&◌, ◌||◌, ◌==◌, List, ◌∷◌, ◌++◌, length, Option, Some, None, is_some, is_none, refl, ap, sym, ◌∙◌, subst, arith, if◌then◌else◌, length-append}
use Rattle.std.proofs.lemmas.Bool.{and_parts, cases_Bool, eqb-true}
use Rattle.x86_values.specs.declared.Bits.{Bits}
use Rattle.x86_values.specs.declared.Bits.TheVariants.{B16, B32, B64}
use Rattle.x86_values.specs.declared.Code.{Code}
use Rattle.x86_values.specs.declared.Operand.{Operand}
use Rattle.x86_values.specs.declared.Operand.TheVariants.{Absent as AbsentOperand, Reg, Mem as MemOperand, Imm, Near, Far}
use Rattle.x86_values.specs.declared.Instr.{Instr}
use Rattle.instruction_parts.specs.declared.row_types.Row.{Row}
use Rattle.instruction_parts.specs.declared.row_types.Place.{Place}
use Rattle.instruction_parts.specs.declared.row_types.Place.TheVariants.{Register as OnlyRegister}
use Rattle.instruction_parts.specs.declared.row_types.ModRmRule.{ModRmRule}
use Rattle.instruction_parts.specs.declared.row_types.ModRmRule.TheVariants.{No as NoModRm, Any as AnyModRm, Digit, Fixed as FixedByte}
use Rattle.instruction_parts.specs.declared.row_types.OpKind.TheVariants.{Absent}
use Rattle.instruction_parts.specs.declared.kinds.Method.{Method}
use Rattle.instruction_parts.specs.declared.kinds.Method.TheVariants as method
use Rattle.instruction_parts.specs.declared.spelling.Vex.{Vex}
use Rattle.instruction_parts.specs.declared.spelling.ModRm.{ModRm}
use Rattle.instruction_parts.specs.declared.spelling.Sib.{Sib}
use Rattle.instruction_parts.specs.declared.spelling.Spelling.{Spelling}
use Rattle.instruction_parts.specs.Kinds.{method_of}
use Rattle.instruction_parts.specs.Bytes.{modrm_bytes, sib_bytes, lead_bytes, front_bytes, tail_bytes, bytes_of}
use Rattle.row_fit.specs.Fits.{reads_by, reads_mode, is_offset, same_bool, needs_sib, is_displacement_alone, displacement_bytes, address_fits, immediate_bytes, immediates_bytes, kind_at}
use Rattle.row_fit.specs.Sound.{reads_rm}
use Rattle.x86_values.specs.Operands.{is_memory}
use Rattle.plain_spelling.specs.Forms.{is_variant_of, is_register, operand_at}
use Rattle.plain_spelling.specs.PlainFront.{asked_vex, asked_opcode, plain_front_of}
use Rattle.plain_spelling.specs.declared.addresses.AddressFields.{AddressFields}
use Rattle.plain_spelling.specs.PlainTail.{prefixes_of, plain_sib_of, lone_mode, no_address, modrm_with, fields_of, plain_modrm, operand_displacement, address_operand, displacement_of_operand, plain_immediates, plain_size, plain_len, plain_next, plain_spelling}
use Rattle.row_relation.proofs.AddressCases.{impossible}
use Rattle.plain_spelling.proofs.Asked.{four_kinds, address_operand-at, address_operand-none, reads_address}
use Rattle.row_relation.proofs.FitNumbers.{kind_that_passes}
use Rattle.row_relation.proofs.FitPlaces.{modrm_none, modrm_any, modrm_digit, modrm_fixed, fixed_mode_is, register_in_rm}
use Rattle.row_relation.proofs.FitRegisters.{memory_variant, variant-at}
use Rattle.row_relation.proofs.FitAddressBytes.{displacement_length}
use Rattle.row_relation.proofs.FitImmediates.{immediates-length}
use Rattle.row_relation.proofs.FitLengths.{plain_long}
use Rattle.row_relation.specs.GivenSpelling.{Given}
use Rattle.row_relation.proofs.NeedImmediates.{immediates-len}
use Rattle.row_relation.proofs.NeedVariants.{kinds_suit}
use Rattle.row_relation.proofs.NeedAddresses.{spelled_asize}
use Rattle.row_fit.specs.Fits.{fits}
use Rattle.row_fit.specs.Sound.{Sound}
use Rattle.row_fit.proofs.FitLaws.{all_conditions}
use Rattle.row_meaning.specs.Meaning.{meaning, instr_of}
use Rattle.plain_spelling.specs.Writable.{Writable}
use Rattle.row_relation.specs.IsPlain.{IsPlain}
use Rattle.row_relation.proofs.Alike.{IsAlike}
use Rattle.row_relation.proofs.TailIs.{fields_none}
use Rattle.row_relation.proofs.Rm.{count_at}
use Rattle.row_relation.proofs.RmSame.{address_part, variant_rm}
use Rattle.row_relation.proofs.FrontSame.{front_same}
use Rattle.row_relation.proofs.TailSame.{TailSame, tail_same}

-- ---- the displacement

if_zero : (t : Bool) (n : ℕ) → n ≡ 0 → (given : ℕ) → (a b : Bool) → (if t then a && given == n else b && given == 0) ≡ true → given ≡ 0
if_zero true n e given a b h = eqb-true given n (and_parts a (given == n) h).1 ∙ e
if_zero false n e given a b h = eqb-true given 0 (and_parts b (given == 0) h).1

given_zero : (asize : Bits) (row : Row) (m : ModRm) (sib : Option Sib) (given : ℕ) → displacement_bytes asize m sib ≡ 0 → address_fits asize row (Some m) sib given ≡ true → given ≡ 0
unfolding address_fits
given_zero asize row m sib given e h = if_zero (reads_mode row) (displacement_bytes asize m sib) e given (same_bool (is_some sib) (needs_sib asize m)) (is_none sib) h

register_bytes : (asize : Bits) (m : ModRm) (sib : Option Sib) → m.mode3 ≡ 3 → displacement_bytes asize m sib ≡ 0
unfolding displacement_bytes is_displacement_alone
register_bytes asize m sib h = rw h refl

lone_bytes : (asize : Bits) (m : ModRm) (sib : Option Sib) → m.mode3 ≡ 0 → m.rm ≡ 0 → displacement_bytes asize m sib ≡ 0
unfolding displacement_bytes is_displacement_alone
lone_bytes B16 m sib h k = rw (h, k) refl
lone_bytes B32 m sib h k = rw (h, k) refl
lone_bytes B64 m sib h k = rw (h, k) refl

none_zero : (asize : Bits) (row : Row) (sib : Option Sib) (given : ℕ) → reads_by is_offset row ≡ false → address_fits asize row None sib given ≡ true → given ≡ 0
unfolding address_fits
none_zero asize row sib given e h = eqb-true given 0 (let k : (is_none sib && given == 0) ≡ true = rw e at h in (and_parts (is_none sib) (given == 0) k).1)

-- a spelling whose constructed ModRM says a register, or nothing
by_place : (asize : Bits) (place : Place) (reg : ℕ) (sib : Option Sib) → displacement_bytes asize (modrm_with reg (no_address (lone_mode place) 0)) sib ≡ 0
by_place asize OnlyRegister reg sib = register_bytes asize (modrm_with reg (no_address 3 0)) sib refl
by_place asize _ reg sib = lone_bytes asize (modrm_with reg (no_address 0 0)) sib refl refl

with_modrm : (bits : Bits) (ip : ℕ) (code : Code) (row : Row) (s : Spelling) (i : Instr) (m : ModRm) → Given bits ip code row s i → s.modrm ≡ Some m → displacement_bytes (spelled_asize bits row s) m s.sib ≡ 0 → length s.disp.items ≡ 0
with_modrm bits ip code row s i m g e z =
    given_zero (spelled_asize bits row s) row m s.sib (length s.disp.items) z (subst (λ (o : Option ModRm). address_fits (spelled_asize bits row s) row o s.sib (length s.disp.items) ≡ true) e (address_part bits ip code row s i g))

-- without an operand in r/m and without an absolute address
nothing_there : (bits : Bits) (ip : ℕ) (code : Code) (row : Row) (s : Spelling) (i : Instr) → Given bits ip code row s i → TailSame bits row s i → reads_by reads_rm row ≡ false → reads_by is_offset row ≡ false → length s.disp.items ≡ 0
nothing_there bits ip code row s i g t none far = go row.modrm refl
  where
    lone : (reg : ℕ) → plain_modrm bits row i ≡ Some (modrm_with reg (fields_of bits row i)) → length s.disp.items ≡ 0
    lone reg e =
        with_modrm bits ip code row s i (modrm_with reg (no_address (lone_mode row.place) 0)) g (t.modrm ∙ e ∙ ap (λ (f : AddressFields). Some (modrm_with reg f)) (fields_none bits row i none))
        (by_place (spelled_asize bits row s) row.place reg s.sib)

    go : (rule : ModRmRule) → row.modrm ≡ rule → length s.disp.items ≡ 0
    go NoModRm e =
        none_zero (spelled_asize bits row s) row s.sib (length s.disp.items) far
        (subst (λ (o : Option ModRm). address_fits (spelled_asize bits row s) row o s.sib (length s.disp.items) ≡ true) (t.modrm ∙ modrm_none bits row i e) (address_part bits ip code row s i g))
    go AnyModRm e = lone _ (modrm_any bits row i e)
    go (Digit d) e = lone d (modrm_digit bits row i d e)
    go (FixedByte b) e = with_modrm bits ip code row s i _ g (t.modrm ∙ modrm_fixed bits row i b e) (register_bytes (spelled_asize bits row s) _ s.sib (fixed_mode_is row b g.is_sound e))

-- what is read in r/m can be an address
pub rm_is_address : (how : Method) → reads_rm how ≡ true → reads_address how ≡ true
rm_is_address how h = rw h refl

-- so can an offset
pub offset_is_address : (how : Method) → is_offset how ≡ true → reads_address how ≡ true
offset_is_address method.Offset h = refl
offset_is_address _ h = impossible (sym h)

variant_offset : (place : Place) (how : Method) (op : Operand) → is_offset how ≡ true → is_variant_of place how op ≡ true → is_memory op ≡ true
unfolding is_variant_of
variant_offset place method.Offset op h k = k
variant_offset place _ op h k = impossible (sym h)

-- of an operand in r/m
of_rm : (bits : Bits) (ip : ℕ) (code : Code) (row : Row) (s : Spelling) (i : Instr) (n : ℕ) (op : Operand) → Given bits ip code row s i → length i.ops ≡ 4 → TailSame bits row s i → n < 4 → reads_rm (method_of (kind_at row n)) ≡ true → operand_at i n ≡ op → (is_register op || is_memory op) ≡ true
    → operand_displacement op ≡ length s.disp.items
of_rm bits ip code row s i n (MemOperand mem) g four t below reads e v = count_at bits ip code row s i n mem g below e
of_rm bits ip code row s i n (Reg r) g four t below reads e v =
    let p = register_in_rm bits row i n r g.is_sound g.is_writable.rule four below reads e in
    sym (with_modrm bits ip code row s i p.modrm g (t.modrm ∙ p.is_plain) (register_bytes (spelled_asize bits row s) p.modrm s.sib p.mode))
of_rm bits ip code row s i n AbsentOperand g four t below reads e v = impossible (sym v)
of_rm bits ip code row s i n (Imm x) g four t below reads e v = impossible (sym v)
of_rm bits ip code row s i n (Near x) g four t below reads e v = impossible (sym v)
of_rm bits ip code row s i n (Far a b) g four t below reads e v = impossible (sym v)

-- **the displacement is as long as the constructed one**
pub displacement_same : (bits : Bits) (ip : ℕ) (code : Code) (row : Row) (s : Spelling) (i : Instr) → Given bits ip code row s i → length i.ops ≡ 4 → TailSame bits row s i → operand_displacement (address_operand row i) ≡ length s.disp.items
displacement_same bits ip code row s i g four t =
    let kinds = kinds_suit bits ip code row s i g in
    let four_of = four_kinds row g.is_sound in
    elim (cases_Bool (reads_by reads_rm row)) [
      | inl some ↦ (let k = kind_that_passes (λ kind. reads_rm (method_of kind)) row.ops Absent some in
          let below : k.0 < 4 = omega (arith, k.1, four_of) in
          let how = method_of (kind_at row k.0) in
          let v = variant_rm row.place how (operand_at i k.0) k.2 (variant-at row i k.0 kinds below) in
          ap operand_displacement (address_operand-at row i k.0 g.is_sound four below (rm_is_address how k.2)) ∙ of_rm bits ip code row s i k.0 (operand_at i k.0) g four t below k.2 refl v)
      | inr none ↦
          elim (cases_Bool (reads_by is_offset row)) [
            | inl far ↦ (let k = kind_that_passes (λ kind. is_offset (method_of kind)) row.ops Absent far in
                let below : k.0 < 4 = omega (arith, k.1, four_of) in
                let how = method_of (kind_at row k.0) in
                let m = memory_variant (operand_at i k.0) (variant_offset row.place how (operand_at i k.0) k.2 (variant-at row i k.0 kinds below)) in
                ap operand_displacement (address_operand-at row i k.0 g.is_sound four below (offset_is_address how k.2) ∙ m.1) ∙ count_at bits ip code row s i k.0 m.0 g below m.1)
            | inr never ↦ ap operand_displacement (address_operand-none row i none never) ∙ sym (nothing_there bits ip code row s i g t none never)
          ]
    ]

-- ---- all of it

front_len : (row : Row) (s t : Spelling) → s.prefixes.items ≡ t.prefixes.items → s.vex ≡ t.vex → front_bytes row s ≡ front_bytes row t
unfolding front_bytes
front_len row s t p v = ap (λ (x : List ℕ). x ++ lead_bytes row.map s.vex) p ∙ ap (λ (x : Option Vex). t.prefixes.items ++ lead_bytes row.map x) v

tail_len : (s t : Spelling) → s.modrm ≡ t.modrm → s.sib ≡ t.sib → length s.disp.items ≡ length t.disp.items → length s.imm.items ≡ length t.imm.items → length (tail_bytes s) ≡ length (tail_bytes t)
unfolding tail_bytes
tail_len s t m b d n =
    let e1 = length-append (modrm_bytes s.modrm) (sib_bytes s.sib ++ (s.disp.items ++ s.imm.items)) in
    let e2 = length-append (sib_bytes s.sib) (s.disp.items ++ s.imm.items) in
    let e3 = length-append s.disp.items s.imm.items in
    let f1 = length-append (modrm_bytes t.modrm) (sib_bytes t.sib ++ (t.disp.items ++ t.imm.items)) in
    let f2 = length-append (sib_bytes t.sib) (t.disp.items ++ t.imm.items) in
    let f3 = length-append t.disp.items t.imm.items in
    let c1 = ap (λ (o : Option ModRm). length (modrm_bytes o)) m in
    let c2 = ap (λ (o : Option Sib). length (sib_bytes o)) b in
    omega (arith, e1, e2, e3, f1, f2, f3, c1, c2, d, n)

len_same : (row : Row) (s t : Spelling) → front_bytes row s ≡ front_bytes row t → length (tail_bytes s) ≡ length (tail_bytes t) → length (bytes_of row s) ≡ length (bytes_of row t)
unfolding bytes_of
len_same row s t f b =
    let e = length-append (front_bytes row s) (s.opcode ∷ tail_bytes s) in
    let k = length-append (front_bytes row t) (t.opcode ∷ tail_bytes t) in
    let z = ap (λ (x : List ℕ). length x) f in
    omega (arith, e, k, z, b)

immediates_is : (bits : Bits) (row : Row) → immediates_bytes bits row ≡ immediate_bytes bits (kind_at row 0) + (immediate_bytes bits (kind_at row 1) + (immediate_bytes bits (kind_at row 2) + immediate_bytes bits (kind_at row 3)))
unfolding immediates_bytes
immediates_is bits row = refl

-- the parts of the constructed spelling
record OwnParts (bits : Bits) (ip : ℕ) (row : Row) (i : Instr) : Type 0 where
  prefixes : (plain_spelling bits ip row i).prefixes.items ≡ prefixes_of (plain_front_of bits row i)
  vex : (plain_spelling bits ip row i).vex ≡ asked_vex row i
  opcode : (plain_spelling bits ip row i).opcode ≡ asked_opcode row i
  modrm : (plain_spelling bits ip row i).modrm ≡ plain_modrm bits row i
  sib : (plain_spelling bits ip row i).sib ≡ plain_sib_of bits row i
  disp : (plain_spelling bits ip row i).disp.items ≡ displacement_of_operand (plain_next bits ip row i) (address_operand row i)
  imm : (plain_spelling bits ip row i).imm.items ≡ plain_immediates (plain_size bits row) row i (plain_next bits ip row i)

own_parts : (bits : Bits) (ip : ℕ) (row : Row) (i : Instr) → OwnParts bits ip row i
unfolding plain_spelling plain_front_of
own_parts bits ip row i = record { prefixes = refl; vex = refl; opcode = refl; modrm = refl; sib = refl; disp = refl; imm = refl }

-- **a plain spelling has the parts and the length of the constructed one**
pub alike : (bits : Bits) (ip : ℕ) (code : Code) (row : Row) (s : Spelling) (i : Instr) → Given bits ip code row s i → length i.ops ≡ 4 → IsPlain bits ip row s → IsAlike row s (plain_spelling bits ip row i)
alike bits ip code row s i g four p =
    let t = plain_spelling bits ip row i in
    let own = own_parts bits ip row i in
    let f = front_same bits ip code row s i g four p in
    let m = tail_same bits ip code row s i g four p in
    let kinds = kinds_suit bits ip code row s i g in
    let next = plain_next bits ip row i in
    let prefixes = f.prefixes ∙ sym own.prefixes in
    let vex = f.vex ∙ sym own.vex in
    let modrm = m.modrm ∙ sym own.modrm in
    let sib = m.sib ∙ sym own.sib in
    let disp : length s.disp.items ≡ length t.disp.items = sym (displacement_same bits ip code row s i g four m) ∙ sym (displacement_length next (address_operand row i)) ∙ ap (λ (x : List ℕ). length x) (sym own.disp) in
    let imm : length s.imm.items ≡ length t.imm.items =
    sym (immediates-len bits ip code row s i g) ∙ sym (immediates_is (plain_size bits row) row) ∙ sym (immediates-length bits row i next kinds) ∙ ap (λ (x : List ℕ). length x) (sym own.imm) in
    record {
      prefixes = prefixes;
      vex = vex;
      opcode = f.opcode ∙ sym own.opcode;
      modrm = modrm;
      sib = sib;
      disp_length = disp;
      imm_length = imm;
      same_length = len_same row s t (front_len row s t prefixes vex) (tail_len s t modrm sib disp imm);
    }

-- **its length is that of the constructed one**
pub length_same : (bits : Bits) (ip : ℕ) (code : Code) (row : Row) (s : Spelling) (i : Instr) → Given bits ip code row s i → length i.ops ≡ 4 → IsPlain bits ip row s → plain_len bits row i ≡ length (bytes_of row s)
length_same bits ip code row s i g four p =
    sym (plain_long bits ip row i (kinds_suit bits ip code row s i g)) ∙ sym (alike bits ip code row s i g four p).same_length

-- ---- from fit and meaning

four_of_meaning : (bits : Bits) (ip : ℕ) (code : Code) (row : Row) (s : Spelling) → length (meaning bits ip code row s).ops ≡ 4
unfolding meaning instr_of
four_of_meaning bits ip code row s = refl

-- a meaning has four operands
pub four_of : (bits : Bits) (ip : ℕ) (row : Row) (s : Spelling) (i : Instr) → meaning bits ip i.code row s ≡ i → length i.ops ≡ 4
four_of bits ip row s i e = subst (λ (x : Instr). length x.ops ≡ 4) e (four_of_meaning bits ip i.code row s)

-- what is given of a spelling that means an instruction
pub given_from : (bits : Bits) (ip : ℕ) (row : Row) (s : Spelling) (i : Instr) → Sound row → Writable bits row → fits bits row s ≡ true → meaning bits ip i.code row s ≡ i → Given bits ip i.code row s i
given_from bits ip row s i sound w f e = record { is_sound = sound; is_writable = w; fitting = all_conditions bits row s f; means = e }
