-- SIB and displacement of a plain spelling are as long as its ModRM asks for.
use Rattle.std.proofs.Common.{◌≡◌, ◌⊎◌, inl, inr, ℕ, ◌%◌, ◌<◌, Bool, true, false, not, ◌==◌, length, Option, Some, None, is_some, refl, ap, sym, ◌∙◌, subst, arith, if◌then◌else◌}
use Rattle.std.proofs.lemmas.Bool.{eq-eqb, and_from, cases_Bool}
use Rattle.x86_values.specs.declared.Bits.{Bits}
use Rattle.x86_values.specs.declared.Bits.TheVariants.{B16, B32, B64}
use Rattle.x86_values.specs.declared.Mem.{Mem}
use Rattle.x86_values.specs.declared.Register.{Register}
use Rattle.x86_values.specs.declared.Operand.{Operand}
use Rattle.x86_values.specs.declared.Operand.TheVariants.{Reg, Mem as MemOperand}
use Rattle.x86_values.specs.declared.Instr.{Instr}
use Rattle.instruction_parts.specs.declared.row_types.Row.{Row}
use Rattle.instruction_parts.specs.declared.row_types.Place.{Place}
use Rattle.instruction_parts.specs.declared.row_types.Place.TheVariants.{Any as AnyPlace, Memory as OnlyMemory, Register as OnlyRegister}
use Rattle.instruction_parts.specs.declared.row_types.ModRmRule.{ModRmRule}
use Rattle.instruction_parts.specs.declared.row_types.ModRmRule.TheVariants.{No as NoModRm, Any as AnyModRm, Digit, Fixed as FixedByte}
use Rattle.instruction_parts.specs.declared.row_types.OpKind.TheVariants.{Absent as AbsentKind}
use Rattle.instruction_parts.specs.declared.kinds.Method.{Method}
use Rattle.instruction_parts.specs.declared.kinds.Method.TheVariants as method
use Rattle.instruction_parts.specs.declared.spelling.ModRm.{ModRm}
use Rattle.instruction_parts.specs.declared.spelling.Sib.{Sib}
use Rattle.instruction_parts.specs.Kinds.{method_of}
use Rattle.instruction_parts.specs.Sizes.{state_address_size, size_bytes}
use Rattle.row_fit.specs.Fits.{kind_at, reads_by, reads_mode, is_offset, is_any_mode, address_fits, needs_sib, displacement_bytes, is_displacement_alone, sib_in_range, same_bool}
use Rattle.row_fit.specs.Sound.{Sound, reads_rm, has_modrm_rule}
use Rattle.plain_spelling.specs.Forms.{operand_at, is_variant_of, is_allowed_in}
use Rattle.plain_spelling.specs.PlainFront.{number_in_reg, number_asked_of, plain_front_of}
use Rattle.plain_spelling.specs.declared.addresses.AddressFields.{AddressFields}
use Rattle.plain_spelling.specs.Addresses.{displacement_count, address_fields}
use Rattle.plain_spelling.specs.PlainTail.{modrm_with, no_address, lone_mode, rm_fields, fields_of, plain_modrm, plain_sib_of, operand_displacement, rm_operand, address_operand}
use Rattle.plain_spelling.specs.Expressible.{kind_suits}
use Rattle.plain_spelling.proofs.Asked.{each-at, four_kinds, proper, one_rm, rm_operand-at, rm_operand-none, address_operand-at, address_operand-none, reads_address}
use Rattle.row_relation.proofs.AddressCases.{impossible, if_yes, if_no}
use Rattle.row_relation.specs.Given.{Given}
use Rattle.row_relation.proofs.FitNumbers.{kind_that_passes}
use Rattle.row_relation.proofs.FitPlaces.{memory_in_rm, register_in_rm, modrm_none, modrm_any, modrm_digit, modrm_fixed, fixed_mode_is, fixed_modrm}
use Rattle.row_relation.proofs.FitAddresses.{memory_at, in_rm, absolute_at}

-- ---- a ModRM without an address

-- mod is 3, or mod and rm are 0
abbrev pub IsBare : ModRm → Type 0
IsBare m = (m.mode3 ≡ 3) ⊎ ((m.mode3 ≡ 0) × (m.rm ≡ 0))

abbrev modrm_of : ℕ → ℕ → ℕ → ModRm
modrm_of mode3 reg rm = record { mode3 = mode3; reg = reg; rm = rm }

bare_register : (asize : Bits) (reg rm : ℕ) → (needs_sib asize (modrm_of 3 reg rm) ≡ false) × (displacement_bytes asize (modrm_of 3 reg rm) None ≡ 0)
unfolding needs_sib displacement_bytes is_displacement_alone
bare_register B16 reg rm = (refl, refl)
bare_register B32 reg rm = (refl, refl)
bare_register B64 reg rm = (refl, refl)

bare_zero : (asize : Bits) (reg : ℕ) → (needs_sib asize (modrm_of 0 reg 0) ≡ false) × (displacement_bytes asize (modrm_of 0 reg 0) None ≡ 0)
unfolding needs_sib displacement_bytes is_displacement_alone
bare_zero B16 reg = (refl, refl)
bare_zero B32 reg = (refl, refl)
bare_zero B64 reg = (refl, refl)

bare_asks : (asize : Bits) (m : ModRm) → IsBare m → (needs_sib asize m ≡ false) × (displacement_bytes asize m None ≡ 0)
bare_asks asize m (inl e) =
    subst (λ (k : ℕ). (needs_sib asize (modrm_of k m.reg m.rm) ≡ false) × (displacement_bytes asize (modrm_of k m.reg m.rm) None ≡ 0)) (sym e) (bare_register asize m.reg m.rm)
bare_asks asize m (inr e) =
    subst (λ (k : ℕ). (needs_sib asize (modrm_of k m.reg m.rm) ≡ false) × (displacement_bytes asize (modrm_of k m.reg m.rm) None ≡ 0)) (sym e.0)
    (subst (λ (k : ℕ). (needs_sib asize (modrm_of 0 m.reg k) ≡ false) × (displacement_bytes asize (modrm_of 0 m.reg k) None ≡ 0)) (sym e.1) (bare_zero asize m.reg))

same_bool-refl : (a b : Bool) → a ≡ b → same_bool a b ≡ true
same_bool-refl true true e = refl
same_bool-refl true false e = cc
same_bool-refl false true e = cc
same_bool-refl false false e = refl

-- as long as ModRM asks for
address_from : (asize : Bits) (row : Row) (m : ModRm) (sib : Option Sib) (given : ℕ) → reads_mode row ≡ true → is_some sib ≡ needs_sib asize m → given ≡ displacement_bytes asize m sib → address_fits asize row (Some m) sib given ≡ true
unfolding address_fits
address_from asize row m sib given reads s d =
    if_yes (reads_mode row) _ _ reads ∙ and_from (same_bool (is_some sib) (needs_sib asize m)) (given == displacement_bytes asize m sib) (same_bool-refl (is_some sib) (needs_sib asize m) s) (eq-eqb given (displacement_bytes asize m sib) d)

bare_otherwise : (asize : Bits) (row : Row) (m : ModRm) → reads_mode row ≡ false → address_fits asize row (Some m) None 0 ≡ true
unfolding address_fits
bare_otherwise asize row m other = if_no (reads_mode row) _ _ other

bare_fits : (asize : Bits) (row : Row) (m : ModRm) → IsBare m → address_fits asize row (Some m) None 0 ≡ true
bare_fits asize row m b =
    let asks = bare_asks asize m b in
    elim (cases_Bool (reads_mode row)) [
      | inl reads ↦ address_from asize row m None 0 reads (sym asks.0) (sym asks.1)
      | inr other ↦ bare_otherwise asize row m other
    ]

-- ---- the plain one

-- SIB and displacement of the plain spelling, at an address size
pub record TailFits (asize : Bits) (bits : Bits) (row : Row) (i : Instr) : Type 0 where
  pub fits : address_fits asize row (plain_modrm bits row i) (plain_sib_of bits row i) (operand_displacement (address_operand row i)) ≡ true
  pub sib_range : sib_in_range (plain_sib_of bits row i) ≡ true

none_in_range : sib_in_range None ≡ true
unfolding sib_in_range
none_in_range = refl

fits_by : (asize bits : Bits) (row : Row) (i : Instr) (m : Option ModRm) (sib : Option Sib) (given : ℕ) → plain_modrm bits row i ≡ m → plain_sib_of bits row i ≡ sib → operand_displacement (address_operand row i) ≡ given → address_fits asize row m sib given ≡ true → sib_in_range sib ≡ true → TailFits asize bits row i
fits_by asize bits row i m sib given em es eg h r = record {
  fits = rw (em, es, eg) h;
  sib_range = rw es r;
}

bare_by : (asize bits : Bits) (row : Row) (i : Instr) (m : ModRm) → plain_modrm bits row i ≡ Some m → plain_sib_of bits row i ≡ None → operand_displacement (address_operand row i) ≡ 0 → IsBare m → TailFits asize bits row i
bare_by asize bits row i m em es eg b = fits_by asize bits row i (Some m) None 0 em es eg (bare_fits asize row m b) none_in_range

-- the SIB by the row's rule
abbrev sib_by : ModRmRule → Option Sib → Option Sib
sib_by rule sib = elim rule [ NoModRm ↦ None | AnyModRm ↦ sib | Digit d ↦ sib | FixedByte b ↦ None ]

no_sib : (rule : ModRmRule) → sib_by rule None ≡ None
no_sib NoModRm = refl
no_sib AnyModRm = refl
no_sib (Digit d) = refl
no_sib (FixedByte b) = refl

-- without an address in r/m there is no SIB
sib_of_fields : (bits : Bits) (row : Row) (i : Instr) → (fields_of bits row i).sib ≡ None → plain_sib_of bits row i ≡ None
unfolding plain_sib_of
sib_of_fields bits row i e = ap (sib_by row.modrm) e ∙ no_sib row.modrm

-- ---- an operand in r/m

rm_variant : (place : Place) (how : Method) (op : Operand) → reads_rm how ≡ true → is_variant_of place how op ≡ true → ((r : Register) × (op ≡ Reg r)) ⊎ ((m : Mem) × (op ≡ MemOperand m))
unfolding is_variant_of is_allowed_in
rm_variant place how (Reg r) reads h = inl (r, refl)
rm_variant place how (MemOperand m) reads h = inr (m, refl)
rm_variant AnyPlace method.RegisterOrMemory _ reads h = impossible (sym h)
rm_variant OnlyMemory method.RegisterOrMemory _ reads h = impossible (sym h)
rm_variant OnlyRegister method.RegisterOrMemory _ reads h = impossible (sym h)
rm_variant place method.RegisterOnly _ reads h = impossible (sym h)
rm_variant place method.MemoryOnly _ reads h = impossible (sym h)
rm_variant place method.AnyMode _ reads h = impossible (sym h)
rm_variant place method.Gather _ reads h = impossible (sym h)
rm_variant place how _ reads h = impossible (sym reads)

variant_at : (bits : Bits) (ip : ℕ) (row : Row) (i : Instr) (n : ℕ) → Given bits ip row i → n < 4 → is_variant_of row.place (method_of (kind_at row n)) (operand_at i n) ≡ true
unfolding kind_suits
variant_at bits ip row i n g below = each-at (kind_suits row i) n below g.suits.kinds

reads_too : (how : Method) → reads_rm how ≡ true → reads_address how ≡ true
reads_too how h = rw h refl

register_fields : (bits : Bits) (row : Row) (i : Instr) (r : Register) → rm_operand row i ≡ Reg r → (fields_of bits row i).sib ≡ None
unfolding rm_fields
register_fields bits row i r e = ap (λ (op : Operand). (rm_fields bits i.asize row.place op).sib) e

at_register : (asize bits : Bits) (ip : ℕ) (row : Row) (i : Instr) (n : ℕ) (r : Register) → Given bits ip row i → n < 4 → reads_rm (method_of (kind_at row n)) ≡ true → operand_at i n ≡ Reg r → TailFits asize bits row i
at_register asize bits ip row i n r g below reads e =
    let p = register_in_rm bits row i n r g.is_sound g.is_writable.rule g.four below reads e in
    bare_by asize bits row i p.modrm p.is_plain
    (sib_of_fields bits row i (register_fields bits row i r (rm_operand-at row i n g.is_sound g.four below reads ∙ e)))
    (ap operand_displacement (address_operand-at row i n g.is_sound g.four below (reads_too (method_of (kind_at row n)) reads) ∙ e))
    (inl p.mode)

any_mode_is : (how : Method) → is_any_mode how ≡ true → how ≡ method.AnyMode
any_mode_is method.AnyMode h = refl
any_mode_is _ h = cc

no_memory : (place : Place) (m : Mem) → is_variant_of place method.AnyMode (MemOperand m) ≡ true → true ≡ false
unfolding is_variant_of
no_memory place m h = sym h

-- a row with memory in r/m reads mod
reads_mod : (bits : Bits) (ip : ℕ) (row : Row) (i : Instr) (n : ℕ) (m : Mem) → Given bits ip row i → n < 4 → reads_rm (method_of (kind_at row n)) ≡ true → operand_at i n ≡ MemOperand m → reads_mode row ≡ true
unfolding reads_mode
reads_mod bits ip row i n m g below reads e = elim (cases_Bool (reads_by is_any_mode row)) [
  | inr none ↦ ap not none
  | inl any ↦
      (let k = kind_that_passes (λ kind. is_any_mode (method_of kind)) row.ops AbsentKind any in
      let four = four_kinds row g.is_sound in
      let how = any_mode_is (method_of (kind_at row k.0)) k.2 in
      let same : k.0 ≡ n = one_rm row k.0 n g.is_sound (omega arith) below (ap reads_rm how) reads in
      let how_n = subst (λ (j : ℕ). method_of (kind_at row j) ≡ method.AnyMode) same how in
      let v = subst (λ (h : Method). is_variant_of row.place h (operand_at i n) ≡ true) how_n (variant_at bits ip row i n g below) in
      impossible (no_memory row.place m (subst (λ (x : Operand). is_variant_of row.place method.AnyMode x ≡ true) e v)))
]

at_memory : (bits : Bits) (ip : ℕ) (row : Row) (i : Instr) (n : ℕ) (m : Mem) → Given bits ip row i → n < 4 → reads_rm (method_of (kind_at row n)) ≡ true → operand_at i n ≡ MemOperand m → TailFits (state_address_size bits (plain_front_of bits row i)) bits row i
at_memory bits ip row i n m g below reads e =
    let at = memory_at bits ip row i n m g below e in
    let p = memory_in_rm bits row i n m g.is_sound g.is_writable.rule g.four g.suits.kinds below reads e in
    let r = in_rm bits ip row i n m p.reg g below e reads at in
    let fields = ap (λ (z : Bits). address_fields bits z m) r.0 in
    let l = r.1.lengths in
    subst (λ (z : Bits). TailFits z bits row i) (sym at.asize)
    (fits_by at.a bits row i (Some (modrm_with p.reg (address_fields bits at.a m))) (address_fields bits at.a m).sib (displacement_count m.disp_size)
    (p.modrm ∙ ap (λ (x : AddressFields). Some (modrm_with p.reg x)) fields) (p.sib ∙ ap (λ (x : AddressFields). x.sib) fields)
    (ap operand_displacement (address_operand-at row i n g.is_sound g.four below (reads_too (method_of (kind_at row n)) reads) ∙ e))
    (address_from at.a row (modrm_with p.reg (address_fields bits at.a m)) (address_fields bits at.a m).sib (displacement_count m.disp_size) (reads_mod bits ip row i n m g below reads e) l.sib (sym l.count))
    l.sib_range)

-- ---- no operand in r/m

no_fields : (bits : Bits) (row : Row) (i : Instr) → reads_by reads_rm row ≡ false → fields_of bits row i ≡ no_address (lone_mode row.place) 0
unfolding rm_fields
no_fields bits row i none = ap (λ (op : Operand). rm_fields bits i.asize row.place op) (rm_operand-none row i none)

lone_is_bare : (place : Place) (reg : ℕ) → IsBare (modrm_with reg (no_address (lone_mode place) 0))
lone_is_bare AnyPlace reg = inr (refl, refl)
lone_is_bare OnlyMemory reg = inr (refl, refl)
lone_is_bare OnlyRegister reg = inl refl

absolute_fits : (asize : Bits) (row : Row) (given : ℕ) → given ≡ (if reads_by is_offset row then size_bytes asize else 0) → address_fits asize row None None given ≡ true
unfolding address_fits
absolute_fits asize row given e = eq-eqb given (if reads_by is_offset row then size_bytes asize else 0) e

offset_is : (how : Method) → is_offset how ≡ true → how ≡ method.Offset
offset_is method.Offset h = refl
offset_is _ h = cc

offset_is_memory : (place : Place) (op : Operand) → is_variant_of place method.Offset op ≡ true → (m : Mem) × (op ≡ MemOperand m)
unfolding is_variant_of
offset_is_memory place (MemOperand m) h = (m, refl)
offset_is_memory place _ h = impossible (sym h)

reads_offset : (how : Method) → how ≡ method.Offset → reads_address how ≡ true
reads_offset how h = ap reads_address h

-- the bytes of an absolute address
offset_count : (bits : Bits) (ip : ℕ) (row : Row) (i : Instr) (n : ℕ) → Given bits ip row i → n < 4 → method_of (kind_at row n) ≡ method.Offset → operand_displacement (address_operand row i) ≡ size_bytes (state_address_size bits (plain_front_of bits row i))
offset_count bits ip row i n g below how =
    let m = offset_is_memory row.place (operand_at i n) (subst (λ (h : Method). is_variant_of row.place h (operand_at i n) ≡ true) how (variant_at bits ip row i n g below)) in
    let at = memory_at bits ip row i n m.0 g below m.1 in
    ap operand_displacement (address_operand-at row i n g.is_sound g.four below (reads_offset (method_of (kind_at row n)) how) ∙ m.1)
    ∙ (absolute_at bits ip row i n m.0 how at).0 ∙ ap size_bytes (sym at.asize)

below_four : (row : Row) (n : ℕ) → Sound row → n < length row.ops → n < 4
below_four row n s h = let four = four_kinds row s in omega arith

offset_counted : (bits : Bits) (ip : ℕ) (row : Row) (i : Instr) → Given bits ip row i → reads_by is_offset row ≡ true → operand_displacement (address_operand row i) ≡ size_bytes (state_address_size bits (plain_front_of bits row i))
offset_counted bits ip row i g any =
    let k = kind_that_passes (λ kind. is_offset (method_of kind)) row.ops AbsentKind any in
    offset_count bits ip row i k.0 g (below_four row k.0 g.is_sound k.1) (offset_is (method_of (kind_at row k.0)) k.2)

no_offset : (row : Row) (rule : ModRmRule) → Sound row → row.modrm ≡ rule → has_modrm_rule rule ≡ true → reads_by is_offset row ≡ false
no_offset row rule s e h = elim (cases_Bool (reads_by is_offset row)) [
  | inr none ↦ none
  | inl any ↦ (let k = (proper row s).offset any in impossible (sym h ∙ sym (ap has_modrm_rule e) ∙ k))
]

without_rm : (bits : Bits) (ip : ℕ) (row : Row) (i : Instr) → Given bits ip row i → reads_by reads_rm row ≡ false → TailFits (state_address_size bits (plain_front_of bits row i)) bits row i
without_rm bits ip row i g none = go row.modrm refl
  where
    asize : Bits
    asize = state_address_size bits (plain_front_of bits row i)

    fields : fields_of bits row i ≡ no_address (lone_mode row.place) 0
    fields = no_fields bits row i none

    sib : plain_sib_of bits row i ≡ None
    sib = sib_of_fields bits row i (ap (λ (x : AddressFields). x.sib) (no_fields bits row i none))

    nothing : reads_by is_offset row ≡ false → operand_displacement (address_operand row i) ≡ 0
    nothing other = ap operand_displacement (address_operand-none row i none other)

    count : operand_displacement (address_operand row i) ≡ (if reads_by is_offset row then size_bytes (state_address_size bits (plain_front_of bits row i)) else 0)
    count = elim (cases_Bool (reads_by is_offset row)) [
      | inl any ↦ offset_counted bits ip row i g any ∙ sym (if_yes (reads_by is_offset row) _ _ any)
      | inr other ↦ ap operand_displacement (address_operand-none row i none other) ∙ sym (if_no (reads_by is_offset row) _ _ other)
    ]

    go : (rule : ModRmRule) → row.modrm ≡ rule → TailFits (state_address_size bits (plain_front_of bits row i)) bits row i
    go NoModRm e = fits_by (state_address_size bits (plain_front_of bits row i)) bits row i None None (operand_displacement (address_operand row i)) (modrm_none bits row i e) sib refl (absolute_fits (state_address_size bits (plain_front_of bits row i)) row (operand_displacement (address_operand row i)) count) none_in_range
    go AnyModRm e =
        bare_by (state_address_size bits (plain_front_of bits row i)) bits row i (modrm_with (number_asked_of number_in_reg row i % 8) (no_address (lone_mode row.place) 0))
        (modrm_any bits row i e ∙ ap (λ (x : AddressFields). Some (modrm_with (number_asked_of number_in_reg row i % 8) x)) fields) sib (nothing (no_offset row AnyModRm g.is_sound e refl)) (lone_is_bare row.place (number_asked_of number_in_reg row i % 8))
    go (Digit d) e =
        bare_by (state_address_size bits (plain_front_of bits row i)) bits row i (modrm_with d (no_address (lone_mode row.place) 0))
        (modrm_digit bits row i d e ∙ ap (λ (x : AddressFields). Some (modrm_with d x)) fields) sib (nothing (no_offset row (Digit d) g.is_sound e refl)) (lone_is_bare row.place d)
    go (FixedByte b) e =
        bare_by (state_address_size bits (plain_front_of bits row i)) bits row i (fixed_modrm row i b) (modrm_fixed bits row i b e) sib
        (nothing (no_offset row (FixedByte b) g.is_sound e refl)) (inl (fixed_mode_is row b g.is_sound e))

-- ---- all of it

-- an operand in r/m is a register or memory
with_rm : (bits : Bits) (ip : ℕ) (row : Row) (i : Instr) (n : ℕ) → Given bits ip row i → n < 4 → reads_rm (method_of (kind_at row n)) ≡ true → TailFits (state_address_size bits (plain_front_of bits row i)) bits row i
with_rm bits ip row i n g below reads = elim (rm_variant row.place (method_of (kind_at row n)) (operand_at i n) reads (variant_at bits ip row i n g below)) [
  | inl r ↦ at_register (state_address_size bits (plain_front_of bits row i)) bits ip row i n r.0 g below reads r.1
  | inr m ↦ at_memory bits ip row i n m.0 g below reads m.1
]

-- **SIB and displacement of the plain spelling are as long as its ModRM asks for, and the SIB's fields are values of theirs**
pub tail_fits : (bits : Bits) (ip : ℕ) (row : Row) (i : Instr) → Given bits ip row i → TailFits (state_address_size bits (plain_front_of bits row i)) bits row i
tail_fits bits ip row i g = elim (cases_Bool (reads_by reads_rm row)) [
  | inr none ↦ without_rm bits ip row i g none
  | inl some ↦
      (let k = kind_that_passes (λ kind. reads_rm (method_of kind)) row.ops AbsentKind some in
      with_rm bits ip row i k.0 g (below_four row k.0 g.is_sound k.1) k.2)
]
