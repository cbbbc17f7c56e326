-- The constructed tail is plain: the fields of ModRM, and the last byte.
use Rattle.std.proofs.Common.{◌≡◌, inl, inr, ℕ, ◌*◌, ◌%◌, ◌<◌, Bool, true, false, ◌&&◌, ◌||◌, not, ◌==◌, nat_lt, List, [], ◌∷◌, eq-eqb, Option, Some, refl, ap, sym, ◌∙◌, subst, arith}
use Rattle.std.proofs.lemmas.Bool.{lt-ltb, not-false, cases_Bool}
use Rattle.x86_values.specs.declared.Bits.{Bits}
use Rattle.x86_values.specs.declared.Register.{Register}
use Rattle.x86_values.specs.declared.Operand.{Operand}
use Rattle.x86_values.specs.declared.Operand.TheVariants.{Reg}
use Rattle.x86_values.specs.declared.Instr.{Instr}
use Rattle.instruction_parts.specs.declared.row_types.Row.{Row}
use Rattle.instruction_parts.specs.declared.row_types.OpKind.TheVariants.{Absent}
use Rattle.instruction_parts.specs.declared.row_types.Place.{Place}
use Rattle.instruction_parts.specs.declared.row_types.Place.TheVariants.{Register as OnlyRegister}
use Rattle.instruction_parts.specs.declared.row_types.ModRmRule.{ModRmRule}
use Rattle.instruction_parts.specs.declared.row_types.ModRmRule.TheVariants.{No as NoModRm, Any as AnyModRm, Digit, Fixed as FixedByte}
use Rattle.instruction_parts.specs.declared.kinds.Method.{Method}
use Rattle.instruction_parts.specs.declared.kinds.Method.TheVariants as method
use Rattle.instruction_parts.specs.declared.spelling.ModRm.{ModRm}
use Rattle.instruction_parts.specs.Kinds.{method_of}
use Rattle.instruction_parts.specs.Counting.{is_64}
use Rattle.instruction_parts.specs.Sizes.{state_size}
use Rattle.instruction_parts.specs.Bytes.{state_of}
use Rattle.row_fit.specs.Fits.{has_modrm, reg_field, reads_by, reads_mode, is_any_mode, kind_at, immediate_bytes}
use Rattle.row_fit.specs.Sound.{reads_reg, reads_rm, reads_last_byte}
use Rattle.row_meaning.specs.Meaning.{own_immediate}
use Rattle.plain_spelling.specs.Forms.{is_variant_of, is_register, operand_at}
use Rattle.plain_spelling.specs.PlainFront.{register_number, number_in_reg, number_asked_of, plain_front_of}
use Rattle.plain_spelling.specs.Addresses.{register_count}
use Rattle.plain_spelling.specs.declared.addresses.AddressFields.{AddressFields}
use Rattle.plain_spelling.specs.PlainTail.{no_address, lone_mode, rm_fields, fields_of, modrm_with, plain_modrm, operand_immediate, immediate_at, plain_immediates, plain_size, plain_next, plain_spelling}
use Rattle.plain_spelling.proofs.Asked.{asked_reg-none, rm_operand-none, four_kinds}
use Rattle.row_relation.specs.Given.{Given}
use Rattle.row_relation.proofs.FitNumbers.{kind_that_passes, nameable-at}
use Rattle.row_relation.proofs.FitFrontBits.{FrontBits, asked-small}
use Rattle.row_relation.proofs.FitPlaces.{modrm_any, modrm_digit, register_in_rm}
use Rattle.row_relation.proofs.FitRegisters.{register_variant, variant-at}
use Rattle.row_relation.proofs.FitImmediates.{own-immediate}
use Rattle.row_relation.specs.IsPlain.{reg_is_read, lone_is_zero, rm_is_read, mode_is_register, last_byte_is_bare, last_byte_is_read, immediates_are_read}

-- ---- reg

reg_by : (rule : ModRmRule) (reads : Bool) (m : Option ModRm) → (rule ≡ AnyModRm → reads ≡ false → reg_field m ≡ 0) → (elim rule [ AnyModRm ↦ reads || reg_field m == 0 | _ ↦ true ]) ≡ true
reg_by NoModRm reads m h = refl
reg_by AnyModRm true m h = refl
reg_by AnyModRm false m h = eq-eqb (reg_field m) 0 (h refl refl)
reg_by (Digit d) reads m h = refl
reg_by (FixedByte b) reads m h = refl

-- reg of a plain ModRM is read, or 0
pub reg_plain : (bits : Bits) (row : Row) (i : Instr) → reg_is_read row (plain_modrm bits row i) ≡ true
unfolding reg_is_read
reg_plain bits row i =
    reg_by row.modrm (reads_by reads_reg row) (plain_modrm bits row i)
    (λ rule none. ap reg_field (modrm_any bits row i rule) ∙ ap (λ (n : ℕ). n % 8) (asked_reg-none row i none))

-- ---- mod and rm without an operand

rm_by : (rule : ModRmRule) (lone : Bool) → (rule ≡ AnyModRm → lone ≡ true) → ((d : ℕ) → rule ≡ Digit d → lone ≡ true) → (elim rule [ AnyModRm ↦ lone | Digit d ↦ lone | _ ↦ true ]) ≡ true
rm_by NoModRm lone h k = refl
rm_by AnyModRm lone h k = h refl
rm_by (Digit d) lone h k = k d refl
rm_by (FixedByte b) lone h k = refl

lone_same : (place : Place) → (lone_mode place == (elim place [ OnlyRegister ↦ 3 | _ ↦ 0 ]) && 0 == 0) ≡ true
lone_same OnlyRegister = refl
lone_same _ = refl

-- without an operand in r/m the fields are those of no address
pub fields_none : (bits : Bits) (row : Row) (i : Instr) → reads_by reads_rm row ≡ false → fields_of bits row i ≡ no_address (lone_mode row.place) 0
unfolding rm_fields
fields_none bits row i none = ap (λ (op : Operand). rm_fields bits i.asize row.place op) (rm_operand-none row i none)

lone_by : (bits : Bits) (row : Row) (i : Instr) (reg : ℕ) (m : Option ModRm) → m ≡ Some (modrm_with reg (fields_of bits row i)) → lone_is_zero row m ≡ true
unfolding lone_is_zero
lone_by bits row i reg m e = elim (cases_Bool (reads_by reads_rm row)) [
  | inl some ↦ rw some refl
  | inr none ↦ (let k : m ≡ Some (modrm_with reg (no_address (lone_mode row.place) 0)) = e ∙ ap (λ (f : AddressFields). Some (modrm_with reg f)) (fields_none bits row i none) in
      rw (none, k) (lone_same row.place))
]

-- r/m of a plain ModRM is read, or 0
pub rm_plain : (bits : Bits) (row : Row) (i : Instr) → rm_is_read row (plain_modrm bits row i) ≡ true
unfolding rm_is_read
rm_plain bits row i =
    rm_by row.modrm (lone_is_zero row (plain_modrm bits row i)) (λ rule. lone_by bits row i (number_asked_of number_in_reg row i % 8) (plain_modrm bits row i) (modrm_any bits row i rule))
    (λ d rule. lone_by bits row i d (plain_modrm bits row i) (modrm_digit bits row i d rule))

-- ---- mod where it is not read

any_mode_variant : (place : Place) (how : Method) (op : Operand) → is_any_mode how ≡ true → is_variant_of place how op ≡ true → is_register op ≡ true
unfolding is_variant_of
any_mode_variant place method.AnyMode op h k = k
any_mode_variant place _ op h k = cc

any_mode_reads : (how : Method) → is_any_mode how ≡ true → reads_rm how ≡ true
any_mode_reads method.AnyMode h = refl
any_mode_reads _ h = cc

reads_mode_is : (row : Row) → reads_mode row ≡ not (reads_by is_any_mode row)
unfolding reads_mode
reads_mode_is row = refl

mode_of_some : (m : Option ModRm) (x : ModRm) → m ≡ Some x → x.mode3 ≡ 3 → has_modrm (λ m. m.mode3 == 3) m ≡ true
mode_of_some m x e k = rw e (eq-eqb x.mode3 3 k)

mode_by : (bits : Bits) (ip : ℕ) (row : Row) (i : Instr) → Given bits ip row i → reads_by is_any_mode row ≡ true → has_modrm (λ m. m.mode3 == 3) (plain_modrm bits row i) ≡ true
mode_by bits ip row i g any =
    let k = kind_that_passes (λ kind. is_any_mode (method_of kind)) row.ops Absent any in
    let four = four_kinds row g.is_sound in
    let below : k.0 < 4 = omega (arith, k.1, four) in
    let how = method_of (kind_at row k.0) in
    let r = register_variant (operand_at i k.0) (any_mode_variant row.place how (operand_at i k.0) k.2 (variant-at row i k.0 g.suits.kinds below)) in
    let p = register_in_rm bits row i k.0 r.0 g.is_sound g.is_writable.rule g.four below (any_mode_reads how k.2) r.1 in
    mode_of_some (plain_modrm bits row i) p.modrm p.is_plain p.mode

-- mod of the plain ModRM suits the row
pub mode_plain : (bits : Bits) (ip : ℕ) (row : Row) (i : Instr) → Given bits ip row i → mode_is_register row (plain_modrm bits row i) ≡ true
unfolding mode_is_register
mode_plain bits ip row i g = elim (cases_Bool (reads_mode row)) [
  | inl reads ↦ rw reads refl
  | inr none ↦ rw none (mode_by bits ip row i g (not-false (reads_by is_any_mode row) (sym (reads_mode_is row) ∙ none)))
]

-- ---- the last byte

last_variant : (place : Place) (how : Method) (op : Operand) → reads_last_byte how ≡ true → is_variant_of place how op ≡ true → is_register op ≡ true
unfolding is_variant_of
last_variant place method.LastByte op h k = k
last_variant place _ op h k = cc

last_immediate : (size : Bits) (next : ℕ) (how : Method) (n : ℕ) (r : Register) → reads_last_byte how ≡ true → operand_immediate size next how n (Reg r) ≡ register_number r * 16 ∷ []
unfolding operand_immediate
last_immediate size next method.LastByte n r h = refl
last_immediate size next _ n r h = cc

long_or : (long : Bool) (n : ℕ) → (long ≡ false → n < 128) → (long || nat_lt n 128) ≡ true
long_or true n h = refl
long_or false n h = lt-ltb n 128 (h refl)

upper : (n : ℕ) → n * 16 % 16 ≡ 0
upper n = omega arith

bare : (bits : Bits) (n : ℕ) → n < register_count bits → last_byte_is_bare bits (n * 16 ∷ []) ≡ true
bare bits n h =
    rw (eq-eqb (n * 16 % 16) 0 (upper n)) (long_or (is_64 bits) (n * 16) (λ short. let k = asked-small bits n short h in omega arith))

immediate_by : (bits : Bits) (row : Row) (i : Instr) (next n : ℕ) (r : Register) → reads_last_byte (method_of (kind_at row n)) ≡ true → operand_at i n ≡ Reg r → immediate_at (plain_size bits row) row i next n ≡ register_number r * 16 ∷ []
unfolding immediate_at
immediate_by bits row i next n r h e = rw e (last_immediate (plain_size bits row) next (method_of (kind_at row n)) (immediate_bytes (plain_size bits row) (kind_at row n)) r h)

own_bare : (bits : Bits) (ip : ℕ) (row : Row) (i : Instr) (n : ℕ) → Given bits ip row i → n < 4 → reads_last_byte (method_of (kind_at row n)) ≡ true → last_byte_is_bare bits (own_immediate (plain_size bits row) row n (plain_immediates (plain_size bits row) row i (plain_next bits ip row i))) ≡ true
own_bare bits ip row i n g below h =
    let r = register_variant (operand_at i n) (last_variant row.place (method_of (kind_at row n)) (operand_at i n) h (variant-at row i n g.suits.kinds below)) in
    let k = nameable-at bits row i n r.0 g.suits.registers below r.1 in
    subst (λ (x : List ℕ). last_byte_is_bare bits x ≡ true) (sym (own-immediate bits ip row i (plain_next bits ip row i) n g below ∙ immediate_by bits row i (plain_next bits ip row i) n r.0 h r.1))
    (bare bits (register_number r.0) k.number)

own_imm : (bits : Bits) (ip : ℕ) (row : Row) (i : Instr) → (plain_spelling bits ip row i).imm.items ≡ plain_immediates (plain_size bits row) row i (plain_next bits ip row i)
unfolding plain_spelling
own_imm bits ip row i = refl

last_at : (bits : Bits) (ip : ℕ) (row : Row) (i : Instr) (n : ℕ) → Given bits ip row i → n < 4 → state_of bits row (plain_spelling bits ip row i) ≡ plain_front_of bits row i → FrontBits bits row i → last_byte_is_read bits row (plain_spelling bits ip row i) n ≡ true
unfolding last_byte_is_read
last_at bits ip row i n g below e f = elim (cases_Bool (reads_last_byte (method_of (kind_at row n)))) [
  | inr none ↦ rw none refl
  | inl some ↦ (let z : state_size bits row (state_of bits row (plain_spelling bits ip row i)) ≡ plain_size bits row = ap (state_size bits row) e ∙ f.size in
      let k : last_byte_is_bare bits (own_immediate (state_size bits row (state_of bits row (plain_spelling bits ip row i))) row n (plain_spelling bits ip row i).imm.items) ≡ true =
      subst (λ (x : Bits). last_byte_is_bare bits (own_immediate x row n (plain_spelling bits ip row i).imm.items) ≡ true) (sym z)
      (subst (λ (x : List ℕ). last_byte_is_bare bits (own_immediate (plain_size bits row) row n x) ≡ true) (sym (own_imm bits ip row i)) (own_bare bits ip row i n g below some)) in
      rw (some, k) refl)
]

-- the unused bits of the last byte of a plain spelling are 0
pub last_plain : (bits : Bits) (ip : ℕ) (row : Row) (i : Instr) → Given bits ip row i → state_of bits row (plain_spelling bits ip row i) ≡ plain_front_of bits row i → FrontBits bits row i → immediates_are_read bits row (plain_spelling bits ip row i) ≡ true
unfolding immediates_are_read
last_plain bits ip row i g e f =
    rw (last_at bits ip row i 0 g (omega arith) e f, last_at bits ip row i 1 g (omega arith) e f, last_at bits ip row i 2 g (omega arith) e f, last_at bits ip row i 3 g (omega arith) e f) refl
