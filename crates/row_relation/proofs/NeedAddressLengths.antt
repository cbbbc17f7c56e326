-- What a fitting spelling means asks for no more bytes of ModRM, SIB and displacement than the spelling has.
use Rattle.std.proofs.Common.{◌≡◌, ℕ, suc, ◌/◌, ◌%◌, ◌<◌, ◌≤◌, Bool, true, false, ◌||◌, List, [], ◌∷◌, length, Option, Some, None, is_some, refl, ap, sym, ◌∙◌, subst, arith, if◌then◌else◌}
use Rattle.std.specs.Prelude.{slice_index_or}
use Rattle.x86_values.specs.declared.Bits.{Bits}
use Rattle.x86_values.specs.declared.Code.{Code}
use Rattle.x86_values.specs.declared.Operand.{Operand}
use Rattle.x86_values.specs.declared.Operand.TheVariants.{Absent as AbsentOperand}
use Rattle.x86_values.specs.declared.Instr.{Instr}
use Rattle.instruction_parts.specs.declared.row_types.Row.{Row}
use Rattle.instruction_parts.specs.declared.row_types.Plus.{Plus}
use Rattle.instruction_parts.specs.declared.row_types.ModRmRule.{ModRmRule}
use Rattle.instruction_parts.specs.declared.row_types.ModRmRule.TheVariants.{No as NoModRm, Any as AnyModRm, Digit, Fixed as FixedByte}
use Rattle.instruction_parts.specs.declared.row_types.OpKind.{OpKind}
use Rattle.instruction_parts.specs.declared.row_types.OpKind.TheVariants.{Absent}
use Rattle.instruction_parts.specs.declared.kinds.Method.{Method}
use Rattle.instruction_parts.specs.declared.spelling.ModRm.{ModRm}
use Rattle.instruction_parts.specs.declared.spelling.Sib.{Sib}
use Rattle.instruction_parts.specs.declared.spelling.Spelling.{Spelling}
use Rattle.instruction_parts.specs.Kinds.{method_of, file_of}
use Rattle.instruction_parts.specs.Sizes.{state_size}
use Rattle.instruction_parts.specs.Bytes.{state_of}
use Rattle.row_fit.specs.Fits.{Fits, kind_at, is_offset, modrm_rule_fits}
use Rattle.row_fit.specs.Sound.{Sound, reads_rm}
use Rattle.row_meaning.specs.Meaning.{tail_of, own_immediate}
use Rattle.x86_values.specs.Operands.{is_memory}
use Rattle.plain_spelling.specs.Forms.{operand_at}
use Rattle.plain_spelling.specs.PlainFront.{number_in_reg, number_asked_of}
use Rattle.plain_spelling.specs.PlainTail.{plain_modrm, plain_sib_of, operand_displacement, operand_where, address_operand, fields_of, rm_fields, fixed_rm, modrm_with}
use Rattle.plain_spelling.proofs.Asked.{four_kinds}
use Rattle.row_relation.proofs.AddressCases.{impossible}
use Rattle.row_relation.specs.GivenSpelling.{Given}
use Rattle.row_relation.proofs.NeedUsed.{read, read_is}
use Rattle.row_relation.proofs.NeedVariants.{read_at}
use Rattle.row_relation.proofs.NeedReadOperands.{count_of_fits}
use Rattle.row_relation.proofs.NeedReadTails.{tail_reads, rule_of}
use Rattle.row_relation.proofs.NeedReadSibs.{SibStands, sib_stands}
use Rattle.row_relation.proofs.NeedAddresses.{spelled_asize, fits_at, asize_of_memory}

-- ---- an operand that is looked for

if_holds : (P : Operand → Type 0) (test : Bool) (x y : Operand) → (test ≡ true → P x) → P y → P (if test then x else y)
if_holds P true x y hx hy = hx refl
if_holds P false x y hx hy = hy

-- what holds of each operand that passes, and of none, holds of the first one
where_holds : (P : Operand → Type 0) (p : Method → Bool) (kinds : List OpKind) (ops : List Operand) → P AbsentOperand → ((n : ℕ) → n < length kinds → p (method_of (slice_index_or kinds n Absent)) ≡ true → P (slice_index_or ops n AbsentOperand)) → P (operand_where p kinds ops)
where_holds P p [] ops none h = none
where_holds P p (kind ∷ kinds) [] none h = none
where_holds P p (kind ∷ kinds) (op ∷ ops) none h =
    if_holds P (p (method_of kind)) op (operand_where p kinds ops) (λ e. h 0 (omega arith) e)
    (where_holds P p kinds ops none (λ n below e. h (suc n) (omega arith) e))

below_four : (row : Row) (n : ℕ) → Sound row → n < length row.ops → n < 4
below_four row n s h = let four = four_kinds row s in omega arith

-- ---- the displacement

-- **the displacement that the plain spelling has is no longer than that of the spelling**
pub displacement_within : (bits : Bits) (ip : ℕ) (code : Code) (row : Row) (s : Spelling) (i : Instr) → Given bits ip code row s i → operand_displacement (address_operand row i) ≤ length s.disp.items
displacement_within bits ip code row s i g =
    where_holds (λ op. operand_displacement op ≤ length s.disp.items) (λ how. reads_rm how || is_offset how) row.ops i.ops nothing
    (λ n below e. count_of_fits bits (spelled_asize bits row s) row (method_of (kind_at row n)) (file_of (kind_at row n)) (length s.disp.items) (operand_at i n) (fits_at bits ip code row s i n g (below_four row n g.is_sound below)))
  where
    nothing : 0 ≤ length s.disp.items
    nothing = omega arith

-- ---- the SIB

read_stands : (bits : Bits) (ip : ℕ) (code : Code) (row : Row) (s : Spelling) (n : ℕ) (o : Option Bits) → Sound row → Fits bits row s → n < 4 → reads_rm (method_of (kind_at row n)) ≡ true → (is_memory (operand_at (read bits ip code row s) n) ≡ true → o ≡ Some (spelled_asize bits row s))
    → SibStands bits o row.place s.sib (operand_at (read bits ip code row s) n)
read_stands bits ip code row s n o sound f below reads size =
    let st = state_of bits row s in
    let t = tail_of bits ip row s in
    let own = own_immediate (state_size bits row st) row n s.imm.items in
    let e = read_at bits code row st t s.imm.items n below in
    subst (λ (x : Operand). SibStands bits o row.place s.sib x) (sym e)
    (sib_stands bits row st t (kind_at row n) (method_of (kind_at row n)) own o row.place reads (tail_reads bits ip row s n sound f below)
    (λ h. size (ap is_memory e ∙ h)))

stands_at : (bits : Bits) (ip : ℕ) (code : Code) (row : Row) (s : Spelling) (i : Instr) (n : ℕ) → Given bits ip code row s i → n < 4 → reads_rm (method_of (kind_at row n)) ≡ true → SibStands bits i.asize row.place s.sib (operand_at i n)
stands_at bits ip code row s i n g below reads =
    let e = read_is bits ip code row s i g in
    subst (λ (x : Instr). SibStands bits i.asize row.place s.sib (operand_at x n)) e
    (read_stands bits ip code row s n i.asize g.is_sound g.fitting below reads
    (λ h. asize_of_memory bits ip code row s i n g below (subst (λ (x : Instr). is_memory (operand_at x n) ≡ true) e h)))

fields_stand : (bits : Bits) (ip : ℕ) (code : Code) (row : Row) (s : Spelling) (i : Instr) → Given bits ip code row s i → is_some (fields_of bits row i).sib ≡ true → is_some s.sib ≡ true
unfolding rm_fields
fields_stand bits ip code row s i g =
    where_holds (λ op. SibStands bits i.asize row.place s.sib op) reads_rm row.ops i.ops (λ h. impossible (sym h))
    (λ n below e. stands_at bits ip code row s i n g (below_four row n g.is_sound below) e)

sib_by : (rule : ModRmRule) (sib : Option Sib) → is_some (elim rule [ NoModRm ↦ None | AnyModRm ↦ sib | Digit d ↦ sib | FixedByte b ↦ None ]) ≡ true → is_some sib ≡ true
sib_by NoModRm sib h = impossible (sym h)
sib_by AnyModRm sib h = h
sib_by (Digit d) sib h = h
sib_by (FixedByte b) sib h = impossible (sym h)

-- **where the plain spelling has a SIB, the spelling has one**
pub sib_within : (bits : Bits) (ip : ℕ) (code : Code) (row : Row) (s : Spelling) (i : Instr) → Given bits ip code row s i → is_some (plain_sib_of bits row i) ≡ true → is_some s.sib ≡ true
unfolding plain_sib_of
sib_within bits ip code row s i g h = fields_stand bits ip code row s i g (sib_by row.modrm (fields_of bits row i).sib h)

-- ---- ModRM

by_rule : (plus : Plus) (rule : ModRmRule) (any : ModRm) (digit fixed : ℕ → ModRm) (m : Option ModRm) → modrm_rule_fits plus rule m ≡ true → is_some (elim rule [ NoModRm ↦ None | AnyModRm ↦ Some any | Digit d ↦ Some (digit d) | FixedByte b ↦ Some (fixed b) ]) ≡ is_some m
unfolding modrm_rule_fits
by_rule plus NoModRm any digit fixed None h = refl
by_rule plus NoModRm any digit fixed (Some m) h = impossible (sym h)
by_rule plus AnyModRm any digit fixed m h = sym h
by_rule plus (Digit d) any digit fixed None h = impossible (sym h)
by_rule plus (Digit d) any digit fixed (Some m) h = refl
by_rule plus (FixedByte b) any digit fixed None h = impossible (sym h)
by_rule plus (FixedByte b) any digit fixed (Some m) h = refl

same_rule : (bits : Bits) (row : Row) (i : Instr) (m : Option ModRm) → modrm_rule_fits row.plus row.modrm m ≡ true → is_some (plain_modrm bits row i) ≡ is_some m
unfolding plain_modrm
same_rule bits row i m h =
    by_rule row.plus row.modrm (modrm_with (number_asked_of number_in_reg row i % 8) (fields_of bits row i)) (λ d. modrm_with d (fields_of bits row i))
    (λ b. record { mode3 = b / 64; reg = b / 8 % 8; rm = fixed_rm row i b }) m h

-- **the plain spelling has a ModRM where the spelling has one**
pub modrm_alike : (bits : Bits) (ip : ℕ) (code : Code) (row : Row) (s : Spelling) (i : Instr) → Given bits ip code row s i → is_some (plain_modrm bits row i) ≡ is_some s.modrm
modrm_alike bits ip code row s i g = same_rule bits row i s.modrm (rule_of row s.opcode s.modrm g.fitting.opcode)
