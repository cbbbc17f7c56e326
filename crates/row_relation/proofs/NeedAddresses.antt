-- The memory operands of what a fitting spelling means meet the conditions on addresses.
use Rattle.std.proofs.Common.{◌≡◌, ℕ, ◌<◌, Bool, true, false, ◌&&◌, ◌||◌, not, List, [], ◌∷◌, length, Option, Some, None, is_none, refl, ap, sym, ◌∙◌, subst, arith, if◌then◌else◌}
use Rattle.std.proofs.lemmas.Bool.{and_from}
use Rattle.std.specs.Prelude.{slice_index_or}
use Rattle.std.specs.List.{list_any}
use Rattle.x86_values.specs.declared.Bits.{Bits}
use Rattle.x86_values.specs.declared.Code.{Code}
use Rattle.x86_values.specs.declared.Operand.{Operand}
use Rattle.x86_values.specs.declared.Instr.{Instr}
use Rattle.instruction_parts.specs.declared.row_types.Row.{Row}
use Rattle.instruction_parts.specs.declared.row_types.OpKind.{OpKind}
use Rattle.instruction_parts.specs.declared.row_types.OpKind.TheVariants.{Absent}
use Rattle.instruction_parts.specs.declared.spelling.Spelling.{Spelling}
use Rattle.instruction_parts.specs.Kinds.{method_of, file_of}
use Rattle.instruction_parts.specs.Counting.{is_16}
use Rattle.instruction_parts.specs.Sizes.{state_size, state_address_size, has_address_mark}
use Rattle.instruction_parts.specs.Bytes.{state_of}
use Rattle.row_fit.specs.Fits.{Fits, kind_at, reads_by, is_gather, is_memory_method}
use Rattle.row_fit.specs.Sound.{Sound}
use Rattle.row_meaning.specs.Meaning.{tail_of, own_immediate, instr_of, has_memory, kept_address_size}
use Rattle.x86_values.specs.Operands.{is_memory}
use Rattle.plain_spelling.specs.Forms.{operand_at}
use Rattle.plain_spelling.specs.Addresses.{has_address_size}
use Rattle.plain_spelling.specs.Expressible.{each_operand, address_suits, displacement_offered, has_memory_operand, size_agrees, is_size_of, address_size_suits}
use Rattle.plain_spelling.proofs.Asked.{each-from, four_kinds}
use Rattle.row_relation.proofs.AddressCases.{if_yes}
use Rattle.row_relation.proofs.AddressForms.{memory_there}
use Rattle.row_relation.specs.GivenSpelling.{Given}
use Rattle.row_relation.proofs.NeedUsed.{read, read_is}
use Rattle.row_relation.proofs.NeedVariants.{read_at}
use Rattle.row_relation.proofs.NeedReadOperands.{OperandFits, operand_fits, memory_is, shape_of_fits, offer_of_fits, size_of_fits}
use Rattle.row_relation.proofs.NeedReadTails.{has_size, gather_is_wide, tail_reads}

-- ---- each operand

-- the address size of a spelling
abbrev pub spelled_asize : Bits → Row → Spelling → Bits
spelled_asize bits row s = state_address_size bits (state_of bits row s)

-- operand n of what a spelling means fits its kind
abbrev pub FitsAt : Bits → Row → Spelling → Instr → ℕ → Type 0
FitsAt bits row s i n = OperandFits bits (spelled_asize bits row s) row (method_of (kind_at row n)) (file_of (kind_at row n)) (length s.disp.items) (operand_at i n)

read_fits : (bits : Bits) (ip : ℕ) (code : Code) (row : Row) (s : Spelling) (n : ℕ) → Sound row → Fits bits row s → n < 4 → FitsAt bits row s (read bits ip code row s) n
read_fits bits ip code row s n sound f below =
    let st = state_of bits row s in
    let t = tail_of bits ip row s in
    subst (λ (x : Operand). OperandFits bits (state_address_size bits st) row (method_of (kind_at row n)) (file_of (kind_at row n)) (length s.disp.items) x) (sym (read_at bits code row st t s.imm.items n below))
    (operand_fits bits row st t (kind_at row n) (method_of (kind_at row n)) (own_immediate (state_size bits row st) row n s.imm.items) refl (tail_reads bits ip row s n sound f below))

-- **operand n is a shape with a displacement of its kind, or no address**
pub fits_at : (bits : Bits) (ip : ℕ) (code : Code) (row : Row) (s : Spelling) (i : Instr) (n : ℕ) → Given bits ip code row s i → n < 4 → FitsAt bits row s i n
fits_at bits ip code row s i n g below =
    subst (λ (x : Instr). FitsAt bits row s x n) (read_is bits ip code row s i g) (read_fits bits ip code row s n g.is_sound g.fitting below)

-- ---- memory operands

read_memory : (bits : Bits) (ip : ℕ) (code : Code) (row : Row) (s : Spelling) (n : ℕ) → Sound row → Fits bits row s → n < 4 → is_memory (operand_at (read bits ip code row s) n) ≡ is_memory_method (method_of (kind_at row n)) s.modrm
read_memory bits ip code row s n sound f below =
    let st = state_of bits row s in
    let t = tail_of bits ip row s in
    ap is_memory (read_at bits code row st t s.imm.items n below)
    ∙ memory_is bits row st t (kind_at row n) (method_of (kind_at row n)) (own_immediate (state_size bits row st) row n s.imm.items) (tail_reads bits ip row s n sound f below)

any_of_four : (q : OpKind → Bool) (kinds : List OpKind) → length kinds ≡ 4 → list_any q kinds ≡ (q (slice_index_or kinds 0 Absent) || (q (slice_index_or kinds 1 Absent) || (q (slice_index_or kinds 2 Absent) || q (slice_index_or kinds 3 Absent))))
any_of_four q [] h = absurd (omega arith)
any_of_four q (a ∷ []) h = absurd (omega arith)
any_of_four q (a ∷ b ∷ []) h = absurd (omega arith)
any_of_four q (a ∷ b ∷ c ∷ []) h = absurd (omega arith)
any_of_four q (a ∷ b ∷ c ∷ d ∷ []) h = ap (λ (x : Bool). q a || (q b || (q c || x))) (or_no (q d))
  where
    or_no : (x : Bool) → (x || false) ≡ x
    or_no true = refl
    or_no false = refl
any_of_four q (a ∷ b ∷ c ∷ d ∷ e ∷ kinds) h = absurd (omega arith)

-- some operand is memory where the row says so under this ModRM
read_has_memory : (bits : Bits) (ip : ℕ) (code : Code) (row : Row) (s : Spelling) → Sound row → Fits bits row s → has_memory_operand (read bits ip code row s) ≡ has_memory row s.modrm
unfolding has_memory_operand has_memory
read_has_memory bits ip code row s sound f =
    let e0 = read_memory bits ip code row s 0 sound f (omega arith) in
    let e1 = read_memory bits ip code row s 1 sound f (omega arith) in
    let e2 = read_memory bits ip code row s 2 sound f (omega arith) in
    let e3 = read_memory bits ip code row s 3 sound f (omega arith) in
    rw (e0, e1, e2, e3) (sym (any_of_four (λ kind. is_memory_method (method_of kind) s.modrm) row.ops (four_kinds row sound)))

read_asize : (bits : Bits) (ip : ℕ) (code : Code) (row : Row) (s : Spelling) → Sound row → Fits bits row s → (read bits ip code row s).asize ≡ (if has_memory_operand (read bits ip code row s) || has_address_mark row then Some (spelled_asize bits row s) else None)
unfolding instr_of kept_address_size
read_asize bits ip code row s sound f =
    ap (λ (b : Bool). if b || has_address_mark row then Some (spelled_asize bits row s) else None) (sym (read_has_memory bits ip code row s sound f))

-- the address size that an instruction keeps
pub asize_is : (bits : Bits) (ip : ℕ) (code : Code) (row : Row) (s : Spelling) (i : Instr) → Given bits ip code row s i → i.asize ≡ (if has_memory_operand i || has_address_mark row then Some (spelled_asize bits row s) else None)
asize_is bits ip code row s i g =
    subst (λ (x : Instr). x.asize ≡ (if has_memory_operand x || has_address_mark row then Some (spelled_asize bits row s) else None)) (read_is bits ip code row s i g)
    (read_asize bits ip code row s g.is_sound g.fitting)

-- beside a memory operand it is kept
pub asize_of_memory : (bits : Bits) (ip : ℕ) (code : Code) (row : Row) (s : Spelling) (i : Instr) (n : ℕ) → Given bits ip code row s i → n < 4 → is_memory (operand_at i n) ≡ true → i.asize ≡ Some (spelled_asize bits row s)
asize_of_memory bits ip code row s i n g below h =
    asize_is bits ip code row s i g ∙ if_yes (has_memory_operand i || has_address_mark row) _ _ (rw (memory_there i n below h) refl)

-- ---- the conditions

-- **each memory operand is a shape**
pub addresses_suit : (bits : Bits) (ip : ℕ) (code : Code) (row : Row) (s : Spelling) (i : Instr) → Given bits ip code row s i → each_operand (address_suits bits row i) ≡ true
unfolding address_suits
addresses_suit bits ip code row s i g =
    each-from (address_suits bits row i) (λ n below. shape_of_fits bits (spelled_asize bits row s) row (method_of (kind_at row n)) (file_of (kind_at row n)) (length s.disp.items) (operand_at i n) (fits_at bits ip code row s i n g below))

-- **each displacement is one that the shape offers**
pub displacements_suit : (bits : Bits) (ip : ℕ) (code : Code) (row : Row) (s : Spelling) (i : Instr) → Given bits ip code row s i → each_operand (displacement_offered bits row i) ≡ true
unfolding displacement_offered
displacements_suit bits ip code row s i g =
    each-from (displacement_offered bits row i) (λ n below. offer_of_fits bits (spelled_asize bits row s) row (method_of (kind_at row n)) (file_of (kind_at row n)) (length s.disp.items) (operand_at i n) i.asize
    (λ h. asize_of_memory bits ip code row s i n g below h) (fits_at bits ip code row s i n g below))

size_is : (bits : Bits) (ip : ℕ) (code : Code) (row : Row) (s : Spelling) (i : Instr) → Given bits ip code row s i → is_size_of bits row i (spelled_asize bits row s) ≡ true
unfolding is_size_of
size_is bits ip code row s i g =
    and_from (has_address_size bits asize) _ (has_size bits (state_of bits row s).addr67)
    (and_from (each_operand (λ n. size_agrees asize (operand_at i n))) (not (is_16 asize && reads_by is_gather row))
    (each-from (λ n. size_agrees asize (operand_at i n)) each) wide)
  where
    asize : Bits
    asize = spelled_asize bits row s

    each : (n : ℕ) → n < 4 → size_agrees (spelled_asize bits row s) (operand_at i n) ≡ true
    each n below = size_of_fits bits (spelled_asize bits row s) row (method_of (kind_at row n)) (file_of (kind_at row n)) (length s.disp.items) (operand_at i n) (fits_at bits ip code row s i n g below)

    not_both : (a b : Bool) → (b ≡ true → a ≡ false) → not (a && b) ≡ true
    not_both true true h = sym (h refl)
    not_both true false h = refl
    not_both false b h = refl

    wide : not (is_16 (spelled_asize bits row s) && reads_by is_gather row) ≡ true
    wide = not_both (is_16 (spelled_asize bits row s)) (reads_by is_gather row) (λ any. (gather_is_wide bits ip row s g.is_sound g.fitting any).0)

by_need : (needed : Bool) (asize : Bits) (o : Option Bits) (p : Bits → Bool) → o ≡ (if needed then Some asize else None) → p asize ≡ true → (if needed then (elim o [ None ↦ false | Some a ↦ p a ]) else is_none o) ≡ true
by_need true asize o p e h = rw e h
by_need false asize o p e h = rw e refl

-- **the address size is that of the operands, and one of the mode**
pub address_size_suit : (bits : Bits) (ip : ℕ) (code : Code) (row : Row) (s : Spelling) (i : Instr) → Given bits ip code row s i → address_size_suits bits row i ≡ true
unfolding address_size_suits
address_size_suit bits ip code row s i g =
    by_need (has_memory_operand i || has_address_mark row) (spelled_asize bits row s) i.asize (is_size_of bits row i) (asize_is bits ip code row s i g) (size_is bits ip code row s i g)
