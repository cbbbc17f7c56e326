-- An instruction with some words has at least the bytes that its row, its address and its immediates ask for.
use Rattle.std.proofs.Common.{◌≡◌, ◌⊎◌, inl, inr, ℕ, ◌<◌, ◌≤◌, Bool, true, false, ◌==◌, nat_lt, List, length, Option, Some, None, is_some, refl, ap, sym, ◌∙◌, arith, if◌then◌else◌, slice_get, eqb-true}
use Rattle.std.specs.Prelude.{unwrap_or}
use Rattle.std.specs.Ordering.{is_gt}
use Rattle.std.specs.declared.cmp.Ordering.TheVariants.{Less, Equal}
use Rattle.std.specs.Cmp.{nat_cmp_is}
use Rattle.std.proofs.lemmas.Bool.{or_cases, and_parts}
use borrow.Author.Tests.{ltb-true}
use Rattle.x86_values.specs.declared.Bits.{Bits}
use Rattle.x86_values.specs.declared.DispSize.{DispSize}
use Rattle.x86_values.specs.declared.Mem.{Mem}
use Rattle.x86_values.specs.declared.Operand.{Operand}
use Rattle.x86_values.specs.declared.Operand.TheVariants.{Mem as MemOperand}
use Rattle.x86_values.specs.declared.Code.{Code}
use Rattle.x86_values.specs.declared.Instr.{Instr}
use Rattle.x86_values.specs.Wrapping.{modulo_width}
use Rattle.instruction_parts.specs.declared.row_types.Map.{Map}
use Rattle.instruction_parts.specs.declared.row_types.Row.{Row}
use Rattle.instruction_parts.specs.declared.row_types.Place.{Place}
use Rattle.instruction_parts.specs.declared.row_types.ModRmRule.{ModRmRule}
use Rattle.instruction_parts.specs.declared.row_types.ModRmRule.TheVariants.{No as NoModRm, Any as AnyModRm, Digit, Fixed as FixedByte}
use Rattle.instruction_parts.specs.declared.kinds.Method.{Method}
use Rattle.instruction_parts.specs.declared.kinds.Method.TheVariants as method
use Rattle.instruction_parts.specs.declared.spelling.Vex.{Vex}
use Rattle.instruction_parts.specs.Bytes.{bit, bytes_of, lead_bytes, vex_bytes}
use Rattle.instruction_parts.specs.Kinds.{method_of}
use Rattle.instruction_parts.specs.Sizes.{is_vex_row}
use Rattle.row_fit.specs.Fits.{kind_at, immediates_bytes}
use Rattle.row_fit.specs.Sound.{has_modrm_rule}
use Rattle.plain_spelling.specs.Addresses.{displacement_count}
use Rattle.plain_spelling.specs.Forms.{is_variant_of, operand_at}
use Rattle.plain_spelling.specs.PlainFront.{asks_rex_w, asked_rex, asked_vex, asked_used, plain_front_of}
use Rattle.plain_spelling.specs.PlainTail.{byte_count, plain_modrm, operand_displacement, address_operand, plain_len, plain_spelling}
use Rattle.plain_spelling.proofs.Asked.{address_operand-at, reads_address}
use Rattle.row_relation.specs.Given.{Given}
use Rattle.row_relation.proofs.FitLengths.{plain_long}
use Rattle.row_relation.specs.PlainLaws.Plain.{IsPlainlySpelled}
use Rattle.row_relation.proofs.PlainLaws.Exact.{plain_from}
use Rattle.opcode_rows.specs.Table.{table}
use Rattle.encoder.proofs.OverTable.{written_table, none_fails, only_one}
use Rattle.intel_words.specs.declared.words.IntelWords.{IntelWords}
use Rattle.intel_words.specs.declared.words.Inside.{Inside}
use Rattle.intel_words.specs.declared.words.Inside.TheVariants.{Nothing, Lone, Rel, Sum}
use Rattle.intel_words.specs.declared.words.AddressText.{AddressText}
use Rattle.intel_words.specs.declared.words.OperandText.{OperandText}
use Rattle.intel_words.specs.declared.words.OperandText.TheVariants.{Absent, Reg, Number, Far, Mem as Address}
use Rattle.intel_reader.specs.declared.choice.Found.{Found}
use Rattle.intel_reader.specs.Assembled.{Assembly, compare_assemblies, IsCandidate}
use Rattle.intel_reader.specs.Candidate.{is_near_at, address_from, operand_from, text_at, candidate}
use Rattle.intel_reader.specs.Choice.{assembly_of, LeadsChoice}
use Rattle.intel_reader.specs.Lengths.{least_front, displacement_of_words, least_len, is_behind}
use Rattle.intel_reader.specs.Possible.{is_address, has_address}
use Rattle.intel_reader.proofs.AllowedWords.{code_is, made_at, made_given}
use Rattle.intel_reader.proofs.CandidateBack.{variant_at}
use Rattle.intel_reader.proofs.PlainFacts.{plain_is_ready}

-- ---- the bytes of a plain spelling

-- an instruction has as many bytes as its parts
length_there : (bits : Bits) (ip : ℕ) (bytes : List ℕ) (row : Row) (i : Instr) → IsPlainlySpelled table bits ip bytes i → slice_get table i.code.0 ≡ Some row → length bytes ≡ plain_len bits row i
length_there bits ip bytes row i p at =
    let g = (plain_is_ready bits ip bytes row i p at).given in
    let q = plain_from table bits ip row i written_table at g.four (none_fails bits ip bytes i (Some row) at p) in
    ap (λ (bs : List ℕ). length bs) (only_one bits ip bytes (bytes_of row (plain_spelling bits ip row i)) i p q) ∙ plain_long bits ip row i g.suits.kinds

-- ---- the front

vex_two : (v : Vex) → 2 ≤ length (vex_bytes v)
unfolding vex_bytes
vex_two v = by_three v.three refl
  where
    by_three : (t : Bool) → v.three ≡ t → 2 ≤ length (vex_bytes v)
    by_three true e = rw e (omega arith)
    by_three false e = rw e (omega arith)

lead_two : (map : Map) (o : Option Vex) → is_some o ≡ true → 2 ≤ length (lead_bytes map o)
unfolding lead_bytes
lead_two map None h = cc
lead_two map (Some v) h = vex_two v

vex_there : (row : Row) (i : Instr) → is_vex_row row ≡ true → is_some (asked_vex row i) ≡ true
unfolding asked_vex
vex_there row i h = rw h refl

no_vex : (row : Row) (i : Instr) → is_vex_row row ≡ false → asked_vex row i ≡ None
unfolding asked_vex
no_vex row i h = rw h refl

rex_least : (row : Row) (i : Instr) → is_vex_row row ≡ false → bit (asks_rex_w row) ≤ bit (is_some (asked_rex row i))
unfolding asked_rex
rex_least row i h = by_w (asks_rex_w row) refl
  where
    by_w : (w : Bool) → asks_rex_w row ≡ w → bit (asks_rex_w row) ≤ bit (is_some (asked_rex row i))
    by_w true e = rw (h, e) (omega arith)
    by_w false e = rw e (omega arith)

front_least : (bits : Bits) (row : Row) (i : Instr) → least_front bits row ≤ (plain_front_of bits row i).used
unfolding least_front plain_front_of asked_used
front_least bits row i = by_kind (is_vex_row row) refl
  where
    by_kind : (v : Bool) → is_vex_row row ≡ v → least_front bits row ≤ (plain_front_of bits row i).used
    by_kind true e =
        let two = lead_two row.map (asked_vex row i) (vex_there row i e) in
        rw e (omega (arith, two))
    by_kind false e =
        let rex = rex_least row i e in
        let lead : length (lead_bytes row.map (asked_vex row i)) ≡ length (lead_bytes row.map None) = ap (λ (o : Option Vex). length (lead_bytes row.map o)) (no_vex row i e) in
        rw e (omega (arith, rex, lead))

-- ---- ModRM and displacement

modrm_is : (bits : Bits) (row : Row) (i : Instr) → is_some (plain_modrm bits row i) ≡ has_modrm_rule row.modrm
unfolding plain_modrm
modrm_is bits row i = by_rule row.modrm refl
  where
    by_rule : (m : ModRmRule) → row.modrm ≡ m → is_some (plain_modrm bits row i) ≡ has_modrm_rule row.modrm
    by_rule NoModRm e = rw e refl
    by_rule AnyModRm e = rw e refl
    by_rule (Digit d) e = rw e refl
    by_rule (FixedByte b) e = rw e refl

sized : (a : Bits) (size : DispSize) (inside : Inside) → (address_from a size inside).disp_size ≡ size
unfolding address_from
sized a size Nothing = refl
sized a size (Lone d) = refl
sized a size (Rel eip target) = refl
sized a size (Sum s) = refl

memory_reads : (place : Place) (how : Method) (m : Mem) → is_variant_of place how (MemOperand m) ≡ true → reads_address how ≡ true
unfolding is_variant_of
memory_reads place method.RegisterOrMemory m h = refl
memory_reads place method.MemoryOnly m h = refl
memory_reads place method.Gather m h = refl
memory_reads place method.Offset m h = refl
memory_reads place _ m h = cc

shown_address : (t : OperandText) → is_address t ≡ true → (a : AddressText) × (t ≡ Address a)
unfolding is_address
shown_address Absent h = cc
shown_address (Reg r) h = cc
shown_address (Number x) h = cc
shown_address (Far s o) h = cc
shown_address (Address a) h = (a, refl)

some_address : (words : IntelWords) → has_address words ≡ true → (n : ℕ) × (n < 4) × (is_address (text_at words n) ≡ true)
unfolding has_address
some_address words h = elim (or_cases (is_address (text_at words 0)) _ h) [
  | inl a ↦ (0, omega arith, a)
  | inr h1 ↦ (elim (or_cases (is_address (text_at words 1)) _ h1) [
    | inl b ↦ (1, omega arith, b)
    | inr h2 ↦ (elim (or_cases (is_address (text_at words 2)) _ h2) [
      | inl c ↦ (2, omega arith, c)
      | inr d ↦ (3, omega arith, d)
    ])
  ])
]

of_address : (near : Bool) (a : Bits) (size : DispSize) (t : AddressText) → operand_from near a size (Address t) ≡ MemOperand (address_from a size t.inside)
unfolding operand_from
of_address near a size t = refl

displacement_there : (bits : Bits) (ip : ℕ) (row : Row) (code : Code) (words : IntelWords) (asize : Option Bits) (size : DispSize) → Given bits ip row (candidate bits row code words asize size) → has_address words ≡ true
    → operand_displacement (address_operand row (candidate bits row code words asize size)) ≡ displacement_count size
displacement_there bits ip row code words asize size g h =
    let i : Instr = candidate bits row code words asize size in
    let some = some_address words h in
    let n : ℕ = some.0 in
    let below : n < 4 = some.1 in
    let shown = shown_address (text_at words n) some.2 in
    let m : Mem = address_from (unwrap_or asize bits) size shown.0.inside in
    let from : operand_from (is_near_at row n) (unwrap_or asize bits) size (Address shown.0) ≡ MemOperand m = of_address (is_near_at row n) (unwrap_or asize bits) size shown.0 in
    let at : operand_at i n ≡ MemOperand m =
    made_at bits row code words asize size n below ∙ ap (operand_from (is_near_at row n) (unwrap_or asize bits) size) shown.1 ∙ from in
    let reads = memory_reads row.place (method_of (kind_at row n)) m (variant_at bits ip row i n (MemOperand m) g below at) in
    ap (λ (op : Operand). operand_displacement op) (address_operand-at row i n g.is_sound g.four below reads ∙ at)
    ∙ ap displacement_count (sized (unwrap_or asize bits) size shown.0.inside)

displacement_least : (bits : Bits) (ip : ℕ) (row : Row) (code : Code) (words : IntelWords) (asize : Option Bits) (size : DispSize) → Given bits ip row (candidate bits row code words asize size)
    → displacement_of_words words size ≤ operand_displacement (address_operand row (candidate bits row code words asize size))
unfolding displacement_of_words
displacement_least bits ip row code words asize size g = by_words (has_address words) refl
  where
    by_words : (t : Bool) → has_address words ≡ t → (if has_address words then displacement_count size else 0) ≤ operand_displacement (address_operand row (candidate bits row code words asize size))
    by_words true e =
        let there = displacement_there bits ip row code words asize size g e in
        rw e (omega (arith, there))
    by_words false e = rw e (omega arith)

-- ---- all of it

modrm_byte_is : (a b : Bool) → a ≡ b → byte_count a ≡ bit b
modrm_byte_is true true e = refl
modrm_byte_is false false e = refl
modrm_byte_is true false e = cc
modrm_byte_is false true e = cc

-- **the instruction of some words has no fewer bytes**
least_there : (bits : Bits) (ip : ℕ) (row : Row) (code : Code) (words : IntelWords) (asize : Option Bits) (size : DispSize) → Given bits ip row (candidate bits row code words asize size)
    → least_len bits row words size ≤ plain_len bits row (candidate bits row code words asize size)
unfolding least_len plain_len immediates_bytes
least_there bits ip row code words asize size g =
    let i : Instr = candidate bits row code words asize size in
    let front = front_least bits row i in
    let modrm = modrm_byte_is (is_some (plain_modrm bits row i)) (has_modrm_rule row.modrm) (modrm_is bits row i) in
    let disp = displacement_least bits ip row code words asize size g in
    omega (arith, front, modrm, disp)

-- ---- what comes behind

shorter : (a b : Assembly) → length a.bytes < length b.bytes → is_gt (compare_assemblies a b) ≡ false
shorter a b lt = rw (← nat_cmp_is (length a.bytes) (length b.bytes) Less lt) refl

lesser : (a b : Assembly) → length a.bytes ≡ length b.bytes → a.instr.code.0 < b.instr.code.0 → is_gt (compare_assemblies a b) ≡ false
lesser a b e lt =
    rw (
      ← nat_cmp_is (length a.bytes) (length b.bytes) Equal e,
      ← nat_cmp_is a.instr.code.0 b.instr.code.0 Less lt,
    ) refl

less_or_same : (m n : ℕ) → m ≤ n → (m < n) ⊎ (m ≡ n)
less_or_same m n h = elim (or_cases (nat_lt m n) (m == n) (grind (arith, h))) [
  | inl lt ↦ inl (ltb-true m n lt)
  | inr e ↦ inr (eqb-true m n e)
]

-- what was found leads what comes behind it
behind_led : (best : Option Found) (b : Assembly) (code least : ℕ) → is_behind best code least ≡ true → least ≤ length b.bytes → b.instr.code.0 ≡ code → LeadsChoice best b
unfolding is_behind
behind_led None b code least h le e = cc
behind_led (Some f) b code least h le e = elim (or_cases (nat_lt (length f.bytes.items) least) _ h) [
  | inl lt ↦ (let below = ltb-true (length f.bytes.items) least lt in shorter (assembly_of f) b (omega (arith, below, le)))
  | inr both ↦ (let same = eqb-true (length f.bytes.items) least (and_parts (length f.bytes.items == least) (nat_lt f.instr.code.0 code) both).0 in
      let lt = ltb-true f.instr.code.0 code (and_parts (length f.bytes.items == least) (nat_lt f.instr.code.0 code) both).1 in
      elim (less_or_same least (length b.bytes) le) [
        | inl below ↦ shorter (assembly_of f) b (omega (arith, same, below))
        | inr tied ↦ lesser (assembly_of f) b (same ∙ tied) (omega (arith, lt, e))
      ])
]

-- **what was found leads each candidate that has too many bytes**
pub left_behind : (bits : Bits) (ip : ℕ) (text : List ℕ) (b : Assembly) (row : Row) (code : Code) (words : IntelWords) (asize : Option Bits) (size : DispSize) (best : Option Found) → IsCandidate bits ip text b
    → slice_get table code.0 ≡ Some row → candidate bits row code words asize size ≡ b.instr → is_behind best code.0 (least_len bits row words size) ≡ true → LeadsChoice best b
left_behind bits ip text b row code words asize size best k at e h =
    let g = made_given bits ip text b row code words asize size k at e in
    let same : b.instr.code.0 ≡ code.0 = ap (λ (i : Instr). i.code.0) (sym e) ∙ ap (λ (c : Code). c.0) (code_is bits row code words asize size) in
    let there : slice_get table b.instr.code.0 ≡ Some row = ap (slice_get table) same ∙ at in
    let long : length b.bytes ≡ plain_len bits row b.instr = length_there bits (modulo_width bits ip) b.bytes row b.instr k.spelled there in
    let made : plain_len bits row (candidate bits row code words asize size) ≡ plain_len bits row b.instr = ap (plain_len bits row) e in
    let least = least_there bits (modulo_width bits ip) row code words asize size g in
    behind_led best b code.0 (least_len bits row words size) h (omega (arith, long, made, least)) same
