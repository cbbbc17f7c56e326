-- An instruction with a plain spelling is one whose text can be read back: it has the form of its row, and its words can be told apart.
use Rattle.std.proofs.Common.{◌≡◌, ℕ, zero, suc, ◌^◌, ◌<◌, Bool, true, false, ◌&&◌, ◌||◌, not, nat_lt, List, [], ◌∷◌, length, Option, Some, refl, ap, sym, ◌∙◌, subst, arith, slice_get}
use Rattle.std.specs.Prelude.{unwrap_or}
use Rattle.std.specs.List.{list_all}
use Rattle.std.proofs.lemmas.Bool.{lt-ltb, and_from, and_parts}
use Rattle.x86_values.specs.declared.Bits.{Bits}
use Rattle.x86_values.specs.declared.Bits.TheVariants.{B16, B32, B64}
use Rattle.x86_values.specs.declared.Mem.{Mem}
use Rattle.x86_values.specs.declared.Operand.{Operand}
use Rattle.x86_values.specs.declared.Operand.TheVariants.{Absent, Reg, Mem as MemOperand, Imm, Near, Far}
use Rattle.x86_values.specs.declared.Instr.{Instr}
use Rattle.x86_values.specs.Operands.{is_absent}
use Rattle.instruction_parts.specs.declared.row_types.Row.{Row}
use Rattle.instruction_parts.specs.declared.row_types.Place.{Place}
use Rattle.instruction_parts.specs.declared.row_types.Place.TheVariants.{Any as AnyPlace, Memory as OnlyMemory, Register as OnlyRegister}
use Rattle.instruction_parts.specs.declared.kinds.Method.{Method}
use Rattle.instruction_parts.specs.declared.kinds.Method.TheVariants as method
use Rattle.instruction_parts.specs.Kinds.{method_of}
use Rattle.row_fit.specs.Fits.{kind_at}
use Rattle.opcode_rows.specs.Parts.{integer_rows, integer_flat, x87_rows, x87_flat, sse_rows, sse_flat, vex_rows, vex_flat}
use Rattle.opcode_rows.specs.declared.spot.Part.{Part}
use Rattle.opcode_rows.specs.declared.spot.Part.TheVariants as part
use Rattle.opcode_rows.specs.declared.generated_spots.TheConstants.{ROWS}
use Rattle.opcode_rows.specs.Table.{part_table, table, names, name_of}
use Rattle.opcode_rows.specs.Allowed.{is_named_if, has_numbers, operand_is_formed, is_formed}
use Rattle.opcode_rows.proofs.JoinFacts.{all_rows, in_each_part}
use Rattle.plain_spelling.specs.Forms.{is_scale, is_allowed_in, is_variant_of, operand_at}
use Rattle.plain_spelling.specs.PlainTail.{plain_size, plain_next}
use Rattle.plain_spelling.specs.Expressible.{target_suits, near_reaches, address_reaches}
use Rattle.plain_spelling.proofs.Asked.{each-at}
use Rattle.row_relation.proofs.AddressCases.{impossible}
use Rattle.row_relation.specs.Given.{Given}
use Rattle.row_fit.specs.Fits.{immediate_bytes}
use Rattle.text_parts.specs.PrefixWords.{text_address_size}
use Rattle.intel_words.specs.Scanning.{is_word_byte}
use Rattle.intel_words.specs.ReadWords.{is_lock, repeat_prefix_of, is_repeat_prefix, size_by, size_behind, is_prefix_word}
use Rattle.intel_words.specs.ReadRegisters.{segment_by, segment_of_word}
use Rattle.intel_words.specs.Printable.{is_plain_name, is_word_number, index_is_shown, is_printable_address, is_printable_operand, nth_is_printable, are_in_front, is_printable}
use Rattle.intel_reader.proofs.AddressBack.{AddressIs}
use Rattle.intel_reader.proofs.OperandFacts.{immediate_below, near_below, far_below}
use Rattle.intel_reader.proofs.CandidateBack.{variant_at, immediate_at, address_at}

-- ---- names

plain_names : list_all is_plain_name names ≡ true
unfolding is_plain_name is_word_byte is_prefix_word is_lock repeat_prefix_of is_repeat_prefix size_by size_behind segment_by segment_of_word names
plain_names = refl

all_at : (ns : List (List ℕ)) (k : ℕ) → list_all is_plain_name ns ≡ true → k < length ns → is_plain_name (unwrap_or (slice_get ns k) []) ≡ true
all_at [] k h lt = absurd (omega arith)
all_at (n ∷ ns) zero h lt = (and_parts (is_plain_name n) (list_all is_plain_name ns) h).0
all_at (n ∷ ns) (suc k) h lt = all_at ns k (and_parts (is_plain_name n) (list_all is_plain_name ns) h).1 (omega arith)

length-names : length names ≡ ROWS
unfolding names
length-names = refl

name_is_plain : (code : ℕ) → code < ROWS → is_plain_name (name_of code) ≡ true
unfolding name_of
name_is_plain code lt = all_at names code plain_names (omega (arith, lt, length-names))

-- ---- no operand behind an absent one

is_nothing : Method → Bool
is_nothing method.Nothing = true
is_nothing _ = false

-- no kind stands behind an absent one
unfoldable in_front : Row → Bool
in_front row =
    (not (is_nothing (method_of (kind_at row 0))) || is_nothing (method_of (kind_at row 1)))
    && ((not (is_nothing (method_of (kind_at row 1))) || is_nothing (method_of (kind_at row 2)))
    && (not (is_nothing (method_of (kind_at row 2))) || is_nothing (method_of (kind_at row 3))))

each-in_front : (p : Part) → all_rows in_front (part_table p) ≡ true
unfolding all_rows in_front is_nothing method_of integer_rows integer_flat x87_rows x87_flat sse_rows sse_flat vex_rows vex_flat
each-in_front part.Integer = refl
each-in_front part.X87 = refl
each-in_front part.Sse = refl
each-in_front part.Vex = refl

allowed_absent : (place : Place) → is_allowed_in place Absent ≡ false
unfolding is_allowed_in
allowed_absent AnyPlace = refl
allowed_absent OnlyMemory = refl
allowed_absent OnlyRegister = refl

absent_same : (place : Place) (how : Method) (op : Operand) → is_variant_of place how op ≡ true → is_nothing how ≡ is_absent op
unfolding is_variant_of is_nothing
absent_same place method.Nothing op h = sym h
absent_same place method.RegisterOrMemory Absent h = impossible (sym h ∙ allowed_absent place)
absent_same place how Absent h = impossible (sym h)
absent_same place how (Reg r) h = refl
absent_same place how (MemOperand m) h = refl
absent_same place how (Imm x) h = refl
absent_same place how (Near x) h = refl
absent_same place how (Far s o) h = refl

in_front_at : (bits : Bits) (ip : ℕ) (row : Row) (i : Instr) → slice_get table i.code.0 ≡ Some row → Given bits ip row i → are_in_front i ≡ true
unfolding in_front are_in_front
in_front_at bits ip row i at g =
    let same = λ (n : ℕ) (below : n < 4). absent_same row.place (method_of (kind_at row n)) (operand_at i n) (variant_at bits ip row i n (operand_at i n) g below refl) in
    rw (
      ← same 0 (omega arith),
      ← same 1 (omega arith),
      ← same 2 (omega arith),
      ← same 3 (omega arith),
    ) (in_each_part in_front each-in_front i.code.0 row at)

-- ---- operands

word_number : (x : ℕ) → x < 2 ^ 64 → is_word_number x ≡ true
unfolding is_word_number
word_number x h = lt-ltb x (2 ^ 64) h

small_scale : (n : ℕ) → is_scale n ≡ true → nat_lt n 10 ≡ true
small_scale n h = grind (arith, h)

shown_index : (a : Bits) (m : Mem) → AddressIs a m → index_is_shown a m ≡ true
unfolding index_is_shown
shown_index B16 m k = k.shown refl
shown_index B32 m k = refl
shown_index B64 m k = refl

address_printable : (a : Bits) (m : Mem) → AddressIs a m → has_numbers (MemOperand m) ≡ true → is_printable_address a m ≡ true
unfolding is_printable_address has_numbers
address_printable a m k h =
    let registers = (and_parts (is_scale m.scale) (is_named_if m.base && is_named_if m.index) h).1 in
    and_from (is_named_if m.base) _ (and_parts (is_named_if m.base) (is_named_if m.index) registers).0
    (and_from (is_named_if m.index) _ (and_parts (is_named_if m.base) (is_named_if m.index) registers).1
    (and_from (nat_lt m.scale 10) _ (small_scale m.scale (and_parts (is_scale m.scale) (is_named_if m.base && is_named_if m.index) h).0)
    (and_from (is_word_number m.disp) (index_is_shown a m) (word_number m.disp k.number) (shown_index a m k))))

near_at : (bits : Bits) (ip : ℕ) (row : Row) (i : Instr) (n x : ℕ) → Given bits ip row i → n < 4 → operand_at i n ≡ Near x
    → near_reaches (plain_size bits row) (plain_next bits ip row i) (immediate_bytes (plain_size bits row) (kind_at row n)) x ≡ true
unfolding target_suits
near_at bits ip row i n x g below e =
    subst (λ (op : Operand). (elim op [
      | Near target ↦ near_reaches (plain_size bits row) (plain_next bits ip row i) (immediate_bytes (plain_size bits row) (kind_at row n)) target
      | MemOperand m ↦ address_reaches (plain_next bits ip row i) m
      | _ ↦ true
    ]) ≡ true) e (each-at (target_suits bits ip row i) n below g.suits.targets)

by_operand : (bits : Bits) (ip : ℕ) (row : Row) (i : Instr) (n : ℕ) (op : Operand) → Given bits ip row i → n < 4 → operand_at i n ≡ op → has_numbers op ≡ true → is_printable_operand (text_address_size bits i) op ≡ true
unfolding is_printable_operand has_numbers
by_operand bits ip row i n Absent g below e h = refl
by_operand bits ip row i n (Reg r) g below e h = h
by_operand bits ip row i n (Imm x) g below e h =
    word_number x (immediate_below (plain_size bits row) row.place (kind_at row n) (method_of (kind_at row n)) x refl (variant_at bits ip row i n (Imm x) g below e) (immediate_at bits ip row i n (Imm x) g below e))
by_operand bits ip row i n (Near x) g below e h = word_number x (near_below (plain_size bits row) _ _ x (near_at bits ip row i n x g below e))
by_operand bits ip row i n (Far s o) g below e h =
    let k = far_below (plain_size bits row) row.place (kind_at row n) (method_of (kind_at row n)) s o refl (variant_at bits ip row i n (Far s o) g below e) (immediate_at bits ip row i n (Far s o) g below e) in
    let ks : s < 2 ^ 16 = k.selector in
    let ko : o < 2 ^ 32 = k.offset in
    and_from (is_word_number s) (is_word_number o) (word_number s (omega arith)) (word_number o (omega arith))
by_operand bits ip row i n (MemOperand m) g below e h =
    let at = address_at bits ip row i n m g below e in
    let text : text_address_size bits i ≡ at.a = ap (λ (o : Option Bits). unwrap_or o bits) at.size in
    subst (λ (a : Bits). is_printable_address a m ≡ true) (sym text) (address_printable at.a m at.is h)

formed_at : (row : Row) (i : Instr) (n : ℕ) → n < 4 → is_formed row i ≡ true → has_numbers (operand_at i n) ≡ true
unfolding is_formed operand_is_formed
formed_at row i n below h = (and_parts (is_variant_of row.place (method_of (kind_at row n)) (operand_at i n)) (has_numbers (operand_at i n)) (each-at (operand_is_formed row i) n below h)).1

-- **the words of an instruction with a plain spelling can be told apart**
pub plain_is_printable : (bits : Bits) (ip : ℕ) (row : Row) (i : Instr) → slice_get table i.code.0 ≡ Some row → i.code.0 < ROWS → is_formed row i ≡ true → Given bits ip row i
    → is_printable bits row (name_of i.code.0) i ≡ true
unfolding is_printable
plain_is_printable bits ip row i at lt formed g =
    let one = λ (n : ℕ) (below : n < 4). by_operand bits ip row i n (operand_at i n) g below refl (formed_at row i n below formed) in
    and_from (is_plain_name (name_of i.code.0)) _ (name_is_plain i.code.0 lt)
    (and_from (are_in_front i) _ (in_front_at bits ip row i at g)
    (and_from (nth_is_printable bits i 0) _ (one 0 (omega arith))
    (and_from (nth_is_printable bits i 1) _ (one 1 (omega arith))
    (and_from (nth_is_printable bits i 2) (nth_is_printable bits i 3) (one 2 (omega arith)) (one 3 (omega arith))))))
