-- The text of an instruction is not the line of a byte: no name of the table and no word in front of one begins with `db`.
use Rattle.std.proofs.Common.{◌≡◌, ◌≢◌, ℕ, zero, suc, ◌<◌, Bool, true, false, not, ◌&&◌, List, [], ◌∷◌, ◌++◌, length, slice_get, refl, sym, ap, ◌∙◌, append_assoc, arith, Option, Some, None}
use Rattle.std.specs.Prelude.{◌==◌, if◌then◌else◌, unwrap_or, codes}
use Rattle.std.proofs.lemmas.Option.{slice_get_within}
use Rattle.std.proofs.lemmas.Bool.{and_parts}
use Rattle.x86_values.specs.declared.Bits.{Bits}
use Rattle.x86_values.specs.declared.Bits.TheVariants.{B16, B32, B64}
use Rattle.x86_values.specs.declared.Segment.{Segment}
use Rattle.x86_values.specs.declared.Segment.TheVariants.{Es, Cs, Ss, Ds, Fs, Gs}
use Rattle.x86_values.specs.declared.Rep.{Rep}
use Rattle.x86_values.specs.declared.Rep.TheVariants.{None as NoRep, F2, F3}
use Rattle.x86_values.specs.declared.Instr.{Instr}
use Rattle.instruction_parts.specs.declared.row_types.Row.{Row}
use Rattle.opcode_rows.specs.declared.generated_spots.TheConstants.{ROWS}
use Rattle.opcode_rows.specs.Table.{table, names, name_of}
use Rattle.text_parts.specs.declared.style.Style.TheVariants.{Intel}
use Rattle.text_parts.specs.Registers.{segment_name}
use Rattle.text_parts.specs.PrefixWords.{shows_memory, lock_word, repeat_word, segment_word, size_digits, sized_word, needs_address_word, address_word, is_sized, named_size, differs, usual_size, operand_size_word, prefix_words, is_counter_jump, counter_jump, text_address_size, name_text}
use Rattle.text_parts.specs.Layout.{operand_part, bracket_layout}
use Rattle.text_rows.specs.AtRow.{at_row, at_code}
use Rattle.intel_text.specs.Text.{text_of, text}

-- a text begins with `db`
unfoldable pub starts_db : List ℕ → Bool
starts_db [] = false
starts_db (c ∷ []) = false
starts_db (c ∷ (d ∷ rest)) = c == 100 && d == 98

-- a word of two letters and more that does not
unfoldable is_other : List ℕ → Bool
is_other [] = false
is_other (c ∷ []) = false
is_other (c ∷ (d ∷ rest)) = not (c == 100 && d == 98)

not_true : (b : Bool) → not b ≡ true → b ≡ false
not_true true h = cc
not_true false h = refl

-- behind such a word comes what may
other_front : (word rest : List ℕ) → is_other word ≡ true → starts_db (word ++ rest) ≡ false
unfolding is_other starts_db
other_front [] rest h = cc
other_front (c ∷ []) rest h = cc
other_front (c ∷ (d ∷ more)) rest h = not_true (c == 100 && d == 98) h

-- a word that may be absent, in front of a text
abbrev Passes : List ℕ → Type 0
Passes word = (rest : List ℕ) → starts_db rest ≡ false → starts_db (word ++ rest) ≡ false

passes_nothing : Passes []
passes_nothing rest h = h

passes_other : (word : List ℕ) → is_other word ≡ true → Passes word
passes_other word h rest k = other_front word rest h

passes_both : (a b : List ℕ) → Passes a → Passes b → Passes (a ++ b)
passes_both a b p q rest h = ap starts_db (append_assoc a b rest) ∙ p (b ++ rest) (q rest h)

passes_if : (t : Bool) (a b : List ℕ) → Passes a → Passes b → Passes (if t then a else b)
passes_if true a b p q = p
passes_if false a b p q = q

-- ---- the words in front of a name

lock_passes : (b : Bool) → Passes (lock_word b)
unfolding lock_word is_other
lock_passes true = passes_other (codes "lock ") refl
lock_passes false = passes_nothing

repeat_passes : (r : Rep) → Passes (repeat_word r)
unfolding repeat_word is_other
repeat_passes NoRep = passes_nothing
repeat_passes F2 = passes_other (codes "repne ") refl
repeat_passes F3 = passes_other (codes "rep ") refl

name_passes : (s : Segment) → Passes (segment_name s ++ codes " ")
unfolding segment_name is_other
name_passes Es = passes_other (codes "es ") refl
name_passes Cs = passes_other (codes "cs ") refl
name_passes Ss = passes_other (codes "ss ") refl
name_passes Ds = passes_other (codes "ds ") refl
name_passes Fs = passes_other (codes "fs ") refl
name_passes Gs = passes_other (codes "gs ") refl

segment_passes_if : (o : Option Segment) → Passes (elim o [ None ↦ [] | Some s ↦ segment_name s ++ codes " " ])
segment_passes_if None = passes_nothing
segment_passes_if (Some s) = name_passes s

segment_passes : (i : Instr) → Passes (segment_word i)
unfolding segment_word
segment_passes i = passes_if (shows_memory i) [] _ passes_nothing (segment_passes_if i.seg)

a_passes : (size : Bits) → Passes (sized_word (codes "a") size)
unfolding sized_word size_digits is_other
a_passes B16 = passes_other (codes "a16 ") refl
a_passes B32 = passes_other (codes "a32 ") refl
a_passes B64 = passes_other (codes "a64 ") refl

o_passes : (size : Bits) → Passes (sized_word (codes "o") size)
unfolding sized_word size_digits is_other
o_passes B16 = passes_other (codes "o16 ") refl
o_passes B32 = passes_other (codes "o32 ") refl
o_passes B64 = passes_other (codes "o64 ") refl

address_passes_if : (bits : Bits) (name : List ℕ) (i : Instr) (o : Option Bits) →
    Passes (elim o [ None ↦ [] | Some size ↦ if needs_address_word bits size name i then sized_word (codes "a") size else [] ])
address_passes_if bits name i None = passes_nothing
address_passes_if bits name i (Some size) = passes_if (needs_address_word bits size name i) _ [] (a_passes size) passes_nothing

address_passes : (bits : Bits) (name : List ℕ) (i : Instr) → Passes (address_word bits name i)
unfolding address_word
address_passes bits name i = address_passes_if bits name i i.asize

size_passes_if : (bits : Bits) (row : Row) (o : Option Bits) →
    Passes (elim o [ None ↦ [] | Some size ↦ if differs size (usual_size bits row) then sized_word (codes "o") size else [] ])
size_passes_if bits row None = passes_nothing
size_passes_if bits row (Some size) = passes_if (differs size (usual_size bits row)) _ [] (o_passes size) passes_nothing

size_passes : (bits : Bits) (row : Row) → Passes (operand_size_word bits row)
unfolding operand_size_word
size_passes bits row = passes_if (is_sized row) _ [] (size_passes_if bits row (named_size row.size)) passes_nothing

prefixes_pass : (bits : Bits) (row : Row) (name : List ℕ) (i : Instr) → Passes (prefix_words bits row name i)
unfolding prefix_words
prefixes_pass bits row name i =
    passes_both (lock_word i.lock) _ (lock_passes i.lock)
    (passes_both (repeat_word i.rep) _ (repeat_passes i.rep)
    (passes_both (segment_word i) _ (segment_passes i)
    (passes_both (address_word bits name i) _ (address_passes bits name i) (size_passes bits row))))

-- ---- the names

unfoldable all_other : List (List ℕ) → Bool
all_other [] = true
all_other (n ∷ ns) = is_other n && all_other ns

are_other : all_other names ≡ true
unfolding all_other is_other names
are_other = refl

length-names : length names ≡ ROWS
unfolding names
length-names = refl

other-at : (ns : List (List ℕ)) (k : ℕ) → all_other ns ≡ true → k < length ns → is_other (unwrap_or (slice_get ns k) []) ≡ true
unfolding all_other
other-at [] k h lt = absurd (omega arith)
other-at (n ∷ ns) zero h lt = (and_parts (is_other n) (all_other ns) h).0
other-at (n ∷ ns) (suc k) h lt = other-at ns k (and_parts (is_other n) (all_other ns) h).1 (omega arith)

name_is_other : (code : ℕ) → code < ROWS → is_other (name_of code) ≡ true
unfolding name_of
name_is_other code lt = other-at names code are_other (omega (arith, lt, length-names))

jump_is_other : (size : Bits) → is_other (counter_jump size) ≡ true
unfolding counter_jump is_other
jump_is_other B16 = refl
jump_is_other B32 = refl
jump_is_other B64 = refl

other_if : (t : Bool) (a b : List ℕ) → is_other a ≡ true → is_other b ≡ true → is_other (if t then a else b) ≡ true
other_if true a b p q = p
other_if false a b p q = q

text_is_other : (bits : Bits) (name : List ℕ) (i : Instr) → is_other name ≡ true → is_other (name_text bits name i) ≡ true
unfolding name_text
text_is_other bits name i h = other_if (is_counter_jump name) _ name (jump_is_other (text_address_size bits i)) h

-- ---- the text

layout_other : (bits : Bits) (row : Row) (name : List ℕ) (i : Instr) → is_other name ≡ true → starts_db (bracket_layout Intel bits row name i) ≡ false
unfolding bracket_layout
layout_other bits row name i h =
    prefixes_pass bits row name i _ (other_front (name_text bits name i) _ (text_is_other bits name i h))

-- **the text of an instruction of the table does not begin with `db`**
pub text_other : length table ≡ ROWS → (bits : Bits) (row : Row) (i : Instr) → slice_get table i.code.0 ≡ Some row → starts_db (text bits i) ≡ false
unfolding text text_of at_code
text_other counted bits row i at =
    let lt : i.code.0 < ROWS = omega (arith, slice_get_within table i.code.0 row at, counted) in
    ap (λ (o : Option Row). starts_db (at_row (λ (r : Row). bracket_layout Intel bits r (name_of i.code.0) i) o)) at
    ∙ layout_other bits row (name_of i.code.0) i (name_is_other i.code.0 lt)
