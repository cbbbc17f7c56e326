-- The text of a well-formed instruction in a style with brackets is ASCII.
use Rattle.std.proofs.Common.{◌≡◌, ℕ, zero, suc, Bool, true, ◌&&◌, ◌||◌, List, [], ◌∷◌, Option, Some, None, refl, slice_get, arith, lt-ltb, inl, inr}
use Rattle.std.specs.Prelude.{IsTrue, nat_lt, unwrap_or, ◌==◌}
use Rattle.std.specs.Str.{IsAscii}
use Rattle.std.proofs.lemmas.Bool.{and_parts, and_from, or_cases, eqb-true}
use Rattle.x86_values.specs.declared.Bits.{Bits}
use Rattle.x86_values.specs.declared.Instr.{Instr}
use Rattle.x86_values.specs.declared.Operand.{Operand}
use Rattle.x86_values.specs.declared.Operand.TheVariants.{Absent, Reg, Mem as Memory, Imm, Near, Far}
use Rattle.x86_values.specs.Named.{is_named_if}
use Rattle.instruction_parts.specs.declared.row_types.Row.{Row}
use Rattle.plain_spelling.specs.Forms.{is_scale, is_variant_of, operand_at}
use Rattle.instruction_parts.specs.Kinds.{method_of}
use Rattle.row_fit.specs.Fits.{kind_at}
use Rattle.opcode_rows.specs.Table.{table, names, name_of}
use Rattle.opcode_rows.specs.Allowed.{has_numbers, operand_is_formed, is_formed, is_well_formed}
use Rattle.text_parts.specs.declared.style.Style.{Style}
use Rattle.text_parts.specs.Layout.{bracket_layout}
use Rattle.text_parts.proofs.Ascii.{all_ascii, ascii-from}
use Rattle.text_parts.proofs.LayoutAscii.{is_printable, ArePrintable, bracket_layout-ascii}
use Rattle.text_rows.specs.AtRow.{at_row, at_code}
use Rattle.text_rows.specs.BracketText.{bracket_text}
use Rattle.text_rows.proofs.Long.{formed_row}

-- ---- names

-- each of these texts is ASCII
unfoldable each_ascii : List (List ℕ) → Bool
each_ascii [] = true
each_ascii (x ∷ xs) = all_ascii x && each_ascii xs

names-ascii : each_ascii names ≡ true
unfolding each_ascii all_ascii names
names-ascii = refl

ascii-at : (xs : List (List ℕ)) (k : ℕ) → each_ascii xs ≡ true → all_ascii (unwrap_or (slice_get xs k) []) ≡ true
unfolding each_ascii all_ascii
ascii-at [] k h = refl
ascii-at (x ∷ xs) zero h = (and_parts (all_ascii x) (each_ascii xs) h).0
ascii-at (x ∷ xs) (suc k) h = ascii-at xs k (and_parts (all_ascii x) (each_ascii xs) h).1

-- a name is ASCII
pub name_of-ascii : (code : ℕ) → all_ascii (name_of code) ≡ true
unfolding name_of
name_of-ascii code = ascii-at names code names-ascii

-- ---- operands

scale-small : (n : ℕ) → is_scale n ≡ true → nat_lt n 80 ≡ true
scale-small n h =
    elim (or_cases (n == 1 || n == 2 || n == 4) (n == 8) h) [
      | inl q ↦ elim (or_cases (n == 1 || n == 2) (n == 4) q) [
        | inl r ↦ elim (or_cases (n == 1) (n == 2) r) [
          | inl p ↦ lt-ltb n 80 (omega (arith, eqb-true n 1 p))
          | inr p ↦ lt-ltb n 80 (omega (arith, eqb-true n 2 p))
        ]
        | inr p ↦ lt-ltb n 80 (omega (arith, eqb-true n 4 p))
      ]
      | inr p ↦ lt-ltb n 80 (omega (arith, eqb-true n 8 p))
    ]

printable : (op : Operand) → has_numbers op ≡ true → is_printable op ≡ true
unfolding has_numbers is_printable
printable Absent h = refl
printable (Reg r) h = h
printable (Imm x) h = refl
printable (Near x) h = refl
printable (Far s o) h = refl
printable (Memory m) h =
    let p = and_parts (is_scale m.scale) (is_named_if m.base && is_named_if m.index) h in
    and_from (nat_lt m.scale 80) (is_named_if m.base && is_named_if m.index) (scale-small m.scale p.0) p.1

operand-printable : (row : Row) (i : Instr) (n : ℕ) → operand_is_formed row i n ≡ true → is_printable (operand_at i n) ≡ true
unfolding operand_is_formed
operand-printable row i n h =
    printable (operand_at i n) (and_parts (is_variant_of row.place (method_of (kind_at row n)) (operand_at i n)) (has_numbers (operand_at i n)) h).1

formed-printable : (row : Row) (i : Instr) → is_formed row i ≡ true → ArePrintable i
unfolding is_formed
formed-printable row i h =
    let rest = (and_parts (operand_is_formed row i 0) _ h).1 in
    let rest' = (and_parts (operand_is_formed row i 1) _ rest).1 in
    record {
      first = operand-printable row i 0 (and_parts (operand_is_formed row i 0) _ h).0;
      second = operand-printable row i 1 (and_parts (operand_is_formed row i 1) _ rest).0;
      third = operand-printable row i 2 (and_parts (operand_is_formed row i 2) _ rest').0;
      fourth = operand-printable row i 3 (and_parts (operand_is_formed row i 2) _ rest').1;
    }

-- the operands of a well-formed instruction are printable
pub are_printable : (i : Instr) → IsTrue (is_well_formed i) → ArePrintable i
are_printable i h = let f = formed_row i h in formed-printable f.0 i f.2

-- ---- the whole text

at_row-ascii : (f : Row → List ℕ) (o : Option Row) → ((row : Row) → all_ascii (f row) ≡ true) → all_ascii (at_row f o) ≡ true
unfolding all_ascii
at_row-ascii f None h = refl
at_row-ascii f (Some row) h = h row

-- what a function gives of the row of a code, where all that it gives is ASCII
pub at_code-ascii : (f : Row → List ℕ) (code : ℕ) → ((row : Row) → all_ascii (f row) ≡ true) → IsAscii (at_code f code)
unfolding at_code
at_code-ascii f code h = ascii-from (at_row f (slice_get table code)) (at_row-ascii f (slice_get table code) h)

-- the text of a well-formed instruction
pub bracket_text-ascii : (style : Style) (bits : Bits) (i : Instr) → IsTrue (is_well_formed i) → IsAscii (bracket_text style bits i)
unfolding bracket_text
bracket_text-ascii style bits i h =
    at_code-ascii (λ row. bracket_layout style bits row (name_of i.code.0) i) i.code.0
    (λ row. bracket_layout-ascii style bits row (name_of i.code.0) i (name_of-ascii i.code.0) (are_printable i h))
