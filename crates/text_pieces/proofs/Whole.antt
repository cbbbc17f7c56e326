-- The pieces of an instruction's text, and the text.
use Rattle.std.proofs.Common.{◌≡◌, ℕ, ◌+◌, ◌≤◌, List, [], ◌++◌, length, map, Option, Some, None, slice_get, refl, ap, sym, ◌∙◌, subst, arith}
use Rattle.std.specs.Prelude.{IsTrue}
use Rattle.x86_values.specs.declared.Bits.{Bits}
use Rattle.x86_values.specs.declared.Instr.{Instr}
use Rattle.instruction_parts.specs.declared.row_types.Row.{Row}
use Rattle.opcode_rows.specs.Table.{table, name_of}
use Rattle.opcode_rows.specs.Allowed.{is_well_formed}
use Rattle.text_parts.specs.declared.style.Style.{Style}
use Rattle.text_parts.specs.declared.style.Style.TheVariants.{Intel, Masm, Att}
use Rattle.text_parts.specs.Layout.{bracket_layout}
use Rattle.text_parts.proofs.LayoutBounds.{bracket_layout-le}
use Rattle.text_rows.specs.AtRow.{at_row, at_code}
use Rattle.text_rows.proofs.Long.{one_long}
use Rattle.text_rows.proofs.Names.{name_of-le}
use Rattle.intel_text.specs.Text as intel
use Rattle.masm_text.specs.Text as masm
use Rattle.att_text.specs.Text as att
use Rattle.att_text.proofs.Bounds as att_bounds
use Rattle.text_pieces.specs.declared.piece.Piece.{Piece}
use Rattle.text_pieces.specs.Tokens.{Token, joined, placed, IsCover, characters_at}
use Rattle.text_pieces.specs.Lines.{Laid, grown}
use Rattle.text_pieces.specs.Pieces.{parts_of, parts_in, pieces_of, text_of}
use Rattle.text_pieces.proofs.JoinedLayout.{bracket-joined}
use Rattle.text_pieces.proofs.JoinedAtt.{att-joined}
use Rattle.text_pieces.proofs.Placed.{full, full-joined, grown-text, grown-items, cover, stands_for}

-- ---- the parts of a row

intel-parts : (o : Option Row) (bits : Bits) (name : List ℕ) (i : Instr) → joined (parts_in Intel bits o name i) ≡ at_row (λ row. intel.text_of bits row name i) o
unfolding parts_of intel.text_of
intel-parts None bits name i = refl
intel-parts (Some row) bits name i = bracket-joined Intel bits row name i refl

masm-parts : (o : Option Row) (bits : Bits) (name : List ℕ) (i : Instr) → joined (parts_in Masm bits o name i) ≡ at_row (λ row. masm.text_of bits row name i) o
unfolding parts_of masm.text_of
masm-parts None bits name i = refl
masm-parts (Some row) bits name i = bracket-joined Masm bits row name i refl

att-parts : (o : Option Row) (bits : Bits) (name : List ℕ) (i : Instr) → joined (parts_in Att bits o name i) ≡ at_row (λ row. att.text_of bits row name i) o
unfolding parts_of
att-parts None bits name i = refl
att-parts (Some row) bits name i = att-joined bits row name i

-- the characters of the parts are the text that the printer gives
pub parts-text : (style : Style) (bits : Bits) (i : Instr) → joined (parts_in style bits (slice_get table i.code.0) (name_of i.code.0) i) ≡ text_of style bits i
unfolding text_of intel.text masm.text att.text at_code
parts-text Intel bits i = intel-parts (slice_get table i.code.0) bits (name_of i.code.0) i
parts-text Masm bits i = masm-parts (slice_get table i.code.0) bits (name_of i.code.0) i
parts-text Att bits i = att-parts (slice_get table i.code.0) bits (name_of i.code.0) i

-- the pieces joined are the text
pub pieces-text : (style : Style) (bits : Bits) (i : Instr) → joined (pieces_of style bits i) ≡ text_of style bits i
unfolding pieces_of
pieces-text style bits i = full-joined (parts_in style bits (slice_get table i.code.0) (name_of i.code.0) i) ∙ parts-text style bits i

-- ---- the length of a text

row-short : (f : Row → List ℕ) (o : Option Row) → ((row : Row) → length (f row) ≤ 160) → length (at_row f o) ≤ 160
row-short f None h = omega arith
row-short f (Some row) h = h row

-- a text has at most 160 characters
pub text-short : (style : Style) (bits : Bits) (i : Instr) → IsTrue (is_well_formed i) → length (text_of style bits i) ≤ 160
unfolding text_of intel.text intel.text_of masm.text masm.text_of att.text at_code
text-short Intel bits i h =
    row-short (λ row. bracket_layout Intel bits row (name_of i.code.0) i) (slice_get table i.code.0)
    (λ row. bracket_layout-le Intel bits row (name_of i.code.0) i (name_of-le i.code.0) (one_long i h))
text-short Masm bits i h =
    row-short (λ row. bracket_layout Masm bits row (name_of i.code.0) i) (slice_get table i.code.0)
    (λ row. bracket_layout-le Masm bits row (name_of i.code.0) i (name_of-le i.code.0) (one_long i h))
text-short Att bits i h =
    row-short (λ row. att.text_of bits row (name_of i.code.0) i) (slice_get table i.code.0)
    (λ row. att_bounds.text_of-le bits row (name_of i.code.0) i (name_of-le i.code.0) (one_long i h))

-- ---- what is put down

-- the parts of the row of a code that is there are those of the instruction
same-parts : (style : Style) (bits : Bits) (i : Instr) (row : Row) (name : List ℕ) → slice_get table i.code.0 ≡ Some row → name ≡ name_of i.code.0
    → parts_of style bits row name i ≡ parts_in style bits (slice_get table i.code.0) (name_of i.code.0) i
same-parts style bits i row name row_is name_is =
    ap (λ (n : List ℕ). parts_of style bits row n i) name_is
    ∙ sym (ap (λ (o : Option Row). parts_in style bits o (name_of i.code.0) i) row_is)

-- the parts of the row of a code that is there, put down at the start, give the text
pub whole-text : (style : Style) (bits : Bits) (i : Instr) (row : Row) (name : List ℕ) (start done : Laid)
    → start.text ≡ [] → done ≡ grown start (parts_of style bits row name i)
    → slice_get table i.code.0 ≡ Some row → name ≡ name_of i.code.0 → done.text ≡ text_of style bits i
whole-text style bits i row name start done empty is_done row_is name_is =
    ap (λ (l : Laid). l.text) is_done
    ∙ grown-text start (parts_of style bits row name i)
    ∙ ap (λ (xs : List ℕ). xs ++ joined (parts_of style bits row name i)) empty
    ∙ ap joined (same-parts style bits i row name row_is name_is)
    ∙ parts-text style bits i

-- and the pieces
pub whole-placed : (style : Style) (bits : Bits) (i : Instr) (row : Row) (name : List ℕ) (start done : Laid)
    → start.text ≡ [] → start.items ≡ [] → done ≡ grown start (parts_of style bits row name i)
    → slice_get table i.code.0 ≡ Some row → name ≡ name_of i.code.0 → done.items ≡ placed 0 (pieces_of style bits i)
unfolding pieces_of
whole-placed style bits i row name start done empty none is_done row_is name_is =
    let parts = parts_in style bits (slice_get table i.code.0) (name_of i.code.0) i in
    ap (λ (l : Laid). l.items) is_done
    ∙ ap (λ (ts : List Token). (grown start ts).items) (same-parts style bits i row name row_is name_is)
    ∙ grown-items start parts
    ∙ ap (λ (xs : List Piece). xs ++ placed (length start.text) (full parts)) none
    ∙ ap (λ (xs : List ℕ). placed (length xs) (full parts)) empty

-- the pieces cover the text
pub whole-cover : (style : Style) (bits : Bits) (i : Instr) (items : List Piece) → items ≡ placed 0 (pieces_of style bits i)
    → IsCover 0 (length (text_of style bits i)) items
unfolding pieces_of
whole-cover style bits i items e =
    let parts = parts_in style bits (slice_get table i.code.0) (name_of i.code.0) i in
    let ends : 0 + length (joined (full parts)) ≡ length (text_of style bits i) =
    omega (arith, ap length (full-joined parts ∙ parts-text style bits i)) in
    subst (λ (n : ℕ). IsCover 0 n items) ends (subst (λ (xs : List Piece). IsCover 0 (0 + length (joined (full parts))) xs) (sym e) (cover parts 0))

-- each piece stands for its characters in the text
pub whole-characters : (style : Style) (bits : Bits) (i : Instr) (items : List Piece) → items ≡ placed 0 (pieces_of style bits i)
    → map (characters_at (text_of style bits i)) items ≡ map (λ t. t.characters) (pieces_of style bits i)
whole-characters style bits i items e =
    ap (λ (xs : List Piece). map (characters_at (text_of style bits i)) xs) e
    ∙ stands_for (pieces_of style bits i) [] (text_of style bits i) 0 refl (sym (pieces-text style bits i))
