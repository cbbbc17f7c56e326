-- Each line of the constant table is what the rules say of its row.
use Rattle.std.proofs.Common.{◌≡◌, ℕ, zero, suc, ◌<◌, List, [], ◌∷◌, length, slice_get, refl, ap, sym, ◌∙◌, arith}
use Rattle.std.specs.Prelude.{Some, unwrap_or}
use Rattle.std.proofs.lemmas.Option.{slice_get_within}
use Rattle.instruction_parts.specs.declared.row_types.Row.{Row}
use Rattle.instruction_parts.specs.Kinds.{memory_width}
use Rattle.row_meaning.specs.MemorySize.{row_size_bytes, has_w, vector_bytes, width_in_row, size_at, memory_size}
use Rattle.opcode_rows.specs.Parts.{integer_rows, integer_flat, x87_rows, x87_flat, sse_rows, sse_flat, vex_rows, vex_flat}
use Rattle.opcode_rows.specs.declared.generated_spots.TheConstants.{ROWS}
use Rattle.opcode_rows.proofs.JoinFacts.{length-table}
use Rattle.opcode_rows.specs.Table.{spots, rows_in, table, names, name_of}
use Rattle.operand_info.specs.declared.columns.Columns.{Columns}
use Rattle.operand_info.specs.Names.{legacy_name, is_jump, is_call, is_conditional, is_return, is_system_call, is_interrupt, is_undefined, is_hint, is_exchange, is_masked_move, is_multiply_add, is_merging, is_half_move, is_mulx, is_imul, is_integer_reader, is_x87_reader, is_vector_reader, is_vector_test, is_x87_writer, is_writing_family, is_integer_writer, is_vector_writer, is_address_only}
use Rattle.operand_info.specs.Columns.{has_operand, has_direct_target, is_gather_row, writes_vector_memory, loads_vector, is_x87_memory, flow_at, updates_first, reads_first, writes_first, first_access, second_access, third_access, access_at}
use Rattle.operand_info.specs.ByCode.{flow_in, access_in, memory_size_in, flow_of, access_of, memory_size as memory_size_of}
use Rattle.operand_info.specs.Lines.{columns}

-- the line of a row with its name
abbrev pub line_of : List ℕ → Row → Columns
line_of name row = record {
  flow = flow_at name row;
  op0 = access_at name row 0;
  op1 = access_at name row 1;
  op2 = access_at name row 2;
  op3 = access_at name row 3;
  memory = memory_size row;
}

-- the lines of all rows, each with its name
unfoldable pub lines_of : List (List ℕ) → List Row → List Columns
lines_of [] rows = []
lines_of (name ∷ ns) [] = []
lines_of (name ∷ ns) (row ∷ rows) = line_of name row ∷ lines_of ns rows

by_rule : lines_of names table ≡ columns
unfolding lines_of columns names table rows_in spots integer_rows integer_flat x87_rows x87_flat sse_rows sse_flat vex_rows vex_flat memory_width row_size_bytes has_w vector_bytes width_in_row size_at memory_size legacy_name is_jump is_call is_conditional is_return is_system_call is_interrupt is_undefined is_hint is_exchange is_masked_move is_multiply_add is_merging is_half_move is_mulx is_imul is_integer_reader is_x87_reader is_vector_reader is_vector_test is_x87_writer is_writing_family is_integer_writer is_vector_writer is_address_only has_operand has_direct_target is_gather_row writes_vector_memory loads_vector is_x87_memory flow_at updates_first reads_first writes_first first_access second_access third_access access_at
by_rule = refl

-- the line at a code, where the row of the code and a name stand

lines_of-at : (ns : List (List ℕ)) (rows : List Row) (code : ℕ) (row : Row) → code < length ns → slice_get rows code ≡ Some row
    → slice_get (lines_of ns rows) code ≡ Some (line_of (unwrap_or (slice_get ns code) []) row)
unfolding lines_of
lines_of-at [] rows code row lt at = absurd (omega arith)
lines_of-at (name ∷ ns) [] code row lt at = cc
lines_of-at (name ∷ ns) (r ∷ rows) zero row lt at = let same : r ≡ row = cc in ap (λ x. Some (line_of name x)) same
lines_of-at (name ∷ ns) (r ∷ rows) (suc code) row lt at = lines_of-at ns rows code row (omega arith) at

length-names : length names ≡ ROWS
unfolding names
length-names = refl

same_line : (a b : Columns) → Some a ≡ Some b → a ≡ b
same_line a b e = cc

line-of_row : (code : ℕ) (row : Row) (line : Columns) → code < ROWS → slice_get table code ≡ Some row → slice_get columns code ≡ Some line
    → line ≡ line_of (name_of code) row
unfolding name_of
line-of_row code row line lt at here =
    let lt' : code < length names = omega (arith, lt, length-names) in
    same_line line (line_of (name_of code) row)
    (sym here ∙ (ap (λ lines. slice_get lines code) (sym by_rule) ∙ lines_of-at names table code row lt' at))

-- the columns of a code
abbrev pub line_of_code : ℕ → Columns
line_of_code code = record {
  flow = flow_of code;
  op0 = access_of code 0;
  op1 = access_of code 1;
  op2 = access_of code 2;
  op3 = access_of code 3;
  memory = memory_size_of code;
}

line_of_code-row : (code : ℕ) (row : Row) → slice_get table code ≡ Some row → line_of_code code ≡ line_of (name_of code) row
unfolding flow_of access_of memory_size_of
line_of_code-row code row at =
    ap (λ o. record {
      flow = flow_in o (name_of code);
      op0 = access_in o (name_of code) 0;
      op1 = access_in o (name_of code) 1;
      op2 = access_in o (name_of code) 2;
      op3 = access_in o (name_of code) 3;
      memory = memory_size_in o;
    }) at

-- each code below the number of rows has a row
some_row : (rows : List Row) (code : ℕ) → code < length rows → (row : Row) × (slice_get rows code ≡ Some row)
some_row [] code lt = absurd (omega arith)
some_row (row ∷ rows) zero lt = (row, refl)
some_row (row ∷ rows) (suc code) lt = some_row rows code (omega arith)

table-known : (code : ℕ) → code < ROWS → (row : Row) × (slice_get table code ≡ Some row)
table-known code lt = some_row table code (omega (arith, lt, length-table))

-- the stored columns of a code are those of its row
pub line-known : (code : ℕ) (line : Columns) → code < ROWS → slice_get columns code ≡ Some line → line ≡ line_of_code code
line-known code line lt here =
    let t = table-known code lt in
    line-of_row code t.0 line lt t.1 here ∙ sym (line_of_code-row code t.0 t.1)

-- the line that stands at the code of a row
pub line-of_table : (code : ℕ) (row : Row) → slice_get table code ≡ Some row → slice_get columns code ≡ Some (line_of_code code)
unfolding name_of
line-of_table code row at =
    let lt : code < length names = omega (arith, slice_get_within table code row at, length-table, length-names) in
    ap (λ lines. slice_get lines code) (sym by_rule)
    ∙ (lines_of-at names table code row lt at ∙ ap (λ line. Some line) (sym (line_of_code-row code row at)))
