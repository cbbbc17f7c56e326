-- Which rows of the table take letters, each by computing.
use Rattle.std.proofs.Common.{◌≡◌, true, refl}
use Rattle.std.specs.List.{list_all}
use Rattle.instruction_parts.specs.Kinds.{file_of, memory_width}
use Rattle.row_meaning.specs.MemorySize.{row_size_bytes, has_w, vector_bytes, width_in_row, size_at, memory_size}
use Rattle.opcode_rows.specs.Parts.{integer_rows, integer_flat, x87_rows, x87_flat, sse_rows, sse_flat, vex_rows, vex_flat}
use Rattle.att_text.specs.Names.{is_x87, is_xmm_or_ymm, is_vector_kind, is_integer, has_no_letter_by_size}

-- every integer row is one whose name takes a letter by its size
pub integer-letters : list_all is_integer integer_rows ≡ true
unfolding is_integer is_x87 is_vector_kind is_xmm_or_ymm file_of integer_rows integer_flat
integer-letters = refl

-- every x87 row has its own letter, or none
pub x87-letters : list_all is_x87 x87_rows ≡ true
unfolding is_x87 x87_rows x87_flat
x87-letters = refl

-- no MMX or SSE row takes a letter by its size
pub sse-letters : list_all has_no_letter_by_size sse_rows ≡ true
unfolding has_no_letter_by_size is_integer is_x87 is_vector_kind is_xmm_or_ymm file_of memory_width row_size_bytes has_w vector_bytes width_in_row size_at memory_size sse_rows sse_flat
sse-letters = refl

-- no VEX row takes one
pub vex-letters : list_all has_no_letter_by_size vex_rows ≡ true
unfolding has_no_letter_by_size is_integer is_x87 is_vector_kind is_xmm_or_ymm file_of memory_width row_size_bytes has_w vector_bytes width_in_row size_at memory_size vex_rows vex_flat
vex-letters = refl
