-- The four parts of the table, as the crates of rows give them: their rows, and these as they lie in the tables of constants.
unfoldable pub use Rattle.rows_integer.specs.Table.{table as integer_rows, flat_rows as integer_flat}
unfoldable pub use Rattle.rows_x87.specs.Table.{table as x87_rows, flat_rows as x87_flat}
unfoldable pub use Rattle.rows_sse.specs.Table.{table as sse_rows, flat_rows as sse_flat}
unfoldable pub use Rattle.rows_vex.specs.Table.{table as vex_rows, flat_rows as vex_flat}
