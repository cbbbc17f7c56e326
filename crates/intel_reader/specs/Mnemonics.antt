-- The mnemonics of the table.
use Rattle.std.specs.Prelude.{ℕ, zero, suc, Bool, false, ◌||◌, List, bytes_eq}
use Rattle.opcode_rows.specs.declared.generated_spots.TheConstants.{ROWS}
use Rattle.opcode_rows.specs.Table.{name_of}
use Rattle.intel_reader.specs.Possible.{is_counter_word}

-- a row below this code has the name
unfoldable pub is_named_below : ℕ → List ℕ → Bool
is_named_below zero name = false
is_named_below (suc code) name = bytes_eq (name_of code) name || is_named_below code name

-- a name is that of a row, or of the jump on the counter with one of its address sizes
unfoldable pub is_mnemonic : List ℕ → Bool
is_mnemonic name = is_named_below ROWS name || is_counter_word name
