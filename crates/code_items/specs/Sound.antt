-- The instructions of some code as contracts see them, and what holds of them at any time.
use Rattle.std.specs.Prelude.{Bool, List, IsTrue}
use Rattle.std.specs.List.{list_all}
use Rattle.x86_values.specs.declared.Bits.{Bits}
use Rattle.opcode_rows.specs.Allowed.{is_well_formed}
use Rattle.move_goals.specs.declared.items.Placed.{Placed}
use Rattle.move_goals.specs.Items.{ArePlaced}

-- the mode of some code, and its instructions in order
pub record ItemList : Type 0 where
  pub bits : Bits
  pub items : List Placed

-- the instruction of an item has the form of its row
abbrev pub item_is_formed : Placed → Bool
item_is_formed p = is_well_formed p.instr

-- that of each item has
abbrev pub are_formed : List Placed → Bool
are_formed items = list_all item_is_formed items

-- bytes spell each item at its address, and it has the form of its row
pub record AreSound (bits : Bits) (items : List Placed) : Type 0 where
  pub placed : ArePlaced bits items
  pub formed : IsTrue (are_formed items)
