-- The instructions of some code, one at a time.
use Rattle.std.specs.Prelude.{◌≡◌, [], ◌∷◌, Option, Some, None}
use Rattle.move_goals.specs.declared.items.Placed.{Placed}
use Rattle.code_items.specs.declared.items.CodeItem.{CodeItem}
use Rattle.code_items.specs.declared.items.CodeIter.{CodeIter}

-- the instruction as it is moved
abbrev pub placed_of : CodeItem → Placed
placed_of item = record { ip = item.ip; len = item.len; instr = item.instr }

-- the first of those that are left is given; they end with the code
abbrev pub GivesCodeItem : CodeIter → Option CodeItem → CodeIter → Type 0
GivesCodeItem before None after = (before.items.now ≡ []) × (after ≡ before)
GivesCodeItem before (Some item) after = before.items.now ≡ placed_of item ∷ after.items.now
