-- The instructions of some items have the form of their rows.
use Rattle.std.proofs.Common.{List, [], ◌∷◌, ◌++◌, refl, ◌∙◌}
use Rattle.std.specs.Prelude.{IsTrue}
use Rattle.std.proofs.lemmas.List.Folds.{list_all-append}
use Rattle.opcode_rows.specs.Allowed.{is_well_formed}
use Rattle.move_goals.specs.declared.items.Placed.{Placed}
use Rattle.code_items.specs.Sound.{item_is_formed, are_formed}

-- those of the items, and of one more
pub formed-more : (items : List Placed) (p : Placed) → IsTrue (are_formed items) → IsTrue (is_well_formed p.instr) → IsTrue (are_formed (items ++ p ∷ []))
formed-more items p all one = list_all-append item_is_formed items (p ∷ []) ∙ rw (all, one) refl
