use Rattle.std.proofs.Common.{◌≡◌, Bool, List, [], ◌∷◌, ◌&&◌, refl, ap, ◌∙◌}
use Rattle.std.specs.List.{list_all}
use Rattle.instruction_parts.specs.declared.row_types.Row.{Row}
use Rattle.opcode_rows.specs.Table.{part_table}
use Rattle.opcode_rows.proofs.JoinFacts.{all_rows, in_each_part}
use Rattle.opcode_rows.proofs.laws.rows_are_of_the_parts.Goals as goal

-- the same test of all rows
all-is : (test : Row → Bool) (rows : List Row) → all_rows test rows ≡ list_all test rows
unfolding all_rows
all-is test [] = refl
all-is test (r ∷ rs) = ap (λ (b : Bool). test r && b) (all-is test rs)

pub returns : goal.returns
returns c = λ test each code row at. in_each_part test (λ part. all-is test (part_table part) ∙ each part) code row at
