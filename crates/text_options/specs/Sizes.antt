-- Where a register shows the size of memory.
use Rattle.std.specs.Prelude.{Bool, true, false, List, Option, Some, None}
use Rattle.std.specs.List.{list_any}
use Rattle.instruction_parts.specs.declared.row_types.OpKind.{OpKind}
use Rattle.instruction_parts.specs.declared.row_types.OpKind.TheVariants.{Eb, Ew, Ev, Gb, Gw, Gv, Mv, Mx, Ob, Ov, Pq, Qq, Vx, Wx, Vo, Wo, Mo, RaxAny, Al}
use Rattle.instruction_parts.specs.declared.row_types.Row.{Row}

-- a register of the first kind has the size of memory of the second in every row with both
unfoldable pub has_size_of : OpKind → OpKind → Bool
has_size_of Gb Eb = true
has_size_of Gw Ew = true
has_size_of Gv Ev = true
has_size_of Gv Mv = true
has_size_of Al Ob = true
has_size_of RaxAny Ov = true
has_size_of Pq Qq = true
has_size_of Vx Wx = true
has_size_of Vx Mx = true
has_size_of Vo Wo = true
has_size_of Vo Mo = true
has_size_of _ _ = false

-- a register among these kinds has the size of memory of a kind
unfoldable pub has_register_of : List OpKind → OpKind → Bool
has_register_of kinds memory = list_any (λ r. has_size_of r memory) kinds

-- a register operand of the row shows the size of its memory
unfoldable pub shows_size : Row → Bool
shows_size row = list_any (λ m. has_register_of row.ops m) row.ops

-- the same of a row that may be absent
unfoldable pub row_shows_size : Option Row → Bool
row_shows_size None = false
row_shows_size (Some row) = shows_size row
