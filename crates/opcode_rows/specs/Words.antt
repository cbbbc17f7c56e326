-- The form of the names, and which operands a text writes at length.
use Rattle.std.specs.Prelude.{ℕ, Bool, true, false, ◌&&◌, ◌||◌, nat_le, nat_lt, List, length}
use Rattle.std.specs.List.{list_all}
use Rattle.instruction_parts.specs.declared.row_types.Row.{Row}
use Rattle.instruction_parts.specs.declared.kinds.Method.{Method}
use Rattle.instruction_parts.specs.declared.kinds.Method.TheVariants as method
use Rattle.row_fit.specs.Sound.{at_most_one}

-- a lower-case letter or a digit
abbrev pub is_name_byte : ℕ → Bool
is_name_byte b = (nat_le 97 b && nat_lt b 123) || (nat_le 48 b && nat_lt b 58)

-- a name: 1 to 16 lower-case letters and digits
unfoldable pub is_name : List ℕ → Bool
is_name bytes = nat_lt 0 (length bytes) && (nat_le (length bytes) 16 && list_all is_name_byte bytes)

-- the operand is memory or a far pointer, or can be memory
unfoldable pub is_long_method : Method → Bool
is_long_method method.RegisterOrMemory = true
is_long_method method.MemoryOnly = true
is_long_method method.Gather = true
is_long_method method.Offset = true
is_long_method method.Pointer = true
is_long_method _ = false

-- at most one operand of the row is such
unfoldable pub has_one_long_kind : Row → Bool
has_one_long_kind row = at_most_one is_long_method row
