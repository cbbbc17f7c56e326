-- Moved instructions that hand an address in the trampoline to what they call.
use Rattle.std.specs.Prelude.{ℕ, ◌-◌, Bool, ◌||◌, if◌then◌else◌, is_some, List, [], ◌∷◌, length, bytes_eq, Option, Some, None}
use Rattle.x86_values.specs.declared.Bits.{Bits}
use Rattle.opcode_rows.specs.Table.{name_of}
use Rattle.move_goals.specs.declared.items.Placed.{Placed}
use Rattle.move_goals.specs.Items.{first_below, item_at}
use Rattle.detour.specs.declared.start.MoveRule.{MoveRule}
use Rattle.detour.specs.Taken.{offset_at, moved_count}
use Rattle.detour.specs.Trampoline.{pushed_last}

-- the names of the near CALL and of the far one
abbrev pub call_name : List ℕ
call_name = 0x63 ∷ 0x61 ∷ 0x6C ∷ 0x6C ∷ []

abbrev pub far_call_name : List ℕ
far_call_name = 0x63 ∷ 0x61 ∷ 0x6C ∷ 0x6C ∷ 0x66 ∷ []

-- an instruction is a CALL: it pushes the address behind it (CALL)
unfoldable pub calls : Placed → Bool
calls item = bytes_eq (name_of item.instr.code.0) call_name || bytes_eq (name_of item.instr.code.0) far_call_name

-- the first of so many instructions that does
unfoldable pub first_call : List Placed → ℕ → Option ℕ
first_call items count = first_below (λ k. calls (item_at items k)) count

-- how many of the taken instructions are moved as they are: all that are moved, or all but the call at the end that pushes its own return address
abbrev pub call_count : MoveRule → Bits → List Placed → ℕ
call_count rule bits items = if is_some (pushed_last rule bits items) then length items - 1 else moved_count items

-- its offset
abbrev pub call_offset : List Placed → Option ℕ → Option ℕ
call_offset items None = None
call_offset items (Some k) = Some (offset_at items k)

-- the offset of the first call that is moved as it is
abbrev pub call_in : MoveRule → Bits → List Placed → Option ℕ
call_in rule bits items = call_offset items (first_call items (call_count rule bits items))
