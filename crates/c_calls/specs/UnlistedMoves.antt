-- Moving some code of which some instructions have no row: what a call answers, and what it leaves in the rooms.
use Rattle.std.specs.Prelude.{◌≡◌, ℕ, ◌+◌, ◌-◌, ◌*◌, ◌%◌, ◌==◌, ◌^◌, ◌<◌, ◌≤◌, nat_le, ◌&&◌, ℤ, pos, List, length, map, slice_index_or, Option, Some, None, Result, Ok, Err, if◌then◌else◌}
use Rattle.std.specs.List.{range_with_len}
use Rattle.x86_values.specs.declared.Bits.{Bits}
use Rattle.branch_sizes.specs.declared.plan.Form.{Form}
use Rattle.branch_sizes.specs.declared.plan.Form.TheVariants.{Itself}
use Rattle.move_goals.specs.BranchForms.Images.{form_length}
use Rattle.code_items.specs.declared.any_items.AnyItem.{AnyItem}
use Rattle.code_items.specs.declared.any_items.AnyItem.TheVariants.{Listed, Unlisted}
use Rattle.code_items.specs.declared.moving.MoveCodeError.{MoveCodeError}
use Rattle.code_items.specs.declared.moving.MoveCodeError.TheVariants as error
use Rattle.code_items.specs.AnyItems.{any_at, item_ip, item_len}
use Rattle.code_items.specs.AnyMoved.{MovedAny, IsAnyCodeAnswer}
use Rattle.c_calls.specs.declared.flat.FlatMoved.{FlatMoved}
use Rattle.c_calls.specs.declared.flat.FlatMove.{FlatMove}
use Rattle.c_calls.specs.declared.moved.MoveRefusal.{MoveRefusal}
use Rattle.c_calls.specs.declared.moved.MoveRefusal.TheVariants.{Mode, TooLarge, BadCode, Memory, TooMany, Wraps, TooFar, Room}
use Rattle.c_calls.specs.declared.unlisted_move.MovedUnlisted.{MovedUnlisted}
use Rattle.c_calls.specs.Refusals.{refusal_status}
use Rattle.c_calls.specs.Numbers.{bits_numbered}
use Rattle.c_calls.specs.Moving.{form_number, nothing_moved, refusal_of, refusal_report, room_left}

-- ---- the map

-- how long a moved instruction is in a form; one without a row has its own length
abbrev pub any_form_length : Bits → AnyItem → Form → ℕ
any_form_length bits (Listed p) form = form_length bits p.instr form
any_form_length bits (Unlisted u) form = u.shape.len

-- where instruction k was, where it went, how long it was, and its form
unfoldable pub any_entry_at : MovedAny → ℕ → FlatMoved
any_entry_at m k = record {
  old_ip = item_ip (any_at m.items k);
  new_ip = slice_index_or m.starts k 0;
  len = item_len (any_at m.items k);
  form = form_number (slice_index_or m.forms k Itself);
}

-- the entries of the first n instructions
unfoldable pub any_entries : MovedAny → ℕ → List FlatMoved
any_entries m n = map (any_entry_at m) (range_with_len 0 n)

-- ---- the end

-- How many bytes of moved instructions stand before the gap and the slots, where they move to an address: those up to the end of the last one.
unfoldable pub any_code_len : Bits → MovedAny → ℕ → ℕ
any_code_len bits m new =
    let last = length m.items - 1 in
    if length m.items == 0 then 0
    else (slice_index_or m.starts last 0 - new + any_form_length bits (any_at m.items last) (slice_index_or m.forms last Itself)) % 2 ^ 64

-- the offset of the first slot, of 8 bytes each, behind which nothing stands: all bytes where there is none
abbrev pub any_slots_offset : MovedAny → ℕ
any_slots_offset m = length m.bytes - 8 * length m.slots

-- ---- the answer

-- the code is short and moved; there is an entry for each instruction, and it is known where they end
pub record AreMovedUnlisted (bits : Bits) (old : ℕ) (bytes : List ℕ) (new : ℕ) (m : MovedUnlisted) : Type 0 where
  pub short : length bytes ≤ 1048576
  pub moved : IsAnyCodeAnswer bits old bytes new (Ok m.moved)
  pub entries_are : m.entries.items ≡ any_entries m.moved (length m.moved.items)
  pub end : m.code_len ≡ any_code_len bits m.moved new

-- the same cause, of a call
abbrev pub move_refusal : MoveCodeError → MoveRefusal
move_refusal (error.BadCode at e) = BadCode at e
move_refusal error.Memory = Memory
move_refusal (error.TooMany count) = TooMany count
move_refusal (error.Wraps end) = Wraps end
move_refusal (error.TooFar at target) = TooFar at target

-- the code is short, and is not moved for a cause
pub record IsUnlistedRefusal (bits : Bits) (old : ℕ) (bytes : List ℕ) (new : ℕ) (why : MoveRefusal) : Type 0 where
  pub short : length bytes ≤ 1048576
  pub cause : MoveCodeError
  pub is : IsAnyCodeAnswer bits old bytes new (Err cause)
  pub why_is : why ≡ move_refusal cause

-- the moved code, or why it is not moved; for want of memory at any point
abbrev pub IsUnlistedMoveIn : Bits → ℕ → List ℕ → ℕ → Result MovedUnlisted MoveRefusal → Type 0
IsUnlistedMoveIn bits old bytes new (Ok m) = AreMovedUnlisted bits old bytes new m
IsUnlistedMoveIn bits old bytes new (Err TooLarge) = 1048576 < length bytes
IsUnlistedMoveIn bits old bytes new (Err why) = IsUnlistedRefusal bits old bytes new why

-- what moving some bytes answers, where the number of the mode names one
abbrev pub IsUnlistedMoveAnswer : Option Bits → ℕ → List ℕ → ℕ → Result MovedUnlisted MoveRefusal → Type 0
IsUnlistedMoveAnswer None old bytes new answer = answer ≡ Err Mode
IsUnlistedMoveAnswer (Some bits) old bytes new answer = IsUnlistedMoveIn bits old bytes new answer

-- ---- what is said and left

-- both rooms hold what they are for
unfoldable pub unlisted_within : ℕ → ℕ → Result MovedUnlisted MoveRefusal → Result MovedUnlisted MoveRefusal
unlisted_within room map_room (Ok m) = if nat_le (length m.moved.bytes) room && nat_le (length m.entries.items) map_room then Ok m else Err Room
unlisted_within room map_room (Err e) = Err e

-- what the call says
abbrev pub unlisted_said : Result MovedUnlisted MoveRefusal → ℤ
unlisted_said (Ok m) = pos 0
unlisted_said (Err e) = refusal_status (refusal_of e)

-- what the room of the moved bytes holds
abbrev pub unlisted_bytes_left : List ℕ → Result MovedUnlisted MoveRefusal → List ℕ
unlisted_bytes_left = room_left (λ (m : MovedUnlisted). m.moved.bytes)

-- what the room of the map holds
abbrev pub unlisted_entries_left : List FlatMoved → Result MovedUnlisted MoveRefusal → List FlatMoved
unlisted_entries_left = room_left (λ (m : MovedUnlisted). m.entries.items)

-- how many bytes and entries there are, and where the code ends and the slots begin, also where a room does not hold them; or the numbers of the refusal
abbrev pub unlisted_report : Result MovedUnlisted MoveRefusal → FlatMove
unlisted_report (Ok m) = record nothing_moved {
  bytes = length m.moved.bytes;
  count = length m.entries.items;
  code_bytes = m.code_len;
  slots_at = any_slots_offset m.moved;
}
unlisted_report (Err e) = refusal_report e

-- what the call says and leaves
pub record IsUnlistedMove (bits old : ℕ) (bytes : List ℕ) (new : ℕ) (out out' : List ℕ) (room room' : List FlatMoved) (report : FlatMove) (said : ℤ) : Type 0 where
  pub answer : Result MovedUnlisted MoveRefusal
  pub is : IsUnlistedMoveAnswer (bits_numbered bits) old bytes new answer
  pub said_is : said ≡ unlisted_said (unlisted_within (length out) (length room) answer)
  pub bytes_are : out' ≡ unlisted_bytes_left out (unlisted_within (length out) (length room) answer)
  pub entries_are : room' ≡ unlisted_entries_left room (unlisted_within (length out) (length room) answer)
  pub report_is : report ≡ unlisted_report answer
