-- What moving some code answers, and what it leaves in the rooms.
use Rattle.std.specs.Prelude.{◌≡◌, ◌⊎◌, ℕ, ◌+◌, ◌-◌, ◌*◌, ◌%◌, ◌==◌, ◌^◌, ◌<◌, ◌≤◌, nat_le, true, false, ◌&&◌, ℤ, pos, List, [], ◌∷◌, ◌++◌, length, drop, map, slice_index_or, Option, Some, None, Result, Ok, Err, if◌then◌else◌}
use Rattle.std.specs.List.{range_with_len}
use Rattle.x86_values.specs.declared.Bits.{Bits}
use Rattle.x86_values.specs.declared.Decoded.{Decoded}
use Rattle.row_relation.specs.Spells.{Read}
use Rattle.opcode_rows.specs.Reading.{IsRead}
use Rattle.decoder.specs.declared.DecodeError.{DecodeError}
use Rattle.decoder.specs.declared.DecodeError.TheVariants.{Invalid as InvalidError, TooShort as TooShortError}
use Rattle.decoder.specs.Answer.{reading_of}
use Rattle.branch_sizes.specs.declared.plan.Form.{Form}
use Rattle.branch_sizes.specs.declared.plan.Form.TheVariants.{Itself, Short, Near, Far, Bridge, FarBridge}
use Rattle.move_goals.specs.declared.items.Placed.{Placed}
use Rattle.move_goals.specs.Items.{item_at, one_span, passes}
use Rattle.block_encoder.specs.declared.error.MoveError.{MoveError}
use Rattle.block_encoder.specs.declared.error.MoveError.TheVariants as error
use Rattle.move_goals.specs.BranchForms.Images.{form_length}
use Rattle.block_encoder.specs.Moved.{MovedLists, IsAnswer}
use Rattle.block_encoder.specs.ByPlan.{IsOutsideAnswer}
use Rattle.c_calls.specs.declared.refusal.Refusal.{Refusal}
use Rattle.c_calls.specs.declared.refusal.Refusal.TheVariants as why
use Rattle.c_calls.specs.declared.flat.FlatMoved.{FlatMoved}
use Rattle.c_calls.specs.declared.flat.FlatMove.{FlatMove}
use Rattle.c_calls.specs.declared.moved.MovedCode.{MovedCode}
use Rattle.c_calls.specs.declared.moved.Targets.{Targets}
use Rattle.c_calls.specs.declared.moved.Targets.TheVariants.{Follow, Stay}
use Rattle.c_calls.specs.declared.moved.MoveRefusal.{MoveRefusal}
use Rattle.c_calls.specs.declared.moved.MoveRefusal.TheVariants.{Mode, TooLarge, BadCode, Memory, TooMany, Wraps, TooFar, Room}
use Rattle.c_calls.specs.Refusals.{refusal_status}
use Rattle.c_calls.specs.Numbers.{bits_numbered}

-- ---- the instructions of some code

-- the item that is read there
abbrev pub decoded_item : Placed → Decoded
decoded_item p = record { instr = p.instr; len = p.len }

-- these items are read one behind the other from an address and some bytes on, and an address and bytes are left
abbrev pub AreReadUpTo : Bits → ℕ → List ℕ → List Placed → ℕ → List ℕ → Type 0
AreReadUpTo bits ip bytes [] ip' rest = (ip' ≡ ip) × (rest ≡ bytes)
AreReadUpTo bits ip bytes (p ∷ ps) ip' rest =
    (p.ip ≡ ip) × (1 ≤ p.len) × (p.len ≤ 15) × IsRead bits ip bytes (Read (decoded_item p)) × AreReadUpTo bits (ip + p.len) (drop p.len bytes) ps ip' rest

-- they are all instructions of the code
abbrev pub AreInstructionsOf : Bits → ℕ → List ℕ → List Placed → Type 0
AreInstructionsOf bits ip bytes items = (end : ℕ) × AreReadUpTo bits ip bytes items end []

-- at this offset of the code none is read
pub record ReadingStopsAt (bits : Bits) (ip : ℕ) (bytes : List ℕ) (at : ℕ) (e : DecodeError) : Type 0 where
  pub items : List Placed
  pub rest : List ℕ
  pub before : AreReadUpTo bits ip bytes items (ip + at) rest
  pub some : 0 < length rest
  pub reads : IsRead bits (ip + at) rest (reading_of (Err e))

-- ---- the map

-- the form of a moved instruction, by its number
abbrev pub form_number : Form → ℕ
form_number Itself = 0
form_number Short = 1
form_number Near = 2
form_number Far = 3
form_number Bridge = 4
form_number FarBridge = 5

-- where item k was, where it went, how long it was, and its form
unfoldable pub entry_at : List Placed → List ℕ → List Form → ℕ → FlatMoved
entry_at items starts forms k = record {
  old_ip = (item_at items k).ip;
  new_ip = slice_index_or starts k 0;
  len = (item_at items k).len;
  form = form_number (slice_index_or forms k Itself);
}

-- the entries of the first n items
unfoldable pub entries : List Placed → List ℕ → List Form → ℕ → List FlatMoved
entries items starts forms n = map (entry_at items starts forms) (range_with_len 0 n)

-- ---- the end

-- How many bytes of moved instructions stand before the gap and the slots, where so many from one on move to an address: those up to the end of the
-- image of the last one.
unfoldable pub code_len : Bits → List Placed → ℕ → ℕ → ℕ → List ℕ → List Form → ℕ
code_len bits items first count new starts forms =
    let last = first + count - 1 in
    if count == 0 then 0
    else (slice_index_or starts last 0 - new + form_length bits (item_at items last).instr (slice_index_or forms last Itself)) % 2 ^ 64

-- the offset of the first slot, of 8 bytes each, behind which nothing stands: all bytes where there is none
abbrev pub slots_offset : MovedLists → ℕ
slots_offset m = length m.bytes - 8 * length m.slots

-- ---- the answer

-- the answer of moving instructions as one block: a target that is one of them goes with it, or stays
abbrev pub IsRelocated : Targets → Bits → List Placed → ℕ → Result MovedLists MoveError → Type 0
IsRelocated Follow bits items new answer = IsAnswer bits items (one_span items new) answer
IsRelocated Stay bits items new answer = IsOutsideAnswer bits items new answer

-- instructions moved as one block: the moved bytes, an entry for each of them, and where they end
pub record AreMoved (targets : Targets) (bits : Bits) (items : List Placed) (new : ℕ) (m : MovedCode) : Type 0 where
  pub moved : IsRelocated targets bits items new (Ok m.moved)
  pub entries_are : m.entries.items ≡ entries items m.moved.starts m.moved.forms (length items)
  pub end : m.code_len ≡ code_len bits items 0 (length items) new m.moved.starts m.moved.forms

-- the moved block of some instructions, or why they are not moved
abbrev pub IsItemsAnswer : Targets → Bits → List Placed → ℕ → Result MovedCode MoveRefusal → Type 0
IsItemsAnswer targets bits items new (Ok m) = AreMoved targets bits items new m
IsItemsAnswer targets bits items new (Err (TooMany count)) = IsRelocated targets bits items new (Err (error.TooMany count))
IsItemsAnswer targets bits items new (Err (Wraps end)) = IsRelocated targets bits items new (Err (error.Wraps end))
IsItemsAnswer targets bits items new (Err (TooFar at target)) = IsRelocated targets bits items new (Err (error.TooFar at target))
IsItemsAnswer targets bits items new (Err Memory) = Unit {0}
IsItemsAnswer targets bits items new (Err Mode) = ⊥
IsItemsAnswer targets bits items new (Err TooLarge) = ⊥
IsItemsAnswer targets bits items new (Err (BadCode at e)) = ⊥
IsItemsAnswer targets bits items new (Err Room) = ⊥

-- why the instructions of some code are not read
abbrev pub IsSourceRefusal : Bits → ℕ → List ℕ → MoveRefusal → Type 0
IsSourceRefusal bits old bytes (BadCode at e) = ReadingStopsAt bits old bytes at e
IsSourceRefusal bits old bytes Memory = Unit {0}
IsSourceRefusal bits old bytes _ = ⊥

-- the address behind the old code; no bytes are an empty block, whose old end is its new base
abbrev pub moved_end : ℕ → List ℕ → ℕ → ℕ
moved_end old bytes new = if length bytes == 0 then new else (old + length bytes)

-- the code is short, and ends inside the address space of the mode
pub record IsTaken (bits : Bits) (old : ℕ) (bytes : List ℕ) (new : ℕ) : Type 0 where
  pub short : length bytes ≤ 1048576
  pub inside : passes bits (moved_end old bytes new) ≡ false

-- its instructions are read and moved, or their moving is refused
pub record IsMovedAs (targets : Targets) (bits : Bits) (old : ℕ) (bytes : List ℕ) (new : ℕ) (answer : Result MovedCode MoveRefusal) : Type 0 where
  pub taken : IsTaken bits old bytes new
  pub items : List Placed
  pub read : AreInstructionsOf bits old bytes items
  pub is : IsItemsAnswer targets bits items new answer

-- the code ends past the address space
pub record IsSourcePass (bits : Bits) (old : ℕ) (bytes : List ℕ) (new end : ℕ) : Type 0 where
  pub short : length bytes ≤ 1048576
  pub end_is : end ≡ moved_end old bytes new
  pub passes_space : passes bits end ≡ true

-- the moved code, or why it is not moved
abbrev pub IsMoveAnswerIn : Targets → Bits → ℕ → List ℕ → ℕ → Result MovedCode MoveRefusal → Type 0
IsMoveAnswerIn targets bits old bytes new (Ok m) = IsMovedAs targets bits old bytes new (Ok m)
IsMoveAnswerIn targets bits old bytes new (Err TooLarge) = 1048576 < length bytes
IsMoveAnswerIn targets bits old bytes new (Err (BadCode at e)) = IsTaken bits old bytes new × ReadingStopsAt bits old bytes at e
IsMoveAnswerIn targets bits old bytes new (Err Memory) = IsTaken bits old bytes new
IsMoveAnswerIn targets bits old bytes new (Err (TooMany count)) = IsMovedAs targets bits old bytes new (Err (TooMany count))
IsMoveAnswerIn targets bits old bytes new (Err (Wraps end)) = IsSourcePass bits old bytes new end ⊎ IsMovedAs targets bits old bytes new (Err (Wraps end))
IsMoveAnswerIn targets bits old bytes new (Err (TooFar at target)) = IsMovedAs targets bits old bytes new (Err (TooFar at target))
IsMoveAnswerIn targets bits old bytes new (Err Mode) = ⊥
IsMoveAnswerIn targets bits old bytes new (Err Room) = ⊥

-- what moving some bytes answers, where the number of the mode names one
abbrev pub IsMoveAnswer : Targets → Option Bits → ℕ → List ℕ → ℕ → Result MovedCode MoveRefusal → Type 0
IsMoveAnswer targets None old bytes new answer = answer ≡ Err Mode
IsMoveAnswer targets (Some bits) old bytes new answer = IsMoveAnswerIn targets bits old bytes new answer

-- ---- what is said and left

-- both rooms hold what they are for
unfoldable pub moved_within : ℕ → ℕ → Result MovedCode MoveRefusal → Result MovedCode MoveRefusal
moved_within room map_room (Ok m) = if nat_le (length m.moved.bytes) room && nat_le (length m.entries.items) map_room then Ok m else Err Room
moved_within room map_room (Err e) = Err e

-- why nothing is moved, by the refusals of all calls
abbrev pub refusal_of : MoveRefusal → Refusal
refusal_of Mode = why.Mode
refusal_of TooLarge = why.TooLarge
refusal_of (BadCode at InvalidError) = why.Invalid
refusal_of (BadCode at TooShortError) = why.TooShort
refusal_of Memory = why.Memory
refusal_of (TooMany count) = why.TooMany
refusal_of (Wraps end) = why.Wraps
refusal_of (TooFar at target) = why.TooFar
refusal_of Room = why.Room

-- what the call says
abbrev pub moved_said : Result MovedCode MoveRefusal → ℤ
moved_said (Ok m) = pos 0
moved_said (Err e) = refusal_status (refusal_of e)

-- a room begins with its part of what is answered, and is unchanged behind it and after a refusal
abbrev pub room_left : {A E B : Type 0} → (A → List B) → List B → Result A E → List B
room_left part old (Ok m) = part m ++ drop (length (part m)) old
room_left part old (Err e) = old

-- what the room of the moved bytes holds
abbrev pub bytes_left : List ℕ → Result MovedCode MoveRefusal → List ℕ
bytes_left = room_left (λ (m : MovedCode). m.moved.bytes)

-- what the room of the map holds
abbrev pub entries_left : List FlatMoved → Result MovedCode MoveRefusal → List FlatMoved
entries_left = room_left (λ (m : MovedCode). m.entries.items)

-- no numbers
abbrev pub nothing_moved : FlatMove
nothing_moved = record { bytes = 0; count = 0; at = 0; address = 0; code_bytes = 0; slots_at = 0 }

-- the numbers of a refusal: those of its instruction or offset, of its address modulo 2 ^ 64, and of too many instructions
abbrev pub refusal_report : MoveRefusal → FlatMove
refusal_report (BadCode at e) = record nothing_moved { at = at }
refusal_report (TooMany count) = record nothing_moved { count = count }
refusal_report (Wraps end) = record nothing_moved { address = end % 2 ^ 64 }
refusal_report (TooFar at target) = record nothing_moved { at = at; address = target }
refusal_report _ = nothing_moved

-- how many bytes and entries there are, and where the code ends and the slots begin, also where a room does not hold them; or the numbers of the refusal
abbrev pub report_of : Result MovedCode MoveRefusal → FlatMove
report_of (Ok m) = record nothing_moved {
  bytes = length m.moved.bytes;
  count = length m.entries.items;
  code_bytes = m.code_len;
  slots_at = slots_offset m.moved;
}
report_of (Err e) = refusal_report e

-- what the call says and leaves
pub record IsMove (targets : Targets) (bits old : ℕ) (bytes : List ℕ) (new : ℕ) (out out' : List ℕ) (room room' : List FlatMoved) (report : FlatMove) (said : ℤ) : Type 0 where
  pub answer : Result MovedCode MoveRefusal
  pub is : IsMoveAnswer targets (bits_numbered bits) old bytes new answer
  pub said_is : said ≡ moved_said (moved_within (length out) (length room) answer)
  pub bytes_are : out' ≡ bytes_left out (moved_within (length out) (length room) answer)
  pub entries_are : room' ≡ entries_left room (moved_within (length out) (length room) answer)
  pub report_is : report ≡ report_of answer

-- a branch to a moved instruction follows it
abbrev pub IsMoveFollowing : ℕ → ℕ → List ℕ → ℕ → List ℕ → List ℕ → List FlatMoved → List FlatMoved → FlatMove → ℤ → Type 0
IsMoveFollowing bits old bytes new out out' map map' report answer = IsMove Follow bits old bytes new out out' map map' report answer

-- a branch to a moved instruction goes to its old place
abbrev pub IsMoveStaying : ℕ → ℕ → List ℕ → ℕ → List ℕ → List ℕ → List FlatMoved → List FlatMoved → FlatMove → ℤ → Type 0
IsMoveStaying bits old bytes new out out' map map' report answer = IsMove Stay bits old bytes new out out' map map' report answer
