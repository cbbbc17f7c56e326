-- What moving several blocks of code at once answers, and what it leaves in the rooms.
use Rattle.std.specs.Prelude.{◌≡◌, ◌⊎◌, ℕ, ◌+◌, ◌-◌, ◌%◌, ◌^◌, ◌<◌, ◌≤◌, nat_lt, nat_le, true, false, ◌&&◌, ℤ, pos, List, [], ◌∷◌, ◌++◌, length, take, drop, map, sum_by, slice_index_or, Option, Some, None, Result, Ok, Err, if◌then◌else◌}
use Rattle.std.specs.List.{range_with_len}
use Rattle.x86_values.specs.declared.Bits.{Bits}
use Rattle.decoder.specs.declared.DecodeError.TheVariants.{Invalid as InvalidError, TooShort as TooShortError}
use Rattle.branch_sizes.specs.declared.plan.BlockSpan.{BlockSpan}
use Rattle.branch_sizes.specs.Layout.{block_number, first_of_block, span_at}
use Rattle.move_goals.specs.declared.items.Placed.{Placed}
use Rattle.move_goals.specs.Items.{passes}
use Rattle.block_encoder.specs.declared.error.MoveError.TheVariants as error
use Rattle.block_encoder.specs.Moved.{MovedLists, IsMoved, IsRefused}
use Rattle.c_calls.specs.declared.refusal.Refusal.{Refusal}
use Rattle.c_calls.specs.declared.refusal.Refusal.TheVariants as why
use Rattle.c_calls.specs.declared.flat.FlatMoved.{FlatMoved}
use Rattle.c_calls.specs.declared.flat.FlatBlock.{FlatBlock}
use Rattle.c_calls.specs.declared.flat.FlatPlace.{FlatPlace}
use Rattle.c_calls.specs.declared.flat.FlatBlocks.{FlatBlocks}
use Rattle.c_calls.specs.declared.moved_blocks.CodeBlocks.{CodeBlocks}
use Rattle.c_calls.specs.declared.moved_blocks.BlocksRefusal.{BlocksRefusal}
use Rattle.c_calls.specs.declared.moved_blocks.BlocksRefusal.TheVariants.{Mode, TooLarge, Outside, OldEnd, BadCode, Memory, TooMany, Wraps, TooFar, Room}
use Rattle.c_calls.specs.declared.moved.MoveRefusal.{MoveRefusal}
use Rattle.c_calls.specs.declared.moved.MoveRefusal.TheVariants.{BadCode as NotRead}
use Rattle.c_calls.specs.Refusals.{refusal_status}
use Rattle.c_calls.specs.Numbers.{bits_numbered}
use Rattle.c_calls.specs.Moving.{AreInstructionsOf, ReadingStopsAt, moved_end, code_len, entries, room_left}

-- ---- the instructions of the blocks

-- what stands for a block that is not there
abbrev pub no_block : FlatBlock
no_block = record { old_ip = 0; new_ip = 0; offset = 0; len = 0 }

-- block b
abbrev pub flat_block_at : List FlatBlock → ℕ → FlatBlock
flat_block_at blocks b = slice_index_or blocks b no_block

-- the bytes of a block
abbrev pub block_code : List ℕ → FlatBlock → List ℕ
block_code bytes block = take block.len (drop block.offset bytes)

-- a block lies inside the bytes
abbrev pub IsWithin : List ℕ → FlatBlock → Type 0
IsWithin bytes block = block.offset + block.len ≤ length bytes

-- the address behind a block where it stood; no bytes are an empty block, whose old end is its new base
abbrev pub old_end_of : List ℕ → FlatBlock → ℕ
old_end_of bytes block = moved_end block.old_ip (block_code bytes block) block.new_ip

-- these are all instructions of a block, which lies inside the bytes and ends inside the address space of the mode
pub record IsBlockRead (bits : Bits) (bytes : List ℕ) (block : FlatBlock) (items : List Placed) : Type 0 where
  pub within : IsWithin bytes block
  pub inside : passes bits (old_end_of bytes block) ≡ false
  pub read : AreInstructionsOf bits block.old_ip (block_code bytes block) items

-- so many instructions move together to the new address of a block
abbrev pub block_span : FlatBlock → List Placed → BlockSpan
block_span block items = record { count = length items; new_base = block.new_ip }

-- the blocks are read one by one: their instructions one behind another, and a span for each of them
abbrev pub AreBlocksRead : Bits → List ℕ → List FlatBlock → List BlockSpan → List Placed → Type 0
AreBlocksRead bits bytes [] spans items = (spans ≡ []) × (items ≡ [])
AreBlocksRead bits bytes (block ∷ blocks) spans items =
    (front : List Placed) × (rest : List Placed) × (others : List BlockSpan)
    × (items ≡ front ++ rest) × (spans ≡ block_span block front ∷ others)
    × IsBlockRead bits bytes block front × AreBlocksRead bits bytes blocks others rest

-- the blocks before this one are read
pub record AreReadBefore (bits : Bits) (bytes : List ℕ) (blocks : List FlatBlock) (b : ℕ) : Type 0 where
  pub there : b < length blocks
  pub spans : List BlockSpan
  pub items : List Placed
  pub before : AreBlocksRead bits bytes (take b blocks) spans items

-- ---- the blocks as they are moved

-- where moved block b ends among the moved bytes, how many bytes it has before the gap and its slots, and how many instructions
unfoldable pub place_at : Bits → List BlockSpan → List Placed → MovedLists → ℕ → FlatPlace
place_at bits spans items m b = record {
  end = slice_index_or m.ends b 0;
  code_bytes = code_len bits items (first_of_block spans b) (span_at spans b).count (span_at spans b).new_base m.starts m.forms;
  count = (span_at spans b).count;
}

-- what stands for a place that is not there
abbrev pub no_place : FlatPlace
no_place = record { end = 0; code_bytes = 0; count = 0 }

-- what stands for the places of the first n blocks
unfoldable pub places : Bits → List BlockSpan → List Placed → MovedLists → ℕ → List FlatPlace
places bits spans items m n = map (place_at bits spans items m) (range_with_len 0 n)

-- blocks that are moved at once, with an entry for each instruction and a place for each block
pub record AreBlocksMoved (bits : Bits) (spans : List BlockSpan) (items : List Placed) (m : CodeBlocks) : Type 0 where
  pub moved : IsMoved bits items spans m.moved
  pub entries_are : m.entries.items ≡ entries items m.moved.starts m.moved.forms (length items)
  pub places_are : m.places.items ≡ places bits spans items m.moved (length spans)

-- the number that an instruction has in its block
abbrev pub number_in_block : List BlockSpan → ℕ → ℕ
number_in_block [] k = k
number_in_block (s ∷ ss) k = if nat_lt k s.count then k else number_in_block ss (k - s.count)

-- instruction k of all does not reach its target: its block, and its number there
pub record IsTooFarIn (bits : Bits) (spans : List BlockSpan) (items : List Placed) (block at target : ℕ) : Type 0 where
  pub k : ℕ
  pub far : IsRefused bits items spans (error.TooFar k target)
  pub block_is : block ≡ block_number spans k
  pub at_is : at ≡ number_in_block spans k

-- the moved blocks, or why they are not moved
abbrev pub IsBlocksAnswerOf : Bits → List BlockSpan → List Placed → Result CodeBlocks BlocksRefusal → Type 0
IsBlocksAnswerOf bits spans items (Ok m) = AreBlocksMoved bits spans items m
IsBlocksAnswerOf bits spans items (Err (TooMany count)) = IsRefused bits items spans (error.TooMany count)
IsBlocksAnswerOf bits spans items (Err (Wraps end)) = IsRefused bits items spans (error.Wraps end)
IsBlocksAnswerOf bits spans items (Err (TooFar block at target)) = IsTooFarIn bits spans items block at target
IsBlocksAnswerOf bits spans items (Err Memory) = Unit {0}
IsBlocksAnswerOf bits spans items (Err why) = ⊥

-- ---- the answer

-- how many bytes the blocks have together
abbrev pub total_len : List FlatBlock → ℕ
total_len blocks = sum_by (λ (block : FlatBlock). block.len) blocks

-- the blocks are few, and short together
pub record AreFew (blocks : List FlatBlock) : Type 0 where
  pub few : length blocks ≤ 65536
  pub short : total_len blocks ≤ 1048576

-- all blocks are read, and moved or refused
pub record AreMovedAs (bits : Bits) (bytes : List ℕ) (blocks : List FlatBlock) (answer : Result CodeBlocks BlocksRefusal) : Type 0 where
  pub few : AreFew blocks
  pub spans : List BlockSpan
  pub items : List Placed
  pub read : AreBlocksRead bits bytes blocks spans items
  pub is : IsBlocksAnswerOf bits spans items answer

-- why a block, the one of this number, is not read: it is not inside the bytes, ends past the address space, or has an offset at which none is read
abbrev pub IsBlockRefusal : Bits → List ℕ → FlatBlock → ℕ → BlocksRefusal → Type 0
IsBlockRefusal bits bytes block b (Outside n) = (n ≡ b) × (length bytes < block.offset + block.len)
IsBlockRefusal bits bytes block b (OldEnd n end) = (n ≡ b) × IsWithin bytes block × (end ≡ old_end_of bytes block) × (passes bits end ≡ true)
IsBlockRefusal bits bytes block b (BadCode n at e) =
    (n ≡ b) × IsWithin bytes block × (passes bits (old_end_of bytes block) ≡ false) × ReadingStopsAt bits block.old_ip (block_code bytes block) at e
IsBlockRefusal bits bytes block b Memory = Unit {0}
IsBlockRefusal bits bytes block b why = ⊥

-- why a block of this number is not read, by why its code is not
abbrev pub read_refusal : MoveRefusal → ℕ → BlocksRefusal
read_refusal (NotRead at e) b = BadCode b at e
read_refusal why b = Memory

-- the first block that is not read, and why
pub record IsBlockUnread (bits : Bits) (bytes : List ℕ) (blocks : List FlatBlock) (why : BlocksRefusal) : Type 0 where
  pub b : ℕ
  pub before : AreReadBefore bits bytes blocks b
  pub is : IsBlockRefusal bits bytes (flat_block_at blocks b) b why

-- the moved blocks, or why they are not moved
abbrev pub IsBlocksAnswerIn : Bits → List ℕ → List FlatBlock → Result CodeBlocks BlocksRefusal → Type 0
IsBlocksAnswerIn bits bytes blocks (Ok m) = AreMovedAs bits bytes blocks (Ok m)
IsBlocksAnswerIn bits bytes blocks (Err TooLarge) = (65536 < length blocks) ⊎ (1048576 < total_len blocks)
IsBlocksAnswerIn bits bytes blocks (Err (Outside b)) = AreFew blocks × IsBlockUnread bits bytes blocks (Outside b)
IsBlocksAnswerIn bits bytes blocks (Err (OldEnd b end)) = AreFew blocks × IsBlockUnread bits bytes blocks (OldEnd b end)
IsBlocksAnswerIn bits bytes blocks (Err (BadCode b at e)) = AreFew blocks × IsBlockUnread bits bytes blocks (BadCode b at e)
IsBlocksAnswerIn bits bytes blocks (Err Memory) = AreFew blocks
IsBlocksAnswerIn bits bytes blocks (Err (TooMany count)) = AreMovedAs bits bytes blocks (Err (TooMany count))
IsBlocksAnswerIn bits bytes blocks (Err (Wraps end)) = AreMovedAs bits bytes blocks (Err (Wraps end))
IsBlocksAnswerIn bits bytes blocks (Err (TooFar b at target)) = AreMovedAs bits bytes blocks (Err (TooFar b at target))
IsBlocksAnswerIn bits bytes blocks (Err Mode) = ⊥
IsBlocksAnswerIn bits bytes blocks (Err Room) = ⊥

-- what moving several blocks answers, where the number of the mode names one
abbrev pub IsBlocksAnswer : Option Bits → List ℕ → List FlatBlock → Result CodeBlocks BlocksRefusal → Type 0
IsBlocksAnswer None bytes blocks answer = answer ≡ Err Mode
IsBlocksAnswer (Some bits) bytes blocks answer = IsBlocksAnswerIn bits bytes blocks answer

-- ---- what is said and left

-- the three rooms hold what they are for
unfoldable pub blocks_within : ℕ → ℕ → ℕ → Result CodeBlocks BlocksRefusal → Result CodeBlocks BlocksRefusal
blocks_within room places_room map_room (Ok m) =
    if nat_le (length m.moved.bytes) room && nat_le (length m.places.items) places_room && nat_le (length m.entries.items) map_room then Ok m else Err Room
blocks_within room places_room map_room (Err e) = Err e

-- why nothing is moved, by the refusals of all calls
abbrev pub blocks_refusal : BlocksRefusal → Refusal
blocks_refusal Mode = why.Mode
blocks_refusal TooLarge = why.TooLarge
blocks_refusal (Outside b) = why.Block
blocks_refusal (OldEnd b end) = why.Wraps
blocks_refusal (BadCode b at InvalidError) = why.Invalid
blocks_refusal (BadCode b at TooShortError) = why.TooShort
blocks_refusal Memory = why.Memory
blocks_refusal (TooMany count) = why.TooMany
blocks_refusal (Wraps end) = why.Wraps
blocks_refusal (TooFar b at target) = why.TooFar
blocks_refusal Room = why.Room

-- what the call says
abbrev pub blocks_said : Result CodeBlocks BlocksRefusal → ℤ
blocks_said (Ok m) = pos 0
blocks_said (Err e) = refusal_status (blocks_refusal e)

-- what the room of the moved bytes holds
abbrev pub bytes_left : List ℕ → Result CodeBlocks BlocksRefusal → List ℕ
bytes_left = room_left (λ (m : CodeBlocks). m.moved.bytes)

-- what the room of the places holds
abbrev pub places_left : List FlatPlace → Result CodeBlocks BlocksRefusal → List FlatPlace
places_left = room_left (λ (m : CodeBlocks). m.places.items)

-- what the room of the map holds
abbrev pub entries_left : List FlatMoved → Result CodeBlocks BlocksRefusal → List FlatMoved
entries_left = room_left (λ (m : CodeBlocks). m.entries.items)

-- no numbers, and no block
abbrev pub no_blocks : ℕ → FlatBlocks
no_blocks n = record { bytes = 0; count = 0; block = n; at = 0; address = 0 }

-- the numbers of a refusal of n blocks: those of its block, and there of its instruction or offset; an address is modulo 2 ^ 64
abbrev pub refusal_report : ℕ → BlocksRefusal → FlatBlocks
refusal_report n (Outside b) = record (no_blocks n) { block = b }
refusal_report n (OldEnd b end) = record (no_blocks n) { block = b; address = end % 2 ^ 64 }
refusal_report n (BadCode b at e) = record (no_blocks n) { block = b; at = at }
refusal_report n (TooMany count) = record (no_blocks n) { count = count }
refusal_report n (Wraps end) = record (no_blocks n) { address = end % 2 ^ 64 }
refusal_report n (TooFar b at target) = record (no_blocks n) { block = b; at = at; address = target }
refusal_report n why = no_blocks n

-- how many bytes and entries there are, also where a room does not hold them; or the numbers of the refusal
abbrev pub blocks_report : ℕ → Result CodeBlocks BlocksRefusal → FlatBlocks
blocks_report n (Ok m) = record (no_blocks n) { bytes = length m.moved.bytes; count = length m.entries.items }
blocks_report n (Err e) = refusal_report n e

-- what the call says and leaves
pub record IsBlocksMove (bits : ℕ) (bytes : List ℕ) (blocks : List FlatBlock) (out out' : List ℕ) (room room' : List FlatPlace) (map map' : List FlatMoved)
    (report : FlatBlocks) (said : ℤ) : Type 0 where
  pub answer : Result CodeBlocks BlocksRefusal
  pub is : IsBlocksAnswer (bits_numbered bits) bytes blocks answer
  pub said_is : said ≡ blocks_said (blocks_within (length out) (length room) (length map) answer)
  pub bytes_are : out' ≡ bytes_left out (blocks_within (length out) (length room) (length map) answer)
  pub places_are : room' ≡ places_left room (blocks_within (length out) (length room) (length map) answer)
  pub entries_are : map' ≡ entries_left map (blocks_within (length out) (length room) (length map) answer)
  pub report_is : report ≡ blocks_report (length blocks) answer
