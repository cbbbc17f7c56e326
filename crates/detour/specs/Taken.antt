-- The instructions that a detour takes from the front of a function: as few as have the bytes of the jump.
use Rattle.std.specs.Prelude.{◌≡◌, ℕ, ◌+◌, ◌<◌, ◌≤◌, nat_le, Bool, not, ◌&&◌, ◌||◌, List, [], ◌∷◌, length, take, drop, sum_by, bytes_eq, Option, Some, None, Err}
use Rattle.x86_values.specs.declared.Bits.{Bits}
use Rattle.x86_values.specs.Wrapping.{modulo_width}
use Rattle.row_relation.specs.Spells.{Reading, Read}
use Rattle.opcode_rows.specs.Sweep.{IsReadAt}
use Rattle.opcode_rows.specs.Table.{name_of}
use Rattle.decoder.specs.declared.DecodeError.{DecodeError}
use Rattle.decoder.specs.Answer.{reading_of}
use Rattle.operand_info.specs.ByCode.{flow_of}
use Rattle.flow_graph.specs.Control.{goes_on}
use Rattle.move_goals.specs.declared.items.Placed.{Placed}
use Rattle.move_goals.specs.Items.{first_below, item_at}

-- how many bytes some instructions have
abbrev pub taken_bytes : List Placed → ℕ
taken_bytes items = sum_by (λ p. p.len) items

-- the offset at which instruction k of those from the first byte on begins
abbrev pub offset_at : List Placed → ℕ → ℕ
offset_at items k = taken_bytes (take k items)

-- an instruction as it is read
abbrev pub reading_of_item : Placed → Reading
reading_of_item p = Read (record { instr = p.instr; len = p.len })

-- the items are the instructions that are read one behind another from an offset on, each at its address in the mode
abbrev pub AreReadFrom : Bits → ℕ → List ℕ → ℕ → List Placed → Type 0
AreReadFrom bits ip code offset [] = Unit {0}
AreReadFrom bits ip code offset (p ∷ ps) =
    ((p.ip ≡ modulo_width bits (ip + offset)) × IsReadAt bits ip offset (drop offset code) (reading_of_item p))
    × AreReadFrom bits ip code (offset + p.len) ps

-- the first instructions of some code, as few as have a number of bytes
pub record AreTaken (bits : Bits) (ip : ℕ) (code : List ℕ) (need : ℕ) (items : List Placed) : Type 0 where
  pub read : AreReadFrom bits ip code 0 items
  pub enough : need ≤ taken_bytes items
  pub fewest : (k : ℕ) → k < length items → offset_at items k < need
  pub within : taken_bytes items ≤ length code

-- at an offset in the part to be taken no instruction begins, behind those that are read before it
pub record IsBadCode (bits : Bits) (ip : ℕ) (code : List ℕ) (need at : ℕ) (error : DecodeError) : Type 0 where
  pub items : List Placed
  pub read : AreReadFrom bits ip code 0 items
  pub offset : at ≡ taken_bytes items
  pub to_take : at < need
  pub within : at < length code
  pub none : IsReadAt bits ip at (drop at code) (reading_of (Err error))

-- the code ends where its instructions have fewer bytes
pub record IsTooSmall (bits : Bits) (ip : ℕ) (code : List ℕ) (len need : ℕ) : Type 0 where
  pub items : List Placed
  pub read : AreReadFrom bits ip code 0 items
  pub all : taken_bytes items ≡ length code
  pub len_is : len ≡ length code
  pub short : len < need

-- ---- where control ends

-- control may go on behind an instruction (as in a flow graph)
abbrev pub item_goes_on : Placed → Bool
item_goes_on p = goes_on (flow_of p.instr.code.0)

-- the first of some instructions behind which control never goes on
unfoldable pub first_end : List Placed → Option ℕ
first_end items = first_below (λ k. not (item_goes_on (item_at items k))) (length items)

-- one more than a number, else all
abbrev pub count_to : Option ℕ → ℕ → ℕ
count_to None n = n
count_to (Some k) n = k + 1

-- how many of them there are up to that one, which are moved
abbrev pub moved_count : List Placed → ℕ
moved_count items = count_to (first_end items) (length items)

-- the name of NOP (90, and 0F 1F) and of INT3 (CC)
abbrev pub nop_name : List ℕ
nop_name = 0x6E ∷ 0x6F ∷ 0x70 ∷ []

-- the name of INT3 (CC)
abbrev pub int3_name : List ℕ
int3_name = 0x69 ∷ 0x6E ∷ 0x74 ∷ 0x33 ∷ []

-- an instruction that only fills up space behind code: NOP of any length, or INT3
unfoldable pub is_padding : Placed → Bool
is_padding p = bytes_eq (name_of p.instr.code.0) nop_name || bytes_eq (name_of p.instr.code.0) int3_name

-- instruction k stands behind the one where control ends, and is no padding
abbrev pub is_code_behind : List Placed → ℕ → Bool
is_code_behind items k = nat_le (moved_count items) k && not (is_padding (item_at items k))

-- the first that does
unfoldable pub first_code_behind : List Placed → Option ℕ
first_code_behind items = first_below (is_code_behind items) (length items)

-- code that is no padding stands behind an instruction that never goes on, at this offset at first
pub record IsCodeBehind (items : List Placed) (at : ℕ) : Type 0 where
  pub number : ℕ
  pub first : first_code_behind items ≡ Some number
  pub offset : at ≡ offset_at items number
