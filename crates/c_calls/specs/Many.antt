-- Reading many instructions in one call: the first items of a sweep, each as a flat struct.
use Rattle.std.specs.Prelude.{◌≡◌, ℕ, ◌<◌, ◌≤◌, min, ℤ, pos, List, ◌++◌, length, drop, map, Option, Some, None}
use Rattle.x86_values.specs.declared.Bits.{Bits}
use Rattle.row_relation.specs.Spells.{Reading, Read, TooShort, Invalid}
use Rattle.opcode_rows.specs.Sweep.{Item, Sweeps}
use Rattle.c_calls.specs.declared.refusal.Refusal.TheVariants.{Mode}
use Rattle.c_calls.specs.declared.flat.FlatInstr.{FlatInstr}
use Rattle.c_calls.specs.Refusals.{refusal_status}
use Rattle.c_calls.specs.Numbers.{bits_numbered}
use Rattle.c_calls.specs.Flat.{bare_operand, flat_decoded}

-- a single byte at which no instruction stands: a code that no row has says why
abbrev pub single_byte : ℕ → FlatInstr
single_byte code = record {
  op0 = bare_operand 0;
  op1 = bare_operand 0;
  op2 = bare_operand 0;
  op3 = bare_operand 0;
  code = code;
  len = 1;
  lock = 0;
  rep = 0;
  segment = 0;
  asize = 0;
}

-- the struct of an item: its instruction with its length, or a single byte
abbrev pub flat_reading : Reading → FlatInstr
flat_reading (Read d) = flat_decoded d
flat_reading TooShort = single_byte 0xFFFE
flat_reading Invalid = single_byte 0xFFFF

-- the structs of some items
abbrev pub structs_of : List Item → List FlatInstr
structs_of items = map (λ (item : Item). flat_reading item.reading) items

-- how many items a room of so many structs takes: no more than 67,108,864 in one call
abbrev pub most_items : ℕ → ℕ
most_items room = min room 67108864

-- the first items of the sweep of some bytes, which take so many of them: as many as the room takes, or all
pub record AreFirstItems (bits : Bits) (ip : ℕ) (bytes : List ℕ) (room taken : ℕ) (items : List Item) : Type 0 where
  pub sweeps : Sweeps bits ip 0 bytes items (drop taken bytes)
  pub within : taken ≤ length bytes
  pub few : length items ≤ most_items room
  pub all : length items < most_items room → taken ≡ length bytes

-- what the call says and leaves in a mode: how many bytes the items take, their structs at the front of the room, and how many these are
pub record IsManyIn (bits : Bits) (ip : ℕ) (bytes : List ℕ) (structs structs' : List FlatInstr) (count taken : ℕ) : Type 0 where
  pub items : List Item
  pub first : AreFirstItems bits ip bytes (length structs) taken items
  pub count_is : count ≡ length items
  pub structs_are : structs' ≡ structs_of items ++ drop (length items) structs

-- what the call says and leaves, where the number of the mode names one
abbrev pub IsManyBy : Option Bits → ℕ → List ℕ → List FlatInstr → List FlatInstr → ℕ → ℕ → ℤ → Type 0
IsManyBy None ip bytes structs structs' count count' answer = (answer ≡ refusal_status Mode) × (structs' ≡ structs) × (count' ≡ count)
IsManyBy (Some bits) ip bytes structs structs' count count' answer =
    (taken : ℕ) × (answer ≡ pos taken) × IsManyIn bits ip bytes structs structs' count' taken

-- what the call says and leaves
abbrev pub IsMany : ℕ → ℕ → List ℕ → List FlatInstr → List FlatInstr → ℕ → ℕ → ℤ → Type 0
IsMany bits ip bytes structs structs' count count' answer = IsManyBy (bits_numbered bits) ip bytes structs structs' count count' answer
