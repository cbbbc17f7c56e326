-- The instructions that a detour takes from the front of a function, of the table and without a row.
use Rattle.std.specs.Prelude.{◌≡◌, ℕ, ◌+◌, ◌<◌, ◌≤◌, List, [], ◌∷◌, length, drop, map}
use Rattle.x86_values.specs.declared.Bits.{Bits}
use Rattle.x86_values.specs.declared.Instr.{Instr}
use Rattle.x86_values.specs.Wrapping.{modulo_width}
use Rattle.decoder.specs.declared.DecodeError.{DecodeError}
use Rattle.move_goals.specs.declared.items.Placed.{Placed}
use Rattle.block_encoder.specs.PushedCalls.Pushes.{push_of}
use Rattle.code_items.specs.declared.any_items.AnyItem.{AnyItem}
use Rattle.code_items.specs.declared.any_items.AnyItem.TheVariants.{Listed, Unlisted}
use Rattle.code_items.specs.AnyItems.{item_len, AnyFirst, HasNone}
use Rattle.detour.specs.Taken.{taken_bytes, offset_at}

-- ---- outlines

-- What stands for an instruction without a row where the rules of a detour ask for its address, its length and its kind: PUSH of 0. Control goes on behind
-- it, and it is no padding, no call and no branch.
unfoldable pub filler : Bits → Instr
filler bits = push_of bits 0

-- the line of an instruction
abbrev pub line_of : Bits → AnyItem → Placed
line_of bits (Listed p) = p
line_of bits (Unlisted u) = record { ip = u.ip; len = u.shape.len; instr = filler bits }

-- the outline of some instructions
abbrev pub outline : Bits → List AnyItem → List Placed
outline bits items = map (line_of bits) items

-- ---- what is taken

-- the items are the instructions that are read, or else measured, one behind another from an offset on, each at its address in the mode
abbrev pub AreAnyReadFrom : Bits → ℕ → List ℕ → ℕ → List AnyItem → Type 0
AreAnyReadFrom bits ip code offset [] = Unit {0}
AreAnyReadFrom bits ip code offset (x ∷ xs) =
    AnyFirst bits (modulo_width bits (ip + offset)) (drop offset code) x × AreAnyReadFrom bits ip code (offset + item_len x) xs

-- the first instructions of some code, as few as have a number of bytes
pub record AreAnyTaken (bits : Bits) (ip : ℕ) (code : List ℕ) (need : ℕ) (items : List AnyItem) : Type 0 where
  pub read : AreAnyReadFrom bits ip code 0 items
  pub enough : need ≤ taken_bytes (outline bits items)
  pub fewest : (k : ℕ) → k < length items → offset_at (outline bits items) k < need
  pub within : taken_bytes (outline bits items) ≤ length code

-- at an offset in the part to be taken no instruction begins, of the table or without a row, behind those before it
pub record IsAnyBadCode (bits : Bits) (ip : ℕ) (code : List ℕ) (need at : ℕ) (error : DecodeError) : Type 0 where
  pub items : List AnyItem
  pub read : AreAnyReadFrom bits ip code 0 items
  pub offset : at ≡ taken_bytes (outline bits items)
  pub to_take : at < need
  pub within : at < length code
  pub none : HasNone bits (modulo_width bits (ip + at)) (drop at code) error

-- the code ends where its instructions have fewer bytes
pub record IsAnyTooSmall (bits : Bits) (ip : ℕ) (code : List ℕ) (len need : ℕ) : Type 0 where
  pub items : List AnyItem
  pub read : AreAnyReadFrom bits ip code 0 items
  pub all : taken_bytes (outline bits items) ≡ length code
  pub len_is : len ≡ length code
  pub short : len < need
