-- The code that is moved: the input, cut into blocks, and the instructions of each.
use Rattle.std.specs.Prelude.{◌≡◌, ℕ, ◌+◌, List, [], ◌∷◌, ◌++◌, All, length, take, drop, Option, Some, None}
use Rattle.x86_values.specs.declared.Bits.{Bits}
use Rattle.row_relation.specs.Spells.{Reading, Read, TooShort, Invalid}
use Rattle.decoder.specs.declared.DecodeError.{DecodeError}
use Rattle.opcode_rows.specs.Sweep.{Item, IsSweep, BeginsSweep}
use Rattle.sweep.specs.SweepText.Lines.{error_of}
use Rattle.branch_sizes.specs.declared.plan.BlockSpan.{BlockSpan}
use Rattle.move_goals.specs.declared.items.Placed.{Placed}
use Rattle.moving_run.specs.declared.command_words.commands.BlockWords.{BlockWords}

-- ---- the input of each block

-- a block takes the next bytes, as many as its length says, or all that are left where these are fewer; without a length it takes the rest
abbrev pub next_block_bytes : Option ℕ → List ℕ → List ℕ
next_block_bytes None bytes = bytes
next_block_bytes (Some len) bytes = take len bytes

-- the bytes behind those of a block
abbrev pub left_by : Option ℕ → List ℕ → List ℕ
left_by None bytes = []
left_by (Some len) bytes = drop len bytes

-- ---- the instructions of each block

-- the item is an instruction
abbrev pub IsInstruction : Item → Type 0
IsInstruction item = error_of item.reading ≡ None

-- each block is swept by itself and has instructions alone
abbrev pub AreSwept : Bits → List BlockWords → List ℕ → List (List Item) → Type 0
AreSwept bits [] bytes [] = Unit {0}
AreSwept bits [] bytes (items ∷ more) = ⊥
AreSwept bits (w ∷ ws) bytes [] = ⊥
AreSwept bits (w ∷ ws) bytes (items ∷ more) =
    IsSweep bits w.old (next_block_bytes w.len bytes) items × All IsInstruction items × AreSwept bits ws (left_by w.len bytes) more

-- the sweep of some bytes has its first single byte at an offset, with this error
pub record BlockStopsAt (bits : Bits) (base : ℕ) (bytes : List ℕ) (offset : ℕ) (error : DecodeError) : Type 0 where
  pub items : List Item
  pub last : Item
  pub sweep : BeginsSweep bits base bytes (items ++ last ∷ [])
  pub all : All IsInstruction items
  pub offset_is : last.offset ≡ offset
  pub stops : error_of last.reading ≡ Some error

-- the block that begins at an offset of the input has instructions alone
pub record IsWhole (bits : Bits) (base : ℕ) (bytes : List ℕ) : Type 0 where
  pub items : List Item
  pub sweep : IsSweep bits base bytes items
  pub all : All IsInstruction items

-- the first single byte of the blocks that begin at an offset of the input, counted from the front of the input
pub data IsBadAt (bits : Bits) : List BlockWords → List ℕ → ℕ → ℕ → DecodeError → Type 0 where
  here : {w : BlockWords} {ws : List BlockWords} {bytes : List ℕ} {start offset : ℕ} {error : DecodeError}
      → BlockStopsAt bits w.old (next_block_bytes w.len bytes) offset error → IsBadAt bits (w ∷ ws) bytes start (start + offset) error
  later : {w : BlockWords} {ws : List BlockWords} {bytes : List ℕ} {start at : ℕ} {error : DecodeError}
      → IsWhole bits w.old (next_block_bytes w.len bytes) → IsBadAt bits ws (left_by w.len bytes) (start + length (next_block_bytes w.len bytes)) at error
      → IsBadAt bits (w ∷ ws) bytes start at error

-- ---- what is moved

-- an instruction of a block with its old address, a whole number that does not wrap
abbrev pub placed_by : ℕ → ℕ → Reading → List Placed
placed_by base offset (Read d) = record { ip = base + offset; len = d.len; instr = d.instr } ∷ []
placed_by base offset TooShort = []
placed_by base offset Invalid = []

-- the instructions of a block
abbrev pub placed_in : ℕ → List Item → List Placed
placed_in base [] = []
placed_in base (item ∷ items) = placed_by base item.offset item.reading ++ placed_in base items

-- the instructions of all blocks in order
abbrev pub all_placed : List BlockWords → List (List Item) → List Placed
all_placed [] itemss = []
all_placed (w ∷ ws) [] = []
all_placed (w ∷ ws) (items ∷ more) = placed_in w.old items ++ all_placed ws more

-- how many each block has, and where it goes
abbrev pub all_spans : List BlockWords → List (List Item) → List BlockSpan
all_spans [] itemss = []
all_spans (w ∷ ws) [] = []
all_spans (w ∷ ws) (items ∷ more) = record { count = length items; new_base = w.new } ∷ all_spans ws more
