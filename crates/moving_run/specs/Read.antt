-- What reading the blocks of some bytes gives.
use Rattle.std.specs.Prelude.{◌≡◌, ℕ, ◌+◌, ◌^◌, ◌<◌, ◌≤◌, List, ◌++◌, All, length, take, None}
use Rattle.x86_values.specs.declared.Bits.{Bits}
use Rattle.opcode_rows.specs.Sweep.{Item, IsSweep}
use Rattle.move_goals.specs.declared.items.Placed.{Placed}
use Rattle.moving_run.specs.declared.command_words.commands.BlockWords.{BlockWords}
use Rattle.moving_run.specs.declared.code.Code.{Code}
use Rattle.moving_run.specs.declared.code.CodeError.{CodeError}
use Rattle.moving_run.specs.declared.code.CodeError.TheVariants.{BadCode, Memory}
use Rattle.moving_run.specs.Code.{IsInstruction, AreSwept, BlockStopsAt, IsBadAt, placed_in, all_placed, all_spans}
use Rattle.moving_run.specs.Ends.{first_pass}

-- the instructions that are moved together: the first of them
unfoldable pub first_items : List Placed → List Placed
first_items items = take 65536 items

-- The instructions of a block were read, so many, behind those that were kept before. Where its addresses do not wrap they have their old ones.
pub record ReadsBlock (bits : Bits) (base : ℕ) (bytes : List ℕ) (before after : List Placed) (count : ℕ) : Type 0 where
  pub items : List Item
  pub sweep : IsSweep bits base bytes items
  pub all : All IsInstruction items
  pub count_is : count ≡ length items
  pub few : count ≤ length bytes
  pub kept : (0 < length bytes → base + length bytes ≤ 2 ^ 64) → after ≡ first_items (before ++ placed_in base items)

-- why a block is not read whose first byte is the one of this number of the input
abbrev pub IsBlockError : Bits → ℕ → ℕ → List ℕ → CodeError → Type 0
IsBlockError bits base start bytes Memory = Unit {0}
IsBlockError bits base start bytes (BadCode offset error) = (n : ℕ) × (BlockStopsAt bits base bytes n error × (offset ≡ start + n))

-- The instructions of all blocks were read. They have their old addresses where no old end passes the address space.
pub record IsCode (bits : Bits) (words : List BlockWords) (bytes : List ℕ) (code : Code) : Type 0 where
  pub items : List (List Item)
  pub swept : AreSwept bits words bytes items
  pub count_is : code.count ≡ length (all_placed words items)
  pub spans_are : code.spans.items ≡ all_spans words items
  pub kept : first_pass bits words bytes ≡ None → code.items.items ≡ first_items (all_placed words items)

-- why the blocks are not read
abbrev pub IsCodeError : Bits → List BlockWords → List ℕ → CodeError → Type 0
IsCodeError bits words bytes Memory = Unit {0}
IsCodeError bits words bytes (BadCode offset error) = IsBadAt bits words bytes 0 offset error
