-- What moving some code gives, and why it is refused.
use Rattle.std.specs.Prelude.{◌≡◌, ℕ, List, length, Result, Ok, Err}
use Rattle.x86_values.specs.declared.Bits.{Bits}
use Rattle.move_goals.specs.declared.items.Placed.{Placed}
use Rattle.move_goals.specs.Items.{one_span}
use Rattle.block_encoder.specs.declared.error.MoveError.{MoveError}
use Rattle.block_encoder.specs.declared.error.MoveError.TheVariants as error
use Rattle.block_encoder.specs.Moved.{MovedLists, IsMoved, IsRefused}
use Rattle.code_items.specs.Sound.{ItemList}
use Rattle.code_items.specs.Items.{AreItemsOf, StopsAt}
use Rattle.code_items.specs.declared.moving.MoveCodeError.{MoveCodeError}
use Rattle.code_items.specs.declared.moving.MoveCodeError.TheVariants.{BadCode, Memory, TooMany, Wraps, TooFar}

-- the instructions of some code, and the block that they were moved to
pub record MovedItems : Type 0 where
  pub code : ItemList
  pub moved : MovedLists

-- each instruction has a new address and a form
pub record AreBeside (items : List Placed) (m : MovedLists) : Type 0 where
  pub starts : length m.starts ≡ length items
  pub forms : length m.forms ≡ length items

-- all instructions of the code were moved as one block to an address, by the rules of moving
pub record IsMovedCode (bits : Bits) (old : ℕ) (bytes : List ℕ) (new : ℕ) (m : MovedItems) : Type 0 where
  pub bits_are : m.code.bits ≡ bits
  pub are : AreItemsOf bits old bytes m.code.items
  pub moved : IsMoved bits m.code.items (one_span m.code.items new) m.moved

-- the code has instructions alone, and to move them as one block is refused
pub record RefusesCode (bits : Bits) (old : ℕ) (bytes : List ℕ) (new : ℕ) (why : MoveError) : Type 0 where
  pub items : List Placed
  pub are : AreItemsOf bits old bytes items
  pub refused : IsRefused bits items (one_span items new) why

-- the moved code, or why it is not moved: first by the code, then by the first rule of moving that refuses; for want of memory at any point
abbrev pub IsCodeAnswer : Bits → ℕ → List ℕ → ℕ → Result MovedItems MoveCodeError → Type 0
IsCodeAnswer bits old bytes new (Ok m) = IsMovedCode bits old bytes new m
IsCodeAnswer bits old bytes new (Err (BadCode at e)) = StopsAt bits old bytes at e
IsCodeAnswer bits old bytes new (Err Memory) = Unit {0}
IsCodeAnswer bits old bytes new (Err (TooMany count)) = RefusesCode bits old bytes new (error.TooMany count)
IsCodeAnswer bits old bytes new (Err (Wraps end)) = RefusesCode bits old bytes new (error.Wraps end)
IsCodeAnswer bits old bytes new (Err (TooFar at target)) = RefusesCode bits old bytes new (error.TooFar at target)
