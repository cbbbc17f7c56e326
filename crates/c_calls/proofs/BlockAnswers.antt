-- What the blocks' readings and movings answer, case by case.
use Rattle.std.proofs.Common.{◌≡◌, ℕ, List, refl, sym, subst}
use Rattle.std.specs.Prelude.{Result, Ok, Err}
use Rattle.x86_values.specs.declared.Bits.{Bits}
use Rattle.branch_sizes.specs.declared.plan.BlockSpan.{BlockSpan}
use Rattle.branch_sizes.specs.Layout.{block_number}
use Rattle.move_goals.specs.declared.items.Placed.{Placed}
use Rattle.block_encoder.specs.declared.error.MoveError.TheVariants as error
use Rattle.block_encoder.specs.Moved.{IsRefused}
use Rattle.c_calls.specs.declared.flat.FlatBlock.{FlatBlock}
use Rattle.c_calls.specs.declared.moved_blocks.CodeBlocks.{CodeBlocks}
use Rattle.c_calls.specs.declared.moved_blocks.BlocksRefusal.{BlocksRefusal}
use Rattle.c_calls.specs.declared.moved_blocks.BlocksRefusal.TheVariants.{Mode, TooLarge, Outside, OldEnd, BadCode, Memory, TooMany, Wraps, TooFar, Room}
use Rattle.c_calls.specs.Blocks.{AreFew, AreBlocksRead, IsBlockUnread, IsBlocksAnswerOf, IsBlocksAnswerIn, IsTooFarIn, number_in_block}

-- blocks that are read are moved or refused
pub answer_of_read : (bits : Bits) (bytes : List ℕ) (blocks : List FlatBlock) (spans : List BlockSpan) (items : List Placed) (answer : Result CodeBlocks BlocksRefusal) →
    AreFew blocks → AreBlocksRead bits bytes blocks spans items → IsBlocksAnswerOf bits spans items answer → IsBlocksAnswerIn bits bytes blocks answer
answer_of_read bits bytes blocks spans items (Ok m) few read is = record { few = few; spans = spans; items = items; read = read; is = is }
answer_of_read bits bytes blocks spans items (Err (TooMany count)) few read is = record { few = few; spans = spans; items = items; read = read; is = is }
answer_of_read bits bytes blocks spans items (Err (Wraps end)) few read is = record { few = few; spans = spans; items = items; read = read; is = is }
answer_of_read bits bytes blocks spans items (Err (TooFar b at target)) few read is = record { few = few; spans = spans; items = items; read = read; is = is }
answer_of_read bits bytes blocks spans items (Err Memory) few read is = few
answer_of_read bits bytes blocks spans items (Err Mode) few read is = absurd is
answer_of_read bits bytes blocks spans items (Err TooLarge) few read is = absurd is
answer_of_read bits bytes blocks spans items (Err (Outside b)) few read is = absurd is
answer_of_read bits bytes blocks spans items (Err (OldEnd b end)) few read is = absurd is
answer_of_read bits bytes blocks spans items (Err (BadCode b at e)) few read is = absurd is
answer_of_read bits bytes blocks spans items (Err Room) few read is = absurd is

-- a block that is not read is why nothing is moved
pub answer_of_unread : (bits : Bits) (bytes : List ℕ) (blocks : List FlatBlock) (why : BlocksRefusal) → AreFew blocks → IsBlockUnread bits bytes blocks why →
    IsBlocksAnswerIn bits bytes blocks (Err why)
answer_of_unread bits bytes blocks (Outside b) few h = (few, h)
answer_of_unread bits bytes blocks (OldEnd b end) few h = (few, h)
answer_of_unread bits bytes blocks (BadCode b at e) few h = (few, h)
answer_of_unread bits bytes blocks Memory few h = few
answer_of_unread bits bytes blocks Mode few h = absurd h.is
answer_of_unread bits bytes blocks TooLarge few h = absurd h.is
answer_of_unread bits bytes blocks (TooMany count) few h = absurd h.is
answer_of_unread bits bytes blocks (Wraps end) few h = absurd h.is
answer_of_unread bits bytes blocks (TooFar b at target) few h = absurd h.is
answer_of_unread bits bytes blocks Room few h = absurd h.is

-- an instruction that does not reach its target, by its block and its number there
pub too_far_in : (bits : Bits) (spans : List BlockSpan) (items : List Placed) (k target : ℕ) (why : BlocksRefusal) → IsRefused bits items spans (error.TooFar k target) →
    why ≡ TooFar (block_number spans k) (number_in_block spans k) target → IsBlocksAnswerOf bits spans items (Err why)
too_far_in bits spans items k target why far e =
    let P : BlocksRefusal → Type 0 = λ r. IsBlocksAnswerOf bits spans items (Err r) in
    let there : IsTooFarIn bits spans items (block_number spans k) (number_in_block spans k) target = record { k = k; far = far; block_is = refl; at_is = refl } in
    subst P (sym e) there
