-- What a fill by command answers and leaves, by the length of the block that was found.
use Rattle.std.proofs.Common.{◌≡◌, ℕ, ◌≤◌, ◌<◌, replicate, refl, Option, Some, None, Ok, Err, option_map, IsTrue}
use Rattle.std.proofs.lemmas.Bool.{le-leb, lt-leb}
use Rattle.code_region.specs.declared.commands.Command.TheVariants.{Fill}
use Rattle.code_region.specs.declared.commands.Reply.TheVariants.{Filled, NotLive, TooLong}
use Rattle.code_region.specs.declared.refusals.FillError.TheVariants.{NotLive as NotLiveError, TooLong as TooLongError}
use Rattle.code_region.specs.State.{LiveBlock, RegionState, len_of, live_block}
use Rattle.code_region.specs.Filling.{can_fill, fill_answer, after_fill}
use Rattle.code_region.specs.Running.{reply_of, after}

some_len : (found : Option LiveBlock) (limit : ℕ) → option_map len_of found ≡ Some limit → (block : LiveBlock) × (found ≡ Some block) × (block.len ≡ limit)
some_len None limit e = absurd (let no : ⊥ = cc in no)
some_len (Some block) limit e = (block, refl, cc)

none_found : (found : Option LiveBlock) → option_map len_of found ≡ None → found ≡ None
none_found None e = refl
none_found (Some block) e = cc

-- a fill of no live block is refused as such
pub reply-not_live : (state : RegionState) (place byte count : ℕ) → option_map len_of (live_block state place) ≡ None →
    NotLive place ≡ reply_of state (Fill place byte count)
unfolding reply_of
reply-not_live state place byte count e = rw (none_found (live_block state place) e) refl

-- and leaves the region as it was
pub after-not_live : (state : RegionState) (place byte count : ℕ) → option_map len_of (live_block state place) ≡ None →
    state ≡ after state (Fill place byte count)
unfolding after can_fill
after-not_live state place byte count e = rw (none_found (live_block state place) e) refl

-- a fill of more bytes than the block has is refused with its length
pub reply-too_long : (state : RegionState) (place byte count limit : ℕ) → option_map len_of (live_block state place) ≡ Some limit → limit < count →
    TooLong limit ≡ reply_of state (Fill place byte count)
unfolding reply_of
reply-too_long state place byte count limit e long =
    let block = some_len (live_block state place) limit e in
    rw (block.1, block.2, lt-leb count limit long) refl

-- and leaves the region as it was
pub after-too_long : (state : RegionState) (place byte count limit : ℕ) → option_map len_of (live_block state place) ≡ Some limit → limit < count →
    state ≡ after state (Fill place byte count)
unfolding after can_fill
after-too_long state place byte count limit e long =
    let block = some_len (live_block state place) limit e in
    rw (block.1, block.2, lt-leb count limit long) refl

-- bytes that the block has room for can be filled in
pub fill-fits : (state : RegionState) (place count limit : ℕ) → option_map len_of (live_block state place) ≡ Some limit → count ≤ limit →
    IsTrue (can_fill state place count)
unfolding can_fill
fill-fits state place count limit e fits =
    let block = some_len (live_block state place) limit e in
    rw (block.1, block.2, le-leb count limit fits) refl

-- such a fill succeeds
pub reply-filled : (state : RegionState) (place byte count limit : ℕ) → option_map len_of (live_block state place) ≡ Some limit → count ≤ limit →
    Filled ≡ reply_of state (Fill place byte count)
unfolding reply_of
reply-filled state place byte count limit e fits =
    let block = some_len (live_block state place) limit e in
    rw (block.1, block.2, le-leb count limit fits) refl

-- and leaves the region with the bytes in the block
pub after-filled : (state : RegionState) (place byte count limit : ℕ) → option_map len_of (live_block state place) ≡ Some limit → count ≤ limit →
    after_fill state place (replicate count byte) ≡ after state (Fill place byte count)
unfolding after can_fill
after-filled state place byte count limit e fits =
    let block = some_len (live_block state place) limit e in
    rw (block.1, block.2, le-leb count limit fits) refl

-- ---- a fill with bytes

-- the answer to a fill of no live block
pub answer-not_live : (state : RegionState) (place count : ℕ) → option_map len_of (live_block state place) ≡ None →
    Err (NotLiveError place) ≡ fill_answer (live_block state place) place count
answer-not_live state place count e = rw (none_found (live_block state place) e) refl

-- the answer to a fill of more bytes than the block has
pub answer-too_long : (state : RegionState) (place count limit : ℕ) → option_map len_of (live_block state place) ≡ Some limit → limit < count →
    Err (TooLongError limit) ≡ fill_answer (live_block state place) place count
answer-too_long state place count limit e long =
    let block = some_len (live_block state place) limit e in
    rw (block.1, block.2, lt-leb count limit long) refl

-- the answer to a fill that fits
pub answer-filled : (state : RegionState) (place count limit : ℕ) → option_map len_of (live_block state place) ≡ Some limit → count ≤ limit →
    Ok tt ≡ fill_answer (live_block state place) place count
answer-filled state place count limit e fits =
    let block = some_len (live_block state place) limit e in
    rw (block.1, block.2, le-leb count limit fits) refl
