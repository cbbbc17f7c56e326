-- What a list of commands answers, and the region after it.
use Rattle.std.specs.Prelude.{ℕ, nat_le, if◌then◌else◌, Bool, true, false, List, [], ◌∷◌, replicate, Option, Some, None, Result, Ok, Err}
use Rattle.code_region.specs.declared.refusals.PlaceError.{PlaceError}
use Rattle.code_region.specs.declared.refusals.PlaceError.TheVariants.{Empty as EmptyError, TooManyBlocks as TooManyBlocksError, Full as FullError}
use Rattle.code_region.specs.declared.refusals.NotTaken.{NotTaken}
use Rattle.code_region.specs.declared.commands.Command.{Command}
use Rattle.code_region.specs.declared.commands.Command.TheVariants.{Place, Release, Fill}
use Rattle.code_region.specs.declared.commands.Reply.{Reply}
use Rattle.code_region.specs.declared.commands.Reply.TheVariants.{Placed, Empty, TooManyBlocks, Full, Released, NotTaken as NotTakenReply, Filled, NotLive, TooLong}
use Rattle.code_region.specs.State.{LiveBlock, RegionState, live_block}
use Rattle.code_region.specs.Placing.{place_answer, after_place}
use Rattle.code_region.specs.Releasing.{release_answer, after_release}
use Rattle.code_region.specs.Filling.{can_fill, after_fill}

-- the reply that says what a request for a place answered
abbrev pub place_reply : Result ℕ PlaceError → Reply
place_reply (Ok place) = Placed place
place_reply (Err EmptyError) = Empty
place_reply (Err (TooManyBlocksError max)) = TooManyBlocks max
place_reply (Err (FullError len largest)) = Full len largest

-- the reply that says what a release answered
abbrev pub release_reply : Result (Unit {0}) NotTaken → Reply
release_reply (Ok done) = Released
release_reply (Err refusal) = NotTakenReply refusal.place

-- a fill is refused where no live block starts at the address, and else where the bytes are more than the block has
abbrev pub fill_reply : Option LiveBlock → ℕ → ℕ → Reply
fill_reply None place count = NotLive place
fill_reply (Some block) place count = if nat_le count block.len then Filled else TooLong block.len

-- the reply to one command
unfoldable pub reply_of : RegionState → Command → Reply
reply_of state (Place len) = place_reply (place_answer state len)
reply_of state (Release place) = release_reply (release_answer state place)
reply_of state (Fill place byte count) = fill_reply (live_block state place) place count

-- a fill that can be made is made
abbrev pub filled_if : Bool → RegionState → ℕ → ℕ → ℕ → RegionState
filled_if true state place byte count = after_fill state place (replicate count byte)
filled_if false state place byte count = state

-- the region after one command
unfoldable pub after : RegionState → Command → RegionState
after state (Place len) = after_place state len
after state (Release place) = after_release state place
after state (Fill place byte count) = filled_if (can_fill state place count) state place byte count

-- the region after the commands, in order
abbrev pub run : RegionState → List Command → RegionState
run state [] = state
run state (command ∷ commands) = run (after state command) commands

-- the reply to each command, in order
abbrev pub replies_of : RegionState → List Command → List Reply
replies_of state [] = []
replies_of state (command ∷ commands) = reply_of state command ∷ replies_of (after state command) commands
