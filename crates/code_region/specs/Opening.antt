-- How a region begins, and when it is refused.
use Rattle.std.specs.Prelude.{ℕ, ◌+◌, ◌%◌, ◌^◌, ◌==◌, nat_lt, not, ◌||◌, if◌then◌else◌, Bool, [], Option, Some, None}
use Rattle.code_region.specs.State.{RegionState}
use Rattle.code_region.specs.declared.refusals.OpenError.{OpenError}
use Rattle.code_region.specs.declared.refusals.OpenError.TheVariants.{BadSize, TooManyBlocks, Wraps}

-- a size is 16 to 1,048,576 bytes, in units of 16
abbrev pub is_bad_size : ℕ → Bool
is_bad_size size = size == 0 || not (size % 16 == 0) || nat_lt 1048576 size

-- a region has room for 1 to 65,536 blocks
abbrev pub is_bad_room : ℕ → Bool
is_bad_room max_blocks = max_blocks == 0 || nat_lt 65536 max_blocks

-- the first cause for which a region is refused, memory apart; it may end at 2 ^ 64, and not behind it
unfoldable pub open_refusal : ℕ → ℕ → ℕ → Option OpenError
open_refusal base size max_blocks =
    if is_bad_size size then Some (BadSize size)
    else (if is_bad_room max_blocks then Some (TooManyBlocks max_blocks)
    else (if nat_lt (2 ^ 64) (base + size) then Some (Wraps (base + size)) else None))

-- a region with no live block
abbrev pub empty_region : ℕ → ℕ → ℕ → RegionState
empty_region base size max_blocks = record { base = base; size = size; max_blocks = max_blocks; live = [] }
