-- What a region is to its user: a range of addresses, and the live blocks in it.
use Rattle.std.specs.Prelude.{ℕ, ◌+◌, ◌-◌, ◌*◌, ◌/◌, ◌^◌, ◌==◌, nat_le, if◌then◌else◌, List, [], ◌∷◌, ◌++◌, map, replicate, Option, find}
use Rattle.code_region.specs.declared.gaps.Span.{Span}
use Rattle.code_region.specs.Gaps.{gaps_between}

-- a block: the address where it starts, its length (rounded), and its bytes
pub record LiveBlock : Type 0 where
  pub place : ℕ
  pub len : ℕ
  pub content : List ℕ

-- a region: its first address, its size in bytes, how many blocks it has room for, and the live blocks by address
pub record RegionState : Type 0 where
  pub base : ℕ
  pub size : ℕ
  pub max_blocks : ℕ
  pub live : List LiveBlock

-- the byte INT3, which stands wherever no content does
abbrev pub int3 : ℕ
int3 = 0xCC

-- a length rounded up to a multiple of 16; one above 2 ^ 64 - 16 counts as 2 ^ 64 - 16
unfoldable pub len_in_units : ℕ → ℕ
len_in_units len = if nat_le len (2 ^ 64 - 16) then (len + 15) / 16 * 16 else (2 ^ 64 - 16)

-- the addresses that a block takes
abbrev pub span_of : LiveBlock → Span
span_of block = record { start = block.place; len = block.len }

-- a block's address and length as a pair
abbrev pub place_and_len : LiveBlock → ℕ × ℕ
place_and_len block = (block.place, block.len)

-- a block's length
abbrev pub len_of : LiveBlock → ℕ
len_of block = block.len

-- the gaps that the live blocks leave, by address
unfoldable pub gaps_of : RegionState → List Span
gaps_of state = gaps_between state.base (state.base + state.size) (map span_of state.live)

-- the live block that starts at the address, if there is one
unfoldable pub live_block : RegionState → ℕ → Option LiveBlock
live_block state place = find (λ block. block.place == place) state.live

-- the bytes from one address to another: the contents of these blocks, and INT3 elsewhere
abbrev pub image_between : ℕ → ℕ → List LiveBlock → List ℕ
image_between from limit [] = replicate (limit - from) int3
image_between from limit (block ∷ blocks) =
    replicate (block.place - from) int3 ++ (block.content ++ image_between (block.place + block.len) limit blocks)

-- all bytes of the region
unfoldable pub region_image : RegionState → List ℕ
region_image state = image_between state.base (state.base + state.size) state.live
