-- The bytes of moved items without a target, which stay as they are wherever these are moved to.
use Rattle.std.specs.Prelude.{ℕ, ◌<◌, List, [], length, slice_index_or}
use Rattle.arrayvec.specs.ArrayVec.{ArrayVec}
use Rattle.x86_values.specs.declared.Bits.{Bits}
use Rattle.x86_values.specs.declared.Instr.{Instr}
use Rattle.move_goals.specs.MovedTargets.Independent.{IsIndependent}
use Rattle.move_goals.specs.declared.items.Placed.{Placed}
use Rattle.move_goals.specs.Items.{item_at}

-- some bytes are those of an instruction without a target, or none
abbrev pub MayBeReady : Bits → Instr → List ℕ → Type 0
MayBeReady bits i bytes = 0 < length bytes → IsIndependent bits i bytes

-- the bytes that are ready of item k, none where there are none
abbrev pub ready_at : List (ArrayVec ℕ) → ℕ → List ℕ
ready_at ready k = (slice_index_or ready k (record { items = [] })).items

-- of each item some bytes are ready that do not depend on its place, or none
abbrev pub AreReady : Bits → List Placed → List (ArrayVec ℕ) → Type 0
AreReady bits items ready = (k : ℕ) → MayBeReady bits (item_at items k).instr (ready_at ready k)
