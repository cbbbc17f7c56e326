-- The bytes that are ready beside the items of a routine, as it grows.
use Rattle.std.proofs.Common.{◌≡◌, ℕ, zero, suc, ◌+◌, ◌<◌, ◌≤◌, List, [], ◌∷◌, ◌++◌, length, replicate, Option, Some, None, refl, arith}
use Rattle.std.specs.Prelude.{Ok}
use Rattle.std.specs.List.{AllZip}
use Rattle.arrayvec.specs.ArrayVec.{ArrayVec}
use Rattle.x86_values.specs.declared.Bits.{Bits}
use Rattle.x86_values.specs.declared.Instr.{Instr}
use Rattle.encoder.specs.Encoding.{encoding}
use Rattle.move_goals.specs.MovedTargets.Independent.{bytes_without}
use Rattle.move_goals.specs.MovedTargets.Targets.{target_of}
use Rattle.move_goals.specs.declared.items.Placed.{Placed}
use Rattle.move_goals.specs.Items.{IsPlaced, item_at}
use Rattle.move_goals.specs.Ready.{MayBeReady, AreReady}
use Rattle.code_assembler.specs.StandIn.{stand_in}
use Rattle.code_assembler.specs.Routine.{RoutineState, HasReady, IsAssembler, with_byte}
use Rattle.code_assembler.specs.Built.{with_bytes}
use Rattle.code_assembler.proofs.AtLabels.{one_more, more_bytes, end_more}

-- ---- one instruction

-- no bytes are ready of any instruction
none_ready : (bits : Bits) (i : Instr) → MayBeReady bits i []
none_ready bits i some = absurd (omega (arith, some))

-- **the bytes of an encoding are ready where there is no target**
pub encoded_ready : (bits : Bits) (i : Instr) (target : Option ℕ) (bytes : List ℕ) → target_of i ≡ target → length bytes ≤ 15
    → (target ≡ None → (ip : ℕ) → encoding bits ip i ≡ Ok bytes) → MayBeReady bits i (bytes_without target (Ok bytes))
encoded_ready bits i None bytes is few all some = record { untargeted = is; few = few; encoded = all refl }
encoded_ready bits i (Some t) bytes is few all some = none_ready bits i some

-- ---- all items

-- **what is ready of each item is ready by its number**
pub are_ready : (bits : Bits) (items : List Placed) (ready : List (ArrayVec ℕ)) → AllZip (HasReady bits) items ready → AreReady bits items ready
are_ready bits [] [] all zero = none_ready bits (item_at [] zero).instr
are_ready bits [] [] all (suc k) = none_ready bits (item_at [] (suc k)).instr
are_ready bits [] (r ∷ rs) all k = absurd all
are_ready bits (i ∷ is) [] all k = absurd all
are_ready bits (i ∷ is) (r ∷ rs) all zero = all.0
are_ready bits (i ∷ is) (r ∷ rs) all (suc k) = are_ready bits is rs all.1 k

-- ready bytes of some items, and those of others behind them
zip_ready : (bits : Bits) (items others : List Placed) (ready more : List (ArrayVec ℕ)) → AllZip (HasReady bits) items ready
    → AllZip (HasReady bits) others more → AllZip (HasReady bits) (items ++ others) (ready ++ more)
zip_ready bits [] others [] more all rest = rest
zip_ready bits [] others (r ∷ rs) more all rest = absurd all
zip_ready bits (i ∷ is) others [] more all rest = absurd all
zip_ready bits (i ∷ is) others (r ∷ rs) more all rest = (all.0, zip_ready bits is others rs more all.1 rest)

-- the same item several times, with the same bytes
same_ready : (bits : Bits) (item : Placed) (ready : ArrayVec ℕ) → HasReady bits item ready → (n : ℕ)
    → AllZip (HasReady bits) (replicate n item) (replicate n ready)
same_ready bits item ready has zero = tt
same_ready bits item ready has (suc n) = (has, same_ready bits item ready has n)

-- ---- routines that grow

-- **one instruction more, with its bytes**
pub held_one : (s : RoutineState) (ready : List (ArrayVec ℕ)) (item : Placed) (aim : Option ℕ) (bytes : ArrayVec ℕ) → IsAssembler s ready
    → IsPlaced s.bits item → HasReady s.bits item bytes → length s.items < 65536
    → IsAssembler (record s { items = s.items ++ item ∷ []; aims = s.aims ++ aim ∷ []; filled = s.filled ++ None ∷ [] }) (ready ++ bytes ∷ [])
held_one s ready item aim bytes is placed has few = record {
  routine = one_more s item aim is.routine placed few;
  bytes = zip_ready s.bits s.items (item ∷ []) ready (bytes ∷ []) is.bytes (has, tt);
}

-- **bytes of data more, each with the bytes of what stands for it**
pub held_bytes : (s : RoutineState) (ready : List (ArrayVec ℕ)) (data_bytes : List ℕ) (bytes : ArrayVec ℕ) → IsAssembler s ready
    → IsPlaced s.bits (stand_in s.bits) → HasReady s.bits (stand_in s.bits) bytes → length s.items + length data_bytes ≤ 65536
    → IsAssembler (with_bytes s data_bytes) (ready ++ replicate (length data_bytes) bytes)
held_bytes s ready data_bytes bytes is placed has few = record {
  routine = more_bytes s data_bytes is.routine placed few;
  bytes = zip_ready s.bits s.items (replicate (length data_bytes) (stand_in s.bits)) ready (replicate (length data_bytes) bytes) is.bytes
      (same_ready s.bits (stand_in s.bits) bytes has (length data_bytes));
}

-- **a byte behind the routine, with the bytes of what stands for it**
pub held_end : (s : RoutineState) (ready : List (ArrayVec ℕ)) (bytes : ArrayVec ℕ) → IsAssembler s ready → IsPlaced s.bits (stand_in s.bits)
    → HasReady s.bits (stand_in s.bits) bytes → length s.items < 65536 → IsAssembler (with_byte s 0xCC) (ready ++ bytes ∷ [])
held_end s ready bytes is placed has few = record {
  routine = end_more s is.routine placed few;
  bytes = zip_ready s.bits s.items (stand_in s.bits ∷ []) ready (bytes ∷ []) is.bytes (has, tt);
}
