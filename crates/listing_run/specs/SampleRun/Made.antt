-- What made code is: instructions alone, each aimed at nothing, at a near target, or at a low address by RIP.
use Rattle.std.specs.Prelude.{◌≡◌, ℕ, ◌*◌, ◌^◌, ◌<◌, ◌≤◌, List, All, length, Some, None}
use Rattle.x86_values.specs.declared.Instr.{Instr}
use Rattle.x86_values.specs.declared.Bits.TheVariants.{B64}
use Rattle.x86_values.specs.declared.Decoded.{Decoded}
use Rattle.row_relation.specs.Spells.{Read}
use Rattle.opcode_rows.specs.Sweep.{Item, IsSweep}
use Rattle.operand_info.specs.Operands.{near_value, first_value}
use Rattle.branch_sizes.specs.declared.plan.Reach.TheVariants.{Always, Signed32}
use Rattle.move_goals.specs.MovedTargets.Targets.{target_of, target_reach}
use Rattle.listing_run.specs.SampleRun.Generator.{sample_base, sample_code}

-- what an instruction is aimed at: nothing, a near target, or an address below 2 to the power of 24 by RIP
pub data IsAimedLow : Instr → Type 0 where
  nowhere : {i : Instr} → first_value near_value i ≡ None → target_of i ≡ None → target_reach i ≡ Always → IsAimedLow i
  near : {i : Instr} (t : ℕ) → first_value near_value i ≡ Some t → IsAimedLow i
  by_rip : {i : Instr} (t : ℕ) → t < 2 ^ 24 → first_value near_value i ≡ None → target_of i ≡ Some t → target_reach i ≡ Signed32 → IsAimedLow i

-- an item that is such an instruction
pub record IsMade (item : Item) : Type 0 where
  pub decoded : Decoded
  pub reads : item.reading ≡ Read decoded
  pub aim : IsAimedLow decoded.instr

-- the sweep of the code of n instructions has so many items, each such an instruction, in at most 7 bytes each
pub record HasInstructions (n : ℕ) : Type 0 where
  pub items : List Item
  pub sweep : IsSweep B64 sample_base (sample_code n) items
  pub count : length items ≡ n
  pub made : All IsMade items
  pub short : length (sample_code n) ≤ 7 * n
