-- A row that uses no feature needs none.
use Rattle.std.proofs.Common.{◌≡◌, Bool, true, false, if◌then◌else◌, refl}
use Rattle.x86_values.specs.declared.Instr.{Instr}
use Rattle.opcode_rows.specs.Table.{table}
use Rattle.std.specs.Prelude.{ℕ, slice_get}
use Rattle.instruction_info.specs.Effects.{features_of, register_features_of, is_hint, names_memory, used_features, needed_features}

none-of : (hint memory : Bool) (used by_register : ℕ) → used ≡ 0 → by_register ≡ 0 → (if hint then 0 else (if memory then used else by_register)) ≡ 0
none-of true memory used by_register a b = refl
none-of false true used by_register a b = a
none-of false false used by_register a b = b

-- an instruction whose row uses no feature, in the form with memory and in that without, needs none
pub needs_none : (i : Instr) → features_of i.code.0 ≡ 0 → register_features_of i.code.0 ≡ 0 → needed_features i ≡ 0
unfolding needed_features used_features
needs_none i a b = none-of (is_hint (slice_get table i.code.0)) (names_memory i) (features_of i.code.0) (register_features_of i.code.0) a b
