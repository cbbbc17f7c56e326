-- Fields without a ModRM byte are met by rows without one alone.
use Rattle.std.proofs.Common.{◌≡◌, ℕ, Bool, true, false, ◌&&◌, slice_get, refl}
use Rattle.std.specs.Prelude.{Option, Some, None, is_some, MatchOption, IfSome}
use Rattle.x86_values.specs.declared.Bits.{Bits}
use Rattle.x86_values.specs.declared.Code.{Code}
use Rattle.instruction_parts.specs.declared.row_types.Row.{Row}
use Rattle.instruction_parts.specs.declared.row_types.ModRmRule.{ModRmRule}
use Rattle.instruction_parts.specs.declared.row_types.ModRmRule.TheVariants as rule
use Rattle.instruction_parts.specs.Sizes.{exists_in}
use Rattle.instruction_parts.specs.declared.row_fields.Fields.{Fields}
use Rattle.instruction_parts.specs.RowFields.Holds.{holds, stands_in, map_number, byte_holds, HoldsNowhere, IsOnlyRow}
use Rattle.opcode_rows.specs.Table.{table}

asks-no-byte : (m : ModRmRule) → byte_holds m false ≡ true → m ≡ rule.No
asks-no-byte rule.No h = refl
asks-no-byte rule.Any h = cc
asks-no-byte (rule.Digit d) h = cc
asks-no-byte (rule.Fixed b) h = cc

third : (a b c d : Bool) → (a && (b && (c && d))) ≡ true → c ≡ true
third true true true d h = refl
third true true false d h = cc
third true false c d h = cc
third false b c d h = cc

no-byte : (bits : Bits) (r : Row) (f : Fields) → holds bits r f ≡ true → f.modrm ≡ None → r.modrm ≡ rule.No
unfolding holds
no-byte bits r f met none =
    let asked : byte_holds r.modrm (is_some f.modrm) ≡ true =
    third (stands_in r (map_number f.vex f.map) f.opcode) (exists_in bits r) (byte_holds r.modrm (is_some f.modrm)) _ met in
    asks-no-byte r.modrm (rw none at asked)

only_without : (bits : Bits) (f : Fields) (code : ℕ) → IsOnlyRow bits table f code → f.modrm ≡ None
    → (r : Row) → slice_get table code ≡ Some r → r.modrm ≡ rule.No
only_without bits f code only none r at =
    let same : only.row ≡ r = (let p = only.there in cc) in
    let rule_is : only.row.modrm ≡ rule.No = no-byte bits only.row f only.met none in
    rw same at rule_is

-- what is found for them has none
pub found_without : (bits : Bits) (f : Fields) (found : Option Code)
    → MatchOption found (HoldsNowhere bits table f) (λ code. IsOnlyRow bits table f code.0) → f.modrm ≡ None
    → IfSome found (λ code. (r : Row) → slice_get table code.0 ≡ Some r → r.modrm ≡ rule.No)
found_without bits f None h none = tt
found_without bits f (Some code) h none = only_without bits f code.0 h none
