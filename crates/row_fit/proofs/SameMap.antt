-- The test for equal maps passes exactly on equal ones.
use Rattle.std.proofs.Common.{◌≡◌, true, refl}
use Rattle.instruction_parts.specs.declared.row_types.Map.{Map}
use Rattle.instruction_parts.specs.declared.row_types.Map.TheVariants.{One, M0f, M0f38, M0f3a}
use Rattle.row_fit.specs.Fits.{same_map}

-- maps that test as the same are equal
pub same_map-is : (a b : Map) → same_map a b ≡ true → a ≡ b
same_map-is One One h = refl
same_map-is M0f M0f h = refl
same_map-is M0f38 M0f38 h = refl
same_map-is M0f3a M0f3a h = refl
same_map-is _ _ h = cc

-- a map tests as the same as itself
pub same_map-refl : (map : Map) → same_map map map ≡ true
same_map-refl One = refl
same_map-refl M0f = refl
same_map-refl M0f38 = refl
same_map-refl M0f3a = refl
