use Rattle.std.proofs.Common.{◌≡◌, drop, Some}
use Rattle.assembly_text.specs.Digits.{digits_behind}
use Rattle.assembly_text.proofs.digits.digits_value.Given as goal

abbrev pub invariant-digits : goal.invariant-digits
invariant-digits l = digits_behind l.radix (Some 0) l.digits ≡ digits_behind l.radix (Some l.value) (drop l.k l.digits)
