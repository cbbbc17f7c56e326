-- How long numbers and names are at most.
use Rattle.std.proofs.Common.{ℕ, ◌≤◌, length, arith}
use Rattle.text_parts.specs.declared.style.Style.TheVariants.{Intel}
use Rattle.text_parts.specs.Numbers.{number, hexadecimal}
use Rattle.text_parts.proofs.Bounds.{number-le}
use Rattle.att_text.proofs.Bounds.{att_name-le}

-- a number in hexadecimal has at most 16 digits
pub hexadecimal-le : (n : ℕ) → length (hexadecimal n) ≤ 16
unfolding number
hexadecimal-le n = omega (arith, number-le Intel n)

pub ruleset number_short = (number-le, hexadecimal-le)

pub ruleset att_name_short = (att_name-le)
