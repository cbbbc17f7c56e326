-- Code that ends inside the address space of its mode ends inside that of 64-bit mode.
use Rattle.std.proofs.Common.{◌≡◌, ℕ, ◌+◌, ◌^◌, ◌<◌, ◌≤◌, false, List, length, nat_eq, inl, inr, arith}
use Rattle.std.proofs.lemmas.Bool.{cases_Bool, eqb-true, ltb-false}
use Rattle.x86_values.specs.declared.Bits.{Bits}
use Rattle.x86_values.specs.declared.Bits.TheVariants.{B16, B32, B64}
use Rattle.x86_values.specs.Wrapping.{width}
use Rattle.move_goals.specs.Items.{passes}
use Rattle.c_calls.specs.Moving.{moved_end}

width-most : (bits : Bits) → 2 ^ width bits ≤ 2 ^ 64
width-most B16 = omega arith
width-most B32 = omega arith
width-most B64 = omega arith

-- code whose end does not pass the address space ends inside it
pub ends-inside : (bits : Bits) (old : ℕ) (bytes : List ℕ) (new : ℕ) → old < 2 ^ 64 → passes bits (moved_end old bytes new) ≡ false → old + length bytes ≤ 2 ^ 64
ends-inside bits old bytes new low inside =
    elim (cases_Bool (nat_eq (length bytes) 0)) [
      | inl none ↦ omega (arith, eqb-true (length bytes) 0 none, low)
      | inr some ↦ (
          let within : passes bits (old + length bytes) ≡ false = rw some at inside in
          omega (arith, ltb-false (2 ^ width bits) (old + length bytes) within, width-most bits))
    ]
