use Rattle.std.proofs.Common.{◌≡◌, ℕ, None, refl, ap, ◌∙◌}
use Rattle.x86_values.specs.declared.Bits.{Bits}
use Rattle.x86_values.specs.declared.Bits.TheVariants.{B16, B32, B64}
use Rattle.x86_values.specs.declared.Operand.TheVariants.{Imm}
use Rattle.move_goals.specs.BranchForms.Images.{bare}
use Rattle.block_encoder.specs.PushedCalls.Pushes.{push_of, pushed_value}
use Rattle.block_encoder.specs.PushedCalls.Rows.{push_code}
use Rattle.detour.specs.AnyTaken.{filler}
use Rattle.detour.proofs.any_taken.filler.Goals as goal

-- PUSH of 0
push-is : (bits : Bits) → bare (push_code bits) None (Imm 0) ≡ filler bits
unfolding filler push_of pushed_value
push-is B16 = refl
push-is B32 = refl
push-is B64 = refl

pub returns : goal.returns
returns c = ap (λ (n : ℕ). bare n None (Imm 0)) c.push_code.ensures ∙ push-is c.args.bits
