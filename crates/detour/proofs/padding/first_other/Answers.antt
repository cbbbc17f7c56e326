use Rattle.std.proofs.Common.{◌≡◌, ℕ, ◌+◌, Some, arith, subst, sym}
use Rattle.detour.specs.Padding.{IsPaddingTo}
use Rattle.detour.specs.PaddingParts.{IsPaddingAt}
use Rattle.detour.proofs.Padded.{padding_more}
use Rattle.detour.proofs.padding.first_other.Goals as goal

pub offset-preserved : goal.offset-preserved
offset-preserved c =
    let a = c.args in
    let p = c.in-Some.item in
    let at = c.offset.offset in
    let there : IsPaddingAt a.bits a.base a.padding.now at (Some p) = c.in-Some.ensures in
    let len : c.from-offset.result ≡ p.len = c.from-offset.ensures in
    record {
      before = subst (λ (n : ℕ). IsPaddingTo a.bits a.base a.padding.now (at + n)) (sym len)
          (padding_more a.bits a.base a.padding.now at p c.offset.invariant.before there.0 there.1);
      within = omega (arith, len, there.0.within);
    }
