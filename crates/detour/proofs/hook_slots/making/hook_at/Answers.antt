use Rattle.std.proofs.Common.{◌≡◌, ◌≤◌, ◌∙◌, ℕ, List, Some, ap, arith, length, subst, sym}
use Rattle.detour.specs.HookSlots.Patches.{patch_refusal}
use Rattle.detour.proofs.HookSlots.Patches.{refused-patch}
use Rattle.detour.proofs.hook_slots.making.hook_at.Goals as goal

pub returns-in-Some : goal.returns-in-Some
returns-in-Some c =
    let a = c.args in
    let d = c.in-Ok.detour in
    let long = ap length c.trampoline.ensures in
    let short : length d.trampoline ≤ a.rule.range.slot = omega (arith, long, c.if-len-rule.false) in
    refused-patch a.rule a.live.now a.ip a.code.now a.to a.start a.place c.in-Some.why (
      d,
      (
        c.in-Ok.ensures,
        (
          short,
          subst (λ (xs : List ℕ). patch_refusal a.rule a.live.now a.ip (length xs) ≡ Some c.in-Some.why) c.patch.ensures
              (sym c.patch_refusal.ensures ∙ c.in-Some.is),
        ),
      ),
    )
