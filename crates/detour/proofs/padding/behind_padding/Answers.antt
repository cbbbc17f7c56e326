use Rattle.std.proofs.Common.{◌≡◌, rules, subst, sym}
use Rattle.detour.specs.Detours.{DetourState}
use Rattle.detour.specs.Padding.{IsPaddedBy}
use Rattle.detour.specs.Rules.{IsAllowed}
use Rattle.detour.proofs.padding.behind_padding.Goals as goal

pub returns-then-overlaps : goal.returns-then-overlaps
returns-then-overlaps c =
    let a = c.args in
    let near = c.in-Ok.through.near.items in
    let made = c.in-Ok.through.made in
    let seen = c.in-Ok-ruled.seen in
    let same : seen.detour ≡ made = c.in-Ok-ruled.ensures.0 in (
      record { near = near; seen = seen },
      record {
        made = subst (λ (d : DetourState). IsPaddedBy a.bits a.ip a.code.now a.to a.place a.rules near d) (sym same) (search rules);
        allowed = subst (λ (d : DetourState). IsAllowed a.bits a.ip a.code.now a.place a.entries.now a.rules d seen.view) (sym same) c.in-Ok-ruled.ensures.1;
        stands = search rules;
      },
    )
