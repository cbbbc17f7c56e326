use Rattle.std.proofs.Common.{true, false}
use Rattle.detour.proofs.HookSlots.Kept as kept
use Rattle.detour.proofs.HookSlots.Layers.{covered-is, free-is}
use Rattle.detour.proofs.HookSlots.Undone.{stacked-undone}
use Rattle.detour.proofs.hook_slots.laws.hooks_stay_apart.Goals as goal

pub returns : goal.returns
returns c =
    let laws = c.laws_below.ensures in
    record {
      kept-made = kept.made-kept laws;
      kept-installed = λ old ip code to start answer new here. kept.installed-kept laws old here false ip code to start answer new;
      kept-installed_over = λ old ip code to start answer new here. kept.installed-kept laws old here true ip code to start answer new;
      kept-removed = λ old place here. kept.removed-kept laws old here place;
      apart = λ state here. kept.kept-apart laws state state.region.max_blocks here;
      patches = λ state here. here.patches;
      layers = λ state here. here.layers;
      flat = λ state here. kept.kept-flat laws state state.region.max_blocks here;
      covered = λ state place by here e.
          covered-is state.hooks 0 (kept.kept-ascend laws state.bits state.slot state.region state.hooks state.region.max_blocks here) place by e;
      free = λ state place hook stands e. free-is state.hooks place hook stands e;
      detours = λ state here. kept.kept-detours laws state state.region.max_blocks here;
      holds = λ state here. kept.kept-holds laws state state.region.max_blocks here;
      stacked = stacked-undone;
    }
