use Rattle.detour.specs.HookSlots.State.{no_hooks}
use Rattle.detour.proofs.HookSlots.Kept as kept
use Rattle.detour.proofs.hook_slots.laws.runs_keep_hooks.Goals as goal

pub returns : goal.returns
returns c =
    let laws = c.laws_below.ensures in
    record {
      run-apart = λ bits base size slot none commands replies state run.
          kept.kept-apart laws state state.region.max_blocks
          (kept.run-kept laws commands replies (no_hooks bits base size slot) state (kept.made-kept laws bits base size slot none) run);
      run-patches = λ bits base size slot none commands replies state run.
          (kept.run-kept laws commands replies (no_hooks bits base size slot) state (kept.made-kept laws bits base size slot none) run).patches;
      run-layers = λ bits base size slot none commands replies state run.
          (kept.run-kept laws commands replies (no_hooks bits base size slot) state (kept.made-kept laws bits base size slot none) run).layers;
      run-detours = λ bits base size slot none commands replies state run.
          kept.kept-detours laws state state.region.max_blocks
          (kept.run-kept laws commands replies (no_hooks bits base size slot) state (kept.made-kept laws bits base size slot none) run);
      run-holds = λ bits base size slot none commands replies state run.
          kept.kept-holds laws state state.region.max_blocks
          (kept.run-kept laws commands replies (no_hooks bits base size slot) state (kept.made-kept laws bits base size slot none) run);
    }
