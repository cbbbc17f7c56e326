use Rattle.detour.proofs.Bounded.{trampoline_short}
use Rattle.detour.proofs.lengths.trampolines_are_short.Goals as goal

pub returns : goal.returns
returns c = λ bits ip code to place rule d made. trampoline_short c.length_laws.ensures bits ip code to place rule d made
