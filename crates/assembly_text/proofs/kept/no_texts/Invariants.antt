use Rattle.assembly_text.specs.Kept.{AreKept}
use Rattle.assembly_text.proofs.kept.no_texts.Given as goal

abbrev pub invariant-texts : goal.invariant-texts
invariant-texts l = AreKept l.fn.bits l.texts.items
