use Rattle.assembly_text.specs.Kept.{AreSpelled}
use Rattle.assembly_text.proofs.kept.no_spelled.Given as goal

abbrev pub invariant-spelled : goal.invariant-spelled
invariant-spelled l = AreSpelled l.fn.bits l.fn.base l.spelled.items
