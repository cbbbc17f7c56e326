use Rattle.std.proofs.Common.{refl}
use Rattle.opcode_rows.specs.Table.{legacy_spans, vex_spans}
use Rattle.opcode_rows.proofs.kind_spans.Goals as goal

pub returns-in-Legacy : goal.returns-in-Legacy
unfolding legacy_spans
returns-in-Legacy c = rw c.in-Legacy.is refl

pub returns-in-Vex : goal.returns-in-Vex
unfolding vex_spans
returns-in-Vex c = rw c.in-Vex.is refl
