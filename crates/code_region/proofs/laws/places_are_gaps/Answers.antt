use Rattle.std.proofs.Common.{sym, ◌∙◌}
use Rattle.code_region.proofs.Sound.{answer-finds, place-free, place-inside}
use Rattle.code_region.proofs.Units.{place-in_units, rounded-units}
use Rattle.code_region.proofs.laws.places_are_gaps.Goals as goal

pub returns : goal.returns
returns c = record {
  gap-none = λ state len place none e.
      let found = answer-finds state len place e in
      let some = found.1.first in
      let both = sym none ∙ some in cc;
  place-free = place-free;
  place-inside = place-inside;
  place-units = place-in_units;
  rounded-units = rounded-units;
}
