use Rattle.step_slots.proofs.Kept as kept
use Rattle.step_slots.proofs.Slotted as slotted
use Rattle.step_slots.proofs.laws.slots_stay_apart.Goals as goal

pub returns : goal.returns
returns c = record {
  kept-made = kept.kept-made c.laws_below.ensures;
  stepped-made = slotted.stepped-made c.laws_below.ensures;
  kept-units = kept.kept-units c.laws_below.ensures;
  kept-seen = kept.kept-seen c.laws_below.ensures;
}
