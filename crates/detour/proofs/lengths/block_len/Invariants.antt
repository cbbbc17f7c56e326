use Rattle.std.proofs.Common.{◌≡◌, ◌*◌, ◌≤◌, take}
use Rattle.detour.specs.Lengths.{images_length, slots_count}
use Rattle.detour.proofs.lengths.block_len.Given as goal

abbrev pub invariant-items : goal.invariant-items
invariant-items l = record {
  images_is : l.images ≡ images_length l.bits (take l.k l.items);
  slots_is : l.slots ≡ slots_count l.bits (take l.k l.items);
  images_small : l.images ≤ 255 * l.k;
  slots_small : l.slots ≤ l.k;
}
