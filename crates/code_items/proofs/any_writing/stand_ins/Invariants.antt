use Rattle.std.proofs.Common.{◌≡◌, map, take}
use Rattle.code_items.specs.AnyWriting.{stand_in}
use Rattle.code_items.proofs.any_writing.stand_ins.Given as goal

abbrev pub invariant-loop-item : goal.invariant-loop-item
invariant-loop-item l = l.list.items ≡ map (stand_in l.filler) (take l.item-index l.items)
