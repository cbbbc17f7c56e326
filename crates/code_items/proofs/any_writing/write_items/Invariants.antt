use Rattle.std.proofs.Common.{◌≡◌, ◌-◌, ◌++◌, length}
use Rattle.std.specs.List.{flat_map, range_with_len}
use Rattle.branch_sizes.specs.MoveLayout.Laid.{fragment_at, slots_of}
use Rattle.block_encoder.specs.Bytes.{bytes_at, gap_bytes, slot_bytes}
use Rattle.block_encoder.specs.ByPlan.{IsMovedBy}
use Rattle.code_items.specs.AnyItems.{any_at}
use Rattle.code_items.specs.AnyMoved.{any_bytes}
use Rattle.code_items.proofs.any_writing.write_items.Given as goal

abbrev pub invariant-items : goal.invariant-items
invariant-items l = record {
  out : (h : IsMovedBy l.bits l.stand_ins l.plan l.moved) → l.out.items ≡ flat_map (λ k. any_bytes l.bits (any_at l.items k) (fragment_at l.plan h.layout k)) (range_with_len 0 l.k);
  rest : (h : IsMovedBy l.bits l.stand_ins l.plan l.moved) → l.rest ≡ flat_map (bytes_at l.bits l.stand_ins l.plan h.layout) (range_with_len l.k (length l.items - l.k))
      ++ (gap_bytes l.plan h.layout 0 ++ slot_bytes (slots_of l.plan h.layout 0));
}
