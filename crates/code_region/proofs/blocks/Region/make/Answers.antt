use Rattle.std.proofs.Common.{sym, ◌∙◌, arith}
use Rattle.code_region.proofs.Opened.{kept-opened}
use Rattle.code_region.proofs.blocks.Region.make.Goals as goal

pub invariant_of-result : goal.invariant_of-result
invariant_of-result c = (
  kept-opened _ c.args.size _ _ _ _ (sym c.open_refusal.ensures ∙ c.in_default.is)
      (c.in-Ok.ensures.items_if_clones_equal (λ y e. e))
      c.in-Ok-with_capacity.ensures.items
      c.in-Ok-with_capacity.ensures.capacity,
  record { within = omega arith; joined = tt },
)
