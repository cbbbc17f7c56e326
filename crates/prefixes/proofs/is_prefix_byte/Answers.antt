use Rattle.std.proofs.Common.{arith}
use Rattle.instruction_parts.specs.Counting.{is_legacy_prefix, is_prefix, is_segment}
use Rattle.prefixes.proofs.is_prefix_byte.Goals as goal

-- no prefix stands in this range
pub returns-then-b-lt240 : goal.returns-then-b-lt240
unfolding is_prefix is_legacy_prefix is_segment
returns-then-b-lt240 c = grind (arith, c.if-b-ge104.true, c.if-b-lt240.true)
