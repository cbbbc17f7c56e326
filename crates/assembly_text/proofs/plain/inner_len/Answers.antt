use Rattle.std.proofs.Common.{get_or, arith}
use Rattle.assembly_text.proofs.PlainLines.{plain_inner, inner_more}
use Rattle.assembly_text.proofs.plain.inner_len.Goals as goal

pub colons-init : goal.colons-init
colons-init c = record {
  within = c.requires.within;
  inner = λ k lt. plain_inner (get_or c.args.text.now k 0) (c.requires.plain k lt);
}

pub colons-preserved : goal.colons-preserved
colons-preserved c = record {
  within = omega (arith, c.split_at.ensures.back_len, c.plain_len.ensures.within);
  inner = inner_more c.args.text.now c.split_at.result.1.now c.colons.at c.plain_len.result c.if-text-at-eq58.true c.split_at.ensures.back
      c.colons.invariant.inner c.plain_len.ensures.plain;
}
