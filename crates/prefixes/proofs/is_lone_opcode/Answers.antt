use Rattle.std.proofs.Math.Facts.{Fits-lt-pow}
use Rattle.prefixes.proofs.Lone.{lone_bit, lone_bit_is}
use Rattle.prefixes.proofs.is_lone_opcode.Goals as goal

pub returns : goal.returns
unfolding lone_bit
returns c = rw c.lone_opcodes.ensures (lone_bit_is c.args.bits c.args.b (Fits-lt-pow c.ranges.b))
