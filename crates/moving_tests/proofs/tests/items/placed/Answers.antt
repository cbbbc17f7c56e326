use Rattle.std.proofs.Common.{arith}
use Rattle.x86_values.specs.declared.Bits.TheVariants.{B64}
use Rattle.x86_values.specs.Wrapping.{modulo_width}
use Rattle.moving_tests.proofs.tests.items.placed.Goals as goal

pub returns : goal.returns
returns c = record {
  some = omega arith;
  few = omega arith;
  bytes = c.in_ok-_bytes._bytes.items;
  spelled = c.encodings_are_plain.ensures.plain-spells B64 (modulo_width B64 c.args.ip) c.in_ok-_bytes._bytes.items c.args.instr c.in_ok-_bytes.ensures.plain;
}
