use Rattle.std.proofs.Common.{take}
use Rattle.assembly_text.specs.declared.readings.Reading.TheVariants.{None as NoReading}
use Rattle.assembly_text.specs.Readings.{IsReading}
use Rattle.assembly_text.specs.Sizing.{BeginWithHead}
use Rattle.assembly_text.proofs.readings.read_sizes.Given as goal

abbrev pub invariant-sizes : goal.invariant-sizes
invariant-sizes l = record {
  read : IsReading l.bits l.ip l.low l.s (take l.k l.sizes) NoReading l.reading;
  head : BeginWithHead l.low l.out.items l.head_len;
}
