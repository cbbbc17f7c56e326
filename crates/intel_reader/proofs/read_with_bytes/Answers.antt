use Rattle.std.proofs.Common.{◌≡◌, length, rules, sym}
use Rattle.row_relation.proofs.AddressCases.{impossible}
use Rattle.intel_reader.specs.Choice.{assembly_of}
use Rattle.intel_reader.proofs.Encoded.{plain_encoded}
use Rattle.intel_reader.proofs.read_with_bytes.Goals as goal

pub returns-in-Some-clause-encoded : goal.returns-in-Some-clause-encoded
returns-in-Some-clause-encoded c =
    let four : length c.in-Some.found.instr.ops ≡ 4 = search rules in
    plain_encoded c.encodings_are_plain.ensures c.ten_conditions_are_exact.ensures c.plain_spelling_is_one.ensures c.args.bits c.args.ip
    c.in-Some.found.bytes.items c.in-Some.found.instr four c.in-Some.ensures.first.candidate.spelled

pub returns-in-Some-clause-none : goal.returns-in-Some-clause-none
returns-in-Some-clause-none c = (
  λ e a k. impossible (sym e),
  λ no. absurd (no (assembly_of c.in-Some.found) c.in-Some.ensures.first.candidate),
)
