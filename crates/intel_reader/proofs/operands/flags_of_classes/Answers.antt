use Rattle.std.proofs.Common.{arith, []}
use Rattle.intel_reader.specs.Operands.{one_class, asked_flags}
use Rattle.intel_reader.proofs.Flags.{class_number, mode_number}
use Rattle.intel_reader.proofs.operands.flags_of_classes.Goals as goal

pub returns : goal.returns
unfolding asked_flags
returns c =
    let third = class_number c.args.c (one_class c.args.d []) in
    let second = class_number c.args.b (one_class c.args.c (one_class c.args.d [])) in
    let first = class_number c.args.a (one_class c.args.b (one_class c.args.c (one_class c.args.d []))) in
    let mode = mode_number c.args.bits (one_class c.args.a (one_class c.args.b (one_class c.args.c (one_class c.args.d [])))) in
    omega (arith, third, second, first, mode, c.flag_of_class-fourth.ensures.value)
