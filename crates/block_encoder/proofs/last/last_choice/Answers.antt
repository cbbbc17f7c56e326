use Rattle.std.proofs.Common.{arith, ap, length}
use Rattle.x86_values.specs.Wrapping.{modulo_width}
use Rattle.block_encoder.proofs.last.last_choice.Goals as goal

pub overflow_sub-result : goal.overflow_sub-result
overflow_sub-result c =
    let some = (c.laws_below.ensures.forms.spelled-fit c.args.bits (modulo_width c.args.bits c.args.item.now.ip) c.requires.bytes c.args.item.now.instr c.requires.spelled).0 in
    omega (arith, some, ap length c.choices_of-choices.ensures)

pub bounds-deref-len : goal.bounds-deref-len
bounds-deref-len c =
    let some = (c.laws_below.ensures.forms.spelled-fit c.args.bits (modulo_width c.args.bits c.args.item.now.ip) c.requires.bytes c.args.item.now.instr c.requires.spelled).0 in
    omega (arith, some, ap length c.choices_of-choices.ensures, ap length c.deref.ensures.0, c.len.ensures.value)
