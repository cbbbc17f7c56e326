use Rattle.std.proofs.Common.{subst, sym}
use Rattle.x86_values.specs.Wrapping.{modulo_width}
use Rattle.move_goals.specs.declared.items.Placed.{Placed}
use Rattle.move_goals.specs.Items.{IsPlaced}
use Rattle.block_encoder.proofs.pushed_calls.items.encoded_item.Goals as goal

pub returns-in-Ok-clause-placed : goal.returns-in-Ok-clause-placed
returns-in-Ok-clause-placed c =
    let laws = c.laws_below.ensures in
    let ip = modulo_width c.args.bits c.args.ip in
    let bytes = c.in-Ok._bytes.items in
    let spelled = laws.encodings.plain-spells c.args.bits ip bytes c.args.instr c.in-Ok.ensures.plain in
    let size = laws.targets.spelled-length c.args.bits ip bytes c.args.instr spelled in
    subst (λ (p : Placed). IsPlaced c.args.bits p) (sym c.item_of.ensures) (record { some = size.0; few = size.1; bytes = bytes; spelled = spelled })
