use Rattle.std.proofs.Common.{length, ap, arith, length-append}
use Rattle.text_parts.specs.declared.style.Style.TheVariants.{Intel}
use Rattle.text_parts.specs.Numbers.{number}
use Rattle.sweep.proofs.sweep_text.info.append_address_word.Goals as goal

pub append_number-requires : goal.append_number-requires
append_number-requires c =
    omega (arith, ap length c.append_few.ensures, length-append c.args.out.now.items c.args.sign.now, c.numbers_are_short.ensures Intel c.in-Some.address, c.requires.sign, c.requires.room)

pub returns-in-Some-clause-len : goal.returns-in-Some-clause-len
returns-in-Some-clause-len c =
    omega (
      arith,
      ap length c.append_few.ensures,
      length-append c.args.out.now.items c.args.sign.now,
      ap length c.append_number.ensures,
      length-append c.append_few.new.out.items (number Intel c.in-Some.address),
      c.numbers_are_short.ensures Intel c.in-Some.address,
      c.requires.sign,
    )
