use Rattle.std.proofs.Common.{subst}
use Rattle.x86_values.specs.declared.Bits.{Bits}
use Rattle.assembly_text.specs.Known.{IsFor}
use Rattle.assembly_text.specs.Placing.{view_of}
use Rattle.assembly_text.specs.Text.{IsCode}
use Rattle.assembly_text.proofs.text.add_code.Goals as goal

pub keep-requires-clause-read : goal.keep-requires-clause-read
keep-requires-clause-read c = record {
  stands = record {
    is = c.in_ok-read.ensures.code;
    no_data = c.requires.no_data;
    no_align = c.requires.no_align;
  };
  prepared = c.in_ok-read.ensures.ready;
}

pub add_read-requires : goal.add_read-requires
add_read-requires c =
    let read = c.in_ok-read.read in
    record {
      read = subst (λ (b : Bits). IsCode b (view_of c.args.round.now).base c.args.body.now read.code) c.bits-bits.ensures c.in_ok-read.ensures.code;
      prepared = subst (λ (b : Bits). IsFor b read.code read.ready) c.bits-bits.ensures c.in_ok-read.ensures.ready;
    }
