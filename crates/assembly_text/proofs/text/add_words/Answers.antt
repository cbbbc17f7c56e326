use Rattle.std.proofs.Common.{subst}
use Rattle.x86_values.specs.declared.Bits.{Bits}
use Rattle.assembly_text.specs.Known.{IsFor}
use Rattle.assembly_text.specs.Placing.{view_of}
use Rattle.assembly_text.specs.Text.{IsCode}
use Rattle.assembly_text.proofs.Telling.{data_told, further_told, read_told}
use Rattle.assembly_text.proofs.text.add_words.Goals as goal

pub returns-then-width-gt0-clause-told : goal.returns-then-width-gt0-clause-told
returns-then-width-gt0-clause-told c =
    data_told (view_of c.args.round.now) c.args.body.now c.first_word.result.now _ _ _ _ c.add_data.result c.data_width-width.result
    c.behind_word.result.now c.first_word.ensures c.data_width-width.ensures.value c.behind_word.ensures c.if-width-gt0.true c.add_data.ensures

pub returns-else-width-gt0-clause-told : goal.returns-else-width-gt0-clause-told
returns-else-width-gt0-clause-told c =
    further_told (view_of c.args.round.now) c.args.body.now c.first_word.result.now _ _ _ _ c.add_further.result c.data_width-width.result
    c.first_word.ensures c.data_width-width.ensures.value c.if-width-gt0.false c.add_further.ensures.told

pub returns-in-Some-clause-told : goal.returns-in-Some-clause-told
returns-in-Some-clause-told c =
    read_told (view_of c.args.round.now) c.args.body.now c.args.body.now _ _ _ _ c.add_read.result c.in-Some.ensures.stands.no_data c.in-Some.ensures.stands.no_align c.add_read.ensures

pub add_read-requires : goal.add_read-requires
add_read-requires c =
    let read = c.in-Some.read.now in
    record {
      read = subst (λ (b : Bits). IsCode b c.args.round.now.base c.args.body.now read.code) c.bits-bits.ensures c.in-Some.ensures.stands.is;
      prepared = subst (λ (b : Bits). IsFor b read.code read.ready) c.bits-bits.ensures c.in-Some.ensures.prepared;
    }
