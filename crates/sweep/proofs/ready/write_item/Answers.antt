use Rattle.std.proofs.Common.{ℕ, take, refl, sym, ap}
use Rattle.decoder.specs.Answer.{reading_of}
use Rattle.opcode_rows.specs.Sweep.{item_len}
use Rattle.sweep.specs.RunParts.Writing.{no_put}
use Rattle.sweep.proofs.Handling.{moves-line}
use Rattle.sweep.proofs.ready.write_item.Goals as goal

pub returns-in-Some-clause-ok : goal.returns-in-Some-clause-ok
returns-in-Some-clause-ok g c =
    let takes = c.read_onto.ensures.takes c.requires.some in
    record {
      item = record {
        offset = c.args.at;
        bytes = take (item_len (reading_of c.read_onto.new.out)) c.args.rest.now;
        reading = reading_of c.read_onto.new.out;
      };
      is_at = record {
        offset_is = refl;
        reads = c.read_onto.ensures.reading;
        within = takes.within;
        some = takes.some;
        bytes_are = refl;
      };
      stops = sym c.in-Some.ensures;
      held_is = refl;
      kept = refl;
    }

pub returns-clause-ok : goal.returns-clause-ok
returns-clause-ok g c =
    let takes = c.read_onto.ensures.takes c.requires.some in
    record {
      item = record {
        offset = c.args.at;
        bytes = take c.item_len-count.result c.args.rest.now;
        reading = reading_of c.read_onto.new.out;
      };
      is_at = record {
        offset_is = refl;
        reads = c.read_onto.ensures.reading;
        within = takes.within;
        some = takes.some;
        bytes_are = ap (λ (n : ℕ). take n c.args.rest.now) c.item_len-count.ensures;
      };
      goes_on = sym c.in_default.ensures;
      count_is = c.item_len-count.ensures;
      moves = moves-line _ _ _ c.make_room.new.pending.items _ _ c.in_ok-make_room.ensures.ok c.append_line.ensures.items;
    }

pub returns-in-Some-clause-puts : goal.returns-in-Some-clause-puts
returns-in-Some-clause-puts g c = no_put
