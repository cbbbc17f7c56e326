use Rattle.moving_run.proofs.Unique as inputs
use Rattle.moving_run.proofs.laws.inputs_are_read_in_one_way.Goals as goal

pub returns : goal.returns
returns c = record {
  swept_unique = inputs.swept_unique c.sweeps_agree.ensures;
  whole_stops = inputs.whole_stops c.sweeps_agree.ensures;
  stops_unique = inputs.stops_unique c.sweeps_agree.ensures;
  swept_not_bad = λ bits words bytes start at error bad items swept. inputs.swept_not_bad c.sweeps_agree.ensures bad items swept;
}
