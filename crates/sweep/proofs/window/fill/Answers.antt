use Rattle.std.proofs.Common.{◌+◌, ◌-◌, take, arith}
use Rattle.std.proofs.lemmas.List.{length-take-le}
use Rattle.std.proofs.lemmas.Result.{err_from_is_err_and}
use Rattle.sweep.specs.Calls.{window_len}
use Rattle.sweep.proofs.Windows.{piece_behind, part_few, at_end}
use Rattle.sweep.proofs.window.fill.Goals as goal

pub returns-clause-ok : goal.returns-clause-ok
returns-clause-ok g c =
    let n = c.in_ok-count.count in
    record {
      piece = take n c.pull.new.into;
      read = c.in_ok-count.ensures.taken;
      count_is = length-take-le n c.pull.new.into c.in_ok-count.ensures.within;
      within = omega (arith, c.in_ok-count.ensures.within, c.pull.auto.into);
      front = piece_behind c.args.len (c.args.len + c.args.room - c.args.len) n c.args.window.now c.pull.new.into (omega (arith, c.requires.inside)) c.in_ok-count.ensures.within;
      ended = λ none.
          at_end (g.S.Source.left c.args.source.now) (g.S.Source.left c.pull.new.self) c.pull.new.into n c.in_ok-count.ensures.taken none
          (c.in_ok-count.ensures.end none (omega (arith, c.pull.auto.into, c.requires.room, c.requires.inside)));
    }

pub returns-clause-pull : goal.returns-clause-pull
unfolding window_len
returns-clause-pull g c = record {
  buffer = _;
  filled = c.pull.new.into;
  few = part_few c.args.len c.args.room c.args.window.now c.requires.window;
  gave = c.in_ok-count.ensures.gives;
}

pub returns-in_err-count-clause-pull : goal.returns-in_err-count-clause-pull
unfolding window_len
returns-in_err-count-clause-pull g c =
    let p = err_from_is_err_and c.from_residual.result c.from_residual.ensures.1 in
    rw p.1 (record {
      buffer = _;
      filled = c.pull.new.into;
      few = part_few c.args.len c.args.room c.args.window.now c.requires.window;
      gave = c.in_err-count.ensures.gives;
    })
