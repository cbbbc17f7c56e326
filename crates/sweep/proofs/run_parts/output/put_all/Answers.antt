use Rattle.std.proofs.Common.{◌++◌, List, ℕ, Option, take, arith, ap, sym, ◌∙◌}
use Rattle.std.proofs.Math.Seq.{take-add}
use Rattle.byte_ports.specs.Ports.{with_back}
use Rattle.sweep.specs.RunParts.Writing.{no_put, then_put}
use Rattle.sweep.proofs.RunParts.Appending.{with_back-nil, with_back-append}
use Rattle.sweep.proofs.run_parts.output.put_all.Goals as goal

pub loop-at-init : goal.loop-at-init
loop-at-init g c = record {
  within = omega arith;
  held = sym (with_back-nil (g.K.Sink.held c.args.out.now));
  puts = no_put;
  later = omega arith;
}

pub loop-at-preserved : goal.loop-at-preserved
loop-at-preserved g c =
    let rest = c.split_at.ensures.back in
    let here = c.loop-at.invariant in
    let later = c.put.ensures.cause.later in
    record {
      within = omega (arith, c.in_ok-at.ensures.within, c.split_at.ensures.back_len);
      held =
          c.in_ok-at.ensures.taken
          ∙ (ap (λ (h : Option (List ℕ)). with_back h (take c.in_ok-at.field-0 c.split_at.result.1.now)) here.held
          ∙ (with_back-append (g.K.Sink.held c.args.out.now) (take c.loop-at.at c.args.bytes.now) (take c.in_ok-at.field-0 c.split_at.result.1.now)
          ∙ ap (with_back (g.K.Sink.held c.args.out.now))
          (ap (λ (xs : List ℕ). take c.loop-at.at c.args.bytes.now ++ take c.in_ok-at.field-0 xs) rest
          ∙ sym (take-add c.loop-at.at c.in_ok-at.field-0 c.args.bytes.now))));
      puts = then_put here.puts c.in_ok-at.ensures.gives;
      later = omega arith;
    }
