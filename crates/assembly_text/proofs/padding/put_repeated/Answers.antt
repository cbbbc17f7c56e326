use Rattle.std.proofs.Common.{◌≡◌, ◌++◌, sym, ◌∙◌}
use Rattle.assembly_text.proofs.Growing.{repeated_more, repeated_end}
use Rattle.assembly_text.proofs.padding.put_repeated.Goals as goal

pub times-preserved : goal.times-preserved
times-preserved c =
    let is : c.extend_from_slice.new.self.items ≡ c.times.out.items ++ c.args.bytes.now = c.in_ok-extend_from_slice.ensures.items in
    rw is (repeated_more c.times.out.items c.args.bytes.now c.args.count c.times._k c.times-test.true ∙ c.times.invariant)

pub returns : goal.returns
returns c = sym (repeated_end c.times.out.items c.args.bytes.now c.args.count c.times._k c.times-test.false) ∙ c.times.invariant
