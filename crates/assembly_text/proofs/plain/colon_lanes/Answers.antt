use Rattle.std.proofs.Common.{ℕ, refl, arith}
use Rattle.std.proofs.lemmas.Simd.{zip2_splat, length-chunk}
use Rattle.std.specs.Simd.Lanes.{chunk}
use Rattle.assembly_text.specs.Lines.{is_no_colon}
use Rattle.assembly_text.proofs.Lanes.{run_in}
use Rattle.assembly_text.proofs.plain.colon_lanes.Goals as goal

pub returns : goal.returns
unfolding is_no_colon
returns c =
    let v = chunk c.args.at 32 c.args.text.now in
    let long = length-chunk c.args.at 32 c.args.text.now c.requires in
    let run = run_in is_no_colon c.args.text.now c.args.at 32 _ _ c.requires (omega arith) c.type_inv.text c.first_set.ensures _ (zip2_splat {Y = ℕ} _ v 32 58 long) refl in
    record { within = run.within; none = run.pass; stop = run.stops }
