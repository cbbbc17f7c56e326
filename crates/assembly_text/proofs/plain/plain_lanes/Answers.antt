use Rattle.std.proofs.Common.{ℕ, refl, arith, bit_or}
use Rattle.std.proofs.lemmas.Simd.{zip2_splat, length-chunk, splat_is_map}
use Rattle.std.specs.Simd.Lanes.{chunk}
use Rattle.assembly_text.specs.Lines.{is_plain, is_inner, is_quiet, begins_comment, is_quote}
use Rattle.assembly_text.proofs.Lanes.{joined, run_in}
use Rattle.assembly_text.proofs.plain.plain_lanes.Goals as goal

pub returns : goal.returns
unfolding is_plain is_inner is_quiet begins_comment is_quote
returns c =
    let v = chunk c.args.at 32 c.args.text.now in
    let long = length-chunk c.args.at 32 c.args.text.now c.requires in
    let odd = zip2_splat {Y = ℕ} bit_or v 32 1 long in
    let pairs = joined bit_or _ _ v (joined _ _ _ v odd (splat_is_map v 32 35 long)) (joined _ _ _ v odd (splat_is_map v 32 59 long)) in
    let ends = joined bit_or _ _ v (zip2_splat {Y = ℕ} _ v 32 39 long) (zip2_splat {Y = ℕ} _ v 32 10 long) in
    let run = run_in is_plain c.args.text.now c.args.at 32 _ _ c.requires (omega arith) c.type_inv.text c.first_set.ensures _ (joined bit_or _ _ v pairs ends) refl in
    record { within = run.within; plain = run.pass; stop = run.stops }
