use Rattle.std.proofs.Common.{◌≡◌, ◌-◌, length, replicate, arith}
use Rattle.std.proofs.lemmas.List.{length-replicate}
use Rattle.code_region.specs.State.{int3}
use Rattle.code_region.proofs.Overwrites.{overwritten-put_mid}
use Rattle.code_region.proofs.contents.write_bytes.Goals as goal

pub returns : goal.returns
returns c =
    let rest = replicate (c.args.len - length c.args.content.now) int3 in
    let n : length rest ≡ c.args.len - length c.args.content.now = length-replicate _ _ in
    rw (c.erase.ensures, c.copy_from_slice.ensures.after)
    (overwritten-put_mid c.args.image.now c.args.start _ c.args.content.now rest (omega arith) (omega arith))
