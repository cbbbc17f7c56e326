use Rattle.std.proofs.Common.{◌≡◌, ◌-◌, ◌+◌, ◌∙◌, ap, length, replicate, take, drop, arith, length-take, length-drop}
use Rattle.std.proofs.lemmas.List.{length-replicate}
use Rattle.code_region.specs.State.{int3}
use Rattle.code_region.proofs.Overwrites.{overwritten-put_mid}
use Rattle.code_region.proofs.contents.repeat.Goals as goal

pub returns : goal.returns
returns c =
    let part = take (c.args.start + c.args.count - c.args.start) (drop c.args.start c.args.image.now) in
    let m : length part ≡ c.args.count =
    omega (arith, length-take (c.args.start + c.args.count - c.args.start) (drop c.args.start c.args.image.now), length-drop c.args.start c.args.image.now) in
    let written : c.fill.new.self ≡ replicate c.args.count c.args.byte = c.fill.ensures.after (λ y e. e) ∙ ap (λ n. replicate n c.args.byte) m in
    let front = replicate c.args.count c.args.byte in
    let rest = replicate (c.args.len - c.args.count) int3 in
    let n : length front ≡ c.args.count = length-replicate _ _ in
    let k : length rest ≡ c.args.len - c.args.count = length-replicate _ _ in
    rw (c.erase.ensures, written) (overwritten-put_mid c.args.image.now c.args.start _ front rest (omega arith) (omega arith))
