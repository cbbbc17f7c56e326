use Rattle.std.proofs.Common.{◌≡◌, ℕ, List, length, take, drop, ◌∙◌, arith}
use Rattle.x86_values.specs.declared.Bits.{Bits}
use Rattle.instruction_parts.specs.Front.{prefix_run}
use Rattle.prefixes.proofs.Runs.{take-run, run_length}
use Rattle.unlisted.specs.Encodings.{found, front_step, found_behind, found_in}
use Rattle.unlisted.proofs.Lengths.{length-run}
use Rattle.unlisted.proofs.encodings.read_short.Goals as goal

-- the bytes parted behind their run
parted : (bits : Bits) (bytes : List ℕ) (n : ℕ) (front back : List ℕ) → front ≡ take n bytes → back ≡ drop n bytes → n ≡ length (prefix_run bits bytes) → found (front_step bits front) n back ≡ found_in bits bytes
unfolding found_in found_behind
parted bits bytes n front back f b run = rw (f, b, run) (rw (take-run bits bytes))

pub returns : goal.returns
returns c =
    c.read_front.ensures
    ∙ parted c.args.bits c.args.bytes.now _ _ _ c.split_at.ensures.front c.split_at.ensures.back (c.run_len-n.ensures ∙ length-run c.args.bits c.args.bytes.now)

pub split_at-requires : goal.split_at-requires
split_at-requires c =
    let whole = run_length c.args.bits c.args.bytes.now in omega (arith, whole, c.run_len-n.ensures, length-run c.args.bits c.args.bytes.now)
