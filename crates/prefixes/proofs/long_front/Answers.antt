use Rattle.std.proofs.Common.{◌≡◌, ℕ, List, ap, ◌∙◌, length, take, drop}
use Rattle.x86_values.specs.declared.Bits.{Bits}
use Rattle.instruction_parts.specs.Front.{long_front, lead_front, prefix_run}
use Rattle.prefixes.specs.Answer.{answer_of}
use Rattle.prefixes.proofs.Runs.{take-run}
use Rattle.prefixes.proofs.long_front.Goals as goal

-- the bytes parted behind their run
parted : (bits : Bits) (bytes : List ℕ) (n : ℕ) (front back : List ℕ) → front ≡ take n bytes → back ≡ drop n bytes → n ≡ length (prefix_run bits bytes) → lead_front bits front back ≡ long_front bits bytes
unfolding long_front
parted bits bytes n front back f b run = rw (f, b, run) (rw (take-run bits bytes))

pub returns : goal.returns
returns c =
    c.lead_front.ensures
    ∙ ap answer_of (parted c.args.bits c.args.bytes.now c.args.n _ _ c.split_at.ensures.front c.split_at.ensures.back c.requires.run)
