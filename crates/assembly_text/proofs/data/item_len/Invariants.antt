use Rattle.std.proofs.Common.{◌≡◌, ◌+◌, drop}
use Rattle.assembly_text.specs.Data.{item_len}
use Rattle.assembly_text.proofs.data.item_len.Given as goal

abbrev pub invariant-bytes : goal.invariant-bytes
invariant-bytes l = item_len 0 l.text ≡ l.k + item_len l.quote (drop l.k l.text)
