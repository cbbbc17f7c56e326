use Rattle.std.proofs.Common.{sym, subst, arith}
use Rattle.assembly_text.specs.declared.known.KnownLine.{KnownLine}
use Rattle.assembly_text.specs.Known.{IsKnownLine}
use Rattle.assembly_text.proofs.known.line_of.Goals as goal

pub returns-then-number-count : goal.returns-then-number-count
returns-then-number-count c =
    let found = c.index-then-number-count.result.now in
    subst (λ (line : KnownLine). IsKnownLine c.args.known.now.bits c.args.known.now.base line) (sym c.index-then-number-count.ensures)
    (c.requires.known c.unwrap_or-number.result found (omega (arith, c.if-number-count.true, c.len-count.ensures)))
