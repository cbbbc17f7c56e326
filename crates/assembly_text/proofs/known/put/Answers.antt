use Rattle.std.proofs.Common.{List, [], ◌∷◌, sym, subst}
use Rattle.std.specs.List.{All}
use Rattle.std.proofs.lemmas.List.Elements.{All-set, All-append, All-cons, All-nil}
use Rattle.assembly_text.specs.declared.known.KnownLine.{KnownLine}
use Rattle.assembly_text.specs.Known.{IsKnownLine}
use Rattle.assembly_text.proofs.known.put.Goals as goal

pub returns-then-number-count : goal.returns-then-number-count
returns-then-number-count c =
    All-set (IsKnownLine c.args.known.now.bits c.args.known.now.base) c.args.known.now.lines.items c.unwrap_or-number.result c.args.line c.requires.line c.requires.known

pub returns-in-Ok : goal.returns-in-Ok
returns-in-Ok c =
    let is = IsKnownLine c.args.known.now.bits c.args.known.now.base in
    let lines = c.args.known.now.lines.items in
    subst (λ (xs : List KnownLine). All is xs) (sym c.in-Ok.ensures.items)
    (All-append is lines (c.args.line ∷ []) c.requires.known (All-cons is c.args.line [] c.requires.line (All-nil is)))

pub returns-in_default : goal.returns-in_default
returns-in_default c =
    let is = IsKnownLine c.args.known.now.bits c.args.known.now.base in
    subst (λ (xs : List KnownLine). All is xs) (sym c.in_default.ensures.items) c.requires.known
