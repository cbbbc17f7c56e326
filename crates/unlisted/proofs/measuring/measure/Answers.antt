use Rattle.std.proofs.Common.{◌≡◌, Bool, true, false, sym, ◌∙◌}
use Rattle.std.proofs.lemmas.List.{length-take-le}
use Rattle.unlisted.proofs.Growing.{format-facts}
use Rattle.unlisted.proofs.Answers.{listed-format}
use Rattle.unlisted.proofs.measuring.measure.Goals as goal

pub slice_bounds-is_never_read-end : goal.slice_bounds-is_never_read-end
slice_bounds-is_never_read-end c =
    let facts = format-facts c.args.bits c.args.bytes.now c.in-Ok.shape (sym c.in-Ok.ensures) in
    sym (length-take-le c.in-Ok.shape.len c.args.bytes.now facts.given)

pub returns-then-reads_nothing-clause-measured : goal.returns-then-reads_nothing-clause-measured
returns-then-reads_nothing-clause-measured c = record {
  format = sym c.in-Err-Ended.ensures ∙ (let is = c.in-Err-Ended.field-0-is in cc);
  unread = c.reads_nothing.ensures.yes c.if-reads_nothing.true;
}

pub returns-then-is_never_read-clause-measured : goal.returns-then-is_never_read-clause-measured
returns-then-is_never_read-clause-measured c = record {
  format = sym c.in-Ok.ensures;
  unread = c.is_never_read.ensures.yes c.if-is_never_read.true;
}

pub returns-then-is_never_read-clause-length : goal.returns-then-is_never_read-clause-length
returns-then-is_never_read-clause-length c =
    let facts = format-facts c.args.bits c.args.bytes.now c.in-Ok.shape (sym c.in-Ok.ensures) in (facts.some, facts.short, facts.given)

pub returns-then-is_never_read-clause-inside : goal.returns-then-is_never_read-clause-inside
returns-then-is_never_read-clause-inside c =
    (format-facts c.args.bits c.args.bytes.now c.in-Ok.shape (sym c.in-Ok.ensures)).inside

clash : (b : Bool) → b ≡ false → b ≡ true → ⊥
clash b h k = cc

pub returns-else-is_never_read-clause-measured : goal.returns-else-is_never_read-clause-measured
returns-else-is_never_read-clause-measured c =
    listed-format c.args.bits c.args.bytes.now c.in-Ok.shape (sym c.in-Ok.ensures)
    (λ never. clash _ c.if-is_never_read.false (c.is_never_read.ensures.no never))
