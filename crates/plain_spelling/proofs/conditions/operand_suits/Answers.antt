use Rattle.std.proofs.Common.{◌≡◌, ap, sym, ◌∙◌}
use Rattle.instruction_parts.specs.Kinds.{method_of}
use Rattle.row_fit.specs.Fits.{kind_at}
use Rattle.x86_values.specs.declared.Operand.TheVariants.{Absent}
use Rattle.plain_spelling.specs.Forms.{is_variant_of, operand_at}
use Rattle.plain_spelling.proofs.Suiting.{absent-suits}
use Rattle.plain_spelling.proofs.conditions.operand_suits.Goals as goal

pub returns-in-Absent : goal.returns-in-Absent
returns-in-Absent c =
    let e : operand_at c.args.instr.now c.args.n ≡ Absent = sym c.operand_at.ensures ∙ c.in-Absent.is in
    let v : c.is_absent_kind.result ≡ is_variant_of c.args.row.now.place (method_of (kind_at c.args.row.now c.args.n)) Absent =
    c.is_absent_kind.ensures c.args.row.now.place ∙ ap (λ k. is_variant_of c.args.row.now.place (method_of k) Absent) c.kind_at.ensures in
    v ∙ absent-suits c.args.bits c.args.parts.now.ip c.args.row.now c.args.instr.now c.args.n e
