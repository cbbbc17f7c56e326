use Rattle.std.proofs.Common.{refl, subst, sym, ◌∙◌, arith, rules, ℕ, ◌+◌}
use Rattle.opcode_rows.specs.Table.{table}
use Rattle.decoder.specs.Cells.{CellIs}
use Rattle.decoder.proofs.InCell.{cell_from, cell_empty, count_of_cell}
use Rattle.decoder.proofs.cell.cell_of.Goals as goal

pub returns-in-None-clause-rows : goal.returns-in-None-clause-rows
returns-in-None-clause-rows c =
    cell_empty c.kind_of-kind.result c.args.state.now c.kind_of-kind.ensures (search rules) (c.in-None.ensures.none.0 refl)

pub returns-in-Some-clause-within : goal.returns-in-Some-clause-within
returns-in-Some-clause-within c = omega (arith, c.in-Some.ensures.within)

pub returns-in-Some-clause-rows : goal.returns-in-Some-clause-rows
returns-in-Some-clause-rows c =
    subst (λ (len : ℕ). CellIs table c.args.state.now c.in-Some.first.0 (c.in-Some.first.0 + len)) (sym c.cell_len.ensures)
    (cell_from c.kind_of-kind.result c.args.state.now c.in-Some.first.0 _ c.kind_of-kind.ensures c.in-Some.ensures.run)

pub returns-in-None-clause-count : goal.returns-in-None-clause-count
returns-in-None-clause-count c =
    sym (c.in-None.ensures.none.0 refl) ∙ count_of_cell c.kind_of-kind.result c.args.state.now c.kind_of-kind.ensures

pub returns-in-Some-clause-count : goal.returns-in-Some-clause-count
returns-in-Some-clause-count c =
    c.cell_len.ensures ∙ count_of_cell c.kind_of-kind.result c.args.state.now c.kind_of-kind.ensures
