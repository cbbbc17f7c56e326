use Rattle.std.proofs.Common.{◌≡◌, length, arith}
use Rattle.opcode_rows.specs.Table.{cell}
use Rattle.opcode_rows.proofs.CellRuns.{length-cell_at, run-cell_at, cell-within}
use Rattle.opcode_rows.proofs.first_of.Goals as goal

pub returns-then-span-eq0-clause-none : goal.returns-then-span-eq0-clause-none
returns-then-span-eq0-clause-none c =
    let count : length (cell c.args.kind c.args.map c.args.opcode) ≡ c.span_at-span.result.count =
    length-cell_at c.args.kind c.args.map c.args.opcode c.span_at-span.result (omega arith) c.span_at-span.ensures
    in
    (λ e. omega (arith, count, c.if-span-eq0.true), λ e. cc)

pub returns-else-span-eq0-clause-run : goal.returns-else-span-eq0-clause-run
returns-else-span-eq0-clause-run c =
    run-cell_at c.args.kind c.args.map c.args.opcode c.span_at-span.result (omega arith) c.span_at-span.ensures

pub returns-else-span-eq0-clause-within : goal.returns-else-span-eq0-clause-within
returns-else-span-eq0-clause-within c =
    cell-within c.args.kind c.args.map c.args.opcode c.span_at-span.result (omega arith) c.span_at-span.ensures (omega (arith, c.if-span-eq0.false))

pub returns-else-span-eq0-clause-none : goal.returns-else-span-eq0-clause-none
returns-else-span-eq0-clause-none c =
    let count : length (cell c.args.kind c.args.map c.args.opcode) ≡ c.span_at-span.result.count =
    length-cell_at c.args.kind c.args.map c.args.opcode c.span_at-span.result (omega arith) c.span_at-span.ensures
    in
    (λ e. cc, λ e. absurd (omega (arith, count, e, c.if-span-eq0.false)))
