use Rattle.std.proofs.Common.{ap}
use Rattle.operand_info.proofs.Lines.{line-known}
use Rattle.operand_info.proofs.columns.columns_at.Goals as goal

pub returns-clause-flow : goal.returns-clause-flow
returns-clause-flow c = ap (λ line. line.flow) (line-known c.args.code.0 _ c.requires c.line_at.ensures)

pub returns-clause-first : goal.returns-clause-first
returns-clause-first c = ap (λ line. line.op0) (line-known c.args.code.0 _ c.requires c.line_at.ensures)

pub returns-clause-second : goal.returns-clause-second
returns-clause-second c = ap (λ line. line.op1) (line-known c.args.code.0 _ c.requires c.line_at.ensures)

pub returns-clause-third : goal.returns-clause-third
returns-clause-third c = ap (λ line. line.op2) (line-known c.args.code.0 _ c.requires c.line_at.ensures)

pub returns-clause-fourth : goal.returns-clause-fourth
returns-clause-fourth c = ap (λ line. line.op3) (line-known c.args.code.0 _ c.requires c.line_at.ensures)

pub returns-clause-memory : goal.returns-clause-memory
returns-clause-memory c = ap (λ line. line.memory) (line-known c.args.code.0 _ c.requires c.line_at.ensures)
