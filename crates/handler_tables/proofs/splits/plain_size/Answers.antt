use Rattle.instruction_parts.specs.RowFields.FieldNumbers.{plain_size}
use Rattle.std.proofs.Common.{arith}
use Rattle.handler_tables.proofs.splits.plain_size.Goals as goal

pub returns-in-B64-true-default : goal.returns-in-B64-true-default
unfolding plain_size
returns-in-B64-true-default c = grind arith

pub returns-in-B16-default-true : goal.returns-in-B16-default-true
unfolding plain_size
returns-in-B16-default-true c = grind arith

pub returns-in-B16-default-false : goal.returns-in-B16-default-false
unfolding plain_size
returns-in-B16-default-false c = grind arith

pub returns-in_default-default-false : goal.returns-in_default-default-false
unfolding plain_size
returns-in_default-default-false c = grind arith

pub returns-in_default-default-false-2 : goal.returns-in_default-default-false-2
unfolding plain_size
returns-in_default-default-false-2 c = grind arith

pub returns-in_default-default-true : goal.returns-in_default-default-true
unfolding plain_size
returns-in_default-default-true c = grind arith

pub returns-in_default-default-true-2 : goal.returns-in_default-default-true-2
unfolding plain_size
returns-in_default-default-true-2 c = grind arith
