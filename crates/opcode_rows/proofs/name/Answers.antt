use Rattle.std.proofs.Common.{◌≡◌, ◌≤◌, length, List, ℕ}
use Rattle.opcode_rows.specs.Table.{name_of}
use Rattle.opcode_rows.proofs.Words.{name-short}
use Rattle.opcode_rows.proofs.name.Goals as goal

short : (bytes : List ℕ) (code : ℕ) → bytes ≡ name_of code → length (name_of code) ≤ 16 → length bytes ≤ 16
short bytes code e le = rw e le

pub returns-then-code-lt1536-clause-short : goal.returns-then-code-lt1536-clause-short
returns-then-code-lt1536-clause-short c =
    short c.early_name.result.now c.args.code.0 c.early_name.ensures (name-short c.args.code.0 c.requires)

pub returns-else-code-lt1536-clause-short : goal.returns-else-code-lt1536-clause-short
returns-else-code-lt1536-clause-short c =
    short c.later_name.result.now c.args.code.0 c.later_name.ensures (name-short c.args.code.0 c.requires)
