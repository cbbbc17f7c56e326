use Rattle.std.proofs.Common.{◌≡◌, length, rules}
use Rattle.encoder.proofs.Causes.{plain_ok, plain_err, read_ok, shortest_ok}
use Rattle.encoder.proofs.encode.Goals as goal

pub returns-clause-plain : goal.returns-clause-plain
returns-clause-plain c =
    let four : length c.args.instr.now.ops ≡ 4 = search rules in
    plain_ok c.args.bits c.args.ip c.args.instr.now c.encode_by_row.result four c.encode_by_row.ensures

pub returns-clause-refused : goal.returns-clause-refused
returns-clause-refused c = plain_err c.args.bits c.args.ip c.args.instr.now c.encode_by_row.result c.encode_by_row.ensures

pub returns-clause-read_back : goal.returns-clause-read_back
returns-clause-read_back c =
    let four : length c.args.instr.now.ops ≡ 4 = search rules in
    read_ok c.args.bits c.args.ip c.args.instr.now c.encode_by_row.result four c.encode_by_row.ensures

pub returns-clause-shortest : goal.returns-clause-shortest
returns-clause-shortest c =
    let four : length c.args.instr.now.ops ≡ 4 = search rules in
    shortest_ok c.args.bits c.args.ip c.args.instr.now c.encode_by_row.result four c.encode_by_row.ensures
