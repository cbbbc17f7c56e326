use Rattle.std.proofs.Common.{◌<◌, ◌≤◌, ap, arith, length, Result}
use Rattle.modrm_sib.specs.declared.TailError.{TailError}
use Rattle.modrm_sib.specs.Answer.{answer_in}
use Rattle.row_fit.proofs.FrontGrows.{known-used}
use Rattle.row_relation.specs.RowReading.{RowReads}
use Rattle.modrm_sib.proofs.InPlace.{ok_in}
use Rattle.modrm_sib.proofs.Rows.{front_known, bytes_from_type, answer_of_row, answered_ok, answered_len, answered_ended, answered_forbidden}
use Rattle.modrm_sib.proofs.read_row_into.Goals as goal

pub split_at-requires : goal.split_at-requires
split_at-requires c =
    let at = known-used c.args.bits c.args.bytes.now c.args.state.now (front_known c.args.bits c.args.bytes.now c.args.state.now c.requires.front).0 in
    omega (arith, at.is_within)

pub read_tail-requires-clause-few : goal.read_tail-requires-clause-few
read_tail-requires-clause-few c = (front_known c.args.bits c.args.bytes.now c.args.state.now c.requires.front).1

pub returns-clause-ok : goal.returns-clause-ok
returns-clause-ok c =
    ok_in TailError (λ d. RowReads c.args.bits c.args.ip c.args.code c.args.row.now c.args.bytes.now d) c.read_tail.result c.read_tail.new.out
    (answered_ok c.args.bits c.args.ip c.args.code c.args.row.now c.args.bytes.now (answer_in c.read_tail.result c.read_tail.new.out)
    (answer_of_row c.args.bits c.args.ip c.args.code c.args.row.now c.args.bytes.now c.args.state.now _ (answer_in c.read_tail.result c.read_tail.new.out)
    (bytes_from_type c.args.bytes.now c.type_inv.bytes) c.requires.sound c.requires.front c.split_at.ensures.back c.read_tail.ensures))

pub returns-clause-len : goal.returns-clause-len
returns-clause-len c =
    ok_in TailError (λ d. (0 < d.len) × (d.len < 64) × (d.len ≤ length c.args.bytes.now)) c.read_tail.result c.read_tail.new.out
    (answered_len c.args.bits c.args.ip c.args.code c.args.row.now c.args.bytes.now (answer_in c.read_tail.result c.read_tail.new.out)
    (answer_of_row c.args.bits c.args.ip c.args.code c.args.row.now c.args.bytes.now c.args.state.now _ (answer_in c.read_tail.result c.read_tail.new.out)
    (bytes_from_type c.args.bytes.now c.type_inv.bytes) c.requires.sound c.requires.front c.split_at.ensures.back c.read_tail.ensures))

pub returns-clause-ended : goal.returns-clause-ended
returns-clause-ended c = λ e.
    answered_ended c.args.bits c.args.ip c.args.code c.args.row.now c.args.bytes.now (answer_in c.read_tail.result c.read_tail.new.out)
    (answer_of_row c.args.bits c.args.ip c.args.code c.args.row.now c.args.bytes.now c.args.state.now _ (answer_in c.read_tail.result c.read_tail.new.out)
    (bytes_from_type c.args.bytes.now c.type_inv.bytes) c.requires.sound c.requires.front c.split_at.ensures.back c.read_tail.ensures)
    (ap (λ (r : Result (Unit {0}) TailError). answer_in r c.read_tail.new.out) e)

pub returns-clause-forbidden : goal.returns-clause-forbidden
returns-clause-forbidden c = λ e.
    answered_forbidden c.args.bits c.args.ip c.args.code c.args.row.now c.args.bytes.now (answer_in c.read_tail.result c.read_tail.new.out)
    (answer_of_row c.args.bits c.args.ip c.args.code c.args.row.now c.args.bytes.now c.args.state.now _ (answer_in c.read_tail.result c.read_tail.new.out)
    (bytes_from_type c.args.bytes.now c.type_inv.bytes) c.requires.sound c.requires.front c.split_at.ensures.back c.read_tail.ensures)
    (ap (λ (r : Result (Unit {0}) TailError). answer_in r c.read_tail.new.out) e)
