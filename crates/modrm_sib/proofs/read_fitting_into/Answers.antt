use Rattle.std.proofs.Common.{◌≡◌, ◌<◌, ◌≤◌, refl, arith, length, Ok}
use Rattle.row_fit.proofs.FrontGrows.{known-used}
use Rattle.row_relation.specs.RowReading.{RowReads}
use Rattle.modrm_sib.specs.Answer.{tail_answer}
use Rattle.modrm_sib.proofs.InPlace.{some_in, some_in_both}
use Rattle.modrm_sib.proofs.Rows.{front_known, bytes_from_type, answer_of_row, answered_read, answered_over}
use Rattle.modrm_sib.proofs.read_fitting_into.Goals as goal

pub split_at-requires : goal.split_at-requires
split_at-requires c =
    let at = known-used c.args.bits c.args.bytes.now c.args.state.now (front_known c.args.bits c.args.bytes.now c.args.state.now c.requires.front).0 in
    omega (arith, at.is_within)

pub read_known_tail-requires-clause-few : goal.read_known_tail-requires-clause-few
read_known_tail-requires-clause-few c = (front_known c.args.bits c.args.bytes.now c.args.state.now c.requires.front).1

pub returns-clause-some : goal.returns-clause-some
returns-clause-some c =
    let answer = tail_answer c.args.bits c.args.ip c.args.state.now c.args.code c.args.row.now c.split_at.result.1.now in
    let a = answer_of_row c.args.bits c.args.ip c.args.code c.args.row.now c.args.bytes.now c.args.state.now _ answer
    (bytes_from_type c.args.bytes.now c.type_inv.bytes) c.requires.sound c.requires.front c.split_at.ensures.back refl in
    some_in c.read_known_tail.result (answer ≡ Ok c.read_known_tail.new.out)
    (RowReads c.args.bits c.args.ip c.args.code c.args.row.now c.args.bytes.now c.read_known_tail.new.out)
    (λ e. (answered_read c.args.bits c.args.ip c.args.code c.args.row.now c.args.bytes.now answer c.read_known_tail.new.out a e).0)
    c.read_known_tail.ensures.some

pub returns-clause-len : goal.returns-clause-len
returns-clause-len c =
    let place = c.read_known_tail.new.out in
    let answer = tail_answer c.args.bits c.args.ip c.args.state.now c.args.code c.args.row.now c.split_at.result.1.now in
    let a = answer_of_row c.args.bits c.args.ip c.args.code c.args.row.now c.args.bytes.now c.args.state.now _ answer
    (bytes_from_type c.args.bytes.now c.type_inv.bytes) c.requires.sound c.requires.front c.split_at.ensures.back refl in
    some_in_both c.read_known_tail.result (answer ≡ Ok place) (place.len ≤ 15)
    ((0 < place.len) × (place.len ≤ 15) × (place.len ≤ length c.args.bytes.now))
    (λ e short.
    let fits = (answered_read c.args.bits c.args.ip c.args.code c.args.row.now c.args.bytes.now answer place a e).1 in
    (fits.some_bytes, short, fits.within))
    c.read_known_tail.ensures.some c.read_known_tail.ensures.short

pub returns-clause-none : goal.returns-clause-none
returns-clause-none c = λ none.
    let answer = tail_answer c.args.bits c.args.ip c.args.state.now c.args.code c.args.row.now c.split_at.result.1.now in
    let a = answer_of_row c.args.bits c.args.ip c.args.code c.args.row.now c.args.bytes.now c.args.state.now _ answer
    (bytes_from_type c.args.bytes.now c.type_inv.bytes) c.requires.sound c.requires.front c.split_at.ensures.back refl in
    answered_over c.args.bits c.args.ip c.args.code c.args.row.now c.args.bytes.now answer a (c.read_known_tail.ensures.none none)
