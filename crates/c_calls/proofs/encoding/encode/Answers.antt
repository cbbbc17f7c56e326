use Rattle.std.proofs.Common.{◌≡◌, sym, ◌∙◌, to_z, of_z, w32, rules}
use Rattle.c_calls.proofs.Widths.{encode_answer_is, instr_back_sized}
use Rattle.c_calls.proofs.encoding.encode.Goals as goal

pub returns-in-Some-instr_back_into-clause-said : goal.returns-in-Some-instr_back_into-clause-said
returns-in-Some-instr_back_into-clause-said c =
    rw (encode_answer_is c.args.bits c.args.ip c.args.instr.now c.in-Some.mode c.instr_back_into.new.out (sym c.in-Some.ensures) c.in-Some-instr_back_into.ensures) (search rules)

pub returns-in-Some-instr_back_into-clause-left : goal.returns-in-Some-instr_back_into-clause-left
returns-in-Some-instr_back_into-clause-left c =
    rw (encode_answer_is c.args.bits c.args.ip c.args.instr.now c.in-Some.mode c.instr_back_into.new.out (sym c.in-Some.ensures) c.in-Some-instr_back_into.ensures) c.put_encoding.ensures.left

pub returns-in-Some-instr_back_into-clause-read_back : goal.returns-in-Some-instr_back_into-clause-read_back
returns-in-Some-instr_back_into-clause-read_back c =
    let told : c.put_encoding.result ≡ to_z w32 (of_z w32 c.put_encoding.result) = search rules in
    rw (instr_back_sized c.args.bits c.args.ip c.args.instr.now c.instr_back_into.new.out c.in-Some-instr_back_into.ensures)
    (rw (sym c.in-Some.ensures) (λ n is. c.put_encoding.ensures.read_back n (told ∙ is)))
