use Rattle.std.proofs.Common.{◌≡◌, ◌+◌, drop, length, Result, Ok, ap, ◌∙◌, subst, arith}
use Rattle.x86_values.specs.declared.Decoded.{Decoded}
use Rattle.x86_values.specs.Wrapping.{modulo_width}
use Rattle.prefixes.specs.Answer.{mode_of}
use Rattle.opcode_rows.specs.Table.{table}
use Rattle.opcode_rows.specs.Reading.{IsRead}
use Rattle.decoder.specs.declared.DecodeError.{DecodeError}
use Rattle.decoder.specs.Answer.{reading_of}
use Rattle.decoder.specs.Cursor.{Cursor}
use Rattle.decoder.proofs.Moving.{reading_at, no_bytes}
use Rattle.decoder.proofs.OneReading.{only_reading}
use Rattle.decoder.proofs.cursor.Decoder.decode.Goals as goal

pub returns-in_default-clause-reading : goal.returns-in_default-clause-reading
returns-in_default-clause-reading g c =
    let bits = mode_of g.row.BITS in
    let bytes_are : c.self.inside.bytes.now ≡ c.args.self.now.bytes = ap (λ (d : Cursor). d.bytes) c.self.view_is in
    let ip_is : c.self.inside.ip ≡ c.args.self.now.ip = ap (λ (d : Cursor). d.ip) c.self.view_is in
    let position_is : c.self.inside.position ≡ c.args.self.now.position = ap (λ (d : Cursor). d.position) c.self.view_is in
    let sum : c.from.result + c.self.inside.position ≡ c.args.self.now.ip + c.args.self.now.position = omega (arith, c.from.ensures) in
    let address : c.wrap-address.result ≡ modulo_width bits (c.args.self.now.ip + c.args.self.now.position) =
    c.wrap-address.ensures ∙ ap (λ b. modulo_width b (c.from.result + c.self.inside.position)) c.mode_of.ensures ∙ ap (modulo_width bits) sum in
    let rest : c.split_at.result.1.now ≡ drop c.args.self.now.position c.args.self.now.bytes =
    c.split_at.ensures.back ∙ ap (λ n. drop n c.self.inside.bytes.now) position_is ∙ ap (drop c.args.self.now.position) bytes_are in
    reading_at table bits c.wrap-address.result _ _ _ (reading_of c.decode-answer.result) address rest c.decode-answer.ensures.reading

pub returns-in-Ok-clause-alone : goal.returns-in-Ok-clause-alone
returns-in-Ok-clause-alone g c =
    let bits = mode_of g.row.BITS in
    let at = c.args.self.now.ip + c.args.self.now.position in
    let behind = drop c.args.self.now.position c.args.self.now.bytes in
    let bytes_are : c.self.inside.bytes.now ≡ c.args.self.now.bytes = ap (λ (d : Cursor). d.bytes) c.self.view_is in
    let ip_is : c.self.inside.ip ≡ c.args.self.now.ip = ap (λ (d : Cursor). d.ip) c.self.view_is in
    let position_is : c.self.inside.position ≡ c.args.self.now.position = ap (λ (d : Cursor). d.position) c.self.view_is in
    let sum : c.from.result + c.self.inside.position ≡ at = omega (arith, c.from.ensures) in
    let address : c.wrap-address.result ≡ modulo_width bits at =
    c.wrap-address.ensures ∙ ap (λ b. modulo_width b (c.from.result + c.self.inside.position)) c.mode_of.ensures ∙ ap (modulo_width bits) sum in
    let rest : c.split_at.result.1.now ≡ behind =
    c.split_at.ensures.back ∙ ap (λ n. drop n c.self.inside.bytes.now) position_is ∙ ap (drop c.args.self.now.position) bytes_are in
    let read : IsRead bits at behind (reading_of c.decode-answer.result) =
    reading_at table bits c.wrap-address.result _ _ _ (reading_of c.decode-answer.result) address rest c.decode-answer.ensures.reading in
    let R : Result Decoded DecodeError → Type 0 = λ r. IsRead bits at behind (reading_of r) in
    only_reading bits at behind (Ok c.in-Ok.decoded) (subst R c.in-Ok.is read)

pub returns-in_default-clause-end : goal.returns-in_default-clause-end
returns-in_default-clause-end g c = λ at_end.
    let bytes_are : c.self.inside.bytes.now ≡ c.args.self.now.bytes = ap (λ (d : Cursor). d.bytes) c.self.view_is in
    let position_is : c.self.inside.position ≡ c.args.self.now.position = ap (λ (d : Cursor). d.position) c.self.view_is in
    let none : length c.split_at.result.1.now ≡ 0 = omega (arith, c.split_at.ensures.back_len, ap length bytes_are) in
    no_bytes table (mode_of g.row.BITS) _ c.decode-answer.result _ none c.decode-answer.ensures.reading (λ d e. absurd (c.in_default.not-Ok d e))
