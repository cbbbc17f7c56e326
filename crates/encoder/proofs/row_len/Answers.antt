use Rattle.std.proofs.Common.{◌≡◌, ◌∙◌, ◌<◌, ◌≤◌, ℕ, Some, Result, Ok, None, ap, sym, length, rules, subst}
use Rattle.instruction_parts.specs.Bytes.{bytes_of}
use Rattle.plain_spelling.specs.PlainTail.{plain_spelling, plain_len}
use Rattle.plain_spelling.specs.Expressible.{first_failed_condition}
use Rattle.plain_spelling.specs.declared.NoSpelling.{NoSpelling}
use Rattle.encoder.specs.Encoding.{encoded_by, length_of}
use Rattle.encoder.proofs.Bytes.{Suited, count}
use Rattle.encoder.proofs.Causes.{tail_fails, length_fails, nothing_fails}
use Rattle.encoder.proofs.row_len.Goals as goal

pub returns-in-Some : goal.returns-in-Some
returns-in-Some c =
    let row = c.args.row.now in
    let i = c.args.instr.now in
    let bits = c.args.bits in
    let h = subst (λ (ip : ℕ). first_failed_condition bits ip row i ≡ Some c.in-Some.why) c.plain_parts-parts.ensures.ip (sym c.first_failed_condition.ensures ∙ c.in-Some.is) in
    ap (λ why. length_of (encoded_by why (bytes_of row (plain_spelling bits c.args.ip row i)))) (sym (tail_fails bits c.args.ip row i c.in-Some.why c.requires.exists h))

pub returns-in-None : goal.returns-in-None
returns-in-None c =
    let row = c.args.row.now in
    let i = c.args.instr.now in
    let bits = c.args.bits in
    let h = subst (λ (ip : ℕ). first_failed_condition bits ip row i ≡ None) c.plain_parts-parts.ensures.ip (sym c.first_failed_condition.ensures ∙ c.in-None.is) in
    let long : 15 < plain_len bits row i = subst (λ (n : ℕ). 15 < n) c.plain_parts-parts.ensures.parts.len c.if-parts-gt15.true in
    ap (λ why. length_of (encoded_by why (bytes_of row (plain_spelling bits c.args.ip row i)))) (sym (length_fails bits c.args.ip row i c.requires.exists h long))

pub returns-in-None-2 : goal.returns-in-None-2
returns-in-None-2 c =
    let row = c.args.row.now in
    let i = c.args.instr.now in
    let bits = c.args.bits in
    let ip = c.args.ip in
    let four : length i.ops ≡ 4 = search rules in
    let h = subst (λ (x : ℕ). first_failed_condition bits x row i ≡ None) c.plain_parts-parts.ensures.ip (sym c.first_failed_condition.ensures ∙ c.in-None-2.is) in
    let s : Suited bits ip row i = record { is_sound = c.requires.sound; is_writable = c.requires.writable; exists = c.requires.exists; four = four; suits = h } in
    let short : plain_len bits row i ≤ 15 = subst (λ (n : ℕ). n ≤ 15) c.plain_parts-parts.ensures.parts.len c.if-parts-gt15.false in
    let ok : ℕ → Result ℕ NoSpelling = λ n. Ok n in
    ap ok (c.plain_parts-parts.ensures.parts.len ∙ sym (count bits ip row i s))
    ∙ ap (λ why. length_of (encoded_by why (bytes_of row (plain_spelling bits ip row i)))) (sym (nothing_fails bits ip row i c.requires.exists h short))
