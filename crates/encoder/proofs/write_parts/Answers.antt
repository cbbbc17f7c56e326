use Rattle.std.proofs.Common.{◌≡◌, ◌∙◌, ◌<◌, ◌≤◌, ◌++◌, ℕ, Result, Ok, List, ap, sym, length, rules, arith, subst, refl}
use Rattle.instruction_parts.specs.Bytes.{bytes_of}
use Rattle.plain_spelling.specs.PlainTail.{plain_spelling, plain_len}
use Rattle.plain_spelling.specs.declared.NoSpelling.{NoSpelling}
use Rattle.prefixes.specs.Written.{front_written}
use Rattle.encoder.specs.Encoding.{encoded_by}
use Rattle.encoder.proofs.Bytes.{parts_written, written-vex, written-modrm, written-sib, written-numbers, written-room, written-bytes}
use Rattle.encoder.proofs.Causes.{tail_fails, length_fails, nothing_fails}
use Rattle.encoder.proofs.write_parts.Goals as goal

pub returns-in-Some : goal.returns-in-Some
returns-in-Some c =
    let row = c.args.row.now in
    let i = c.args.instr.now in
    let bits = c.args.bits in
    let h = sym c.first_failed_of.ensures ∙ c.in-Some.is in
    ap (λ why. encoded_by why (bytes_of row (plain_spelling bits c.args.parts.now.ip row i))) (sym (tail_fails bits c.args.parts.now.ip row i c.in-Some.why c.requires.exists h))

pub returns-then-parts-gt15 : goal.returns-then-parts-gt15
returns-then-parts-gt15 c =
    let row = c.args.row.now in
    let i = c.args.instr.now in
    let bits = c.args.bits in
    let h = sym c.first_failed_of.ensures ∙ c.in-None.is in
    let long : 15 < plain_len bits row i = subst (λ (n : ℕ). 15 < n) c.requires.parts.len c.if-parts-gt15.true in
    ap (λ why. encoded_by why (bytes_of row (plain_spelling bits c.args.parts.now.ip row i))) (sym (length_fails bits c.args.parts.now.ip row i c.requires.exists h long))

pub append_front-requires-clause-vex : goal.append_front-requires-clause-vex
append_front-requires-clause-vex c =
    let four : length c.args.instr.now.ops ≡ 4 = search rules in
    written-vex c.args.bits c.args.parts.now.ip c.args.row.now c.args.instr.now c.args.parts.now
    (parts_written c.args.bits c.args.parts.now.ip c.args.row.now c.args.instr.now c.args.parts.now c.requires.sound c.requires.writable c.requires.exists four refl c.requires.parts (sym c.first_failed_of.ensures ∙ c.in-None.is) c.if-parts-gt15.false)

pub append_front-requires-clause-room : goal.append_front-requires-clause-room
append_front-requires-clause-room c =
    let none = ap length c.requires.empty in
    omega (arith, none)

pub append_plain_tail-requires-clause-modrm : goal.append_plain_tail-requires-clause-modrm
append_plain_tail-requires-clause-modrm c =
    let four : length c.args.instr.now.ops ≡ 4 = search rules in
    written-modrm c.args.bits c.args.parts.now.ip c.args.row.now c.args.instr.now c.args.parts.now
    (parts_written c.args.bits c.args.parts.now.ip c.args.row.now c.args.instr.now c.args.parts.now c.requires.sound c.requires.writable c.requires.exists four refl c.requires.parts (sym c.first_failed_of.ensures ∙ c.in-None.is) c.if-parts-gt15.false)

pub append_plain_tail-requires-clause-sib : goal.append_plain_tail-requires-clause-sib
append_plain_tail-requires-clause-sib c =
    let four : length c.args.instr.now.ops ≡ 4 = search rules in
    written-sib c.args.bits c.args.parts.now.ip c.args.row.now c.args.instr.now c.args.parts.now
    (parts_written c.args.bits c.args.parts.now.ip c.args.row.now c.args.instr.now c.args.parts.now c.requires.sound c.requires.writable c.requires.exists four refl c.requires.parts (sym c.first_failed_of.ensures ∙ c.in-None.is) c.if-parts-gt15.false)

pub append_plain_tail-requires-clause-numbers : goal.append_plain_tail-requires-clause-numbers
append_plain_tail-requires-clause-numbers c =
    let four : length c.args.instr.now.ops ≡ 4 = search rules in
    written-numbers c.args.bits c.args.parts.now.ip c.args.row.now c.args.instr.now c.args.parts.now
    (parts_written c.args.bits c.args.parts.now.ip c.args.row.now c.args.instr.now c.args.parts.now c.requires.sound c.requires.writable c.requires.exists four refl c.requires.parts (sym c.first_failed_of.ensures ∙ c.in-None.is) c.if-parts-gt15.false)

pub append_plain_tail-requires-clause-room : goal.append_plain_tail-requires-clause-room
append_plain_tail-requires-clause-room c =
    let four : length c.args.instr.now.ops ≡ 4 = search rules in
    let front = c.append_front.ensures ∙ ap (λ (xs : List ℕ). xs ++ front_written c.args.row.now c.args.parts.now.state) c.requires.empty in
    written-room c.args.bits c.args.parts.now.ip c.args.row.now c.args.instr.now c.args.parts.now _
    (parts_written c.args.bits c.args.parts.now.ip c.args.row.now c.args.instr.now c.args.parts.now c.requires.sound c.requires.writable c.requires.exists four refl c.requires.parts (sym c.first_failed_of.ensures ∙ c.in-None.is) c.if-parts-gt15.false)
    front

pub returns : goal.returns
returns c =
    let row = c.args.row.now in
    let i = c.args.instr.now in
    let bits = c.args.bits in
    let ip = c.args.parts.now.ip in
    let four : length i.ops ≡ 4 = search rules in
    let w = parts_written c.args.bits c.args.parts.now.ip c.args.row.now c.args.instr.now c.args.parts.now c.requires.sound c.requires.writable c.requires.exists four refl c.requires.parts (sym c.first_failed_of.ensures ∙ c.in-None.is) c.if-parts-gt15.false in
    let front = c.append_front.ensures ∙ ap (λ (xs : List ℕ). xs ++ front_written row c.args.parts.now.state) c.requires.empty in
    let bytes = c.append_plain_tail.ensures ∙ written-bytes bits ip row i c.args.parts.now _ w front in
    let short : plain_len bits row i ≤ 15 = subst (λ (n : ℕ). n ≤ 15) c.requires.parts.len c.if-parts-gt15.false in
    let ok : List ℕ → Result (List ℕ) NoSpelling = λ xs. Ok xs in
    ap ok bytes
    ∙ ap (λ why. encoded_by why (bytes_of row (plain_spelling bits ip row i))) (sym (nothing_fails bits ip row i c.requires.exists w.suited.suits short))
