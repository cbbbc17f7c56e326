use Rattle.std.proofs.Common.{rules, ◌≡◌, ◌∙◌, ap, ℕ, ◌+◌, ◌%◌, Bool, true, false, not, ◌==◌, List, [], ◌∷◌, ◌++◌, length, Some, Result, Ok, arith}
use Rattle.std.proofs.Math.Facts.{Fits-of_lt}
use Rattle.std.proofs.lemmas.Bool.{ne_eqb}
use Rattle.plain_spelling.specs.PlainTail.{rex_prefix}
use Rattle.plain_spelling.specs.declared.NoSpelling.{NoSpelling}
use Rattle.plain_spelling.proofs.PlainFrontLaws.{opcode_room}
use Rattle.encoder.specs.Frequent.{adds_register, is_first_map, is_alone, sized_number, rex_of}
use Rattle.encoder.proofs.FrequentFacts.{Known, first-map}
use Rattle.encoder.proofs.FrequentLow.{adds, low-encoded}
use Rattle.encoder.proofs.frequent.write_low.Goals as goal

pub overflow_add-row : goal.overflow_add-row
overflow_add-row c =
    let h : adds_register c.args.row.now.plus ≡ true = cc in
    let room = opcode_room c.args.row.now c.requires.sound (adds c.args.row.now.plus h) in
    Fits-of_lt (omega (arith, room))

pub returns-in-Some-clause-written : goal.returns-in-Some-clause-written
returns-in-Some-clause-written c h ip =
    let row = c.args.row.now in
    let i = c.args.instr.now in
    let n = c.in-Some.n in
    let four : length i.ops ≡ 4 = search rules in
    let k : Known row i = record { is_sound = c.requires.sound; is_writable = c.requires.writable; exists = c.requires.exists; four = four; bare = c.requires.bare } in
    let alone : is_alone row i ≡ true = cc in
    let p : adds_register row.plus ≡ true = cc in
    let m : is_first_map row.map ≡ true = cc in
    let other : (row.opcode == 0x90) ≡ false = ne_eqb row.opcode 0x90 c.if-row.false in
    let er : Some n ≡ sized_number true c.args.register = cc in
    let rex = c.rex_of.ensures ∙ ap (λ (b : Bool). rex_of (not b) 0 n) c.is_quad_by_mark-wide.ensures in
    let bytes = c.push.ensures.items ∙ ap (λ (xs : List ℕ). xs ++ ((row.opcode + n % 8) ∷ [])) (c.append_rex.ensures.items ∙ ap rex_prefix rex) in
    let ok : List ℕ → Result (List ℕ) NoSpelling = λ xs. Ok xs in
    ap ok bytes ∙ low-encoded row i c.args.register n k alone (adds row.plus p) (first-map row.map m) other c.requires.kind c.requires.register er ip
