use Rattle.std.proofs.Common.{rules, ◌≡◌, ◌∙◌, ap, ℕ, ◌+◌, ◌*◌, ◌%◌, true, List, [], ◌∷◌, ◌++◌, length, Some, Result, Ok, append_assoc}
use Rattle.plain_spelling.specs.PlainTail.{rex_prefix}
use Rattle.plain_spelling.specs.declared.NoSpelling.{NoSpelling}
use Rattle.encoder.specs.Frequent.{takes_registers, width_of, sized_number, rex_of}
use Rattle.encoder.proofs.FrequentFacts.{Known}
use Rattle.encoder.proofs.FrequentRegisters.{registers-encoded}
use Rattle.encoder.proofs.frequent.write_registers.Goals as goal

pub returns-in-Some-Some-clause-written : goal.returns-in-Some-Some-clause-written
returns-in-Some-Some-clause-written c h ip =
    let row = c.args.row.now in
    let i = c.args.instr.now in
    let wide = c.in-Some.wide in
    let rm = c.in-Some-Some.rm in
    let reg = c.in-Some-Some.reg in
    let four : length i.ops ≡ 4 = search rules in
    let k : Known row i = record { is_sound = c.requires.sound; is_writable = c.requires.writable; exists = c.requires.exists; four = four; bare = c.requires.bare } in
    let takes : takes_registers row i ≡ true = cc in
    let ew : Some wide ≡ width_of row.size = cc in
    let ea : Some rm ≡ sized_number wide c.args.first = cc in
    let eb : Some reg ≡ sized_number wide c.args.second = cc in
    let join = append_assoc (rex_prefix (rex_of wide reg rm)) (row.opcode ∷ []) ((3 * 64 + reg % 8 * 8 + rm % 8) ∷ []) in
    let bytes : c.push-in-Some-Some.new.self.items ≡ rex_prefix (rex_of wide reg rm) ++ (row.opcode ∷ (3 * 64 + reg % 8 * 8 + rm % 8) ∷ []) = cc in
    let ok : List ℕ → Result (List ℕ) NoSpelling = λ xs. Ok xs in
    ap ok bytes ∙ registers-encoded row i wide c.args.first c.args.second rm reg k takes ew c.requires.operands ea eb ip
