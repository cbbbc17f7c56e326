use Rattle.std.proofs.Common.{rules, ◌≡◌, ◌∙◌, ap, sym, subst, ℕ, ◌≤◌, true, List, ◌∷◌, ◌++◌, length, Some, Result, Ok, arith}
use Rattle.x86_values.specs.declared.Bits.TheVariants.{B64}
use Rattle.plain_spelling.specs.Addresses.{displacement_count, is_based}
use Rattle.plain_spelling.specs.PlainTail.{rex_prefix}
use Rattle.plain_spelling.specs.declared.NoSpelling.{NoSpelling}
use Rattle.encoder.specs.Frequent.{takes_memory, width_of, sized_number, rex_of, based_bytes}
use Rattle.encoder.proofs.FrequentFacts.{Known}
use Rattle.encoder.proofs.FrequentMemory.{memory-encoded, base-of, based-few, written-behind}
use Rattle.encoder.proofs.frequent.write_memory.Goals as goal

pub append_based-requires-clause-few : goal.append_based-requires-clause-few
append_based-requires-clause-few c =
    let eb = base-of c.args.memory.base c.in-Some.base (sym c.in-Some.is ∙ c.quad_base.ensures) in
    let based : is_based B64 c.args.memory ≡ true = cc in
    subst (λ (n : ℕ). n ≤ 4) (sym c.displacement_count.ensures.value) (based-few c.args.memory c.in-Some.base eb based)

pub returns-in-Some-sized_number-clause-written : goal.returns-in-Some-sized_number-clause-written
returns-in-Some-sized_number-clause-written c h ip =
    let row = c.args.row.now in
    let i = c.args.instr.now in
    let m = c.args.memory in
    let wide = c.in-Some-width_of.wide in
    let base = c.in-Some.base in
    let reg = c.in-Some-sized_number.reg in
    let four : length i.ops ≡ 4 = search rules in
    let k : Known row i = record { is_sound = c.requires.sound; is_writable = c.requires.writable; exists = c.requires.exists; four = four; bare = c.requires.bare } in
    let takes : takes_memory row i ≡ true = cc in
    let ew : Some wide ≡ width_of row.size = cc in
    let eb = base-of m.base base (sym c.in-Some.is ∙ c.quad_base.ensures) in
    let based : is_based B64 m ≡ true = cc in
    let er : Some reg ≡ sized_number wide c.args.register = cc in
    let bytes : c.append_based.new.out.items ≡ rex_prefix (rex_of wide reg base) ++ (row.opcode ∷ based_bytes reg base (displacement_count m.disp_size) m.disp) =
    written-behind _ _ _ _ _ _ row.opcode (c.append_rex.ensures.items ∙ ap rex_prefix c.rex_of.ensures) c.push.ensures.items c.append_based.ensures.items (ap (λ (n : ℕ). based_bytes reg base n m.disp) c.displacement_count.ensures.value) in
    let few : length c.append_based.new.out.items ≤ 15 = omega (arith, c.append_based.ensures.len, c.push.ensures.len, c.append_rex.ensures.len) in
    let ok : List ℕ → Result (List ℕ) NoSpelling = λ xs. Ok xs in
    ap ok bytes ∙ memory-encoded row i wide c.args.register m base reg k takes ew c.requires.operands eb based er (subst (λ (xs : List ℕ). length xs ≤ 15) bytes few) ip
