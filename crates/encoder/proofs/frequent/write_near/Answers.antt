use Rattle.std.proofs.Common.{rules, ◌≡◌, ◌∙◌, ap, subst, ℕ, ◌+◌, ◌≤◌, ◌^◌, ◌&&◌, true, List, [], ◌∷◌, ◌++◌, length, nat_lt, Result, Ok, arith}
use Rattle.x86_values.specs.declared.Bits.TheVariants.{B64}
use Rattle.x86_values.specs.Wrapping.{modulo_width, width}
use Rattle.instruction_parts.specs.Bytes.{escape_bytes}
use Rattle.row_fit.specs.Fits.{kind_at, immediate_bytes}
use Rattle.plain_spelling.specs.Values.{low_bytes, distance, is_extended_of}
use Rattle.plain_spelling.specs.declared.NoSpelling.{NoSpelling}
use Rattle.encoder.specs.Frequent.{is_alone, is_quad_by_mark}
use Rattle.encoder.proofs.FrequentFacts.{Known}
use Rattle.encoder.proofs.FrequentNear.{near-encoded, written-short, written-long, offset-bytes}
use Rattle.encoder.proofs.frequent.write_near.Goals as goal

pub returns-else-not-reaches-clause-written : goal.returns-else-not-reaches-clause-written
returns-else-not-reaches-clause-written c h =
    let row = c.args.row.now in
    let i = c.args.instr.now in
    let len = 1 + c.args.count in
    let offset = distance B64 (modulo_width B64 (c.args.ip + len)) c.args.target in
    let four : length i.ops ≡ 4 = search rules in
    let k : Known row i = record { is_sound = c.requires.sound; is_writable = c.requires.writable; exists = c.requires.exists; four = four; bare = c.requires.bare } in
    let alone : is_alone row i ≡ true = cc in
    let marked : is_quad_by_mark row ≡ true = cc in
    let map : escape_bytes row.map ≡ [] = ap escape_bytes c.in-One.is in
    let long : length (escape_bytes row.map) + (1 + immediate_bytes B64 (kind_at row 0)) ≡ len = rw map (omega (arith, c.requires.count)) in
    let reaches : (nat_lt c.args.target (2 ^ width B64) && is_extended_of (immediate_bytes B64 (kind_at row 0)) (width B64) offset) ≡ true = cc in
    let bytes : c.append_number.new.out.items ≡ escape_bytes row.map ++ (row.opcode ∷ low_bytes (immediate_bytes B64 (kind_at row 0)) offset) =
    written-short _ _ _ _ _ _ row.opcode c.requires.empty c.push.ensures.items c.append_number.ensures.items (offset-bytes _ _ _ _ c.requires.count c.offset_of-offset.ensures) map in
    let few : length c.append_number.new.out.items ≤ 15 = omega (arith, c.append_number.ensures.len, c.push.ensures.len, ap length c.requires.empty, c.requires.few) in
    let ok : List ℕ → Result (List ℕ) NoSpelling = λ xs. Ok xs in
    ap ok bytes ∙ near-encoded c.args.ip row i len c.args.target k alone marked c.requires.how c.requires.target long reaches (subst (λ (xs : List ℕ). length xs ≤ 15) bytes few)

pub returns-else-not-reaches-2-clause-written : goal.returns-else-not-reaches-2-clause-written
returns-else-not-reaches-2-clause-written c h =
    let row = c.args.row.now in
    let i = c.args.instr.now in
    let len = 2 + c.args.count in
    let offset = distance B64 (modulo_width B64 (c.args.ip + len)) c.args.target in
    let four : length i.ops ≡ 4 = search rules in
    let k : Known row i = record { is_sound = c.requires.sound; is_writable = c.requires.writable; exists = c.requires.exists; four = four; bare = c.requires.bare } in
    let alone : is_alone row i ≡ true = cc in
    let marked : is_quad_by_mark row ≡ true = cc in
    let map : escape_bytes row.map ≡ 0x0F ∷ [] = ap escape_bytes c.in-M0f.is in
    let long : length (escape_bytes row.map) + (1 + immediate_bytes B64 (kind_at row 0)) ≡ len = rw map (omega (arith, c.requires.count)) in
    let reaches : (nat_lt c.args.target (2 ^ width B64) && is_extended_of (immediate_bytes B64 (kind_at row 0)) (width B64) offset) ≡ true = cc in
    let bytes : c.append_number-in-M0f.new.out.items ≡ escape_bytes row.map ++ (row.opcode ∷ low_bytes (immediate_bytes B64 (kind_at row 0)) offset) =
    written-long _ _ _ _ _ _ _ 0x0F row.opcode c.requires.empty c.push-in-M0f.ensures.items c.push-in-M0f-2.ensures.items c.append_number-in-M0f.ensures.items (offset-bytes _ _ _ _ c.requires.count c.offset_of-offset-in-M0f.ensures) map in
    let few : length c.append_number-in-M0f.new.out.items ≤ 15 = omega (arith, c.append_number-in-M0f.ensures.len, c.push-in-M0f-2.ensures.len, c.push-in-M0f.ensures.len, ap length c.requires.empty, c.requires.few) in
    let ok : List ℕ → Result (List ℕ) NoSpelling = λ xs. Ok xs in
    ap ok bytes ∙ near-encoded c.args.ip row i len c.args.target k alone marked c.requires.how c.requires.target long reaches (subst (λ (xs : List ℕ). length xs ≤ 15) bytes few)
