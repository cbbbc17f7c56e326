-- What is spelled at some address and is no near branch has a plain spelling elsewhere.
use Rattle.std.proofs.Common.{◌≡◌, ◌+◌, ◌≤◌, ◌<◌, ◌^◌, ℕ, Bool, true, ◌&&◌, List, Some, None, Ok, slice_get, refl, ap, ◌∙◌, arith}
use Rattle.std.proofs.lemmas.Bool.{and_parts}
use Rattle.x86_values.specs.declared.Bits.{Bits}
use Rattle.x86_values.specs.declared.Instr.{Instr}
use Rattle.x86_values.specs.Wrapping.{width, modulo_width}
use Rattle.instruction_parts.specs.declared.row_types.Row.{Row}
use Rattle.instruction_parts.specs.Kinds.{method_of, file_of}
use Rattle.instruction_parts.specs.Bytes.{bytes_of}
use Rattle.row_fit.specs.Fits.{kind_at, immediate_bytes}
use Rattle.row_relation.specs.Spells.{Spells}
use Rattle.plain_spelling.specs.Forms.{operand_at}
use Rattle.plain_spelling.specs.PlainTail.{plain_spelling, plain_size, plain_len, plain_next}
use Rattle.plain_spelling.specs.Expressible.{Suits, each_operand, kind_suits, register_suits, address_suits, displacement_offered, immediate_suits, target_suits}
use Rattle.opcode_rows.specs.Table.{table}
use Rattle.operand_info.specs.Operands.{near_value, first_value}
use Rattle.encoder.specs.Encoding.{encoding}
use Rattle.encoder.specs.Facts.{EncodingFacts, SpelledFacts, SuitsElsewhere}
use Rattle.branch_sizes.specs.Layout.{Reaches}
use Rattle.move_goals.specs.MovedTargets.Targets.{operand_reach, target_reach, with_target, plain_length}
use Rattle.move_goals.proofs.MovedTargets.Ignored.{operand_at-with_target}
use Rattle.move_goals.proofs.MovedTargets.Unchanged.{len-with_target}
use Rattle.move_goals.proofs.MovedTargets.Lengths.{plain_length-row, some_byte, code-with_target}
use Rattle.move_goals.proofs.MovedTargets.Aims.{no_value}
use Rattle.move_goals.proofs.MovedTargets.Conditions.{same_each, kind_suits-with_target, register_suits-with_target, address_suits-with_target, immediate_suits-with_target, prefixes_suit-with_target, address_size_suits-with_target}
use Rattle.move_goals.proofs.MovedTargets.Reaches.{Reached, displacement_of_operand_suits, operand-offered, target_of_operand_suits, operand-reached}
use Rattle.move_goals.proofs.MovedTargets.Shared.{all_reached}

-- ---- one operand

offered_there : (bits : Bits) (row : Row) (i : Instr) (len place t n : ℕ) → Reached (operand_reach (operand_at i n)) len place t → t < 2 ^ 64 → displacement_offered bits row i n ≡ true → displacement_offered bits row (with_target t i) n ≡ true
unfolding displacement_offered with_target
offered_there bits row i len place t n reach below h =
    let how = method_of (kind_at row n) in
    ap (displacement_of_operand_suits bits i.asize how) (operand_at-with_target t i n) ∙ operand-offered bits i.asize how (operand_at i n) len place t reach below h

-- the place, the target and the length of the plain spelling
record Aim (bits : Bits) (row : Row) (i : Instr) (place t : ℕ) : Type 0 where
  within : place + plain_len bits row i ≤ 2 ^ width bits
  below : t < 2 ^ 64

next_is : (bits : Bits) (row : Row) (i : Instr) (ip t : ℕ) → plain_next bits ip row (with_target t i) ≡ modulo_width bits (ip + plain_len bits row i)
unfolding plain_next
next_is bits row i ip t = ap (λ (n : ℕ). modulo_width bits (ip + n)) (len-with_target bits t row i)

targeted_there : (bits : Bits) (row : Row) (i : Instr) (place t n : ℕ) → Aim bits row i place t → near_value (operand_at i n) ≡ None → Reached (operand_reach (operand_at i n)) (plain_len bits row i) place t → address_suits bits row i n ≡ true → target_suits bits (modulo_width bits place) row (with_target t i) n ≡ true
unfolding target_suits address_suits
targeted_there bits row i place t n a none reach shape =
    let how = method_of (kind_at row n) in
    let file = file_of (kind_at row n) in
    let size = plain_size bits row in
    let count = immediate_bytes size (kind_at row n) in
    let len = plain_len bits row i in
    ap (λ (next : ℕ). target_of_operand_suits size next count (operand_at (with_target t i) n)) (next_is bits row i (modulo_width bits place) t)
    ∙ ap (target_of_operand_suits size (modulo_width bits (modulo_width bits place + len)) count) (operand_at-with_target t i n)
    ∙ operand-reached bits size count row how file (operand_at i n) len place t none shape reach a.below (some_byte bits row i) a.within

-- ---- all operands

-- a condition holds of each of the four
record Each (p : ℕ → Bool) : Type 0 where
  first : p 0 ≡ true
  second : p 1 ≡ true
  third : p 2 ≡ true
  fourth : p 3 ≡ true

each_of : (p : ℕ → Bool) → each_operand p ≡ true → Each p
each_of p h =
    let b = (and_parts (p 0) (p 1 && (p 2 && p 3)) h).1 in
    let c = (and_parts (p 1) (p 2 && p 3) b).1 in
    record {
      first = (and_parts (p 0) (p 1 && (p 2 && p 3)) h).0;
      second = (and_parts (p 1) (p 2 && p 3) b).0;
      third = (and_parts (p 2) (p 3) c).0;
      fourth = (and_parts (p 2) (p 3) c).1;
    }

to_each : (p : ℕ → Bool) → p 0 ≡ true → p 1 ≡ true → p 2 ≡ true → p 3 ≡ true → each_operand p ≡ true
to_each p a b c d = rw (a, b, c, d) refl

-- **the conditions hold there**
pub suits-elsewhere : (bits : Bits) (place t : ℕ) (row : Row) (i : Instr) → SuitsElsewhere bits row i → first_value near_value i ≡ None → Reaches (target_reach i) (plain_len bits row i) place t → place + plain_len bits row i ≤ 2 ^ width bits → t < 2 ^ 64 → Suits bits (modulo_width bits place) row (with_target t i)
suits-elsewhere bits place t row i n none reach within below =
    let len = plain_len bits row i in
    let r = all_reached bits row i len place t n.address_size reach in
    let near = no_value near_value i none in
    let shape = each_of (address_suits bits row i) n.addresses in
    let disp = each_of (displacement_offered bits row i) n.displacements in
    let a : Aim bits row i place t = record { within = within; below = below } in
    record {
      exists = n.exists;
      kinds = same_each (kind_suits row (with_target t i)) (kind_suits row i) (kind_suits-with_target t row i) ∙ n.kinds;
      registers = same_each (register_suits bits row (with_target t i)) (register_suits bits row i) (register_suits-with_target bits t row i) ∙ n.registers;
      addresses = same_each (address_suits bits row (with_target t i)) (address_suits bits row i) (address_suits-with_target bits t row i) ∙ n.addresses;
      displacements = to_each (displacement_offered bits row (with_target t i))
          (offered_there bits row i len place t 0 r.first below disp.first)
          (offered_there bits row i len place t 1 r.second below disp.second)
          (offered_there bits row i len place t 2 r.third below disp.third)
          (offered_there bits row i len place t 3 r.fourth below disp.fourth);
      immediates = same_each (immediate_suits bits row (with_target t i)) (immediate_suits bits row i) (immediate_suits-with_target bits t row i) ∙ n.immediates;
      targets = to_each (target_suits bits (modulo_width bits place) row (with_target t i))
          (targeted_there bits row i place t 0 a near.first r.first shape.first)
          (targeted_there bits row i place t 1 a near.second r.second shape.second)
          (targeted_there bits row i place t 2 a near.third r.third shape.third)
          (targeted_there bits row i place t 3 a near.fourth r.fourth shape.fourth);
      prefixes = prefixes_suit-with_target t row i ∙ n.prefixes;
      address_size = address_size_suits-with_target bits t row i ∙ n.address_size;
    }

-- ---- the encoding

-- **what is spelled at some address and is no near branch has an encoding elsewhere, aimed at what it reaches from there**
pub encoded-elsewhere : (encodings : EncodingFacts) (spelled : SpelledFacts) (bits : Bits) (old place t : ℕ) (bytes : List ℕ) (i : Instr) → Spells table bits old bytes i → first_value near_value i ≡ None → Reaches (target_reach i) (plain_length bits i) place t → place + plain_length bits i ≤ 2 ^ width bits → t < 2 ^ 64 → (plain : List ℕ) × (encoding bits place (with_target t i) ≡ Ok plain)
encoded-elsewhere encodings spelled bits old place t bytes i (short, (row, at, (s, e))) none reach within below =
    let n = spelled.spelled-suits bits old bytes i row s at e in
    let l = plain_length-row bits i row at in
    let suits = suits-elsewhere bits place t row i n none (rw l at reach) (rw l at within) below in
    let there : plain_len bits row (with_target t i) ≤ 15 = omega (arith, len-with_target bits t row i, spelled.spelled-least bits old bytes i row s at e, short) in
    let row_at : slice_get table (with_target t i).code.0 ≡ Some row = rw (code-with_target t i) at in
    (bytes_of row (plain_spelling bits (modulo_width bits place) row (with_target t i)), encodings.suits-encoded bits place row (with_target t i) row_at suits there)
