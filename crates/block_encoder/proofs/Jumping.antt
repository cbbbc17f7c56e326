-- The near jump with an offset of the mode's own operand size: it has its bytes at its own target, and outside 64-bit mode at every address.
use Rattle.std.proofs.Common.{◌≡◌, ℕ, ◌+◌, ◌-◌, ◌%◌, ◌^◌, ◌≤◌, ◌<◌, inr, true, List, length, None, Ok, slice_get, refl, ap, ◌∙◌, arith}
use Rattle.std.proofs.lemmas.Bool.{lt-ltb}
use Rattle.x86_values.specs.declared.Bits.{Bits}
use Rattle.x86_values.specs.declared.Bits.TheVariants.{B16, B32, B64}
use Rattle.x86_values.specs.declared.Instr.{Instr}
use Rattle.x86_values.specs.Wrapping.{width, modulo_width}
use Rattle.instruction_parts.specs.declared.row_types.Row.{Row}
use Rattle.instruction_parts.specs.declared.row_types.Map.TheVariants.{One}
use Rattle.instruction_parts.specs.declared.row_types.OpKind.TheVariants.{Jz}
use Rattle.instruction_parts.specs.Bytes.{bytes_of}
use Rattle.instruction_parts.specs.Kinds.{method_of, immediate_width}
use Rattle.instruction_parts.specs.Sizes.{exists_in, operand_size}
use Rattle.row_fit.specs.Fits.{immediate_bytes}
use Rattle.plain_spelling.specs.Values.{is_extended_of, distance}
use Rattle.plain_spelling.specs.Forms.{is_variant_of}
use Rattle.plain_spelling.specs.PlainFront.{asks_rex_w, asks_66}
use Rattle.plain_spelling.specs.PlainTail.{plain_size, plain_next, plain_spelling}
use Rattle.plain_spelling.specs.Expressible.{Suits, kind_suits, register_suits, address_suits, displacement_offered, immediate_suits, immediate_suits_how, near_reaches, target_suits, lock_suits, repeat_suits, prefixes_suit, has_memory_operand, address_size_suits}
use Rattle.opcode_rows.specs.Table.{table}
use Rattle.encoder.specs.Encoding.{encoding}
use Rattle.move_goals.specs.MovedTargets.Targets.{plain_length}
use Rattle.move_goals.specs.declared.branch_forms.branch.Action.TheVariants.{Jump}
use Rattle.move_goals.specs.BranchForms.Branches.{near_code}
use Rattle.move_goals.specs.BranchForms.Images.{branch_to}
use Rattle.move_goals.specs.BranchForms.Rows.{offset_row}
use Rattle.move_goals.specs.Items.{IsPlaced}
use Rattle.block_encoder.specs.LawsBelow.{MovedLawsBelow}
use Rattle.block_encoder.proofs.Spelled.{only_first, branch_to-code, near-encoded}

-- the jump
abbrev near_jump : Bits → ℕ → Instr
near_jump bits t = branch_to (near_code Jump bits) None t

-- an instruction has an encoding at an address
abbrev IsEncodedIn : Bits → ℕ → Instr → Type 0
IsEncodedIn bits at i = (bytes : List ℕ) × (encoding bits at i ≡ Ok bytes)

-- ---- outside 64-bit mode an offset of the operand size comes to every address

-- the bytes of the offset
abbrev offset_len : Bits → ℕ
offset_len B16 = 2
offset_len _ = 4

all_near : (bits : Bits) (next t : ℕ) → (bits ≡ B64 → ⊥) → is_extended_of (offset_len bits) (width bits) (distance bits next t) ≡ true
unfolding is_extended_of distance
all_near B64 next t other = absurd (other refl)
all_near B16 next t other = rw (lt-ltb ((t + (2 ^ 64 - next)) % 2 ^ 16) (2 ^ 16) (omega arith)) refl
all_near B32 next t other = rw (lt-ltb ((t + (2 ^ 64 - next)) % 2 ^ 32) (2 ^ 32) (omega arith)) refl

jump-suits : (bits : Bits) (t ip : ℕ) → (bits ≡ B64 → ⊥) → t < 2 ^ width bits → Suits bits ip (offset_row One 0xE9 Jz 20 bits) (near_jump bits t)
unfolding branch_to exists_in kind_suits is_variant_of method_of register_suits address_suits displacement_offered immediate_suits immediate_suits_how target_suits near_reaches plain_size operand_size immediate_bytes immediate_width prefixes_suit lock_suits repeat_suits address_size_suits has_memory_operand asks_rex_w asks_66
jump-suits B64 t ip other below = absurd (other refl)
jump-suits bits t ip other below = record {
  exists = refl;
  kinds = refl;
  registers = refl;
  addresses = refl;
  displacements = refl;
  immediates = refl;
  targets =
      only_first _ _ (lt-ltb t (2 ^ width bits) below) (all_near bits (plain_next bits ip (offset_row One 0xE9 Jz 20 bits) (near_jump bits t)) t other);
  prefixes = refl;
  address_size = refl;
}

back_by : (t n : ℕ) → t < 2 ^ 64 → n ≡ 5 → 2 ^ 64 ≤ (t + (2 ^ 64 - (t % 2 ^ 64 + n) % 2 ^ 64)) % 2 ^ 64 + 2 ^ 31
back_by t n below e = omega (arith, below, e)

jump-four : (bits : Bits) (t : ℕ) → length (near_jump bits t).ops ≡ 4
unfolding branch_to
jump-four bits t = refl

module _ (laws : MovedLawsBelow) where
  jump-size : (bits : Bits) (t : ℕ) → (1 ≤ plain_length bits (near_jump bits t)) × (plain_length bits (near_jump bits t) ≤ 15)
  jump-size B16 t = let e = laws.pieces.near_jump-length B16 B16 t in (omega (arith, e), omega (arith, e))
  jump-size B32 t = let e = laws.pieces.near_jump-length B32 B32 t in (omega (arith, e), omega (arith, e))
  jump-size B64 t = let e = laws.pieces.near_jump-length B64 B64 t in (omega (arith, e), omega (arith, e))

  -- **outside 64-bit mode the jump is encoded at every address**
  pub jump-encoded : (bits : Bits) (at t : ℕ) → (bits ≡ B64 → ⊥) → t < 2 ^ width bits → IsEncodedIn bits at (near_jump bits t)
  jump-encoded bits at t other below =
      let row : Row = offset_row One 0xE9 Jz 20 bits in
      let i : Instr = near_jump bits t in
      let there = ap (slice_get table) (branch_to-code (near_code Jump bits) None t) ∙ laws.codes.near-jump bits in
      let len = laws.targets.plain_length-row bits i row there in
      let short = (jump-size bits t).1 in
      (bytes_of row (plain_spelling bits (modulo_width bits at) row i), laws.encodings.suits-encoded bits at row i there (jump-suits bits t (modulo_width bits at) other below) (omega (arith, len, short)))

  encoded-there : (bits : Bits) (t : ℕ) → t < 2 ^ width bits → IsEncodedIn bits t (near_jump bits t)
  unfolding distance
  encoded-there B16 t below = jump-encoded B16 t t (λ e. cc) below
  encoded-there B32 t below = jump-encoded B32 t t (λ e. cc) below
  encoded-there B64 t below =
      let e = laws.pieces.near_jump-length B64 B64 t in
      let n = plain_length B64 (near_jump B64 t) in
      let len : n ≡ 5 = omega (arith, e) in
      near-encoded laws One 0xE9 (near_code Jump B64) t t (laws.codes.near-jump B64) (omega (arith, len)) below
      (laws.distances.signed 4 (2 ^ 31) ((t + (2 ^ 64 - (t % 2 ^ 64 + n) % 2 ^ 64)) % 2 ^ 64) refl (omega arith) (inr (back_by t n below len)))

  -- **the jump as one that stands at its target is well placed**
  pub jump-placed : (bits : Bits) (t len : ℕ) → t < 2 ^ width bits → len ≡ plain_length bits (near_jump bits t)
      → IsPlaced bits (record { ip = t; len = len; instr = near_jump bits t })
  jump-placed bits t len below is =
      let e = encoded-there bits t below in
      let size = jump-size bits t in
      record {
        some = omega (arith, is, size.0);
        few = omega (arith, is, size.1);
        bytes = e.0;
        spelled = laws.encodings.plain-spells bits (modulo_width bits t) e.0 (near_jump bits t) (laws.encodings.encoded-plain bits t (near_jump bits t) e.0 (jump-four bits t) e.1);
      }
