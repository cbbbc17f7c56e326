-- The branches of images have plain spellings in 64-bit mode.
use Rattle.std.proofs.Common.{◌≡◌, ℕ, ◌+◌, ◌^◌, ◌≤◌, ◌<◌, ◌⊎◌, inl, inr, Bool, true, false, ◌&&◌, List, Option, Some, None, Ok, nat_lt, slice_get, refl, ap, sym, ◌∙◌, arith}
use Rattle.std.proofs.lemmas.Bool.{lt-ltb}
use Rattle.x86_values.specs.declared.Bits.{Bits}
use Rattle.x86_values.specs.declared.Bits.TheVariants.{B32, B64}
use Rattle.x86_values.specs.declared.Instr.{Instr}
use Rattle.x86_values.specs.Wrapping.{modulo_width}
use Rattle.instruction_parts.specs.declared.row_types.Row.{Row}
use Rattle.instruction_parts.specs.declared.row_types.Map.{Map}
use Rattle.instruction_parts.specs.declared.row_types.OpKind.TheVariants.{Jb, Jz}
use Rattle.instruction_parts.specs.Bytes.{bytes_of}
use Rattle.instruction_parts.specs.Kinds.{method_of, file_of, immediate_width}
use Rattle.instruction_parts.specs.Sizes.{exists_in, operand_size}
use Rattle.row_fit.specs.Fits.{immediate_bytes}
use Rattle.plain_spelling.specs.Values.{is_extended_of, distance}
use Rattle.plain_spelling.specs.Forms.{is_variant_of, is_allowed_in}
use Rattle.plain_spelling.specs.Addresses.{has_address_size, form_of, offers, form_offers, displacement_count, is_displacement, displacement_suits, is_shape, shape_suits, pointer_size, shown_size, written_size}
use Rattle.plain_spelling.specs.PlainTail.{plain_size, plain_next, plain_spelling}
use Rattle.plain_spelling.specs.Expressible.{Suits, each_operand, kind_suits, register_suits, address_suits, displacement_offered, immediate_suits, immediate_suits_how, near_reaches, address_reaches, target_suits, lock_suits, repeat_suits, prefixes_suit, has_memory_operand, told_size, size_agrees, is_size_of, address_size_suits}
use Rattle.opcode_rows.specs.Table.{table}
use Rattle.encoder.specs.Encoding.{encoding}
use Rattle.move_goals.specs.MovedTargets.Targets.{plain_length}
use Rattle.move_goals.specs.BranchForms.Images.{branch_to, through_slot}
use Rattle.move_goals.specs.BranchForms.Rows.{offset_row, memory_row}
use Rattle.block_encoder.specs.LawsBelow.{MovedLawsBelow}

-- of four tests of which the others pass
pub only_first : (a b : Bool) → a ≡ true → b ≡ true → ((a && b) && (true && (true && true))) ≡ true
only_first a b p q = rw (p, q) refl

first_alone : (a : Bool) → a ≡ true → (a && (true && (true && true))) ≡ true
first_alone a p = rw p refl

-- an instruction has an encoding at an address of 64-bit mode
abbrev pub IsEncoded : ℕ → Instr → Type 0
IsEncoded at i = (bytes : List ℕ) × (encoding B64 at i ≡ Ok bytes)

-- ---- offsets

-- the marks of a branch of 8 bits: one on a counter has an address size
abbrev pub marks_of : Bool → ℕ
marks_of true = 22
marks_of false = 20

short-targets : (map : Map) (counts : Bool) (opcode code : ℕ) (asize : Option Bits) (t ip : ℕ) → t < 2 ^ 64
    → is_extended_of 1 64 (distance B64 (plain_next B64 ip (offset_row map opcode Jb (marks_of counts) B64) (branch_to code asize t)) t) ≡ true
    → each_operand (target_suits B64 ip (offset_row map opcode Jb (marks_of counts) B64) (branch_to code asize t)) ≡ true
unfolding branch_to exists_in is_variant_of method_of immediate_suits immediate_suits_how target_suits near_reaches plain_size operand_size immediate_bytes immediate_width
short-targets map true opcode code asize t ip below near = only_first _ _ (lt-ltb t (2 ^ 64) below) near
short-targets map false opcode code asize t ip below near = only_first _ _ (lt-ltb t (2 ^ 64) below) near

short-suits : (map : Map) (counts : Bool) (opcode code : ℕ) (asize : Option Bits) (t ip : ℕ)
    → address_size_suits B64 (offset_row map opcode Jb (marks_of counts) B64) (branch_to code asize t) ≡ true → t < 2 ^ 64
    → is_extended_of 1 64 (distance B64 (plain_next B64 ip (offset_row map opcode Jb (marks_of counts) B64) (branch_to code asize t)) t) ≡ true
    → Suits B64 ip (offset_row map opcode Jb (marks_of counts) B64) (branch_to code asize t)
unfolding branch_to exists_in kind_suits is_variant_of method_of register_suits address_suits displacement_offered immediate_suits immediate_suits_how target_suits near_reaches plain_size operand_size immediate_bytes immediate_width prefixes_suit lock_suits repeat_suits
short-suits map counts opcode code asize t ip sized below near = record {
  exists = refl;
  kinds = refl;
  registers = refl;
  addresses = refl;
  displacements = refl;
  immediates = refl;
  targets = short-targets map counts opcode code asize t ip below near;
  prefixes = refl;
  address_size = sized;
}

near-suits : (map : Map) (opcode code t ip : ℕ) → t < 2 ^ 64
    → is_extended_of 4 64 (distance B64 (plain_next B64 ip (offset_row map opcode Jz 20 B64) (branch_to code None t)) t) ≡ true
    → Suits B64 ip (offset_row map opcode Jz 20 B64) (branch_to code None t)
unfolding branch_to exists_in kind_suits is_variant_of method_of register_suits address_suits displacement_offered immediate_suits immediate_suits_how target_suits near_reaches plain_size operand_size immediate_bytes immediate_width prefixes_suit lock_suits repeat_suits address_size_suits has_memory_operand
near-suits map opcode code t ip below near = record {
  exists = refl;
  kinds = refl;
  registers = refl;
  addresses = refl;
  displacements = refl;
  immediates = refl;
  targets = only_first (nat_lt t (2 ^ 64)) (is_extended_of 4 64 (distance B64 (plain_next B64 ip (offset_row map opcode Jz 20 B64) (branch_to code None t)) t)) (lt-ltb t (2 ^ 64) below) near;
  prefixes = refl;
  address_size = refl;
}

-- without an address size
pub no_size : (map : Map) (opcode code t : ℕ) → address_size_suits B64 (offset_row map opcode Jb 20 B64) (branch_to code None t) ≡ true
unfolding branch_to address_size_suits has_memory_operand
no_size map opcode code t = refl

-- on a counter with an address size of 64-bit mode
pub count_size : (map : Map) (opcode code : ℕ) (asize : Option Bits) (t : ℕ) → (asize ≡ Some B32) ⊎ (asize ≡ Some B64) → address_size_suits B64 (offset_row map opcode Jb 22 B64) (branch_to code asize t) ≡ true
unfolding branch_to address_size_suits has_memory_operand is_size_of size_agrees method_of has_address_size
count_size map opcode code asize t (inl e) = rw e refl
count_size map opcode code asize t (inr e) = rw e refl

-- the code of a branch
pub branch_to-code : (code : ℕ) (asize : Option Bits) (t : ℕ) → (branch_to code asize t).code.0 ≡ code
unfolding branch_to
branch_to-code code asize t = refl

-- ---- slots

slot-suits : (digit code slot ip : ℕ) → slot < 2 ^ 64
    → is_extended_of 4 64 (distance B64 (plain_next B64 ip (memory_row digit) (through_slot code slot)) slot) ≡ true
    → Suits B64 ip (memory_row digit) (through_slot code slot)
unfolding through_slot exists_in kind_suits is_variant_of is_allowed_in method_of file_of register_suits address_suits shape_suits is_shape form_of displacement_offered displacement_suits offers form_offers displacement_count is_displacement written_size shown_size pointer_size immediate_suits immediate_suits_how target_suits address_reaches plain_size operand_size immediate_bytes immediate_width prefixes_suit lock_suits repeat_suits address_size_suits has_memory_operand is_size_of size_agrees told_size has_address_size
slot-suits digit code slot ip below near = record {
  exists = refl;
  kinds = refl;
  registers = refl;
  addresses = refl;
  displacements = first_alone (nat_lt slot (2 ^ 64)) (lt-ltb slot (2 ^ 64) below);
  immediates = refl;
  targets = first_alone (is_extended_of 4 64 (distance B64 (plain_next B64 ip (memory_row digit) (through_slot code slot)) slot)) near;
  prefixes = refl;
  address_size = refl;
}

through_slot-code : (code slot : ℕ) → (through_slot code slot).code.0 ≡ code
unfolding through_slot
through_slot-code code slot = refl

module _ (laws : MovedLawsBelow) where
  row-encoded : (at : ℕ) (row : Row) (i : Instr) → slice_get table i.code.0 ≡ Some row → Suits B64 (modulo_width B64 at) row i → plain_length B64 i ≤ 15 → IsEncoded at i
  row-encoded at row i there suits short =
      let l = laws.targets.plain_length-row B64 i row there in
      (bytes_of row (plain_spelling B64 (modulo_width B64 at) row i), laws.encodings.suits-encoded B64 at row i there suits (omega (arith, l, short)))

  -- the address behind the instruction
  next_is : (at : ℕ) (row : Row) (i : Instr) → slice_get table i.code.0 ≡ Some row → plain_next B64 (modulo_width B64 at) row i ≡ modulo_width B64 (modulo_width B64 at + plain_length B64 i)
  unfolding plain_next
  next_is at row i there = ap (λ (n : ℕ). modulo_width B64 (modulo_width B64 at + n)) (sym (laws.targets.plain_length-row B64 i row there))

  -- a branch with an 8-bit offset whose target is in reach has an encoding
  pub short-encoded : (map : Map) (counts : Bool) (opcode code : ℕ) (asize : Option Bits) (t at : ℕ) → slice_get table code ≡ Some (offset_row map opcode Jb (marks_of counts) B64)
      → address_size_suits B64 (offset_row map opcode Jb (marks_of counts) B64) (branch_to code asize t) ≡ true → plain_length B64 (branch_to code asize t) ≤ 15 → t < 2 ^ 64
      → is_extended_of 1 64 (distance B64 (modulo_width B64 (modulo_width B64 at + plain_length B64 (branch_to code asize t))) t) ≡ true
      → IsEncoded at (branch_to code asize t)
  short-encoded map counts opcode code asize t at there sized short below near =
      let row = offset_row map opcode Jb (marks_of counts) B64 in
      let here = ap (slice_get table) (branch_to-code code asize t) ∙ there in
      row-encoded at row (branch_to code asize t) here
      (short-suits map counts opcode code asize t (modulo_width B64 at) sized below (ap (λ (n : ℕ). is_extended_of 1 64 (distance B64 n t)) (next_is at row (branch_to code asize t) here) ∙ near))
      short

  -- a near branch whose target is in reach has an encoding
  pub near-encoded : (map : Map) (opcode code t at : ℕ) → slice_get table code ≡ Some (offset_row map opcode Jz 20 B64)
      → plain_length B64 (branch_to code None t) ≤ 15 → t < 2 ^ 64
      → is_extended_of 4 64 (distance B64 (modulo_width B64 (modulo_width B64 at + plain_length B64 (branch_to code None t))) t) ≡ true
      → IsEncoded at (branch_to code None t)
  near-encoded map opcode code t at there short below near =
      let row = offset_row map opcode Jz 20 B64 in
      let here = ap (slice_get table) (branch_to-code code None t) ∙ there in
      row-encoded at row (branch_to code None t) here
      (near-suits map opcode code t (modulo_width B64 at) below (ap (λ (n : ℕ). is_extended_of 4 64 (distance B64 n t)) (next_is at row (branch_to code None t) here) ∙ near))
      short

  -- ---- through a slot

  -- a branch through a slot in reach has an encoding
  pub slot-encoded : (digit code slot at : ℕ) → slice_get table code ≡ Some (memory_row digit)
      → plain_length B64 (through_slot code slot) ≤ 15 → slot < 2 ^ 64
      → is_extended_of 4 64 (distance B64 (modulo_width B64 (modulo_width B64 at + plain_length B64 (through_slot code slot))) slot) ≡ true
      → IsEncoded at (through_slot code slot)
  slot-encoded digit code slot at there short below near =
      let row = memory_row digit in
      let here = ap (slice_get table) (through_slot-code code slot) ∙ there in
      row-encoded at row (through_slot code slot) here
      (slot-suits digit code slot (modulo_width B64 at) below (ap (λ (n : ℕ). is_extended_of 4 64 (distance B64 n slot)) (next_is at row (through_slot code slot) here) ∙ near))
      short
