-- FF 25 and a displacement of 0 are read as a jump through the eight bytes behind it.
use Rattle.std.proofs.Common.{◌≡◌, ℕ, ◌+◌, ◌^◌, ◌<◌, Bool, true, ◌&&◌, List, [], ◌∷◌, ◌++◌, length, Some, Ok, nat_lt, slice_get, refl, sym, ap, ◌∙◌, arith}
use Rattle.std.proofs.lemmas.Bool.{lt-ltb}
use Rattle.x86_values.specs.declared.Bits.TheVariants.{B64}
use Rattle.x86_values.specs.Wrapping.{modulo_width}
use Rattle.instruction_parts.specs.Bytes.{lead_bytes, tail_bytes, front_bytes, bytes_of}
use Rattle.instruction_parts.specs.Kinds.{method_of, file_of, immediate_width}
use Rattle.instruction_parts.specs.Sizes.{exists_in, operand_size}
use Rattle.row_fit.specs.Fits.{immediate_bytes}
use Rattle.plain_spelling.specs.Values.{low_bytes, is_extended_of, distance}
use Rattle.plain_spelling.specs.Forms.{is_variant_of, is_allowed_in}
use Rattle.plain_spelling.specs.Addresses.{has_address_size, form_of, offers, form_offers, displacement_count, is_displacement, displacement_suits, is_shape, shape_suits, pointer_size, shown_size, written_size, general_size, address_fields, alone_fields, wide_fields, wide_needs_sib}
use Rattle.plain_spelling.specs.PlainFront.{register_number, number_in_reg, number_in_rm, number_in_index, number_in_vvvv, number_in_opcode, is_low_byte_of_rex, asks_rex_w, asks_r, asks_x, asks_b, asks_66, asks_67, asks_vex_w, asked_used, asked_repeat, asked_rex, asked_vex, asked_opcode, class_pp, plain_front_of}
use Rattle.plain_spelling.specs.PlainTail.{prefixes_of, plain_size, plain_modrm, plain_sib_of, rm_fields, fixed_rm, displacement_of, operand_immediate, immediate_at, plain_immediates, plain_len, plain_next, plain_spelling}
use Rattle.plain_spelling.specs.Expressible.{Suits, kind_suits, register_suits, address_suits, displacement_offered, immediate_suits, immediate_suits_how, address_reaches, target_suits, lock_suits, repeat_suits, prefixes_suit, has_memory_operand, told_size, size_agrees, is_size_of, address_size_suits}
use Rattle.opcode_rows.specs.Table.{table}
use Rattle.opcode_rows.specs.Reading.{IsRead}
use Rattle.encoder.specs.Encoding.{encoding}
use Rattle.move_goals.specs.declared.branch_forms.branch.Action.TheVariants.{Jump}
use Rattle.move_goals.specs.BranchForms.Branches.{far_code}
use Rattle.move_goals.specs.BranchForms.Images.{through_slot}
use Rattle.move_goals.specs.BranchForms.Rows.{memory_row}
use Rattle.detour.specs.LawsBelow.{DetourLawsBelow}
use Rattle.detour.specs.Jumps.{absolute_jump}
use Rattle.detour.specs.ReadBack.{through_reading, IsAbsoluteRead}

first_alone : (a : Bool) → a ≡ true → (a && (true && (true && true))) ≡ true
first_alone a p = rw p refl

-- no distance to itself
no-distance : (slot : ℕ) → slot < 2 ^ 64 → distance B64 slot slot ≡ 0
unfolding distance
no-distance slot below = omega (arith, below)

through-suits : (slot ip : ℕ) → slot < 2 ^ 64
    → is_extended_of 4 64 (distance B64 (plain_next B64 ip (memory_row 4) (through_slot (far_code Jump) slot)) slot) ≡ true
    → Suits B64 ip (memory_row 4) (through_slot (far_code Jump) slot)
unfolding through_slot exists_in kind_suits is_variant_of is_allowed_in method_of file_of register_suits address_suits shape_suits is_shape form_of displacement_offered displacement_suits offers form_offers displacement_count is_displacement written_size shown_size pointer_size immediate_suits immediate_suits_how target_suits address_reaches plain_size operand_size immediate_bytes immediate_width prefixes_suit lock_suits repeat_suits address_size_suits has_memory_operand is_size_of size_agrees told_size has_address_size
through-suits slot ip below near = record {
  exists = refl;
  kinds = refl;
  registers = refl;
  addresses = refl;
  displacements = first_alone (nat_lt slot (2 ^ 64)) (lt-ltb slot (2 ^ 64) below);
  immediates = refl;
  targets = first_alone (is_extended_of 4 64 (distance B64 (plain_next B64 ip (memory_row 4) (through_slot (far_code Jump) slot)) slot)) near;
  prefixes = refl;
  address_size = refl;
}

-- its bytes, with those of the distance from the next address
through-bytes : (slot ip : ℕ) → bytes_of (memory_row 4) (plain_spelling B64 ip (memory_row 4) (through_slot (far_code Jump) slot))
    ≡ 0xFF ∷ 0x25 ∷ low_bytes 4 (distance B64 (plain_next B64 ip (memory_row 4) (through_slot (far_code Jump) slot)) slot)
unfolding through_slot bytes_of front_bytes tail_bytes lead_bytes plain_spelling prefixes_of plain_size plain_modrm plain_sib_of rm_fields fixed_rm displacement_of operand_immediate immediate_at plain_immediates operand_size immediate_bytes immediate_width method_of plain_front_of asked_used asked_repeat asked_rex asks_rex_w asks_r asks_x asks_b asks_66 asks_67 asked_vex asks_vex_w asked_opcode class_pp number_in_reg number_in_rm number_in_index number_in_vvvv number_in_opcode is_low_byte_of_rex register_number written_size shown_size general_size pointer_size form_of address_fields alone_fields wide_fields wide_needs_sib displacement_count low_bytes
through-bytes slot ip = refl

zero-bytes : low_bytes 4 0 ≡ 0 ∷ 0 ∷ 0 ∷ 0 ∷ []
unfolding low_bytes
zero-bytes = refl

zero-extended : is_extended_of 4 64 0 ≡ true
unfolding is_extended_of
zero-extended = refl

through-four : (slot : ℕ) → length (through_slot (far_code Jump) slot).ops ≡ 4
unfolding through_slot
through-four slot = refl

through-code : (slot : ℕ) → (through_slot (far_code Jump) slot).code.0 ≡ far_code Jump
unfolding through_slot
through-code slot = refl

module _ (laws : DetourLawsBelow) (at : ℕ) where
  slot : ℕ
  slot = modulo_width B64 (at + 6)

  here : slice_get table (through_slot (far_code Jump) slot).code.0 ≡ Some (memory_row 4)
  here = ap (slice_get table) (through-code slot) ∙ laws.codes.far-jump

  size : plain_len B64 (memory_row 4) (through_slot (far_code Jump) slot) ≡ 6
  size = sym (laws.targets.plain_length-row B64 (through_slot (far_code Jump) slot) (memory_row 4) here) ∙ laws.pieces.slot_jump-length B64 slot

  -- the address behind it is that of the slot
  next-is : plain_next B64 (modulo_width B64 at) (memory_row 4) (through_slot (far_code Jump) slot) ≡ slot
  unfolding plain_next slot
  next-is = ap (λ (n : ℕ). modulo_width B64 (modulo_width B64 at + n)) size ∙ omega arith

  gone : distance B64 (plain_next B64 (modulo_width B64 at) (memory_row 4) (through_slot (far_code Jump) slot)) slot ≡ 0
  unfolding slot
  gone = ap (λ (n : ℕ). distance B64 n slot) next-is ∙ no-distance slot (omega arith)

  bytes-are : bytes_of (memory_row 4) (plain_spelling B64 (modulo_width B64 at) (memory_row 4) (through_slot (far_code Jump) slot)) ≡ 0xFF ∷ 0x25 ∷ 0 ∷ 0 ∷ 0 ∷ 0 ∷ []
  bytes-are = through-bytes slot (modulo_width B64 at) ∙ (ap (λ (n : ℕ). 0xFF ∷ 0x25 ∷ low_bytes 4 n) gone ∙ ap (λ (bs : List ℕ). 0xFF ∷ 0x25 ∷ bs) zero-bytes)

  encoded : encoding B64 at (through_slot (far_code Jump) slot) ≡ Ok (0xFF ∷ 0x25 ∷ 0 ∷ 0 ∷ 0 ∷ 0 ∷ [])
  unfolding slot
  encoded =
      laws.encodings.suits-encoded B64 at (memory_row 4) (through_slot (far_code Jump) slot) here
      (through-suits slot (modulo_width B64 at) (omega arith) (ap (is_extended_of 4 64) gone ∙ zero-extended)) (omega (arith, size))
      ∙ ap (λ (bs : List ℕ). Ok bs) bytes-are

  -- whatever stands behind them, they are read as the jump through what follows
  through-read : (rest : List ℕ) → IsRead B64 at (0xFF ∷ 0x25 ∷ 0 ∷ 0 ∷ 0 ∷ 0 ∷ rest) (through_reading at)
  unfolding slot
  through-read rest =
      laws.encodings.plain-reads B64 (modulo_width B64 at) (0xFF ∷ 0x25 ∷ 0 ∷ 0 ∷ 0 ∷ 0 ∷ []) rest (through_slot (far_code Jump) slot)
      (laws.encodings.encoded-plain B64 at (through_slot (far_code Jump) slot) (0xFF ∷ 0x25 ∷ 0 ∷ 0 ∷ 0 ∷ 0 ∷ []) (through-four slot) encoded)

  -- **so is the jump with its address behind it**
  pub absolute_read : (to : ℕ) (rest : List ℕ) → IsAbsoluteRead at to (absolute_jump to ++ rest)
  unfolding absolute_jump low_bytes
  absolute_read to rest = record { read = through-read (low_bytes 8 to ++ rest); target = refl }

  -- also where nothing stands behind it
  pub absolute_alone : (to : ℕ) → IsAbsoluteRead at to (absolute_jump to)
  unfolding absolute_jump low_bytes
  absolute_alone to = record { read = through-read (low_bytes 8 to); target = refl }
