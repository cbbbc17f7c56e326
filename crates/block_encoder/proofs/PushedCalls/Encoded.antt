-- The instructions that push a return address have their bytes at every address.
use Rattle.std.proofs.Common.{◌≡◌, ℕ, ◌+◌, ◌/◌, ◌^◌, ◌<◌, ◌≤◌, Bool, true, ◌&&◌, List, [], ◌∷◌, length, None, Some, Ok, slice_get, refl, ap, ◌∙◌, arith}
use Rattle.x86_values.specs.declared.Bits.{Bits}
use Rattle.x86_values.specs.declared.Bits.TheVariants.{B16, B32, B64}
use Rattle.x86_values.specs.declared.Operand.TheVariants.{Imm}
use Rattle.x86_values.specs.declared.Instr.{Instr}
use Rattle.x86_values.specs.Wrapping.{width, modulo_width}
use Rattle.instruction_parts.specs.declared.row_types.Row.{Row}
use Rattle.instruction_parts.specs.Bytes.{lead_bytes, tail_bytes, front_bytes, bytes_of}
use Rattle.instruction_parts.specs.Kinds.{method_of, file_of, immediate_width}
use Rattle.instruction_parts.specs.Sizes.{exists_in, operand_size}
use Rattle.row_fit.specs.Fits.{immediate_bytes}
use Rattle.plain_spelling.specs.Values.{low_bytes, is_extended_of}
use Rattle.plain_spelling.specs.Forms.{is_variant_of, is_allowed_in}
use Rattle.plain_spelling.specs.Addresses.{register_count, has_address_size, form_of, offers, form_offers, wide_offers, displacement_count, is_displacement, displacement_suits, is_address_register, is_base, is_index, scale_suits, is_wide_size, is_wide_shape, is_shape, shape_suits, pointer_size, shown_size, written_size, general_size, address_fields, alone_fields, wide_fields, wide_needs_sib, mode_of_count, base_bits, index_bits, plain_sib}
use Rattle.plain_spelling.specs.PlainFront.{register_number, number_in_reg, number_in_rm, number_in_index, number_in_vvvv, number_in_opcode, is_low_byte_of_rex, asks_rex_w, asks_r, asks_x, asks_b, asks_66, asks_67, asks_vex_w, asked_used, asked_repeat, asked_rex, asked_vex, asked_opcode, class_pp, plain_front_of}
use Rattle.plain_spelling.specs.PlainTail.{prefixes_of, plain_size, plain_modrm, plain_sib_of, rm_fields, fixed_rm, displacement_of, operand_immediate, immediate_at, plain_immediates, plain_len, plain_next, plain_spelling}
use Rattle.plain_spelling.specs.Expressible.{Suits, kind_suits, register_suits, address_suits, displacement_offered, immediate_suits, immediate_suits_how, address_reaches, target_suits, lock_suits, repeat_suits, prefixes_suit, has_memory_operand, told_size, size_agrees, is_size_of, address_size_suits}
use Rattle.opcode_rows.specs.Table.{table}
use Rattle.operand_info.specs.Operands.{near_value}
use Rattle.encoder.specs.Encoding.{encoding}
use Rattle.move_goals.specs.MovedTargets.Targets.{plain_length}
use Rattle.move_goals.specs.BranchForms.Branches.{branch_of}
use Rattle.move_goals.specs.BranchForms.Images.{bare}
use Rattle.move_goals.specs.declared.items.Placed.{Placed}
use Rattle.move_goals.specs.Items.{IsPlaced}
use Rattle.block_encoder.specs.PushedCalls.Rows.{push_code, push_row, high_row}
use Rattle.block_encoder.specs.PushedCalls.Pushes.{pushed_value, push_of, high_half_of}
use Rattle.block_encoder.specs.PushedCalls.Items.{item_of}
use Rattle.block_encoder.specs.PushedCalls.Facts.{pushed_bytes, PushFacts}
use Rattle.block_encoder.specs.PushedCalls.LawsBelow.{PushedLawsBelow}
use Rattle.block_encoder.proofs.PushedCalls.Rows.{code_facts}
use Rattle.block_encoder.proofs.PushedCalls.Digits.{low-bytes-of, pushed-fits, high-fits, slot-is}

-- of four tests of which the others pass
first_alone : (a : Bool) → a ≡ true → (a && (true && (true && true))) ≡ true
first_alone a p = rw p refl

second_alone : (a : Bool) → a ≡ true → (true && (a && (true && true))) ≡ true
second_alone a p = rw p refl

-- ---- PUSH

abbrev push_value : Bits → ℕ → Instr
push_value bits x = bare (push_code bits) None (Imm x)

push-suits : (bits : Bits) (ip x : ℕ) → is_extended_of (pushed_bytes bits) (width bits) x ≡ true → Suits bits ip (push_row bits) (push_value bits x)
unfolding exists_in kind_suits is_variant_of method_of register_suits address_suits displacement_offered immediate_suits immediate_suits_how target_suits plain_size operand_size immediate_bytes immediate_width prefixes_suit lock_suits repeat_suits address_size_suits has_memory_operand asks_rex_w asks_66
push-suits B16 ip x fits = record {
  exists = refl;
  kinds = refl;
  registers = refl;
  addresses = refl;
  displacements = refl;
  immediates = first_alone (is_extended_of 2 16 x) fits;
  targets = refl;
  prefixes = refl;
  address_size = refl;
}
push-suits B32 ip x fits = record {
  exists = refl;
  kinds = refl;
  registers = refl;
  addresses = refl;
  displacements = refl;
  immediates = first_alone (is_extended_of 4 32 x) fits;
  targets = refl;
  prefixes = refl;
  address_size = refl;
}
push-suits B64 ip x fits = record {
  exists = refl;
  kinds = refl;
  registers = refl;
  addresses = refl;
  displacements = refl;
  immediates = first_alone (is_extended_of 4 64 x) fits;
  targets = refl;
  prefixes = refl;
  address_size = refl;
}

push-len : (bits : Bits) (x : ℕ) → plain_len bits (push_row bits) (push_value bits x) ≡ 1 + pushed_bytes bits
unfolding plain_len plain_size plain_modrm plain_sib_of rm_fields fixed_rm operand_size immediate_bytes immediate_width method_of plain_front_of asked_used asked_repeat asked_rex asks_rex_w asks_r asks_x asks_b asks_66 asks_67 asked_vex asks_vex_w asked_opcode class_pp lead_bytes number_in_reg number_in_rm number_in_index number_in_vvvv number_in_opcode is_low_byte_of_rex register_number
push-len B16 x = refl
push-len B32 x = refl
push-len B64 x = refl

push-bytes : (bits : Bits) (ip x : ℕ) → bytes_of (push_row bits) (plain_spelling bits ip (push_row bits) (push_value bits x)) ≡ 0x68 ∷ low_bytes (pushed_bytes bits) x
unfolding bytes_of front_bytes tail_bytes lead_bytes plain_spelling prefixes_of plain_size plain_modrm plain_sib_of rm_fields fixed_rm displacement_of operand_immediate immediate_at plain_immediates operand_size immediate_bytes immediate_width method_of plain_front_of asked_used asked_repeat asked_rex asks_rex_w asks_r asks_x asks_b asks_66 asks_67 asked_vex asks_vex_w asked_opcode class_pp number_in_reg number_in_rm number_in_index number_in_vvvv number_in_opcode is_low_byte_of_rex register_number low_bytes
push-bytes B16 ip x = refl
push-bytes B32 ip x = refl
push-bytes B64 ip x = refl

push-row : (bits : Bits) (back : ℕ) → slice_get table (push_of bits back).code.0 ≡ Some (push_row bits)
unfolding push_of
push-row bits back = code_facts.push bits

push-suited : PushedLawsBelow → (bits : Bits) (ip back : ℕ) → back < 2 ^ width bits → Suits bits ip (push_row bits) (push_of bits back)
unfolding push_of
push-suited laws bits ip back below = push-suits bits ip (pushed_value bits back) (pushed-fits laws.distances bits back below)

push_of-len : (bits : Bits) (back : ℕ) → plain_len bits (push_row bits) (push_of bits back) ≡ 1 + pushed_bytes bits
unfolding push_of
push_of-len bits back = push-len bits (pushed_value bits back)

push_of-bytes : (bits : Bits) (ip back : ℕ) → bytes_of (push_row bits) (plain_spelling bits ip (push_row bits) (push_of bits back)) ≡ 0x68 ∷ low_bytes (pushed_bytes bits) back
unfolding push_of
push_of-bytes bits ip back = push-bytes bits ip (pushed_value bits back) ∙ ap (λ (bytes : List ℕ). 0x68 ∷ bytes) (low-bytes-of bits back)

push-four : (bits : Bits) (back : ℕ) → length (push_of bits back).ops ≡ 4
unfolding push_of
push-four bits back = refl

few-bytes : (bits : Bits) → 1 + pushed_bytes bits ≤ 15
few-bytes B16 = omega arith
few-bytes B32 = omega arith
few-bytes B64 = omega arith

-- ---- MOV

high-suits : (ip back : ℕ) → is_extended_of 4 32 (back / 2 ^ 32) ≡ true → Suits B64 ip high_row (high_half_of back)
unfolding high_half_of exists_in kind_suits is_variant_of is_allowed_in method_of file_of register_suits address_suits shape_suits is_shape is_wide_shape is_wide_size is_base is_index is_address_register scale_suits register_count register_number form_of displacement_offered displacement_suits offers form_offers wide_offers displacement_count is_displacement written_size shown_size general_size pointer_size immediate_suits immediate_suits_how target_suits address_reaches plain_size operand_size immediate_bytes immediate_width prefixes_suit lock_suits repeat_suits address_size_suits has_memory_operand is_size_of size_agrees told_size has_address_size asks_rex_w asks_66 is_extended_of
high-suits ip back fits = record {
  exists = refl;
  kinds = refl;
  registers = refl;
  addresses = refl;
  displacements = refl;
  immediates = second_alone (is_extended_of 4 32 (back / 2 ^ 32)) fits;
  targets = refl;
  prefixes = refl;
  address_size = refl;
}

high-len : (back : ℕ) → plain_len B64 high_row (high_half_of back) ≡ 8
unfolding high_half_of plain_len plain_size plain_modrm plain_sib_of rm_fields fixed_rm operand_size immediate_bytes immediate_width method_of plain_front_of asked_used asked_repeat asked_rex asks_rex_w asks_r asks_x asks_b asks_66 asks_67 asked_vex asks_vex_w asked_opcode class_pp lead_bytes number_in_reg number_in_rm number_in_index number_in_vvvv number_in_opcode is_low_byte_of_rex register_number written_size shown_size general_size pointer_size form_of address_fields alone_fields wide_fields wide_needs_sib mode_of_count base_bits index_bits plain_sib displacement_count
high-len back = refl

high-bytes : (ip back : ℕ) → bytes_of high_row (plain_spelling B64 ip high_row (high_half_of back)) ≡ 0xC7 ∷ 0x44 ∷ 0x24 ∷ 0x04 ∷ low_bytes 4 (back / 2 ^ 32)
unfolding high_half_of bytes_of front_bytes tail_bytes lead_bytes plain_spelling prefixes_of plain_size plain_modrm plain_sib_of rm_fields fixed_rm displacement_of operand_immediate immediate_at plain_immediates operand_size immediate_bytes immediate_width method_of plain_front_of asked_used asked_repeat asked_rex asks_rex_w asks_r asks_x asks_b asks_66 asks_67 asked_vex asks_vex_w asked_opcode class_pp number_in_reg number_in_rm number_in_index number_in_vvvv number_in_opcode is_low_byte_of_rex register_number written_size shown_size general_size pointer_size form_of address_fields alone_fields wide_fields wide_needs_sib mode_of_count base_bits index_bits plain_sib displacement_count low_bytes
high-bytes ip back = refl

high-row : (back : ℕ) → slice_get table (high_half_of back).code.0 ≡ Some high_row
unfolding high_half_of
high-row back = code_facts.high

high-four : (back : ℕ) → length (high_half_of back).ops ≡ 4
unfolding high_half_of
high-four back = refl

-- ---- both

push-no_branch : (bits : Bits) (back : ℕ) → branch_of (push_of bits back) ≡ None
unfolding branch_of near_value push_of
push-no_branch bits back = refl

high-no_branch : (back : ℕ) → branch_of (high_half_of back) ≡ None
unfolding branch_of near_value high_half_of
high-no_branch back = refl

module _ (laws : PushedLawsBelow) where
  -- **PUSH has its bytes at every address**
  push-encoded : (bits : Bits) (ip back : ℕ) → back < 2 ^ width bits → encoding bits ip (push_of bits back) ≡ Ok (0x68 ∷ low_bytes (pushed_bytes bits) back)
  push-encoded bits ip back below =
      laws.encodings.suits-encoded bits ip (push_row bits) (push_of bits back) (push-row bits back) (push-suited laws bits (modulo_width bits ip) back below)
      (omega (arith, push_of-len bits back, few-bytes bits))
      ∙ ap (λ (bytes : List ℕ). Ok bytes) (push_of-bytes bits (modulo_width bits ip) back)

  -- **so has MOV**
  high-encoded : (ip back : ℕ) → back < 2 ^ 64 → encoding B64 ip (high_half_of back) ≡ Ok (0xC7 ∷ 0x44 ∷ 0x24 ∷ 0x04 ∷ low_bytes 4 (back / 2 ^ 32))
  high-encoded ip back below =
      laws.encodings.suits-encoded B64 ip high_row (high_half_of back) (high-row back) (high-suits (modulo_width B64 ip) back (high-fits back below))
      (omega (arith, high-len back))
      ∙ ap (λ (bytes : List ℕ). Ok bytes) (high-bytes (modulo_width B64 ip) back)

  -- what has an encoding somewhere is well placed there
  placed-of : (bits : Bits) (ip : ℕ) (i : Instr) (bytes : List ℕ) → length i.ops ≡ 4 → encoding bits ip i ≡ Ok bytes → IsPlaced bits (item_of bits ip i)
  placed-of bits ip i bytes few e =
      let spelled = laws.encodings.plain-spells bits (modulo_width bits ip) bytes i (laws.encodings.encoded-plain bits ip i bytes few e) in
      let size = laws.targets.spelled-length bits (modulo_width bits ip) bytes i spelled in
      record { some = size.0; few = size.1; bytes = bytes; spelled = spelled }

  -- **both are well placed, and leave the return address at the top of the stack**
  pub push_facts : PushFacts
  push_facts = record {
    push-encoded = push-encoded;
    high-encoded = high-encoded;
    push-length = λ bits back. laws.targets.plain_length-row bits (push_of bits back) (push_row bits) (push-row bits back) ∙ push_of-len bits back;
    high-length = λ back. laws.targets.plain_length-row B64 (high_half_of back) high_row (high-row back) ∙ high-len back;
    push-no_branch = push-no_branch;
    high-no_branch = high-no_branch;
    push-placed = λ bits ip back below. placed-of bits ip (push_of bits back) _ (push-four bits back) (push-encoded bits ip back below);
    high-placed = λ ip back below. placed-of B64 ip (high_half_of back) _ (high-four back) (high-encoded ip back below);
    slot-is = slot-is;
  }
