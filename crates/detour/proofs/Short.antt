-- The short jump to a near jump in front of it is encoded in its two bytes at every address, and read so.
use Rattle.std.proofs.Common.{◌≡◌, ℕ, ◌+◌, ◌-◌, ◌^◌, ◌<◌, Bool, true, ◌&&◌, List, ◌∷◌, ◌++◌, length, Some, Ok, slice_get, refl, sym, ap, ◌∙◌, arith}
use Rattle.std.proofs.lemmas.Bool.{lt-ltb}
use Rattle.x86_values.specs.declared.Bits.{Bits}
use Rattle.x86_values.specs.declared.Bits.TheVariants.{B16, B32, B64}
use Rattle.x86_values.specs.Wrapping.{modulo_width, width}
use Rattle.instruction_parts.specs.declared.row_types.Map.TheVariants.{One}
use Rattle.instruction_parts.specs.declared.row_types.OpKind.TheVariants.{Jb}
use Rattle.instruction_parts.specs.declared.row_types.Row.{Row}
use Rattle.instruction_parts.specs.Bytes.{lead_bytes, tail_bytes, front_bytes, bytes_of}
use Rattle.instruction_parts.specs.Kinds.{method_of, immediate_width}
use Rattle.instruction_parts.specs.Sizes.{exists_in, operand_size}
use Rattle.row_fit.specs.Fits.{immediate_bytes}
use Rattle.plain_spelling.specs.Values.{low_bytes, is_extended_of, distance}
use Rattle.plain_spelling.specs.Forms.{is_variant_of}
use Rattle.plain_spelling.specs.Addresses.{pointer_size, shown_size, written_size, general_size}
use Rattle.plain_spelling.specs.PlainFront.{register_number, number_in_reg, number_in_rm, number_in_index, number_in_vvvv, number_in_opcode, is_low_byte_of_rex, asks_rex_w, asks_r, asks_x, asks_b, asks_66, asks_67, asks_vex_w, asked_used, asked_repeat, asked_rex, asked_vex, asked_opcode, class_pp, plain_front_of}
use Rattle.plain_spelling.specs.PlainTail.{prefixes_of, plain_size, plain_modrm, plain_sib_of, rm_fields, fixed_rm, displacement_of, operand_immediate, immediate_at, plain_immediates, plain_len, plain_next, plain_spelling}
use Rattle.plain_spelling.specs.Expressible.{Suits, kind_suits, register_suits, address_suits, displacement_offered, immediate_suits, immediate_suits_how, near_reaches, target_suits, lock_suits, repeat_suits, prefixes_suit, has_memory_operand, address_size_suits}
use Rattle.opcode_rows.specs.Table.{table}
use Rattle.opcode_rows.specs.Reading.{IsRead}
use Rattle.encoder.specs.Encoding.{encoding}
use Rattle.move_goals.specs.declared.branch_forms.branch.Action.TheVariants.{Jump}
use Rattle.move_goals.specs.BranchForms.Branches.{short_code}
use Rattle.move_goals.specs.BranchForms.Images.{branch_to, skip}
use Rattle.move_goals.specs.BranchForms.Rows.{offset_row}
use Rattle.detour.specs.LawsBelow.{DetourLawsBelow}
use Rattle.detour.specs.Padding.{near_len, jump_address, short_jump, short_reading}

-- the row of the short jump
abbrev short_row : Bits → Row
short_row bits = offset_row One 0xEB Jb 20 bits

only_first : (a b : Bool) → a ≡ true → b ≡ true → ((a && b) && (true && (true && true))) ≡ true
only_first a b p q = rw p (rw q refl)

short-suits : (bits : Bits) (t ip : ℕ) → t < 2 ^ width bits
    → is_extended_of 1 (width bits) (distance bits (plain_next bits ip (short_row bits) (skip bits t)) t) ≡ true
    → Suits bits ip (short_row bits) (skip bits t)
unfolding skip branch_to exists_in kind_suits is_variant_of method_of register_suits address_suits displacement_offered immediate_suits immediate_suits_how target_suits near_reaches plain_size operand_size immediate_bytes immediate_width prefixes_suit lock_suits repeat_suits address_size_suits has_memory_operand asks_rex_w asks_66
short-suits B16 t ip below near = record {
  exists = refl;
  kinds = refl;
  registers = refl;
  addresses = refl;
  displacements = refl;
  immediates = refl;
  targets = only_first _ _ (lt-ltb t (2 ^ width B16) below) near;
  prefixes = refl;
  address_size = refl;
}
short-suits B32 t ip below near = record {
  exists = refl;
  kinds = refl;
  registers = refl;
  addresses = refl;
  displacements = refl;
  immediates = refl;
  targets = only_first _ _ (lt-ltb t (2 ^ width B32) below) near;
  prefixes = refl;
  address_size = refl;
}
short-suits B64 t ip below near = record {
  exists = refl;
  kinds = refl;
  registers = refl;
  addresses = refl;
  displacements = refl;
  immediates = refl;
  targets = only_first _ _ (lt-ltb t (2 ^ width B64) below) near;
  prefixes = refl;
  address_size = refl;
}

-- its bytes: EB, and the lowest byte of how far it is from the next address
short-bytes : (bits : Bits) (t ip : ℕ) → bytes_of (short_row bits) (plain_spelling bits ip (short_row bits) (skip bits t))
    ≡ 0xEB ∷ low_bytes 1 (distance bits (plain_next bits ip (short_row bits) (skip bits t)) t)
unfolding skip branch_to bytes_of front_bytes tail_bytes lead_bytes plain_spelling prefixes_of plain_size plain_modrm plain_sib_of rm_fields fixed_rm displacement_of operand_immediate immediate_at plain_immediates operand_size immediate_bytes immediate_width method_of plain_front_of asked_used asked_repeat asked_rex asks_rex_w asks_r asks_x asks_b asks_66 asks_67 asked_vex asks_vex_w asked_opcode class_pp number_in_reg number_in_rm number_in_index number_in_vvvv number_in_opcode is_low_byte_of_rex register_number written_size shown_size general_size pointer_size low_bytes
short-bytes B16 t ip = refl
short-bytes B32 t ip = refl
short-bytes B64 t ip = refl

short-four : (bits : Bits) (t : ℕ) → length (skip bits t).ops ≡ 4
unfolding skip branch_to
short-four bits t = refl

short-code : (bits : Bits) (t : ℕ) → (skip bits t).code.0 ≡ short_code Jump bits
unfolding skip branch_to
short-code bits t = refl

-- ---- how far the near jump is from behind the short one

-- that far below 2 to the number of bits
abbrev way_back : Bits → ℕ
way_back bits = 2 ^ width bits - (2 + near_len bits)

gone : (bits : Bits) (ip : ℕ) → distance bits (modulo_width bits (modulo_width bits ip + 2)) (jump_address bits ip) ≡ way_back bits
unfolding distance
gone B16 ip = omega arith
gone B32 ip = omega arith
gone B64 ip = omega arith

back-extended : (bits : Bits) → is_extended_of 1 (width bits) (way_back bits) ≡ true
unfolding is_extended_of
back-extended B16 = refl
back-extended B32 = refl
back-extended B64 = refl

back-byte : (bits : Bits) → 0xEB ∷ low_bytes 1 (way_back bits) ≡ short_jump bits
unfolding low_bytes
back-byte B16 = refl
back-byte B32 = refl
back-byte B64 = refl

-- the near jump stands at an address of the mode
pub jump_address-below : (bits : Bits) (ip : ℕ) → jump_address bits ip < 2 ^ width bits
unfolding distance
jump_address-below B16 ip = omega arith
jump_address-below B32 ip = omega arith
jump_address-below B64 ip = omega arith

module _ (laws : DetourLawsBelow) (bits : Bits) (ip : ℕ) where
  to_near : ℕ
  to_near = jump_address bits ip

  here : slice_get table (skip bits to_near).code.0 ≡ Some (short_row bits)
  here = ap (slice_get table) (short-code bits to_near) ∙ laws.codes.short-jump bits

  two : (b : Bits) (t : ℕ) → slice_get table (skip b t).code.0 ≡ Some (short_row b) → plain_len b (short_row b) (skip b t) ≡ 2
  unfolding skip
  two B16 t there = sym (laws.targets.plain_length-row B16 (skip B16 t) (short_row B16) there) ∙ laws.pieces.short_jump-length B16 B16 t
  two B32 t there = sym (laws.targets.plain_length-row B32 (skip B32 t) (short_row B32) there) ∙ laws.pieces.short_jump-length B32 B32 t
  two B64 t there = sym (laws.targets.plain_length-row B64 (skip B64 t) (short_row B64) there) ∙ laws.pieces.short_jump-length B64 B64 t

  size : plain_len bits (short_row bits) (skip bits to_near) ≡ 2
  size = two bits to_near here

  next-is : plain_next bits (modulo_width bits ip) (short_row bits) (skip bits to_near) ≡ modulo_width bits (modulo_width bits ip + 2)
  unfolding plain_next
  next-is = ap (λ (n : ℕ). modulo_width bits (modulo_width bits ip + n)) size

  far : distance bits (plain_next bits (modulo_width bits ip) (short_row bits) (skip bits to_near)) to_near ≡ way_back bits
  unfolding to_near
  far = ap (λ (n : ℕ). distance bits n (jump_address bits ip)) next-is ∙ gone bits ip

  encoded : encoding bits ip (skip bits to_near) ≡ Ok (short_jump bits)
  unfolding to_near
  encoded =
      laws.encodings.suits-encoded bits ip (short_row bits) (skip bits to_near) here
      (short-suits bits to_near (modulo_width bits ip) (jump_address-below bits ip) (ap (is_extended_of 1 (width bits)) far ∙ back-extended bits))
      (omega (arith, size))
      ∙ ap (λ (bs : List ℕ). Ok bs)
      (short-bytes bits to_near (modulo_width bits ip) ∙ (ap (λ (n : ℕ). 0xEB ∷ low_bytes 1 n) far ∙ back-byte bits))

  -- **whatever stands behind it, the short jump is read as the jump to the near one**
  pub short_read : (rest : List ℕ) → IsRead bits ip (short_jump bits ++ rest) (short_reading bits (jump_address bits ip))
  unfolding to_near
  short_read rest =
      laws.encodings.plain-reads bits (modulo_width bits ip) (short_jump bits) rest (skip bits to_near)
      (laws.encodings.encoded-plain bits ip (skip bits to_near) (short_jump bits) (short-four bits to_near) encoded)
