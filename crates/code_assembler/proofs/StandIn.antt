-- NOP has the byte 90 at every address, and goes nowhere.
use Rattle.std.proofs.Common.{◌≡◌, ℕ, length, refl, ◌∙◌, arith, slice_get}
use Rattle.std.specs.Prelude.{None, Some}
use Rattle.x86_values.specs.declared.Bits.{Bits}
use Rattle.x86_values.specs.declared.Bits.TheVariants.{B16, B32, B64}
use Rattle.x86_values.specs.Wrapping.{modulo_width}
use Rattle.instruction_parts.specs.Bytes.{lead_bytes, bytes_of}
use Rattle.instruction_parts.specs.Kinds.{method_of, immediate_width}
use Rattle.instruction_parts.specs.Sizes.{exists_in, operand_size}
use Rattle.row_fit.specs.Fits.{immediate_bytes}
use Rattle.plain_spelling.specs.Forms.{is_variant_of}
use Rattle.plain_spelling.specs.PlainFront.{register_number, number_in_reg, number_in_rm, number_in_index, number_in_vvvv, number_in_opcode, is_low_byte_of_rex, asks_rex_w, asks_r, asks_x, asks_b, asks_66, asks_67, asks_vex_w, asked_used, asked_repeat, asked_rex, asked_vex, asked_opcode, class_pp, plain_front_of}
use Rattle.plain_spelling.specs.PlainTail.{plain_size, plain_modrm, plain_sib_of, rm_fields, fixed_rm, plain_len, plain_spelling}
use Rattle.plain_spelling.specs.Expressible.{Suits, kind_suits, register_suits, address_suits, displacement_offered, immediate_suits, immediate_suits_how, target_suits, lock_suits, repeat_suits, prefixes_suit, has_memory_operand, address_size_suits}
use Rattle.opcode_rows.specs.Parts.{integer_rows, integer_flat, x87_rows, x87_flat, sse_rows, sse_flat, vex_rows, vex_flat}
use Rattle.opcode_rows.specs.Table.{spots, rows_in, table}
use Rattle.operand_info.specs.Operands.{near_value, ip_value}
use Rattle.move_goals.specs.MovedTargets.Targets.{target_of, plain_length}
use Rattle.move_goals.specs.BranchForms.Branches.{branch_of}
use Rattle.move_goals.specs.Items.{IsPlaced}
use Rattle.code_assembler.specs.StandIn.{nop_row, nop, stand_in}
use Rattle.code_assembler.specs.LawsBelow.{AssemblerLawsBelow}

row-is : slice_get table nop.code.0 ≡ Some nop_row
unfolding nop table rows_in spots integer_rows integer_flat x87_rows x87_flat sse_rows sse_flat vex_rows vex_flat
row-is = refl

suits : (bits : Bits) (ip : ℕ) → Suits bits ip nop_row nop
unfolding nop exists_in kind_suits is_variant_of method_of register_suits address_suits displacement_offered immediate_suits immediate_suits_how target_suits plain_size operand_size immediate_bytes prefixes_suit lock_suits repeat_suits address_size_suits has_memory_operand asks_rex_w asks_66
suits B16 ip = record {
  exists = refl;
  kinds = refl;
  registers = refl;
  addresses = refl;
  displacements = refl;
  immediates = refl;
  targets = refl;
  prefixes = refl;
  address_size = refl;
}
suits B32 ip = record {
  exists = refl;
  kinds = refl;
  registers = refl;
  addresses = refl;
  displacements = refl;
  immediates = refl;
  targets = refl;
  prefixes = refl;
  address_size = refl;
}
suits B64 ip = record {
  exists = refl;
  kinds = refl;
  registers = refl;
  addresses = refl;
  displacements = refl;
  immediates = refl;
  targets = refl;
  prefixes = refl;
  address_size = refl;
}

row-len : (bits : Bits) → plain_len bits nop_row nop ≡ 1
unfolding nop plain_len plain_size plain_modrm plain_sib_of rm_fields fixed_rm operand_size immediate_bytes immediate_width method_of plain_front_of asked_used asked_repeat asked_rex asks_rex_w asks_r asks_x asks_b asks_66 asks_67 asked_vex asks_vex_w asked_opcode class_pp lead_bytes number_in_reg number_in_rm number_in_index number_in_vvvv number_in_opcode is_low_byte_of_rex register_number
row-len B16 = refl
row-len B32 = refl
row-len B64 = refl

four : length nop.ops ≡ 4
unfolding nop
four = refl

-- it is no branch, and addresses nothing
pub no_branch : branch_of nop ≡ None
unfolding branch_of near_value nop
no_branch = refl

-- so it has no target
pub no_target : target_of nop ≡ None
unfolding target_of near_value ip_value nop
no_target = refl

module _ (laws : AssemblerLawsBelow) where
  -- **it is one byte long**
  pub nop-length : (bits : Bits) → plain_length bits nop ≡ 1
  nop-length bits = laws.targets.plain_length-row bits nop nop_row row-is ∙ row-len bits

  -- **it is well placed**
  pub nop-placed : (bits : Bits) → IsPlaced bits (stand_in bits)
  nop-placed bits =
      let at = modulo_width bits 0 in
      let encoded = laws.encodings.suits-encoded bits 0 nop_row nop row-is (suits bits at) (omega (arith, row-len bits)) in
      let plain = laws.encodings.encoded-plain bits 0 nop (bytes_of nop_row (plain_spelling bits at nop_row nop)) four encoded in
      record {
        some = omega (arith, nop-length bits);
        few = omega (arith, nop-length bits);
        bytes = bytes_of nop_row (plain_spelling bits at nop_row nop);
        spelled = laws.encodings.plain-spells bits at (bytes_of nop_row (plain_spelling bits at nop_row nop)) nop plain;
      }
