-- What holds of the instructions that push a return address and jump.
use Rattle.std.specs.Prelude.{◌≡◌, ℕ, ◌+◌, ◌/◌, ◌^◌, ◌<◌, ◌≤◌, List, ◌∷◌, Some, None, Ok, slice_get}
use Rattle.x86_values.specs.declared.Bits.{Bits}
use Rattle.x86_values.specs.declared.Bits.TheVariants.{B16, B64}
use Rattle.x86_values.specs.declared.Mem.{Mem}
use Rattle.x86_values.specs.declared.Operand.{Operand}
use Rattle.x86_values.specs.declared.Operand.TheVariants.{Mem as Memory}
use Rattle.x86_values.specs.declared.Instr.{Instr}
use Rattle.x86_values.specs.Wrapping.{width, modulo_width}
use Rattle.instruction_parts.specs.Sizes.{size_bytes}
use Rattle.plain_spelling.specs.Values.{low_bytes}
use Rattle.plain_spelling.specs.Forms.{operand_at}
use Rattle.opcode_rows.specs.Table.{table}
use Rattle.operand_info.specs.Operands.{near_value, ip_value}
use Rattle.encoder.specs.Encoding.{encoding}
use Rattle.move_goals.specs.MovedTargets.Targets.{plain_length}
use Rattle.move_goals.specs.BranchForms.Branches.{branch_of}
use Rattle.move_goals.specs.Items.{IsPlaced}
use Rattle.block_encoder.specs.declared.pushed_calls.generated_codes.TheConstants.{MOV_RM32_IMM32}
use Rattle.block_encoder.specs.PushedCalls.Rows.{push_code, call_code, jump_code, push_row, high_row, through_row}
use Rattle.block_encoder.specs.PushedCalls.Pushes.{push_of, high_half_of}
use Rattle.block_encoder.specs.PushedCalls.Jumps.{raised, jump_of}
use Rattle.block_encoder.specs.PushedCalls.Items.{item_of}
use Rattle.block_encoder.specs.PushedCalls.Slots.{slot_after}

-- the rows of the codes
pub record PushedCodeFacts : Type 0 where
  pub push : (size : Bits) → slice_get table (push_code size) ≡ Some (push_row size)
  pub high : slice_get table MOV_RM32_IMM32 ≡ Some high_row
  pub call : (size : Bits) → slice_get table (call_code size) ≡ Some (through_row 2 size)
  pub jump : (size : Bits) → slice_get table (jump_code size) ≡ Some (through_row 4 size)

-- how many bytes of a return address the immediate of PUSH has
abbrev pub pushed_bytes : Bits → ℕ
pushed_bytes B16 = 2
pushed_bytes _ = 4

-- the instructions that push a return address
pub record PushFacts : Type 0 where
  -- their bytes at every address: 68 and the low bytes of the return address; C7 44 24 04, which is MOV to [RSP+4], and its high bytes
  pub push-encoded : (bits : Bits) (ip back : ℕ) → back < 2 ^ width bits → encoding bits ip (push_of bits back) ≡ Ok (0x68 ∷ low_bytes (pushed_bytes bits) back)
  pub high-encoded : (ip back : ℕ) → back < 2 ^ 64
      → encoding B64 ip (high_half_of back) ≡ Ok (0xC7 ∷ 0x44 ∷ 0x24 ∷ 0x04 ∷ low_bytes 4 (back / 2 ^ 32))
  -- how many bytes these are
  pub push-length : (bits : Bits) (back : ℕ) → plain_length bits (push_of bits back) ≡ 1 + pushed_bytes bits
  pub high-length : (back : ℕ) → plain_length B64 (high_half_of back) ≡ 8
  -- they are no branches
  pub push-no_branch : (bits : Bits) (back : ℕ) → branch_of (push_of bits back) ≡ None
  pub high-no_branch : (back : ℕ) → branch_of (high_half_of back) ≡ None
  -- they are well placed wherever they stand
  pub push-placed : (bits : Bits) (ip back : ℕ) → back < 2 ^ width bits → IsPlaced bits (item_of bits ip (push_of bits back))
  pub high-placed : (ip back : ℕ) → back < 2 ^ 64 → IsPlaced B64 (item_of B64 ip (high_half_of back))
  -- the top of the stack then has the return address, the lowest byte first
  pub slot-is : (bits : Bits) (back : ℕ) → back < 2 ^ width bits → slot_after bits back ≡ low_bytes (size_bytes bits) back

-- two operands are near targets or addresses at RIP or EIP alike, with one value
pub record HasSameTarget (a b : Operand) : Type 0 where
  pub near : near_value a ≡ near_value b
  pub ip : ip_value a ≡ ip_value b

-- An address at the stack pointer raised: with the pointer behind the push it is the address that the CALL names with the pointer before, which is so many
-- bytes above. Without an index it lies above the pushed bytes.
pub record IsRaised (bits asize : Bits) (m n : Mem) : Type 0 where
  pub base : n.base ≡ m.base
  pub index : n.index ≡ m.index
  pub scale : n.scale ≡ m.scale
  pub address : (pointer : ℕ) → modulo_width asize (pointer + n.disp) ≡ modulo_width asize (pointer + size_bytes bits + m.disp)
  pub above : m.index ≡ None → size_bytes bits ≤ n.disp

-- the jump
pub record JumpedFacts : Type 0 where
  -- it goes to the target of the CALL, or to the address at RIP or EIP
  pub same-target : (bits : Bits) (i j : Instr) → jump_of bits i ≡ Some j → HasSameTarget (operand_at j 0) (operand_at i 0)
  -- and through the memory that the CALL names by the stack pointer
  pub raised-is : (bits asize : Bits) (m n : Mem) → raised bits asize m ≡ Some (Memory n) → IsRaised bits asize m n
