-- What any fitting spelling means meets the conditions, and the plain spelling is at most as long.
use Rattle.std.proofs.Common.{◌≡◌, ℕ, ◌≤◌, true, length}
use Rattle.x86_values.specs.declared.Bits.{Bits}
use Rattle.x86_values.specs.declared.Code.{Code}
use Rattle.x86_values.specs.declared.Instr.{Instr}
use Rattle.instruction_parts.specs.declared.row_types.Row.{Row}
use Rattle.instruction_parts.specs.declared.spelling.Spelling.{Spelling}
use Rattle.instruction_parts.specs.Bytes.{bytes_of}
use Rattle.row_fit.specs.Fits.{immediates_bytes}
use Rattle.plain_spelling.specs.PlainTail.{plain_len, plain_size}
use Rattle.plain_spelling.specs.Expressible.{each_operand, row_exists, kind_suits, register_suits, address_suits, displacement_offered, immediate_suits, target_suits, prefixes_suit, address_size_suits}
use Rattle.row_relation.specs.GivenSpelling.{Given}
use Rattle.row_relation.proofs.NeedUsed.{used_fits}
use Rattle.row_relation.proofs.NeedVariants.{kinds_suit}
use Rattle.row_relation.proofs.NeedSuiting.{registers_suit, prefixes_suited, row_stands}
use Rattle.row_relation.proofs.NeedAddresses.{addresses_suit, displacements_suit, address_size_suit}
use Rattle.row_relation.proofs.NeedAddressLengths.{displacement_within, sib_within, modrm_alike}
use Rattle.row_relation.proofs.NeedImmediates.{immediates-len, immediates-suit}
use Rattle.row_relation.proofs.NeedTargets.{targets-suit}
use Rattle.row_relation.proofs.NeedLengths.{parts_least}

-- the conditions that hold of what a spelling means: all but the reach of targets, which holds too where the plain spelling is as long,
-- and the length
pub record NeedsHold (bits : Bits) (ip : ℕ) (row : Row) (s : Spelling) (i : Instr) : Type 0 where
  pub exists : row_exists bits row ≡ true
  pub kinds : each_operand (kind_suits row i) ≡ true
  pub registers : each_operand (register_suits bits row i) ≡ true
  pub addresses : each_operand (address_suits bits row i) ≡ true
  pub displacements : each_operand (displacement_offered bits row i) ≡ true
  pub immediates : each_operand (immediate_suits bits row i) ≡ true
  pub prefixes : prefixes_suit row i ≡ true
  pub address_size : address_size_suits bits row i ≡ true
  pub targets : plain_len bits row i ≡ length (bytes_of row s) → each_operand (target_suits bits ip row i) ≡ true
  pub least : plain_len bits row i ≤ length (bytes_of row s)

immediates_len : (bits : Bits) (ip : ℕ) (code : Code) (row : Row) (s : Spelling) (i : Instr) → Given bits ip code row s i → immediates_bytes (plain_size bits row) row ≡ length s.imm.items
unfolding immediates_bytes
immediates_len bits ip code row s i g = immediates-len bits ip code row s i g

-- **what a fitting spelling means meets the conditions, and the plain spelling is at most as long**
pub needs_hold : (bits : Bits) (ip : ℕ) (code : Code) (row : Row) (s : Spelling) (i : Instr) → Given bits ip code row s i → NeedsHold bits ip row s i
needs_hold bits ip code row s i g = record {
  exists = row_stands bits ip code row s i g;
  kinds = kinds_suit bits ip code row s i g;
  registers = registers_suit bits ip code row s i g;
  addresses = addresses_suit bits ip code row s i g;
  displacements = displacements_suit bits ip code row s i g;
  immediates = immediates-suit bits ip code row s i g;
  prefixes = prefixes_suited bits ip code row s i g;
  address_size = address_size_suit bits ip code row s i g;
  targets = λ same. targets-suit bits ip code row s i g same;
  least = parts_least bits row s i (record {
    front = used_fits bits ip code row s i g;
    modrm = modrm_alike bits ip code row s i g;
    sib = λ stands. sib_within bits ip code row s i g stands;
    disp = displacement_within bits ip code row s i g;
    imm = immediates_len bits ip code row s i g;
  });
}
