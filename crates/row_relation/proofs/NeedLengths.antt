-- The plain spelling is at most as long as any other that means the same.
use Rattle.std.proofs.Common.{◌≡◌, ◌≤◌, Bool, true, false, length, refl, arith, is_some}
use Rattle.x86_values.specs.declared.Bits.{Bits}
use Rattle.x86_values.specs.declared.Instr.{Instr}
use Rattle.instruction_parts.specs.declared.row_types.Row.{Row}
use Rattle.instruction_parts.specs.declared.spelling.Spelling.{Spelling}
use Rattle.instruction_parts.specs.Bytes.{bytes_of, front_bytes, modrm_bytes}
use Rattle.row_fit.specs.Fits.{immediates_bytes}
use Rattle.plain_spelling.specs.PlainFront.{plain_front_of}
use Rattle.plain_spelling.specs.PlainTail.{plain_modrm, plain_sib_of, operand_displacement, address_operand, plain_size, plain_len, byte_count}
use Rattle.row_relation.proofs.PartLengths.{modrm_count, sib_count, parts_length}

-- a flag that stands where another does counts at least as much
count_least : (a b : Bool) → (a ≡ true → b ≡ true) → byte_count a ≤ byte_count b
count_least false b h = omega arith
count_least true true h = omega arith
count_least true false h = absurd (let e = h refl in cc)

-- each part of the plain spelling stands in another one, and is at most as long there
pub record PartsNeeded (bits : Bits) (row : Row) (s : Spelling) (i : Instr) : Type 0 where
  pub front : (plain_front_of bits row i).used ≤ length (front_bytes row s)
  pub modrm : is_some (plain_modrm bits row i) ≡ is_some s.modrm
  pub sib : is_some (plain_sib_of bits row i) ≡ true → is_some s.sib ≡ true
  pub disp : operand_displacement (address_operand row i) ≤ length s.disp.items
  pub imm : immediates_bytes (plain_size bits row) row ≡ length s.imm.items

-- **a spelling in which each part of the plain one stands, is at least as long**
pub parts_least : (bits : Bits) (row : Row) (s : Spelling) (i : Instr) → PartsNeeded bits row s i → plain_len bits row i ≤ length (bytes_of row s)
unfolding plain_len immediates_bytes
parts_least bits row s i p =
    let l = parts_length row s in
    let a : byte_count (is_some (plain_modrm bits row i)) ≡ length (modrm_bytes s.modrm) = rw p.modrm (rw modrm_count refl) in
    let b = count_least (is_some (plain_sib_of bits row i)) (is_some s.sib) p.sib in
    let c = sib_count s.sib in
    omega (arith, l, a, b, c, p.front, p.disp, p.imm)
