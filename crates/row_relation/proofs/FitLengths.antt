-- How many bytes the plain spelling has, whatever it means.
use Rattle.std.proofs.Common.{◌≡◌, ℕ, ◌+◌, Bool, true, false, ◌++◌, length, Option, Some, None, refl, arith, length-append, is_some}
use Rattle.row_relation.proofs.FitFrontCounts.{segment_count, byte_count, repeat_count, rex_count}
use Rattle.x86_values.specs.declared.Bits.{Bits}
use Rattle.x86_values.specs.declared.Segment.{Segment}
use Rattle.x86_values.specs.declared.Rep.{Rep}
use Rattle.x86_values.specs.declared.Rep.TheVariants.{None as NoRep, F2 as RepF2, F3 as RepF3}
use Rattle.x86_values.specs.declared.Instr.{Instr}
use Rattle.instruction_parts.specs.declared.row_types.Row.{Row}
use Rattle.instruction_parts.specs.declared.spelling.PrefixState.{PrefixState}
use Rattle.instruction_parts.specs.Bytes.{bit, bytes_of, lead_bytes}
use Rattle.plain_spelling.specs.PlainFront.{count_repeat, asked_used, plain_front_of}
use Rattle.plain_spelling.specs.PlainTail.{byte_if, segment_prefix, repeat_prefix, rex_prefix, prefixes_of, address_operand, plain_len, plain_next, plain_spelling}
use Rattle.plain_spelling.specs.Expressible.{each_operand, kind_suits}
use Rattle.row_relation.proofs.FitParts.{plain_length}
use Rattle.row_relation.proofs.FitImmediates.{immediates-length}
use Rattle.row_relation.proofs.FitAddressBytes.{displacement_length}

-- the prefixes of a front, counted
prefix_count : (f : PrefixState) → length (prefixes_of f) ≡ bit (is_some f.seg) + (bit f.size66 + (bit f.addr67 + (bit f.lock + (count_repeat f.rep + bit (is_some f.rex)))))
unfolding prefixes_of
prefix_count f =
    simp length-append (rw (segment_count f.seg, byte_count f.size66 0x66, byte_count f.addr67 0x67, byte_count f.lock 0xF0, repeat_count f.rep, rex_count f.rex) refl)

-- the plain front has as many bytes as its parts ask for
pub used_is : (bits : Bits) (row : Row) (i : Instr) → (plain_front_of bits row i).used ≡ length (prefixes_of (plain_front_of bits row i) ++ lead_bytes row.map (plain_front_of bits row i).vex)
unfolding plain_front_of asked_used
used_is bits row i =
    let n = prefix_count (plain_front_of bits row i) in
    simp length-append (omega (arith, n))

-- **the plain spelling is as long as its parts say**
pub plain_long : (bits : Bits) (ip : ℕ) (row : Row) (i : Instr) → each_operand (kind_suits row i) ≡ true → length (bytes_of row (plain_spelling bits ip row i)) ≡ plain_len bits row i
plain_long bits ip row i kinds = plain_length bits ip row i (record {
  used = used_is bits row i;
  disp = displacement_length (plain_next bits ip row i) (address_operand row i);
  imm = immediates-length bits row i (plain_next bits ip row i) kinds;
})
