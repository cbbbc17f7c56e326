-- What is spelled meets the conditions, and the length of an encoding.
use Rattle.std.proofs.Common.{◌≡◌, ℕ, ◌≤◌, List, length, Option, Some, None, Ok, slice_get, refl, ap, sym, ◌∙◌, arith}
use Rattle.x86_values.specs.declared.Bits.{Bits}
use Rattle.x86_values.specs.declared.Instr.{Instr}
use Rattle.x86_values.specs.Wrapping.{modulo_width}
use Rattle.instruction_parts.specs.declared.row_types.Row.{Row}
use Rattle.instruction_parts.specs.declared.spelling.Spelling.{Spelling}
use Rattle.instruction_parts.specs.Bytes.{bytes_of}
use Rattle.row_fit.proofs.FitLaws.{all_conditions}
use Rattle.row_fit.proofs.SoundLaws.{sound_conditions}
use Rattle.row_relation.specs.Spells.{IsSpelledBy}
use Rattle.plain_spelling.specs.declared.NoSpelling.{NoSpelling}
use Rattle.plain_spelling.specs.PlainTail.{plain_spelling, plain_len}
use Rattle.plain_spelling.specs.Expressible.{Suits, failure_of}
use Rattle.plain_spelling.proofs.Failures.{failure-suits}
use Rattle.row_relation.proofs.FitLengths.{plain_long}
use Rattle.row_relation.specs.GivenSpelling.{Given}
use Rattle.row_relation.proofs.NeedWhole.{NeedsHold, needs_hold}
use Rattle.row_relation.proofs.PlainLaws.Exact.{writable_row}
use Rattle.opcode_rows.specs.Table.{table}
use Rattle.encoder.specs.Encoding.{encoding, encoded_by, plain_bytes}
use Rattle.encoder.specs.Facts.{SuitsElsewhere}
use Rattle.encoder.proofs.OverTable.{written_table}
use Rattle.encoder.proofs.Suited.{suits-encoded}

-- ---- what is spelled

-- the row is sound and has plain spellings, and the spelling fits and means the instruction
given : (bits : Bits) (ip : ℕ) (bytes : List ℕ) (i : Instr) (row : Row) (s : Spelling) → slice_get table i.code.0 ≡ Some row → IsSpelledBy bits ip bytes i row s → Given bits ip i.code row s i
given bits ip bytes i row s at e =
    let a = all_conditions bits row s e.fitting in
    record {
      is_sound = sound_conditions row (written_table.is_sound i.code.0 row at);
      is_writable = writable_row bits row (written_table.is_writable i.code.0 row at) a.mode;
      fitting = a;
      means = e.means;
    }

needs : (bits : Bits) (ip : ℕ) (bytes : List ℕ) (i : Instr) (row : Row) (s : Spelling) → slice_get table i.code.0 ≡ Some row → IsSpelledBy bits ip bytes i row s → NeedsHold bits ip row s i
needs bits ip bytes i row s at e = needs_hold bits ip i.code row s i (given bits ip bytes i row s at e)

-- **every condition but the reach of targets holds of it**
pub spelled-suits : (bits : Bits) (ip : ℕ) (bytes : List ℕ) (i : Instr) (row : Row) (s : Spelling) → slice_get table i.code.0 ≡ Some row → IsSpelledBy bits ip bytes i row s → SuitsElsewhere bits row i
spelled-suits bits ip bytes i row s at e =
    let n = needs bits ip bytes i row s at e in
    record {
      exists = n.exists;
      kinds = n.kinds;
      registers = n.registers;
      addresses = n.addresses;
      displacements = n.displacements;
      immediates = n.immediates;
      prefixes = n.prefixes;
      address_size = n.address_size;
    }

-- **its plain spelling is not longer**
pub spelled-least : (bits : Bits) (ip : ℕ) (bytes : List ℕ) (i : Instr) (row : Row) (s : Spelling) → slice_get table i.code.0 ≡ Some row → IsSpelledBy bits ip bytes i row s → plain_len bits row i ≤ length bytes
spelled-least bits ip bytes i row s at e = omega (arith, (needs bits ip bytes i row s at e).least, ap length e.bytes_are)

all_suit : (bits : Bits) (ip : ℕ) (row : Row) (s : Spelling) (i : Instr) → NeedsHold bits ip row s i → plain_len bits row i ≡ length (bytes_of row s) → Suits bits ip row i
all_suit bits ip row s i n same = record {
  exists = n.exists;
  kinds = n.kinds;
  registers = n.registers;
  addresses = n.addresses;
  displacements = n.displacements;
  immediates = n.immediates;
  targets = n.targets same;
  prefixes = n.prefixes;
  address_size = n.address_size;
}

-- **what as many bytes as those of the plain spelling spell has that as its encoding**
pub spelled-encoded : (bits : Bits) (ip : ℕ) (bytes : List ℕ) (i : Instr) (row : Row) (s : Spelling) → slice_get table i.code.0 ≡ Some row
    → IsSpelledBy bits (modulo_width bits ip) bytes i row s → plain_len bits row i ≡ length bytes → length bytes ≤ 15
    → encoding bits ip i ≡ Ok (bytes_of row (plain_spelling bits (modulo_width bits ip) row i))
spelled-encoded bits ip bytes i row s at e same short =
    let n = needs bits (modulo_width bits ip) bytes i row s at e in
    suits-encoded bits ip row i at (all_suit bits (modulo_width bits ip) row s i n (same ∙ sym (ap length e.bytes_are))) (omega (arith, same, short))

-- ---- an encoding

no_failure : (why : Option NoSpelling) (plain bytes : List ℕ) → encoded_by why plain ≡ Ok bytes → (why ≡ None) × (plain ≡ bytes)
no_failure None plain bytes h = (refl, cc)
no_failure (Some x) plain bytes h = cc

by_row : (bits : Bits) (ip : ℕ) (i : Instr) (row : Option Row) (bytes : List ℕ) → slice_get table i.code.0 ≡ row → failure_of bits ip row i ≡ None
    → plain_bytes bits ip row i ≡ bytes → (r : Row) × (slice_get table i.code.0 ≡ Some r) × (length bytes ≡ plain_len bits r i)
by_row bits ip i None bytes at h e = cc
by_row bits ip i (Some row) bytes at h e =
    (row, at, sym (ap length e) ∙ plain_long bits ip row i (failure-suits bits ip row i h).0.kinds)

-- **an encoding has the length of the plain spelling**
pub encoding-row : (bits : Bits) (ip : ℕ) (i : Instr) (bytes : List ℕ) → encoding bits ip i ≡ Ok bytes
    → (row : Row) × (slice_get table i.code.0 ≡ Some row) × (length bytes ≡ plain_len bits row i)
unfolding encoding
encoding-row bits ip i bytes h =
    let row = slice_get table i.code.0 in
    let k = no_failure (failure_of bits (modulo_width bits ip) row i) (plain_bytes bits (modulo_width bits ip) row i) bytes h in
    by_row bits (modulo_width bits ip) i row bytes refl k.0 k.1
