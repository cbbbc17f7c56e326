-- A plain front and a plain tail, whatever follows them, are read by the row as the instruction.
use Rattle.std.proofs.Common.{◌≡◌, ℕ, List, ◌∷◌, ◌++◌, length, refl, sym, append_assoc}
use Rattle.x86_values.specs.declared.Bits.{Bits}
use Rattle.x86_values.specs.declared.Instr.{Instr}
use Rattle.instruction_parts.specs.declared.row_types.Row.{Row}
use Rattle.instruction_parts.specs.Bytes.{bytes_of, front_bytes, tail_bytes}
use Rattle.row_fit.specs.Sound.{Sound}
use Rattle.row_relation.specs.RowReading.{RowReads}
use Rattle.plain_spelling.specs.PlainFront.{plain_front_of}
use Rattle.plain_spelling.specs.PlainTail.{plain_spelling, plain_tail}
use Rattle.plain_spelling.specs.Expressible.{Suits}
use Rattle.plain_spelling.specs.Writable.{Writable}
use Rattle.row_relation.specs.Given.{Given}
use Rattle.row_relation.proofs.FitWhole.{plain_fits, plain_means}
use Rattle.prefixes.specs.Written.{front_written}

-- the bytes before the opcode byte and behind it
pub bytes-parted : (bits : Bits) (ip : ℕ) (row : Row) (i : Instr)
    → bytes_of row (plain_spelling bits ip row i) ≡ front_written row (plain_front_of bits row i) ++ ((plain_tail bits ip row i).opcode ∷ tail_bytes (plain_tail bits ip row i))
unfolding bytes_of front_bytes tail_bytes front_written plain_spelling plain_tail
bytes-parted bits ip row i = refl

followed : (front tail rest : List ℕ) (o : ℕ) (whole : List ℕ) → whole ≡ front ++ (o ∷ tail) → front ++ (o ∷ (tail ++ rest)) ≡ whole ++ rest
followed front tail rest o whole e = rw e (sym (append_assoc front (o ∷ tail) rest))

-- the tail that is written for an instruction is read as that instruction
pub written_tail : (bits : Bits) (ip : ℕ) (row : Row) (i : Instr) (rest : List ℕ) → Sound row → Writable bits row → Suits bits ip row i → length i.ops ≡ 4
    → RowReads bits ip i.code row (front_written row (plain_front_of bits row i) ++ ((plain_tail bits ip row i).opcode ∷ (tail_bytes (plain_tail bits ip row i) ++ rest)))
    (record { instr = i; len = length (bytes_of row (plain_spelling bits ip row i)) })
written_tail bits ip row i rest sound writable suits four =
    let g : Given bits ip row i = record { is_sound = sound; is_writable = writable; suits = suits; four = four } in
    record {
      spelling = plain_spelling bits ip row i;
      rest = rest;
      bytes_are = followed (front_written row (plain_front_of bits row i)) (tail_bytes (plain_tail bits ip row i)) rest (plain_tail bits ip row i).opcode _ (bytes-parted bits ip row i);
      fitting = plain_fits bits ip row i g;
      means = plain_means bits ip row i g;
      length_is = refl;
    }
