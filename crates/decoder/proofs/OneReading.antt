-- Bytes begin with at most one instruction.
use Rattle.std.proofs.Common.{◌≡◌, ℕ, List, length, Some, Result, Ok, Err, IfOk, slice_get, refl, ap, sym, ◌∙◌}
use Rattle.x86_values.specs.declared.Bits.{Bits}
use Rattle.x86_values.specs.declared.Code.{Code}
use Rattle.x86_values.specs.declared.Instr.{Instr}
use Rattle.x86_values.specs.declared.Decoded.{Decoded}
use Rattle.x86_values.specs.Wrapping.{modulo_width}
use Rattle.instruction_parts.specs.declared.row_types.Row.{Row}
use Rattle.instruction_parts.specs.declared.spelling.Spelling.{Spelling}
use Rattle.instruction_parts.specs.Bytes.{bytes_of}
use Rattle.row_meaning.specs.Meaning.{meaning}
use Rattle.row_relation.specs.Spells.{Reading, Read, TooShort, Invalid, ReadsAs}
use Rattle.opcode_rows.specs.Table.{table}
use Rattle.opcode_rows.specs.Reading.{IsRead}
use Rattle.opcode_rows.proofs.UniqueSpelling.Unique.{unique}
use Rattle.decoder.specs.declared.DecodeError.{DecodeError}
use Rattle.decoder.specs.Answer.{reading_of, IsOnlyReading}
use Rattle.decoder.proofs.ReadingLaws.{at_front}

same_some : (row other : Row) → Some row ≡ Some other → row ≡ other
same_some row other h = cc

-- one instruction and one length
record SameReading (i k : Instr) (n m : ℕ) : Type 0 where
  instr : i ≡ k
  len : n ≡ m

-- **bytes begin with at most one instruction**
one_reading : (bits : Bits) (ip : ℕ) (bytes : List ℕ) (i k : Instr) (n m : ℕ) → ReadsAs table bits ip bytes i n → ReadsAs table bits ip bytes k m → SameReading i k n m
one_reading bits ip bytes i k n m ri rk =
    let a = at_front table bits ip bytes i n ri in
    let b = at_front table bits ip bytes k m rk in
    let same = unique bits i.code.0 k.code.0 a.row b.row a.spelling b.spelling a.rest b.rest a.there b.there a.fitting b.fitting (sym a.bytes_are ∙ b.bytes_are) in
    let row : a.row ≡ b.row = same_some a.row b.row (sym a.there ∙ ap (slice_get table) same.0 ∙ b.there) in
    let codes : i.code ≡ k.code = ap (λ (x : ℕ). code_of x) same.0 in
    record {
      instr = sym a.means ∙ ap (λ (c : Code). meaning bits ip c a.row a.spelling) codes
          ∙ ap (λ (r : Row). meaning bits ip k.code r a.spelling) row
          ∙ ap (meaning bits ip k.code b.row) same.1 ∙ b.means;
      len = sym a.length_is ∙ ap (λ (r : Row). length (bytes_of r a.spelling)) row
          ∙ ap (λ (s : Spelling). length (bytes_of b.row s)) same.1 ∙ b.length_is;
    }
  where
    code_of : ℕ → Code
    code_of x = record { 0 = x }

-- an answer that is a reading is the only one
pub only_reading : (bits : Bits) (ip : ℕ) (bytes : List ℕ) (answer : Result Decoded DecodeError) → IsRead bits ip bytes (reading_of answer) → IfOk answer (λ d. IsOnlyReading bits ip bytes d)
only_reading bits ip bytes (Ok d) h = λ i n r.
    let same = one_reading bits (modulo_width bits ip) bytes i d.instr n d.len r h in (same.instr, same.len)
only_reading bits ip bytes (Err e) h = tt

read_same : (d e : Decoded) → e.instr ≡ d.instr → e.len ≡ d.len → Read d ≡ Read e
read_same d e instr len =
    ap (λ (i : Instr). Read (record { instr = i; len = d.len })) (sym instr)
    ∙ ap (λ (n : ℕ). Read (record { instr = e.instr; len = n })) (sym len)

-- bytes are read in one way alone
pub reading_same : (bits : Bits) (ip : ℕ) (bytes : List ℕ) (reading other : Reading) → IsRead bits ip bytes reading → IsRead bits ip bytes other →
    reading ≡ other
reading_same bits ip bytes (Read d) (Read e) h k =
    let answer : Result Decoded DecodeError = Ok d in
    let same = only_reading bits ip bytes answer h e.instr e.len k in read_same d e same.0 same.1
reading_same bits ip bytes (Read d) TooShort h k = absurd (k.spells_nothing d.instr d.len h)
reading_same bits ip bytes (Read d) Invalid h k = absurd (k.spells_nothing d.instr d.len h)
reading_same bits ip bytes TooShort (Read e) h k = absurd (h.spells_nothing e.instr e.len k)
reading_same bits ip bytes TooShort TooShort h k = refl
reading_same bits ip bytes TooShort Invalid h k = absurd (k.ends_here h.is_short h.can_go_on)
reading_same bits ip bytes Invalid (Read e) h k = absurd (h.spells_nothing e.instr e.len k)
reading_same bits ip bytes Invalid TooShort h k = absurd (h.ends_here k.is_short k.can_go_on)
reading_same bits ip bytes Invalid Invalid h k = refl
