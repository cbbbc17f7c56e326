-- What an encoding is, by the conditions in turn.
use Rattle.std.proofs.Common.{◌≡◌, ℕ, ◌≤◌, ◌<◌, true, false, List, length, Option, Some, None, Result, Ok, Err, refl, ap, sym, ◌∙◌, subst, arith, nat_le, slice_get, IsErr, IfOk, ◌++◌}
use Rattle.std.proofs.lemmas.Bool.{le-leb, lt-leb}
use Rattle.x86_values.specs.declared.Bits.{Bits}
use Rattle.x86_values.specs.declared.Instr.{Instr}
use Rattle.x86_values.specs.Wrapping.{modulo_width}
use Rattle.instruction_parts.specs.declared.row_types.Row.{Row}
use Rattle.arrayvec.specs.ArrayVec.{ArrayVec}
use Rattle.instruction_parts.specs.Sizes.{exists_in}
use Rattle.instruction_parts.specs.Bytes.{bytes_of}
use Rattle.row_relation.specs.Spells.{SpellsUnbounded, ReadsAs}
use Rattle.plain_spelling.specs.declared.NoSpelling.{NoSpelling}
use Rattle.plain_spelling.specs.declared.NoSpelling.TheVariants as cause
use Rattle.plain_spelling.specs.PlainTail.{plain_spelling, plain_len}
use Rattle.plain_spelling.specs.Expressible.{failure, failure_of, first_failed_condition}
use Rattle.row_relation.specs.PlainLaws.Plain.{IsPlainlySpelled}
use Rattle.row_relation.proofs.PlainLaws.Exact.{plain_from}
use Rattle.row_relation.proofs.PlainLaws.ReadBack.{plain_reads}
use Rattle.opcode_rows.specs.Table.{table}
use Rattle.encoder.specs.Encoding.{encoding, encoded_by, plain_bytes, answer_bytes}
use Rattle.encoder.proofs.OverTable.{written_table, none_fails, shortest}

-- ---- the row

-- a code without a row fails condition 1
pub without_row : (bits : Bits) (ip : ℕ) (i : Instr) → slice_get table i.code.0 ≡ None → Err cause.Row ≡ encoding bits ip i
unfolding encoding
without_row bits ip i at = rw at refl

-- the encoding of a code with a row is that by the row
pub by_row : (bits : Bits) (ip : ℕ) (row : Row) (i : Instr) → slice_get table i.code.0 ≡ Some row → encoded_by (failure bits (modulo_width bits ip) row i) (bytes_of row (plain_spelling bits (modulo_width bits ip) row i)) ≡ encoding bits ip i
unfolding encoding
by_row bits ip row i at = rw at refl

-- a row that the mode does not have fails condition 1
pub row_fails : (bits : Bits) (ip : ℕ) (row : Row) (i : Instr) → exists_in bits row ≡ false → failure bits ip row i ≡ Some cause.Row
unfolding failure
row_fails bits ip row i h = rw h refl

-- the encoding by the row, at an address that is already one of the mode
pub by_row_at : (bits : Bits) (ip at : ℕ) (row : Row) (i : Instr) → slice_get table i.code.0 ≡ Some row → at ≡ modulo_width bits ip → encoded_by (failure bits at row i) (bytes_of row (plain_spelling bits at row i)) ≡ encoding bits ip i
by_row_at bits ip at row i there is =
    ap (λ (a : ℕ). encoded_by (failure bits a row i) (bytes_of row (plain_spelling bits a row i))) is ∙ by_row bits ip row i there

-- an instruction of a row that does not exist in the mode has no encoding
pub without_mode : (bits : Bits) (ip : ℕ) (row : Row) (i : Instr) → slice_get table i.code.0 ≡ Some row → exists_in bits row ≡ false → Err cause.Row ≡ encoding bits ip i
without_mode bits ip row i there none =
    ap (λ why. encoded_by why (bytes_of row (plain_spelling bits (modulo_width bits ip) row i))) (sym (row_fails bits (modulo_width bits ip) row i none))
    ∙ by_row bits ip row i there

-- ---- the other conditions

-- the first failing one of the conditions 2 to 9 is the cause
pub tail_fails : (bits : Bits) (ip : ℕ) (row : Row) (i : Instr) (why : NoSpelling) → exists_in bits row ≡ true → first_failed_condition bits ip row i ≡ Some why → failure bits ip row i ≡ Some why
unfolding failure
tail_fails bits ip row i why there h = rw (there, h) refl

-- more than 15 bytes fail condition 10
pub length_fails : (bits : Bits) (ip : ℕ) (row : Row) (i : Instr) → exists_in bits row ≡ true → first_failed_condition bits ip row i ≡ None → 15 < plain_len bits row i → failure bits ip row i ≡ Some cause.Length
unfolding failure
length_fails bits ip row i there h long = rw (there, h, lt-leb (plain_len bits row i) 15 long) refl

-- without a failing condition there is no cause
pub nothing_fails : (bits : Bits) (ip : ℕ) (row : Row) (i : Instr) → exists_in bits row ≡ true → first_failed_condition bits ip row i ≡ None → plain_len bits row i ≤ 15 → failure bits ip row i ≡ None
unfolding failure
nothing_fails bits ip row i there h short = rw (there, h, le-leb (plain_len bits row i) 15 short) refl

-- ---- what an answer says

-- bytes come only where no condition fails, and are the plain ones
no_failure : (why : Option NoSpelling) (plain bytes : List ℕ) → Ok bytes ≡ encoded_by why plain → (why ≡ None) × (bytes ≡ plain)
no_failure None plain bytes h = (refl, cc)
no_failure (Some x) plain bytes h = cc

-- a refusal comes only where one fails
some_failure : (why : Option NoSpelling) (plain : List ℕ) (x : NoSpelling) → Err x ≡ encoded_by why plain → why ≡ None → true ≡ false
some_failure None plain x h e = cc
some_failure (Some y) plain x h e = cc

plain_of : (bits : Bits) (ip : ℕ) (i : Instr) (row : Option Row) (bytes : List ℕ) → slice_get table i.code.0 ≡ row → length i.ops ≡ 4 → failure_of bits ip row i ≡ None → bytes ≡ plain_bytes bits ip row i → IsPlainlySpelled table bits ip bytes i
plain_of bits ip i None bytes at four h e = cc
plain_of bits ip i (Some row) bytes at four h e =
    subst (λ (b : List ℕ). IsPlainlySpelled table bits ip b i) (sym e) (plain_from table bits ip row i written_table at four h)

encoding_is : (bits : Bits) (ip : ℕ) (i : Instr) → encoding bits ip i ≡ encoded_by (failure_of bits (modulo_width bits ip) (slice_get table i.code.0) i) (plain_bytes bits (modulo_width bits ip) (slice_get table i.code.0) i)
unfolding encoding
encoding_is bits ip i = refl

-- the bytes of an encoding are the plain spelling
pub plain_bytes_are : (bits : Bits) (ip : ℕ) (i : Instr) (bytes : List ℕ) → length i.ops ≡ 4 → Ok bytes ≡ encoding bits ip i → IsPlainlySpelled table bits (modulo_width bits ip) bytes i
plain_bytes_are bits ip i bytes four h =
    let row = slice_get table i.code.0 in
    let k = no_failure (failure_of bits (modulo_width bits ip) row i) (plain_bytes bits (modulo_width bits ip) row i) bytes (h ∙ encoding_is bits ip i) in
    plain_of bits (modulo_width bits ip) i row bytes refl four k.0 k.1

-- **bytes that are an encoding are plainly spelled**
pub plain_ok : (bits : Bits) (ip : ℕ) (i : Instr) (r : Result (ArrayVec ℕ) NoSpelling) → length i.ops ≡ 4 → answer_bytes r ≡ encoding bits ip i → IfOk r (λ bytes. IsPlainlySpelled table bits (modulo_width bits ip) bytes.items i)
plain_ok bits ip i (Ok bytes) four h = plain_bytes_are bits ip i bytes.items four h
plain_ok bits ip i (Err why) four h = tt

-- **where an encoding is refused there is no plain spelling**
pub plain_err : (bits : Bits) (ip : ℕ) (i : Instr) (r : Result (ArrayVec ℕ) NoSpelling) → answer_bytes r ≡ encoding bits ip i → IsErr r → (bytes : List ℕ) → IsPlainlySpelled table bits (modulo_width bits ip) bytes i → ⊥
plain_err bits ip i (Ok b) h e bytes p = absurd (let k : false ≡ true = e in cc)
plain_err bits ip i (Err why) h e bytes p =
    let row = slice_get table i.code.0 in
    let k = some_failure (failure_of bits (modulo_width bits ip) row i) (plain_bytes bits (modulo_width bits ip) row i) why (h ∙ encoding_is bits ip i) (none_fails bits (modulo_width bits ip) bytes i row refl p) in
    absurd (let z : true ≡ false = k in cc)

-- **an encoding is read back**
pub read_ok : (bits : Bits) (ip : ℕ) (i : Instr) (r : Result (ArrayVec ℕ) NoSpelling) → length i.ops ≡ 4 → answer_bytes r ≡ encoding bits ip i → IfOk r (λ bytes. (rest : List ℕ) → ReadsAs table bits (modulo_width bits ip) (bytes.items ++ rest) i (length bytes.items))
read_ok bits ip i (Ok bytes) four h = λ rest. plain_reads table bits (modulo_width bits ip) bytes.items rest i (plain_bytes_are bits ip i bytes.items four h)
read_ok bits ip i (Err why) four h = tt

-- **an encoding is the shortest spelling**
pub shortest_ok : (bits : Bits) (ip : ℕ) (i : Instr) (r : Result (ArrayVec ℕ) NoSpelling) → length i.ops ≡ 4 → answer_bytes r ≡ encoding bits ip i → IfOk r (λ bytes. (others : List ℕ) → SpellsUnbounded table bits (modulo_width bits ip) others i → length bytes.items ≤ length others)
shortest_ok bits ip i (Ok bytes) four h = λ others s. shortest bits (modulo_width bits ip) bytes.items others i (plain_bytes_are bits ip i bytes.items four h) s
shortest_ok bits ip i (Err why) four h = tt
