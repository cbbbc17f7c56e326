-- What meets the conditions has its plain spelling as its encoding.
use Rattle.std.proofs.Common.{◌≡◌, ℕ, ◌≤◌, Some, Ok, slice_get, refl, sym, ◌∙◌}
use Rattle.std.proofs.lemmas.Bool.{le-leb}
use Rattle.x86_values.specs.declared.Bits.{Bits}
use Rattle.x86_values.specs.declared.Instr.{Instr}
use Rattle.x86_values.specs.Wrapping.{modulo_width}
use Rattle.instruction_parts.specs.declared.row_types.Row.{Row}
use Rattle.instruction_parts.specs.Bytes.{bytes_of}
use Rattle.plain_spelling.specs.PlainTail.{plain_spelling, plain_len}
use Rattle.plain_spelling.specs.Expressible.{Suits}
use Rattle.plain_spelling.proofs.Failures.{suits-failure}
use Rattle.opcode_rows.specs.Table.{table}
use Rattle.encoder.specs.Encoding.{encoding}
use Rattle.encoder.proofs.Causes.{by_row}

-- an instruction that suits its row is encoded unless it is too long
pub suits-encoded : (bits : Bits) (ip : ℕ) (row : Row) (i : Instr) → slice_get table i.code.0 ≡ Some row → Suits bits (modulo_width bits ip) row i
    → plain_len bits row i ≤ 15 → encoding bits ip i ≡ Ok (bytes_of row (plain_spelling bits (modulo_width bits ip) row i))
suits-encoded bits ip row i at suits short =
    let holds = suits-failure bits (modulo_width bits ip) row i suits (le-leb (plain_len bits row i) 15 short) in
    sym (by_row bits ip row i at) ∙ rw holds refl
