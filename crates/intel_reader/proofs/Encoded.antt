-- The bytes of a candidate are the encoding of its instruction.
use Rattle.std.proofs.Common.{◌≡◌, ◌↔◌, ℕ, List, length, Option, None, Ok, ap, ◌∙◌, slice_get}
use Rattle.x86_values.specs.declared.Bits.{Bits}
use Rattle.x86_values.specs.declared.Instr.{Instr}
use Rattle.x86_values.specs.Wrapping.{modulo_width}
use Rattle.plain_spelling.specs.declared.NoSpelling.{NoSpelling}
use Rattle.plain_spelling.specs.Expressible.{failure_of}
use Rattle.row_relation.specs.PlainLaws.Plain.{IsPlainlySpelled}
use Rattle.opcode_rows.specs.Table.{table}
use Rattle.encoder.specs.Encoding.{encoding, encoded_by, plain_bytes}
use Rattle.encoder.specs.Facts.{EncodingFacts}

-- that an instruction has a plain spelling exactly if it meets the conditions
abbrev pub AreExact : Type 0
AreExact = (bits : Bits) (ip : ℕ) (i : Instr) → length i.ops ≡ 4
    → (failure_of bits ip (slice_get table i.code.0) i ≡ None) ↔ ((bytes : List ℕ) × IsPlainlySpelled table bits ip bytes i)

-- and that it has one at most
abbrev pub IsOne : Type 0
IsOne = (bits : Bits) (ip : ℕ) (bytes others : List ℕ) (i : Instr)
    → IsPlainlySpelled table bits ip bytes i → IsPlainlySpelled table bits ip others i → bytes ≡ others

-- what meets the conditions is encoded by its plain bytes
met : (bits : Bits) (ip : ℕ) (i : Instr) → failure_of bits (modulo_width bits ip) (slice_get table i.code.0) i ≡ None
    → encoding bits ip i ≡ Ok (plain_bytes bits (modulo_width bits ip) (slice_get table i.code.0) i)
unfolding encoding
met bits ip i e = ap (λ (why : Option NoSpelling). encoded_by why (plain_bytes bits (modulo_width bits ip) (slice_get table i.code.0) i)) e

-- what is plainly spelled has its bytes as its encoding
pub plain_encoded : EncodingFacts → AreExact → IsOne → (bits : Bits) (ip : ℕ) (bytes : List ℕ) (i : Instr) → length i.ops ≡ 4
    → IsPlainlySpelled table bits (modulo_width bits ip) bytes i → encoding bits ip i ≡ Ok bytes
plain_encoded facts exact one bits ip bytes i four h =
    let own : List ℕ = plain_bytes bits (modulo_width bits ip) (slice_get table i.code.0) i in
    let is : encoding bits ip i ≡ Ok own = met bits ip i ((exact bits (modulo_width bits ip) i four).1 (bytes, h)) in
    is ∙ ap Ok (one bits (modulo_width bits ip) own bytes i (facts.encoded-plain bits ip i own four is) h)
