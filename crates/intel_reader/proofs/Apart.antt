-- Instructions of one row, one text, one address size and one displacement size are one.
use Rattle.std.proofs.Common.{◌≡◌, ℕ, List, Option, Some, refl, ap, sym, ◌∙◌, slice_get}
use Rattle.std.specs.Prelude.{IsTrue}
use Rattle.x86_values.specs.declared.Bits.{Bits}
use Rattle.x86_values.specs.declared.DispSize.{DispSize}
use Rattle.x86_values.specs.declared.Code.{Code}
use Rattle.x86_values.specs.declared.Instr.{Instr}
use Rattle.x86_values.specs.Wrapping.{modulo_width}
use Rattle.instruction_parts.specs.declared.row_types.Row.{Row}
use Rattle.opcode_rows.specs.Table.{table, name_of}
use Rattle.text_parts.specs.declared.style.Style.TheVariants.{Intel}
use Rattle.text_parts.specs.Layout.{bracket_layout}
use Rattle.intel_words.specs.declared.words.IntelWords.{IntelWords}
use Rattle.intel_words.specs.Words.{words_of}
use Rattle.intel_words.specs.Printable.{is_printable}
use Rattle.intel_reader.specs.Assembled.{Assembly, IsCandidate}
use Rattle.intel_reader.specs.Candidate.{candidate, HasSize}
use Rattle.intel_reader.proofs.CandidateBack.{candidate_back}
use Rattle.intel_reader.proofs.PlainFacts.{plain_is_ready}
use Rattle.intel_reader.proofs.Choosing.{printed_facts, row_of_candidate}

-- instructions of one text have the same words
abbrev pub ShowsWords : Type 0
ShowsWords =
    (bits : Bits) (row other : Row) (name another : List ℕ) (i j : Instr) → IsTrue (is_printable bits row name i) → IsTrue (is_printable bits other another j)
    → bracket_layout Intel bits row name i ≡ bracket_layout Intel bits other another j → words_of bits row name i ≡ words_of bits other another j

back : (bits : Bits) (ip : ℕ) (text : List ℕ) (b : Assembly) (row : Row) (words : IntelWords) (size : DispSize) → IsCandidate bits ip text b → slice_get table b.instr.code.0 ≡ Some row → HasSize size b.instr
    → words ≡ words_of bits row (name_of b.instr.code.0) b.instr → candidate bits row b.instr.code words b.instr.asize size ≡ b.instr
back bits ip text b row words size k at sized w =
    let ready = plain_is_ready bits (modulo_width bits ip) b.bytes row b.instr k.spelled at in
    ap (λ (v : IntelWords). candidate bits row b.instr.code v b.instr.asize size) w
    ∙ candidate_back bits (modulo_width bits ip) row (name_of b.instr.code.0) b.instr size ready.given sized

-- **they are one**
pub are_one : ShowsWords → (bits : Bits) (ip : ℕ) (text : List ℕ) (a b : Assembly) (size : DispSize) → IsCandidate bits ip text a → IsCandidate bits ip text b
    → a.instr.code ≡ b.instr.code → a.instr.asize ≡ b.instr.asize → HasSize size a.instr → HasSize size b.instr → a.instr ≡ b.instr
are_one shows bits ip text a b size ka kb code asize sa sb =
    let r = row_of_candidate bits ip text a ka in
    let at_b : slice_get table b.instr.code.0 ≡ Some r.0 = ap (λ (c : Code). slice_get table c.0) (sym code) ∙ r.1 in
    let pa = printed_facts bits ip text a r.0 ka r.1 in
    let pb = printed_facts bits ip text b r.0 kb at_b in
    let words : IntelWords = words_of bits r.0 (name_of a.instr.code.0) a.instr in
    let w : words ≡ words_of bits r.0 (name_of b.instr.code.0) b.instr =
    shows bits r.0 r.0 (name_of a.instr.code.0) (name_of b.instr.code.0) a.instr b.instr pa.printable pb.printable (pa.layout ∙ sym pb.layout) in
    sym (back bits ip text a r.0 words size ka r.1 sa refl)
    ∙ ap (λ (c : Code). candidate bits r.0 c words a.instr.asize size) code
    ∙ ap (λ (z : Option Bits). candidate bits r.0 b.instr.code words z size) asize
    ∙ back bits ip text b r.0 words size kb at_b sb w
