use Rattle.std.proofs.Common.{◌≡◌, ◌||◌, false, ℕ, ap, sym, ◌∙◌}
use Rattle.std.specs.Prelude.{bytes_eq}
use Rattle.opcode_rows.specs.Table.{name_of}
use Rattle.text_parts.specs.PrefixWords.{is_counter_jump}
use Rattle.intel_reader.proofs.Choosing.{other_name}
use Rattle.intel_reader.proofs.choice.with_named.Goals as goal

pub returns-else-may_have-clause-covers : goal.returns-else-may_have-clause-covers
returns-else-may_have-clause-covers c = λ b k e.
    let test : (bytes_eq (name_of b.instr.code.0) c.args.word.now || is_counter_jump (name_of b.instr.code.0)) ≡ false =
    ap (λ (n : ℕ). bytes_eq (name_of n) c.args.word.now || is_counter_jump (name_of n)) e ∙ sym c.may_have.ensures ∙ c.if-may_have.false in
    absurd (other_name c.args.bits (name_of b.instr.code.0) c.args.word.now b.instr test (c.requires.named b k))
