use Rattle.std.proofs.Common.{◌≡◌, List, Some, None, ap, sym, ◌∙◌}
use Rattle.intel_words.specs.declared.words.OperandText.{OperandText}
use Rattle.intel_words.specs.Scanning.{rest, rest_behind}
use Rattle.intel_words.specs.ReadWords.{operands_in}
use Rattle.intel_words.proofs.WholeText.{behind_prefixes, text-read, same-words}
use Rattle.intel_words.proofs.reading.read_words_into.Goals as goal

none-is-some : (x : List OperandText) → None ≡ Some x → ⊥
none-is-some x e = cc

same-value : (x y : List OperandText) → Some x ≡ Some y → x ≡ y
same-value x y e = cc

pub returns-in-None : goal.returns-in-None
returns-in-None c = record {
  printed = λ bits row name instr h e.
      let read = text-read bits row name instr c.args.text.now h e in
      let at : c.rest.result.now ≡ rest (rest_behind (behind_prefixes c.args.text.now)) = c.rest.ensures ∙ ap rest c.read_prefixes-prefixes.ensures.behind in
      none-is-some _ (sym c.in-None.ensures ∙ (ap operands_in at ∙ read.ops));
}

pub returns-in-Some : goal.returns-in-Some
returns-in-Some c = record {
  printed = λ bits row name instr h e.
      let read = text-read bits row name instr c.args.text.now h e in
      let at : c.rest.result.now ≡ rest (rest_behind (behind_prefixes c.args.text.now)) = c.rest.ensures ∙ ap rest c.read_prefixes-prefixes.ensures.behind in (
        c.read_prefixes-prefixes.ensures.name ∙ read.named,
        same-words bits row name instr c.read_prefixes-prefixes.result.lock c.read_prefixes-prefixes.result.rep c.read_prefixes-prefixes.result.seg
            c.read_prefixes-prefixes.result.asize c.read_prefixes-prefixes.result.osize c.operands_into.new.ops
            (c.read_prefixes-prefixes.ensures.lock ∙ read.lock) (c.read_prefixes-prefixes.ensures.rep ∙ read.rep) (c.read_prefixes-prefixes.ensures.seg ∙ read.seg)
            (c.read_prefixes-prefixes.ensures.asize ∙ read.asize) (c.read_prefixes-prefixes.ensures.osize ∙ read.osize)
            (same-value _ _ (sym c.in-Some.ensures ∙ (ap operands_in at ∙ read.ops))),
      );
}
