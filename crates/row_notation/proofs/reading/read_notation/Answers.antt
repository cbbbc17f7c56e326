-- What the reader answers is right for the language of all texts, which are the notations of proper shapes.
use Rattle.std.proofs.Common.{◌≡◌, ℕ, ◌-◌, ◌≤◌, List, length, Ok, Err, sym, ap, subst, arith}
use Rattle.row_notation.specs.Texts.{IsFaultAt}
use Rattle.row_notation.specs.Reading.{Answer, read_text}
use Rattle.row_notation.proofs.Languages.{IsRight, right-left}
use Rattle.row_notation.proofs.Grammar.{all_texts, right-text}
use Rattle.row_notation.proofs.Parts.{sound}
use Rattle.row_notation.proofs.OneText.{one-text}
use Rattle.row_notation.proofs.Faults.{fault}
use Rattle.row_notation.proofs.reading.read_notation.Goals as goal

right : (text : List ℕ) (a : Answer) → a ≡ read_text text → IsRight all_texts text a
right text a e = subst (λ x. IsRight all_texts text x) (sym e) (right-text text)

left-within : (text : List ℕ) (left : ℕ) → Err left ≡ read_text text → left ≤ length text
left-within text left e = right-left all_texts text left (right text (Err left) e)

fault-there : (text : List ℕ) (left : ℕ) → Err left ≡ read_text text → IsFaultAt text (length text - left)
fault-there text left e =
    let h : left ≤ length text = left-within text left e in
    fault text left (length text - left) (omega arith) (right text (Err left) e)

pub overflow_sub-result : goal.overflow_sub-result
overflow_sub-result c = left-within c.args.text.now c.in-Err.left c.in-Err.ensures

pub returns-in-Ok-clause-shape : goal.returns-in-Ok-clause-shape
returns-in-Ok-clause-shape c = sound c.args.text.now c.in-Ok.s (right c.args.text.now (Ok c.in-Ok.s) c.in-Ok.ensures)

pub returns-in-Ok-clause-only : goal.returns-in-Ok-clause-only
returns-in-Ok-clause-only c = λ s h.
    ap (λ x. Ok x) (one-text c.args.text.now c.in-Ok.s s (sound c.args.text.now c.in-Ok.s (right c.args.text.now (Ok c.in-Ok.s) c.in-Ok.ensures)) h)

pub returns-in-Err-clause-only : goal.returns-in-Err-clause-only
returns-in-Err-clause-only c = λ s h. absurd ((fault-there c.args.text.now c.in-Err.left c.in-Err.ensures).none s h)

pub returns-in-Err-clause-fault : goal.returns-in-Err-clause-fault
returns-in-Err-clause-fault c = fault-there c.args.text.now c.in-Err.left c.in-Err.ensures
